use Rattle.std.proofs.Common.{◌≡◌, List, length, refl, sym, ap, subst, ◌∙◌, arith}
use Rattle.period_writer.specs.Runs.{Tally}
use Rattle.codec_graph.specs.declared.raw.RawCodec.{RawCodec}
use Rattle.route_planner.specs.declared.routes.Plan.{Plan}
use Rattle.driver_progress.specs.declared.jack.Jack.{Jack}
use Rattle.driver_bring_up.specs.Jacks.{Counts}
use Rattle.jack_rules.specs.Switching.{SwitchingState, switching_opened}
use Rattle.jack_switch.specs.JackDrivers.{IsAskedBy, IsSwitchingOf}
use Rattle.jack_switch.proofs.Kept.{opened_of, none_asked, none_given}
use Rattle.jack_switch.proofs.driver.JackDriver.open.Goals as goal

pub invariant_of-result : goal.invariant_of-result
invariant_of-result c =
    let parts = c.args.parts in
    let blocks = c.requires.blocks in
    let graphs = parts.graphs.items in
    let plans = parts.plans.items in
    let none = ap (λ (tally : Tally). length tally.runs) c.requires.can.fresh in
    let opened : c.in-Ok.switching ≡ switching_opened graphs plans =
    c.in-Ok.ensures.switching ∙ ap (λ (graphs : List RawCodec). switching_opened graphs c.deref-3.result.now) c.deref-2.ensures.value ∙ ap (λ (plans : List Plan). switching_opened graphs plans) c.deref-3.ensures.value in
    record {
      started = c.requires.idle.started;
      quiet = c.requires.idle.quiet;
      owns_corb = blocks.owns_corb;
      owns_rirb = blocks.owns_rirb;
      owns_ring = blocks.owns_ring;
      beside_corb = blocks.beside_corb;
      beside_rirb = blocks.beside_rirb;
      records = c.requires.can.records;
      few_calls = omega arith;
      few_recorded = omega (arith, none);
      pins = subst (λ (switching : SwitchingState). IsSwitchingOf graphs plans switching) (sym opened) (opened_of graphs plans);
      reach = c.in-Ok.ensures.reach;
      asked = subst (λ (switching : SwitchingState). IsAskedBy parts.engine.rings.outstanding switching.asking) (sym opened) (none_asked parts.engine.rings.outstanding);
      fresh = λ is. c.requires.can.fresh;
      idle = λ is. c.requires.idle.idle;
      kept = λ is. refl;
      given = λ noticed is. absurd (none_given noticed is);
    }

pub returns-in-Ok : goal.returns-in-Ok
returns-in-Ok c =
    let parts = c.args.parts in
    let graphs = parts.graphs.items in
    let plans = parts.plans.items in
    let opened : c.in-Ok.switching ≡ switching_opened graphs plans =
    c.in-Ok.ensures.switching ∙ ap (λ (graphs : List RawCodec). switching_opened graphs c.deref-3.result.now) c.deref-2.ensures.value ∙ ap (λ (plans : List Plan). switching_opened graphs plans) c.deref-3.ensures.value in
    record {
      opens = record {
        engine = refl;
        writer = refl;
        supply = refl;
        pool = refl;
        graphs = refl;
        plans = refl;
        sent = refl;
        jacks = λ events counts pins few. c.in-Ok.ensures.jacks events (subst (λ (list : List Jack). Counts events list) (sym c.deref.ensures.value) counts) pins few;
        switching = opened;
        clock = refl;
        given_up = refl;
        runs_is = refl;
        calls_is = refl;
      };
    }
