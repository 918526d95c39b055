use Rattle.std.proofs.Common.{◌≡◌, ◌≤◌, ◌∙◌, ◌+◌, ◌++◌, ℕ, List, drop, get_or, map, sym, ap, subst, length, arith}
use Rattle.std.proofs.lemmas.List.Elements.{All-append}
use Rattle.codec_graph.specs.declared.raw.RawCodec.{RawCodec}
use Rattle.codec_graph.specs.Cycles.{IsWellFormed}
use Rattle.route_planner.specs.declared.routes.PinPlan.{PinPlan}
use Rattle.route_planner.specs.declared.routes.Plan.{Plan}
use Rattle.jack_rules.specs.declared.pins.JackState.{JackState}
use Rattle.jack_rules.specs.declared.pins.JackPin.{JackPin}
use Rattle.jack_rules.specs.JackPins.{jacks_from, jacks_of}
use Rattle.jack_rules.specs.Switching.{pin_of, jack_opened, IsInReach, JacksReach}
use Rattle.jack_rules.proofs.Rows.{jacks_of_next, row_more}
use Rattle.jack_rules.proofs.Reached.{jacks_from_reach}
use Rattle.jack_rules.proofs.opening.open_jacks.Goals as goal

pub loop-place-preserved : goal.loop-place-preserved
loop-place-preserved c =
    let graphs = c.args.graphs.now in
    let plans = c.args.plans.now in
    let place = c.loop-place.place in
    let codec = c.index-graphs-place.result in
    let plan = c.index-plans-place.result in
    let few : codec.address ≤ 14 = subst (λ (codec : RawCodec). codec.address ≤ 14) (sym c.index-graphs-place.is) (c.requires.few place codec c.loop-place-test.true) in
    let well : IsWellFormed codec = c.raw-codec.ensures.well_formed in
    let pushed : c.push_jacks.new.jacks.items ≡ c.loop-place.jacks.items ++ map jack_opened (jacks_from codec 0 plan.pins) =
    c.in_ok-push_jacks.ensures
    ∙ ap (λ (codec : RawCodec). c.loop-place.jacks.items ++ map jack_opened (jacks_from codec 0 c.as_slice.result.now)) c.raw-codec.ensures.value
    ∙ ap (λ (entries : List PinPlan). c.loop-place.jacks.items ++ map jack_opened (jacks_from codec 0 entries)) c.as_slice.ensures
    ∙ ap (λ (plan : Plan). c.loop-place.jacks.items ++ map jack_opened (jacks_from codec 0 plan.pins)) (sym c.index-plans-place.is) in (
      row_more jack_opened (jacks_from codec 0 plan.pins) (jacks_of (drop (place + 1) graphs) (drop (place + 1) plans)) c.loop-place.jacks.items c.push_jacks.new.jacks.items pushed
          ∙ ap (λ (all : List JackPin). c.loop-place.jacks.items ++ map jack_opened all) (sym (jacks_of_next graphs plans place codec plan c.loop-place-test.true c.requires.one_each (sym c.index-graphs-place.is) (sym c.index-plans-place.is)))
          ∙ c.loop-place.invariant.0,
      subst JacksReach (sym pushed)
          (All-append (λ (state : JackState). IsInReach state.jack.codec state.jack.pin) c.loop-place.jacks.items (map jack_opened (jacks_from codec 0 plan.pins)) c.loop-place.invariant.1 (jacks_from_reach codec 0 plan.pins well few)),
    )
