-- How a bring-up stands to the world is kept by the device, which acts while no call is made.
use Rattle.std.proofs.Common.{◌≡◌, ℕ, List, length, refl, sym, ap, subst, ◌∙◌, arith}
use Rattle.std.specs.Prelude.{All, drop}
use Rattle.std.proofs.lemmas.List.{drop_all}
use Rattle.std.proofs.lemmas.List.Elements.{All-nil}
use Rattle.verb_codes.specs.declared.verbs.Command.{Command}
use Rattle.codec_graph.specs.declared.raw.RawCodec.{RawCodec}
use Rattle.codec_graph.specs.Cycles.{IsWellFormed}
use Rattle.route_planner.specs.declared.routes.Plan.{Plan}
use Rattle.route_setup.specs.Means.{Means}
use Rattle.world_rings.specs.declared.response.Response.{Response}
use Rattle.world_steps.specs.declared.Step.{Step}
use Rattle.hda_world.specs.Worlds.{World, TakenCommand}
use Rattle.hda_world.specs.Steps.{after_steps}
use Rattle.hda_world.proofs.Callers.{kept_steps}
use Rattle.command_engine.specs.Fetchings.{Stands, graphs_in}
use Rattle.command_engine.specs.Polling.{asked_of}
use Rattle.command_engine.proofs.Callers.{responses_apart, keeps_standing}
use Rattle.laws_settings.specs.Histories.{words_of}
use Rattle.laws_settings.specs.Readings.{IsReading, KeepsDefaults}
use Rattle.laws_settings.proofs.Callers.{remembers_itself, steps_remember, only_asked}
use Rattle.driver_progress.specs.declared.phase.Phase.{Phase}
use Rattle.driver_progress.specs.declared.phase.Phase.TheVariants.{Reset, Settling, Walking, SettingUp, Ready}
use Rattle.driver_progress.specs.declared.phase.Phase.TheVariants.{Unanswered, Failed}
use Rattle.driver_progress.specs.Tasks.{Task, IsTaskFor}
use Rattle.driver_progress.specs.Answers.{AnswersAgree}
use Rattle.driver_progress.specs.Beginning.{CanReset, IsSettling}
use Rattle.driver_progress.proofs.Callers.{untaken_steps}
use Rattle.driver_bring_up.specs.declared.bringing.BringUp.{BringUp}
use Rattle.laws_bring_up.specs.Standing.{IsAsking, CanBegin, Announce, StandsIn}
use Rattle.laws_bring_up.proofs.Grows.{steps_on}
use Rattle.laws_bring_up.proofs.Noting.{Laws}
use Rattle.laws_bring_up.proofs.Following.{AgendaLaws, Later, stage_on}
use Rattle.laws_bring_up.proofs.Beginning.{defaults_same}

-- ---- laws of the reset, as they are handed in

pub record Steady : Type 0 where
  pub can_reset : (corb rirb : ℕ) (steps : List Step) (world : World) → CanReset corb rirb world → CanReset corb rirb (after_steps steps world)
  pub settling : (corb rirb : ℕ) (steps : List Step) (world : World) → IsSettling corb rirb world → IsSettling corb rirb (after_steps steps world)

-- ---- settings, while CORB's engine does not run

pub graphs_stay : (steps : List Step) (world : World) → graphs_in (after_steps steps world).codecs ≡ graphs_in world.codecs
graphs_stay steps world = (steps_remember world.codecs (length world.commands) steps world (remembers_itself world)).graphs

defaults_stay : (steps : List Step) (world : World) → world.registers.global.corb_run ≡ 0 → All KeepsDefaults world.codecs → All KeepsDefaults (after_steps steps world).codecs
defaults_stay steps world stopped all =
    let left = after_steps steps world in
    let untaken = untaken_steps world.commands steps world (record { stopped = stopped; commands_are = refl }) in
    let remembers = steps_remember world.codecs (length world.commands) steps world (remembers_itself world) in
    let none = ap (λ (commands : List TakenCommand). drop (length world.commands) commands) untaken.commands_are ∙ drop_all (length world.commands) world.commands (omega arith) in
    let settings = only_asked world.codecs (length world.commands) left remembers (subst (λ (commands : List TakenCommand). All IsReading (words_of commands)) (sym none) (All-nil IsReading)) in
    defaults_same world.codecs left.codecs remembers.graphs settings all

-- ---- by phase

module _ (means : Means) (verbs : RawCodec → List Command) (graphs : List RawCodec) (task : Task) (laws : AgendaLaws means verbs graphs)
    (is_for : IsTaskFor verbs graphs task) (well : All IsWellFormed graphs) (notes : Laws) (steady : Steady) where
  can_begin_stays : (bring_up : BringUp) (steps : List Step) (world : World) → CanBegin bring_up world → CanBegin bring_up (after_steps steps world)
  can_begin_stays bring_up steps world is = record {
    can = steady.can_reset bring_up.engine.corb.address bring_up.engine.rirb.address steps world is.can;
    stopped = (untaken_steps world.commands steps world (record { stopped = is.stopped; commands_are = refl })).stopped;
    defaults = defaults_stay steps world is.stopped is.defaults;
    none_sent = is.none_sent;
    none_walked = is.none_walked;
  }

  announce_stays : (bring_up : BringUp) (steps : List Step) (world : World) → Announce bring_up world → Announce bring_up (after_steps steps world)
  announce_stays bring_up steps world is = record {
    settling = steady.settling bring_up.engine.corb.address bring_up.engine.rirb.address steps world is.settling;
    defaults = defaults_stay steps world is.settling.can_start.quiet.corb_stopped is.defaults;
    none_sent = is.none_sent;
    none_walked = is.none_walked;
  }

  asking_stays : (written : ℕ) (bring_up : BringUp) (steps : List Step) (world : World) → IsAsking means verbs graphs task written bring_up world → IsAsking means verbs graphs task written bring_up (after_steps steps world)
  asking_stays written bring_up steps world a =
      let corb = bring_up.engine.corb.address in
      let rirb = bring_up.engine.rirb.address in
      let rings = bring_up.engine.rings in
      let on = steps_on steps world in
      let later : Later world (after_steps steps world) = record { on = on; remembers = λ start begun is. steps_remember start begun steps world is } in
      let stage = stage_on means verbs graphs task laws is_for well bring_up.sent rings.outstanding bring_up.agenda a.from world (after_steps steps world) a.stands.from_within later (record { last = a.last; follows = a.follows; taken = a.taken }) in record {
        from = a.from;
        read = a.read;
        stands = kept_steps (Stands a.from a.read corb rirb rings) (keeps_standing a.from a.read corb rirb rings responses_apart) steps world a.stands;
        agree = subst (λ (all : List Response). AnswersAgree (asked_of rings.outstanding) written a.read all) (sym on.written) (notes.grows (asked_of rings.outstanding) written a.read world.written on.more_written a.agree);
        last = stage.last;
        follows = stage.follows;
        taken = stage.taken;
      }

  pub stage_stays : (phase : Phase) (written : ℕ) (bring_up : BringUp) (steps : List Step) (world : World) → StandsIn phase means verbs graphs task written bring_up world → StandsIn phase means verbs graphs task written bring_up (after_steps steps world)
  stage_stays Reset written bring_up steps world stage = can_begin_stays bring_up steps world stage
  stage_stays Settling written bring_up steps world stage = announce_stays bring_up steps world stage
  stage_stays Walking written bring_up steps world stage = asking_stays written bring_up steps world stage
  stage_stays SettingUp written bring_up steps world stage = asking_stays written bring_up steps world stage
  stage_stays Ready written bring_up steps world stage = asking_stays written bring_up steps world stage
  stage_stays (Unanswered codec command issued noticed) written bring_up steps world stage = stage
  stage_stays Failed written bring_up steps world stage = stage
  stage_stays phase written bring_up steps world stage = absurd stage
