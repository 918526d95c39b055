-- Once all commands are answered: where the engine of commands stands, and what was walked.
use Rattle.std.proofs.Common.{◌≡◌, ◌≤◌, ℕ, List, [], length, Option, None, sym, ap, subst, ◌∙◌, append-nil}
use Rattle.verb_codes.specs.declared.verbs.Command.{Command}
use Rattle.codec_graph.specs.declared.raw.RawCodec.{RawCodec}
use Rattle.codec_graph.specs.Settings.{Entries}
use Rattle.route_planner.specs.declared.routes.Plan.{Plan}
use Rattle.route_setup.specs.Means.{Means}
use Rattle.hda_world.specs.Worlds.{World}
use Rattle.command_engine.specs.declared.answers.Outstanding.{Outstanding}
use Rattle.command_engine.specs.Fetchings.{Stands}
use Rattle.driver_progress.specs.declared.phase.Phase.{Phase}
use Rattle.driver_progress.specs.declared.phase.Phase.TheVariants.{Ready}
use Rattle.driver_progress.specs.Phases.{goes_on}
use Rattle.driver_progress.specs.Tasks.{Task, walks_over}
use Rattle.driver_bring_up.specs.Standing.{answers_of}
use Rattle.driver_bring_up.specs.declared.bringing.BringUp.{BringUp}
use Rattle.laws_bring_up.specs.Standing.{IsTaskOfCodecs, IsAsking, StandsIn, IsBroughtUp, WalkedIn, IsEnded}
use Rattle.laws_bring_up.specs.SettingUp.{AreSetUpForGood}
use Rattle.laws_bring_up.proofs.Callers.{AgendaLaws, SetterLaws, all_taken, ready_for_good, walked_by, walked_in, none_next}

module _ (means : Means) (verbs : RawCodec → List Command) (graphs : List RawCodec) (task : Task)
    (laws : AgendaLaws means verbs graphs) (of : IsTaskOfCodecs means verbs graphs task) (setter : SetterLaws means) where
  pub record IsReady (bring_up : BringUp) (world : World) : Type 0 where
    pub from : ℕ
    pub read : ℕ
    pub stands : Stands from read bring_up.engine.corb.address bring_up.engine.rirb.address bring_up.engine.rings world
    pub answered : bring_up.engine.rings.outstanding ≡ None
    pub walked : bring_up.agenda.graphs.items ≡ graphs
    pub enough : length (walks_over graphs) ≤ bring_up.sent
    pub good : AreSetUpForGood means graphs world

  pub ready_stands : (written : ℕ) (bring_up : BringUp) (world : World) → bring_up.phase ≡ Ready → IsBroughtUp means verbs graphs task written bring_up world → IsReady bring_up world
  ready_stands written bring_up world was stands =
      let a : IsAsking means verbs graphs task written bring_up world = subst (λ (phase : Phase). StandsIn phase means verbs graphs task written bring_up world) was stands.stage in
      let none = (all_taken means verbs graphs task laws of setter written bring_up world was stands.graphs_are a).0 in
      let answers = answers_of bring_up.sent bring_up.engine.rings.outstanding in
      let agrees = laws.agrees answers bring_up.agenda task a.follows of.is_for in
      let phase = bring_up.led (ap goes_on was) ∙ agrees.phase in
      let all = subst (λ (phase : Phase). WalkedIn phase (bring_up.agenda.graphs.items ≡ graphs)) was (walked_in means verbs graphs task of answers bring_up.agenda bring_up.phase a.follows phase (ap goes_on was)) in
      let told = (walked_by means verbs graphs task of bring_up.sent bring_up.engine.rings.outstanding bring_up.agenda a.follows).told in record {
        from = a.from;
        read = a.read;
        stands = a.stands;
        answered = none;
        walked = all;
        enough = subst (λ (count : ℕ). length (walks_over graphs) ≤ count) (ap (λ (outstanding : Option Outstanding). answers_of bring_up.sent outstanding) none)
            (subst (λ (walked : List RawCodec). length (walks_over walked) ≤ answers) all told);
        good = ready_for_good means verbs graphs task laws of setter written bring_up world was stands;
      }

pub ended_ready : (graphs : List RawCodec) (task : Task) (bring_up : BringUp) → bring_up.phase ≡ Ready → bring_up.agenda.graphs.items ≡ graphs → bring_up.engine.rings.outstanding ≡ None → length (walks_over graphs) ≤ bring_up.sent → IsEnded graphs task bring_up
ended_ready graphs task bring_up was walked none enough = record {
  walked = record {
    rest = [];
    first = sym walked ∙ sym (append-nil bring_up.agenda.graphs.items);
    told = subst (λ (walked : List RawCodec). length (walks_over walked) ≤ answers_of bring_up.sent bring_up.engine.rings.outstanding) (sym walked)
        (subst (λ (count : ℕ). length (walks_over graphs) ≤ count) (ap (λ (outstanding : Option Outstanding). answers_of bring_up.sent outstanding) (sym none)) enough);
    untold = λ next later is. absurd (none_next next later is);
    all = λ less. walked;
  };
  by_phase = subst (λ (phase : Phase). WalkedIn phase (bring_up.agenda.graphs.items ≡ graphs)) (sym was) walked;
}
