-- The closing stretch of a driver that switches goes by its rules, and what is then known of its journal.
use Rattle.std.proofs.Common.{◌≡◌, ◌⊎◌, ℕ, Bool, false, if◌then◌else◌, List, [], None, Some, sym, ap, subst, ◌∙◌}
use Rattle.std.specs.Option.{is_some}
use Rattle.codec_graph.specs.declared.raw.RawCodec.{RawCodec}
use Rattle.codec_graph.specs.CodecStates.{CodecState}
use Rattle.stream_format.specs.declared.format.Format.{Format}
use Rattle.route_planner.specs.declared.routes.Plan.{Plan}
use Rattle.hda_world.specs.Events.{Event, End}
use Rattle.hda_world.specs.Tellings.{Telling, Accessed, Grew}
use Rattle.hda_world.proofs.Callers.{grew_both, grew_access, grew_row}
use Rattle.period_writer.specs.Runs.{tally_opened}
use Rattle.driver_progress.specs.States.{State}
use Rattle.driver_progress.specs.Tasks.{Task, DriverLine}
use Rattle.driver_progress.specs.Progress as trail
use Rattle.driver_progress.specs.Progress.{Trail, trail_of, ended, ended_last}
use Rattle.driver_bring_up.specs.Commanding.{answer_in}
use Rattle.driver_bring_up.specs.declared.jacks.Jacks.{Jacks}
use Rattle.driver_rules.specs.Notes.{TallyIs}
use Rattle.driver_rules.specs.Onward.{IsAtOnwardRest, IsRuleStretch}
use Rattle.driver_rules.proofs.Callers.{trail_is, rules_row, rules_close, rest_onward, tally_goes_on, tally_at_end}
use Rattle.laws_driver.specs.Keeping.{WasNeverHeard}
use Rattle.jack_switch.specs.SwitchRules.{SwitchState, switch_rules}
use Rattle.jack_switch.specs.JackDrivers.{JackDriverState, switch_state}
use Rattle.jack_switch.specs.JackCalls.{EndsSwitching}
use Rattle.laws_switching.specs.Speakers.{is_switched}
use Rattle.laws_switching.specs.SettingUp.{StaysSetUpBut}
use Rattle.laws_switching.specs.Since.{since_ready}
use Rattle.laws_switching.specs.Senses.{SensesDecide}
use Rattle.laws_switching.specs.Turned.{outputs}
use Rattle.laws_switching.specs.Switching.{WasHeardSwitched, SwitchHasGone}
use Rattle.laws_switching.proofs.BesideRules.{IsBesideRules, row_beside, end_beside}
use Rattle.laws_switching.proofs.Opened.{IsOpened, Rulings, tally_in}
use Rattle.laws_switching.proofs.Given.{Given}

-- the state where no stretch is open is that of the trail
state_at : (task : Task) (trail : Trail) → trail.within ≡ false → (ended_last task trail).state ≡ trail.state
state_at task trail none = ap (λ (within : Bool). (if within then ended task trail else trail).state) none

module _ (format : Format) (graphs : List RawCodec) (plans : List Plan) (task : Task) (given : Given format graphs plans task) (lines : List DriverLine) (supply : List ℕ) (start : List CodecState) (tf : ℕ) (old : JackDriverState)
    (ended : SwitchState) (jacks : Jacks) (begun made after : Telling) (call : EndsSwitching old ended jacks supply (Some begun) (Some made)) (ends : Accessed made after End)
    (opened : IsOpened format graphs plans task given lines [] None supply start tf old begun)
    (answered : (Rulings format graphs plans task given lines made).answered ≡ is_some (answer_in old.engine.rings call.made)) where
  stretch : IsRuleStretch (switch_rules task graphs plans) (switch_state old) None call.made (Rulings format graphs plans task given lines made).answered ended
  stretch =
      subst (λ (answered : Bool). IsRuleStretch (switch_rules task graphs plans) (switch_state old) None call.made answered ended) (sym answered)
      (subst (λ (plans : List Plan). IsRuleStretch (switch_rules task graphs plans) (switch_state old) None call.made (is_some (answer_in old.engine.rings call.made)) ended) opened.of.planned
      (subst (λ (graphs : List RawCodec). IsRuleStretch (switch_rules task graphs old.plans) (switch_state old) None call.made (is_some (answer_in old.engine.rings call.made)) ended) opened.of.walked
      (call.is task opened.of.task_is)))

  rest : IsAtOnwardRest (switch_rules task graphs plans) task lines [] (Some ended) after
  rest =
      let rules = switch_rules task graphs plans in
      rules_close rules task lines [] None (switch_state old) ended call.made made after ends stretch
      (rules_row rules task lines [] None (switch_state old) [] call.made begun made call.by.is call.are opened.opened)

  beside : IsBesideRules task lines old.sent after
  beside = end_beside task lines old.sent made after given.silent ends (row_beside task lines old.sent call.made begun made call.by.is call.are opened.beside)

  tallies : TallyIs (tally_in format graphs plans task given lines) (Rulings format graphs plans task given lines after)
  tallies =
      let grew : Grew begun after = grew_both begun made after (grew_row call.by.is) (grew_access made after End ends) in
      tally_goes_on (switch_rules task graphs plans) (tally_in format graphs plans task given lines) task given.takes_up lines (switch_state old) grew.events begun after grew.went opened.opened.later_is opened.tallies

  pub last_over : (last : List Event) → StaysSetUpBut format 1 graphs plans task lines after → SensesDecide old.engine.corb.address old.engine.rirb.address graphs plans (since_ready task lines after)
      → ((ended.tally ≡ tally_opened) × WasNeverHeard after) ⊎ WasHeardSwitched (outputs format) graphs (is_switched graphs plans) format task.pcm (is_some ended.given_up) ended.tally last after
      → SwitchHasGone format graphs plans task lines old.sent ended last after
  last_over last set_up decided heard =
      let rules = switch_rules task graphs plans in
      let onward = rest_onward rules task lines [] (Some ended) after rest in
      let same : trail.state_of task lines after ≡ (trail_of task lines after).state =
      state_at task (trail_of task lines after) (ap (λ (trail : Trail). trail.within) (sym (trail_is rules task lines after)) ∙ rest.within) in record {
        onward = onward.0;
        later_is = onward.1;
        finds = beside.finds;
        phase_is = ap (λ (state : State). state.phase) same ∙ beside.phase_is;
        sent_is = ap (λ (state : State). state.sent) same ∙ beside.sent_is;
        enough = opened.of.enough;
        set_up = set_up;
        runs_are = tally_at_end rules (tally_in format graphs plans task given lines) task given.takes_up lines ended after tallies onward.1;
        decided = subst (λ (rirb : ℕ). SensesDecide task.blocks.corb rirb graphs plans (since_ready task lines after)) (sym opened.of.task_is.rirb)
            (subst (λ (corb : ℕ). SensesDecide corb old.engine.rirb.address graphs plans (since_ready task lines after)) (sym opened.of.task_is.corb) decided);
        heard = heard;
      }
