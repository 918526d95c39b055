-- A call of a driver that switches: a stretch begins, its accesses are made, and it ends.
use Rattle.std.proofs.Common.{◌≡◌, ℕ, Bool, List, ◌∷◌, Some, sym, ap, subst, ◌∙◌}
use Rattle.std.specs.Option.{is_some}
use Rattle.codec_graph.specs.declared.raw.RawCodec.{RawCodec}
use Rattle.codec_graph.specs.CodecStates.{CodecState}
use Rattle.stream_format.specs.declared.format.Format.{Format}
use Rattle.route_planner.specs.declared.routes.Plan.{Plan}
use Rattle.hda_world.specs.Events.{Event, Begin, End}
use Rattle.hda_world.specs.Tellings.{Telling, Accessed}
use Rattle.driver_progress.specs.Tasks.{Task, DriverLine}
use Rattle.period_writer.specs.Blocks.{addresses_of}
use Rattle.audio_driver.specs.States.{IsLeft}
use Rattle.driver_bring_up.specs.Commanding.{answer_in}
use Rattle.driver_rules.specs.Onward.{onward_of, IsRuleStretch}
use Rattle.jack_switch.specs.SwitchRules.{switch_rules}
use Rattle.jack_switch.specs.JackDrivers.{JackDriverState, switch_state, IsTaskOfSwitching, KeepsJackDriver}
use Rattle.jack_switch.specs.JackCalls.{Switches, IsStill}
use Rattle.laws_switching.specs.Switching.{SwitchGoesOn}
use Rattle.laws_switching.proofs.Given.{Given}
use Rattle.laws_switching.proofs.Opened.{IsOpened, switch_opens, switch_ends}
use Rattle.laws_switching.proofs.StillCalls.{still_made}

-- a task of a driver is one of it after a call too, where so much of the sound is left
pub task_kept : (old new : JackDriverState) (supply supply' : List ℕ) (task : Task) → KeepsJackDriver old new → (IsLeft task.pcm old.writer.course supply → IsLeft task.pcm new.writer.course supply') → IsTaskOfSwitching old supply task
    → IsTaskOfSwitching new supply' task
task_kept old new supply supply' task keeps left is = record {
  corb = is.corb ∙ sym (ap (λ lent. lent.address) keeps.corb);
  rirb = is.rirb ∙ sym (ap (λ lent. lent.address) keeps.rirb);
  list = is.list ∙ sym (ap (λ lent. lent.address) keeps.list);
  periods = is.periods ∙ sym (ap addresses_of keeps.periods);
  geometry = is.geometry ∙ sym keeps.geometry;
  sound = left is.sound;
}

module _ (format : Format) (graphs : List RawCodec) (plans : List Plan) (task : Task) (given : Given format graphs plans task) (lines : List DriverLine) where
  -- the accesses of a call are those that the rules expect, by whether the command that they ask was answered
  pub call_stretch : (line : DriverLine) (old new : JackDriverState) (events : List Event) (answered : Bool) (made : Telling) → old.graphs ≡ graphs → old.plans ≡ plans
      → IsRuleStretch (switch_rules task old.graphs old.plans) (switch_state old) (Some line) events answered (switch_state new) → (onward_of (switch_rules task graphs plans) task lines made).answered ≡ answered
      → IsRuleStretch (switch_rules task graphs plans) (switch_state old) (Some line) events (onward_of (switch_rules task graphs plans) task lines made).answered (switch_state new)
  call_stretch line old new events answered made walked planned stretch same =
      subst (λ (answered : Bool). IsRuleStretch (switch_rules task graphs plans) (switch_state old) (Some line) events answered (switch_state new)) (sym same)
      (subst (λ (plans : List Plan). IsRuleStretch (switch_rules task graphs plans) (switch_state old) (Some line) events answered (switch_state new)) planned
      (subst (λ (graphs : List RawCodec). IsRuleStretch (switch_rules task graphs old.plans) (switch_state old) (Some line) events answered (switch_state new)) walked stretch))

  -- one in which no run came, from where its stretch began
  pub still_call : (left : List DriverLine) (line : DriverLine) (supply supply' : List ℕ) (start : List CodecState) (tf : ℕ) (old new : JackDriverState) (begun made after : Telling) (call : Switches line.irq line.budget old new supply supply' (Some begun) (Some made))
      → KeepsJackDriver old new → IsStill line.irq old new call.made → Accessed made after End → IsOpened format graphs plans task given lines left (Some line) supply start tf old begun → SwitchGoesOn format graphs plans task lines left supply' new after
  still_call left line supply supply' start tf old new begun made after call keeps still ends opened =
      let task_is = task_kept old new supply supply' task keeps (call.sound task.pcm) opened.of.task_is in
      let has = still_made format graphs plans task given lines line.irq left (Some line) supply supply' start tf old new call.made begun made keeps task_is still call.by.is opened in
      let stretch = call_stretch line old new call.made (is_some (answer_in old.engine.rings call.made)) made opened.of.walked opened.of.planned (call.is task opened.of.task_is) has.1 in
      switch_ends format graphs plans task given lines left (Some line) supply supply' start tf old new call.made begun made after call.by.is call.are stretch keeps ends opened has.0

  -- and that of a later line
  pub still_line : (left : List DriverLine) (line : DriverLine) (supply supply' : List ℕ) (old new : JackDriverState) (before begun made after : Telling) → Accessed before begun Begin
      → (call : Switches line.irq line.budget old new supply supply' (Some begun) (Some made)) → KeepsJackDriver old new → IsStill line.irq old new call.made → Accessed made after End
      → SwitchGoesOn format graphs plans task lines (line ∷ left) supply old before → SwitchGoesOn format graphs plans task lines left supply' new after
  still_line left line supply supply' old new before begun made after begins call keeps still ends on =
      still_call left line supply supply' on.turned.start on.turned.from old new begun made after call keeps still ends (switch_opens format graphs plans task given lines (line ∷ left) supply old before begun begins on)
