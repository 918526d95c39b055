-- What holds in all phases of a kind.
use Rattle.std.proofs.Common.{◌≡◌, ℕ, true, refl}
use Rattle.driver_progress.specs.declared.phase.Phase.{Phase}
use Rattle.driver_progress.specs.declared.phase.Phase.TheVariants.{Walking, SettingUp, Ready}
use Rattle.driver_progress.specs.Phases.{PhaseGroup, Asking, group_of, sends_commands, acts, is_active, is_asking, is_early, is_ready, goes_on}
use Rattle.driver_progress.specs.Tasks.{Task}
use Rattle.driver_progress.specs.States.{State}
use Rattle.driver_progress.specs.Seen.{Seen}
use Rattle.period_writer.specs.Runs.{Tally}
use Rattle.driver_progress.specs.Expected.{submits, next_order, asks, shuts, runs, runs_in, closes, closes_in}
use Rattle.driver_progress.specs.Next.{after_poll, after_commands, led, led_in, closed, closed_in}

-- ---- what phases are like

pub asking_goes_on : (phase : Phase) → is_asking phase ≡ true → goes_on phase ≡ true
asking_goes_on Walking is = refl
asking_goes_on SettingUp is = refl
asking_goes_on phase is = cc

pub asking_early : (phase : Phase) → is_asking phase ≡ true → is_early phase ≡ true
asking_early Walking is = refl
asking_early SettingUp is = refl
asking_early phase is = cc

acts_asking : (group : PhaseGroup) → sends_commands group ≡ true → acts group ≡ true
acts_asking Asking is = refl
acts_asking group is = cc

pub asking_active : (phase : Phase) → is_asking phase ≡ true → is_active phase ≡ true
asking_active phase is = acts_asking (group_of phase) is

pub ready_is : (phase : Phase) → is_ready phase ≡ true → phase ≡ Ready
ready_is Ready is = refl
ready_is phase is = cc

-- ---- while commands are sent

runs_asking : (task : Task) (state : State) (budget : ℕ) (seen : Seen) (tally : Tally) (phase : Phase) (group : PhaseGroup) → sends_commands group ≡ true
    → runs_in task state budget seen tally phase group ≡ asks task state seen (submits task.blocks state.rings (next_order task state seen))
runs_asking task state budget seen tally phase Asking is = refl
runs_asking task state budget seen tally phase group is = cc

-- the accesses of a call
pub asking_runs : (task : Task) (state : State) (budget : ℕ) (seen : Seen) (tally : Tally) (phase : Phase) → is_asking phase ≡ true
    → runs task state budget seen tally phase ≡ asks task state seen (submits task.blocks state.rings (next_order task state seen))
asking_runs task state budget seen tally phase is = runs_asking task state budget seen tally phase (group_of phase) is

led_asking : (task : Task) (state : State) (seen : Seen) (tally : Tally) (phase : Phase) (group : PhaseGroup) → sends_commands group ≡ true → led_in task state seen tally phase group ≡ after_commands task state seen
led_asking task state seen tally phase Asking is = refl
led_asking task state seen tally phase group is = cc

-- where it leads
pub asking_led : (task : Task) (state : State) (seen : Seen) (tally : Tally) (phase : Phase) → is_asking phase ≡ true → led task state seen tally phase ≡ after_commands task state seen
asking_led task state seen tally phase is = led_asking task state seen tally phase (group_of phase) is

closes_asking : (task : Task) (state : State) (seen : Seen) (phase : Phase) (group : PhaseGroup) → sends_commands group ≡ true → closes_in task state seen phase group ≡ asks task state seen shuts
closes_asking task state seen phase Asking is = refl
closes_asking task state seen phase group is = cc

-- the accesses of the last call
pub asking_closes : (task : Task) (state : State) (seen : Seen) (phase : Phase) → is_asking phase ≡ true → closes task state seen phase ≡ asks task state seen shuts
asking_closes task state seen phase is = closes_asking task state seen phase (group_of phase) is

closed_asking : (task : Task) (state : State) (seen : Seen) (tally : Tally) (group : PhaseGroup) → sends_commands group ≡ true → closed_in task state seen tally group ≡ after_poll task state seen
closed_asking task state seen tally Asking is = refl
closed_asking task state seen tally group is = cc

-- and where that leads
pub asking_closed : (task : Task) (state : State) (seen : Seen) (tally : Tally) (phase : Phase) → is_asking phase ≡ true → closed task state seen tally phase ≡ after_poll task state seen
asking_closed task state seen tally phase is = closed_asking task state seen tally (group_of phase) is
