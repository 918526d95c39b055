-- How far a driver comes by the calls of a schedule that serves it. This project's own.
use Rattle.std.specs.Prelude.{◌≡◌, ◌≤◌, ◌<◌, ◌⊎◌, ℕ, ◌+◌, ◌-◌, Bool, true, false, min}
use Rattle.driver_progress.specs.declared.phase.Phase.TheVariants.{Ready, Playing, Drained}
use Rattle.driver_progress.specs.Phases.{has_commands_left}
use Rattle.driver_progress.specs.States.{State}

-- how many of so many commands are sent by so many calls: none by the first two, and then one by each
abbrev pub sent_by : (commands calls : ℕ) → ℕ
sent_by commands calls = min commands (calls - 2)

-- where a driver has come that takes so many commands, by so many calls and the last one: the last of the calls that
-- send sends the last command, the next one finds its answer, or the last call does, and the one after that begins to
-- play, where it plays
pub record HasComeTo (commands calls : ℕ) (plays : Bool) (state : State) : Type 0 where
  pub sent : state.sent ≡ sent_by commands calls
  pub left : calls < 2 + commands → has_commands_left state.phase ≡ true
  pub ready : 2 + commands ≤ calls → calls < 4 + commands → state.phase ≡ Ready
  pub silent : 2 + commands ≤ calls → plays ≡ false → state.phase ≡ Ready
  pub sounds : 4 + commands ≤ calls → plays ≡ true → (state.phase ≡ Playing) ⊎ (state.phase ≡ Drained)
