-- How a walk and a sound end, by how far the driver came.
use Rattle.std.proofs.Common.{◌≡◌, ◌≤◌, ◌<◌, ◌⊎◌, inl, inr, ◌+◌, ℕ, true, false, List, Option, None, Some, refl, ap, ◌∙◌, arith}
use Rattle.period_writer.specs.declared.course.Run.{Run}
use Rattle.period_writer.specs.declared.course.Span.{Span}
use Rattle.driver_progress.specs.declared.phase.Phase.{Phase}
use Rattle.driver_progress.specs.declared.phase.Phase.TheVariants.{Reset, Settling, Walking, SettingUp, Ready}
use Rattle.driver_progress.specs.declared.phase.Phase.TheVariants.{Playing, Drained}
use Rattle.driver_progress.specs.States.{State}
use Rattle.driver_progress.specs.Phases.{has_commands_left}
use Rattle.sound_report.specs.declared.played.PlayFault.{PlayFault}
use Rattle.sound_report.specs.declared.played.PlayFault.TheVariants.{CommandsLeft}
use Rattle.program_runs.specs.Walks.{walk_fault}
use Rattle.program_runs.specs.Plays.{play_fault}
use Rattle.laws_serving.specs.Coming.{sent_by, HasComeTo}
use Rattle.program_runs.specs.Served.{ServedWalkEnds, IsStillPlaying, ServedPlayEnds}

walk_left : (phase : Phase) (sent of : ℕ) → has_commands_left phase ≡ true → walk_fault phase sent of ≡ Some (CommandsLeft sent of)
walk_left Reset sent of left = refl
walk_left Settling sent of left = refl
walk_left Walking sent of left = refl
walk_left SettingUp sent of left = refl
walk_left phase sent of left = cc

play_left : (phase : Phase) (sent of block total : ℕ) (runs : List Run) (silences : List Span) → has_commands_left phase ≡ true → play_fault phase sent of block total runs silences ≡ Some (CommandsLeft sent of)
play_left Reset sent of block total runs silences left = refl
play_left Settling sent of block total runs silences left = refl
play_left Walking sent of block total runs silences left = refl
play_left SettingUp sent of block total runs silences left = refl
play_left phase sent of block total runs silences left = cc

pub walk_ends : (commands lines of : ℕ) (state : State) (fault : Option PlayFault) → HasComeTo commands lines false state → of ≡ commands → fault ≡ walk_fault state.phase state.sent of → ServedWalkEnds commands lines fault
walk_ends commands lines of state fault come of_is is = record {
  done = λ enough. is ∙ ap (λ (phase : Phase). walk_fault phase state.sent of) (come.silent enough refl);
  left = λ few. is ∙ walk_left state.phase state.sent of (come.left few) ∙ ap (λ (sent : ℕ). Some (CommandsLeft sent of)) come.sent ∙ ap (λ (of : ℕ). Some (CommandsLeft (sent_by commands lines) of)) of_is;
}

pub play_ends : (commands lines of block total : ℕ) (state : State) (runs : List Run) (silences : List Span) (fault : Option PlayFault) → HasComeTo commands lines true state → of ≡ commands
    → fault ≡ play_fault state.phase state.sent of block total runs silences → ServedPlayEnds commands lines block total runs silences fault
play_ends commands lines of block total state runs silences fault come of_is is = record {
  left = λ few. is ∙ early (lt_cases lines (2 + commands)) few ∙ ap (λ (sent : ℕ). Some (CommandsLeft sent of)) come.sent ∙ ap (λ (of : ℕ). Some (CommandsLeft (sent_by commands lines) of)) of_is;
  plays = λ enough. sounding (come.sounds enough refl);
}
  where
    lt_cases : (a b : ℕ) → (a < b) ⊎ (b ≤ a)
    lt_cases a b = grind arith

    -- in this phase
    in_phase : (phase : Phase) → state.phase ≡ phase → play_fault state.phase state.sent of block total runs silences ≡ play_fault phase state.sent of block total runs silences
    in_phase phase same = ap (λ (phase : Phase). play_fault phase state.sent of block total runs silences) same

    early : (lines < 2 + commands) ⊎ (2 + commands ≤ lines) → lines < 4 + commands → play_fault state.phase state.sent of block total runs silences ≡ Some (CommandsLeft state.sent of)
    early (inl few) less = play_left state.phase state.sent of block total runs silences (come.left few)
    early (inr more) less = in_phase Ready (come.ready more less)

    sounding : (state.phase ≡ Playing) ⊎ (state.phase ≡ Drained) → (fault ≡ None) ⊎ IsStillPlaying block total runs silences fault
    sounding (inl playing) = inr (is ∙ in_phase Playing playing)
    sounding (inr drained) = inl (is ∙ in_phase Drained drained)
