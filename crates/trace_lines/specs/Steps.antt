-- The steps of the device in words, as lines of a schedule have them. This project's own.
use Rattle.std.specs.Prelude.{ℕ, List, ◌++◌, codes, decimal}
use Rattle.world_steps.specs.declared.Step.{Step}
use Rattle.world_steps.specs.declared.Step.TheVariants as step
use Rattle.sound_report.specs.PlanLines.{nid_text}

-- a number behind a word
abbrev pub one_number : List ℕ → ℕ → List ℕ
one_number word number = word ++ codes " " ++ decimal number

-- the stream of a descriptor fetches at most so many bytes
abbrev pub fetch_step : ℕ → ℕ → List ℕ
fetch_step stream bytes = one_number (codes "fetch") stream ++ codes " " ++ decimal bytes

-- a codec and one of its pins behind a word
abbrev pub pin_step : List ℕ → ℕ → ℕ → List ℕ
pin_step word codec pin = one_number word codec ++ codes " " ++ nid_text pin

abbrev pub step_text : Step → List ℕ
step_text step.Corb = codes "corb"
step_text (step.Answer codec) = one_number (codes "answer") codec
step_text (step.Lose codec) = one_number (codes "lose") codec
step_text step.Rirb = codes "rirb"
step_text (step.Fetch stream bytes) = fetch_step stream bytes
step_text (step.Link frames) = one_number (codes "link") frames
step_text (step.Plug codec pin) = pin_step (codes "plug") codec pin
step_text (step.Unplug codec pin) = pin_step (codes "unplug") codec pin
