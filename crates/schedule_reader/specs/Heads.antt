-- What stands on a line before its first bar: `corb`, `rirb`, `answer C`, `lose C`, `fetch S N`, `link N`, `plug C
-- NID`, `unplug C NID`, `run N`, `irq N`, `repeat K` or `end`. This project's own format.
use Rattle.std.specs.Prelude.{ℕ, List, [], ◌∷◌, true, false, Option, Some, None}
use Rattle.world_steps.specs.declared.Step.{Step}
use Rattle.world_steps.specs.declared.Step.TheVariants as step
use Rattle.schedule_reader.specs.declared.keywords.Keyword.{Keyword}
use Rattle.schedule_reader.specs.declared.keywords.Keyword.TheVariants.{Corb, Answer, Lose, Rirb, Fetch, Link, Plug}
use Rattle.schedule_reader.specs.declared.keywords.Keyword.TheVariants.{Unplug, Run, Irq, Repeat, End}
use Rattle.schedule_reader.specs.declared.heads.Head.{Head}
use Rattle.schedule_reader.specs.declared.heads.Head.TheVariants.{Device, Drive, Repeat as Again, End as Over}
use Rattle.schedule_reader.specs.Numbers.{◌>>=◌}
use Rattle.schedule_reader.specs.Keywords.{keyword_of}
use Rattle.schedule_reader.specs.Operands.{operands_of, values_of}

-- what a keyword says with these values; every keyword has so many as its operands
abbrev pub head_with : Keyword → List ℕ → Option Head
head_with Corb [] = Some (Device step.Corb)
head_with Answer (codec ∷ []) = Some (Device (step.Answer codec))
head_with Lose (codec ∷ []) = Some (Device (step.Lose codec))
head_with Rirb [] = Some (Device step.Rirb)
head_with Fetch (stream ∷ bytes ∷ []) = Some (Device (step.Fetch stream bytes))
head_with Link (frames ∷ []) = Some (Device (step.Link frames))
head_with Plug (codec ∷ nid ∷ []) = Some (Device (step.Plug codec nid))
head_with Unplug (codec ∷ nid ∷ []) = Some (Device (step.Unplug codec nid))
head_with Run (budget ∷ []) = Some (Drive false budget)
head_with Irq (budget ∷ []) = Some (Drive true budget)
head_with Repeat (times ∷ []) = Some (Again times)
head_with End [] = Some Over
head_with _ _ = None

-- what words say that begin with a keyword and go on with its operands
unfoldable pub head_of : List (List ℕ) → Option Head
head_of [] = None
head_of (word ∷ operands) = do
  first ← keyword_of word
  values ← values_of (operands_of first) operands
  head_with first values

-- the step of the device, if it is one
abbrev pub device_step : Head → Option Step
device_step (Device step) = Some step
device_step (Drive _ _) = None
device_step (Again _) = None
device_step Over = None

-- the step of the device that words say
unfoldable pub step_of : List (List ℕ) → Option Step
step_of texts = do
  head ← head_of texts
  device_step head
