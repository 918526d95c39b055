-- What private functions promise one another of the words of a line: the same as the table of operands, keyword by
-- keyword.
use Rattle.std.specs.Prelude.{ℕ, List, [], ◌∷◌, ◌==◌, length, true, false, Option, Some, None, if◌then◌else◌}
use Rattle.world_steps.specs.declared.Step.{Step}
use Rattle.world_steps.specs.declared.Step.TheVariants as step
use Rattle.schedule_reader.specs.declared.keywords.Keyword.{Keyword}
use Rattle.schedule_reader.specs.declared.keywords.Keyword.TheVariants.{Corb, Answer, Lose, Rirb, Fetch, Link, Plug}
use Rattle.schedule_reader.specs.declared.keywords.Keyword.TheVariants.{Unplug, Run, Irq, Repeat, End}
use Rattle.schedule_reader.specs.declared.heads.Head.{Head}
use Rattle.schedule_reader.specs.declared.heads.Head.TheVariants as head
use Rattle.schedule_reader.specs.Cuts.{one, two}
use Rattle.schedule_reader.specs.Numbers.{◌>>=◌, number, nid_of}
use Rattle.schedule_reader.specs.Keywords.{keyword_of}
use Rattle.schedule_reader.specs.Operands.{most_budget}

-- the address of a codec, 0 to 14
abbrev pub codec : List ℕ → Option ℕ
codec word = number 0 14 word

-- this, where no word follows
abbrev pub alone : {A : Type 0} → A → List (List ℕ) → Option A
alone x operands = if length operands == 0 then Some x else None

-- a codec's address, alone
abbrev pub only_codec : List (List ℕ) → Option ℕ
only_codec operands = do
  only ← one operands
  codec only

-- a number of link frames, alone
abbrev pub only_frames : List (List ℕ) → Option ℕ
only_frames operands = do
  only ← one operands
  number 1 1000000 only

-- a codec's address and a pin's node identifier
abbrev pub codec_and_nid : List (List ℕ) → Option (ℕ × ℕ)
codec_and_nid operands = do
  both ← two operands
  address ← codec both.0
  pin ← nid_of both.1
  Some (address, pin)

-- a stream's descriptor and a number of bytes
abbrev pub stream_and_bytes : List (List ℕ) → Option (ℕ × ℕ)
stream_and_bytes operands = do
  both ← two operands
  stream ← number 0 1 both.0
  bytes ← number 1 65535 both.1
  Some (stream, bytes)

-- the step that begins with this word and goes on with these
--   corb | rirb | answer C | lose C | fetch S N | link N | plug C NID | unplug C NID
abbrev pub step_with : Keyword → List (List ℕ) → Option Step
step_with Corb operands = alone step.Corb operands
step_with Rirb operands = alone step.Rirb operands
step_with Answer operands = do
  address ← only_codec operands
  Some (step.Answer address)
step_with Lose operands = do
  address ← only_codec operands
  Some (step.Lose address)
step_with Fetch operands = do
  both ← stream_and_bytes operands
  Some (step.Fetch both.0 both.1)
step_with Link operands = do
  frames ← only_frames operands
  Some (step.Link frames)
step_with Plug operands = do
  both ← codec_and_nid operands
  Some (step.Plug both.0 both.1)
step_with Unplug operands = do
  both ← codec_and_nid operands
  Some (step.Unplug both.0 both.1)
step_with _ operands = None

-- the step that these words write
unfoldable pub step_of : List (List ℕ) → Option Step
step_of [] = None
step_of (word ∷ operands) = do
  first ← keyword_of word
  step_with first operands

-- a budget, alone
abbrev pub only_budget : List (List ℕ) → Option ℕ
only_budget operands = do
  only ← one operands
  number 0 most_budget only

-- how often a repeat is passed, alone
abbrev pub only_times : List (List ℕ) → Option ℕ
only_times operands = do
  only ← one operands
  number 1 1000000 only

-- the head that begins with this word and goes on with these
--   run N | irq N | repeat K | end | a step
abbrev pub head_with : Keyword → List (List ℕ) → Option Head
head_with Run operands = do
  budget ← only_budget operands
  Some (head.Drive false budget)
head_with Irq operands = do
  budget ← only_budget operands
  Some (head.Drive true budget)
head_with Repeat operands = do
  times ← only_times operands
  Some (head.Repeat times)
head_with End operands = alone head.End operands
head_with first operands = do
  step ← step_with first operands
  Some (head.Device step)

-- the head that these words write
unfoldable pub head_of : List (List ℕ) → Option Head
head_of [] = None
head_of (word ∷ operands) = do
  first ← keyword_of word
  head_with first operands
