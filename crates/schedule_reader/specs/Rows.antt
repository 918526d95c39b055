-- What one line says. This project's own format.
--   line  = nothing | # and anything | step | repeat K | end | (run N | irq N) group*
--   group = '|' ('-' | step (',' step)*)
-- Spaces stand between words, and are free at both ends and round '|' and ','.
use Rattle.std.specs.Prelude.{ℕ, List, [], ◌∷◌, ◌==◌, Bool, true, false, Option, Some, None, if◌then◌else◌, bytes_eq}
use Rattle.std.specs.Prelude.{codes}
use Rattle.world_steps.specs.declared.Step.{Step}
use Rattle.schedule_reader.specs.declared.schedule.Item.TheVariants as item
use Rattle.schedule_reader.specs.declared.schedule.Group.{Group}
use Rattle.schedule_reader.specs.declared.heads.Head.{Head}
use Rattle.schedule_reader.specs.declared.heads.Head.TheVariants as head
use Rattle.schedule_reader.specs.declared.rows.Row.{Row}
use Rattle.schedule_reader.specs.declared.rows.Row.TheVariants as row
use Rattle.schedule_reader.specs.Cuts.{pieces, words, one}
use Rattle.schedule_reader.specs.Numbers.{◌>>=◌}
use Rattle.schedule_reader.specs.Heads.{head_of, step_of}

-- the bytes `|` and `,`
abbrev pub bar : ℕ
bar = 124

abbrev pub comma : ℕ
comma = 44

-- what each of the texts is read as, where all have a reading
abbrev pub all_of : {A : Type 0} → (List ℕ → Option A) → List (List ℕ) → Option (List A)
all_of read [] = Some []
all_of read (text ∷ texts) = do
  x ← read text
  xs ← all_of read texts
  Some (x ∷ xs)

abbrev pub step_in : List ℕ → Option Step
step_in text = step_of (words text)

-- the text is a dash, with spaces round it
abbrev pub is_dash_word : Option (List ℕ) → Bool
is_dash_word None = false
is_dash_word (Some word) = bytes_eq word (codes "-")

abbrev pub is_dash : List ℕ → Bool
is_dash text = is_dash_word (one (words text))

-- the steps of the group that a text writes
unfoldable pub steps_in : List ℕ → Option (List Step)
steps_in text = if is_dash text then Some [] else all_of step_in (pieces comma text)

unfoldable pub group_in : List ℕ → Option Group
group_in text = do
  steps ← steps_in text
  Some (record { steps = steps })

-- a line with this head and with these texts behind its bars: only a driver line has groups
abbrev pub row_with : Head → List (List ℕ) → Option Row
row_with (head.Drive irq budget) texts = do
  groups ← all_of group_in texts
  Some (row.Item (item.Drive (record { irq = irq; budget = budget; groups = groups })))
row_with (head.Device step) [] = Some (row.Item (item.Device step))
row_with (head.Repeat times) [] = Some (row.Repeat times)
row_with head.End [] = Some row.End
row_with _ (_ ∷ _) = None

-- the line that these texts between its bars write
abbrev pub row_of : List (List ℕ) → Option Row
row_of [] = None
row_of (text ∷ texts) = do
  head ← head_of (words text)
  row_with head texts

-- the word begins with `#`
abbrev pub is_comment : List ℕ → Bool
is_comment [] = false
is_comment (b ∷ _) = b == 35

-- nothing stands on the line, or its first byte other than a space is `#`
abbrev pub is_skipped_at : List (List ℕ) → Bool
is_skipped_at [] = true
is_skipped_at (word ∷ _) = is_comment word

abbrev pub is_skipped : List ℕ → Bool
is_skipped line = is_skipped_at (words line)

-- what a line says, if it has a reading
unfoldable pub row_on : List ℕ → Option Row
row_on line = if is_skipped line then Some row.Skipped else row_of (pieces bar line)
