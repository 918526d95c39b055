-- The line that tells the run of made inputs. This project's own.
use Rattle.std.specs.Prelude.{ℕ, ◌-◌, ◌==◌, ◌++◌, List, length, sum_by, count_by, codes, decimal, if◌then◌else◌}
use Rattle.heard_lists.specs.declared.pin_list.PinHeard.{PinHeard}
use Rattle.laws_hearing.specs.Plays.{is_hole}
use Rattle.period_writer.specs.declared.course.Span.{Span}
use Rattle.sound_report.specs.declared.played.Played.{Played}

-- the bytes of a silence, and of several
abbrev pub span_bytes : Span → ℕ
span_bytes span = span.end - span.start

abbrev pub silence_bytes : List Span → ℕ
silence_bytes silences = sum_by span_bytes silences

-- the pin of the made machine
abbrev pub made_pin : ℕ
made_pin = 0x14

-- how many link frames that pin missed
abbrev pub holes_in : PinHeard → ℕ
holes_in heard = if heard.pin == made_pin then count_by is_hole heard.list else 0

abbrev pub holes_of : List PinHeard → ℕ
holes_of heard = sum_by holes_in heard

-- a number of the line with its name
abbrev pub number_word : (name : List ℕ) (count : ℕ) → List ℕ
number_word name count = codes " " ++ name ++ codes " " ++ decimal count

-- the line, for a run that ends with this status
abbrev pub made_line : (number status : ℕ) → Played → List ℕ
made_line number status played =
    codes "make " ++ decimal number ++ number_word (codes "frames") played.total
    ++ number_word (codes "runs") (length played.runs)
    ++ number_word (codes "silence") (silence_bytes played.silences)
    ++ number_word (codes "holes") (holes_of played.heard)
    ++ number_word (codes "status") status ++ codes "\n"
