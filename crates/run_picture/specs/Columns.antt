-- What a column of a picture shows of the moments that fall in it. This project's own.
use Rattle.std.specs.Prelude.{ℕ, ◌+◌, ◌-◌, ◌%◌, ◌^◌, ◌==◌, ◌||◌, Bool, true, false, min, max, nat_lt, List, length}
use Rattle.std.specs.Prelude.{get_or, if◌then◌else◌}
use Rattle.period_writer.specs.declared.course.Run.{Run}
use Rattle.run_picture.specs.declared.meter.Meter.{Meter}
use Rattle.run_picture.specs.declared.columns.Column.{Column}
use Rattle.run_picture.specs.declared.columns.Sight.{Sight}
use Rattle.run_picture.specs.Meters.{held, more}

-- ---- what the recorded runs say

-- the run with a number, counted from 0
abbrev pub run_at : List Run → ℕ → Run
run_at runs place = get_or runs place (record { at = 0; from = 0; to = 0; budget = 0; written = 0 })

-- the end of the line after so many of the runs: a ring of so many bytes ahead of where the last one found the link
abbrev pub line_after : List Run → (ring count : ℕ) → ℕ
line_after runs ring count =
    if count == 0 || nat_lt (length runs) count then 0 else more (run_at runs (count - 1)).at ring

-- the ticks from the first clock of a run to the last clock of a later one, on a clock of 32 bits
abbrev pub ticks_between : (earlier later : Run) → ℕ
ticks_between earlier later = (later.to + (2 ^ 32 - earlier.from)) % 2 ^ 32

-- those between the run of this number, counted from 1, and the one before it
abbrev pub gap_before : List Run → (count : ℕ) → ℕ
gap_before runs count =
    if nat_lt count 2 || nat_lt (length runs) count then 0
    else ticks_between (run_at runs (count - 2)) (run_at runs (count - 1))

-- how many of so many recorded runs have begun
abbrev pub count_begun : (begun recorded : ℕ) → ℕ
count_begun begun recorded = min begun recorded

-- what is said of a moment. A run that was too late has no record, and took so many ticks
abbrev pub sight_of : List Run → (late : ℕ) → Meter → Sight
sight_of runs late moment =
    record {
      line = line_after runs moment.ring (count_begun moment.runs (length runs));
      start = line_after runs moment.ring (count_begun moment.runs (length runs) - 1);
      gap = if nat_lt (length runs) moment.runs then late
          else gap_before runs (count_begun moment.runs (length runs));
    }

-- ---- a column

abbrev pub column_empty : Column
column_empty = record {
  seen = false;
  sent = 0;
  fetched = 0;
  line = 0;
  start = 0;
  held = 0;
  ahead = 0;
  gap = 0;
  items = 0;
  missed = false;
}

-- the lesser of two, or the second where the first was not seen
abbrev pub least : Bool → (first second : ℕ) → ℕ
least seen first second = if seen then min first second else second

-- with one moment more: the last values, the least that the FIFO held and that the line was ahead, the longest that a
-- run took, and whether a link frame missed its blocks
abbrev pub column_with : Sight → Meter → Column → Column
column_with sight moment column = record {
  seen = true;
  sent = moment.sent;
  fetched = moment.fetched;
  line = sight.line;
  start = least column.seen column.start sight.start;
  held = least column.seen column.held (held moment);
  ahead = least column.seen column.ahead (sight.line - moment.sent);
  gap = max column.gap sight.gap;
  items = moment.items;
  missed = column.missed || moment.missed;
}
