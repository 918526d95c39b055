-- The link frames that a picture shows, and the columns that they fall in. This project's own.
use Rattle.std.specs.Prelude.{ℕ, ◌+◌, ◌-◌, ◌/◌, Bool, true, false, min, if◌then◌else◌}
use Rattle.run_picture.specs.declared.meter.Meter.{Meter}
use Rattle.run_picture.specs.declared.windows.Extent.{Extent}
use Rattle.run_picture.specs.declared.windows.TheConstants.{MOST_COLUMNS}

-- from which link frame to which there were moments
abbrev pub extent_none : Extent
extent_none = record { seen = false; first = 0; last = 0 }

abbrev pub extent_noted : Extent → Meter → Extent
extent_noted extent moment =
    record { seen = true; first = if extent.seen then extent.first else moment.time; last = moment.time }

-- each column has as many frames, and no more than it takes for so many columns at most
abbrev pub per_column : (first last : ℕ) → ℕ
per_column first last = (last - first) / MOST_COLUMNS + 1

abbrev pub columns_of : (first last : ℕ) → ℕ
columns_of first last = min ((last - first) / per_column first last) (MOST_COLUMNS - 1) + 1

-- the column of a moment before which so many frames passed
abbrev pub column_in : (first per time : ℕ) → ℕ
column_in first per time = (time - first) / per
