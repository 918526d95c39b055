-- The list as it is put together of the counters. This project's own.
use Rattle.std.specs.Prelude.{ℕ, zero, suc, ◌==◌, List, [], ◌∷◌, ◌++◌, slice_index, if◌then◌else◌}
use Rattle.driver_progress.specs.declared.jack.Jack.{Jack}
use Rattle.driver_bring_up.specs.Jacks.{row_of}

abbrev pub jack_at : (codec tag times : ℕ) → Jack
jack_at codec tag times = record { codec = codec; tag = tag; times = times }

-- a jack, where it was told at all
abbrev pub told : Jack → List Jack
told jack = if jack.times == 0 then [] else jack ∷ []

-- the jacks of a codec's first so many tags
unfoldable pub row_jacks : (codec : ℕ) (row : List ℕ) (tags : ℕ) → List Jack
row_jacks codec row zero = []
row_jacks codec row (suc tags) = row_jacks codec row tags ++ told (jack_at codec tags (slice_index row tags))

-- the jacks of the first so many codecs
unfoldable pub all_jacks : (rows : List (List ℕ)) (codecs : ℕ) → List Jack
all_jacks rows zero = []
all_jacks rows (suc codecs) = all_jacks rows codecs ++ row_jacks codecs (row_of rows codecs) 64
