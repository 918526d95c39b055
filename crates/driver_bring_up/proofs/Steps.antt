-- One more tag, and one more codec.
use Rattle.std.proofs.Common.{◌≡◌, ℕ, ◌+◌, List, [], ◌++◌, refl, get_or, add-one}
use Rattle.driver_bring_up.specs.Jacks.{row_of}
use Rattle.driver_bring_up.specs.Listed.{jack_at, told, row_jacks, all_jacks}

pub row_none : (codec : ℕ) (row : List ℕ) → row_jacks codec row 0 ≡ []
unfolding row_jacks
row_none codec row = refl

pub row_more : (codec : ℕ) (row : List ℕ) (tags : ℕ) → row_jacks codec row (tags + 1) ≡ row_jacks codec row tags ++ told (jack_at codec tags (get_or row tags 0))
unfolding row_jacks
row_more codec row tags = rw add-one refl

pub all_none : (rows : List (List ℕ)) → all_jacks rows 0 ≡ []
unfolding all_jacks
all_none rows = refl

pub all_more : (rows : List (List ℕ)) (codecs : ℕ) → all_jacks rows (codecs + 1) ≡ all_jacks rows codecs ++ row_jacks codecs (row_of rows codecs) 64
unfolding all_jacks
all_more rows codecs = rw add-one refl
