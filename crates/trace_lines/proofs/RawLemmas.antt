-- The pieces of a line of JSON, one after another.
use Rattle.std.proofs.Common.{◌≡◌, ℕ, List, ◌++◌, append_assoc}
use Rattle.std.specs.Prelude.{codes}
use Rattle.trace_lines.specs.Raw.{ending, front, text_item}

pub register_pieces : (out letter place width value : List ℕ)
    → ((((out ++ front letter) ++ place) ++ width) ++ value) ++ codes "]\n" ≡ out ++ (front letter ++ place ++ width ++ value ++ ending)
register_pieces out letter place width value = simp append_assoc

pub memory_pieces : (out letters place digits : List ℕ)
    → ((((out ++ front letters) ++ place) ++ codes ", \"") ++ digits) ++ codes "\"]\n" ≡ out ++ (front letters ++ place ++ text_item digits ++ ending)
memory_pieces out letters place digits = simp append_assoc
