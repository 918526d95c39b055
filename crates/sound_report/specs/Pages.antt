-- A text that goes out page after page. This project's own.
use Rattle.std.specs.Prelude.{◌≡◌, ℕ, List, ◌++◌, Option, Result, Ok, Err}
use Rattle.hda_outside.specs.declared.fault.Fault.{Fault}
use Rattle.hda_outside.specs.Sink.{taken_with, TookFront}

-- of these bytes a sink took the first ones, and these are left
pub record TookAllBut (before now : Option (List ℕ)) (bytes rest : List ℕ) : Type 0 where
  pub gone : List ℕ
  pub cut : gone ++ rest ≡ bytes
  pub front : now ≡ taken_with before gone

-- how these bytes were written: what the sink did not take stands on the page then, and at a fault the sink took the
-- first of them
abbrev pub Writes : {A : Type 0} → Result A Fault → Option (List ℕ) → Option (List ℕ) → List ℕ → List ℕ → Type 0
Writes (Ok done) before now bytes page = TookAllBut before now bytes page
Writes (Err fault) before now bytes page = TookFront before now bytes
