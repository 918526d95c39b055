-- The row of a register in a table, as the definition's register.
use Rattle.std.proofs.Common.{◌≡◌, ◌==◌, ℕ, Bool, true, false, List, [], ◌∷◌, find, map, Option, Some, refl, ap, ◌∙◌}
use Rattle.std.specs.Prelude.{if◌then◌else◌, option_map}
use Rattle.trace_lines.specs.declared.names.RegisterName.{RegisterName}
use Rattle.trace_lines.specs.Names.{register_of}
use Rattle.trace_lines.specs.Registers.{Register, register_at}

-- the row at a place
abbrev pub row_of : ℕ → List RegisterName → Option RegisterName
row_of at rows = find (λ (row : RegisterName). row.0 == at) rows

either : (here : Bool) (row : RegisterName) (later : Option RegisterName) (other : Option Register) → option_map register_of later ≡ other
    → option_map register_of (if here then Some row else later) ≡ (if here then Some (register_of row) else other)
either true row later other same = refl
either false row later other same = same

-- it is the definition's register there, where the rows are the definition's
row_is : (at : ℕ) (rows : List RegisterName) → option_map register_of (row_of at rows) ≡ register_at at (map register_of rows)
row_is at [] = refl
row_is at (row ∷ rows) = either (row.0 == at) row (row_of at rows) (register_at at (map register_of rows)) (row_is at rows)

-- the same where the rows are known, and the row was found
pub row_in : {rows' : List RegisterName} (at : ℕ) (rows : List RegisterName) (found : Option RegisterName) → rows ≡ rows' → found ≡ row_of at rows
    → option_map register_of found ≡ register_at at (map register_of rows')
row_in at rows found same is =
    ap (option_map register_of) is ∙ (row_is at rows ∙ ap (λ (r : List RegisterName). register_at at (map register_of r)) same)
