-- What is read one after another.
use Rattle.std.proofs.Common.{List, ◌++◌, Option, Some, None}

-- what is read, behind what was read before
abbrev pub with_front : {A : Type 0} → List A → Option (List A) → Option (List A)
with_front front None = None
with_front front (Some xs) = Some (front ++ xs)
