-- What a liar is once the rig that it lent is given back. This project's own.
use Rattle.std.specs.Borrow.{Lends, MutBor, Fml}
use Rattle.rig.specs.declared.rig.Rig.{Rig}
use Rattle.rig.specs.declared.liar.Liar.{Liar}
use Rattle.rig.specs.contracts.rig.Rig.{the_row as rig_row}
use Rattle.rig.specs.contracts.liar.Liar.{the_row as liar_row}

abbrev pub with_rig : Liar → Rig → Liar
with_rig liar rig = record liar { rig = rig }

-- it ends with the rig as it was left, and all else stays
abbrev pub LendsRig : MutBor Liar → MutBor Rig → Fml
LendsRig liar rig = Lends liar_row rig_row liar rig (with_rig liar.now)
