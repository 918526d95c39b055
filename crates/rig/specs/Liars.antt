-- A liar: a rig, the lies that are told of it, and how many pieces of memory were read. This project's own.
use Rattle.std.specs.Prelude.{◌≡◌, ℕ, List, Option, None}
use Rattle.hda_world.specs.Events.{DmaRead}
use Rattle.hda_world.specs.Tellings.{Telling, Accessed}
use Rattle.rig.specs.declared.rig.Rig.{Rig}
use Rattle.rig.specs.declared.liar.Liar.{Liar}
use Rattle.rig.specs.Lies.{told_of_piece}

abbrev pub rig_of : Liar → Rig
rig_of liar = liar.rig

abbrev pub lies_of : Liar → List (ℕ × ℕ)
lies_of liar = liar.lies.items

abbrev pub reads_of : Liar → ℕ
reads_of liar = liar.reads

-- how many accesses and how many bytes of pieces of memory its rig has room to note
abbrev pub spare_accesses_of : Liar → ℕ
spare_accesses_of liar = liar.rig.spare_accesses

abbrev pub spare_bytes_of : Liar → ℕ
spare_bytes_of liar = liar.rig.spare_bytes

-- it tells nothing of its world
abbrev pub told_nothing : Liar → Option Telling
told_nothing liar = None

-- an access that reads no memory leaves what is lied and how many pieces were read
pub record KeepsLies (old new : Liar) : Type 0 where
  pub lies : lies_of new ≡ lies_of old
  pub reads : reads_of new ≡ reads_of old

-- the rig answered a read of its memory with some piece, and what is told is that piece with the lie for its number
pub record IsLied (lies : List (ℕ × ℕ)) (number at : ℕ) (old new : Telling) (bytes : List ℕ) : Type 0 where
  pub piece : List ℕ
  pub accessed : Accessed old new (DmaRead at piece)
  pub told : bytes ≡ told_of_piece lies number piece
