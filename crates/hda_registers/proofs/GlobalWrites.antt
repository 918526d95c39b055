-- The words of the controller after a write, one by one.
use Rattle.std.proofs.Common.{◌≡◌, ◌≢◌, ℕ, refl, ◌==◌}
use Rattle.std.specs.Prelude.{bit_and}
use Rattle.hda_registers.specs.declared.accesses.Access.{Access}
use Rattle.hda_registers.specs.declared.shapes.Shape.{Shape}
use Rattle.hda_registers.specs.Fields.{Global}
use Rattle.hda_registers.specs.Table.{CorbWritePointer, CorbReadPointer, CorbPointerReset, RirbWritePointer, ResponseCount, global_row}
use Rattle.hda_registers.specs.Access.{part, ruled, global_written}
use Rattle.hda_registers.specs.Words.{left_by, global_in}
use Rattle.hda_registers.proofs.Groups.{at_word, other, same-if, written_part, cleared_part}

pub control_word : (shape : Shape) (a : Access) → a.word ≡ 2 → bit_and a.written a.covered ≡ a.written → (control wake interrupts clock cbase cpointers ccontrol rbase rpointers rcontrol : ℕ)
    → global_in (left_by a 0x101 0 control) wake interrupts clock cbase cpointers ccontrol rbase rpointers rcontrol
    ≡ global_written shape a (global_in control wake interrupts clock cbase cpointers ccontrol rbase rpointers rcontrol)
unfolding global_written
control_word shape a e inside control wake interrupts clock cbase cpointers ccontrol rbase rpointers rcontrol =
    at_word (λ a. global_in (left_by a 0x101 0 control) wake interrupts clock cbase cpointers ccontrol rbase rpointers rcontrol
    ≡ global_written shape a (global_in control wake interrupts clock cbase cpointers ccontrol rbase rpointers rcontrol)) a 2 e
    (rw (written_part 0 1 a inside 0x101 0 control refl refl, written_part 8 1 a inside 0x101 0 control refl refl))

pub wake_word : (shape : Shape) (a : Access) → a.word ≡ 3 → bit_and a.written a.covered ≡ a.written → (control wake interrupts clock cbase cpointers ccontrol rbase rpointers rcontrol : ℕ)
    → global_in control (left_by a 0x7FFF 0x7FFF0000 wake) interrupts clock cbase cpointers ccontrol rbase rpointers rcontrol
    ≡ global_written shape a (global_in control wake interrupts clock cbase cpointers ccontrol rbase rpointers rcontrol)
unfolding global_written
wake_word shape a e inside control wake interrupts clock cbase cpointers ccontrol rbase rpointers rcontrol =
    at_word (λ a. global_in control (left_by a 0x7FFF 0x7FFF0000 wake) interrupts clock cbase cpointers ccontrol rbase rpointers rcontrol
    ≡ global_written shape a (global_in control wake interrupts clock cbase cpointers ccontrol rbase rpointers rcontrol)) a 3 e
    (rw (written_part 0 15 a inside 0x7FFF 0x7FFF0000 wake refl refl, cleared_part 16 15 a inside 0x7FFF 0x7FFF0000 wake refl refl))

pub interrupts_word : (shape : Shape) (a : Access) → a.word ≡ 8 → bit_and a.written a.covered ≡ a.written → (control wake interrupts clock cbase cpointers ccontrol rbase rpointers rcontrol : ℕ)
    → global_in control wake (left_by a 0xC0000003 0 interrupts) clock cbase cpointers ccontrol rbase rpointers rcontrol
    ≡ global_written shape a (global_in control wake interrupts clock cbase cpointers ccontrol rbase rpointers rcontrol)
unfolding global_written
interrupts_word shape a e inside control wake interrupts clock cbase cpointers ccontrol rbase rpointers rcontrol =
    at_word (λ a. global_in control wake (left_by a 0xC0000003 0 interrupts) clock cbase cpointers ccontrol rbase rpointers rcontrol
    ≡ global_written shape a (global_in control wake interrupts clock cbase cpointers ccontrol rbase rpointers rcontrol)) a 8 e
    (rw (written_part 0 1 a inside 0xC0000003 0 interrupts refl refl, written_part 1 1 a inside 0xC0000003 0 interrupts refl refl, written_part 30 1 a inside 0xC0000003 0 interrupts refl refl, written_part 31 1 a inside 0xC0000003 0 interrupts refl refl))

pub corb_base_word : (shape : Shape) (a : Access) → a.word ≡ 16 → bit_and a.written a.covered ≡ a.written → (control wake interrupts clock cbase cpointers ccontrol rbase rpointers rcontrol : ℕ)
    → global_in control wake interrupts clock (left_by a 0xFFFFFF80 0 cbase) cpointers ccontrol rbase rpointers rcontrol
    ≡ global_written shape a (global_in control wake interrupts clock cbase cpointers ccontrol rbase rpointers rcontrol)
unfolding global_written
corb_base_word shape a e inside control wake interrupts clock cbase cpointers ccontrol rbase rpointers rcontrol =
    at_word (λ a. global_in control wake interrupts clock (left_by a 0xFFFFFF80 0 cbase) cpointers ccontrol rbase rpointers rcontrol
    ≡ global_written shape a (global_in control wake interrupts clock cbase cpointers ccontrol rbase rpointers rcontrol)) a 16 e
    (rw (written_part 7 25 a inside 0xFFFFFF80 0 cbase refl refl))

pub corb_control_word : (shape : Shape) (a : Access) → a.word ≡ 19 → bit_and a.written a.covered ≡ a.written → (control wake interrupts clock cbase cpointers ccontrol rbase rpointers rcontrol : ℕ)
    → global_in control wake interrupts clock cbase cpointers (left_by a 0x3 0 ccontrol) rbase rpointers rcontrol
    ≡ global_written shape a (global_in control wake interrupts clock cbase cpointers ccontrol rbase rpointers rcontrol)
unfolding global_written
corb_control_word shape a e inside control wake interrupts clock cbase cpointers ccontrol rbase rpointers rcontrol =
    at_word (λ a. global_in control wake interrupts clock cbase cpointers (left_by a 0x3 0 ccontrol) rbase rpointers rcontrol
    ≡ global_written shape a (global_in control wake interrupts clock cbase cpointers ccontrol rbase rpointers rcontrol)) a 19 e
    (rw (written_part 0 1 a inside 0x3 0 ccontrol refl refl, written_part 1 1 a inside 0x3 0 ccontrol refl refl))

pub rirb_base_word : (shape : Shape) (a : Access) → a.word ≡ 20 → bit_and a.written a.covered ≡ a.written → (control wake interrupts clock cbase cpointers ccontrol rbase rpointers rcontrol : ℕ)
    → global_in control wake interrupts clock cbase cpointers ccontrol (left_by a 0xFFFFFF80 0 rbase) rpointers rcontrol
    ≡ global_written shape a (global_in control wake interrupts clock cbase cpointers ccontrol rbase rpointers rcontrol)
unfolding global_written
rirb_base_word shape a e inside control wake interrupts clock cbase cpointers ccontrol rbase rpointers rcontrol =
    at_word (λ a. global_in control wake interrupts clock cbase cpointers ccontrol (left_by a 0xFFFFFF80 0 rbase) rpointers rcontrol
    ≡ global_written shape a (global_in control wake interrupts clock cbase cpointers ccontrol rbase rpointers rcontrol)) a 20 e
    (rw (written_part 7 25 a inside 0xFFFFFF80 0 rbase refl refl))

pub rirb_control_word : (shape : Shape) (a : Access) → a.word ≡ 23 → bit_and a.written a.covered ≡ a.written → (control wake interrupts clock cbase cpointers ccontrol rbase rpointers rcontrol : ℕ)
    → global_in control wake interrupts clock cbase cpointers ccontrol rbase rpointers (left_by a 0x7 0x100 rcontrol)
    ≡ global_written shape a (global_in control wake interrupts clock cbase cpointers ccontrol rbase rpointers rcontrol)
unfolding global_written
rirb_control_word shape a e inside control wake interrupts clock cbase cpointers ccontrol rbase rpointers rcontrol =
    at_word (λ a. global_in control wake interrupts clock cbase cpointers ccontrol rbase rpointers (left_by a 0x7 0x100 rcontrol)
    ≡ global_written shape a (global_in control wake interrupts clock cbase cpointers ccontrol rbase rpointers rcontrol)) a 23 e
    (rw (written_part 0 1 a inside 0x7 0x100 rcontrol refl refl, written_part 1 1 a inside 0x7 0x100 rcontrol refl refl, written_part 2 1 a inside 0x7 0x100 rcontrol refl refl, cleared_part 8 1 a inside 0x7 0x100 rcontrol refl refl))

pub corb_pointers_word : (shape : Shape) (a : Access) → a.word ≡ 18 → (control wake interrupts clock cbase cpointers ccontrol rbase rpointers rcontrol result : ℕ)
    → part 0 8 result ≡ ruled a (global_row shape CorbWritePointer) (part 0 8 cpointers)
    → part 16 8 result ≡ ruled a (global_row shape CorbReadPointer) (part 16 8 cpointers)
    → part 31 1 result ≡ ruled a (global_row shape CorbPointerReset) (part 31 1 cpointers)
    → global_in control wake interrupts clock cbase result ccontrol rbase rpointers rcontrol
    ≡ global_written shape a (global_in control wake interrupts clock cbase cpointers ccontrol rbase rpointers rcontrol)
unfolding global_written
corb_pointers_word shape a e control wake interrupts clock cbase cpointers ccontrol rbase rpointers rcontrol result =
    at_word (λ a. part 0 8 result ≡ ruled a (global_row shape CorbWritePointer) (part 0 8 cpointers) → part 16 8 result ≡ ruled a (global_row shape CorbReadPointer) (part 16 8 cpointers) → part 31 1 result ≡ ruled a (global_row shape CorbPointerReset) (part 31 1 cpointers) → global_in control wake interrupts clock cbase result ccontrol rbase rpointers rcontrol
    ≡ global_written shape a (global_in control wake interrupts clock cbase cpointers ccontrol rbase rpointers rcontrol)) a 18 e
    (λ h0 h1 h2. rw (h0, h1, h2))

pub rirb_pointers_word : (shape : Shape) (a : Access) → a.word ≡ 22 → (control wake interrupts clock cbase cpointers ccontrol rbase rpointers rcontrol result : ℕ)
    → part 0 8 result ≡ ruled a (global_row shape RirbWritePointer) (part 0 8 rpointers)
    → part 16 8 result ≡ ruled a (global_row shape ResponseCount) (part 16 8 rpointers)
    → global_in control wake interrupts clock cbase cpointers ccontrol rbase result rcontrol
    ≡ global_written shape a (global_in control wake interrupts clock cbase cpointers ccontrol rbase rpointers rcontrol)
unfolding global_written
rirb_pointers_word shape a e control wake interrupts clock cbase cpointers ccontrol rbase rpointers rcontrol result =
    at_word (λ a. part 0 8 result ≡ ruled a (global_row shape RirbWritePointer) (part 0 8 rpointers) → part 16 8 result ≡ ruled a (global_row shape ResponseCount) (part 16 8 rpointers) → global_in control wake interrupts clock cbase cpointers ccontrol rbase result rcontrol
    ≡ global_written shape a (global_in control wake interrupts clock cbase cpointers ccontrol rbase rpointers rcontrol)) a 22 e
    (λ h0 h1. rw (h0, h1))

-- a word of no group that a write moves
pub other_word : (shape : Shape) (a : Access) (g : Global)
    → a.word ≢ 2 → a.word ≢ 3 → a.word ≢ 8 → a.word ≢ 16 → a.word ≢ 18 → a.word ≢ 19 → a.word ≢ 20 → a.word ≢ 22 → a.word ≢ 23
    → g ≡ global_written shape a g
unfolding global_written
other_word shape a g n2 n3 n8 n16 n18 n19 n20 n22 n23 =
    rw (other 2 a.word n2, other 3 a.word n3, other 8 a.word n8, other 16 a.word n16, other 18 a.word n18, other 19 a.word n19, other 20 a.word n20, other 22 a.word n22, other 23 a.word n23, same-if (12 == a.word) g.wall_clock)
