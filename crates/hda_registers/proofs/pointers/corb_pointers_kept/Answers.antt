use Rattle.std.proofs.Common.{◌≡◌, ◌≢◌, refl, sym, ◌∙◌, lit≤}
use Rattle.std.proofs.lemmas.Bool.{ne_eqb}
use Rattle.hda_registers.specs.Access.{part}
use Rattle.hda_registers.proofs.Groups.{written_part, kept_part, lowest, reduced_low, reduced_high}
use Rattle.hda_registers.proofs.pointers.corb_pointers_kept.Goals as goal

pub returns-then-access-eq0-clause-write_pointer : goal.returns-then-access-eq0-clause-write_pointer
returns-then-access-eq0-clause-write_pointer c =
    let none : part 0 8 c.args.access.covered ≡ 0 = sym (lowest c.args.access.covered) ∙ c.if-access-eq0.true in
    rw (c.leaves-word.ensures, written_part 0 8 c.args.access c.requires 0x800000FF 0 c.args.old refl refl, none) refl

pub returns-then-access-eq0-clause-read_pointer : goal.returns-then-access-eq0-clause-read_pointer
returns-then-access-eq0-clause-read_pointer c =
    rw c.leaves-word.ensures (kept_part 16 8 c.args.access 0x800000FF 0 c.args.old refl refl)

pub returns-then-access-eq0-clause-pointer_reset : goal.returns-then-access-eq0-clause-pointer_reset
returns-then-access-eq0-clause-pointer_reset c =
    rw c.leaves-word.ensures (written_part 31 1 c.args.access c.requires 0x800000FF 0 c.args.old refl refl)

pub returns-else-access-eq0-clause-write_pointer : goal.returns-else-access-eq0-clause-write_pointer
returns-else-access-eq0-clause-write_pointer c =
    let some : part 0 8 c.args.access.covered ≢ 0 = λ e. c.if-access-eq0.false (lowest c.args.access.covered ∙ e) in
    rw (reduced_low c.leaves-word.result c.from.result, c.from.ensures, c.entries.ensures, c.leaves-word.ensures, written_part 0 8 c.args.access c.requires 0x800000FF 0 c.args.old refl refl, ne_eqb (part 0 8 c.args.access.covered) 0 some) refl

pub returns-else-access-eq0-clause-read_pointer : goal.returns-else-access-eq0-clause-read_pointer
returns-else-access-eq0-clause-read_pointer c =
    rw (reduced_high 16 8 c.leaves-word.result c.from.result (lit≤ tt) refl, c.leaves-word.ensures) (kept_part 16 8 c.args.access 0x800000FF 0 c.args.old refl refl)

pub returns-else-access-eq0-clause-pointer_reset : goal.returns-else-access-eq0-clause-pointer_reset
returns-else-access-eq0-clause-pointer_reset c =
    rw (reduced_high 31 1 c.leaves-word.result c.from.result (lit≤ tt) refl, c.leaves-word.ensures) (written_part 31 1 c.args.access c.requires 0x800000FF 0 c.args.old refl refl)
