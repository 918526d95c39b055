use Rattle.std.proofs.Common.{refl, sym, ◌∙◌}
use Rattle.hda_registers.proofs.Groups.{written_part, kept_part, masked_whole, masked_away, zeroed, not_zeroed}
use Rattle.hda_registers.proofs.pointers.rirb_pointers_after.Goals as goal

pub returns-then-access-eq0-clause-write_pointer : goal.returns-then-access-eq0-clause-write_pointer
returns-then-access-eq0-clause-write_pointer c =
    rw (c.leaves-word.ensures, not_zeroed c.args.access 15 _ c.if-access-eq0.true) (kept_part 0 8 c.args.access 0xFF0000 0 c.args.old refl refl)

pub returns-then-access-eq0-clause-count : goal.returns-then-access-eq0-clause-count
returns-then-access-eq0-clause-count c =
    rw c.leaves-word.ensures (written_part 16 8 c.args.access c.requires 0xFF0000 0 c.args.old refl refl)

pub returns-else-access-eq0-clause-write_pointer : goal.returns-else-access-eq0-clause-write_pointer
returns-else-access-eq0-clause-write_pointer c =
    masked_away 0 8 c.leaves-word.result 0xFFFFFF00 refl ∙ sym (zeroed c.args.access 15 _ c.requires c.if-access-eq0.false)

pub returns-else-access-eq0-clause-count : goal.returns-else-access-eq0-clause-count
returns-else-access-eq0-clause-count c =
    rw (masked_whole 16 8 c.leaves-word.result 0xFFFFFF00 refl, c.leaves-word.ensures)
    (written_part 16 8 c.args.access c.requires 0xFF0000 0 c.args.old refl refl)
