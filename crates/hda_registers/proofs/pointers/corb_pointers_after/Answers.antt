use Rattle.std.proofs.Common.{refl, sym, ◌∙◌}
use Rattle.hda_registers.proofs.Groups.{masked_whole, masked_away, zeroed, not_zeroed}
use Rattle.hda_registers.proofs.pointers.corb_pointers_after.Goals as goal

pub returns-then-access-eq0-clause-read_pointer : goal.returns-then-access-eq0-clause-read_pointer
returns-then-access-eq0-clause-read_pointer c =
    rw (not_zeroed c.args.access 31 _ c.if-access-eq0.true) c.corb_pointers_kept-word.ensures.read_pointer

pub returns-else-access-eq0-clause-write_pointer : goal.returns-else-access-eq0-clause-write_pointer
returns-else-access-eq0-clause-write_pointer c =
    rw (masked_whole 0 8 c.corb_pointers_kept-word.result 0xFF00FFFF refl) c.corb_pointers_kept-word.ensures.write_pointer

pub returns-else-access-eq0-clause-read_pointer : goal.returns-else-access-eq0-clause-read_pointer
returns-else-access-eq0-clause-read_pointer c =
    masked_away 16 8 c.corb_pointers_kept-word.result 0xFF00FFFF refl ∙ sym (zeroed c.args.access 31 _ c.requires c.if-access-eq0.false)

pub returns-else-access-eq0-clause-pointer_reset : goal.returns-else-access-eq0-clause-pointer_reset
returns-else-access-eq0-clause-pointer_reset c =
    rw (masked_whole 31 1 c.corb_pointers_kept-word.result 0xFF00FFFF refl) c.corb_pointers_kept-word.ensures.pointer_reset
