use Rattle.std.proofs.Common.{refl}
use Rattle.dump_reader.specs.Operands.{digital_in}
use Rattle.dump_reader.proofs.operands.digital_in.Goals as goal

pub returns : goal.returns
unfolding digital_in
returns c =
    rw (
      c.worth_byte-enabled.ensures.value,
      c.worth_byte-validity.ensures.value,
      c.worth_byte-configuration.ensures.value,
      c.worth_byte-emphasis.ensures.value,
      c.copyright_in-copyright.ensures.value,
      c.worth_byte-audio.ensures.value,
      c.worth_byte-professional.ensures.value,
      c.worth_byte-level.ensures.value,
      c.as_slice.ensures,
      c.as_slice-2.ensures,
      c.as_slice-3.ensures,
      c.as_slice-4.ensures,
      c.as_slice-5.ensures,
      c.as_slice-6.ensures,
      c.as_slice-7.ensures,
    ) refl
