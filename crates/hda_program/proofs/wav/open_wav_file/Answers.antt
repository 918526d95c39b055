use Rattle.std.proofs.Common.{inl, inr, refl}
use Rattle.std.specs.Prelude.{codes}
use Rattle.wav_reader.specs.FaultText.{wav_fault_text}
use Rattle.hda_program.proofs.ReadLemmas.{fault_told, head_told, longer_told}
use Rattle.hda_program.proofs.wav.open_wav_file.Goals as goal

pub returns-in-Ok-clause-read : goal.returns-in-Ok-clause-read
returns-in-Ok-clause-read g c = (
  record {
    file = head_told (g.S.Shelf.told c.args.shelf.now) c.args.name.now c.in-Ok.head c.in-Ok.ensures.exact;
    short = c.in-Ok.ensures.short;
    within = c.in-Ok.ensures.within;
  },
  c.in-Ok.ensures.given,
)

pub returns-in_ok-wav_refused-in-Err-TooLong-clause-read : goal.returns-in_ok-wav_refused-in-Err-TooLong-clause-read
returns-in_ok-wav_refused-in-Err-TooLong-clause-read g c =
    inr (codes "TooLong", inl (longer_told (g.S.Shelf.told c.args.shelf.now) c.args.name.now (rw c.in-Err-TooLong.field-0-is at c.in-Err-TooLong.ensures.exact), refl), c.in_ok-wav_refused-in-Err-TooLong.ensures)

pub returns-in_ok-faulty-in-Err-Wav-clause-read : goal.returns-in_ok-faulty-in-Err-Wav-clause-read
returns-in_ok-faulty-in-Err-Wav-clause-read g c =
    inr (
      wav_fault_text c.in-Err-Wav.fault,
      inr (record {
        fault = c.in-Err-Wav.fault;
        known = rw c.in-Err-Wav.field-0-is at c.in-Err-Wav.ensures.of_file;
        file = fault_told (g.S.Shelf.told c.args.shelf.now) c.args.name.now c.in-Err-Wav.fault (rw c.in-Err-Wav.field-0-is at c.in-Err-Wav.ensures.exact);
        says = refl;
      }),
      c.in_ok-faulty-in-Err-Wav.ensures,
    )
