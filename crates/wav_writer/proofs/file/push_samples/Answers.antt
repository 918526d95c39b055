use Rattle.wav_writer.proofs.Samples.{as_they_are}
use Rattle.wav_writer.proofs.file.push_samples.Goals as goal

pub returns-in-B16 : goal.returns-in-B16
returns-in-B16 c =
    as_they_are c.extend_from_slice.result c.args.bits c.args.file.now.items c.extend_from_slice.new.self.items _ c.args.ring.now c.in-B16.is c.requires c.extend_from_slice.ensures.items
