use Rattle.wav_reader.proofs.RingLemmas.{part-few}
use Rattle.wav_reader.proofs.slots.few_of.Goals as goal

pub returns : goal.returns
returns c =
    rw (c.group_of.ensures, c.copy_from_slice.ensures.after)
    (part-few c.args.mono c.args.bits c.args.samples.now _ c.requires.few)
