use Rattle.wav_reader.specs.Opening.{head_in_file}
use Rattle.wav_reader.proofs.Callers.{form_of}
use Rattle.wav_reader.proofs.PlaceLemmas.{total_few}
use Rattle.wav_reader.proofs.streams.Stream.new.Goals as goal

pub invariant_of-result : goal.invariant_of-result
invariant_of-result c =
    record {
      short = c.requires.short;
      within = c.requires.within;
      few = total_few (head_in_file c.args.head) c.args.head.length (form_of c.args.head) c.requires.within c.requires.short;
    }
