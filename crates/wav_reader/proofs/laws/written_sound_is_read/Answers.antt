use Rattle.wav_reader.proofs.SoundLemmas.{heard_back}
use Rattle.wav_reader.proofs.laws.written_sound_is_read.Goals as goal

pub returns : goal.returns
returns c = λ sound frames small. heard_back sound frames small
