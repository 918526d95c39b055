use Rattle.std.proofs.lemmas.List.{take_rest}
use Rattle.wav_reader.proofs.formats.has_pcm_subformat.Goals as goal

pub returns-then-body-ge-SUBFORMAT : goal.returns-then-body-ge-SUBFORMAT
returns-then-body-ge-SUBFORMAT c = rw take_rest at c.starts_with.ensures.value
