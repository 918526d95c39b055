use Rattle.hda_files.proofs.OneReading.{one_reading}
use Rattle.hda_files.proofs.laws.one_reading.Goals as goal

pub returns : goal.returns
returns c = λ bytes result reading other h. one_reading bytes result other reading h
