use Rattle.hda_files.proofs.KeptLemmas.{machine_table-kept}
use Rattle.hda_files.proofs.laws.keeps_each_codec.Goals as goal

pub returns : goal.returns
returns c = λ top. machine_table-kept top
