use Rattle.hda_world.proofs.TakenWrites.{write_begins_list}
use Rattle.hda_world.proofs.input_laws.inputs_begin_in_their_list.Goals as goal

pub returns : goal.returns
returns c = λ world at value width rises outside. write_begins_list world at value width rises outside
