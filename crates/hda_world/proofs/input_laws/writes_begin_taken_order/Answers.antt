use Rattle.hda_world.proofs.TakenWrites.{write_begins_taken_order, write_keeps_taken_order, write_keeps_came}
use Rattle.hda_world.proofs.input_laws.writes_begin_taken_order.Goals as goal

pub returns : goal.returns
returns c = record {
  begins = λ world at value width rises. write_begins_taken_order world at value width rises;
  stays = λ world at value width rises. write_keeps_came world at value width rises;
  keeps = λ world at value width rises holds. write_keeps_taken_order world at value width rises holds;
}
