use Rattle.hda_model.proofs.laws.stands_for_one.Goals as goal

pub returns-clause-registers : goal.returns-clause-registers
returns-clause-registers c memory model forgotten world is = is.stands.registers_are

pub returns-clause-codecs : goal.returns-clause-codecs
returns-clause-codecs c memory model forgotten world is = is.stands.codecs_are

pub returns-clause-memory : goal.returns-clause-memory
returns-clause-memory c memory model forgotten world is = is.stands.memory_is

pub returns-clause-given : goal.returns-clause-given
returns-clause-given c memory model forgotten world is = is.stands.captured.given_is

pub returns-clause-came : goal.returns-clause-came
returns-clause-came c memory model forgotten world is = is.came
