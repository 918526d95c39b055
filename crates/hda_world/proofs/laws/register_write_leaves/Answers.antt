use Rattle.hda_world.proofs.Leaving.{access_leaves, write_memory, write_registers, plain_write, rising_write, reset_write}
use Rattle.hda_world.proofs.laws.register_write_leaves.Goals as goal

pub returns : goal.returns
returns c = record { memory = write_memory; codecs = access_leaves; registers = write_registers; resetting = reset_write; plain = plain_write; rising = rising_write }
