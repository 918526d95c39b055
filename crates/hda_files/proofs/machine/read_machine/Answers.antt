use Rattle.std.proofs.Common.{Err, rules}
use Rattle.toml.specs.View.{table_view}
use Rattle.hda_files.specs.declared.fault.FileFault.TheVariants.{Toml}
use Rattle.hda_files.proofs.Readings.{Reads-from_table}
use Rattle.hda_files.proofs.OneReading.{IsOnlyReading-from_reads}
use Rattle.hda_files.proofs.machine.read_machine.Goals as goal

pub returns-in-Ok-clause-reading : goal.returns-in-Ok-clause-reading
returns-in-Ok-clause-reading c = Reads-from_table c.args.bytes.now (table_view c.in-Ok.top) c.read_top.result c.in-Ok.ensures.ok c.read_top.ensures.reading

pub returns-in-Ok-clause-only : goal.returns-in-Ok-clause-only
returns-in-Ok-clause-only c =
    IsOnlyReading-from_reads c.args.bytes.now c.read_top.result (Reads-from_table c.args.bytes.now (table_view c.in-Ok.top) c.read_top.result c.in-Ok.ensures.ok c.read_top.ensures.reading)

pub returns-in-Err-2-clause-only : goal.returns-in-Err-2-clause-only
returns-in-Err-2-clause-only c = IsOnlyReading-from_reads c.args.bytes.now (Err Toml) (search rules)
