-- A fault of reading a dump, as a fault of the dump.
use Rattle.dump_reader.specs.declared.fault.ReadFault.{ReadFault}
use Rattle.dump_reader.specs.declared.fault.ReadFault.TheVariants as read
use Rattle.codec_dump.specs.declared.fault.DumpFault.{DumpFault}
use Rattle.codec_dump.specs.declared.fault.DumpFault.TheVariants as dump

abbrev pub read_fault : ReadFault → DumpFault
read_fault (read.Line line) = dump.Line line
read_fault (read.Modem line) = dump.Modem line
read_fault read.OutOfMemory = dump.OutOfMemory
