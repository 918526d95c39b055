-- The words of a dump's fault. This project's own.
use Rattle.std.specs.Prelude.{ℕ, List, ◌++◌, codes, decimal}
use Rattle.hda_files.specs.FaultText.{file_fault_text}
use Rattle.codec_dump.specs.declared.fault.DumpFault.{DumpFault}
use Rattle.codec_dump.specs.declared.fault.DumpFault.TheVariants.{Line, Modem, Codec, TooManyNodes, UnreadableList}
use Rattle.codec_dump.specs.declared.fault.DumpFault.TheVariants.{TooLong, Unlike, OutOfMemory}

abbrev pub line_text : ℕ → List ℕ
line_text line = codes "Line " ++ decimal line

abbrev pub dump_fault_text : DumpFault → List ℕ
dump_fault_text (Line line) = line_text line
dump_fault_text (Modem line) = line_text line ++ codes ": Modem"
dump_fault_text (Codec line fault) = line_text line ++ codes ": " ++ file_fault_text fault
dump_fault_text (TooManyNodes line) = line_text line ++ codes ": TooManyNodes"
dump_fault_text (UnreadableList line) = line_text line ++ codes ": UnreadableList"
dump_fault_text (TooLong line) = line_text line ++ codes ": TooLong"
dump_fault_text (Unlike line) = line_text line ++ codes ": Unlike"
dump_fault_text OutOfMemory = codes "out of memory"
