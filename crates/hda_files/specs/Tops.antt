-- The top table of a codec file. This project's own; the sizes of the rings are those of High Definition Audio 1.0a,
-- 3.3.24 and 3.3.31.
use Rattle.std.specs.Prelude.{ℕ, ◌==◌, List, [], Option, Some, None, Result, Ok, if◌then◌else◌}
use Rattle.std.specs.Option.{ok_or}
use Rattle.toml.specs.Data.{Members}
use Rattle.hda_files.specs.declared.top.RingSize.{RingSize}
use Rattle.hda_files.specs.declared.top.RingSize.TheVariants.{Two, Sixteen, Full}
use Rattle.hda_files.specs.declared.top.MachineTable.{MachineTable}
use Rattle.hda_files.specs.declared.codec.CodecTable.{CodecTable}
use Rattle.hda_files.specs.declared.fault.Place.TheVariants.{Top}
use Rattle.hda_files.specs.declared.fault.Key.{Key}
use Rattle.hda_files.specs.declared.fault.Key.TheVariants.{Fifo, Corb, Rirb, Codec}
use Rattle.hda_files.specs.declared.fault.FileFault.{FileFault}
use Rattle.hda_files.specs.declared.fault.FileFault.TheVariants.{OutOfRange}
use Rattle.hda_files.specs.Values.{◌>>=◌, number_or, most_word, tables_at}
use Rattle.hda_files.specs.Codecs.{codecs_after}

-- the size of a ring with so many entries, if a ring can have so many
abbrev pub ring_size : ℕ → Option RingSize
ring_size entries = if entries == 2 then Some Two else
    (if entries == 16 then Some Sixteen else (if entries == 256 then Some Full else None))

-- the size of a ring, 256 entries where it is not given
abbrev pub ring_size_at : Members → Key → Result RingSize FileFault
ring_size_at top key = do
  entries ← number_or top Top key 0 most_word 256
  ok_or (ring_size entries) (OutOfRange Top key)

-- the codecs in the file's order; a file has one to four
abbrev pub codecs_at : Members → Result (List CodecTable) FileFault
codecs_at top = do
  tables ← tables_at top Top Codec 4
  codecs_after [] tables

-- what a file's top table says of the machine, or the first fault of its keys
abbrev pub machine_table_of : Members → Result MachineTable FileFault
machine_table_of top = do
  fifo ← number_or top Top Fifo 8 4096 192
  corb ← ring_size_at top Corb
  rirb ← ring_size_at top Rirb
  codecs ← codecs_at top
  Ok (record { fifo = fifo; corb = corb; rirb = rirb; codecs = codecs })
