-- What the output stream sent and fetched, entry by entry of a journal: High Definition Audio 1.0a, 3.3.7, 3.3.35 to
-- 3.3.38, 4.5 and 5.4.2. A meter follows the driver's own streams: one whose list of buffers breaks off is not
-- followed. This project's own.
use Rattle.std.specs.Prelude.{ℕ, zero, suc, ◌+◌, ◌-◌, ◌*◌, ◌^◌, ◌==◌, ◌&&◌, ◌||◌, Bool, true, false, not, min, nat_le}
use Rattle.std.specs.Prelude.{List, [], ◌∷◌, ◌++◌, if◌then◌else◌}
use Rattle.verb_codes.specs.Words.{has_bit}
use Rattle.hda_registers.specs.declared.places.TheConstants.{GCTL}
use Rattle.stream_format.specs.declared.format.Format.{Format}
use Rattle.stream_format.specs.Cadence.{block_bytes, blocks_of}
use Rattle.world_steps.specs.declared.Step.{Step}
use Rattle.world_steps.specs.declared.Step.TheVariants as step
use Rattle.hda_world.specs.declared.entry.Entry.{Entry}
use Rattle.hda_world.specs.declared.entry.Entry.TheVariants as entry
use Rattle.run_picture.specs.declared.meter.Meter.{Meter}
use Rattle.run_picture.specs.declared.meter.TheConstants.{CONTROL, POSITION, LENGTH}

-- so many more: a count stops at the greatest number of 64 bits
abbrev pub more : (count by : ℕ) → ℕ
more count by = min (count + by) (2 ^ 64 - 1)

-- before the first entry
abbrev pub meter_opened : Meter
meter_opened = record {
  awake = false;
  time = 0;
  running = false;
  frame = 0;
  ring = 0;
  sent = 0;
  fetched = 0;
  items = 0;
  missed = false;
  runs = 0;
}

-- the bytes in the FIFO
abbrev pub held : Meter → ℕ
held m = m.fetched - m.sent

-- ---- link frames

-- a frame passed that took no blocks, and missed some or not
abbrev pub gone : Bool → Meter → Meter
gone missed m = record m { time = more m.time 1; frame = more m.frame 1; missed = missed }

-- one that took so many blocks, with so many bytes
abbrev pub took : (blocks bytes : ℕ) → Meter → Meter
took blocks bytes m = record (gone false m) { sent = more m.sent bytes; items = more m.items blocks }

-- one for which the FIFO held too little
abbrev pub starved : Meter → Meter
starved m = record (gone true m) { items = more m.items 1 }

-- a frame of the running stream in which so many blocks are due: they leave the FIFO all together, or none does
abbrev pub passed_due : (blocks bytes : ℕ) → Meter → Meter
passed_due blocks bytes m =
    if bytes == 0 then gone false m else (if nat_le bytes (held m) then took blocks bytes m else starved m)

abbrev pub passed : Format → Meter → Meter
passed format m =
    passed_due (blocks_of format.rate m.frame) (blocks_of format.rate m.frame * block_bytes format) m

-- so many frames without a stream that runs: they count while CRST is 1
abbrev pub waited : (frames : ℕ) → Meter → Meter
waited frames m = if m.awake then record m { time = more m.time frames } else m

-- ---- bytes, registers

-- a fetch brings at most so many bytes, and no more than there is room for
abbrev pub fed : (most fifo : ℕ) → Meter → Meter
fed most fifo m = record m { fetched = more m.fetched (min most (fifo - held m)) }

-- a write of GCTL: with CRST RUN falls
abbrev pub reset : (value : ℕ) → Meter → Meter
reset value m = record m { awake = has_bit value 0; running = has_bit value 0 && m.running }

-- RUN rose: nothing was sent and fetched, and the first run of the ring began
abbrev pub started : Meter → Meter
started m = record m {
  running = true;
  frame = 0;
  sent = 0;
  fetched = 0;
  missed = false;
  runs = more m.runs 1;
}

-- a write of the stream's control register
abbrev pub controlled : (value : ℕ) → Meter → Meter
controlled value m =
    if m.awake && has_bit value 1 && not m.running then started m
    else record m { running = has_bit value 1 && m.running }

-- a write of a register
abbrev pub written : (at value : ℕ) → Meter → Meter
written at value m =
    if at == GCTL then reset value m
    else (if at == CONTROL then controlled value m
    else (if at == LENGTH then record m { ring = value } else m))

-- a read of one: of LPIB, with which a run of the ring begins
abbrev pub read : (at : ℕ) → Meter → Meter
read at m = if at == POSITION && m.running then record m { runs = more m.runs 1 } else m

-- ---- entries

-- a step of the device in which no link frame passes
abbrev pub stepped : (fifo : ℕ) → Step → Meter → Meter
stepped fifo (step.Fetch stream most) m = if stream == 1 && m.running then fed most fifo m else m
stepped fifo step.Corb m = m
stepped fifo (step.Answer codec) m = m
stepped fifo (step.Lose codec) m = m
stepped fifo step.Rirb m = m
stepped fifo (step.Link frames) m = m
stepped fifo (step.Plug codec nid) m = m
stepped fifo (step.Unplug codec nid) m = m

-- an entry in which no link frame passes
abbrev pub told : (fifo : ℕ) → Entry → Meter → Meter
told fifo (entry.Step step) m = stepped fifo step m
told fifo (entry.Write at width value) m = written at value m
told fifo (entry.Read at width value) m = read at m
told fifo entry.Begin m = m
told fifo entry.End m = m
told fifo (entry.DmaRead number) m = m
told fifo (entry.DmaWrite number) m = m
