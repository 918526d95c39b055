-- A file's sound that is read while it is taken.
use Rattle.std.specs.Prelude.{◌≡◌, ◌≤◌, ◌+◌, ◌-◌, ◌%◌, drop, length, string_bytes, vec_len, Some, None}
use Rattle.std.specs.Prelude.{if◌then◌else◌}
use Rattle.stream_format.specs.Cadence.{block_bytes}
use Rattle.wav_reader.specs.declared.streams.Stream.{Stream}
use Rattle.wav_reader.specs.declared.supply.Origin.{Origin}
use Rattle.wav_reader.specs.declared.supply.Origin.TheVariants.{Whole, Streamed}
use Rattle.wav_reader.specs.Opening.{head_in_file, total_of}
use Rattle.wav_reader.specs.Supplies.{Source, Supplied}

-- pieces of the file have 4,096 bytes, and whole blocks are held at most
pub record IsStream (stream : Stream) : Type 0 where
  pub piece : vec_len stream.piece ≡ 4096
  pub room : length stream.held.items ≤ stream.held.capacity
  pub blocks : stream.held.capacity % block_bytes stream.file.head.format ≡ 0
  pub within : stream.taken + length stream.held.items ≤ total_of stream.file.head

-- where it reads more
abbrev pub source_of : Stream → Source
source_of stream = record {
  name = string_bytes stream.file.name;
  head = head_in_file stream.file.head;
  ring = stream.held.capacity;
}

-- what it is seen as
abbrev pub stream_seen : Stream → Supplied
stream_seen stream = record {
  held = stream.held.items;
  left = if stream.is_cut then length stream.held.items else total_of stream.file.head - stream.taken;
  taken = stream.taken;
  source = Some (source_of stream);
}

-- what a supply is seen as, by where its bytes come from
abbrev pub supplied_by : Origin → Supplied
supplied_by (Whole pcm taken) = record {
  held = drop taken pcm.items;
  left = length (drop taken pcm.items);
  taken = taken;
  source = None;
}
supplied_by (Streamed stream) = stream_seen stream

abbrev pub IsOrigin : Origin → Type 0
IsOrigin (Whole pcm taken) = taken ≤ length pcm.items
IsOrigin (Streamed stream) = IsStream stream
