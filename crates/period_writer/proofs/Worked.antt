-- Worked runs: a ring of two periods of 384 bytes, a FIFO of 192, and sound of 48 kHz, 16 bits and two channels.
use Rattle.std.proofs.Common.{◌≡◌, ℕ, [], ◌∷◌, Some, None, refl, true, arith}
use Rattle.stream_format.specs.declared.format.Format.{Format}
use Rattle.stream_format.specs.declared.format.Rate.{Rate}
use Rattle.stream_format.specs.declared.format.Rate.TheVariants.{R48, R192}
use Rattle.stream_format.specs.declared.format.Bits.TheVariants.{B16}
use Rattle.period_writer.specs.declared.geometry.GeometryFault.TheVariants.{FifoTooSmall, RingTooSmall}
use Rattle.period_writer.specs.declared.course.Run.{Run}
use Rattle.period_writer.specs.declared.course.Span.{Span}
use Rattle.period_writer.specs.declared.course.Ran.TheVariants.{Playing, Drained, Late}
use Rattle.period_writer.specs.Rings.{limit_of, slack_of, ahead_of, blocks_up, ring_bytes, fault_of}
use Rattle.period_writer.specs.Runs.{Measures, Stretch, tally_of_stretches}
use Rattle.period_writer.specs.Lines.{line_of}

abbrev stereo : Rate → Format
stereo rate = record { rate = rate; bits = B16; channels = 2; even = refl; some = omega arith; few = omega arith }

-- the ring has 768 bytes, and 144 link frames may pass: at 192 kHz 36
pub ring : ring_bytes 2 1 ≡ 768
ring = refl

pub limit : limit_of 2 1 192 (stereo R48) ≡ 144
limit = refl

pub limit_192 : limit_of 2 1 192 (stereo R192) ≡ 36
limit_192 = refl

pub accepted : fault_of 2 1 192 (stereo R48) ≡ None
accepted = refl

-- 36 link frames while silence is taken back, which begins 336 bytes past the link
pub slack : slack_of 2 1 192 (stereo R48) ≡ 36
slack = refl

pub ahead : ahead_of 2 1 192 (stereo R48) ≡ 336
ahead = refl

-- a FIFO of 200 bytes counts 224 for blocks of 32, and one of 192 counts 192
pub up : blocks_up 32 200 ≡ 224
up = refl

pub up_whole : blocks_up 32 192 ≡ 192
up_whole = refl

-- a FIFO as large as the ring, and one that is smaller than a frame of 192 kHz
pub whole_ring : fault_of 2 1 768 (stereo R48) ≡ Some RingTooSmall
whole_ring = refl

pub small_fifo : fault_of 2 1 8 (stereo R192) ≡ Some FifoTooSmall
small_fifo = refl

abbrev small : Measures
small = record { ring = 768; block = 4; limit = 144; slack = 36; ahead = 336 }

abbrev first : ℕ → ℕ → Stretch
first budget clock = record { budget = budget; clocks = clock ∷ clock ∷ []; lpibs = [] }

abbrev lasting : (budget lpib from to : ℕ) → Stretch
lasting budget lpib from to = record { budget = budget; clocks = from ∷ to ∷ []; lpibs = lpib ∷ [] }

abbrev later : (budget lpib clock : ℕ) → Stretch
later budget lpib clock = lasting budget lpib clock clock

abbrev run : (at from to budget written : ℕ) → Run
run at from to budget written = record { at = at; from = from; to = to; budget = budget; written = written }

abbrev silence : (start end : ℕ) → Span
silence start end = record { start = start; end = end }

-- two frames of sound: the second run finds them played
pub short_sound : tally_of_stretches small 8 (first 8 12500 ∷ later 0 16 14500 ∷ []) ≡ record {
  runs = run 0 12500 12500 8 8 ∷ run 16 14500 14500 0 0 ∷ [];
  silences = silence 8 784 ∷ [];
  course = record { started = true; at = 16; from = 14500; reach = 784; sure = 784; used = 8; sound_end = 8; ran = Drained };
}
short_sound = refl

-- just on time: 144 frames after the first run, when 576 bytes were sent, and then one more run, which finds the link at the ring's start
pub on_time_tally : tally_of_stretches small 768 (first 768 12500 ∷ later 768 576 84500 ∷ later 0 0 108500 ∷ []) ≡ record {
  runs = run 0 12500 12500 768 768 ∷ run 576 84500 84500 768 0 ∷ run 768 108500 108500 0 0 ∷ [];
  silences = silence 768 1536 ∷ [];
  course = record { started = true; at = 768; from = 108500; reach = 1536; sure = 1536; used = 768; sound_end = 768; ran = Drained };
}
on_time_tally = refl

-- one link frame later the second run is late
pub late_tally : tally_of_stretches small 768 (first 768 12500 ∷ later 768 576 85000 ∷ later 0 0 108500 ∷ []) ≡ record {
  runs = run 0 12500 12500 768 768 ∷ [];
  silences = [];
  course = record { started = true; at = 0; from = 12500; reach = 768; sure = 768; used = 768; sound_end = 768; ran = Late 12500 85000 144 };
}
late_tally = refl

-- the second run takes back silence from 720 on, 336 bytes past the link
pub taken_back : tally_of_stretches small 784 (first 400 12500 ∷ later 1000 384 60500 ∷ later 0 0 108500 ∷ later 0 384 156500 ∷ []) ≡ record {
  runs = run 0 12500 12500 400 400 ∷ run 384 60500 60500 1000 384 ∷ run 768 108500 108500 0 0 ∷ run 1152 156500 156500 0 0 ∷ [];
  silences = silence 400 720 ∷ silence 1104 1920 ∷ [];
  course = record { started = true; at = 1152; from = 156500; reach = 1920; sure = 1920; used = 784; sound_end = 1104; ran = Drained };
}
taken_back = refl

-- the run that takes back lasts 37 link frames: it is late, and the line stays what it was, sure up to the turn place
pub too_slow : tally_of_stretches small 784 (first 400 12500 ∷ lasting 1000 384 60500 79000 ∷ []) ≡ record {
  runs = run 0 12500 12500 400 400 ∷ [];
  silences = silence 400 768 ∷ [];
  course = record { started = true; at = 0; from = 12500; reach = 768; sure = 720; used = 400; sound_end = 400; ran = Late 60500 79000 36 };
}
too_slow = refl

-- 36 link frames are in time, and the closing run finds the link at 528
pub in_time : tally_of_stretches small 784 (first 400 12500 ∷ lasting 1000 384 60500 78500 ∷ later 0 528 78500 ∷ []) ≡ record {
  runs = run 0 12500 12500 400 400 ∷ run 384 60500 78500 1000 384 ∷ run 528 78500 78500 0 0 ∷ [];
  silences = silence 400 720 ∷ silence 1104 1296 ∷ [];
  course = record { started = true; at = 528; from = 78500; reach = 1296; sure = 1296; used = 784; sound_end = 1104; ran = Playing };
}
in_time = refl

-- a run that writes less than it might take back leaves silence after it
pub some_back : tally_of_stretches small 784 (first 400 12500 ∷ later 8 384 60500 ∷ later 400 388 61000 ∷ []) ≡ record {
  runs = run 0 12500 12500 400 400 ∷ run 384 60500 60500 8 8 ∷ run 388 61000 61000 400 376 ∷ [];
  silences = silence 400 720 ∷ silence 1104 1156 ∷ [];
  course = record { started = true; at = 388; from = 61000; reach = 1156; sure = 1156; used = 784; sound_end = 1104; ran = Playing };
}
some_back = refl

-- a budget below a block writes nothing, and the link may stand still
pub no_block : tally_of_stretches small 8 (first 3 12500 ∷ later 0 0 12500 ∷ []) ≡ record {
  runs = run 0 12500 12500 3 0 ∷ run 0 12500 12500 0 0 ∷ [];
  silences = silence 0 768 ∷ [];
  course = record { started = true; at = 0; from = 12500; reach = 768; sure = 768; used = 0; sound_end = 0; ran = Playing };
}
no_block = refl

-- no sound at all: the second run has drained
pub no_sound : tally_of_stretches small 0 (first 8 12500 ∷ later 0 0 12500 ∷ []) ≡ record {
  runs = run 0 12500 12500 8 0 ∷ run 0 12500 12500 0 0 ∷ [];
  silences = silence 0 768 ∷ [];
  course = record { started = true; at = 0; from = 12500; reach = 768; sure = 768; used = 0; sound_end = 0; ran = Drained };
}
no_sound = refl

-- four runs over a longer sound
pub streamed : tally_of_stretches small 1600 (first 768 12500 ∷ later 768 576 84500 ∷ later 0 0 108500 ∷ later 0 0 108500 ∷ []) ≡ record {
  runs = run 0 12500 12500 768 768 ∷ run 576 84500 84500 768 576 ∷ run 768 108500 108500 0 0 ∷ run 768 108500 108500 0 0 ∷ [];
  silences = silence 1344 1536 ∷ [];
  course = record { started = true; at = 768; from = 108500; reach = 1536; sure = 1536; used = 1344; sound_end = 1344; ran = Playing };
}
streamed = refl

-- the bytes of a line that is cut: a ring of 12 bytes, of which 6 are past the turn place
pub short_line : (a b c d : ℕ) → line_of (tally_of_stretches (record { ring = 12; block = 2; limit = 4; slack = 1; ahead = 6 }) 4 (first 2 0 ∷ later 2 0 0 ∷ [])) (a ∷ b ∷ c ∷ d ∷ []) ≡ a ∷ b ∷ 0 ∷ 0 ∷ 0 ∷ 0 ∷ c ∷ d ∷ 0 ∷ 0 ∷ 0 ∷ 0 ∷ []
short_line a b c d = refl
