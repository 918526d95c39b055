-- What worked stretches are made of: three commands, a ring of two periods of 384 bytes, a FIFO of 192, and two frames
-- of sound of 48 kHz, 16 bits and two channels. This project's own.
use Rattle.std.specs.Prelude.{◌≡◌, ℕ, Bool, true, false, List, [], ◌∷◌, ◌++◌, replicate, Option, None, Some, refl}
use Rattle.std.proofs.Common.{lit≤}
use Rattle.hda_registers.specs.declared.shapes.RingSize.TheVariants.{Full}
use Rattle.hda_registers.specs.declared.shapes.Width.TheVariants.{One, Two, Four}
use Rattle.world_rings.specs.declared.response.Response.{Response}
use Rattle.stream_format.specs.declared.format.Format.{Format}
use Rattle.stream_format.specs.declared.format.Rate.TheVariants.{R48}
use Rattle.stream_format.specs.declared.format.Bits.TheVariants.{B16}
use Rattle.hda_world.specs.Worlds.{World}
use Rattle.hda_world.specs.Events.{Event, Begin, Read, Write, DmaRead, DmaWrite}
use Rattle.command_engine.specs.declared.ring_places.RingPlaces.{RingPlaces}
use Rattle.command_engine.specs.declared.answers.Outstanding.{Outstanding}
use Rattle.period_writer.specs.declared.geometry.Geometry.{Geometry}
use Rattle.period_writer.specs.declared.course.Ran.{Ran}
use Rattle.period_writer.specs.declared.course.Ran.TheVariants as ran
use Rattle.period_writer.specs.declared.course.Run.{Run}
use Rattle.period_writer.specs.Runs.{Tally, tally_opened}
use Rattle.driver_progress.specs.declared.phase.Phase.{Phase}
use Rattle.driver_progress.specs.declared.phase.Phase.TheVariants.{Settling}
use Rattle.driver_progress.specs.Tasks.{Order, Task, DriverLine}
use Rattle.driver_progress.specs.States.{State, state_opened}
use Rattle.driver_progress.specs.Progress.{Trail, trail_opened, trail_after, ended, Fits}

abbrev pub stereo : Format
stereo = record { rate = R48; bits = B16; channels = 2; even = refl; some = lit≤ tt; few = lit≤ tt }

abbrev pub small : Geometry
small = record {
  periods = 2;
  period = 1;
  fifo = 192;
  format = stereo;
  some_periods = lit≤ tt;
  few_periods = lit≤ tt;
  some = lit≤ tt;
  few = lit≤ tt;
  accepted = refl;
}

-- two commands of a walk and one of a set-up, all to codec 0
abbrev pub order : ℕ → Order
order word = record { codec = 0; word = word }

abbrev pub task : Task
task = record {
  orders = order 0x000F0000 ∷ order 0x000F0002 ∷ order 0x00170500 ∷ [];
  walks = 2;
  geometry = small;
  pcm = 1 ∷ 0 ∷ 2 ∷ 0 ∷ 3 ∷ 0 ∷ 255 ∷ 255 ∷ [];
  plays = true;
  blocks = record { corb = 0; rirb = 1024; list = 3072; periods = 3200 ∷ 3584 ∷ [] };
}

abbrev pub run : ℕ → List DriverLine
run budget = record { irq = false; budget = budget } ∷ []

abbrev pub irq : List DriverLine
irq = record { irq = true; budget = 0 } ∷ []

-- where the rings stand, and which word is outstanding since when
abbrev pub rings : (submitted read : ℕ) → Option Outstanding → RingPlaces
rings submitted read outstanding =
    record { corb = Full; rirb = Full; submitted = submitted; read = read; started = true; outstanding = outstanding }

abbrev pub asked : (word issued : ℕ) → Option Outstanding
asked word issued = Some (record { codec = 0; word = word; issued = issued })

abbrev pub at : Phase → (sent : ℕ) → RingPlaces → State
at phase sent places = record { phase = phase; kept = 0; sent = sent; rings = places; tally = tally_opened }

-- the trail of a stretch that has made these accesses, from a state on, with these lines left
abbrev pub trail_in : State → List DriverLine → List Event → World → Trail
trail_in state lines made world = trail_after task (Begin ∷ made) world (record (trail_opened lines) { state = state })

-- the stretch leads to the other state, and its accesses are those that were to be made
pub record LeadsTo (state : State) (lines : List DriverLine) (made : List Event) (world : World) (state' : State)
    : Type 0 where
  pub leads : (ended task (trail_in state lines made world)).state ≡ state'
  pub fits : Fits task (trail_in state lines made world)

-- in every world in which just these responses were written to RIRB
abbrev pub IsStretch : State → List DriverLine → List Event → List Response → State → Type 0
IsStretch state lines made responses state' = (world : World)
    → LeadsTo state lines made (record world { written = responses }) state'

abbrev pub response : (codec : ℕ) → (unsolicited : Bool) → Response
response codec unsolicited = record { codec = codec; answer = 0x04000000; unsolicited = unsolicited }

-- ---- the accesses

abbrev pub resetting : ℕ → List Event
resetting clock = Write 0x08 Four 0 ∷ Read 0x08 Four 0 ∷ Write 0x08 Four 0x101 ∷ Read 0x08 Four 0x101 ∷ Read 0x30 Four
    clock ∷ []

abbrev pub settling : (kept : ℕ) → State
settling kept = record state_opened { phase = Settling; kept = kept }

abbrev pub looking : ℕ → List Event
looking clock = Read 0x30 Four clock ∷ []

abbrev pub setting_rings : ℕ → List Event
setting_rings clock =
    Read 0x30 Four clock ∷ Read 0x0E Two 1 ∷ Read 0x4E One 0x42 ∷ Read 0x5E One 0x42 ∷ Write 0x0E Two 1 ∷ Write 0x40
    Four 0 ∷ Write 0x48 Two 0
    ∷ Write 0x4A Two 0x8000 ∷ Read 0x4A Two 0x8000 ∷ Write 0x4A Two 0 ∷ Read 0x4A Two 0 ∷ Write 0x4C One 2 ∷ Write 0x50
    Four 1024
    ∷ Write 0x58 Two 0x8000 ∷ Write 0x5A Two 128 ∷ Write 0x5C One 3 ∷ Write 0x20 Four 0xC0000000 ∷ []

-- a poll that finds RINTFL 0, and one that reads one entry
abbrev pub polling : ℕ → List Event
polling clock = Read 0x30 Four clock ∷ Read 0x5D One 0 ∷ []

abbrev pub reading : ℕ → List Event
reading clock =
    Read 0x30 Four clock ∷ Read 0x5D One 1 ∷ Read 0x58 Two 1 ∷ DmaRead 1032 (0 ∷ 0 ∷ 0 ∷ 4 ∷ 0x10 ∷ 0 ∷ 0 ∷ 0 ∷ []) ∷
    Write 0x5D One 1 ∷ []

abbrev pub submitting : List Event
submitting = DmaWrite 8 (2 ∷ 0 ∷ 15 ∷ 0 ∷ []) ∷ Write 0x48 Two 2 ∷ []

abbrev pub shutting : List Event
shutting = Write 0x4C One 0 ∷ Write 0x5C One 0 ∷ Write 0x08 Four 0 ∷ []

-- the first run at clock 12,500, which writes both frames
abbrev pub starting : List Event
starting =
    Read 0x30 Four 12500 ∷ Write 0xA0 One 1 ∷ Read 0xA0 One 1 ∷ Write 0xA0 One 0 ∷ Read 0xA0 One 0
    ∷ DmaWrite 3072 (128 ∷ 12 ∷ 0 ∷ 0 ∷ 0 ∷ 0 ∷ 0 ∷ 0 ∷ 128 ∷ 1 ∷ 0 ∷ 0 ∷ 1 ∷ 0 ∷ 0 ∷ 0 ∷ [])
    ∷ DmaWrite 3088 (0 ∷ 14 ∷ 0 ∷ 0 ∷ 0 ∷ 0 ∷ 0 ∷ 0 ∷ 128 ∷ 1 ∷ 0 ∷ 0 ∷ 1 ∷ 0 ∷ 0 ∷ 0 ∷ [])
    ∷ DmaWrite 3200 ((1 ∷ 0 ∷ 2 ∷ 0 ∷ 3 ∷ 0 ∷ 255 ∷ 255 ∷ []) ++ replicate 376 0) ∷ DmaWrite 3584 (replicate 384 0)
    ∷ Write 0xA8 Four 768 ∷ Write 0xAC Two 1 ∷ Write 0xB2 Two 0x11 ∷ Write 0xB8 Four 3072 ∷ Write 0xA0 Four 0x0010001C
    ∷ Write 0x20 Four 0xC0000002 ∷ Write 0xA0 One 0x1E ∷ Read 0x30 Four 12500 ∷ []

abbrev pub run_at : (at clock budget written : ℕ) → Run
run_at at clock budget written = record { at = at; from = clock; to = clock; budget = budget; written = written }

-- after it the line has 8 bytes of sound, and then silence
abbrev pub first_tally : Ran → Tally
first_tally how = record {
  runs = run_at 0 12500 8 8 ∷ [];
  silences = record { start = 8; end = 768 } ∷ [];
  course = record { started = true; at = 0; from = 12500; reach = 768; sure = 768; used = 8; sound_end = 8; ran = how };
}

abbrev pub plays : Phase → Tally → State
plays phase tally = record (at phase 3 (rings 3 1 None)) { tally = tally }

-- a later run at this clock, which finds the link at byte 16, and what comes after it
abbrev pub playing : (clock : ℕ) → List Event → List Event
playing clock later =
    Read 0x5D One 0 ∷ Read 0x30 Four clock ∷ Read 0xA4 Four 16 ∷ DmaWrite 3200 (replicate 16 0) ∷ Read 0x30 Four clock ∷
    later

-- the link played all sound: the line goes on by silence
abbrev pub second_tally : (clock : ℕ) → Tally
second_tally clock = record {
  runs = run_at 0 12500 8 8 ∷ run_at 16 clock 0 0 ∷ [];
  silences = record { start = 8; end = 784 } ∷ [];
  course = record {
    started = true;
    at = 16;
    from = clock;
    reach = 784;
    sure = 784;
    used = 8;
    sound_end = 8;
    ran = ran.Drained;
  };
}

-- after a first run that may write one frame the line has 4 bytes of sound, and then silence, of which so much is sure
abbrev pub short_tally : Ran → (sure : ℕ) → Tally
short_tally how sure = record {
  runs = run_at 0 12500 4 4 ∷ [];
  silences = record { start = 4; end = 768 } ∷ [];
  course = record {
    started = true;
    at = 0;
    from = 12500;
    reach = 768;
    sure = sure;
    used = 4;
    sound_end = 4;
    ran = how;
  };
}

-- a later run that writes the other frame at position 352, where silence stood, and silence past the line's end,
-- between these clocks; it finds the link at byte 16
abbrev pub taking_back : (from to : ℕ) → List Event → List Event
taking_back from to later =
    Read 0x5D One 0 ∷ Read 0x30 Four from ∷ Read 0xA4 Four 16 ∷ DmaWrite 3552 (3 ∷ 0 ∷ 255 ∷ 255 ∷ [])
    ∷ DmaWrite 3200 (replicate 16 0) ∷ Read 0x30 Four to ∷ later

-- silence up to 352, the frame, and silence up to the reach
abbrev pub back_tally : (from to : ℕ) → Tally
back_tally from to = record {
  runs = run_at 0 12500 4 4 ∷ record { at = 16; from = from; to = to; budget = 4; written = 4 } ∷ [];
  silences = record { start = 4; end = 352 } ∷ record { start = 356; end = 784 } ∷ [];
  course = record {
    started = true;
    at = 16;
    from = from;
    reach = 784;
    sure = 784;
    used = 8;
    sound_end = 356;
    ran = ran.Playing;
  };
}

abbrev pub stopping : List Event
stopping = Write 0xA0 One 0 ∷ []
