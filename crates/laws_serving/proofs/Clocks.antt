-- The clocks that a run reads, and how many link frames pass between them.
use Rattle.std.proofs.Common.{◌≡◌, ◌≢◌, ◌≤◌, ℕ, zero, suc, ◌+◌, ◌-◌, ◌*◌, ◌/◌, ◌%◌, ◌^◌, ◌==◌, Bool, true, false, List, [], ◌∷◌, ◌++◌, length, map, drop, refl, sym, ap, subst, ◌∙◌, arith, if◌then◌else◌}
use Rattle.std.specs.Prelude.{All, min}
use Rattle.std.specs.List.{range_with_len}
use Rattle.std.proofs.Math.Nat.{mod-eq_of_lt}
use Rattle.std.proofs.lemmas.List.Concat.{flat_map-append}
use Rattle.std.proofs.lemmas.List.Elements.{All-nil, All-cons, All-head, All-tail, All-append}
use Rattle.verb_codes.specs.Words.{has_bit}
use Rattle.hda_registers.specs.declared.shapes.Width.TheVariants.{One, Two, Four}
use Rattle.hda_registers.specs.declared.places.TheConstants.{WALCLK, RIRBWP, RIRBSTS}
use Rattle.hda_registers.specs.Fields.{entries_of}
use Rattle.hda_registers.proofs.Callers.{read-wall_clock}
use Rattle.world_rings.specs.declared.entries.TheConstants.{RESPONSE_BYTES}
use Rattle.hda_world.specs.Worlds.{World}
use Rattle.hda_world.specs.Events.{Event, Stepped, Begin, End, Read, Write, DmaRead, DmaWrite}
use Rattle.command_engine.specs.declared.ring_places.RingPlaces.{RingPlaces}
use Rattle.command_engine.specs.Polling.{new_entries}
use Rattle.period_writer.specs.Lines.{sound_and_silence}
use Rattle.period_writer.specs.Places.{touched, piece_write, line_writes}
use Rattle.period_writer.specs.Starting.{entry_write, entry_writes}
use Rattle.period_writer.specs.Playing.{writes_by}
use Rattle.driver_progress.specs.Requests.{Request, Gets, Puts, Fetches, Stores, requests_in, requests_of}
use Rattle.driver_progress.specs.Seen.{Seen, values_of, value_in}
use Rattle.driver_progress.specs.Expected.{fetches, polls}
use Rattle.rig.specs.Follows.{AreAccesses}
use Rattle.laws_serving.proofs.Requests.{IsAccess}
use Rattle.laws_serving.proofs.Rows.{CalmRow, row_split}
use Rattle.laws_serving.proofs.Notes.{ReadsNone, none_read}
use Rattle.laws_serving.proofs.Worlds.{IsTimed, IsBeside, timed_step, timed_row}
use Rattle.laws_serving.proofs.Engines.{at_first}

-- ---- accesses beside the clock and GCTL

-- neither is the wall clock read nor GCTL written
abbrev pub IsAside : Request → Type 0
IsAside (Gets at width) = (at == WALCLK) ≡ false
IsAside (Puts at width value) = at / 4 ≢ 2
IsAside (Fetches at count) = Unit {0}
IsAside (Stores at bytes) = Unit {0}

pub record AreAside (accesses : List Event) : Type 0 where
  pub beside : All IsBeside accesses
  pub no_clock : All (ReadsNone WALCLK) accesses

pub aside_accesses : (accesses : List Event) → AreAccesses accesses → All IsAside (requests_of accesses) → AreAside accesses
aside_accesses [] are aside = record { beside = All-nil IsBeside; no_clock = All-nil (ReadsNone WALCLK) }
aside_accesses (Stepped step ∷ accesses) are aside = absurd (let is = All-head IsAccess (Stepped step) accesses are in cc)
aside_accesses (Begin ∷ accesses) are aside = absurd (let is = All-head IsAccess Begin accesses are in cc)
aside_accesses (End ∷ accesses) are aside = absurd (let is = All-head IsAccess End accesses are in cc)
aside_accesses (Read at width value ∷ accesses) are aside =
    let rest = aside_accesses accesses (All-tail IsAccess (Read at width value) accesses are) (All-tail IsAside (Gets at width) (requests_of accesses) aside) in record {
      beside = All-cons IsBeside (Read at width value) accesses (tt, tt) rest.beside;
      no_clock = All-cons (ReadsNone WALCLK) (Read at width value) accesses (All-head IsAside (Gets at width) (requests_of accesses) aside) rest.no_clock;
    }
aside_accesses (Write at width value ∷ accesses) are aside =
    let rest = aside_accesses accesses (All-tail IsAccess (Write at width value) accesses are) (All-tail IsAside (Puts at width value) (requests_of accesses) aside) in record {
      beside = All-cons IsBeside (Write at width value) accesses (All-head IsAside (Puts at width value) (requests_of accesses) aside, tt) rest.beside;
      no_clock = All-cons (ReadsNone WALCLK) (Write at width value) accesses tt rest.no_clock;
    }
aside_accesses (DmaRead at bytes ∷ accesses) are aside =
    let rest = aside_accesses accesses (All-tail IsAccess (DmaRead at bytes) accesses are) (All-tail IsAside (Fetches at (length bytes)) (requests_of accesses) aside) in record {
      beside = All-cons IsBeside (DmaRead at bytes) accesses (tt, tt) rest.beside;
      no_clock = All-cons (ReadsNone WALCLK) (DmaRead at bytes) accesses tt rest.no_clock;
    }
aside_accesses (DmaWrite at bytes ∷ accesses) are aside =
    let rest = aside_accesses accesses (All-tail IsAccess (DmaWrite at bytes) accesses are) (All-tail IsAside (Stores at bytes) (requests_of accesses) aside) in record {
      beside = All-cons IsBeside (DmaWrite at bytes) accesses (tt, tt) rest.beside;
      no_clock = All-cons (ReadsNone WALCLK) (DmaWrite at bytes) accesses tt rest.no_clock;
    }

-- ---- writes of memory

pub both_aside : (front back : List Event) → All IsAside (requests_of front) → All IsAside (requests_of back) → All IsAside (requests_of (front ++ back))
both_aside front back first second = subst (All IsAside) (sym (flat_map-append requests_in front back)) (All-append IsAside (requests_of front) (requests_of back) first second)

pub entries_aside : (list : ℕ) (periods : List ℕ) (bytes : ℕ) → All IsAside (requests_of (entry_writes list periods bytes))
entries_aside list periods bytes = by (range_with_len 0 (length periods))
  where
    by : (indices : List ℕ) → All IsAside (requests_of (map (entry_write list periods bytes) indices))
    by [] = All-nil IsAside
    by (index ∷ indices) = All-cons IsAside _ (requests_of (map (entry_write list periods bytes) indices)) tt (by indices)

line_aside : (bytes : ℕ) (periods : List ℕ) (from to : ℕ) (written : List ℕ) → All IsAside (requests_of (line_writes bytes periods from to written))
line_aside bytes periods from to written = by (range_with_len (from / bytes) (touched bytes from to))
  where
    by : (indices : List ℕ) → All IsAside (requests_of (map (piece_write bytes periods from to written) indices))
    by [] = All-nil IsAside
    by (index ∷ indices) = All-cons IsAside _ (requests_of (map (piece_write bytes periods from to written) indices)) tt (by indices)

pub writes_aside : (bytes : ℕ) (periods : List ℕ) (start sound reach reach' : ℕ) (pcm : List ℕ) → All IsAside (requests_of (writes_by bytes periods start sound reach reach' pcm))
writes_aside bytes periods start sound reach reach' pcm =
    let to = min reach (start + sound) in
    let over = to - start in
    both_aside (line_writes bytes periods start to (sound_and_silence over over pcm)) (line_writes bytes periods reach reach' (sound_and_silence (sound - over) (reach' - reach) (drop over pcm)))
    (line_aside bytes periods start to (sound_and_silence over over pcm)) (line_aside bytes periods reach reach' (sound_and_silence (sound - over) (reach' - reach) (drop over pcm)))

-- ---- a poll

fetches_aside : (rirb size count place : ℕ) → All IsAside (fetches rirb size count place)
fetches_aside rirb size zero place = All-nil IsAside
fetches_aside rirb size (suc count) place = All-cons IsAside (Fetches (rirb + RESPONSE_BYTES * (place % size)) RESPONSE_BYTES) (fetches rirb size count (place + 1)) tt (fetches_aside rirb size count (place + 1))

-- what comes of a poll after its read of RIRBSTS
abbrev batch : (rirb : ℕ) → RingPlaces → Seen → Bool → List Request
batch rirb rings seen set = if set then Gets RIRBWP Two ∷ (fetches rirb (entries_of rings.rirb) (new_entries rings seen.pointer) (rings.read + 1) ++ Puts RIRBSTS One 1 ∷ []) else []

batch_aside : (rirb : ℕ) (rings : RingPlaces) (seen : Seen) (set : Bool) → All IsAside (batch rirb rings seen set)
batch_aside rirb rings seen true =
    let apart : 0x5D / 4 ≢ 2 = omega arith in
    let entries = fetches rirb (entries_of rings.rirb) (new_entries rings seen.pointer) (rings.read + 1) in
    All-cons IsAside (Gets RIRBWP Two) (entries ++ Puts RIRBSTS One 1 ∷ []) refl
    (All-append IsAside entries (Puts RIRBSTS One 1 ∷ []) (fetches_aside rirb (entries_of rings.rirb) (new_entries rings seen.pointer) (rings.read + 1)) (All-cons IsAside (Puts RIRBSTS One 1) [] apart (All-nil IsAside)))
batch_aside rirb rings seen false = All-nil IsAside

pub poll_aside : (rirb : ℕ) (rings : RingPlaces) (seen : Seen) → All IsAside (polls rirb rings seen)
poll_aside rirb rings seen = All-cons IsAside (Gets RIRBSTS One) (batch rirb rings seen (has_bit seen.flag 0)) refl (batch_aside rirb rings seen (has_bit seen.flag 0))

-- ---- the values that are read

-- where a register is not read in front, its values are those behind
pub values_past : (register : ℕ) (front back : List Event) → All (ReadsNone register) front → values_of (front ++ back) register ≡ values_of back register
values_past register front back none =
    flat_map-append (value_in register) front back ∙ ap (λ (values : List ℕ). values ++ values_of back register) (none_read register front none)

-- two reads of the clock, and no more
pub two_clocks : (front middle back : List Event) (from to : ℕ) → All (ReadsNone WALCLK) front → All (ReadsNone WALCLK) middle → All (ReadsNone WALCLK) back
    → values_of (front ++ Read WALCLK Four from ∷ (middle ++ Read WALCLK Four to ∷ back)) WALCLK ≡ from ∷ to ∷ []
two_clocks front middle back from to first second third =
    values_past WALCLK front (Read WALCLK Four from ∷ (middle ++ Read WALCLK Four to ∷ back)) first
    ∙ ap (λ (values : List ℕ). from ∷ values) (values_past WALCLK middle (Read WALCLK Four to ∷ back) second ∙ ap (λ (values : List ℕ). to ∷ values) (none_read WALCLK back third))

-- ---- when they are read

-- the first is no earlier than the start, and the last no later than the end
pub record IsClocked (from to : ℕ) (old new : World) : Type 0 where
  pub first : 500 * old.frames ≤ from
  pub last : to ≤ 500 * new.frames
  pub timed : IsTimed old.frames new

ticks_of : (value ticks frames : ℕ) → value ≡ ticks → ticks ≡ 500 * frames % 2 ^ 32 → frames ≤ 8000000 → value ≡ 500 * frames
ticks_of value ticks frames is at few =
    let small : 500 * frames % 2 ^ 32 ≡ 500 * frames = mod-eq_of_lt (omega (arith, few)) in is ∙ at ∙ small

pub clocked : (front middle : List Event) (from to : ℕ) (old new : World) → All IsBeside front → All IsBeside middle → IsTimed old.frames old
    → CalmRow (front ++ Read WALCLK Four from ∷ (middle ++ Read WALCLK Four to ∷ [])) old new → new.frames ≤ 8000000 → IsClocked from to old new
clocked front middle from to old new first second timed row few =
    let one = row_split front (Read WALCLK Four from ∷ (middle ++ Read WALCLK Four to ∷ [])) old new row in
    let before = timed_row front old one.0 old.frames first one.1 timed in
    let read = at_first (IsTimed old.frames) (timed_step old.frames) (Read WALCLK Four from) (middle ++ Read WALCLK Four to ∷ []) one.0 new one.2 before in
    let here : IsTimed read.world.frames read.world = record { out = read.holds.out; time = read.holds.time; later = omega arith } in
    let two = row_split middle (Read WALCLK Four to ∷ []) read.world new read.row in
    let between = timed_row middle read.world two.0 read.world.frames second two.1 here in
    let last = at_first (IsTimed read.world.frames) (timed_step read.world.frames) (Read WALCLK Four to) [] two.0 new two.2 between in
    let there : IsTimed last.world.frames last.world = record { out = last.holds.out; time = last.holds.time; later = omega arith } in
    let end = timed_row [] last.world new last.world.frames (All-nil IsBeside) last.row there in
    let a = read.holds.later in
    let b = last.holds.later in
    let c = end.later in
    let from_is = ticks_of from read.world.registers.global.wall_clock read.world.frames (read.honest ∙ read-wall_clock read.world.registers) read.holds.time (omega (arith, b, c, few)) in
    let to_is = ticks_of to last.world.registers.global.wall_clock last.world.frames (last.honest ∙ read-wall_clock last.world.registers) last.holds.time (omega (arith, c, few)) in
    record {
      first = omega (arith, a, from_is);
      last = omega (arith, c, to_is);
      timed = record { out = end.out; time = end.time; later = omega (arith, a, b, c) };
    }
