-- A call that plays leads a stream that plays or has played on.
use Rattle.std.proofs.Common.{◌≡◌, ◌⊎◌, inl, inr, ◌&&◌, ◌+◌, ◌*◌, not, ℕ, Bool, true, false, if◌then◌else◌, List, [], ◌∷◌, ◌++◌, Some, refl, sym, ap, subst, ◌∙◌}
use Rattle.std.proofs.lemmas.Bool.{false≢true}
use Rattle.std.specs.Prelude.{All, slice_index}
use Rattle.std.proofs.lemmas.List.Elements.{All-append, All-cons, All-nil}
use Rattle.verb_codes.specs.Words.{has_bit, bits_of}
use Rattle.codec_graph.specs.CodecStates.{CodecState}
use Rattle.hda_registers.specs.declared.shapes.Width.{Width}
use Rattle.hda_registers.specs.declared.shapes.Width.TheVariants.{One, Two, Four}
use Rattle.hda_registers.specs.declared.places.TheConstants.{INTSTS, RIRBWP, RIRBSTS}
use Rattle.hda_registers.specs.Fields.{entries_of}
use Rattle.hda_world.specs.Events.{Event, Stepped, Begin, End, Read, Write, DmaRead, DmaWrite}
use Rattle.hda_world.specs.Tellings.{Telling, world_of, Makes}
use Rattle.hda_world.proofs.Callers.{woven}
use Rattle.command_engine.specs.declared.ring_places.RingPlaces.{RingPlaces}
use Rattle.command_engine.specs.Polling.{PollReads, entry_reads, batch_accesses, poll_accesses}
use Rattle.period_writer.specs.declared.course.Ran.{Ran}
use Rattle.period_writer.specs.declared.course.Ran.TheVariants as ran
use Rattle.period_writer.specs.declared.geometry.Geometry.{Geometry}
use Rattle.period_writer.specs.Runs.{Tally}
use Rattle.period_writer.specs.Standing.{Ring}
use Rattle.period_writer.specs.Writers.{WriterState, tally_of, ring_of}
use Rattle.period_writer.specs.Blocks.{addresses_of}
use Rattle.period_writer.specs.Outcomes.{HasNotWrapped}
use Rattle.driver_progress.specs.declared.registers.TheConstants.{STREAM_STATUS}
use Rattle.driver_progress.specs.declared.phase.Phase.{Phase}
use Rattle.driver_progress.specs.Phases.{is_active}
use Rattle.driver_progress.specs.Tasks.{Task}
use Rattle.driver_progress.specs.States.{State}
use Rattle.driver_progress.specs.Seen.{Seen, values_of, seen_by, interrupts_at, stream_interrupts_at}
use Rattle.driver_progress.specs.Requests.{Request, Gets, Puts, Fetches, Stores, requests_of}
use Rattle.driver_progress.specs.Expected.{runs, clears, interrupted_if}
use Rattle.driver_progress.specs.Next.{tally_next}
use Rattle.driver_progress.specs.Interrupts.{clear_accesses}
use Rattle.driver_bring_up.specs.Commanding.{IsStretch}
use Rattle.driver_bring_up.specs.declared.bringing.BringUp.{BringUp}
use Rattle.driver_bring_up.specs.Told.{IsBefore, found_none}
use Rattle.audio_driver.specs.States.{state_of, is_open, was_late, phase_if, played_as, IsLeft}
use Rattle.audio_driver.specs.Sounding.{IsStill, GoesOn, SoundTells, StaysSet}
use Rattle.audio_driver.proofs.Callers.{open_playing}
use Rattle.laws_stream.specs.Lives.{Lives}
use Rattle.laws_stream.specs.Sounding.{StreamIs, StreamSounds}
use Rattle.laws_stream.proofs.Rows.{woven_all}
use Rattle.laws_stream.proofs.Beside.{Laws, IsBeside, sounds_on}
use Rattle.laws_stream.proofs.Runs.{run_sounds}

-- ---- rows beside the sound

pub row_sounds : (laws : Laws) (codecs : List CodecState) (ring : Ring) (pcm : List ℕ) (tally : Tally) (made : List Event) (old new : Telling) → Makes made old new → All IsBeside made
    → StreamSounds codecs ring pcm tally old → StreamSounds codecs ring pcm tally new
row_sounds laws codecs ring pcm tally made old new makes all sounds =
    let weaving = woven makes in
    sounds_on laws codecs ring pcm tally old new weaving.events weaving.went (woven_all IsBeside (λ step. tt {0}) made weaving.events weaving.woven all) sounds

-- ---- the look for interrupts and the poll

read_beside : (event : Event) (events : List Event) → IsBeside event → All IsBeside events → All IsBeside (event ∷ events)
read_beside event events is all = All-cons IsBeside event events is all

-- what holds of reads, and of a write of the output stream's status, holds of the look for interrupts
module _ (P : Event → Type 0) (reads : (at value : ℕ) (width : Width) → P (Read at width value)) (clears_status : (value : ℕ) → P (Write STREAM_STATUS One value)) where
  clears_all : (stream : ℕ) (on : Bool) → All P (if on then Read STREAM_STATUS One stream ∷ Write STREAM_STATUS One (4 * bits_of stream 2 3) ∷ [] else [])
  clears_all stream true =
      All-cons P (Read STREAM_STATUS One stream) (Write STREAM_STATUS One (4 * bits_of stream 2 3) ∷ []) (reads STREAM_STATUS stream One)
      (All-cons P (Write STREAM_STATUS One (4 * bits_of stream 2 3)) [] (clears_status (4 * bits_of stream 2 3)) (All-nil P))
  clears_all stream false = All-nil P

  pub looks_all : (interrupts stream : ℕ) (on : Bool) → All P (if on then clear_accesses interrupts stream else [])
  looks_all interrupts stream true = clears_all stream (has_bit interrupts stream_interrupts_at)
  looks_all interrupts stream false = All-nil P

  pub before_all : (irq : Bool) (first : List Event) → IsBefore irq first → All P first
  before_all true first is =
      subst (All P) (sym is.is)
      (All-cons P (Read INTSTS Four is.interrupts) (if has_bit is.interrupts interrupts_at then clear_accesses is.interrupts is.stream else []) (reads INTSTS is.interrupts Four)
      (looks_all is.interrupts is.stream (has_bit is.interrupts interrupts_at)))
  before_all false first is = subst (All P) (sym is) (All-nil P)

pub before_beside : (irq : Bool) (first : List Event) → IsBefore irq first → All IsBeside first
before_beside = before_all IsBeside (λ at value width. tt {0}) (λ value. (refl, inl refl))

entries_beside : (rirb size place : ℕ) (entries : List (List ℕ)) → All IsBeside (entry_reads rirb size place entries)
entries_beside rirb size place [] = All-nil IsBeside
entries_beside rirb size place (entry ∷ entries) = read_beside _ (entry_reads rirb size (place + 1) entries) (tt {0}) (entries_beside rirb size (place + 1) entries)

batch_if : (rirb : ℕ) (rings : RingPlaces) (reads : PollReads) (some : Bool) → All IsBeside (if some then batch_accesses rirb rings reads.pointer reads.entries else [])
batch_if rirb rings reads true =
    let entries = entry_reads rirb (entries_of rings.rirb) (rings.read + 1) reads.entries in
    read_beside (Read RIRBWP Two reads.pointer) (entry_reads rirb (entries_of rings.rirb) (rings.read + 1) reads.entries ++ Write RIRBSTS One 1 ∷ []) (tt {0})
    (All-append IsBeside (entry_reads rirb (entries_of rings.rirb) (rings.read + 1) reads.entries) (Write RIRBSTS One 1 ∷ []) (entries_beside rirb (entries_of rings.rirb) (rings.read + 1) reads.entries)
    (read_beside (Write RIRBSTS One 1) [] (refl, inr (refl, refl)) (All-nil IsBeside)))
batch_if rirb rings reads false = All-nil IsBeside

pub poll_beside : (rirb : ℕ) (rings : RingPlaces) (reads : PollReads) → All IsBeside (poll_accesses rirb rings reads)
poll_beside rirb rings reads = read_beside (Read RIRBSTS One reads.flag) (if has_bit reads.flag 0 then batch_accesses rirb rings reads.pointer reads.entries else []) (tt {0}) (batch_if rirb rings reads (has_bit reads.flag 0))

-- ---- where no run comes

abbrev AreGets : List Request → Type 0
AreGets [] = Unit {0}
AreGets (Gets at width ∷ requests) = AreGets requests
AreGets (Puts at width value ∷ requests) = ⊥
AreGets (Fetches at count ∷ requests) = ⊥
AreGets (Stores at bytes ∷ requests) = ⊥

gets_beside : (made : List Event) → AreGets (requests_of made) → All IsBeside made
gets_beside [] are = All-nil IsBeside
gets_beside (Stepped step ∷ made) are = read_beside (Stepped step) made (tt {0}) (gets_beside made are)
gets_beside (Begin ∷ made) are = read_beside Begin made (tt {0}) (gets_beside made are)
gets_beside (End ∷ made) are = read_beside End made (tt {0}) (gets_beside made are)
gets_beside (Read at width value ∷ made) are = read_beside (Read at width value) made (tt {0}) (gets_beside made are)
gets_beside (Write at width value ∷ made) are = absurd are
gets_beside (DmaRead at bytes ∷ made) are = absurd are
gets_beside (DmaWrite at bytes ∷ made) are = absurd are

none_called : (seen : Seen) (called : List Request) (on : Bool) → not on ≡ true → AreGets (if on then clears seen ++ called else [])
none_called seen called true none = absurd (false≢true none)
none_called seen called false none = tt {0}

module _ (task : Task) (state : State) (budget : ℕ) (tally : Tally) (made : List Event) (found : Bool) where
  abbrev seen : Seen
  seen = seen_by (values_of made) found

  still_by : (was : Ran) (irq : Bool) → (found_none irq made ≡ true) ⊎ (is_open was ≡ false)
      → AreGets (interrupted_if (irq && is_active (played_as was)) (seen_by (values_of made) found) (runs task state budget (seen_by (values_of made) found) tally (played_as was)))
  still_by ran.Playing true (inl none) = none_called (seen_by (values_of made) found) _ (has_bit (slice_index (values_of made INTSTS) 0) interrupts_at) none
  still_by ran.Playing false (inl none) = absurd (false≢true none)
  still_by ran.Playing irq (inr over) = absurd (false≢true (sym over))
  still_by ran.Drained true cause = tt {0}
  still_by ran.Drained false cause = tt {0}
  still_by (ran.Late from to limit) true cause = tt {0}
  still_by (ran.Late from to limit) false cause = tt {0}

still_beside : (irq : Bool) (budget : ℕ) (old new : BringUp) (writer writer' : WriterState) (made : List Event) (task : Task) (found : Bool) → IsStill irq old new writer writer' made
    → IsStretch task (state_of old writer) (Some (record { irq = irq; budget = budget })) made found (state_of new writer') → writer.course.started ≡ true → All IsBeside made
still_beside irq budget old new writer writer' made task found still stretch started =
    let tally = tally_next task (state_of old writer) (Some (record { irq = irq; budget = budget })) (seen_by (values_of made) found) in
    let phase : (state_of old writer).phase ≡ played_as writer.course.ran = ap (λ (started : Bool). phase_if started old.phase writer.course.ran) started in
    gets_beside made (subst AreGets (sym stretch.fits)
    (subst (λ (phase : Phase). AreGets (interrupted_if (irq && is_active phase) (seen_by (values_of made) found) (runs task (state_of old writer) budget (seen_by (values_of made) found) tally phase))) (sym phase)
    (still_by task (state_of old writer) budget tally made found writer.course.ran irq still.cause)))

-- ---- a call

same_rings : (g g' : Geometry) (l l' : ℕ) (p p' : List ℕ) → g' ≡ g → l' ≡ l → p' ≡ p
    → let new : Ring = record { geometry = g'; list = l'; periods = p' } in let old : Ring = record { geometry = g; list = l; periods = p } in new ≡ old
same_rings g g' l l' p p' a b c = cc

pub ring_same : (old new : BringUp) (writer writer' : WriterState) → StaysSet old new writer writer' → ring_of writer' ≡ ring_of writer
ring_same old new writer writer' stays = same_rings _ _ _ _ _ _ stays.geometry (ap (λ list. list.address) stays.list) (ap addresses_of stays.periods)

module _ (laws : Laws) (codecs : List CodecState) (pcm : List ℕ) (irq : Bool) (budget : ℕ) (old new : BringUp) (writer writer' : WriterState) (supply : List ℕ) (made : List Event) (before after : Telling) where
  still_sounds : (task : Task) (found : Bool) → IsStill irq old new writer writer' made → Makes made before after
      → IsStretch task (state_of old writer) (Some (record { irq = irq; budget = budget })) made found (state_of new writer')
      → StreamSounds codecs (ring_of writer) pcm (tally_of writer) before → StreamSounds codecs (ring_of writer') pcm (tally_of writer') after
  still_sounds task found still makes stretch sounds =
      subst (λ (writer : WriterState). StreamSounds codecs (ring_of writer) pcm (tally_of writer) after) (sym still.writer_is)
      (row_sounds laws codecs (ring_of writer) pcm (tally_of writer) made before after makes (still_beside irq budget old new writer writer' made task found still stretch sounds.started) sounds)

  goes_sounds : GoesOn irq budget old new writer writer' supply made before after → StaysSet old new writer writer' → IsLeft pcm writer.course supply → HasNotWrapped (world_of after)
      → StreamSounds codecs (ring_of writer) pcm (tally_of writer) before → StreamSounds codecs (ring_of writer') pcm (tally_of writer') after
  goes_sounds goes stays left small sounds =
      let poll = poll_accesses old.engine.rirb.address old.engine.rings goes.reads in
      let plays : writer.course.ran ≡ ran.Playing = open_playing writer.course.ran goes.more in
      let here = row_sounds laws codecs (ring_of writer) pcm (tally_of writer) (goes.first ++ poll_accesses old.engine.rirb.address old.engine.rings goes.reads) before goes.begins goes.first_made
      (All-append IsBeside goes.first (poll_accesses old.engine.rirb.address old.engine.rings goes.reads) (before_beside irq goes.first goes.is_before) (poll_beside old.engine.rirb.address old.engine.rings goes.reads)) sounds in
      let playing = subst (λ (was : Ran). StreamIs was (ring_of writer) pcm (tally_of writer) (world_of goes.begins)) plays here.stream in
      let going = subst (λ (was : Ran). Lives (is_open was) goes.begins) plays here.lives in
      let run = goes.tells pcm (left (ap was_late plays)) playing small in
      subst (λ (ring : Ring). StreamSounds codecs ring pcm (tally_of writer') after) (sym (ring_same old new writer writer' stays))
      (run_sounds laws codecs (ring_of writer) pcm budget (tally_of writer) (tally_of writer') goes.begins after here.started here.heard going writer'.course.ran refl run)

  -- any call
  pub call_sounds : (task : Task) (found : Bool) → SoundTells irq budget old new writer writer' supply made before after → Makes made before after
      → IsStretch task (state_of old writer) (Some (record { irq = irq; budget = budget })) made found (state_of new writer')
      → StaysSet old new writer writer' → IsLeft pcm writer.course supply → HasNotWrapped (world_of after)
      → StreamSounds codecs (ring_of writer) pcm (tally_of writer) before → StreamSounds codecs (ring_of writer') pcm (tally_of writer') after
  call_sounds task found (inl still) makes stretch stays left small sounds = still_sounds task found still makes stretch sounds
  call_sounds task found (inr (inl begins)) makes stretch stays left small sounds = absurd (false≢true (sym begins.fresh ∙ sounds.started))
  call_sounds task found (inr (inr goes)) makes stretch stays left small sounds = goes_sounds goes stays left small sounds
