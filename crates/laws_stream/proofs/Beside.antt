-- Events beside the sound leave a stream that plays or has played as it is.
use Rattle.std.proofs.Common.{◌≡◌, ◌⊎◌, inl, inr, ℕ, true, List, [], ◌∷◌, Some, refl, sym, ap, subst, ◌∙◌, arith}
use Rattle.std.specs.Prelude.{All}
use Rattle.std.proofs.lemmas.List.Elements.{All-cons, All-head, All-nil, All-tail, All-weaker}
use Rattle.codec_graph.specs.CodecStates.{CodecState}
use Rattle.world_steps.specs.declared.Step.{Step}
use Rattle.hda_registers.specs.declared.shapes.Shape.{Shape}
use Rattle.hda_registers.specs.declared.shapes.Width.{Width}
use Rattle.hda_registers.specs.declared.shapes.Width.TheVariants.{One}
use Rattle.hda_registers.specs.Fields.{Fields, Global, is_out_of_reset}
use Rattle.hda_registers.specs.Access.{written, placed, global_written}
use Rattle.hda_registers.proofs.Callers.{changes-output, keeps-shape}
use Rattle.stream_format.specs.Layouts.{Layout, layout, layout_of}
use Rattle.stream_format.specs.Words.{format_word}
use Rattle.stream_format.proofs.Callers.{read_back}
use Rattle.heard_frames.specs.HeardLists.{block_size}
use Rattle.hda_world.specs.Worlds.{World}
use Rattle.hda_world.specs.Steps.{after_steps}
use Rattle.hda_world.specs.Events.{Event, Stepped, Begin, End, Read, Write, DmaRead, DmaWrite, happens, after, after_write}
use Rattle.hda_world.specs.Streaming.{HasSent}
use Rattle.hda_world.specs.Tellings.{Telling, world_of, Went, Makes}
use Rattle.hda_world.proofs.Callers.{write_registers, world_of-went, woven}
use Rattle.period_writer.specs.declared.course.Ran.{Ran}
use Rattle.period_writer.specs.declared.course.Ran.TheVariants as ran
use Rattle.period_writer.specs.Runs.{Tally}
use Rattle.period_writer.specs.Standing.{Ring, AreBesideRirb}
use Rattle.period_writer.specs.Owning.{IsPlaying}
use Rattle.period_writer.specs.Beside.{LeavesRing, LeaveRing, LeavesStopped}
use Rattle.period_writer.specs.Outcomes.{HasDrained, WasStopped}
use Rattle.period_writer.proofs.Callers.{drained_events, stopped_events}
use Rattle.laws_hearing.specs.Steady.{Steady, LeavesSteady}
use Rattle.audio_driver.specs.States.{is_open}
use Rattle.laws_stream.specs.Lives.{Runs, IsStopped, Along, Lives}
use Rattle.laws_stream.specs.Sounding.{StreamIs, IsHeardBy, StreamSounds}
use Rattle.laws_stream.proofs.Rows.{woven_all}
use Rattle.laws_stream.proofs.Lives.{goes_more, stays_stopped}

-- ---- the laws that this goes by

pub record Laws : Type 0 where
  pub steps : (ring : Ring) (pcm : List ℕ) (tally : Tally) (steps : List Step) (world : World) → IsPlaying ring pcm tally world → IsPlaying ring pcm tally (after_steps steps world)
  pub events : (ring : Ring) (pcm : List ℕ) (tally : Tally) (events : List Event) (world : World) → LeaveRing ring events world → IsPlaying ring pcm tally world → IsPlaying ring pcm tally (after events world)
  pub steady : (codecs : List CodecState) (tag word : ℕ) (layout : Layout) (from : ℕ) (events : List Event) (world : World) → layout_of word ≡ Some layout → All LeavesSteady events
      → Steady codecs tag word (block_size layout) from world → Steady codecs tag word (block_size layout) from (after events world)
  pub sent : (from : ℕ) (events : List Event) (world : World) → All LeavesSteady events → HasSent from world → HasSent from (after events world)

-- ---- events beside the sound

-- a write that clears the flag of RIRB, or the output stream's status
abbrev pub IsClear : (at : ℕ) → Width → (value : ℕ) → Type 0
IsClear at width value = (width ≡ One) × ((at ≡ 0xA3) ⊎ ((at ≡ 0x5D) × (value ≡ 1)))

abbrev pub IsBeside : Event → Type 0
IsBeside (Write at width value) = IsClear at width value
IsBeside (DmaWrite at bytes) = ⊥
IsBeside (Stepped step) = Unit {0}
IsBeside Begin = Unit {0}
IsBeside End = Unit {0}
IsBeside (Read at width value) = Unit {0}
IsBeside (DmaRead at bytes) = Unit {0}

pub leaves_steady : (event : Event) → IsBeside event → LeavesSteady event
leaves_steady (Write at width value) (one, inl status) = (record { control = omega (arith, status); corb = inr (omega (arith, status)) }, inr (one, inr (inl status)))
leaves_steady (Write at width value) (one, inr (flag, set)) = (record { control = omega (arith, flag); corb = inr (omega (arith, flag)) }, inl (inl (omega (arith, flag))))
leaves_steady (DmaWrite at bytes) beside = absurd beside
leaves_steady (Stepped step) beside = tt {0}
leaves_steady Begin beside = tt {0}
leaves_steady End beside = tt {0}
leaves_steady (Read at width value) beside = tt {0}
leaves_steady (DmaRead at bytes) beside = tt {0}

pub leaves_stopped : (event : Event) → IsBeside event → LeavesStopped event
leaves_stopped (Write at width value) (one, inl status) = inr (status, one)
leaves_stopped (Write at width value) (one, inr (flag, set)) = inl (inl (omega (arith, flag)))
leaves_stopped (DmaWrite at bytes) beside = absurd beside
leaves_stopped (Stepped step) beside = tt {0}
leaves_stopped Begin beside = tt {0}
leaves_stopped End beside = tt {0}
leaves_stopped (Read at width value) beside = tt {0}
leaves_stopped (DmaRead at bytes) beside = tt {0}

-- ---- RIRB stays where it is

flag_base : (f : Fields) → is_out_of_reset f.global ≡ true → (written f 0x5D One 1).global.rirb_base ≡ f.global.rirb_base
unfolding written placed global_written
flag_base f out = rw out refl

base_of : (world : World) (at value : ℕ) (width : Width) → (written world.registers at width value).global.rirb_base ≡ world.registers.global.rirb_base
    → (after_write at width value world).registers.global.rirb_base ≡ world.registers.global.rirb_base
base_of world at value width same = ap (λ (f : Fields). f.global.rirb_base) (write_registers world at value width) ∙ same

base_stays : (world : World) (at value : ℕ) (width : Width) → IsClear at width value → is_out_of_reset world.registers.global ≡ true
    → (after_write at width value world).registers.global.rirb_base ≡ world.registers.global.rirb_base
base_stays world at value width (one, inl status) out =
    subst (λ (at : ℕ). (after_write at width value world).registers.global.rirb_base ≡ world.registers.global.rirb_base) (sym status)
    (base_of world 0xA3 value width (ap (λ (g : Global). g.rirb_base) (changes-output world.registers 0xA3 width value (omega arith) (omega arith)).global))
base_stays world at value width (one, inr (flag, set)) out =
    subst (λ (at : ℕ). (after_write at width value world).registers.global.rirb_base ≡ world.registers.global.rirb_base) (sym flag)
    (subst (λ (width : Width). (after_write 0x5D width value world).registers.global.rirb_base ≡ world.registers.global.rirb_base) (sym one)
    (subst (λ (value : ℕ). (after_write 0x5D One value world).registers.global.rirb_base ≡ world.registers.global.rirb_base) (sym set)
    (base_of world 0x5D 1 One (flag_base world.registers out))))

shape_stays : (world : World) (at value : ℕ) (width : Width) → (after_write at width value world).registers.shape ≡ world.registers.shape
shape_stays world at value width = ap (λ (f : Fields). f.shape) (write_registers world at value width) ∙ keeps-shape world.registers at width value

leaves_ring : (ring : Ring) (at value : ℕ) (width : Width) → IsClear at width value → LeavesRing ring (Write at width value)
leaves_ring ring at value width (one, inl status) = inr (inr status, one)
leaves_ring ring at value width (one, inr (flag, set)) = inl (omega (arith, flag), inl (omega (arith, flag)))

-- ---- a stream that was stopped

pub drained_stopped : (ring : Ring) (pcm : List ℕ) (tally : Tally) (world : World) → HasDrained ring pcm tally world → WasStopped ring pcm tally world
drained_stopped ring pcm tally world drained = record { stopped = drained.stopped; no_error = drained.no_error; written = drained.written; fetched = λ at below under. let sure = drained.written.sure in drained.fetched at below (omega (arith, under, sure)) }

pub stopped_along : (ring : Ring) (pcm : List ℕ) (tally : Tally) (events : List Event) (world : World) → All LeavesStopped events → WasStopped ring pcm tally world → Along IsStopped events world
stopped_along ring pcm tally [] world all was = record { stopped = was.stopped; no_error = was.no_error }
stopped_along ring pcm tally (event ∷ events) world all was = (
  record { stopped = was.stopped; no_error = was.no_error },
  stopped_along ring pcm tally events (happens world event) (All-tail LeavesStopped event events all)
      (stopped_events ring pcm tally (event ∷ []) world (All-cons LeavesStopped event [] (All-head LeavesStopped event events all) (All-nil LeavesStopped)) was),
)

-- ---- the stream

module _ (laws : Laws) (ring : Ring) (pcm : List ℕ) (tally : Tally) where
  playing_on : (event : Event) (world : World) → IsBeside event → IsPlaying ring pcm tally world → IsPlaying ring pcm tally (happens world event)
  playing_on (Write at width value) world beside playing =
      let apart : AreBesideRirb ring (after_write at width value world).registers.global.rirb_base (after_write at width value world).registers.shape =
      subst (λ (base : ℕ). AreBesideRirb ring base (after_write at width value world).registers.shape) (sym (base_stays world at value width beside playing.stands.set.out))
      (subst (λ (shape : Shape). AreBesideRirb ring world.registers.global.rirb_base shape) (sym (shape_stays world at value width)) playing.stands.beside) in
      laws.events ring pcm tally (Write at width value ∷ []) world (leaves_ring ring at value width beside, apart, tt {0}) playing
  playing_on (DmaWrite at bytes) world beside playing = absurd beside
  playing_on (Stepped step) world beside playing = laws.steps ring pcm tally (step ∷ []) world playing
  playing_on Begin world beside playing = playing
  playing_on End world beside playing = playing
  playing_on (Read at width value) world beside playing = playing
  playing_on (DmaRead at bytes) world beside playing = playing

  -- however the last run ended
  stream_on : (ran : Ran) (event : Event) (world : World) → IsBeside event → StreamIs ran ring pcm tally world → StreamIs ran ring pcm tally (happens world event)
  stream_on ran.Playing event world beside stream = playing_on event world beside stream
  stream_on ran.Drained event world beside stream =
      drained_events ring pcm tally (event ∷ []) world (All-cons LeavesStopped event [] (leaves_stopped event beside) (All-nil LeavesStopped)) stream
  stream_on (ran.Late from to limit) event world beside stream =
      stopped_events ring pcm tally (event ∷ []) world (All-cons LeavesStopped event [] (leaves_stopped event beside) (All-nil LeavesStopped)) stream

  pub streams_on : (ran : Ran) (events : List Event) (world : World) → All IsBeside events → StreamIs ran ring pcm tally world → StreamIs ran ring pcm tally (after events world)
  streams_on ran [] world all stream = stream
  streams_on ran (event ∷ events) world all stream =
      streams_on ran events (happens world event) (All-tail IsBeside event events all) (stream_on ran event world (All-head IsBeside event events all) stream)

  -- ---- its life

  runs_along : (events : List Event) (world : World) → All IsBeside events → IsPlaying ring pcm tally world → Along Runs events world
  runs_along [] world all playing = record { running = playing.stands.set.runs; no_error = playing.stands.set.no_error }
  runs_along (event ∷ events) world all playing = (
    record { running = playing.stands.set.runs; no_error = playing.stands.set.no_error },
    runs_along events (happens world event) (All-tail IsBeside event events all) (playing_on event world (All-head IsBeside event events all) playing),
  )

  lives_on : (ran : Ran) (old new : Telling) (events : List Event) → Went old new events → All IsBeside events → StreamIs ran ring pcm tally (world_of old) → Lives (is_open ran) old → Lives (is_open ran) new
  lives_on ran.Playing old new events went all stream lives = goes_more old new events went lives (runs_along events (world_of old) all stream)
  lives_on ran.Drained old new events went all stream lives = stays_stopped old new events went lives (stopped_along ring pcm tally events (world_of old) (All-weaker IsBeside LeavesStopped leaves_stopped events all) (drained_stopped ring pcm tally (world_of old) stream))
  lives_on (ran.Late from to limit) old new events went all stream lives = stays_stopped old new events went lives (stopped_along ring pcm tally events (world_of old) (All-weaker IsBeside LeavesStopped leaves_stopped events all) stream)

-- ---- what is heard

module _ (laws : Laws) (codecs : List CodecState) (ring : Ring) where
  pub heard_on : (events : List Event) (world : World) → All LeavesSteady events → IsHeardBy codecs ring world → IsHeardBy codecs ring (after events world)
  heard_on events world all heard = record {
    steady = laws.steady codecs 1 (format_word ring.geometry.format) (layout ring.geometry.format) 0 events world (read_back ring.geometry.format) all heard.steady;
    sent = laws.sent 0 events world all heard.sent;
  }

  pub heard_row : (made : List Event) (old new : Telling) → Makes made old new → All LeavesSteady made → IsHeardBy codecs ring (world_of old) → IsHeardBy codecs ring (world_of new)
  heard_row made old new makes all heard =
      let weaving = woven makes in
      subst (IsHeardBy codecs ring) (sym (world_of-went old new weaving.events weaving.went))
      (heard_on weaving.events (world_of old) (woven_all LeavesSteady (λ step. tt {0}) made weaving.events weaving.woven all) heard)

  pub sounds_on : (pcm : List ℕ) (tally : Tally) (old new : Telling) (events : List Event) → Went old new events → All IsBeside events → StreamSounds codecs ring pcm tally old → StreamSounds codecs ring pcm tally new
  sounds_on pcm tally old new events went all sounds =
      let there = world_of-went old new events went in record {
        started = sounds.started;
        heard = subst (IsHeardBy codecs ring) (sym there) (heard_on events (world_of old) (All-weaker IsBeside LeavesSteady leaves_steady events all) sounds.heard);
        stream = subst (StreamIs tally.course.ran ring pcm tally) (sym there) (streams_on laws ring pcm tally tally.course.ran events (world_of old) all sounds.stream);
        lives = lives_on laws ring pcm tally tally.course.ran old new events went all sounds.stream sounds.lives;
      }
