-- Events that leave a stream alone leave it as it is, whatever codecs take meanwhile.
use Rattle.std.proofs.Common.{◌≡◌, ◌<◌, ◌≤◌, ◌⊎◌, inl, inr, ℕ, Bool, true, false, List, [], ◌∷◌, ◌++◌, map, Some, sym, ap, subst, ◌∙◌, arith}
use Rattle.std.specs.Prelude.{All}
use Rattle.std.proofs.lemmas.List.Elements.{All-append, All-cons, All-head, All-nil, All-tail, All-weaker}
use Rattle.world_steps.specs.declared.Step.{Step}
use Rattle.hda_registers.specs.declared.shapes.Shape.{Shape}
use Rattle.hda_registers.specs.declared.shapes.Width.{Width}
use Rattle.hda_registers.specs.declared.shapes.Width.TheVariants.{One}
use Rattle.hda_registers.specs.Fields.{Fields}
use Rattle.hda_registers.specs.Laws.{IsBesideStreams}
use Rattle.hda_registers.proofs.Callers.{keeps-shape}
use Rattle.stream_format.specs.Layouts.{Layout, layout, layout_of}
use Rattle.stream_format.specs.Words.{format_word}
use Rattle.stream_format.proofs.Callers.{read_back}
use Rattle.heard_frames.specs.HeardLists.{block_size}
use Rattle.hda_world.specs.Worlds.{World}
use Rattle.hda_world.specs.Steps.{after_steps}
use Rattle.hda_world.specs.Events.{Event, Stepped, Begin, End, Read, Write, DmaRead, DmaWrite, happens, after, after_write}
use Rattle.hda_world.specs.Streaming.{HasSent}
use Rattle.hda_world.specs.Tellings.{Telling, world_of, Went, Makes}
use Rattle.hda_world.proofs.Callers.{write_registers, world_of-went, woven}
use Rattle.period_writer.specs.declared.course.Ran.{Ran}
use Rattle.period_writer.specs.declared.course.Ran.TheVariants as ran
use Rattle.period_writer.specs.Runs.{Tally}
use Rattle.period_writer.specs.Standing.{Ring, AreBesideRirb}
use Rattle.period_writer.specs.Owning.{IsPlaying}
use Rattle.period_writer.specs.Beside.{LeavesRing, LeaveRing, LeavesStopped, IsStatusWrite}
use Rattle.period_writer.specs.Outcomes.{WasStopped}
use Rattle.period_writer.proofs.Callers.{drained_events, stopped_events}
use Rattle.laws_hearing.specs.Steady.{IsStatusOrStop}
use Rattle.laws_hearing.specs.Streams.{Streams, LeavesStream}
use Rattle.laws_stream.specs.Lives.{Runs, Along, Lives}
use Rattle.laws_stream.specs.Going.{StreamLeft, is_left_open, StreamGoes, IsAloneWrite, LeavesAlone}
use Rattle.laws_stream.proofs.AloneWrites.{written_base}
use Rattle.laws_stream.proofs.Rows.{all_map, woven_all}
use Rattle.laws_stream.proofs.Lives.{goes_more, stays_stopped}
use Rattle.laws_stream.proofs.Beside.{drained_stopped, stopped_along}

-- ---- the laws that this goes by

pub record OnLaws : Type 0 where
  pub steps : (ring : Ring) (pcm : List ℕ) (tally : Tally) (steps : List Step) (world : World) → IsPlaying ring pcm tally world → IsPlaying ring pcm tally (after_steps steps world)
  pub events : (ring : Ring) (pcm : List ℕ) (tally : Tally) (events : List Event) (world : World) → LeaveRing ring events world → IsPlaying ring pcm tally world → IsPlaying ring pcm tally (after events world)
  pub streams : (tag word : ℕ) (layout : Layout) (from : ℕ) (events : List Event) (world : World) → layout_of word ≡ Some layout → All LeavesStream events
      → Streams tag word (block_size layout) from world → Streams tag word (block_size layout) from (after events world)
  pub sent : (from : ℕ) (events : List Event) (world : World) → All LeavesStream events → HasSent from world → HasSent from (after events world)

-- ---- an event that leaves it alone

status_too : (at value : ℕ) (width : Width) → IsBesideStreams at ⊎ IsStatusWrite at width → IsBesideStreams at ⊎ IsStatusOrStop at width value
status_too at value width (inl beside) = inl beside
status_too at value width (inr (inl input, one)) = inr (one, inl input)
status_too at value width (inr (inr output, one)) = inr (one, inr (inl output))

pub alone_streams : (ring : Ring) (event : Event) → LeavesAlone ring event → LeavesStream event
alone_streams ring (Write at width value) leaves = (leaves.control, status_too at value width leaves.streams)
alone_streams ring (DmaWrite at bytes) leaves = tt {0}
alone_streams ring (Stepped step) leaves = tt {0}
alone_streams ring Begin leaves = tt {0}
alone_streams ring End leaves = tt {0}
alone_streams ring (Read at width value) leaves = tt {0}
alone_streams ring (DmaRead at bytes) leaves = tt {0}

below_output : (at : ℕ) (width : Width) → IsBesideStreams at ⊎ IsStatusWrite at width → ((at < 0xA0) ⊎ (0xC0 ≤ at)) ⊎ ((at ≡ 0xA3) × (width ≡ One))
below_output at width (inl (inl low)) = inl (inl (omega (arith, low)))
below_output at width (inl (inr high)) = inl (inr high)
below_output at width (inr (inl input, one)) = inl (inl (omega (arith, input)))
below_output at width (inr (inr output, one)) = inr (output, one)

pub alone_stopped : (ring : Ring) (event : Event) → LeavesAlone ring event → LeavesStopped event
alone_stopped ring (Write at width value) leaves = below_output at width leaves.streams
alone_stopped ring (DmaWrite at bytes) leaves = tt {0}
alone_stopped ring (Stepped step) leaves = tt {0}
alone_stopped ring Begin leaves = tt {0}
alone_stopped ring End leaves = tt {0}
alone_stopped ring (Read at width value) leaves = tt {0}
alone_stopped ring (DmaRead at bytes) leaves = tt {0}

leaves_ring : (ring : Ring) (at value : ℕ) (width : Width) → IsAloneWrite at width → LeavesRing ring (Write at width value)
leaves_ring ring at value width leaves = by leaves.streams where
  by : IsBesideStreams at ⊎ IsStatusWrite at width → LeavesRing ring (Write at width value)
  by (inl beside) = inl (leaves.control, beside)
  by (inr status) = inr status

-- ---- the stream

module _ (laws : OnLaws) (ring : Ring) (pcm : List ℕ) (tally : Tally) where
  abbrev Alone : Event → Type 0
  Alone = LeavesAlone ring

  playing_on : (event : Event) (world : World) → Alone event → IsPlaying ring pcm tally world → IsPlaying ring pcm tally (happens world event)
  playing_on (Write at width value) world leaves playing =
      let base : (after_write at width value world).registers.global.rirb_base ≡ world.registers.global.rirb_base =
      ap (λ (f : Fields). f.global.rirb_base) (write_registers world at value width) ∙ written_base world.registers at width value leaves.control leaves.responses in
      let shape : (after_write at width value world).registers.shape ≡ world.registers.shape = ap (λ (f : Fields). f.shape) (write_registers world at value width) ∙ keeps-shape world.registers at width value in
      let apart : AreBesideRirb ring (after_write at width value world).registers.global.rirb_base (after_write at width value world).registers.shape =
      subst (λ (base : ℕ). AreBesideRirb ring base (after_write at width value world).registers.shape) (sym base)
      (subst (λ (shape : Shape). AreBesideRirb ring world.registers.global.rirb_base shape) (sym shape) playing.stands.beside) in
      laws.events ring pcm tally (Write at width value ∷ []) world (leaves_ring ring at value width leaves, apart, tt {0}) playing
  playing_on (DmaWrite at bytes) world leaves playing = laws.events ring pcm tally (DmaWrite at bytes ∷ []) world (leaves, playing.stands.beside, tt {0}) playing
  playing_on (Stepped step) world leaves playing = laws.steps ring pcm tally (step ∷ []) world playing
  playing_on Begin world leaves playing = playing
  playing_on End world leaves playing = playing
  playing_on (Read at width value) world leaves playing = playing
  playing_on (DmaRead at bytes) world leaves playing = playing

  all_playing : (events : List Event) (world : World) → All Alone events → IsPlaying ring pcm tally world → IsPlaying ring pcm tally (after events world)
  all_playing [] world all playing = playing
  all_playing (event ∷ events) world all playing =
      all_playing events (happens world event) (All-tail Alone event events all) (playing_on event world (All-head Alone event events all) playing)

  all_stopped : (events : List Event) → All Alone events → All LeavesStopped events
  all_stopped events all = All-weaker Alone LeavesStopped (alone_stopped ring) events all

  -- however it was left
  left_on : (given_up : Bool) (ended : Ran) (events : List Event) (world : World) → All Alone events → StreamLeft given_up ended ring pcm tally world → StreamLeft given_up ended ring pcm tally (after events world)
  left_on true ended events world all stream = stopped_events ring pcm tally events world (all_stopped events all) stream
  left_on false ran.Playing events world all stream = all_playing events world all stream
  left_on false ran.Drained events world all stream = drained_events ring pcm tally events world (all_stopped events all) stream
  left_on false (ran.Late from to limit) events world all stream = stopped_events ring pcm tally events world (all_stopped events all) stream

  -- ---- its life

  pub runs_along : (events : List Event) (world : World) → All Alone events → IsPlaying ring pcm tally world → Along Runs events world
  runs_along [] world all playing = record { running = playing.stands.set.runs; no_error = playing.stands.set.no_error }
  runs_along (event ∷ events) world all playing = (
    record { running = playing.stands.set.runs; no_error = playing.stands.set.no_error },
    runs_along events (happens world event) (All-tail Alone event events all) (playing_on event world (All-head Alone event events all) playing),
  )

  module _ (old new : Telling) (events : List Event) (went : Went old new events) where
    over_on : All LeavesStopped events → WasStopped ring pcm tally (world_of old) → Lives false old → Lives false new
    over_on all was lives = stays_stopped old new events went lives (stopped_along ring pcm tally events (world_of old) all was)

    lives_on : (given_up : Bool) (ended : Ran) → All Alone events → StreamLeft given_up ended ring pcm tally (world_of old) → Lives (is_left_open given_up ended) old → Lives (is_left_open given_up ended) new
    lives_on true ended all stream lives = over_on (all_stopped events all) stream lives
    lives_on false ran.Playing all stream lives = goes_more old new events went lives (runs_along events (world_of old) all stream)
    lives_on false ran.Drained all stream lives = over_on (all_stopped events all) (drained_stopped ring pcm tally (world_of old) stream) lives
    lives_on false (ran.Late from to limit) all stream lives = over_on (all_stopped events all) stream lives

  -- ---- all of it

  abbrev word : ℕ
  word = format_word ring.geometry.format

  pub goes_on : (given_up : Bool) (old new : Telling) (events : List Event) → Went old new events → All Alone events → StreamGoes given_up ring pcm tally old → StreamGoes given_up ring pcm tally new
  goes_on given_up old new events went all goes =
      let there = world_of-went old new events went in
      let streaming = All-weaker Alone LeavesStream (alone_streams ring) events all in
      record {
        started = goes.started;
        streams = subst (Streams 1 word (block_size (layout ring.geometry.format)) 0) (sym there)
            (laws.streams 1 word (layout ring.geometry.format) 0 events (world_of old) (read_back ring.geometry.format) streaming goes.streams);
        sent = subst (HasSent 0) (sym there) (laws.sent 0 events (world_of old) streaming goes.sent);
        stream = subst (StreamLeft given_up tally.course.ran ring pcm tally) (sym there) (left_on given_up tally.course.ran events (world_of old) all goes.stream);
        lives = lives_on old new events went given_up tally.course.ran all goes.stream goes.lives;
      }

  pub row_goes_on : (given_up : Bool) (made : List Event) (old new : Telling) → Makes made old new → All Alone made → StreamGoes given_up ring pcm tally old → StreamGoes given_up ring pcm tally new
  row_goes_on given_up made old new makes all goes =
      let weaving = woven makes in
      goes_on given_up old new weaving.events weaving.went (woven_all Alone (λ step. tt {0}) made weaving.events weaving.woven all) goes

-- steps and marks
pub steps_alone : (ring : Ring) (steps : List Step) → All (LeavesAlone ring) (map Stepped steps)
steps_alone ring steps = all_map (LeavesAlone ring) Stepped (λ step. tt {0}) steps

pub mark_alone : (ring : Ring) (steps : List Step) (mark : Event) → LeavesAlone ring mark → All (LeavesAlone ring) (map Stepped steps ++ mark ∷ [])
mark_alone ring steps mark is =
    All-append (LeavesAlone ring) (map Stepped steps) (mark ∷ []) (steps_alone ring steps) (All-cons (LeavesAlone ring) mark [] is (All-nil (LeavesAlone ring)))
