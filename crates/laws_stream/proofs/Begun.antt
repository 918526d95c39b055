-- A first run sets the stream going, and these codecs hear it.
use Rattle.std.proofs.Common.{◌≡◌, inl, inr, ℕ, Bool, List, [], ◌∷◌, ◌++◌, length, drop, refl, sym, ap, subst, ◌∙◌, append_assoc, arith}
use Rattle.std.specs.Prelude.{All}
use Rattle.std.proofs.lemmas.List.Elements.{All-cons, All-nil}
use Rattle.codec_graph.specs.CodecStates.{CodecState}
use Rattle.hda_registers.specs.declared.shapes.Width.TheVariants.{One, Four}
use Rattle.hda_registers.specs.declared.places.TheConstants.{WALCLK}
use Rattle.stream_format.specs.Layouts.{layout}
use Rattle.stream_format.specs.Words.{format_word}
use Rattle.world_streams.specs.Streams.{begun}
use Rattle.heard_frames.specs.HeardLists.{block_size}
use Rattle.hda_world.specs.Worlds.{World, CarriedFrame}
use Rattle.hda_world.specs.Events.{Event, Read, after}
use Rattle.hda_world.specs.Streaming.{HasSent}
use Rattle.hda_world.specs.Tellings.{Telling, world_of, Went, Makes}
use Rattle.hda_world.specs.Moments.{AreWoven}
use Rattle.hda_world.proofs.Callers.{world_of-went, after-append, access_leaves, Weaving, woven}
use Rattle.command_engine.specs.declared.ring_places.RingPlaces.{RingPlaces}
use Rattle.command_engine.specs.Apart.{IsBesideBoth}
use Rattle.command_engine.specs.Fetchings as engine
use Rattle.command_engine.proofs.Callers.{events_beside_input_keep, responses_apart}
use Rattle.period_writer.specs.declared.course.Ran.{Ran}
use Rattle.period_writer.specs.Runs.{Tally, measures, facts_of}
use Rattle.period_writer.specs.Lines.{line_of}
use Rattle.period_writer.specs.Playing.{run_bytes}
use Rattle.period_writer.specs.Starting.{rise_accesses}
use Rattle.period_writer.specs.Standing.{Ring}
use Rattle.period_writer.specs.Writers.{WriterState, tally_of, ring_of}
use Rattle.period_writer.specs.Outcomes.{HasNotWrapped, CanBegin, StartTells}
use Rattle.driver_bring_up.specs.declared.bringing.BringUp.{BringUp}
use Rattle.driver_bring_up.specs.Told.{IsBefore}
use Rattle.laws_hearing.specs.Steady.{IsSteadyFrame, AreIdle, LeavesCommands, LeavesSteady}
use Rattle.audio_driver.specs.States.{is_open}
use Rattle.audio_driver.specs.Sounding.{Begins, StaysSet}
use Rattle.laws_stream.specs.Resting.{Rests, LeavesRest, AreApartFrom}
use Rattle.laws_stream.specs.Lives.{Runs, HasNotBegun, Along, sets_going, IsGoing, Lives}
use Rattle.laws_stream.specs.Sounding.{StreamIs, IsHeardBy, StreamSounds}
use Rattle.laws_stream.proofs.Rows.{woven_all, woven_before}
use Rattle.laws_stream.proofs.Beside.{Laws, heard_row}
use Rattle.laws_stream.proofs.Runs.{runs_each}
use Rattle.laws_stream.proofs.Calls.{before_all, ring_same}
use Rattle.laws_stream.proofs.Lives.{Along-append, Along-end}
use Rattle.laws_stream.proofs.Silent.{LeavesSilent, clears_silent, events_silent, front, rise_is, front_silent, rise_idle}

-- ---- the laws that this goes by beside those of a stream that plays

pub record FirstLaws : Type 0 where
  pub rests : (fifo : ℕ) (made : List Event) (old new : Telling) → Makes made old new → All LeavesRest made → Rests fifo (world_of old) → Rests fifo (world_of new)
  pub can_begin : (ring : Ring) (from read corb rirb : ℕ) (rings : RingPlaces) (world : World) → Rests ring.geometry.fifo world → engine.Stands from read corb rirb rings world → AreApartFrom ring rirb → CanBegin ring world
  pub idle : (codecs : List CodecState) (events : List Event) (world : World) → All LeavesCommands events → AreIdle codecs world → AreIdle codecs (after events world)
  pub begun_sent : (world : World) → world.output ≡ begun → HasSent (length world.carried) world

-- ---- the look for interrupts

before_rests : (irq : Bool) (first : List Event) → IsBefore irq first → All LeavesRest first
before_rests = before_all LeavesRest (λ at value width. tt {0}) (λ value. inr (inl (inr refl, refl)))

before_idle : (irq : Bool) (first : List Event) → IsBefore irq first → All LeavesCommands first
before_idle = before_all LeavesCommands (λ at value width. tt {0}) (λ value. record { control = λ e. cc; corb = inr (omega arith) })

before_apart : (irq : Bool) (first : List Event) → IsBefore irq first → All IsBesideBoth first
before_apart = before_all IsBesideBoth (λ at value width. tt {0})
    (λ value. (record { control = inr (omega arith); rings = inr (omega arith) }, record { control = omega arith; descriptor = inr (omega arith) }))

pub stands_row : (from read corb rirb : ℕ) (rings : RingPlaces) (made : List Event) (old new : Telling) → Makes made old new → All IsBesideBoth made → engine.Stands from read corb rirb rings (world_of old) → engine.Stands from read corb rirb rings (world_of new)
stands_row from read corb rirb rings made old new makes all stands =
    let weaving = woven makes in
    subst (engine.Stands from read corb rirb rings) (sym (world_of-went old new weaving.events weaving.went))
    (events_beside_input_keep from read corb rirb rings responses_apart weaving.events (world_of old) (woven_all IsBesideBoth (λ step. tt {0}) made weaving.events weaving.woven all) stands)

before_silent : (irq : Bool) (first : List Event) → IsBefore irq first → All LeavesSilent first
before_silent = before_all LeavesSilent (λ at value width. tt {0}) clears_silent

-- it has not begun at any moment up to there
silent_row : (irq : Bool) (first : List Event) (old new : Telling) → Makes first old new → IsBefore irq first → Along HasNotBegun old.journal old.start → Along HasNotBegun new.journal new.start
silent_row irq first old new makes is_before along =
    let weaving = woven makes in
    let more = events_silent weaving.events (world_of old) (woven_all LeavesSilent (λ step. tt {0}) first weaving.events weaving.woven (before_silent irq first is_before)) (Along-end HasNotBegun old.journal old.start along) in
    subst (λ (journal : List Event). Along HasNotBegun journal new.start) (sym weaving.went.journal)
    (subst (Along HasNotBegun (old.journal ++ weaving.events)) (sym weaving.went.start) (Along-append HasNotBegun old.journal weaving.events old.start along more))

idle_row : (laws : FirstLaws) (codecs : List CodecState) (made : List Event) (old new : Telling) → Makes made old new → All LeavesCommands made → AreIdle codecs (world_of old) → AreIdle codecs (world_of new)
idle_row laws codecs made old new makes all idle =
    let weaving = woven makes in
    subst (AreIdle codecs) (sym (world_of-went old new weaving.events weaving.went))
    (laws.idle codecs weaving.events (world_of old) (woven_all LeavesCommands (λ step. tt {0}) made weaving.events weaving.woven all) idle)

-- ---- the rise of RUN

-- the stream was set going after these events, and nothing was carried
record HasRisen (codecs : List CodecState) (old risen : Telling) : Type 0 where
  idle : AreIdle codecs (world_of risen)
  none : (world_of risen).carried ≡ []
  during : List Event
  still : Along HasNotBegun during (world_of old)
  went : Went old risen (during ++ sets_going ∷ [])

no_frames : (P : CarriedFrame → Type 0) (carried : List CarriedFrame) → carried ≡ [] → All P (drop 0 carried)
no_frames P carried none = subst (λ (carried : List CarriedFrame). All P (drop 0 carried)) (sym none) (All-nil P)

module _ (laws : FirstLaws) (on : Laws) (codecs : List CodecState) (ring : Ring) (pcm : List ℕ) (budget : ℕ) (tally tally' : Tally) (old new : Telling) (tells : StartTells ring pcm budget tally tally' old new)
    (idle : AreIdle codecs (world_of old)) (along : Along HasNotBegun old.journal old.start) where
  silent : HasNotBegun (world_of old)
  silent = Along-end HasNotBegun old.journal old.start along

  abbrev line : List ℕ
  line = run_bytes (measures ring.geometry) tally.course (facts_of budget (length pcm) tells.from 0 tells.to) pcm

  abbrev rise : List Event
  rise = rise_accesses ring.geometry ring.list ring.periods tells.from tells.in_reset tells.ready line

  abbrev set : List Event
  set = front ring.geometry ring.list ring.periods tells.from tells.in_reset tells.ready line

  risen : HasRisen codecs old tells.risen
  risen =
      let weaving : Weaving rise old tells.risen = woven tells.before in
      let (during, is, before) = woven_before LeavesSilent (λ step. tt {0}) set sets_going weaving.events
      (subst (λ (made : List Event). AreWoven made weaving.events) (rise_is ring.geometry ring.list ring.periods tells.from tells.in_reset tells.ready line) weaving.woven)
      (front_silent ring.geometry ring.list ring.periods tells.from tells.in_reset tells.ready line) in
      let went = subst (Went old tells.risen) is weaving.went in
      let there = world_of-went old tells.risen (during ++ sets_going ∷ []) went ∙ after-append during (sets_going ∷ []) (world_of old) in record {
        idle = idle_row laws codecs rise old tells.risen tells.before (rise_idle ring.geometry ring.list ring.periods tells.from tells.in_reset tells.ready line) idle;
        none = ap (λ (world : World). world.carried) there ∙ (access_leaves (after during (world_of old)) 0xA0 0x1E One).carried ∙ (Along-end HasNotBegun during (world_of old) (events_silent during (world_of old) before silent)).none;
        during = during;
        still = events_silent during (world_of old) before silent;
        went = went;
      }

  heard_risen : IsHeardBy codecs ring (world_of tells.risen)
  heard_risen =
      let here = risen in record {
        steady = record {
          settings = here.idle.settings;
          idle = here.idle.idle;
          tag_is = tells.rises.stands.set.tag;
          word_is = tells.rises.stands.set.format_is;
          begun = omega arith;
          frames = no_frames (IsSteadyFrame codecs 1 (format_word ring.geometry.format) (block_size (layout ring.geometry.format))) (world_of tells.risen).carried here.none;
        };
        sent = subst (λ (from : ℕ). HasSent from (world_of tells.risen)) (ap (λ (carried : List CarriedFrame). length carried) here.none) (laws.begun_sent (world_of tells.risen) tells.anew);
      }

  heard_new : IsHeardBy codecs ring (world_of new)
  heard_new =
      heard_row on codecs ring (Read WALCLK Four tells.to ∷ []) tells.risen new tells.after
      (All-cons LeavesSteady (Read WALCLK Four tells.to) [] (tt {0}) (All-nil LeavesSteady)) heard_risen

  going : IsGoing new
  going =
      let here = risen in
      let journal : tells.risen.journal ≡ (old.journal ++ here.during) ++ sets_going ∷ [] = here.went.journal ∙ sym (append_assoc old.journal here.during (sets_going ∷ [])) in record {
        before = old.journal ++ here.during;
        during = tells.events;
        journal = tells.went.journal ∙ ap (λ (journal : List Event). journal ++ tells.events) journal ∙ append_assoc (old.journal ++ here.during) (sets_going ∷ []) tells.events;
        silent = subst (Along HasNotBegun (old.journal ++ here.during)) (sym (tells.went.start ∙ here.went.start)) (Along-append HasNotBegun old.journal here.during old.start along here.still);
        runs = subst (Along Runs tells.events) (ap (λ (journal : List Event). after journal tells.risen.start) journal ∙ ap (after ((old.journal ++ here.during) ++ sets_going ∷ [])) (sym tells.went.start))
            (runs_each ring (line_of tally' pcm) tally'.course.reach tally'.course.from (record { from = 0; to = 0; start = tally'.course.reach; reach = tally'.course.reach }) tells.events (world_of tells.risen) tells.moments
            (subst Runs (world_of-went tells.risen new tells.events tells.went) (record { running = tells.plays.stands.set.runs; no_error = tells.plays.stands.set.no_error })));
      }

  pub begun_sounds : StreamSounds codecs ring pcm tally' new
  begun_sounds = record {
    started = tells.plays.started;
    heard = heard_new;
    stream = subst (λ (was : Ran). StreamIs was ring pcm tally' (world_of new)) (sym tells.plays.plays) tells.plays;
    lives = subst (λ (was : Ran). Lives (is_open was) new) (sym tells.plays.plays) going;
  }

-- ---- the call

pub first_sounds : (laws : FirstLaws) (on : Laws) (pcm : List ℕ) (irq : Bool) (budget : ℕ) (old new : BringUp) (writer writer' : WriterState) (supply : List ℕ) (made : List Event) (before after : Telling) (from read corb rirb : ℕ)
    → Begins irq budget old new writer writer' supply made before after → StaysSet old new writer writer' → supply ≡ pcm → Along HasNotBegun before.journal before.start → Rests writer.geometry.fifo (world_of before)
    → engine.Stands from read corb rirb old.engine.rings (world_of before) → (world_of before).registers.global.corb_read_pointer ≡ (world_of before).registers.global.corb_write_pointer → AreApartFrom (ring_of writer) rirb
    → HasNotWrapped (world_of after) → StreamSounds (world_of before).codecs (ring_of writer') pcm (tally_of writer') after
first_sounds laws on pcm irq budget old new writer writer' supply made before after from read corb rirb begins stays is_all silent rests stands idle apart small =
    let codecs = (world_of before).codecs in
    let resting = laws.rests writer.geometry.fifo begins.first before begins.begins begins.first_made (before_rests irq begins.first begins.is_before) rests in
    let standing = stands_row from read corb rirb old.engine.rings begins.first before begins.begins begins.first_made (before_apart irq begins.first begins.is_before) stands in
    let idling = idle_row laws (world_of before).codecs begins.first before begins.begins begins.first_made (before_idle irq begins.first begins.is_before) (record { settings = refl; idle = idle }) in
    let tells = begins.tells (laws.can_begin (ring_of writer) from read corb rirb old.engine.rings (world_of begins.begins) resting standing apart) small in
    subst (λ (ring : Ring). StreamSounds (world_of before).codecs ring pcm (tally_of writer') after) (sym (ring_same old new writer writer' stays))
    (subst (λ (pcm : List ℕ). StreamSounds (world_of before).codecs (ring_of writer) pcm (tally_of writer') after) is_all
    (begun_sounds laws on (world_of before).codecs (ring_of writer) supply budget (tally_of writer) (tally_of writer') begins.begins after tells idling
    (silent_row irq begins.first before begins.begins begins.first_made begins.is_before silent)))
