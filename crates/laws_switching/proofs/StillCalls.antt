-- A call of a driver that switches in which no run comes: it makes no access, or looks for interrupts.
use Rattle.std.proofs.Common.{◌≡◌, ◌⊎◌, inl, inr, ◌*◌, ℕ, Bool, true, false, if◌then◌else◌, List, [], ◌∷◌, Option, None, Some, refl, sym, ap, subst, ◌∙◌, arith}
use Rattle.std.specs.Prelude.{All}
use Rattle.std.specs.Option.{is_some, is_none}
use Rattle.std.specs.Prelude.{◌&&◌, not}
use Rattle.std.proofs.lemmas.Bool.{false≢true}
use Rattle.std.proofs.lemmas.List.Elements.{All-cons, All-head, All-nil, All-tail}
use Rattle.codec_graph.specs.declared.raw.RawCodec.{RawCodec}
use Rattle.codec_graph.specs.CodecStates.{CodecState}
use Rattle.stream_format.specs.declared.format.Format.{Format}
use Rattle.route_planner.specs.declared.routes.Plan.{Plan}
use Rattle.hda_world.specs.Worlds.{World}
use Rattle.hda_world.specs.Events.{Event, Stepped, Read, Write, happens}
use Rattle.hda_world.specs.Tellings.{Telling, world_of, Makes}
use Rattle.hda_world.proofs.Callers.{Weaving, woven}
use Rattle.command_engine.specs.Engines.{EngineState}
use Rattle.command_engine.specs.Apart.{IsBesideBoth}
use Rattle.command_engine.specs.Fetchings.{Stands}
use Rattle.command_engine.specs.Polling.{asked_of}
use Rattle.period_writer.specs.Standing.{Ring}
use Rattle.period_writer.specs.Writers.{tally_of, ring_of}
use Rattle.driver_progress.specs.Answers.{AnswersAgree}
use Rattle.driver_progress.specs.Noting.{ArePlain}
use Rattle.driver_progress.specs.Tasks.{Task, DriverLine}
use Rattle.driver_progress.specs.Progress.{trail_of}
use Rattle.driver_rules.specs.Onward.{onward_of}
use Rattle.laws_stream.specs.Resting.{Rests, AreApartFrom, LeavesRest}
use Rattle.laws_stream.specs.Lives.{Along}
use Rattle.laws_stream.specs.Going.{StreamGoes, is_left_open, LeavesAlone}
use Rattle.jack_switch.specs.SwitchRules.{SwitchState, switch_rules, is_on}
use Rattle.jack_switch.specs.JackDrivers.{JackDriverState, switch_state, IsTaskOfSwitching, KeepsJackDriver}
use Rattle.laws_switching.specs.Switching.{StreamSwitches}
use Rattle.verb_codes.specs.Words.{has_bit, bits_of}
use Rattle.hda_registers.specs.declared.shapes.Width.{Width}
use Rattle.hda_registers.specs.declared.shapes.Width.TheVariants.{One, Four}
use Rattle.hda_registers.specs.declared.places.TheConstants.{INTSTS}
use Rattle.world_steps.specs.declared.Step.{Step}
use Rattle.driver_progress.specs.declared.registers.TheConstants.{STREAM_STATUS}
use Rattle.driver_progress.specs.Seen.{interrupts_at, stream_interrupts_at}
use Rattle.driver_progress.specs.Interrupts.{clear_accesses, interrupt_accesses}
use Rattle.driver_progress.specs.Progress.{Trail}
use Rattle.driver_bring_up.specs.Told.{IsBefore}
use Rattle.driver_rules.proofs.Callers.{plain_noted, trail_is}
use Rattle.laws_bring_up.proofs.Callers.{row_on}
use Rattle.laws_stream.proofs.Callers.{looks_all, woven_all, stands_row, Along-append, Along-end}
use Rattle.laws_switching.specs.Since.{since_ready}
use Rattle.laws_switching.specs.Senses.{KnowsJacks, senses_after, senses_opened, SensesDecide, IsBesideSenses}
use Rattle.audio_driver.specs.States.{is_open}
use Rattle.audio_driver.specs.Sounding.{IsLook}
use Rattle.driver_bring_up.specs.Commanding.{entries_in, answer_in}
use Rattle.driver_bring_up.proofs.Callers.{answer_none}
use Rattle.jack_switch.specs.JackCalls.{IsStill}
use Rattle.laws_switching.proofs.Opened.{Agrees, IsOpened, HasMade, of_kept}
use Rattle.laws_switching.proofs.Core.{Core, Hears, going_of, SensesAt, events_core, beside_hears}
use Rattle.laws_switching.proofs.Given.{Given}

-- ---- a driver of which as much is the same

pub record IsSame (old new : JackDriverState) : Type 0 where
  pub engine : new.engine ≡ old.engine
  pub state : switch_state new ≡ switch_state old
  pub ring : ring_of new.writer ≡ ring_of old.writer

pub same_kept : (old new : JackDriverState) → KeepsJackDriver old new → new.engine ≡ old.engine → switch_state new ≡ switch_state old → IsSame old new
same_kept old new keeps engine state = record {
  engine = engine;
  state = state;
  ring = cc;
}

-- ---- what a look for interrupts leaves alone

look_all : (P : Event → Type 0) → ((at value : ℕ) (width : Width) → P (Read at width value)) → ((value : ℕ) → P (Write STREAM_STATUS One value)) → (interrupts stream : ℕ) → All P (interrupt_accesses interrupts stream)
look_all P reads writes interrupts stream =
    All-cons P (Read INTSTS Four interrupts) (if has_bit interrupts interrupts_at then clear_accesses interrupts stream else []) (reads INTSTS interrupts Four)
    (looks_all P reads writes interrupts stream (has_bit interrupts interrupts_at))

-- a row leaves alone what a look does
pub record IsLookRow (ring : Ring) (corb rirb : ℕ) (made : List Event) : Type 0 where
  pub rests : All LeavesRest made
  pub apart : All IsBesideBoth made
  pub alone : All (LeavesAlone ring) made
  pub senses : All (IsBesideSenses corb rirb) made
  pub plain : ArePlain made
  pub none : entries_in made ≡ []

look_plain : (interrupts stream : ℕ) (on clears : Bool) → ArePlain (Read INTSTS Four interrupts ∷ (if on then (if clears then Read STREAM_STATUS One stream ∷ Write STREAM_STATUS One (4 * bits_of stream 2 3) ∷ [] else []) else []))
look_plain interrupts stream true true = (refl, (refl, (refl, tt {0})))
look_plain interrupts stream true false = (refl, tt {0})
look_plain interrupts stream false clears = (refl, tt {0})

look_none : (interrupts stream : ℕ) (on clears : Bool) → entries_in (Read INTSTS Four interrupts ∷ (if on then (if clears then Read STREAM_STATUS One stream ∷ Write STREAM_STATUS One (4 * bits_of stream 2 3) ∷ [] else []) else [])) ≡ []
look_none interrupts stream true true = refl
look_none interrupts stream true false = refl
look_none interrupts stream false clears = refl

look_row : (ring : Ring) (corb rirb interrupts stream : ℕ) → IsLookRow ring corb rirb (interrupt_accesses interrupts stream)
look_row ring corb rirb interrupts stream = record {
  rests = look_all LeavesRest (λ at value width. tt {0}) (λ value. inr (inl (inr refl, refl))) interrupts stream;
  apart = look_all IsBesideBoth (λ at value width. tt {0})
      (λ value. (record { control = inr (omega arith); rings = inr (omega arith) }, record { control = omega arith; descriptor = inr (omega arith) })) interrupts stream;
  alone = look_all (LeavesAlone ring) (λ at value width. tt {0}) (λ value. record { control = omega arith; responses = omega arith; streams = inr (inr refl, refl) }) interrupts stream;
  senses = look_all (IsBesideSenses corb rirb) (λ at value width. tt {0}) (λ value. tt {0}) interrupts stream;
  plain = look_plain interrupts stream (has_bit interrupts interrupts_at) (has_bit interrupts stream_interrupts_at);
  none = look_none interrupts stream (has_bit interrupts interrupts_at) (has_bit interrupts stream_interrupts_at);
}

none_row : (ring : Ring) (corb rirb : ℕ) → IsLookRow ring corb rirb []
none_row ring corb rirb = record {
  rests = All-nil LeavesRest;
  apart = All-nil IsBesideBoth;
  alone = All-nil (LeavesAlone ring);
  senses = All-nil (IsBesideSenses corb rirb);
  plain = tt {0};
  none = refl;
}

-- the accesses before a run, and those of a call in which none came
pub before_row : (ring : Ring) (corb rirb : ℕ) (irq : Bool) (first : List Event) → IsBefore irq first → IsLookRow ring corb rirb first
before_row ring corb rirb true first is = subst (IsLookRow ring corb rirb) (sym is.is) (look_row ring corb rirb is.interrupts is.stream)
before_row ring corb rirb false first is = subst (IsLookRow ring corb rirb) (sym is) (none_row ring corb rirb)

pub still_row : (ring : Ring) (corb rirb : ℕ) (made : List Event) → (made ≡ []) ⊎ IsLook made → IsLookRow ring corb rirb made
still_row ring corb rirb made (inl none) = subst (IsLookRow ring corb rirb) (sym none) (none_row ring corb rirb)
still_row ring corb rirb made (inr look) = subst (IsLookRow ring corb rirb) (sym look.is) (look_row ring corb rirb look.interrupts look.stream)

-- a driver to which runs come goes on
on_going : (is_first : Bool) (gave : Option ℕ) → (is_first && is_none gave) ≡ true → (not (is_some gave) && is_first) ≡ true
on_going true None on = refl
on_going true (Some noticed) on = cc
on_going false gave on = absurd (false≢true on)

module _ (format : Format) (graphs : List RawCodec) (plans : List Plan) (task : Task) (given : Given format graphs plans task) (lines : List DriverLine) where
  same_going : (old new : JackDriverState) → IsSame old new → going_of format graphs plans task given lines new ≡ going_of format graphs plans task given lines old
  same_going old new same = ap (λ (state : SwitchState). is_left_open (is_some state.given_up) state.tally.course.ran) same.state

  same_stream : (old new : JackDriverState) (telling : Telling) → IsSame old new → new.writer.geometry ≡ old.writer.geometry → StreamSwitches task old telling → StreamSwitches task new telling
  same_stream old new telling same geometry (inl has) = inl (record {
    idle = ap (λ (engine : EngineState). engine.rings.outstanding) same.engine ∙ has.idle;
    fresh = ap (λ (state : SwitchState). state.tally) same.state ∙ has.fresh;
    kept = ap (λ (state : SwitchState). state.given_up) same.state ∙ has.kept;
    apart = subst (λ (ring : Ring). AreApartFrom ring new.engine.rirb.address) (sym same.ring) (subst (λ (engine : EngineState). AreApartFrom (ring_of old.writer) engine.rirb.address) (sym same.engine) has.apart);
    rests = subst (λ (ring : Ring). Along (Rests ring.geometry.fifo) telling.journal telling.start) (sym same.ring) has.rests;
  })
  same_stream old new telling same geometry (inr goes) =
      inr (subst (λ (ring : Ring). StreamGoes (is_some new.given_up) ring task.pcm (tally_of new.writer) telling) (sym same.ring)
      (subst (λ (state : SwitchState). StreamGoes (is_some state.given_up) (ring_of old.writer) task.pcm state.tally telling) (sym same.state) goes))

  pub same_core : (start : List CodecState) (tf from read : ℕ) (old new : JackDriverState) (telling : Telling) → IsSame old new → new.writer.geometry ≡ old.writer.geometry → Core format graphs plans task given lines start tf from read old telling
      → Core format graphs plans task given lines start tf from read new telling
  same_core start tf from read old new telling same geometry core = record {
    by = core.by;
    switching = core.switching;
    taken = λ still. core.taken (sym (same_going old new same) ∙ still);
    set_up = core.set_up;
    stands = subst (λ (engine : EngineState). Stands from read engine.corb.address engine.rirb.address engine.rings (world_of telling)) (sym same.engine) core.stands;
    sends = λ command is. core.sends command (sym (ap (λ (engine : EngineState). engine.rings.outstanding) same.engine) ∙ is);
    stream = same_stream old new telling same geometry core.stream;
  }

  pub same_hears : (old new : JackDriverState) (telling : Telling) → IsSame old new → Hears format graphs plans task given lines old telling → Hears format graphs plans task given lines new telling
  same_hears old new telling same hears = record {
    begun = hears.begun;
    decided = subst (λ (engine : EngineState). SensesDecide engine.corb.address engine.rirb.address graphs plans (since_ready task lines telling)) (sym same.engine) hears.decided;
    knows = subst (λ (engine : EngineState). KnowsJacks (senses_after engine.corb.address engine.rirb.address (since_ready task lines telling) (senses_opened graphs plans)) new.switching) (sym same.engine)
        (subst (λ (state : SwitchState). KnowsJacks (SensesAt format graphs plans task given lines old telling) state.switching) (sym same.state) hears.knows);
  }

  -- ---- a look for interrupts

  module _ (driver : JackDriverState) (first : List Event) (row : IsLookRow (ring_of driver.writer) driver.engine.corb.address driver.engine.rirb.address first) (old new : Telling) (makes : Makes first old new) where
    weaving : Weaving first old new
    weaving = woven makes

    all_events : (P : Event → Type 0) → ((step : Step) → P (Stepped step)) → All P first → All P weaving.events
    all_events P stepped all = woven_all P stepped first weaving.events weaving.woven all

    rests_along : (fifo : ℕ) (events : List Event) (world : World) → All LeavesRest events → Rests fifo world → Along (Rests fifo) events world
    rests_along fifo [] world all rests = rests
    rests_along fifo (event ∷ events) world all rests =
        (rests, rests_along fifo events (happens world event) (All-tail LeavesRest event events all) (given.rest_events fifo (event ∷ []) world (All-cons LeavesRest event [] (All-head LeavesRest event events all) (All-nil LeavesRest)) rests))

    pub look_stream : StreamSwitches task driver old → StreamSwitches task driver new
    look_stream (inl has) =
        let fifo = driver.writer.geometry.fifo in inl (record {
          idle = has.idle;
          fresh = has.fresh;
          kept = has.kept;
          apart = has.apart;
          rests = subst (λ (start : World). Along (Rests fifo) new.journal start) (sym weaving.went.start)
              (subst (λ (journal : List Event). Along (Rests fifo) journal old.start) (sym weaving.went.journal)
              (Along-append (Rests fifo) old.journal weaving.events old.start has.rests
              (rests_along fifo weaving.events (world_of old) (all_events LeavesRest (λ step. tt {0}) row.rests) (Along-end (Rests fifo) old.journal old.start has.rests))));
        })
    look_stream (inr goes) = inr (given.stream.rows (is_some driver.given_up) (ring_of driver.writer) task.pcm (tally_of driver.writer) first old new makes row.alone goes)

    pub look_core : (start : List CodecState) (tf from read : ℕ) → going_of format graphs plans task given lines driver ≡ true → Core format graphs plans task given lines start tf from read driver old → Core format graphs plans task given lines start tf from read driver new
    look_core start tf from read going was =
        events_core format graphs plans task given lines start tf from read driver weaving.events old new weaving.went
        (stands_row from read driver.engine.corb.address driver.engine.rirb.address driver.engine.rings first old new makes row.apart was.stands)
        (λ over. absurd (false≢true (sym over ∙ going))) was (look_stream was.stream)

    pub look_hears : Hears format graphs plans task given lines driver old → Hears format graphs plans task given lines driver new
    look_hears was =
        let corb = driver.engine.corb.address in
        let rirb = driver.engine.rirb.address in
        beside_hears format graphs plans task given lines driver weaving.events old new weaving.went (all_events (IsBesideSenses corb rirb) (λ step. tt {0}) row.senses) was

    -- which responses answer is the same
    pub look_agree : (read : ℕ) → Agrees format graphs plans task given lines driver read old → Agrees format graphs plans task given lines driver read new
    look_agree read agree =
        let asked = asked_of driver.engine.rings.outstanding in
        let rules = switch_rules task graphs plans in
        let on = row_on first old new makes in
        let noted = plain_noted rules task lines first old new makes row.plain in
        let same : (trail_of task lines new).written ≡ (trail_of task lines old).written =
        ap (λ (trail : Trail). trail.written) (sym (trail_is rules task lines new)) ∙ noted.written_is ∙ ap (λ (trail : Trail). trail.written) (trail_is rules task lines old) in
        subst (λ (written : ℕ). AnswersAgree asked written read (world_of new).written) (sym same)
        (subst (AnswersAgree asked (trail_of task lines old).written read) (sym on.written) (given.grows asked (trail_of task lines old).written read (world_of old).written on.more_written agree))

    pub look_answered : (onward_of (switch_rules task graphs plans) task lines new).answered ≡ (onward_of (switch_rules task graphs plans) task lines old).answered
    look_answered = (plain_noted (switch_rules task graphs plans) task lines first old new makes row.plain).answered_is

  -- ---- a call in which no run came

  abbrev Answered : List Event → JackDriverState → Telling → Type 0
  Answered made driver telling = (onward_of (switch_rules task graphs plans) task lines telling).answered ≡ is_some (answer_in driver.engine.rings made)

  -- where no access is made nothing changes
  same_made : (left : List DriverLine) (turn : Option DriverLine) (supply supply' : List ℕ) (start : List CodecState) (tf : ℕ) (old new : JackDriverState) (begun : Telling) → IsSame old new → KeepsJackDriver old new → IsTaskOfSwitching new supply' task
      → IsOpened format graphs plans task given lines left turn supply start tf old begun → HasMade format graphs plans task given lines supply' start tf new begun
  same_made left turn supply supply' start tf old new begun same keeps task_is opened = record {
    of = of_kept format graphs plans task given lines old new supply supply' keeps opened.of task_is;
    from = opened.from;
    read = opened.read;
    core = same_core start tf opened.from opened.read old new begun same keeps.geometry opened.core;
    hears = same_hears old new begun same opened.hears;
    agree = subst (λ (engine : EngineState). AnswersAgree (asked_of engine.rings.outstanding) (trail_of task lines begun).written opened.read (world_of begun).written) (sym same.engine) opened.agree;
  }

  looked_made : (left : List DriverLine) (turn : Option DriverLine) (supply supply' : List ℕ) (start : List CodecState) (tf : ℕ) (old new : JackDriverState) (events : List Event) (begun made : Telling) → IsSame old new → KeepsJackDriver old new
      → IsTaskOfSwitching new supply' task → IsLookRow (ring_of old.writer) old.engine.corb.address old.engine.rirb.address events → Makes events begun made → going_of format graphs plans task given lines old ≡ true
      → IsOpened format graphs plans task given lines left turn supply start tf old begun → HasMade format graphs plans task given lines supply' start tf new made
  looked_made left turn supply supply' start tf old new events begun made same keeps task_is row makes going opened = record {
    of = of_kept format graphs plans task given lines old new supply supply' keeps opened.of task_is;
    from = opened.from;
    read = opened.read;
    core = same_core start tf opened.from opened.read old new made same keeps.geometry (look_core old events row begun made makes start tf opened.from opened.read going opened.core);
    hears = same_hears old new made same (look_hears old events row begun made makes opened.hears);
    agree = subst (λ (engine : EngineState). AnswersAgree (asked_of engine.rings.outstanding) (trail_of task lines made).written opened.read (world_of made).written) (sym same.engine)
        (look_agree old events row begun made makes opened.read opened.agree);
  }

  pub still_made : (irq : Bool) (left : List DriverLine) (turn : Option DriverLine) (supply supply' : List ℕ) (start : List CodecState) (tf : ℕ) (old new : JackDriverState) (events : List Event) (begun made : Telling) → KeepsJackDriver old new
      → IsTaskOfSwitching new supply' task → IsStill irq old new events → Makes events begun made → IsOpened format graphs plans task given lines left turn supply start tf old begun
      → HasMade format graphs plans task given lines supply' start tf new made × Answered events old made
  still_made irq left turn supply supply' start tf old new events begun made keeps task_is still makes opened =
      (by (is_on (switch_state old)) refl, look_answered old events row begun made makes ∙ opened.unanswered ∙ sym (ap (λ (answer : Option ℕ). is_some answer) (answer_none old.engine.rings events row.none)))
    where
      row : IsLookRow (ring_of old.writer) old.engine.corb.address old.engine.rirb.address events
      row = still_row (ring_of old.writer) old.engine.corb.address old.engine.rirb.address events still.looks

      same : IsSame old new
      same = same_kept old new keeps still.engine still.state

      by : (on : Bool) → is_on (switch_state old) ≡ on → HasMade format graphs plans task given lines supply' start tf new made
      by true on = looked_made left turn supply supply' start tf old new events begun made same keeps task_is row makes (on_going (is_open old.writer.course.ran) old.given_up on) opened
      by false on =
          let none : events ≡ [] = still.over on in
          let there : made ≡ begun = (subst (λ (events : List Event). Makes events begun made) none makes).by in
          subst (λ (telling : Telling). HasMade format graphs plans task given lines supply' start tf new telling) (sym there)
          (same_made left turn supply supply' start tf old new begun same keeps task_is opened)
