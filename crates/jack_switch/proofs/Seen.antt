-- What the accesses of a call found, whether a look for interrupts came before them or not.
use Rattle.std.proofs.Common.{◌≡◌, ◌+◌, ◌-◌, ◌/◌, ℕ, min, List, [], ◌∷◌, ◌++◌, append_assoc, append-nil, length, Bool, true, false, if◌then◌else◌, refl, sym, ap, subst, ◌∙◌, drop}
use Rattle.std.specs.Prelude.{slice_index}
use Rattle.std.specs.List.{range_with_len}
use Rattle.std.specs.Option.{is_some}
use Rattle.std.proofs.lemmas.Grind.{flat_map-append}
use Rattle.verb_codes.specs.Words.{has_bit}
use Rattle.hda_registers.specs.declared.shapes.Width.TheVariants.{One, Four}
use Rattle.hda_registers.specs.declared.places.TheConstants.{WALCLK, INTSTS, RIRBSTS, RIRBWP}
use Rattle.hda_world.specs.Events.{Event, Read, Write}
use Rattle.command_engine.specs.declared.ring_places.RingPlaces.{RingPlaces}
use Rattle.command_engine.specs.Entries.{responses_in, answer_among}
use Rattle.command_engine.specs.Polling.{PollReads, AreNew, asked_of, poll_accesses, found_by}
use Rattle.period_writer.specs.declared.course.Course.{Course}
use Rattle.period_writer.specs.declared.geometry.Geometry.{Geometry}
use Rattle.period_writer.specs.declared.registers.TheConstants.{CONTROL, POSITION}
use Rattle.period_writer.specs.Lines.{sound_and_silence}
use Rattle.period_writer.specs.Places.{line_writes, piece_write, touched}
use Rattle.period_writer.specs.Playing.{run_writes}
use Rattle.period_writer.specs.Rings.{period_bytes, ring_bytes}
use Rattle.period_writer.specs.Runs.{RunFacts, measures, run_reach, run_start, run_sound}
use Rattle.period_writer.specs.Starting.{entry_write, run_accesses, start_accesses}
use Rattle.driver_progress.specs.declared.registers.TheConstants.{STREAM_STATUS}
use Rattle.driver_progress.specs.Interrupts.{interrupt_accesses}
use Rattle.driver_progress.specs.Tasks.{Task}
use Rattle.driver_progress.specs.Seen.{values_of, value_in}
use Rattle.driver_progress.specs.States.{State}
use Rattle.driver_progress.specs.Unread.{AreAccesses}
use Rattle.driver_bring_up.specs.Commanding.{entries_in, answer_in}
use Rattle.driver_bring_up.specs.Told.{IsBefore}
use Rattle.driver_bring_up.proofs.Callers.{interrupt_entries}
use Rattle.driver_rules.specs.Findings.{findings_of}
use Rattle.audio_driver.proofs.Accesses.{interrupt_are}
use Rattle.jack_switch.specs.SwitchRules.{as_progress}
use Rattle.jack_switch.proofs.Seeing.{writes_entries, poll_clocks, poll_positions, poll_pointer, poll_entries, turn_seen}
use Rattle.jack_switch.proofs.PlayedOn.{made_in, writes_in, pcm_in}
use Rattle.jack_switch.proofs.Stretches.{Sees, SeesPoll}
use Rattle.jack_switch.proofs.Interrupted.{look_unread}

-- ---- what comes before a call

pub before_unread : (irq : Bool) (first called : List Event) (register : ℕ) → IsBefore irq first → ((number : ℕ) → value_in register (Read INTSTS Four number) ≡ []) → ((number : ℕ) → value_in register (Read STREAM_STATUS One number) ≡ [])
    → values_of (first ++ called) register ≡ values_of called register
before_unread true first called register before none other =
    ap (λ (first : List Event). values_of (first ++ called) register) before.is
    ∙ look_unread register before.interrupts before.stream called (none before.interrupts) (other before.stream)
before_unread false first called register before none other = ap (λ (first : List Event). values_of (first ++ called) register) before

pub before_entries : (irq : Bool) (first called : List Event) → IsBefore irq first → entries_in (first ++ called) ≡ entries_in called
before_entries true first called before = ap (λ (first : List Event). entries_in (first ++ called)) before.is ∙ interrupt_entries before.interrupts before.stream called
before_entries false first called before = ap (λ (first : List Event). entries_in (first ++ called)) before

pub before_are : (irq : Bool) (first : List Event) → IsBefore irq first → AreAccesses first
before_are true first before = subst (λ (first : List Event). AreAccesses first) (sym before.is) (interrupt_are before.interrupts before.stream)
before_are false first before = subst (λ (first : List Event). AreAccesses first) (sym before) (tt {0})

-- ---- the answer

pub answer_same : (rings : RingPlaces) (reads : PollReads) (made : List Event) → entries_in made ≡ reads.entries → is_some (answer_in rings made) ≡ is_some (found_by rings reads)
answer_same rings reads made same = ap (λ (entries : List (List ℕ)). is_some (answer_among (asked_of rings.outstanding) (responses_in entries))) same

-- ---- a poll, and what comes after it

-- what a poll and some accesses found that read neither RIRB's registers nor its entries
pub poll_sees : (irq : Bool) (first rest : List Event) (rirb : ℕ) (rings : RingPlaces) (reads : PollReads) → IsBefore irq first → AreNew rings reads → entries_in rest ≡ []
    → SeesPoll (findings_of (first ++ (poll_accesses rirb rings reads ++ rest)) (is_some (answer_in rings (first ++ (poll_accesses rirb rings reads ++ rest))))) rings reads
poll_sees irq first rest rirb rings reads before new none =
    let called = poll_accesses rirb rings reads ++ rest in
    let entries = before_entries irq first called before ∙ poll_entries rirb rings reads rest new none in record {
      flag = ap (λ (values : List ℕ). slice_index values 0) (before_unread irq first called RIRBSTS before (λ number. refl) (λ number. refl));
      pointer = λ is. ap (λ (values : List ℕ). slice_index values 0) (before_unread irq first called RIRBWP before (λ number. refl) (λ number. refl)) ∙ poll_pointer rirb rings reads rest (is_some (found_by rings reads)) is;
      pieces = entries;
      answered = answer_same rings reads (first ++ called) entries;
    }

pub poll_no_clocks : (irq : Bool) (first rest : List Event) (rirb : ℕ) (rings : RingPlaces) (reads : PollReads) → IsBefore irq first → values_of rest WALCLK ≡ [] → values_of (first ++ (poll_accesses rirb rings reads ++ rest)) WALCLK ≡ []
poll_no_clocks irq first rest rirb rings reads before none =
    before_unread irq first (poll_accesses rirb rings reads ++ rest) WALCLK before (λ number. refl) (λ number. refl) ∙ poll_clocks rirb rings reads rest ∙ none

-- ---- a later run

-- it reads no entry
pub run_entries : (geometry : Geometry) (periods : List ℕ) (course : Course) (facts : RunFacts) (supply : List ℕ) (later : List Event) → entries_in later ≡ []
    → entries_in (run_writes (period_bytes geometry.period) periods (measures geometry) course facts supply ++ Read WALCLK Four facts.to ∷ later) ≡ []
run_entries geometry periods course facts supply later none =
    let bytes = period_bytes geometry.period in
    let m = measures geometry in
    let start = run_start m course facts in
    let to = min course.reach (run_start m course facts + run_sound m course facts) in
    let first = sound_and_silence (to - start) (to - start) supply in
    let second = sound_and_silence (run_sound m course facts - (to - start)) (run_reach m course facts - course.reach) (drop (to - start) supply) in
    ap entries_in (append_assoc (line_writes bytes periods start to first) (line_writes bytes periods course.reach (run_reach m course facts) second) (Read WALCLK Four facts.to ∷ later))
    ∙ writes_entries (piece_write bytes periods start to first) (range_with_len (start / bytes) (touched bytes start to)) (line_writes bytes periods course.reach (run_reach m course facts) second ++ Read WALCLK Four facts.to ∷ later) (λ number. refl)
    ∙ writes_entries (piece_write bytes periods course.reach (run_reach m course facts) second) (range_with_len (course.reach / bytes) (touched bytes course.reach (run_reach m course facts))) (Read WALCLK Four facts.to ∷ later) (λ number. refl)
    ∙ none

-- the clock twice, and LPIB
pub run_sees : (irq : Bool) (first later : List Event) (task : Task) (state : State) (reads : PollReads) (facts : RunFacts) → IsBefore irq first → AreNew state.rings reads → values_of later WALCLK ≡ [] → values_of later POSITION ≡ [] → entries_in later ≡ []
    → Sees (findings_of (first ++ made_in task state reads facts later) (is_some (answer_in state.rings (first ++ made_in task state reads facts later)))) state.rings reads facts.from facts.lpib facts.to
run_sees irq first later task state reads facts before new no_clock no_position none =
    let m = measures task.geometry in
    let bytes = period_bytes task.geometry.period in
    let course = state.tally.course in
    let reach = run_reach m course facts in
    let called = made_in task state reads facts later in
    let rest = Read WALCLK Four facts.from ∷ Read POSITION Four facts.lpib ∷ (writes_in task state facts ++ Read WALCLK Four facts.to ∷ later) in
    let poll = poll_sees irq first rest task.blocks.rirb state.rings reads before new (run_entries task.geometry task.blocks.periods course facts (pcm_in task state) later none) in record {
      flag = poll.flag;
      pointer = poll.pointer;
      clocks = before_unread irq first called WALCLK before (λ number. refl) (λ number. refl)
          ∙ poll_clocks task.blocks.rirb state.rings reads rest
          ∙ ap (λ (values : List ℕ). facts.from ∷ values) (turn_seen WALCLK bytes task.blocks.periods (run_start m course facts) (run_sound m course facts) course.reach reach (pcm_in task state) (Read WALCLK Four facts.to ∷ later) ∙ ap (λ (values : List ℕ). facts.to ∷ values) no_clock);
      position = ap (λ (values : List ℕ). slice_index values 0)
          (before_unread irq first called POSITION before (λ number. refl) (λ number. refl)
          ∙ poll_positions task.blocks.rirb state.rings reads rest
          ∙ ap (λ (values : List ℕ). facts.lpib ∷ values) (turn_seen POSITION bytes task.blocks.periods (run_start m course facts) (run_sound m course facts) course.reach reach (pcm_in task state) (Read WALCLK Four facts.to ∷ later) ∙ no_position));
      pieces = poll.pieces;
      answered = poll.answered;
    }

-- ---- the first run

pub start_entries : (geometry : Geometry) (list : ℕ) (periods : List ℕ) (from in_reset ready to : ℕ) (written : List ℕ) → entries_in (start_accesses geometry list periods from in_reset ready to written) ≡ []
start_entries geometry list periods from in_reset ready to written =
    let bytes = period_bytes geometry.period in
    let ring = ring_bytes geometry.periods geometry.period in
    let rest = run_accesses list geometry ++ Read WALCLK Four to ∷ [] in
    writes_entries (entry_write list periods bytes) (range_with_len 0 (length periods)) (line_writes bytes periods 0 ring written ++ rest) (λ number. refl)
    ∙ writes_entries (piece_write bytes periods 0 ring written) (range_with_len (0 / bytes) (touched bytes 0 ring)) rest (λ number. refl)
