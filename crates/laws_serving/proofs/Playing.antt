-- The calls that play, by a schedule that serves: the first run, and later ones, which are never late.
use Rattle.std.proofs.Common.{◌≡◌, ◌≢◌, ◌≤◌, ◌⊎◌, inl, inr, ℕ, zero, suc, ◌+◌, ◌-◌, ◌*◌, ◌/◌, ◌&&◌, ◌||◌, Bool, true, false, List, [], ◌∷◌, ◌++◌, length, drop, Option, None, Some, refl, sym, ap, subst, ◌∙◌, arith, rules, append_assoc, if◌then◌else◌}
use Rattle.std.specs.Prelude.{All, nat_lt, slice_get, slice_index}
use Rattle.std.specs.List.{list_any}
use Rattle.std.proofs.lemmas.List.Elements.{All-nil, All-cons, All-head, All-tail, All-append}
use Rattle.hda_registers.specs.declared.shapes.Width.TheVariants.{One, Two, Four}
use Rattle.hda_registers.specs.declared.places.TheConstants.{WALCLK, RIRBWP, RIRBSTS}
use Rattle.hda_registers.specs.Fields.{entries_of}
use Rattle.verb_codes.specs.Words.{has_bit}
use Rattle.command_engine.specs.declared.ring_places.RingPlaces.{RingPlaces}
use Rattle.command_engine.specs.Polling.{new_entries}
use Rattle.hda_world.specs.Worlds.{World}
use Rattle.hda_world.specs.Events.{Event, Read, AreHonest, after}
use Rattle.period_writer.specs.declared.course.Course as period
use Rattle.period_writer.specs.declared.course.Ran.{Ran}
use Rattle.period_writer.specs.declared.course.Ran.TheVariants as ran
use Rattle.period_writer.specs.declared.registers.TheConstants.{CONTROL, POSITION}
use Rattle.period_writer.specs.Rings.{period_bytes}
use Rattle.period_writer.specs.Starting.{entry_writes, run_accesses}
use Rattle.period_writer.specs.Playing.{stop_accesses}
use Rattle.period_writer.specs.Runs.{Measures, RunFacts, Stretch, Tally, facts_of, measures, tally_opened, is_over, is_late, is_slow, takes_back, taken_up, taken_up_if, tally_after, tally_if, run_start, run_sound, run_reach}
use Rattle.period_writer.proofs.Callers.{opened_late}
use Rattle.driver_progress.specs.declared.phase.Phase.{Phase}
use Rattle.driver_progress.specs.declared.phase.Phase.TheVariants.{Ready, Playing, Drained}
use Rattle.driver_progress.specs.Tasks.{Task, DriverLine}
use Rattle.driver_progress.specs.Seen.{Seen, values_of}
use Rattle.driver_progress.specs.States.{State}
use Rattle.driver_progress.specs.Requests.{Request, Gets, Puts, requests_of}
use Rattle.driver_progress.specs.Expected.{facts_seen, appends, starts, plays_on, stops, fetches, polls, shuts, runs, closes}
use Rattle.driver_progress.specs.Next.{polled, phase_played, led, closed, tally_next, budget_of}
use Rattle.driver_progress.specs.Progress.{Trail, begun, seen_in}
use Rattle.rig.specs.Follows.{AreAccesses}
use Rattle.laws_serving.specs.ServingSchedules.{HasStreamsAlone}
use Rattle.laws_serving.proofs.Requests.{IsAccess, reads_first, in_two, none_asked}
use Rattle.laws_serving.proofs.Rows.{CalmRow, row_split, row_of, within_call, calm_call, accesses_are}
use Rattle.laws_serving.proofs.Notes.{gets, asks_none, ReadsNone, trail_made, IsNoted, notes_stay}
use Rattle.laws_serving.proofs.Worlds.{IsTimed, IsBeside, timed_row}
use Rattle.laws_serving.proofs.Counting.{call_counts}
use Rattle.laws_serving.proofs.Laid.{alone_is}
use Rattle.laws_serving.proofs.Asking.{fits_so, leads_so, plainly_asked, plainly_led}
use Rattle.laws_serving.proofs.Clocks.{IsAside, AreAside, aside_accesses, entries_aside, writes_aside, poll_aside, two_clocks, values_past, IsClocked, clocked}
use Rattle.hda_world.proofs.Callers.{AreHonest-front}

-- ---- what is asked

-- what it writes of the sound
appends_aside : (task : Task) (state : State) (budget : ℕ) (seen : Seen) → All IsAside (appends task state budget seen)
appends_aside task state budget seen =
    let m = measures task.geometry in
    let facts = facts_seen task state budget seen in
    writes_aside (period_bytes task.geometry.period) task.blocks.periods (run_start m state.tally.course facts) (run_sound m state.tally.course facts) state.tally.course.reach (run_reach m state.tally.course facts)
    (drop state.tally.course.used task.pcm)

-- a first run, between its two clocks
abbrev pub going : Task → State → (budget : ℕ) → Seen → List Request
going task state budget seen =
    Puts CONTROL One 1 ∷ Gets CONTROL One ∷ Puts CONTROL One 0 ∷ Gets CONTROL One
    ∷ (requests_of (entry_writes task.blocks.list task.blocks.periods (period_bytes task.geometry.period))
    ++ (appends task state budget seen ++ requests_of (run_accesses task.blocks.list task.geometry)))

starts_are : (task : Task) (state : State) (budget : ℕ) (seen : Seen) → starts task state budget seen ≡ Gets WALCLK Four ∷ (going task state budget seen ++ Gets WALCLK Four ∷ [])
starts_are task state budget seen =
    let entries = requests_of (entry_writes task.blocks.list task.blocks.periods (period_bytes task.geometry.period)) in
    let sound = appends task state budget seen in
    let set = requests_of (run_accesses task.blocks.list task.geometry) in
    ap (λ (rest : List Request). Gets WALCLK Four ∷ Puts CONTROL One 1 ∷ Gets CONTROL One ∷ Puts CONTROL One 0 ∷ Gets CONTROL One ∷ rest)
    (sym (append_assoc entries (sound ++ set) (Gets WALCLK Four ∷ []) ∙ ap (λ (rest : List Request). entries ++ rest) (append_assoc sound set (Gets WALCLK Four ∷ []))))

-- requests that go aside, said one after another
abbrev Each : List Request → Type 0
Each [] = Unit {0}
Each (request ∷ requests) = IsAside request × Each requests

each_all : (requests : List Request) → Each requests → All IsAside requests
each_all [] each = All-nil IsAside
each_all (request ∷ requests) each = All-cons IsAside request requests each.0 (each_all requests each.1)

going_aside : (task : Task) (state : State) (budget : ℕ) (seen : Seen) → All IsAside (going task state budget seen)
going_aside task state budget seen =
    let control : 0xA0 / 4 ≢ 2 = omega arith in
    let length_at : 0xA8 / 4 ≢ 2 = omega arith in
    let last_at : 0xAC / 4 ≢ 2 = omega arith in
    let format_at : 0xB2 / 4 ≢ 2 = omega arith in
    let list_at : 0xB8 / 4 ≢ 2 = omega arith in
    let interrupts_at : 0x20 / 4 ≢ 2 = omega arith in
    let entries = requests_of (entry_writes task.blocks.list task.blocks.periods (period_bytes task.geometry.period)) in
    let sound = appends task state budget seen in
    let set = requests_of (run_accesses task.blocks.list task.geometry) in
    let back =
    All-append IsAside entries (sound ++ set) (entries_aside task.blocks.list task.blocks.periods (period_bytes task.geometry.period))
    (All-append IsAside sound set (appends_aside task state budget seen)
    (each_all set (length_at, (last_at, (format_at, (list_at, (control, (interrupts_at, (control, tt))))))))) in
    All-append IsAside (Puts CONTROL One 1 ∷ Gets CONTROL One ∷ Puts CONTROL One 0 ∷ Gets CONTROL One ∷ []) (entries ++ (sound ++ set))
    (each_all (Puts CONTROL One 1 ∷ Gets CONTROL One ∷ Puts CONTROL One 0 ∷ Gets CONTROL One ∷ []) (control, (refl, (control, (refl, tt))))) back

-- ---- as they were made

-- a first run: the clock, what it does, and the clock
pub record IsFirst (task : Task) (state : State) (budget : ℕ) (seen : Seen) (accesses : List Event) : Type 0 where
  pub from : ℕ
  pub to : ℕ
  pub middle : List Event
  pub is : accesses ≡ Read WALCLK Four from ∷ (middle ++ Read WALCLK Four to ∷ [])
  pub aside : AreAside middle
  pub middle_are : AreAccesses middle
  pub middle_asks : requests_of middle ≡ going task state budget seen

pub first_as : (task : Task) (state : State) (budget : ℕ) (seen : Seen) (accesses : List Event) → AreAccesses accesses → requests_of accesses ≡ starts task state budget seen → IsFirst task state budget seen accesses
first_as task state budget seen accesses are asks =
    let one = reads_first accesses WALCLK Four (going task state budget seen ++ Gets WALCLK Four ∷ []) are (asks ∙ starts_are task state budget seen) in
    let parts = in_two (going task state budget seen) (Gets WALCLK Four ∷ []) one.later one.are one.rest_is in
    let last = reads_first parts.back WALCLK Four [] parts.back_are parts.back_asks in
    let none = none_asked last.later last.are last.rest_is in
    record {
      from = one.value;
      to = last.value;
      middle = parts.front;
      is = one.is ∙ ap (λ (later : List Event). Read WALCLK Four one.value ∷ later) (parts.is ∙ ap (λ (back : List Event). parts.front ++ back) (last.is ∙ ap (λ (rest : List Event). Read WALCLK Four last.value ∷ rest) none));
      aside = aside_accesses parts.front parts.front_are (subst (All IsAside) (sym parts.front_asks) (going_aside task state budget seen));
      middle_are = parts.front_are;
      middle_asks = parts.front_asks;
    }

-- a later run: a poll, the clock, LPIB, what it writes, the clock, and what comes after it
pub record IsLater (task : Task) (state : State) (budget : ℕ) (seen : Seen) (later : List Request) (accesses : List Event) : Type 0 where
  pub front : List Event
  pub from : ℕ
  pub lpib : ℕ
  pub middle : List Event
  pub to : ℕ
  pub back : List Event
  pub is : accesses ≡ front ++ Read WALCLK Four from ∷ Read POSITION Four lpib ∷ (middle ++ Read WALCLK Four to ∷ back)
  pub front_aside : AreAside front
  pub middle_aside : AreAside middle
  pub front_are : AreAccesses front
  pub middle_are : AreAccesses middle
  pub middle_asks : requests_of middle ≡ appends task state budget seen
  pub front_asks : requests_of front ≡ polls task.blocks.rirb state.rings seen
  pub back_asks : requests_of back ≡ later
  pub back_are : AreAccesses back

pub later_as : (task : Task) (state : State) (budget : ℕ) (seen : Seen) (later : List Request) (accesses : List Event) → AreAccesses accesses → requests_of accesses ≡ plays_on task state budget seen later
    → IsLater task state budget seen later accesses
later_as task state budget seen later accesses are asks =
    let rirb = task.blocks.rirb in
    let sound = appends task state budget seen in
    let parts = in_two (polls rirb state.rings seen) (Gets WALCLK Four ∷ Gets POSITION Four ∷ (sound ++ Gets WALCLK Four ∷ later)) accesses are asks in
    let one = reads_first parts.back WALCLK Four (Gets POSITION Four ∷ (sound ++ Gets WALCLK Four ∷ later)) parts.back_are parts.back_asks in
    let two = reads_first one.later POSITION Four (sound ++ Gets WALCLK Four ∷ later) one.are one.rest_is in
    let writes = in_two sound (Gets WALCLK Four ∷ later) two.later two.are two.rest_is in
    let last = reads_first writes.back WALCLK Four later writes.back_are writes.back_asks in
    record {
      front = parts.front;
      from = one.value;
      lpib = two.value;
      middle = writes.front;
      to = last.value;
      back = last.later;
      is = parts.is ∙ ap (λ (rest : List Event). parts.front ++ rest) (one.is ∙ ap (λ (rest : List Event). Read WALCLK Four one.value ∷ rest)
          (two.is ∙ ap (λ (rest : List Event). Read POSITION Four two.value ∷ rest) (writes.is ∙ ap (λ (rest : List Event). writes.front ++ rest) last.is)));
      front_aside = aside_accesses parts.front parts.front_are (subst (All IsAside) (sym parts.front_asks) (poll_aside rirb state.rings seen));
      middle_aside = aside_accesses writes.front writes.front_are (subst (All IsAside) (sym writes.front_asks) (appends_aside task state budget seen));
      front_are = parts.front_are;
      middle_are = writes.front_are;
      middle_asks = writes.front_asks;
      front_asks = parts.front_asks;
      back_asks = last.rest_is;
      back_are = last.are;
    }

-- ---- the tally

-- a stretch that reads the clock twice is a run, while the stream plays
pub taken_so : (m : Measures) (total : ℕ) (tally : Tally) (stretch : Stretch) (from to : ℕ) → tally.course.ran ≡ ran.Playing → stretch.clocks ≡ from ∷ to ∷ []
    → taken_up m total tally stretch ≡ tally_after m tally (facts_of stretch.budget (total - tally.course.used) from (slice_index stretch.lpibs 0) to)
taken_so m total tally stretch from to plays clocks =
    ap (λ (how : Ran). taken_up_if how stretch.clocks m total stretch tally) plays ∙ ap (λ (clocks : List ℕ). taken_up_if ran.Playing clocks m total stretch tally) clocks

not_over : (frames from to : ℕ) → to ≤ from + 500 * frames → is_over frames from to ≡ false
not_over frames from to soon = by (to - from) (500 * frames) (let few : to - from ≤ 500 * frames = omega (arith, soon) in few)
  where
    by : (a b : ℕ) → a ≤ b → nat_lt b a ≡ false
    by a b few = search (rules, few)

and_none : (a b : Bool) → b ≡ false → (a && b) ≡ false
and_none true b is = is
and_none false b is = refl

-- a run that ends in time is not late
pub in_time : (m : Measures) (course : period.Course) (facts : RunFacts) → facts.to ≤ course.from + 500 * m.limit → facts.to ≤ facts.from + 500 * m.slack → is_late m course facts ≡ false
in_time m course facts soon quick =
    ap (λ (late : Bool). late || is_slow m course facts) (and_none course.started (is_over m.limit course.from facts.to) (not_over m.limit course.from facts.to soon))
    ∙ and_none (takes_back m course facts) (is_over m.slack facts.from facts.to) (not_over m.slack facts.from facts.to quick)

-- ---- where it leads

-- a first run was made
pub record HasStartedSound (task : Task) (line : DriverLine) (trail trail' : Trail) (accesses : List Event) (world new : World) : Type 0 where
  pub shape : IsFirst task trail.state line.budget (seen_in (trail_made world trail accesses)) accesses
  pub lpib : ℕ
  pub phase : trail'.state.phase ≡ Playing
  pub sent_is : trail'.state.sent ≡ trail.state.sent
  pub tally_is : trail'.state.tally ≡ tally_if false (measures task.geometry) tally_opened (facts_of line.budget (length task.pcm) shape.from lpib shape.to)
  pub clocks : IsClocked shape.from shape.to world new

no_less : (n : ℕ) → n - 0 ≡ n
no_less n = omega arith

pub first_run : (task : Task) (least : ℕ) (trail trail' : Trail) (line : DriverLine) (accesses : List Event) (world new : World) → task.plays ≡ true → trail.state.phase ≡ Ready → trail.state.tally ≡ tally_opened → IsTimed least world → AreAccesses accesses
    → CalmRow accesses world new → IsNoted task world trail accesses trail' → slice_get trail.left 0 ≡ Some line → line.irq ≡ false → new.frames ≤ 8000000 → HasStartedSound task line trail trail' accesses world new
first_run task least trail trail' line accesses world new plays ready opened timed are row noted turn calm few =
    let seen = seen_in (trail_made world trail accesses) in
    let state = trail.state in
    let m = measures task.geometry in
    let tally = tally_next task state (Some line) seen in
    let asks : requests_of accesses ≡ starts task state line.budget seen =
    fits_so task world trail trail' accesses (Some line) are noted turn ∙ plainly_asked task state line seen tally calm ∙ ap (runs task state line.budget seen tally) ready
    ∙ ap (λ (plays : Bool). if plays then starts task state line.budget seen else []) plays in
    let first = first_as task state line.budget seen accesses are asks in
    let made = (notes_stay world.written (begun trail) accesses are).made in
    let clocks : seen.clocks ≡ first.from ∷ first.to ∷ [] =
    ap (λ (made : List Event). values_of made WALCLK) (made ∙ first.is) ∙ two_clocks [] first.middle [] first.from first.to (All-nil (ReadsNone WALCLK)) first.aside.no_clock (All-nil (ReadsNone WALCLK)) in
    let lpib = slice_index seen.positions 0 in
    let facts = facts_of line.budget (length task.pcm) first.from lpib first.to in
    let stretch : Stretch = record { budget = line.budget; clocks = seen.clocks; lpibs = seen.positions } in
    let taken : tally ≡ tally_if false m tally_opened facts =
    ap (λ (tally : Tally). taken_up m (length task.pcm) tally stretch) opened
    ∙ taken_so m (length task.pcm) tally_opened stretch first.from first.to refl clocks
    ∙ ap (λ (left : ℕ). tally_after m tally_opened (facts_of line.budget left first.from lpib first.to)) (no_less (length task.pcm))
    ∙ ap (λ (late : Bool). tally_if late m tally_opened facts) (opened_late m facts) in
    let leads : trail'.state ≡ record state { phase = Playing; tally = tally } =
    leads_so task world trail trail' accesses (Some line) are noted turn ∙ plainly_led task state line seen calm
    ∙ ap (λ (phase : Phase). record (led task state seen tally phase) { tally = tally }) ready
    ∙ ap (λ (plays : Bool). record (if plays then record state { phase = Playing } else state) { tally = tally }) plays in
    record {
      shape = first;
      lpib = lpib;
      phase = ap (λ (state : State). state.phase) leads;
      sent_is = ap (λ (state : State). state.sent) leads;
      tally_is = ap (λ (state : State). state.tally) leads ∙ taken;
      clocks = clocked [] first.middle first.from first.to world new (All-nil IsBeside) first.aside.beside (record { out = timed.out; time = timed.time; later = omega arith })
          (subst (λ (accesses : List Event). CalmRow accesses world new) first.is row) few;
    }

-- a later run was made, which was not late
pub record HasPlayedOn (task : Task) (turn : Option DriverLine) (later : List Request) (trail trail' : Trail) (accesses : List Event) (world : World) : Type 0 where
  pub shape : IsLater task trail.state (budget_of turn) (seen_in (trail_made world trail accesses)) later accesses
  pub clock : 500 * world.frames ≤ shape.from
  pub phase_is : trail'.state.phase ≡ phase_played task trail'.state.tally.course.ran
  pub sent_is : trail'.state.sent ≡ trail.state.sent
  pub tally_is : trail'.state.tally ≡ tally_if false (measures task.geometry) trail.state.tally (facts_of (budget_of turn) (length task.pcm - trail.state.tally.course.used) shape.from shape.lpib shape.to)

-- it left the line played on, or drained
pub ends_played : (task : Task) (phase : Phase) (how : Ran) (drained : Bool) → phase ≡ phase_played task how → how ≡ (if drained then ran.Drained else ran.Playing) → (phase ≡ Playing) ⊎ (phase ≡ Drained)
ends_played task phase how true is how_is = inr (is ∙ ap (phase_played task) how_is)
ends_played task phase how false is how_is = inl (is ∙ ap (phase_played task) how_is)

-- before a later run: the stream plays, and so many link frames at most pass from the last run's first clock to the end of this one
pub record IsInTime (task : Task) (frames : ℕ) (trail : Trail) : Type 0 where
  pub phase : trail.state.phase ≡ Playing
  pub plays : trail.state.tally.course.ran ≡ ran.Playing
  pub soon : 500 * frames ≤ trail.state.tally.course.from + 500 * (measures task.geometry).limit

module _ (task : Task) (trail trail' : Trail) (accesses : List Event) (world : World) where
  abbrev seen : Seen
  seen = seen_in (trail_made world trail accesses)

  abbrev m : Measures
  m = measures task.geometry

  -- a poll reads no LPIB
  poll_reads_none : (rirb : ℕ) (rings : RingPlaces) (seen : Seen) (front : List Event) → requests_of front ≡ polls rirb rings seen → All (ReadsNone POSITION) front
  poll_reads_none rirb rings seen front asks = asks_none POSITION front (ap (list_any (gets POSITION)) asks ∙ by (has_bit seen.flag 0))
    where
      entries : (size count place : ℕ) → list_any (gets POSITION) (fetches rirb size count place ++ Puts RIRBSTS One 1 ∷ []) ≡ false
      entries size zero place = refl
      entries size (suc count) place = entries size count (place + 1)

      by : (set : Bool) → list_any (gets POSITION) (if set then Gets RIRBWP Two ∷ (fetches rirb (entries_of rings.rirb) (new_entries rings seen.pointer) (rings.read + 1) ++ Puts RIRBSTS One 1 ∷ []) else []) ≡ false
      by true = entries (entries_of rings.rirb) (new_entries rings seen.pointer) (rings.read + 1)
      by false = refl

  -- what a run leads to that ended at a moment
  ran_so : (turn : Option DriverLine) (later : List Request) (there : World) → AreAccesses accesses → (run : IsLater task trail.state (budget_of turn) seen later accesses) → All (ReadsNone WALCLK) run.back
      → IsClocked run.from run.to world there → IsInTime task there.frames trail → there.frames ≤ world.frames + m.slack
      → trail'.state ≡ record trail.state { phase = phase_played task (tally_next task trail.state turn seen).course.ran; rings = polled trail.state.rings seen; tally = tally_next task trail.state turn seen }
      → HasPlayedOn task turn later trail trail' accesses world
  ran_so turn later there are run quiet clocks in_time_is quick leads =
      let state = trail.state in
      let total = length task.pcm in
      let made = (notes_stay world.written (begun trail) accesses are).made in
      let facts = facts_of (budget_of turn) (total - state.tally.course.used) run.from run.lpib run.to in
      let stretch : Stretch = record { budget = budget_of turn; clocks = seen.clocks; lpibs = seen.positions } in
      let no_lpib : All (ReadsNone WALCLK) (Read POSITION Four run.lpib ∷ run.middle) = All-cons (ReadsNone WALCLK) (Read POSITION Four run.lpib) run.middle refl run.middle_aside.no_clock in
      let clocks_are : seen.clocks ≡ run.from ∷ run.to ∷ [] =
      ap (λ (made : List Event). values_of made WALCLK) (made ∙ run.is) ∙ two_clocks run.front (Read POSITION Four run.lpib ∷ run.middle) run.back run.from run.to run.front_aside.no_clock no_lpib quiet in
      let lpib_is : slice_index seen.positions 0 ≡ run.lpib =
      ap (λ (made : List Event). slice_index (values_of made POSITION) 0) (made ∙ run.is)
      ∙ ap (λ (values : List ℕ). slice_index values 0)
      (values_past POSITION run.front (Read WALCLK Four run.from ∷ Read POSITION Four run.lpib ∷ (run.middle ++ Read WALCLK Four run.to ∷ run.back)) (poll_reads_none task.blocks.rirb state.rings seen run.front run.front_asks)) in
      let first = clocks.first in
      let last = clocks.last in
      let soon = in_time_is.soon in
      let punctual = in_time m state.tally.course facts (omega (arith, last, soon)) (omega (arith, first, last, quick)) in
      let taken : tally_next task state turn seen ≡ tally_if false m state.tally facts =
      taken_so m total state.tally stretch run.from run.to in_time_is.plays clocks_are
      ∙ ap (λ (lpib : ℕ). tally_after m state.tally (facts_of (budget_of turn) (total - state.tally.course.used) run.from lpib run.to)) lpib_is
      ∙ ap (λ (late : Bool). tally_if late m state.tally facts) punctual in
      record {
        shape = run;
        clock = first;
        phase_is = ap (λ (state : State). state.phase) leads ∙ ap (λ (tally : Tally). phase_played task tally.course.ran) (sym (ap (λ (state : State). state.tally) leads));
        sent_is = ap (λ (state : State). state.sent) leads;
        tally_is = ap (λ (state : State). state.tally) leads ∙ taken;
      }

-- the events up to the last clock, and those behind it
abbrev up_to_clock : (front : List Event) (from lpib : ℕ) (middle : List Event) (to : ℕ) → List Event
up_to_clock front from lpib middle to = front ++ Read WALCLK Four from ∷ ((Read POSITION Four lpib ∷ middle) ++ Read WALCLK Four to ∷ [])

in_front : (front middle back : List Event) (from lpib to : ℕ)
    → front ++ Read WALCLK Four from ∷ Read POSITION Four lpib ∷ (middle ++ Read WALCLK Four to ∷ back) ≡ up_to_clock front from lpib middle to ++ back
in_front front middle back from lpib to =
    sym (append_assoc front (Read WALCLK Four from ∷ ((Read POSITION Four lpib ∷ middle) ++ Read WALCLK Four to ∷ [])) back
    ∙ ap (λ (rest : List Event). front ++ Read WALCLK Four from ∷ Read POSITION Four lpib ∷ rest) (append_assoc middle (Read WALCLK Four to ∷ []) back))

lpib_beside : (lpib : ℕ) (middle : List Event) → All IsBeside middle → All IsBeside (Read POSITION Four lpib ∷ middle)
lpib_beside lpib middle beside = All-cons IsBeside (Read POSITION Four lpib) middle (tt, tt) beside

stops_aside : (tally : Tally) → All IsAside (stops tally)
stops_aside tally = by tally.course.ran
  where
    control : 0xA0 / 4 ≢ 2
    control = omega arith

    by : (how : Ran) → All IsAside (requests_of (stop_accesses how))
    by ran.Playing = All-nil IsAside
    by ran.Drained = All-cons IsAside (Puts CONTROL One 0) [] control (All-nil IsAside)
    by (ran.Late from to limit) = All-cons IsAside (Puts CONTROL One 0) [] control (All-nil IsAside)

-- a later run by a line
pub later_run : (task : Task) (least : ℕ) (trail trail' : Trail) (line : DriverLine) (accesses : List Event) (world new : World) → IsInTime task new.frames trail → new.frames ≤ world.frames + (measures task.geometry).slack → IsTimed least world
    → AreAccesses accesses → CalmRow accesses world new → IsNoted task world trail accesses trail' → slice_get trail.left 0 ≡ Some line → line.irq ≡ false → new.frames ≤ 8000000
    → HasPlayedOn task (Some line) (stops trail'.state.tally) trail trail' accesses world × IsTimed world.frames new
later_run task least trail trail' line accesses world new in_time_is quick timed are row noted turn calm few =
    let seen = seen_in (trail_made world trail accesses) in
    let state = trail.state in
    let tally = tally_next task state (Some line) seen in
    let asks : requests_of accesses ≡ plays_on task state line.budget seen (stops tally) =
    fits_so task world trail trail' accesses (Some line) are noted turn ∙ plainly_asked task state line seen tally calm ∙ ap (runs task state line.budget seen tally) in_time_is.phase in
    let run = later_as task state line.budget seen (stops tally) accesses are asks in
    let front = up_to_clock run.front run.from run.lpib run.middle run.to in
    let back = aside_accesses run.back run.back_are (subst (All IsAside) (sym run.back_asks) (stops_aside tally)) in
    let parts = row_split front run.back world new
    (subst (λ (accesses : List Event). CalmRow accesses world new) (run.is ∙ in_front run.front run.middle run.back run.from run.lpib run.to) row) in
    let there = parts.0 in
    let here : IsTimed world.frames world = record { out = timed.out; time = timed.time; later = omega arith } in
    let stop = λ (at : IsTimed there.frames there). timed_row run.back there new there.frames back.beside parts.2 at in
    let before = times_there run.front (Read POSITION Four run.lpib ∷ run.middle) run.from run.to world there run.front_aside.beside (lpib_beside run.lpib run.middle run.middle_aside.beside) here parts.1 in
    let end = stop (record { out = before.out; time = before.time; later = omega arith }) in
    let grows = end.later in
    let clocks = clocked run.front (Read POSITION Four run.lpib ∷ run.middle) run.from run.to world there run.front_aside.beside (lpib_beside run.lpib run.middle run.middle_aside.beside) here parts.1 (omega (arith, grows, few)) in
    let soon = in_time_is.soon in
    let since = before.later in
    let leads : trail'.state ≡ record state { phase = phase_played task tally.course.ran; rings = polled state.rings seen; tally = tally } =
    leads_so task world trail trail' accesses (Some line) are noted turn ∙ plainly_led task state line seen calm ∙ ap (λ (phase : Phase). record (led task state seen tally phase) { tally = tally }) in_time_is.phase in (
      subst (λ (later : Tally). HasPlayedOn task (Some line) (stops later) trail trail' accesses world) (sym (ap (λ (state : State). state.tally) leads))
          (ran_so task trail trail' accesses world (Some line) (stops tally) there are run back.no_clock clocks
          (record { phase = in_time_is.phase; plays = in_time_is.plays; soon = omega (arith, soon, grows) }) (omega (arith, quick, grows)) leads),
      record { out = end.out; time = end.time; later = omega (arith, since, grows) },
    )
  where
    times_there : (front middle : List Event) (from to : ℕ) (old new : World) → All IsBeside front → All IsBeside middle → IsTimed old.frames old → CalmRow (front ++ Read WALCLK Four from ∷ (middle ++ Read WALCLK Four to ∷ [])) old new → IsTimed old.frames new
    times_there front middle from to old new first second timed row =
        timed_row (front ++ Read WALCLK Four from ∷ (middle ++ Read WALCLK Four to ∷ [])) old new old.frames
        (All-append IsBeside front (Read WALCLK Four from ∷ (middle ++ Read WALCLK Four to ∷ [])) first
        (All-cons IsBeside (Read WALCLK Four from) (middle ++ Read WALCLK Four to ∷ []) (tt, tt)
        (All-append IsBeside middle (Read WALCLK Four to ∷ []) second (All-cons IsBeside (Read WALCLK Four to) [] (tt, tt) (All-nil IsBeside))))) row timed

-- the last call, in which no link frame passes
pub last_run : (task : Task) (least : ℕ) (trail trail' : Trail) (accesses : List Event) (world : World) → IsInTime task world.frames trail → IsTimed least world → world.frames ≤ 8000000 → AreAccesses accesses → AreHonest accesses world
    → IsNoted task world trail accesses trail' → slice_get trail.left 0 ≡ None → HasPlayedOn task None (Puts CONTROL One 0 ∷ shuts) trail trail' accesses world
last_run task least trail trail' accesses world in_time_is timed few are honest noted turn =
    let seen = seen_in (trail_made world trail accesses) in
    let state = trail.state in
    let tally = tally_next task state None seen in
    let later = Puts CONTROL One 0 ∷ shuts in
    let asks : requests_of accesses ≡ plays_on task state 0 seen later =
    fits_so task world trail trail' accesses None are noted turn ∙ ap (closes task state seen) in_time_is.phase in
    let run = later_as task state 0 seen later accesses are asks in
    let front = up_to_clock run.front run.from run.lpib run.middle run.to in
    let is = run.is ∙ in_front run.front run.middle run.back run.from run.lpib run.to in
    let parts = made_both front run.back (subst AreAccesses is are) in
    let alone = alone_is front in
    let honest' : AreHonest (within_call [] front) world = subst (λ (events : List Event). AreHonest events world) (sym alone) (AreHonest-front front run.back world (subst (λ (events : List Event). AreHonest events world) is honest)) in
    let there = after (within_call [] front) world in
    let row : CalmRow front world there =
    subst (λ (accesses : List Event). CalmRow accesses world there) (accesses_are [] front parts) (row_of (within_call [] front) world (calm_call [] front (All-nil HasStreamsAlone) parts) honest') in
    let stays : there.frames ≤ world.frames + 0 = call_counts [] front world parts in
    let here : IsTimed world.frames world = record { out = timed.out; time = timed.time; later = omega arith } in
    let clocks = clocked run.front (Read POSITION Four run.lpib ∷ run.middle) run.from run.to world there run.front_aside.beside (lpib_beside run.lpib run.middle run.middle_aside.beside) here row (omega (arith, stays, few)) in
    let soon = in_time_is.soon in
    ran_so task trail trail' accesses world None later there are run (asks_none WALCLK run.back (ap (list_any (gets WALCLK)) run.back_asks)) clocks
    (record { phase = in_time_is.phase; plays = in_time_is.plays; soon = omega (arith, soon, stays) }) (omega (arith, stays))
    (leads_so task world trail trail' accesses None are noted turn ∙ ap (λ (phase : Phase). record (closed task state seen tally phase) { tally = tally }) in_time_is.phase)
  where
    made_both : (front back : List Event) → AreAccesses (front ++ back) → AreAccesses front
    made_both [] back are = All-nil IsAccess
    made_both (event ∷ front) back are = All-cons IsAccess event front (All-head IsAccess event (front ++ back) are) (made_both front back (All-tail IsAccess event (front ++ back) are))
