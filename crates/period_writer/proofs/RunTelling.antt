-- What a later run tells that may take silence back.
use Rattle.std.proofs.Common.{◌≡◌, ◌≤◌, ◌<◌, ◌+◌, ◌*◌, ◌%◌, ◌^◌, ◌&&◌, ◌||◌, ◌==◌, ℕ, not, Bool, true, false, List, [], ◌∷◌, ◌++◌, length, drop, refl, sym, ap, subst, ◌∙◌, arith, rules, tests, if◌then◌else◌}
use Rattle.std.specs.Prelude.{slice_index, nat_lt, nat_le, min, max}
use Rattle.std.proofs.Math.Nat.{mod-eq_of_lt}
use Rattle.hda_registers.specs.declared.shapes.Width.TheVariants.{One, Four}
use Rattle.hda_registers.specs.Fields.{is_running}
use Rattle.stream_format.specs.Cadence.{block_bytes}
use Rattle.hda_world.specs.Worlds.{World}
use Rattle.hda_world.specs.Events.{Event, Stepped, Read, Write, happens, after}
use Rattle.hda_world.specs.Tellings.{Telling, Makes, world_of}
use Rattle.hda_world.specs.Kept.{Kept}
use Rattle.hda_world.specs.Moments.{AtEach}
use Rattle.hda_world.proofs.Callers.{after-append, kept_both, world_of-went, Weaving, woven, Lead, lead_none, lead_more, AtEach-append}
use Rattle.period_writer.specs.declared.registers.TheConstants.{CONTROL, POSITION}
use Rattle.period_writer.specs.Standing.{Ring, Stands, limit_in, size_of, extent_of}
use Rattle.period_writer.specs.Outcomes.{HasNotWrapped}
use Rattle.period_writer.proofs.RingKept.{stands_kept}
use Rattle.period_writer.proofs.RunTimes.{within_reach, on_time, fifo_below}
use Rattle.period_writer.proofs.RunEnds.{stops, silent_on}
use Rattle.period_writer.specs.declared.course.Ran.TheVariants.{Playing, Drained}
use Rattle.period_writer.specs.Runs.{RunFacts, Tally, Measures, run_at, run_reach, run_turn, run_cut, run_start, run_sure, is_late, is_over, takes_back, has_drained, run_sound, run_sound_end, tally_if, tally_after}
use Rattle.period_writer.specs.Lines.{line_of}
use Rattle.period_writer.specs.Courses.{IsCourse}
use Rattle.period_writer.specs.Owning.{IsWritten}
use Rattle.period_writer.proofs.LineWritten.{written_next}
use Rattle.period_writer.proofs.LineRuns.{sound_enough}
use Rattle.period_writer.specs.Runs.{measures}
use Rattle.period_writer.specs.Standing.{slack_in}
use Rattle.period_writer.specs.Playing.{turn_with}
use Rattle.period_writer.specs.Owning.{IsApart, Agrees, GoesOn, IsPlaying}
use Rattle.period_writer.specs.Outcomes.{HasDrained, WasStopped, TurnTells}
use Rattle.period_writer.proofs.RunMoments as moments
use Rattle.period_writer.proofs.RunParts as parts_of
use Rattle.period_writer.proofs.RunParts.{AtEach-map, frames_up, fetched_up}
use Rattle.period_writer.proofs.RingExtents.{with_extent}

small_clock : (clock frames : ℕ) → clock ≡ (500 * frames) % 2 ^ 32 → 500 * frames < 2 ^ 32 → clock ≡ 500 * frames
small_clock clock frames is small = is ∙ mod-eq_of_lt small

neither : (a b c d : Bool) → a ≡ true → ((a && b) || (c && d)) ≡ false → (b ≡ false) × (c ≡ true → d ≡ false)
neither true true c d e none = cc
neither true false true true e none = cc
neither true false true false e none = (refl, λ is. refl)
neither true false false d e none = (refl, λ is. cc)
neither false b c d e none = cc

-- the stop goes on
stop_goes : (ring : Ring) (line : List ℕ) (from upto sure : ℕ) (world : World) → Stands ring (extent_of line from upto sure) world → GoesOn world (Write CONTROL One 0)
stop_goes ring line from upto sure world stands =
    let stopped = stops world stands.set.out stands.set.runs in
    let frames = stopped.frames in
    let state = ap (λ state. length state.entered) stopped.state in
    record { frames = omega (arith, frames); fetched = omega (arith, state) }

module _ (ring : Ring) (pcm : List ℕ) (runs : ℕ) (tally : Tally) (facts : RunFacts) (some_block : 1 ≤ block_bytes ring.geometry.format) (is : IsCourse (size_of ring) runs tally.course) (started : tally.course.started ≡ true)
    (written : IsWritten pcm tally) (left_is : facts.left ≡ length (drop tally.course.used pcm)) (since : ℕ) (clock_from : tally.course.from ≡ 500 * since) where
  abbrev m : Measures
  m = measures ring.geometry

  pub enough : run_sound m tally.course facts ≤ length (drop tally.course.used pcm)
  enough = sound_enough m tally.course facts (drop tally.course.used pcm) left_is

  abbrev at' : ℕ
  at' = run_at m tally.course facts

  abbrev reach' : ℕ
  reach' = run_reach m tally.course facts

  abbrev sure : ℕ
  sure = run_sure m tally.course facts

  abbrev limit : ℕ
  limit = limit_in ring

  abbrev line : List ℕ
  line = line_of tally pcm

  abbrev tally' : Tally
  tally' = tally_if false m tally facts

  abbrev late_tally : Tally
  late_tally = tally_if true m tally facts

  abbrev line' : List ℕ
  line' = line_of tally' pcm

  abbrev Moment : World → Event → Type 0
  Moment = parts_of.Moment ring pcm runs tally facts some_block is started written enough since clock_from

  abbrev IsAfter : (frames : ℕ) (known : Bool) → World → Event → Type 0
  IsAfter = parts_of.IsAfter ring pcm runs tally facts some_block is started written enough since clock_from

  abbrev Before : World → Type 0
  Before = parts_of.Before ring pcm runs tally facts some_block is started written enough since clock_from

  abbrev Found : (frames : ℕ) (known : Bool) → World → Type 0
  Found frames known = parts_of.Found ring pcm runs tally facts some_block is started written enough since clock_from frames known reach'

  abbrev Closed : (frames : ℕ) (known : Bool) → World → Type 0
  Closed = parts_of.Closed ring pcm runs tally facts some_block is started written enough since clock_from

  abbrev Parts : (stop events : List Event) → World → Type 0
  Parts = parts_of.Parts ring pcm runs tally facts some_block is started written enough since clock_from

  found_kept : (frames : ℕ) (known : Bool) → Kept (Found frames known)
  found_kept frames known = moments.found_kept ring pcm runs tally facts some_block is started written enough since clock_from frames known _

  same_sure : (at : ℕ) → at < sure → slice_index line' at ≡ slice_index line at
  same_sure = moments.same_sure ring pcm runs tally facts some_block is started written enough since clock_from

  next : IsWritten pcm tally'
  next = written_next m runs tally facts pcm is written enough

  moment_of : (frames : ℕ) (known : Bool) (world : World) (event : Event) → IsAfter frames known world event → Moment world event
  moment_of frames known world event one = one.moment

  goes_after : (frames : ℕ) (known : Bool) (world : World) (event : Event) → IsAfter frames known world event → GoesOn world event
  goes_after frames known world event one = one.moment.goes_on

  -- ---- a run that is not late

  record IsOnTime (frames : ℕ) (known : Bool) (world : World) : Type 0 where
    known_is : known ≡ true
    few : length world.output.entered ≤ sure
    from_is : facts.from ≡ 500 * frames

  on_time_by : (frames : ℕ) (known : Bool) (world : World) → facts.from ≡ (500 * frames) % 2 ^ 32 → Closed frames known world → 500 * world.frames < 2 ^ 32 → is_late m tally.course facts ≡ false → IsOnTime frames known world
  on_time_by frames known world from closed small late = record { known_is = is_known; few = few (takes_back m tally.course facts) refl; from_is = from_small } where
    before : frames ≤ world.frames
    before = closed.found.1.0.before

    from_small : facts.from ≡ 500 * frames
    from_small = let before = before in small_clock facts.from frames from (omega (arith, before, small))

    to_small : facts.to ≡ 500 * world.frames
    to_small = small_clock facts.to world.frames closed.to_is small

    both : (is_over m.limit tally.course.from facts.to ≡ false) × (takes_back m tally.course facts ≡ true → is_over m.slack facts.from facts.to ≡ false)
    both = neither tally.course.started (is_over m.limit tally.course.from facts.to) (takes_back m tally.course facts) (is_over m.slack facts.from facts.to) started late

    within : world.frames ≤ since + limit
    within = on_time limit since world.frames tally.course.from facts.to clock_from to_small both.0

    is_known : known ≡ true
    is_known = by known refl where
      by : (k : Bool) → known ≡ k → known ≡ true
      by true e = e
      by false e = let out = closed.found.1.1 e in let within = within in absurd (omega (arith, out, within))

    under : length world.output.entered ≤ tally.course.reach
    under =
        let together = within_reach ring.geometry tally.course.at world.output.left world.frames since closed.found.0.1.before within (closed.found.0.1.soon refl) in
        let ahead = closed.found.0.0.fifo.ahead in
        let reach = moments.reach_is ring pcm runs tally facts some_block is started written enough since clock_from in
        omega (arith, together, ahead, reach)

    few : (back : Bool) → takes_back m tally.course facts ≡ back → length world.output.entered ≤ (if back then min tally.course.reach (run_turn m tally.course facts) else tally.course.reach)
    few true e =
        let in_time = on_time (slack_in ring) frames world.frames facts.from facts.to from_small to_small (both.1 e) in
        let fresh = moments.apart ring pcm runs tally facts some_block is started written enough since clock_from frames known _ world closed.found is_known in_time in
        least (length world.output.entered) tally.course.reach (run_turn m tally.course facts) under fresh where
          least : (x r t : ℕ) → x ≤ r → x ≤ t → x ≤ min r t
          least x r t one other = grind (arith, one, other)
    few false e = under

  -- all that was fetched is the line, now up to the new reach
  sure_all : (world : World) → Stands ring (extent_of line' at' reach' sure) world → length world.output.entered ≤ sure → Stands ring (extent_of line' at' reach' reach') world
  sure_all world stands few =
      with_extent ring (extent_of line' at' reach' sure) (extent_of line' at' reach' reach') world stands.behind (omega arith) stands.standing
      (λ at below under. stands.fetched at below (omega (arith, below, few))) stands

  -- ---- from the parts to the whole

  agree_sure : (events : List Event) (world : World) → AtEach Moment events world → length (after events world).output.entered ≤ sure → AtEach (Agrees line' reach') events world
  agree_sure [] world all few = tt
  agree_sure (event ∷ events) world all few =
      let up = fetched_up Moment (parts_of.goes_moment ring pcm runs tally facts some_block is started written enough since clock_from) events (happens world event) all.1 in
      let here = all.0.goes_on.fetched in (
        (λ at below under. let own : at < sure = omega (arith, below, here, up, few) in all.0.owns.fetched at below own ∙ sym (same_sure at own)),
        agree_sure events (happens world event) all.1 few,
      )

  agree_late : (world : World) (event : Event) → Moment world event → Agrees line sure world event
  agree_late world event moment = moment.owns.fetched

  module _ (old new : Telling) (before : Before (world_of old)) (stop : List Event)
      (made : Makes (turn_with ring.geometry ring.periods tally.course facts (drop tally.course.used pcm) stop) old new) (small : HasNotWrapped (world_of new)) where
    weaving : Weaving (turn_with ring.geometry ring.periods tally.course facts (drop tally.course.used pcm) stop) old new
    weaving = woven made

    p : Parts stop weaving.events (world_of old)
    p = parts_of.parts ring pcm runs tally facts some_block is started written enough since clock_from stop weaving.events (world_of old) weaving.woven weaving.went.honest before

    abbrev front : List Event
    front = p.early ++ Read POSITION Four facts.lpib ∷ []

    abbrev read_world : World
    read_world = after front (world_of old)

    abbrev to_world : World
    to_world = after p.turn read_world

    abbrev end_world : World
    end_world = after p.last to_world

    there : world_of new ≡ end_world
    there =
        world_of-went old new weaving.events weaving.went
        ∙ ap (λ (events : List Event). after events (world_of old)) p.events_are
        ∙ after-append front (p.turn ++ p.last) (world_of old)
        ∙ after-append p.turn p.last read_world

    small_end : HasNotWrapped end_world
    small_end = subst HasNotWrapped there small

    -- what the stop gives
    record Ends (Agree : World → Event → Type 0) (Ended : World → Type 0) : Type 0 where
      last_after : AtEach (IsAfter p.reads.0 p.known) p.last to_world
      agree : AtEach Agree (front ++ (p.turn ++ p.last)) (world_of old)
      ends : Ended end_world

    turn_on : AtEach Moment p.turn read_world
    turn_on = AtEach-map (IsAfter p.reads.0 p.known) Moment (moment_of p.reads.0 p.known) p.turn read_world p.turn_moments

    abbrev LastAfter : Type 0
    LastAfter = AtEach (IsAfter p.reads.0 p.known) p.last to_world

    small_to : LastAfter → HasNotWrapped to_world
    small_to after =
        let up = frames_up (IsAfter p.reads.0 p.known) (goes_after p.reads.0 p.known) p.last to_world after in
        let small = small_end in
        omega (arith, up, small)

    from_is : LastAfter → facts.from ≡ 500 * p.reads.0
    from_is after = let small = small_to after in let first = p.closed.found.1.0.before in small_clock facts.from p.reads.0 p.reads.1 (omega (arith, small, first))

    on_time_here : LastAfter → is_late m tally.course facts ≡ false → IsOnTime p.reads.0 p.known to_world
    on_time_here after late = on_time_by p.reads.0 p.known to_world p.reads.1 p.closed (small_to after) late

    -- in time, all that was fetched by the last clock is the new line
    agree_to : LastAfter → is_late m tally.course facts ≡ false → AtEach (Agrees line' reach') p.last to_world → AtEach (Agrees line' reach') (front ++ (p.turn ++ p.last)) (world_of old)
    agree_to after late last =
        let time = on_time_here after late in
        let few = time.few in
        let up = fetched_up Moment (parts_of.goes_moment ring pcm runs tally facts some_block is started written enough since clock_from) p.turn read_world turn_on in
        AtEach-append (Agrees line' reach') front (p.turn ++ p.last) (world_of old)
        (agree_sure front (world_of old) p.front_moments (omega (arith, up, few)))
        (AtEach-append (Agrees line' reach') p.turn p.last read_world (agree_sure p.turn read_world turn_on time.few) last)

    all_moments : LastAfter → AtEach Moment (front ++ (p.turn ++ p.last)) (world_of old)
    all_moments after =
        AtEach-append Moment front (p.turn ++ p.last) (world_of old) p.front_moments
        (AtEach-append Moment p.turn p.last read_world turn_on (AtEach-map (IsAfter p.reads.0 p.known) Moment (moment_of p.reads.0 p.known) p.last to_world after))

    tells : (recorded_tally : Tally) → recorded_tally ≡ tally_after m tally facts → (Agree : World → Event → Type 0) (Ended : World → Type 0) → Ends Agree Ended
        → TurnTells ring pcm facts.budget tally stop recorded_tally Agree Ended old new
    tells recorded_tally recorded Agree Ended here = record {
      facts = facts;
      budget_is = refl;
      left_is = left_is;
      events = weaving.events;
      made = made;
      recorded = recorded;
      went = weaving.went;
      moments = subst (λ (events : List Event). AtEach Moment events (world_of old)) (sym p.events_are) (all_moments here.last_after);
      agree = subst (λ (events : List Event). AtEach Agree events (world_of old)) (sym p.events_are) here.agree;
      early = p.early;
      rest = p.turn ++ p.last;
      events_are = p.events_are;
      unfetched = λ back few. let under = p.unfetched (few_is few) in let low = turn_low back in omega (arith, under, low);
      apart = λ back few. apart back (few_is few);
      ends = subst Ended (sym there) here.ends;
    } where
      few_is : 500 * read_world.frames ≤ tally.course.from + 500 * limit → read_world.frames ≤ since + limit
      few_is few = let from = clock_from in omega (arith, few, from)

      -- the turn place is not past where the sound begins
      turn_low : takes_back m tally.course facts ≡ true → run_turn m tally.course facts ≤ run_start m tally.course facts
      turn_low back = by (nat_lt (run_cut m tally.course facts) tally.course.reach) (run_sound m tally.course facts == 0) refl back where
        least : (r t e : ℕ) → min r (max t e) < r → t ≤ min r (max t e)
        least r t e less = grind (arith, less)

        by : (below none : Bool) → nat_lt (run_cut m tally.course facts) tally.course.reach ≡ below → (below && not none) ≡ true → run_turn m tally.course facts ≤ run_start m tally.course facts
        by true none less e =
            let below : run_cut m tally.course facts < tally.course.reach = search (rules, less) in
            subst (λ (b : Bool). run_turn m tally.course facts ≤ (if b then run_cut m tally.course facts else tally.course.reach)) (sym back) (least tally.course.reach (run_turn m tally.course facts) tally.course.sound_end below)
        by false none less e = cc

      fresh_at : takes_back m tally.course facts ≡ true → p.known ≡ true → (world : World) (event : Event) → IsAfter p.reads.0 p.known world event → IsApart (run_start m tally.course facts) facts.from (slack_in ring) world event
      fresh_at back known world event one few =
          let from = from_is here.last_after in
          let fresh = one.fresh known (omega (arith, few, from)) in
          let low = turn_low back in
          omega (arith, fresh, low)

      apart : takes_back m tally.course facts ≡ true → read_world.frames ≤ since + limit → AtEach (IsApart (run_start m tally.course facts) facts.from (slack_in ring)) (p.turn ++ p.last) read_world
      apart back within =
          AtEach-map (IsAfter p.reads.0 p.known) (IsApart (run_start m tally.course facts) facts.from (slack_in ring)) (fresh_at back (p.known_is within)) (p.turn ++ p.last) read_world
          (AtEach-append (IsAfter p.reads.0 p.known) p.turn p.last read_world p.turn_moments here.last_after)

    -- ---- the stop of a late run

    stop_led : (frames : ℕ) (known : Bool) (After : World → Type 0) → ((world : World) → Found frames known world → After (happens world (Write CONTROL One 0))) → Lead (IsAfter frames known) (Found frames known) (Write CONTROL One 0 ∷ []) After
    stop_led frames known After leads =
        lead_more (IsAfter frames known) (Found frames known) After After (found_kept frames known) (Write CONTROL One 0) []
        (λ world step found. moments.after_upto ring pcm runs tally facts some_block is started written enough since clock_from frames known reach' world (Stepped step) found tt (moments.goes_step ring world step found.0.1.format_is))
        (λ world found honest. (
          moments.after_upto ring pcm runs tally facts some_block is started written enough since clock_from frames known reach' world (Write CONTROL One 0) found tt (stop_goes ring line' at' reach' sure world found.0.0),
          leads world found,
        ))
        (lead_none (IsAfter frames known) After After (λ world after. after))

  written_late : IsWritten pcm late_tally
  written_late = record {
    line = record { maximal = written.line.maximal; used = written.line.used; ended = written.line.ended; inside = written.line.inside };
    whole = written.whole;
    quiet = written.quiet;
    sure = moments.sure_under ring pcm runs tally facts some_block is started written enough since clock_from;
  }

  late_stop : (frames : ℕ) (known : Bool) (world : World) → Found frames known world → WasStopped ring pcm late_tally (happens world (Write CONTROL One 0))
  late_stop frames known world found =
      let stopped = stops world found.0.0.set.out found.0.0.set.runs in
      record {
        stopped = stopped.stopped;
        no_error = stopped.error ∙ found.0.0.set.no_error;
        written = written_late;
        fetched = λ at below under.
            ap (λ state. slice_index state.entered at) stopped.state
            ∙ found.0.0.fetched at (subst (λ state. at < length state.entered) stopped.state below) under
            ∙ same_sure at under;
      }

  abbrev Stop : List Event
  Stop = Write CONTROL One 0 ∷ []

  -- ---- a late run

  pub tells_late : (old new : Telling) → Before (world_of old) → is_late m tally.course facts ≡ true → Makes (turn_with ring.geometry ring.periods tally.course facts (drop tally.course.used pcm) Stop) old new → HasNotWrapped (world_of new)
      → TurnTells ring pcm facts.budget tally Stop late_tally (Agrees line sure) (WasStopped ring pcm late_tally) old new
  tells_late old new before late made small =
      tells old new before Stop made small late_tally (sym (ap (λ (late : Bool). tally_if late m tally facts) late)) (Agrees line sure) (WasStopped ring pcm late_tally) (record {
        last_after = led.0;
        agree = AtEach-map Moment (Agrees line sure) agree_late _ (world_of old) (all_moments old new before Stop made small led.0);
        ends = led.1;
      }) where
        parts : Parts Stop (weaving old new before Stop made small).events (world_of old)
        parts = p old new before Stop made small

        led : AtEach (IsAfter parts.reads.0 parts.known) parts.last (to_world old new before Stop made small) × WasStopped ring pcm late_tally (end_world old new before Stop made small)
        led =
            stop_led old new before Stop made small parts.reads.0 parts.known (WasStopped ring pcm late_tally) (late_stop parts.reads.0 parts.known)
            parts.last (to_world old new before Stop made small) parts.last_woven parts.last_honest parts.closed.found

  -- ---- the stream plays on

  pub tells_playing : (old new : Telling) → Before (world_of old) → is_late m tally.course facts ≡ false → has_drained m tally.course facts ≡ false
      → Makes (turn_with ring.geometry ring.periods tally.course facts (drop tally.course.used pcm) []) old new → HasNotWrapped (world_of new)
      → TurnTells ring pcm facts.budget tally [] tally' (Agrees line' reach') (IsPlaying ring pcm tally') old new
  tells_playing old new before late more made small =
      tells old new before [] made small tally' (sym (ap (λ (late : Bool). tally_if late m tally facts) late)) (Agrees line' reach') (IsPlaying ring pcm tally') (record {
        last_after = last_on;
        agree = agree_to old new before [] made small last_on late (subst (λ (last : List Event). AtEach (Agrees line' reach') last there) (sym parts.last_woven) tt);
        ends = subst (λ (last : List Event). IsPlaying ring pcm tally' (after last there)) (sym parts.last_woven) plays;
      }) where
        parts : Parts [] (weaving old new before [] made small).events (world_of old)
        parts = p old new before [] made small

        there : World
        there = to_world old new before [] made small

        last_on : AtEach (IsAfter parts.reads.0 parts.known) parts.last there
        last_on = subst (λ (last : List Event). AtEach (IsAfter parts.reads.0 parts.known) last there) (sym parts.last_woven) tt

        plays : IsPlaying ring pcm tally' there
        plays =
            let time = on_time_here old new before [] made small last_on late in
            let found = parts.closed.found in
            record {
              since = parts.reads.0;
              clock_from = time.from_is;
              started = refl;
              plays = ap (λ (drained : Bool). if drained then Drained else Playing) more;
              reach_is = refl;
              written = next;
              stands = sure_all there found.0.0 time.few;
              paced = record { format_is = found.1.0.format_is; before = found.1.0.before; soon = λ e. found.1.0.soon time.known_is };
            }

  -- ---- it is stopped in time

  abbrev Lasting : (frames : ℕ) (known : Bool) (most : ℕ) → World → Type 0
  Lasting frames known most world = Found frames known world × Stands ring (extent_of line' at' most most) world

  record IsSure (most : ℕ) (world : World) : Type 0 where
    stopped : is_running world.registers.output ≡ false
    no_error : world.registers.output.descriptor_error ≡ 0
    sent : at' ≤ world.output.left
    fetched : (at : ℕ) → at < length world.output.entered → at < most → slice_index world.output.entered at ≡ slice_index line' at

  lasting_stop : (frames : ℕ) (known : Bool) (most : ℕ) (world : World) → Lasting frames known most world → IsSure most (happens world (Write CONTROL One 0))
  lasting_stop frames known most world lasting =
      let stopped = stops world lasting.0.0.0.set.out lasting.0.0.0.set.runs in
      record {
        stopped = stopped.stopped;
        no_error = stopped.error ∙ lasting.0.0.0.set.no_error;
        sent = subst (λ state. at' ≤ state.left) (sym stopped.state) lasting.1.behind;
        fetched = λ at below under. ap (λ state. slice_index state.entered at) stopped.state ∙ lasting.1.fetched at (subst (λ state. at < length state.entered) stopped.state below) under;
      }

  record IsLast (frames : ℕ) (known : Bool) (most : ℕ) (world : World) (event : Event) : Type 0 where
    one : IsAfter frames known world event
    agrees : Agrees line' most world event

  lasting_led : (frames : ℕ) (known : Bool) (most : ℕ) → Lead (IsLast frames known most) (Lasting frames known most) Stop (IsSure most)
  lasting_led frames known most =
      lead_more (IsLast frames known most) (Lasting frames known most) (IsSure most) (IsSure most) (kept_both _ _ (found_kept frames known) (stands_kept ring _)) (Write CONTROL One 0) []
      (λ world step lasting. record {
        one = moments.after_upto ring pcm runs tally facts some_block is started written enough since clock_from frames known reach' world (Stepped step) lasting.0 tt (moments.goes_step ring world step lasting.0.0.1.format_is);
        agrees = lasting.1.fetched;
      })
      (λ world lasting honest. (
        record {
          one = moments.after_upto ring pcm runs tally facts some_block is started written enough since clock_from frames known reach' world (Write CONTROL One 0) lasting.0 tt (stop_goes ring line' at' reach' sure world lasting.0.0.0);
          agrees = lasting.1.fetched;
        },
        lasting_stop frames known most world lasting,
      ))
      (lead_none (IsLast frames known most) (IsSure most) (IsSure most) (λ world after. after))

  -- all that stands at the last clock stands up to a position, which may hang on the world at the end
  tells_stopped : (old new : Telling) → Before (world_of old) → is_late m tally.course facts ≡ false → (made : Makes (turn_with ring.geometry ring.periods tally.course facts (drop tally.course.used pcm) Stop) old new) → HasNotWrapped (world_of new)
      → (most : World → ℕ) → ((world : World) → reach' ≤ most world)
      → ((world at_end : World) → length world.output.entered ≤ reach' → Stands ring (extent_of line' at' reach' reach') world → Stands ring (extent_of line' at' (most at_end) (most at_end)) world)
      → (Ended : World → Type 0) → ((world : World) → IsSure (most world) world → Ended world)
      → TurnTells ring pcm facts.budget tally Stop tally' (Agrees line' reach') Ended old new
  tells_stopped old new before late made small most long lasts Ended ended =
      tells old new before Stop made small tally' (sym (ap (λ (late : Bool). tally_if late m tally facts) late)) (Agrees line' reach') Ended (record {
        last_after = last_on;
        agree = agree_to old new before Stop made small last_on late
            (AtEach-map (IsLast parts.reads.0 parts.known (most last_world)) (Agrees line' reach') (λ world event one at below under. let long = long last_world in one.agrees at below (omega (arith, under, long))) parts.last there led.0);
        ends = ended last_world led.1;
      }) where
        parts : Parts Stop (weaving old new before Stop made small).events (world_of old)
        parts = p old new before Stop made small

        there : World
        there = to_world old new before Stop made small

        last_world : World
        last_world = end_world old new before Stop made small

        -- the stop's moments are known before the last clock is known to be in time
        last_on : AtEach (IsAfter parts.reads.0 parts.known) parts.last there
        last_on = (stop_led old new before Stop made small parts.reads.0 parts.known (λ world. Unit {0}) (λ world found. tt) parts.last there parts.last_woven parts.last_honest parts.closed.found).0

        time : IsOnTime parts.reads.0 parts.known there
        time = on_time_here old new before Stop made small last_on late

        few_there : length there.output.entered ≤ reach'
        few_there =
            let few = time.few in
            let under = moments.sure_under ring pcm runs tally facts some_block is started written enough since clock_from in
            let ascends = moments.ascends ring pcm runs tally facts some_block is started written enough since clock_from in
            omega (arith, few, under, ascends)

        led : AtEach (IsLast parts.reads.0 parts.known (most last_world)) parts.last there × IsSure (most last_world) last_world
        led = lasting_led parts.reads.0 parts.known (most last_world) parts.last there parts.last_woven parts.last_honest
            (parts.closed.found, lasts there last_world few_there (sure_all there parts.closed.found.0.0 time.few))

  -- one that had more to play has the line up to its new reach
  pub tells_more : (old new : Telling) → Before (world_of old) → is_late m tally.course facts ≡ false → Makes (turn_with ring.geometry ring.periods tally.course facts (drop tally.course.used pcm) Stop) old new → HasNotWrapped (world_of new)
      → TurnTells ring pcm facts.budget tally Stop tally' (Agrees line' reach') (WasStopped ring pcm tally') old new
  tells_more old new before late made small =
      tells_stopped old new before late made small (λ world. reach') (λ world. omega arith) (λ world at_end few stands. stands) (WasStopped ring pcm tally')
      (λ world sure. record { stopped = sure.stopped; no_error = sure.no_error; written = next; fetched = sure.fetched })

  -- ---- the line has drained

  module _ (done : has_drained m tally.course facts ≡ true) where
    sound_over : run_sound_end m tally.course facts ≤ at'
    sound_over = by tally.course.started (facts.left == run_sound m tally.course facts) (nat_le (run_sound_end m tally.course facts) at') refl done where
      by : (a b c : Bool) → nat_le (run_sound_end m tally.course facts) at' ≡ c → (a && b && c) ≡ true → run_sound_end m tally.course facts ≤ at'
      by true true true e all = search (rules, tests, e)
      by true true false e all = cc
      by true false c e all = cc
      by false b c e all = cc

    quiet : (at : ℕ) → at' ≤ at → slice_index line' at ≡ 0
    quiet at past = let over = sound_over in next.quiet at (omega (arith, over, past))

    abbrev most : World → ℕ
    most world = reach' + length world.output.entered

    silent_lasts : (world at_end : World) → length world.output.entered ≤ reach' → Stands ring (extent_of line' at' reach' reach') world → Stands ring (extent_of line' at' (most at_end) (most at_end)) world
    silent_lasts world at_end few stands =
        let some = fifo_below ring.geometry in
        silent_on ring line' at' (most at_end) world (omega (arith, some)) (omega arith) quiet stands few

    ended : (world : World) → IsSure (most world) world → HasDrained ring pcm tally' world
    ended world sure = record {
      stopped = sure.stopped;
      no_error = sure.no_error;
      written = next;
      sent = sure.sent;
      fetched = λ at below under. sure.fetched at below (omega (arith, under));
      silent = λ at below past. sure.fetched at below (omega (arith, below)) ∙ quiet at (omega (arith, past));
    }

    pub tells_drained : (old new : Telling) → Before (world_of old) → is_late m tally.course facts ≡ false → Makes (turn_with ring.geometry ring.periods tally.course facts (drop tally.course.used pcm) Stop) old new → HasNotWrapped (world_of new)
        → TurnTells ring pcm facts.budget tally Stop tally' (Agrees line' reach') (HasDrained ring pcm tally') old new
    tells_drained old new before late made small = tells_stopped old new before late made small most (λ world. omega arith) silent_lasts (HasDrained ring pcm tally') ended
