-- The parts of a later run: up to the read of LPIB, up to the last clock, and the stop.
use Rattle.std.proofs.Common.{◌≡◌, ◌≤◌, ◌+◌, ◌*◌, ◌%◌, ◌^◌, ℕ, Bool, true, List, [], ◌∷◌, ◌++◌, length, map, drop, refl, sym, ap, subst, ◌∙◌, arith, rules, tests, append_assoc}
use Rattle.std.specs.Prelude.{nat_le}
use Rattle.hda_registers.specs.declared.shapes.Width.TheVariants.{Four}
use Rattle.hda_registers.specs.declared.places.TheConstants.{WALCLK}
use Rattle.hda_registers.specs.Access.{value_at}
use Rattle.hda_registers.proofs.Callers.{read-wall_clock, read-output_position}
use Rattle.stream_format.specs.Cadence.{block_bytes}
use Rattle.hda_world.specs.Worlds.{World}
use Rattle.hda_world.specs.Events.{Event, Stepped, Read, happens, after, AreHonest}
use Rattle.hda_world.specs.Moments.{AreWoven, AtEach}
use Rattle.hda_world.proofs.Callers.{Lead, lead_none, lead_more, lead_both, lead_some, woven_split, AreHonest-back, AreHonest-front}
use Rattle.period_writer.specs.declared.registers.TheConstants.{POSITION}
use Rattle.period_writer.specs.Standing.{Ring, limit_in, bytes_in, size_of}
use Rattle.period_writer.specs.Runs.{RunFacts, Tally, run_sound}
use Rattle.period_writer.specs.Courses.{IsCourse}
use Rattle.period_writer.specs.Owning.{IsWritten}
use Rattle.period_writer.specs.Runs.{measures}
use Rattle.period_writer.specs.Playing.{run_writes, turn_with}
use Rattle.period_writer.specs.Owning.{GoesOn}
use Rattle.period_writer.proofs.RunMoments as moments

-- ---- rows and their events

pub AtEach-map : (Holds Weaker : World → Event → Type 0) → ((world : World) (event : Event) → Holds world event → Weaker world event) → (events : List Event) (world : World) → AtEach Holds events world → AtEach Weaker events world
AtEach-map Holds Weaker weaker [] world all = tt
AtEach-map Holds Weaker weaker (event ∷ events) world all = (weaker world event all.0, AtEach-map Holds Weaker weaker events (happens world event) all.1)

-- the last of two accesses is the last event
last_of_two : (one two : Event) (events : List Event) → AreWoven (one ∷ two ∷ []) events → (early : List Event) × (events ≡ early ++ two ∷ [])
last_of_two one two events (steps, rest, are, (steps', rest', are', none)) = (
  map Stepped steps ++ one ∷ map Stepped steps',
  are ∙ ap (λ (more : List Event). map Stepped steps ++ one ∷ more) (are' ∙ ap (λ (more : List Event). map Stepped steps' ++ two ∷ more) none)
      ∙ sym (append_assoc (map Stepped steps) (one ∷ map Stepped steps') (two ∷ [])),
)

-- ---- what goes on

pub frames_up : (Holds : World → Event → Type 0) → ((world : World) (event : Event) → Holds world event → GoesOn world event) → (events : List Event) (world : World) → AtEach Holds events world → world.frames ≤ (after events world).frames
frames_up Holds goes [] world all = omega arith
frames_up Holds goes (event ∷ events) world all =
    let here = (goes world event all.0).frames in
    let later = frames_up Holds goes events (happens world event) all.1 in
    omega (arith, here, later)

pub fetched_up : (Holds : World → Event → Type 0) → ((world : World) (event : Event) → Holds world event → GoesOn world event) → (events : List Event) (world : World) → AtEach Holds events world
    → length world.output.entered ≤ length (after events world).output.entered
fetched_up Holds goes [] world all = omega arith
fetched_up Holds goes (event ∷ events) world all =
    let here = (goes world event all.0).fetched in
    let later = fetched_up Holds goes events (happens world event) all.1 in
    omega (arith, here, later)

-- ---- a run

module _ (ring : Ring) (pcm : List ℕ) (runs : ℕ) (tally : Tally) (facts : RunFacts) (some_block : 1 ≤ block_bytes ring.geometry.format) (is : IsCourse (size_of ring) runs tally.course) (started : tally.course.started ≡ true)
    (written : IsWritten pcm tally) (enough : run_sound (measures ring.geometry) tally.course facts ≤ length (drop tally.course.used pcm)) (since : ℕ) (clock_from : tally.course.from ≡ 500 * since) where
  open_row : List Event
  open_row = Read WALCLK Four facts.from ∷ Read POSITION Four facts.lpib ∷ []

  abbrev pub Moment : World → Event → Type 0
  Moment = moments.Moment ring pcm runs tally facts some_block is started written enough since clock_from

  abbrev pub IsAfter : (frames : ℕ) (known : Bool) → World → Event → Type 0
  IsAfter = moments.IsAfter ring pcm runs tally facts some_block is started written enough since clock_from

  abbrev pub Before : World → Type 0
  Before = moments.Before ring pcm runs tally facts some_block is started written enough since clock_from

  abbrev pub Reads : Type 0
  Reads = (frames : ℕ) × (facts.from ≡ (500 * frames) % 2 ^ 32)

  abbrev pub Found : (frames : ℕ) (known : Bool) (upto : ℕ) → World → Type 0
  Found frames known upto = moments.Found ring pcm runs tally facts some_block is started written enough since clock_from frames known (moments.upto_at ring pcm runs tally facts some_block is started written enough since clock_from upto)

  abbrev Opened : (frames : ℕ) (known : Bool) → World → Type 0
  Opened frames known = moments.Found ring pcm runs tally facts some_block is started written enough since clock_from frames known
      (moments.over_at ring pcm runs tally facts some_block is started written enough since clock_from (moments.start ring pcm runs tally facts some_block is started written enough since clock_from))

  abbrev pub reach' : ℕ
  reach' = moments.reach' ring pcm runs tally facts some_block is started written enough since clock_from

  abbrev pub limit : ℕ
  limit = limit_in ring

  abbrev pub turn_place : ℕ
  turn_place = moments.turn ring pcm runs tally facts some_block is started written enough since clock_from

  abbrev pub writes : List Event
  writes = run_writes (bytes_in ring) ring.periods (measures ring.geometry) tally.course facts (drop tally.course.used pcm)

  pub goes_moment : (world : World) (event : Event) → Moment world event → GoesOn world event
  goes_moment world event moment = moment.goes_on

  -- up to the read of LPIB
  record Open (world : World) : Type 0 where
    reads : Reads
    known : Bool
    known_is : world.frames ≤ since + limit → known ≡ true
    unfetched : world.frames ≤ since + limit → length world.output.entered ≤ turn_place
    opened : Opened reads.0 known world

  front_led : Lead Moment Before (Read WALCLK Four facts.from ∷ Read POSITION Four facts.lpib ∷ []) Open
  front_led =
      lead_more Moment Before (λ world. (reads : Reads) × moments.Clocked ring pcm runs tally facts some_block is started written enough since clock_from reads.0 world) Open
      (moments.before_kept ring pcm runs tally facts some_block is started written enough since clock_from) (Read WALCLK Four facts.from) (Read POSITION Four facts.lpib ∷ [])
      (λ world step before. moments.moment_before_step ring pcm runs tally facts some_block is started written enough since clock_from world step before)
      (λ world before honest. (moments.moment_before ring pcm runs tally facts some_block is started written enough since clock_from world (Read WALCLK Four facts.from) before tt stays, clock_read world before honest))
      (lead_some Moment (λ (reads : Reads). moments.Clocked ring pcm runs tally facts some_block is started written enough since clock_from reads.0) (Read POSITION Four facts.lpib ∷ []) Open (λ reads. position_led reads.0 reads.1)) where
        stays : {world : World} → GoesOn world (Read WALCLK Four facts.from)
        stays = record { frames = omega arith; fetched = omega arith }

        clock_read : (world : World) → Before world → facts.from ≡ value_at world.registers WALCLK Four → (reads : Reads) × moments.Clocked ring pcm runs tally facts some_block is started written enough since clock_from reads.0 world
        clock_read world before honest = (
          (world.frames, honest ∙ read-wall_clock world.registers ∙ before.0.clock_is),
          (before, record { format_is = before.1.format_is; before = omega arith; soon = λ never. cc }),
        )

        position_led : (frames : ℕ) → facts.from ≡ (500 * frames) % 2 ^ 32 → Lead Moment (moments.Clocked ring pcm runs tally facts some_block is started written enough since clock_from frames) (Read POSITION Four facts.lpib ∷ []) Open
        position_led frames reads =
            lead_more Moment (moments.Clocked ring pcm runs tally facts some_block is started written enough since clock_from frames) Open Open
            (moments.clocked_kept ring pcm runs tally facts some_block is started written enough since clock_from frames) (Read POSITION Four facts.lpib) []
            (λ world step clocked. moments.moment_before_step ring pcm runs tally facts some_block is started written enough since clock_from world step clocked.0)
            (λ world clocked honest. (
              moments.moment_before ring pcm runs tally facts some_block is started written enough since clock_from world (Read POSITION Four facts.lpib) clocked.0 tt (record { frames = omega arith; fetched = omega arith }),
              record {
                reads = (frames, reads);
                known = nat_le world.frames (since + limit);
                known_is = λ within. search (rules, tests, within);
                unfetched = moments.unfetched ring pcm runs tally facts some_block is started written enough since clock_from frames world clocked (honest ∙ read-output_position world.registers ∙ clocked.0.0.position);
                opened = moments.finds ring pcm runs tally facts some_block is started written enough since clock_from frames world clocked (honest ∙ read-output_position world.registers ∙ clocked.0.0.position);
              },
            ))
            (lead_none Moment Open Open (λ world opened. opened))

  -- up to the last clock
  pub record Closed (frames : ℕ) (known : Bool) (world : World) : Type 0 where
    pub found : Found frames known reach' world
    pub to_is : facts.to ≡ (500 * world.frames) % 2 ^ 32

  turn_led : (frames : ℕ) (known : Bool) → Lead (IsAfter frames known) (Opened frames known) (writes ++ Read WALCLK Four facts.to ∷ []) (Closed frames known)
  turn_led frames known =
      lead_both (IsAfter frames known) (Opened frames known) (Found frames known reach') (Closed frames known) writes (Read WALCLK Four facts.to ∷ [])
      (moments.writes_led ring pcm runs tally facts some_block is started written enough since clock_from frames known)
      (lead_more (IsAfter frames known) (Found frames known reach') (Closed frames known) (Closed frames known)
      (moments.found_kept ring pcm runs tally facts some_block is started written enough since clock_from frames known _) (Read WALCLK Four facts.to) []
      (λ world step found. moments.after_upto ring pcm runs tally facts some_block is started written enough since clock_from frames known reach' world (Stepped step) found tt (moments.goes_step ring world step found.0.1.format_is))
      (λ world found honest. (
        moments.after_upto ring pcm runs tally facts some_block is started written enough since clock_from frames known reach' world (Read WALCLK Four facts.to) found tt (record { frames = omega arith; fetched = omega arith }),
        record { found = found; to_is = honest ∙ read-wall_clock world.registers ∙ found.0.0.clock_is },
      ))
      (lead_none (IsAfter frames known) (Closed frames known) (Closed frames known) (λ world closed. closed)))

  pub record Parts (stop events : List Event) (world : World) : Type 0 where
    pub early : List Event
    pub turn : List Event
    pub last : List Event
    pub events_are : events ≡ (early ++ Read POSITION Four facts.lpib ∷ []) ++ (turn ++ last)
    pub last_woven : AreWoven stop last
    pub last_honest : AreHonest last (after turn (after (early ++ Read POSITION Four facts.lpib ∷ []) world))
    pub front_moments : AtEach Moment (early ++ Read POSITION Four facts.lpib ∷ []) world
    pub reads : Reads
    pub known : Bool
    pub known_is : (after (early ++ Read POSITION Four facts.lpib ∷ []) world).frames ≤ since + limit → known ≡ true
    pub unfetched : (after (early ++ Read POSITION Four facts.lpib ∷ []) world).frames ≤ since + limit
        → length (after (early ++ Read POSITION Four facts.lpib ∷ []) world).output.entered ≤ turn_place
    pub turn_moments : AtEach (IsAfter reads.0 known) turn (after (early ++ Read POSITION Four facts.lpib ∷ []) world)
    pub closed : Closed reads.0 known (after turn (after (early ++ Read POSITION Four facts.lpib ∷ []) world))

  record PartsAt (stop events : List Event) (world : World) (turn last before : List Event) (reads : Reads) (known : Bool) : Type 0 where
    events_are : events ≡ before ++ (turn ++ last)
    last_woven : AreWoven stop last
    last_honest : AreHonest last (after turn (after before world))
    front_moments : AtEach Moment before world
    known_is : (after before world).frames ≤ since + limit → known ≡ true
    unfetched : (after before world).frames ≤ since + limit → length (after before world).output.entered ≤ turn_place
    turn_moments : AtEach (IsAfter reads.0 known) turn (after before world)
    closed : Closed reads.0 known (after turn (after before world))

  parts_of : (stop events : List Event) (world : World) (early turn last : List Event) (reads : Reads) (known : Bool) → PartsAt stop events world turn last (early ++ Read POSITION Four facts.lpib ∷ []) reads known → Parts stop events world
  parts_of stop events world early turn last reads known is = record {
    early = early;
    turn = turn;
    last = last;
    events_are = is.events_are;
    last_woven = is.last_woven;
    last_honest = is.last_honest;
    front_moments = is.front_moments;
    reads = reads;
    known = known;
    known_is = is.known_is;
    unfetched = is.unfetched;
    turn_moments = is.turn_moments;
    closed = is.closed;
  }

  pub parts : (stop events : List Event) (world : World) → AreWoven (turn_with ring.geometry ring.periods tally.course facts (drop tally.course.used pcm) stop) events → AreHonest events world → Before world → Parts stop events world
  parts stop events world woven honest before =
      let (front, back, are, in_front, in_back) = woven_split (Read WALCLK Four facts.from ∷ Read POSITION Four facts.lpib ∷ []) (writes ++ (Read WALCLK Four facts.to ∷ stop)) events woven in
      let (early, last_is) = last_of_two (Read WALCLK Four facts.from) (Read POSITION Four facts.lpib) front in_front in
      let one : Read WALCLK Four facts.to ∷ stop ≡ (Read WALCLK Four facts.to ∷ []) ++ stop = refl in
      let (turn, last, are', in_turn, in_last) = woven_split (writes ++ Read WALCLK Four facts.to ∷ []) stop back (subst (λ (row : List Event). AreWoven row back) (sym (append_assoc writes (Read WALCLK Four facts.to ∷ []) stop)) in_back) in
      let whole : AreHonest (front ++ back) world = subst (λ (events : List Event). AreHonest events world) are honest in
      let opens = front_led front world in_front (AreHonest-front front back world whole) before in
      let honest_back : AreHonest (turn ++ last) (after front world) = subst (λ (events : List Event). AreHonest events (after front world)) are' (AreHonest-back front back world whole) in
      let closes = turn_led opens.1.reads.0 opens.1.known turn (after front world) in_turn (AreHonest-front turn last (after front world) honest_back) opens.1.opened in
      parts_of stop events world early turn last opens.1.reads opens.1.known (subst (λ (before : List Event). PartsAt stop events world turn last before opens.1.reads opens.1.known) last_is (record {
        events_are = are ∙ ap (λ (more : List Event). front ++ more) are';
        last_woven = in_last;
        last_honest = AreHonest-back turn last (after front world) honest_back;
        front_moments = opens.0;
        known_is = opens.1.known_is;
        unfetched = opens.1.unfetched;
        turn_moments = closes.0;
        closed = closes.1;
      }))
