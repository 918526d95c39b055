-- A journal that follows a schedule, round by round.
use Rattle.std.proofs.Common.{◌≡◌, ◌≤◌, ◌+◌, List, [], ◌∷◌, ◌++◌, length, map, drop, refl, sym, ap, subst, ◌∙◌, append_assoc}
use Rattle.std.specs.Prelude.{All, sum_by}
use Rattle.std.specs.List.{flat_map}
use Rattle.std.proofs.lemmas.List.Elements.{All-nil, All-cons, All-head, All-tail}
use Rattle.world_steps.specs.declared.Step.{Step}
use Rattle.schedule_reader.specs.declared.schedule.Group.{Group}
use Rattle.schedule_reader.specs.declared.schedule.Item.{Item}
use Rattle.schedule_reader.specs.declared.schedule.Item.TheVariants.{Device, Drive}
use Rattle.schedule_reader.specs.Counts.{group_frames}
use Rattle.hda_world.specs.Worlds.{World}
use Rattle.hda_world.specs.Steps.{after_steps}
use Rattle.hda_world.specs.Events.{Event, Stepped, Begin, End, happens, after, AreHonest}
use Rattle.hda_world.proofs.Callers.{after-append, steps_after, AreHonest-back, AreHonest-front}
use Rattle.driver_progress.specs.Tasks.{Task}
use Rattle.driver_progress.specs.Progress.{Trail, trail_after, noted, Conforms}
use Rattle.driver_progress.proofs.Callers.{steps_leave_trail, conforms_back, conforms_front}
use Rattle.laws_bring_up.specs.Stretches.{FindsAll}
use Rattle.rig.specs.Stretches.{all_steps_in, woven, stretch}
use Rattle.rig.specs.Follows.{Piece, AreAccesses, laid_out}
use Rattle.laws_serving.specs.Rounds.{Round, Rounds, rounds_with, rounds_of}
use Rattle.laws_serving.specs.ServingSchedules.{HasStreamsAlone}
use Rattle.laws_serving.proofs.Rows.{CalmRow, row_of, within_call, within_alone, calm_call, accesses_are}
use Rattle.laws_serving.proofs.Notes.{IsNoted, call_noted, finds_back}
use Rattle.laws_serving.proofs.Counting.{call_counts}

-- ---- the rounds of a journal

-- a round as it was run, with the accesses of its call
pub record RanRound : Type 0 where
  pub round : Round
  pub accesses : List Event

abbrev pub round_in : RanRound → Round
round_in ran = ran.round

abbrev pub HasAccesses : RanRound → Type 0
HasAccesses ran = AreAccesses ran.accesses

abbrev pub round_events : RanRound → List Event
round_events ran = stretch ran.round.line.groups ran.accesses ++ map Stepped ran.round.steps

pub record IsLaid (all : Rounds) (events : List Event) : Type 0 where
  pub ran : List RanRound
  pub are : map round_in ran ≡ all.rounds
  pub accesses : All HasAccesses ran
  pub laid : events ≡ map Stepped all.before ++ flat_map round_events ran

abbrev item_in : Piece → Item
item_in piece = piece.item

abbrev events_in : Piece → List Event
events_in piece = laid_out piece.item piece.accesses

abbrev Accesses : Piece → Type 0
Accesses piece = AreAccesses piece.accesses

pub lay : (pieces : List Piece) → All Accesses pieces → IsLaid (rounds_of (map item_in pieces)) (flat_map events_in pieces)
lay [] are = record { ran = []; are = refl; accesses = All-nil HasAccesses; laid = refl }
lay (piece ∷ pieces) are = by piece.item (lay pieces (All-tail Accesses piece pieces are))
  where
    by : (item : Item) → IsLaid (rounds_of (map item_in pieces)) (flat_map events_in pieces)
        → IsLaid (rounds_with item (rounds_of (map item_in pieces))) (laid_out item piece.accesses ++ flat_map events_in pieces)
    by (Device step) rest = record { ran = rest.ran; are = rest.are; accesses = rest.accesses; laid = ap (λ (events : List Event). Stepped step ∷ events) rest.laid }
    by (Drive line) rest =
        let one : RanRound = record { round = record { line = line; steps = (rounds_of (map item_in pieces)).before }; accesses = piece.accesses } in record {
          ran = one ∷ rest.ran;
          are = ap (λ (rounds : List Round). one.round ∷ rounds) rest.are;
          accesses = All-cons HasAccesses one rest.ran (All-head Accesses piece pieces are) rest.accesses;
          laid = ap (λ (events : List Event). stretch line.groups piece.accesses ++ events) rest.laid
              ∙ sym (append_assoc (stretch line.groups piece.accesses) (map Stepped one.round.steps) (flat_map round_events rest.ran));
        }

-- ---- what is left of it

-- the events from the begin of a round on
abbrev pub rest_events : (ran : List RanRound) → (closing : List Event) → List Event
rest_events [] closing = stretch [] closing
rest_events (one ∷ ran) closing = stretch one.round.line.groups one.accesses ++ (map Stepped one.round.steps ++ rest_events ran closing)

pub rest_is : (ran : List RanRound) (closing : List Event) → flat_map round_events ran ++ stretch [] closing ≡ rest_events ran closing
rest_is [] closing = refl
rest_is (one ∷ ran) closing =
    append_assoc (round_events one) (flat_map round_events ran) (stretch [] closing)
    ∙ ap (λ (events : List Event). round_events one ++ events) (rest_is ran closing)
    ∙ append_assoc (stretch one.round.line.groups one.accesses) (map Stepped one.round.steps) (rest_events ran closing)

-- some events of a journal that is progress
pub record IsRest (task : Task) (events : List Event) (world : World) (trail : Trail) : Type 0 where
  pub honest : AreHonest events world
  pub conforms : Conforms task events world trail
  pub finds : FindsAll task events world trail

finds_front : (task : Task) (front back : List Event) (world : World) (trail : Trail) → FindsAll task (front ++ back) world trail → FindsAll task front world trail
finds_front task [] back world trail all = tt
finds_front task (event ∷ front) back world trail all = (all.0, finds_front task front back (happens world event) (noted task trail world event) all.1)

pub rest_front : (task : Task) (front back : List Event) (world : World) (trail : Trail) → IsRest task (front ++ back) world trail → IsRest task front world trail
rest_front task front back world trail rest = record {
  honest = AreHonest-front front back world rest.honest;
  conforms = conforms_front task front back world trail rest.conforms;
  finds = finds_front task front back world trail rest.finds;
}

pub rest_back : (task : Task) (front back : List Event) (world : World) (trail : Trail) → IsRest task (front ++ back) world trail → IsRest task back (after front world) (trail_after task front world trail)
rest_back task front back world trail rest = record {
  honest = AreHonest-back front back world rest.honest;
  conforms = conforms_back task front back world trail rest.conforms;
  finds = finds_back task front back world trail rest.finds;
}

-- over steps of the device
pub rest_steps : (task : Task) (steps : List Step) (events : List Event) (world : World) (trail : Trail) → IsRest task (map Stepped steps ++ events) world trail → IsRest task events (after_steps steps world) trail
rest_steps task steps events world trail rest =
    subst (λ (now : World). IsRest task events now trail) (steps_after steps world)
    (subst (IsRest task events (after (map Stepped steps) world)) (steps_leave_trail task steps world trail) (rest_back task (map Stepped steps) events world trail rest))

-- ---- a call

-- the events of a call, with its body in one
pub stretch_is : (groups : List Group) (accesses : List Event) → stretch groups accesses ≡ Begin ∷ (within_call groups accesses ++ End ∷ [])
stretch_is groups accesses = ap (λ (events : List Event). Begin ∷ events) (sym (append_assoc (woven groups accesses) (all_steps_in (drop (length accesses) groups)) (End ∷ [])))

pub ends_there : (body : List Event) (world : World) → after (body ++ End ∷ []) world ≡ after body world
ends_there body world = after-append body (End ∷ []) world

-- a call was made: its accesses one after another, it leads where progress says, and so many link frames passed at most
pub record IsCalled (task : Task) (groups : List Group) (accesses : List Event) (world : World) (trail : Trail) (new : World) (trail' : Trail) : Type 0 where
  pub row : CalmRow accesses world new
  pub noted : IsNoted task world trail accesses trail'
  pub frames : new.frames ≤ world.frames + sum_by group_frames groups

-- where a call leads
abbrev pub world_called : List Group → List Event → World → World
world_called groups accesses world = after (within_call groups accesses) world

abbrev pub trail_called : Task → List Group → List Event → World → Trail → Trail
trail_called task groups accesses world trail = trail_after task (Begin ∷ (within_call groups accesses ++ End ∷ [])) world trail

pub called : (task : Task) (groups : List Group) (accesses : List Event) (world : World) (trail : Trail) → All HasStreamsAlone groups → AreAccesses accesses → IsRest task (stretch groups accesses) world trail
    → IsCalled task groups accesses world trail (world_called groups accesses world) (trail_called task groups accesses world trail)
called task groups accesses world trail calm are rest =
    let body = within_call groups accesses in
    let same = stretch_is groups accesses in
    let rest' = subst (λ (events : List Event). IsRest task events world trail) same rest in
    let still = calm_call groups accesses calm are in
    let made = accesses_are groups accesses are in record {
      row = subst (λ (accesses : List Event). CalmRow accesses world (after body world)) made (row_of body world still (AreHonest-front body (End ∷ []) world rest'.honest.1));
      noted = call_noted task body accesses world trail still made rest'.conforms rest'.finds;
      frames = call_counts groups accesses world are;
    }

-- what comes after it
pub after_call : (task : Task) (groups : List Group) (accesses later : List Event) (world : World) (trail : Trail) → IsRest task (stretch groups accesses ++ later) world trail
    → IsRest task later (world_called groups accesses world) (trail_called task groups accesses world trail)
after_call task groups accesses later world trail rest =
    let body = within_call groups accesses in
    let same = stretch_is groups accesses in
    let rest' = rest_back task (Begin ∷ (body ++ End ∷ [])) later world trail (subst (λ (events : List Event). IsRest task (events ++ later) world trail) same rest) in
    subst (λ (now : World). IsRest task later now (trail_called task groups accesses world trail)) (ends_there body world) rest'

-- ---- the last call, in which the device makes no step

pub alone_is : (accesses : List Event) → within_call [] accesses ≡ accesses
alone_is [] = refl
alone_is (access ∷ accesses) = within_alone access accesses ∙ ap (λ (rest : List Event). access ∷ rest) (alone_is accesses)

pub honest_alone : (accesses : List Event) (world : World) → AreHonest (stretch [] accesses) world → AreHonest accesses world
honest_alone accesses world honest =
    let whole = subst (λ (events : List Event). AreHonest events world) (stretch_is [] accesses) honest in
    subst (λ (events : List Event). AreHonest events world) (alone_is accesses) (AreHonest-front (within_call [] accesses) (End ∷ []) world whole.1)
