-- Which commands codecs take while a driver switches: words that switch speakers, each while the stream ran or after it.
use Rattle.std.proofs.Common.{◌≡◌, ◌≤◌, ◌+◌, ◌⊎◌, inl, inr, ℕ, Bool, true, false, List, [], ◌∷◌, ◌++◌, length, drop, Option, None, Some, refl, sym, ap, subst, ◌∙◌, arith, append_assoc, append-nil}
use Rattle.std.specs.Prelude.{All}
use Rattle.std.proofs.lemmas.List.{drop-append-le, length-append, length-drop}
use Rattle.std.proofs.lemmas.List.Elements.{All-append, All-cons, All-head, All-nil, All-tail, All-weaker}
use Rattle.codec_graph.specs.CodecStates.{CodecState}
use Rattle.hda_world.specs.Leaving.{StepsLeave}
use Rattle.hda_world.specs.Worlds.{World, TakenCommand, CarriedFrame}
use Rattle.hda_world.specs.Events.{Event, Stepped, Begin, End, Read, Write, DmaRead, DmaWrite, happens, after}
use Rattle.hda_world.specs.Tellings.{Telling, world_of, Went}
use Rattle.hda_world.proofs.Callers.{after-append, steps_leave, access_leaves, world_of-went}
use Rattle.command_engine.specs.declared.ring_places.RingPlaces.{RingPlaces}
use Rattle.command_engine.specs.declared.answers.Outstanding.{Outstanding}
use Rattle.command_engine.specs.Fetchings.{RingPart, Stands, AreOf, IsFetching}
use Rattle.command_engine.specs.Belonging.{Belongs}
use Rattle.laws_settings.specs.Histories.{words_of}
use Rattle.laws_stream.specs.Lives.{Along, Runs, IsStopped, stops}
use Rattle.laws_stream.specs.Going.{TookWhile, TookLast}
use Rattle.laws_speakers.specs.SwitchWords.{IsSwitchWord}

-- ---- lists

module _ {X : Type 0} (P : X → Type 0) where
  pub all_front : (xs ys : List X) → All P (xs ++ ys) → All P xs
  all_front [] ys all = All-nil P
  all_front (x ∷ xs) ys all = All-cons P x xs (All-head P x (xs ++ ys) all) (all_front xs ys (All-tail P x (xs ++ ys) all))

  pub all_back : (xs ys : List X) → All P (xs ++ ys) → All P ys
  all_back [] ys all = all
  all_back (x ∷ xs) ys all = all_back xs ys (All-tail P x (xs ++ ys) all)

pub words_both : (front back : List TakenCommand) → words_of (front ++ back) ≡ words_of front ++ words_of back
words_both [] back = refl
words_both (one ∷ front) back = ap (λ (rest : List ℕ). one.word ∷ rest) (words_both front back)

-- ---- what only grows

pub record Grown (old new : World) : Type 0 where
  pub more : List TakenCommand
  pub commands : new.commands ≡ old.commands ++ more
  pub frames : List CarriedFrame
  pub carried : new.carried ≡ old.carried ++ frames

same_grown : (old new : World) → new.commands ≡ old.commands → new.carried ≡ old.carried → Grown old new
same_grown old new commands carried = record { more = []; commands = commands ∙ sym (append-nil old.commands); frames = []; carried = carried ∙ sym (append-nil old.carried) }

event_grown : (event : Event) (world : World) → Grown world (happens world event)
event_grown (Stepped step) world =
    let leaves : StepsLeave world (happens world (Stepped step)) = steps_leave (step ∷ []) world in
    record { more = leaves.commands.0; commands = leaves.commands.1; frames = leaves.carried.0; carried = leaves.carried.1 }
event_grown Begin world = same_grown world world refl refl
event_grown End world = same_grown world world refl refl
event_grown (Read at width value) world = same_grown world world refl refl
event_grown (Write at width value) world = let leaves = access_leaves world at value width in same_grown world (happens world (Write at width value)) leaves.commands leaves.carried
event_grown (DmaRead at bytes) world = same_grown world world refl refl
event_grown (DmaWrite at bytes) world = same_grown world (happens world (DmaWrite at bytes)) refl refl

both_grown : (old middle new : World) → Grown old middle → Grown middle new → Grown old new
both_grown old middle new first second = record {
  more = first.more ++ second.more;
  commands = second.commands ∙ ap (λ (front : List TakenCommand). front ++ second.more) first.commands ∙ append_assoc old.commands first.more second.more;
  frames = first.frames ++ second.frames;
  carried = second.carried ∙ ap (λ (front : List CarriedFrame). front ++ second.frames) first.carried ∙ append_assoc old.carried first.frames second.frames;
}

pub events_grown : (events : List Event) (world : World) → Grown world (after events world)
events_grown [] world = same_grown world world refl refl
events_grown (event ∷ events) world =
    both_grown world (happens world event) (after events (happens world event)) (event_grown event world) (events_grown events (happens world event))

pub went_grown : (old new : Telling) (events : List Event) → Went old new events → Grown (world_of old) (world_of new)
went_grown old new events went = subst (Grown (world_of old)) (sym (world_of-went old new events went)) (events_grown events (world_of old))

pub longer : (tf : ℕ) (old new : World) → Grown old new → tf ≤ length old.commands → tf ≤ length new.commands
longer tf old new grown within =
    let long : length new.commands ≡ length old.commands + length grown.more = ap length grown.commands ∙ length-append old.commands grown.more in
    omega (arith, long, within)

-- ---- words

module _ (is_speaker : ℕ → ℕ → Bool) where
  abbrev pub Sends : Option Outstanding → Type 0
  Sends outstanding = (command : Outstanding) → outstanding ≡ Some command → IsSwitchWord is_speaker command.word

  abbrev pub AreWords : List TakenCommand → Type 0
  AreWords commands = All (IsSwitchWord is_speaker) (words_of commands)

  of_words : (outstanding : Option Outstanding) (gained : List TakenCommand) → Sends outstanding → AreOf outstanding gained → AreWords gained
  of_words outstanding [] sends of = All-nil (IsSwitchWord is_speaker)
  of_words None (taken ∷ more) sends of = absurd of
  of_words (Some command) (taken ∷ more) sends of =
      subst (λ (more : List TakenCommand). AreWords (taken ∷ more)) (sym of.1)
      (All-cons (IsSwitchWord is_speaker) taken.word [] (subst (IsSwitchWord is_speaker) (sym of.0) (sends command refl)) (All-nil (IsSwitchWord is_speaker)))

  fetched_words : (outstanding : Option Outstanding) (part : RingPart) (word : ℕ) (gained : List TakenCommand) → Sends outstanding → IsFetching outstanding part word gained → AreWords gained
  fetched_words outstanding part word gained sends (inl all) = of_words outstanding gained sends all.taken
  fetched_words outstanding part word gained sends (inr next) = subst AreWords (sym next.none) (All-nil (IsSwitchWord is_speaker))

  pub standing_words : (from read corb rirb : ℕ) (rings : RingPlaces) (world : World) → Stands from read corb rirb rings world → Sends rings.outstanding → AreWords (drop from world.commands)
  standing_words from read corb rirb rings world stands sends = fetched_words rings.outstanding _ _ (drop from world.commands) sends stands.fetching

  -- of a command that was answered
  pub answered_words : (from value : ℕ) (outstanding : Option Outstanding) (codecs : List CodecState) (commands : List TakenCommand) → Belongs from outstanding codecs commands (Some value) → Sends outstanding → AreWords (drop from commands)
  answered_words from value None codecs commands belongs sends = absurd belongs
  answered_words from value (Some command) codecs commands belongs sends =
      subst AreWords (sym belongs.only)
      (All-cons (IsSwitchWord is_speaker) belongs.taken.word [] (subst (IsSwitchWord is_speaker) (sym belongs.word) (sends command refl)) (All-nil (IsSwitchWord is_speaker)))

  pub words_more : (tf from : ℕ) (old new : World) → Grown old new → tf ≤ length old.commands → from ≤ length old.commands → AreWords (drop from new.commands) → AreWords (drop tf old.commands) → AreWords (drop tf new.commands)
  words_more tf from old new grown within from_within later earlier =
      let more : AreWords grown.more =
      all_back (IsSwitchWord is_speaker) (words_of (drop from old.commands)) (words_of grown.more)
      (subst (All (IsSwitchWord is_speaker))
      (ap words_of (ap (λ (commands : List TakenCommand). drop from commands) grown.commands ∙ drop-append-le from old.commands grown.more from_within) ∙ words_both (drop from old.commands) grown.more) later) in
      subst (All (IsSwitchWord is_speaker))
      (sym (ap words_of (ap (λ (commands : List TakenCommand). drop tf commands) grown.commands ∙ drop-append-le tf old.commands grown.more within) ∙ words_both (drop tf old.commands) grown.more))
      (All-append (IsSwitchWord is_speaker) (words_of (drop tf old.commands)) (words_of grown.more) earlier more)

-- ---- none is taken where none is outstanding

nothing_of : (outstanding : Option Outstanding) (gained : List TakenCommand) → outstanding ≡ None → AreOf outstanding gained → gained ≡ []
nothing_of outstanding [] none of = refl
nothing_of None (taken ∷ more) none of = absurd of
nothing_of (Some command) (taken ∷ more) none of = cc

nothing_fetched : (outstanding : Option Outstanding) (part : RingPart) (word : ℕ) (gained : List TakenCommand) → outstanding ≡ None → IsFetching outstanding part word gained → gained ≡ []
nothing_fetched outstanding part word gained none (inl all) = nothing_of outstanding gained none all.taken
nothing_fetched outstanding part word gained none (inr next) = next.none

empty_drop : (from : ℕ) (commands : List TakenCommand) → drop from commands ≡ [] → length commands ≤ from
empty_drop from commands none = let long = length-drop from commands in let zero = ap length none in omega (arith, long, zero)

pub none_more : (from read corb rirb : ℕ) (rings : RingPlaces) (old new : World) → Stands from read corb rirb rings old → Stands from read corb rirb rings new → rings.outstanding ≡ None → Grown old new → new.commands ≡ old.commands
none_more from read corb rirb rings old new before later none grown = by grown.more grown.commands
  where
    all_taken : length new.commands ≤ from
    all_taken = empty_drop from new.commands (nothing_fetched rings.outstanding _ _ (drop from new.commands) none later.fetching)

    by : (more : List TakenCommand) → new.commands ≡ old.commands ++ more → new.commands ≡ old.commands
    by [] is = is ∙ append-nil old.commands
    by (one ∷ more) is =
        let long : length new.commands ≡ length old.commands + length (one ∷ more) = ap length is ∙ length-append old.commands (one ∷ more) in
        let within = before.from_within in
        let all = all_taken in
        absurd (omega (arith, long, within, all))

-- ---- whether the stream ran

abbrev pub IsRunning : TakenCommand → Type 0
IsRunning one = one.running ≡ true

abbrev pub IsRunningOrLate : World → TakenCommand → Type 0
IsRunningOrLate world one = (one.running ≡ true) ⊎ (length world.carried ≤ one.carried)

-- until the stream is over, and then
abbrev pub Takes : (going : Bool) → (tf : ℕ) → World → Type 0
Takes true tf world = All IsRunning (drop tf world.commands)
Takes false tf world = All (IsRunningOrLate world) (drop tf world.commands)

dropped : (tf : ℕ) (old more new : List TakenCommand) → new ≡ old ++ more → tf ≤ length old → drop tf new ≡ drop tf old ++ more
dropped tf old more new is within = ap (λ (commands : List TakenCommand). drop tf commands) is ∙ drop-append-le tf old more within

pub takes_weak : (going : Bool) (tf : ℕ) (world : World) → Takes going tf world → Takes false tf world
takes_weak true tf world all = All-weaker IsRunning (IsRunningOrLate world) (λ one is. inl is) (drop tf world.commands) all
takes_weak false tf world all = all

takes_while : (tf : ℕ) (old new : World) → TookWhile true old new → tf ≤ length old.commands → Takes true tf old → Takes true tf new
takes_while tf old new took within all =
    subst (All IsRunning) (sym (dropped tf old.commands took.more new.commands took.commands within)) (All-append IsRunning (drop tf old.commands) took.more all took.each)

takes_last : (tf : ℕ) (old new : World) → TookLast old new → tf ≤ length old.commands → Takes false tf old → Takes false tf new
takes_last tf old new took within all =
    let same : (one : TakenCommand) → IsRunningOrLate old one → IsRunningOrLate new one =
    λ one is. subst (λ (carried : List CarriedFrame). (one.running ≡ true) ⊎ (length carried ≤ one.carried)) (sym took.carried) is in
    let late : (one : TakenCommand) → one.carried ≡ length old.carried → IsRunningOrLate new one =
    λ one is. same one (inr (let is : one.carried ≡ length old.carried = is in omega (arith, is))) in
    subst (All (IsRunningOrLate new)) (sym (dropped tf old.commands took.more new.commands took.commands within))
    (All-append (IsRunningOrLate new) (drop tf old.commands) took.more (All-weaker (IsRunningOrLate old) (IsRunningOrLate new) same (drop tf old.commands) all)
    (All-weaker (λ (one : TakenCommand). one.carried ≡ length old.carried) (IsRunningOrLate new) late took.more took.each))

-- the laws of what is taken meanwhile
pub record TookLaws : Type 0 where
  pub playing : (events : List Event) (world : World) → Along Runs events world → TookWhile true world (after events world)
  pub over : (events : List Event) (world : World) → Along IsStopped events world → TookLast world (after events world)

module _ (laws : TookLaws) (tf : ℕ) where
  pub takes_running : (events : List Event) (world : World) → Along Runs events world → tf ≤ length world.commands → Takes true tf world → Takes true tf (after events world)
  takes_running events world along within all = takes_while tf world (after events world) (laws.playing events world along) within all

  pub takes_stopped : (events : List Event) (world : World) → Along IsStopped events world → tf ≤ length world.commands → Takes false tf world → Takes false tf (after events world)
  takes_stopped events world along within all = takes_last tf world (after events world) (laws.over events world along) within all

  pub takes_stopping : (front back : List Event) (world : World) → Along Runs front world → Along IsStopped back (after (front ++ stops ∷ []) world) → tf ≤ length world.commands → Takes true tf world → Takes false tf (after (front ++ stops ∷ back) world)
  takes_stopping front back world runs stays within all =
      let there = after front world in
      let stopped = happens there stops in
      let ran = takes_weak true tf there (takes_running front world runs within all) in
      let leaves = access_leaves there _ _ _ in
      let at_stop : Takes false tf stopped =
      subst (λ (commands : List TakenCommand). All (λ (one : TakenCommand). (one.running ≡ true) ⊎ (length stopped.carried ≤ one.carried)) (drop tf commands)) (sym leaves.commands)
      (subst (λ (carried : List CarriedFrame). All (λ (one : TakenCommand). (one.running ≡ true) ⊎ (length carried ≤ one.carried)) (drop tf there.commands)) (sym leaves.carried) ran) in
      let long = longer tf world there (events_grown front world) within in
      let split : after (front ++ stops ∷ back) world ≡ after back stopped = after-append front (stops ∷ back) world in
      let first : after (front ++ stops ∷ []) world ≡ stopped = after-append front (stops ∷ []) world in
      subst (Takes false tf) (sym split)
      (takes_stopped back stopped (subst (Along IsStopped back) first stays) (subst (λ (commands : List TakenCommand). tf ≤ length commands) (sym leaves.commands) long) at_stop)
