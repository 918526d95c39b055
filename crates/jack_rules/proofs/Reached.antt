-- What is told and chosen leaves every pin in reach.
use Rattle.std.proofs.Common.{◌≡◌, ◌≤◌, ◌+◌, ℕ, Bool, true, false, List, [], ◌∷◌, map, Option, None, Some, All, length, suc, refl, sym, ap, subst, ◌∙◌, arith, if◌then◌else◌}
use Rattle.std.specs.Prelude.{Vec}
use Rattle.std.specs.Vec.{with_items}
use Rattle.std.proofs.lemmas.List.{with_items_is}
use Rattle.std.proofs.lemmas.List.Elements.{All-map, All-nil, All-cons}
use Rattle.codec_graph.specs.declared.raw.RawCodec.{RawCodec}
use Rattle.codec_graph.specs.declared.raw.RawNode.{RawNode}
use Rattle.codec_graph.specs.Candidates.{association}
use Rattle.codec_graph.specs.Cycles.{IsWellFormed}
use Rattle.codec_graph.specs.Widget.{node_at}
use Rattle.codec_graph.proofs.Callers.{node_below}
use Rattle.route_planner.specs.declared.routes.Outcome.{Outcome}
use Rattle.route_planner.specs.declared.routes.Outcome.TheVariants.{Route, Blocked, NoPath}
use Rattle.route_planner.specs.declared.routes.PinPlan.{PinPlan}
use Rattle.command_engine.specs.declared.answers.Event.{Event}
use Rattle.jack_rules.specs.declared.pins.JackPin.{JackPin}
use Rattle.jack_rules.specs.declared.pins.SpeakerPin.{SpeakerPin}
use Rattle.jack_rules.specs.declared.pins.JackState.{JackState}
use Rattle.jack_rules.specs.declared.pins.SpeakerState.{SpeakerState}
use Rattle.jack_rules.specs.JackPins.{is_jack_node, is_speaker_node, jack_of, jack_at, put_first, jacks_from, speaker_of, speaker_at, has_jack, speaker_if, speakers_from}
use Rattle.jack_rules.specs.Switching.{with_first, jack_opened, speaker_opened, IsInReach, JacksReach, SpeakersReach, told_jack, sensed, is_wrong, righted, set_right, is_to_ask, asked_now, ask_first}
use Rattle.jack_rules.proofs.Firsts.{first_all}

abbrev pub JackReaches : JackState → Type 0
JackReaches state = IsInReach state.jack.codec state.jack.pin

abbrev pub SpeakerReaches : SpeakerState → Type 0
SpeakerReaches state = IsInReach state.speaker.codec state.speaker.pin

pub told_reach : (event : Event) (jacks : List JackState) → JacksReach jacks → JacksReach (map (told_jack event) jacks)
told_reach event jacks reach = All-map JackReaches (told_jack event) jacks reach

pub sensed_reach : (asked : JackPin) (present : Bool) (jacks : List JackState) → JacksReach jacks → JacksReach (map (sensed asked present) jacks)
sensed_reach asked present jacks reach = All-map JackReaches (sensed asked present) jacks reach

pub right_reach : (jacks : List JackState) (speakers : List SpeakerState) → SpeakersReach speakers → SpeakersReach (set_right jacks speakers)
right_reach jacks speakers reach = first_all (is_wrong jacks) (righted jacks) SpeakerReaches speakers (λ state is. is) reach

pub asked_reach : (jacks : List JackState) → JacksReach jacks → JacksReach (ask_first jacks)
asked_reach jacks reach = first_all is_to_ask asked_now JackReaches jacks (λ state is. is) reach

-- ---- pins of a well-formed codec are in reach

jack_of_reach : (codec : RawCodec) (place pin : ℕ) (found : Option RawNode) → IsWellFormed codec → codec.address ≤ 14 → node_at codec pin ≡ found → (jack : JackPin) → jack_of codec place pin found ≡ Some jack → IsInReach jack.codec jack.pin
jack_of_reach codec place pin None well few there jack is = cc
jack_of_reach codec place pin (Some node) well few there jack is = by (is_jack_node node) is
  where
    by : (test : Bool) → (if test then Some (let jack : JackPin = record { codec = codec.address; pin = pin; tag = place + 1; association = association node } in jack) else None) ≡ Some jack → IsInReach jack.codec jack.pin
    by true is = let low = node_below codec pin node well there in
        let same : (let jack : JackPin = record { codec = codec.address; pin = pin; tag = place + 1; association = association node } in jack) ≡ jack = cc in
        subst (λ (jack : JackPin). IsInReach jack.codec jack.pin) same (record { codec_is = few; pin_is = omega (arith, low) })
    by false is = cc

jack_at_reach : (codec : RawCodec) (place pin : ℕ) (outcome : Outcome) → IsWellFormed codec → codec.address ≤ 14 → (jack : JackPin) → jack_at codec place pin outcome ≡ Some jack → IsInReach jack.codec jack.pin
jack_at_reach codec place pin (Route route) well few jack is = jack_of_reach codec place pin (node_at codec pin) well few refl jack is
jack_at_reach codec place pin Blocked well few jack is = cc
jack_at_reach codec place pin NoPath well few jack is = cc

put_reach : (found : Option JackPin) (rest : List JackPin) → ((jack : JackPin) → found ≡ Some jack → IsInReach jack.codec jack.pin) → JacksReach (map jack_opened rest) → JacksReach (map jack_opened (put_first found rest))
put_reach None rest one more = more
put_reach (Some jack) rest one more = All-cons JackReaches (jack_opened jack) (map jack_opened rest) (one jack refl) more

pub jacks_from_reach : (codec : RawCodec) (place : ℕ) (entries : List PinPlan) → IsWellFormed codec → codec.address ≤ 14 → JacksReach (map jack_opened (jacks_from codec place entries))
jacks_from_reach codec place [] well few = All-nil JackReaches
jacks_from_reach codec place (entry ∷ entries) well few =
    put_reach (jack_at codec place entry.pin entry.outcome) (jacks_from codec (place + 1) entries) (jack_at_reach codec place entry.pin entry.outcome well few) (jacks_from_reach codec (place + 1) entries well few)

speaker_of_reach : (codec : RawCodec) (pin : ℕ) (found : Option RawNode) → IsWellFormed codec → codec.address ≤ 14 → node_at codec pin ≡ found → (speaker : SpeakerPin) → speaker_of codec pin found ≡ Some speaker → IsInReach speaker.codec speaker.pin
speaker_of_reach codec pin None well few there speaker is = cc
speaker_of_reach codec pin (Some node) well few there speaker is = by (is_speaker_node node) is
  where
    by : (test : Bool) → (if test then Some (let speaker : SpeakerPin = record { codec = codec.address; pin = pin; association = association node } in speaker) else None) ≡ Some speaker → IsInReach speaker.codec speaker.pin
    by true is = let low = node_below codec pin node well there in
        let same : (let speaker : SpeakerPin = record { codec = codec.address; pin = pin; association = association node } in speaker) ≡ speaker = cc in
        subst (λ (speaker : SpeakerPin). IsInReach speaker.codec speaker.pin) same (record { codec_is = few; pin_is = omega (arith, low) })
    by false is = cc

speaker_at_reach : (codec : RawCodec) (pin : ℕ) (outcome : Outcome) → IsWellFormed codec → codec.address ≤ 14 → (speaker : SpeakerPin) → speaker_at codec pin outcome ≡ Some speaker → IsInReach speaker.codec speaker.pin
speaker_at_reach codec pin (Route route) well few speaker is = speaker_of_reach codec pin (node_at codec pin) well few refl speaker is
speaker_at_reach codec pin Blocked well few speaker is = cc
speaker_at_reach codec pin NoPath well few speaker is = cc

speaker_if_reach : (jacks : List JackPin) (found : Option SpeakerPin) → ((speaker : SpeakerPin) → found ≡ Some speaker → IsInReach speaker.codec speaker.pin) → (speaker : SpeakerPin) → speaker_if jacks found ≡ Some speaker → IsInReach speaker.codec speaker.pin
speaker_if_reach jacks None one speaker is = cc
speaker_if_reach jacks (Some found) one speaker is = by (has_jack jacks found) is
  where
    by : (test : Bool) → (if test then Some found else None) ≡ Some speaker → IsInReach speaker.codec speaker.pin
    by true is = one speaker is
    by false is = cc

put_speaker_reach : (found : Option SpeakerPin) (rest : List SpeakerPin) → ((speaker : SpeakerPin) → found ≡ Some speaker → IsInReach speaker.codec speaker.pin) → SpeakersReach (map speaker_opened rest) → SpeakersReach (map speaker_opened (put_first found rest))
put_speaker_reach None rest one more = more
put_speaker_reach (Some speaker) rest one more = All-cons SpeakerReaches (speaker_opened speaker) (map speaker_opened rest) (one speaker refl) more

pub speakers_from_reach : (jacks : List JackPin) (codec : RawCodec) (entries : List PinPlan) → IsWellFormed codec → codec.address ≤ 14 → SpeakersReach (map speaker_opened (speakers_from jacks codec entries))
speakers_from_reach jacks codec [] well few = All-nil SpeakerReaches
speakers_from_reach jacks codec (entry ∷ entries) well few =
    put_speaker_reach (speaker_if jacks (speaker_at codec entry.pin entry.outcome)) (speakers_from jacks codec entries)
    (speaker_if_reach jacks (speaker_at codec entry.pin entry.outcome) (speaker_at_reach codec entry.pin entry.outcome well few)) (speakers_from_reach jacks codec entries well few)

-- ---- in a vector

-- what all have that are put into a vector, all have there
pub with_all : {X Z : Type 0} (P : X → Type 0) (v : Vec X Z) (ws : List X) → length ws ≡ v.len → All P ws → All P (with_items v ws).items
with_all P v ws long all = subst (All P) (sym (with_items_is v ws long)) all

pub first_long : {X : Type 0} (test : X → Bool) (change : X → X) (xs : List X) → length (with_first test change xs) ≡ length xs
first_long test change [] = refl
first_long test change (x ∷ xs) = by (test x) (first_long test change xs)
  where
    by : (is : Bool) → length (with_first test change xs) ≡ length xs → length (if is then change x ∷ xs else x ∷ with_first test change xs) ≡ suc (length xs)
    by true long = refl
    by false long = ap (λ n. suc n) long

-- what stands there after a jack was asked, and after a speaker was set right
pub asked_items : {Z : Type 0} (v : Vec JackState Z) (ws now : List JackState) → ws ≡ ask_first now → now ≡ v.items → (with_items v ws).items ≡ ask_first v.items
asked_items v ws now is same =
    let all = is ∙ ap ask_first same in
    with_items_is v ws (ap length all ∙ first_long is_to_ask asked_now v.items ∙ sym v.ok.0) ∙ all

pub right_items : {Z : Type 0} (jacks told : List JackState) (v : Vec SpeakerState Z) (ws now : List SpeakerState) → ws ≡ set_right told now → told ≡ jacks → now ≡ v.items → (with_items v ws).items ≡ set_right jacks v.items
right_items jacks told v ws now is told_is same =
    let all = is ∙ ap (λ (jacks : List JackState). set_right jacks now) told_is ∙ ap (λ (speakers : List SpeakerState). set_right jacks speakers) same in
    with_items_is v ws (ap length all ∙ first_long (is_wrong jacks) (righted jacks) v.items ∙ sym v.ok.0) ∙ all
