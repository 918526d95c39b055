-- The commands that are chosen.
use Rattle.std.proofs.Common.{◌≡◌, ℕ, Bool, true, false, inl, inr, List, [], ◌∷◌, map, Option, None, Some, refl, ap, ◌∙◌, if◌then◌else◌}
use Rattle.std.specs.Prelude.{find, fold, IfSome, Contains}
use Rattle.std.proofs.lemmas.List.Elements.{All-contains_itself}
use Rattle.verb_codes.specs.declared.verbs.Command.{Command}
use Rattle.verb_codes.specs.declared.verbs.Verb.TheVariants.{SetPin, GetSense}
use Rattle.verb_codes.specs.Verbs.{IsInRange}
use Rattle.command_engine.specs.declared.answers.Event.{Event}
use Rattle.jack_rules.specs.declared.pins.JackPin.{JackPin}
use Rattle.jack_rules.specs.declared.pins.JackState.{JackState}
use Rattle.jack_rules.specs.declared.pins.SpeakerPin.{SpeakerPin}
use Rattle.jack_rules.specs.declared.pins.SpeakerState.{SpeakerState}
use Rattle.jack_rules.specs.Switching.{SwitchingState, pin_of, IsInReach, AreInReach, is_wanted, is_wrong, righted, is_to_ask, asked_now, control_of, pin_command, sense_command, choice_by_jack, choice_by_speaker, next_choice, with_first, set_right, ask_first}
use Rattle.jack_rules.specs.Switching.{IsSwitchCommand, KeepsPins, told_jack, told_event, told_events, told_by, told_answer, told_found, told_all, sensed}
use Rattle.jack_rules.proofs.Firsts.{find_all}

-- ---- they can be sent

put_range : (codec pin : ℕ) (wanted : Bool) → IsInReach codec pin → IsInRange (record { codec = codec; nid = pin; verb = SetPin (control_of wanted) })
put_range codec pin true reach = record { codec = reach.codec_is; nid = reach.pin_is; verb = refl }
put_range codec pin false reach = record { codec = reach.codec_is; nid = reach.pin_is; verb = refl }

pub pin_in_range : (jacks : List JackState) (speaker : SpeakerPin) → IsInReach speaker.codec speaker.pin → IsInRange (pin_command jacks speaker)
pin_in_range jacks speaker reach = put_range speaker.codec speaker.pin (is_wanted jacks speaker) reach

pub sense_in_range : (jack : JackPin) → IsInReach jack.codec jack.pin → IsInRange (sense_command jack)
sense_in_range jack reach = record { codec = reach.codec_is; nid = reach.pin_is; verb = refl }

jack_in_range : (switching : SwitchingState) → AreInReach switching → (found : Option JackState) → find is_to_ask switching.jacks ≡ found → IfSome (choice_by_jack switching found).command IsInRange
jack_in_range switching reach None is = tt
jack_in_range switching reach (Some state) is =
    sense_in_range state.jack (find_all is_to_ask asked_now (λ (state : JackState). IsInReach state.jack.codec state.jack.pin) switching.jacks state is reach.jacks)

speaker_in_range : (switching : SwitchingState) → AreInReach switching → (found : Option SpeakerState) → find (is_wrong switching.jacks) switching.speakers ≡ found → IfSome (choice_by_speaker switching found).command IsInRange
speaker_in_range switching reach None is = jack_in_range switching reach (find is_to_ask switching.jacks) refl
speaker_in_range switching reach (Some state) is =
    pin_in_range switching.jacks state.speaker (find_all (is_wrong switching.jacks) (righted switching.jacks) (λ (state : SpeakerState). IsInReach state.speaker.codec state.speaker.pin) switching.speakers state is reach.speakers)

pub choices_in_range : (switching : SwitchingState) → AreInReach switching → IfSome (next_choice switching).command IsInRange
choices_in_range switching reach = speaker_in_range switching reach (find (is_wrong switching.jacks) switching.speakers) refl

-- ---- they are of the jacks and speakers

jack_of_one : (switching : SwitchingState) (found : Option JackState) → find is_to_ask switching.jacks ≡ found → IfSome (choice_by_jack switching found).command (IsSwitchCommand switching)
jack_of_one switching None is = tt
jack_of_one switching (Some state) is = inl (record {
  state = state;
  is_one = find_all is_to_ask asked_now (Contains switching.jacks) switching.jacks state is (All-contains_itself switching.jacks);
  command_is = refl;
})

speaker_of_one : (switching : SwitchingState) (found : Option SpeakerState) → find (is_wrong switching.jacks) switching.speakers ≡ found → IfSome (choice_by_speaker switching found).command (IsSwitchCommand switching)
speaker_of_one switching None is = jack_of_one switching (find is_to_ask switching.jacks) refl
speaker_of_one switching (Some state) is = inr (record {
  state = state;
  on = is_wanted switching.jacks state.speaker;
  is_one = find_all (is_wrong switching.jacks) (righted switching.jacks) (Contains switching.speakers) switching.speakers state is (All-contains_itself switching.speakers);
  command_is = refl;
})

pub choices_are : (switching : SwitchingState) → IfSome (next_choice switching).command (IsSwitchCommand switching)
choices_are switching = speaker_of_one switching (find (is_wrong switching.jacks) switching.speakers) refl

-- ---- no pin changes

-- a change that leaves what is looked at leaves it in a list
map_same : {X Y : Type 0} (look : X → Y) (change : X → X) (xs : List X) → ((x : X) → look (change x) ≡ look x) → map look (map change xs) ≡ map look xs
map_same look change [] same = refl
map_same look change (x ∷ xs) same = ap (λ y. y ∷ map look (map change xs)) (same x) ∙ ap (λ ys. look x ∷ ys) (map_same look change xs same)

first_by : {X Y : Type 0} (look : X → Y) (test : X → Bool) (change : X → X) (x : X) (xs : List X) (is : Bool) → look (change x) ≡ look x → map look (with_first test change xs) ≡ map look xs
    → map look (if is then change x ∷ xs else x ∷ with_first test change xs) ≡ look x ∷ map look xs
first_by look test change x xs true same rest = ap (λ y. y ∷ map look xs) same
first_by look test change x xs false same rest = ap (λ ys. look x ∷ ys) rest

first_same : {X Y : Type 0} (look : X → Y) (test : X → Bool) (change : X → X) (xs : List X) → ((x : X) → look (change x) ≡ look x) → map look (with_first test change xs) ≡ map look xs
first_same look test change [] same = refl
first_same look test change (x ∷ xs) same = first_by look test change x xs (test x) (same x) (first_same look test change xs same)

same_pins : (switching : SwitchingState) → KeepsPins switching switching
same_pins switching = record { jacks = refl; speakers = refl }

both_pins : (first second third : SwitchingState) → KeepsPins first second → KeepsPins second third → KeepsPins first third
both_pins first second third one other = record { jacks = other.jacks ∙ one.jacks; speakers = other.speakers ∙ one.speakers }

event_pins : (switching : SwitchingState) (event : Event) → KeepsPins switching (told_event switching event)
event_pins switching event = record { jacks = map_same pin_of (told_jack event) switching.jacks (λ state. refl); speakers = refl }

events_pins : (switching : SwitchingState) (events : List Event) → KeepsPins switching (told_events switching events)
events_pins switching [] = same_pins switching
events_pins switching (event ∷ events) =
    both_pins switching (told_event switching event) (told_events (told_event switching event) events) (event_pins switching event) (events_pins (told_event switching event) events)

answer_pins : (switching : SwitchingState) (asking : Option JackPin) (word : ℕ) → KeepsPins switching (told_by asking switching word)
answer_pins switching None word = same_pins switching
answer_pins switching (Some asked) word = record { jacks = map_same pin_of (sensed asked _) switching.jacks (λ state. refl); speakers = refl }

found_pins : (switching : SwitchingState) (answer : Option ℕ) → KeepsPins switching (told_found switching answer)
found_pins switching None = same_pins switching
found_pins switching (Some word) = answer_pins switching switching.asking word

pub told_pins : (switching : SwitchingState) (events : List Event) (answer : Option ℕ) → KeepsPins switching (told_all switching events answer)
told_pins switching events answer =
    both_pins switching (told_events switching events) (told_all switching events answer) (events_pins switching events) (found_pins (told_events switching events) answer)

jack_pins : (switching : SwitchingState) (found : Option JackState) → KeepsPins switching (choice_by_jack switching found).next
jack_pins switching None = same_pins switching
jack_pins switching (Some state) = record { jacks = first_same pin_of is_to_ask asked_now switching.jacks (λ state. refl); speakers = refl }

speaker_pins : (switching : SwitchingState) (found : Option SpeakerState) → KeepsPins switching (choice_by_speaker switching found).next
speaker_pins switching None = jack_pins switching (find is_to_ask switching.jacks)
speaker_pins switching (Some state) = record {
  jacks = refl;
  speakers = first_same (λ (state : SpeakerState). state.speaker) (is_wrong switching.jacks) (righted switching.jacks) switching.speakers (λ state. refl);
}

pub chosen_pins : (switching : SwitchingState) → KeepsPins switching (next_choice switching).next
chosen_pins switching = speaker_pins switching (find (is_wrong switching.jacks) switching.speakers)
