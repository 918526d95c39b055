-- The rules by which speakers are switched off while something is plugged into a jack, as a machine that is told what
-- codecs sent, and says which command comes next. Pin sense: High Definition Audio 1.0a, 7.3.3.15; pin widget control:
-- 7.3.3.13. The rules are this project's own.
use Rattle.std.specs.Prelude.{◌≡◌, ◌≤◌, ◌⊎◌, ℕ, ◌==◌, ◌&&◌, ◌||◌, not, Bool, true, false, List, [], ◌∷◌, map, fold, All, Contains}
use Rattle.std.specs.Prelude.{Option, None, Some, if◌then◌else◌, find}
use Rattle.std.specs.List.{list_any}
use Rattle.codec_graph.specs.declared.raw.RawCodec.{RawCodec}
use Rattle.route_planner.specs.declared.routes.Plan.{Plan}
use Rattle.verb_codes.specs.declared.verbs.Command.{Command}
use Rattle.verb_codes.specs.declared.verbs.Verb.{Verb}
use Rattle.verb_codes.specs.declared.verbs.Verb.TheVariants.{SetPin, GetSense}
use Rattle.verb_codes.specs.Words.{has_bit}
use Rattle.command_engine.specs.declared.answers.Event.{Event}
use Rattle.jack_rules.specs.declared.pins.JackPin.{JackPin}
use Rattle.jack_rules.specs.declared.pins.SpeakerPin.{SpeakerPin}
use Rattle.jack_rules.specs.declared.pins.JackState.{JackState}
use Rattle.jack_rules.specs.declared.pins.SpeakerState.{SpeakerState}
use Rattle.jack_rules.specs.JackPins.{jacks_of, speakers_of}

-- the jacks and the speakers in order, and which jack the outstanding command asks, if it asks one
pub record SwitchingState : Type 0 where
  pub jacks : List JackState
  pub speakers : List SpeakerState
  pub asking : Option JackPin

abbrev pub pin_of : JackState → JackPin
pin_of state = state.jack

-- ---- where it begins: every jack is to be asked and counts as absent, and every speaker is on

abbrev pub jack_opened : JackPin → JackState
jack_opened jack = record { jack = jack; to_ask = true; present = false }

abbrev pub speaker_opened : SpeakerPin → SpeakerState
speaker_opened speaker = record { speaker = speaker; on = true }

abbrev pub switching_opened : List RawCodec → List Plan → SwitchingState
switching_opened codecs plans = record {
  jacks = map jack_opened (jacks_of codecs plans);
  speakers = map speaker_opened (speakers_of codecs plans);
  asking = None;
}

-- ---- what it is told

-- an event of a jack's codec with the jack's tag makes that jack to be asked
abbrev pub is_of_jack : Event → JackPin → Bool
is_of_jack event jack = jack.codec == event.codec && jack.tag == event.tag

abbrev pub told_jack : Event → JackState → JackState
told_jack event state = record state { to_ask = is_of_jack event state.jack || state.to_ask }

abbrev pub told_event : SwitchingState → Event → SwitchingState
told_event switching event = record switching { jacks = map (told_jack event) switching.jacks }

-- an answer sets the jack that was asked present or absent, by bit 31. Where none was asked it says nothing
abbrev pub is_same_jack : JackPin → JackPin → Bool
is_same_jack asked jack = jack.codec == asked.codec && jack.pin == asked.pin

abbrev pub sensed : (asked : JackPin) → (present : Bool) → JackState → JackState
sensed asked present state = record state {
  present = if is_same_jack asked state.jack then present else state.present;
}

abbrev pub presence_at : ℕ
presence_at = 31

abbrev pub told_by : Option JackPin → SwitchingState → (word : ℕ) → SwitchingState
told_by None switching word = switching
told_by (Some asked) switching word = record switching {
  jacks = map (sensed asked (has_bit word presence_at)) switching.jacks;
  asking = None;
}

abbrev pub told_answer : SwitchingState → (word : ℕ) → SwitchingState
told_answer switching word = told_by switching.asking switching word

-- all that a look found: some events in order, and an answer, if one came
abbrev pub told_found : SwitchingState → Option ℕ → SwitchingState
told_found switching None = switching
told_found switching (Some word) = told_answer switching word

abbrev pub told_events : SwitchingState → List Event → SwitchingState
told_events switching events = fold told_event switching events

abbrev pub told_all : SwitchingState → List Event → Option ℕ → SwitchingState
told_all switching events answer = told_found (told_events switching events) answer

-- ---- which command comes next

-- a speaker is on unless something is plugged into some jack of its codec and association
abbrev pub silences : SpeakerPin → JackState → Bool
silences speaker state =
    state.present && state.jack.codec == speaker.codec && state.jack.association == speaker.association

abbrev pub is_wanted : List JackState → SpeakerPin → Bool
is_wanted jacks speaker = not (list_any (silences speaker) jacks)

-- whether what was sent to it last isn't what is wanted
abbrev pub is_wrong : List JackState → SpeakerState → Bool
is_wrong jacks state = if is_wanted jacks state.speaker then not state.on else state.on

-- 40h enables a pin's output, and 0 nothing
abbrev pub control_of : (on : Bool) → ℕ
control_of on = if on then 0x40 else 0

abbrev pub pin_command : List JackState → SpeakerPin → Command
pin_command jacks speaker =
    record { codec = speaker.codec; nid = speaker.pin; verb = SetPin (control_of (is_wanted jacks speaker)) }

abbrev pub sense_command : JackPin → Command
sense_command jack = record { codec = jack.codec; nid = jack.pin; verb = GetSense }

-- the first of some values that a test holds of is changed
abbrev pub with_first : {X : Type 0} → (X → Bool) → (X → X) → List X → List X
with_first test change [] = []
with_first test change (value ∷ values) =
    if test value then change value ∷ values else value ∷ with_first test change values

-- the first wrong speaker was set right
abbrev pub righted : List JackState → SpeakerState → SpeakerState
righted jacks state = record state { on = is_wanted jacks state.speaker }

abbrev pub set_right : List JackState → List SpeakerState → List SpeakerState
set_right jacks speakers = with_first (is_wrong jacks) (righted jacks) speakers

-- the first jack that is to be asked was asked
abbrev pub is_to_ask : JackState → Bool
is_to_ask state = state.to_ask

abbrev pub asked_now : JackState → JackState
asked_now state = record state { to_ask = false }

abbrev pub ask_first : List JackState → List JackState
ask_first jacks = with_first is_to_ask asked_now jacks

-- a command, if one comes, and the machine after it
pub record Choice : Type 0 where
  pub command : Option Command
  pub next : SwitchingState

abbrev pub choice_by_jack : SwitchingState → Option JackState → Choice
choice_by_jack switching None = record { command = None; next = switching }
choice_by_jack switching (Some state) = record {
  command = Some (sense_command state.jack);
  next = record switching { jacks = ask_first switching.jacks; asking = Some state.jack };
}

abbrev pub choice_by_speaker : SwitchingState → Option SpeakerState → Choice
choice_by_speaker switching None =
    choice_by_jack switching (find is_to_ask switching.jacks)
choice_by_speaker switching (Some state) = record {
  command = Some (pin_command switching.jacks state.speaker);
  next = record switching { speakers = set_right switching.jacks switching.speakers; asking = None };
}

-- SetPin of the first speaker that is wrong, else GetSense of the first jack that is to be asked, else none
abbrev pub next_choice : SwitchingState → Choice
next_choice switching =
    choice_by_speaker switching (find (is_wrong switching.jacks) switching.speakers)

-- ---- that the commands can be sent

-- a codec's address is one of 0 to 14, and a node identifier has seven bits
pub record IsInReach (codec pin : ℕ) : Type 0 where
  pub codec_is : codec ≤ 14
  pub pin_is : pin ≤ 127

abbrev pub JacksReach : List JackState → Type 0
JacksReach jacks = All (λ (state : JackState). IsInReach state.jack.codec state.jack.pin) jacks

abbrev pub SpeakersReach : List SpeakerState → Type 0
SpeakersReach speakers = All (λ (state : SpeakerState). IsInReach state.speaker.codec state.speaker.pin) speakers

pub record AreInReach (switching : SwitchingState) : Type 0 where
  pub jacks : JacksReach switching.jacks
  pub speakers : SpeakersReach switching.speakers

-- a command asks a jack, or puts 0 or 40h to a speaker
pub record AsksJack (switching : SwitchingState) (command : Command) : Type 0 where
  pub state : JackState
  pub is_one : Contains switching.jacks state
  pub command_is : command ≡ sense_command state.jack

pub record PutsSpeaker (switching : SwitchingState) (command : Command) : Type 0 where
  pub state : SpeakerState
  pub on : Bool
  pub is_one : Contains switching.speakers state
  pub command_is : command
      ≡ record { codec = state.speaker.codec; nid = state.speaker.pin; verb = SetPin (control_of on) }

abbrev pub IsSwitchCommand : SwitchingState → Command → Type 0
IsSwitchCommand switching command = AsksJack switching command ⊎ PutsSpeaker switching command

-- the pins stay: the same jacks and speakers in the same order
pub record KeepsPins (old new : SwitchingState) : Type 0 where
  pub jacks : map pin_of new.jacks ≡ map pin_of old.jacks
  pub speakers : map (λ (state : SpeakerState). state.speaker) new.speakers
      ≡ map (λ (state : SpeakerState). state.speaker) old.speakers
