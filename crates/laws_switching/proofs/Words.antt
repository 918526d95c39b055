-- The commands of the switch rules are words that switch speakers.
use Rattle.std.proofs.Common.{◌≡◌, ◌<◌, ◌^◌, ◌==◌, ◌||◌, ◌⊎◌, inl, inr, ℕ, Bool, true, false, if◌then◌else◌, List, [], ◌∷◌, map, Option, None, Some, refl, sym, ap, subst, ◌∙◌, rules, tests}
use Rattle.std.specs.Prelude.{All, find, IfSome}
use Rattle.std.specs.List.{list_any}
use Rattle.std.proofs.lemmas.List.Elements.{All-cons, All-nil, All-weaker}
use Rattle.verb_codes.specs.declared.verbs.Command.{Command}
use Rattle.verb_codes.specs.declared.verbs.Verb.TheVariants.{SetPin, GetSense}
use Rattle.verb_codes.specs.Verbs.{word_of, reading_of}
use Rattle.codec_graph.specs.declared.raw.RawCodec.{RawCodec}
use Rattle.codec_graph.specs.Settings.{Entries}
use Rattle.codec_graph.specs.VerbMeaning.{after, writes_of}
use Rattle.route_planner.specs.declared.routes.Plan.{Plan}
use Rattle.heard_frames.specs.Marks.{control_in, control_for}
use Rattle.jack_rules.specs.declared.pins.JackState.{JackState}
use Rattle.jack_rules.specs.declared.pins.SpeakerPin.{SpeakerPin}
use Rattle.jack_rules.specs.declared.pins.SpeakerState.{SpeakerState}
use Rattle.jack_rules.specs.JackPins.{speakers_of}
use Rattle.jack_rules.specs.Switching.{SwitchingState, AreInReach, is_wanted, is_wrong, is_to_ask, control_of, pin_command, sense_command, choice_by_jack, choice_by_speaker, next_choice}
use Rattle.laws_settings.specs.Histories.{after_reading}
use Rattle.laws_speakers.specs.SwitchWords.{OnlyAsks, IsSwitchWord}
use Rattle.laws_switching.specs.Speakers.{is_pin_at, is_switched}
use Rattle.laws_switching.proofs.SensesTold.{both_true}
use Rattle.laws_switching.proofs.Choosing.{found_has, states_all}

-- ---- each speaker is one of them

is_itself : (speaker : SpeakerPin) → is_pin_at speaker.codec speaker.pin speaker ≡ true
is_itself speaker = both_true (speaker.codec == speaker.codec) (speaker.pin == speaker.pin) (search (rules, tests)) (search (rules, tests))

or_left : (one other : Bool) → one ≡ true → (one || other) ≡ true
or_left true other is = refl
or_left false other is = cc

or_right : (one other : Bool) → other ≡ true → (one || other) ≡ true
or_right true other is = refl
or_right false other is = is

abbrev IsAmong : List SpeakerPin → SpeakerPin → Type 0
IsAmong speakers speaker = list_any (is_pin_at speaker.codec speaker.pin) speakers ≡ true

all_among : (speakers : List SpeakerPin) → All (IsAmong speakers) speakers
all_among [] = All-nil (IsAmong [])
all_among (speaker ∷ speakers) =
    All-cons (IsAmong (speaker ∷ speakers)) speaker speakers
    (or_left (is_pin_at speaker.codec speaker.pin speaker) (list_any (is_pin_at speaker.codec speaker.pin) speakers) (is_itself speaker))
    (All-weaker (IsAmong speakers) (IsAmong (speaker ∷ speakers))
    (λ other is. or_right (is_pin_at other.codec other.pin speaker) (list_any (is_pin_at other.codec other.pin) speakers) is) speakers (all_among speakers))

-- ---- a command that asks, or puts a speaker

ask_for : (pin nid : ℕ) (test : Bool) → (if test then control_in GetSense else None) ≡ None
ask_for pin nid true = refl
ask_for pin nid false = refl

nothing_set : (graph : RawCodec) (settings : Entries) (codec nid : ℕ) → after graph settings (record { codec = codec; nid = nid; verb = GetSense }) ≡ settings
unfolding after writes_of
nothing_set graph settings codec nid = refl

asking_word : (command : Command) (word : ℕ) → command.verb ≡ GetSense → reading_of word ≡ Some command → OnlyAsks word
asking_word command word asks reads = record {
  reading = λ graph settings. ap (λ (read : Option Command). after_reading graph settings read) (reads ∙ same) ∙ nothing_set graph settings command.codec command.nid;
  none = λ pin. ap (λ (read : Option Command). control_for pin read) (reads ∙ same) ∙ ask_for pin command.nid (command.nid == pin);
} where
  same : Some command ≡ Some (record command { verb = GetSense })
  same = ap (λ verb. Some (record command { verb = verb })) asks

control_either : (on : Bool) → (SetPin (control_of on) ≡ SetPin 0) ⊎ (SetPin (control_of on) ≡ SetPin 0x40)
control_either true = inr refl
control_either false = inl refl

-- ---- what is chosen

module _ (graphs : List RawCodec) (plans : List Plan) (switching : SwitchingState) (pins : map (λ (state : SpeakerState). state.speaker) switching.speakers ≡ speakers_of graphs plans) where
  abbrev Switches : Command → Type 0
  Switches command = (word : ℕ) → reading_of word ≡ Some command → IsSwitchWord (is_switched graphs plans) word

  among : All (λ (state : SpeakerState). IsAmong (speakers_of graphs plans) state.speaker) switching.speakers
  among = states_all (IsAmong (speakers_of graphs plans)) switching.speakers (subst (All (IsAmong (speakers_of graphs plans))) (sym pins) (all_among (speakers_of graphs plans)))

  by_jack : (command : Command) (found : Option JackState) → (choice_by_jack switching found).command ≡ Some command → Switches command
  by_jack command None is = cc
  by_jack command (Some state) is =
      let same : sense_command state.jack ≡ command = cc in
      subst Switches same (λ word reads. inl (asking_word (sense_command state.jack) word refl reads))

  by_speaker : (command : Command) (found : Option SpeakerState) → find (is_wrong switching.jacks) switching.speakers ≡ found → (choice_by_speaker switching found).command ≡ Some command → Switches command
  by_speaker command None at is = by_jack command (find is_to_ask switching.jacks) is
  by_speaker command (Some state) at is =
      let same : pin_command switching.jacks state.speaker ≡ command = cc in
      let has = found_has (λ (state : SpeakerState). IsAmong (speakers_of graphs plans) state.speaker) (is_wrong switching.jacks) switching.speakers state among at in
      subst Switches same (λ word reads. inr (record {
        command = pin_command switching.jacks state.speaker;
        reads = reads;
        speaker = has.0;
        either = control_either (is_wanted switching.jacks state.speaker);
      }))

  pub switch_word : (command : Command) → (next_choice switching).command ≡ Some command → (word : ℕ) → reading_of word ≡ Some command → IsSwitchWord (is_switched graphs plans) word
  switch_word command is = by_speaker command (find (is_wrong switching.jacks) switching.speakers) refl is

  -- where none comes nothing changes
  by_none : (found : Option JackState) → (choice_by_jack switching found).command ≡ None → (choice_by_jack switching found).next ≡ switching
  by_none None is = refl
  by_none (Some state) is = cc

  none_by : (found : Option SpeakerState) → (choice_by_speaker switching found).command ≡ None → (choice_by_speaker switching found).next ≡ switching
  none_by None is = by_none (find is_to_ask switching.jacks) is
  none_by (Some state) is = cc

  pub none_chosen : (next_choice switching).command ≡ None → (next_choice switching).next ≡ switching
  none_chosen is = none_by (find (is_wrong switching.jacks) switching.speakers) is

pub record AreWords (command : Command) : Type 0 where
  pub small : word_of command < 2 ^ 32
  pub reads : reading_of (word_of command) ≡ Some command

-- the law of commands that are words
abbrev pub ChosenWords : Type 0
ChosenWords = (switching : SwitchingState) → AreInReach switching → IfSome (next_choice switching).command (λ command. (word_of command < 2 ^ 32) × (reading_of (word_of command) ≡ Some command))

pub chosen_word : (command : Command) (chosen : Option Command) → IfSome chosen (λ command. (word_of command < 2 ^ 32) × (reading_of (word_of command) ≡ Some command)) → chosen ≡ Some command → AreWords command
chosen_word command chosen are is =
    let both = subst (λ (chosen : Option Command). IfSome chosen (λ command. (word_of command < 2 ^ 32) × (reading_of (word_of command) ≡ Some command))) is are in
    record { small = both.0; reads = both.1 }
