-- Commands that can be sent are words.
use Rattle.std.proofs.Common.{◌≡◌, ◌<◌, ◌^◌, true, List, [], ◌∷◌, map, Option, Some, None, sym, subst, arith}
use Rattle.std.specs.Prelude.{All, IfSome}
use Rattle.std.proofs.lemmas.Bool.{ltb-true}
use Rattle.std.proofs.lemmas.List.Elements.{All-map, All-nil, All-cons, All-head, All-tail}
use Rattle.verb_codes.specs.declared.verbs.Command.{Command}
use Rattle.verb_codes.specs.declared.verbs.Verb.{Verb}
use Rattle.verb_codes.specs.declared.verbs.Verb.TheVariants.{SetDefault}
use Rattle.verb_codes.specs.Verbs.{row_of, is_allowed, verb_bits, IsInRange, word_of, reading_of}
use Rattle.verb_codes.proofs.Callers.{payload-lt, allowed-of, reading_of-complete}
use Rattle.jack_rules.specs.declared.pins.JackPin.{JackPin}
use Rattle.jack_rules.specs.declared.pins.SpeakerPin.{SpeakerPin}
use Rattle.jack_rules.specs.declared.pins.SpeakerState.{SpeakerState}
use Rattle.jack_rules.specs.Switching.{SwitchingState, AreInReach, IsInReach, KeepsPins, pin_of}

verb_small : (verb : Verb) → (row_of verb).payload < 2 ^ (row_of verb).width → is_allowed verb ≡ true → verb_bits verb < 2 ^ 20
verb_small (SetDefault place byte) fits allowed = let below : place < 4 = ltb-true place 4 allowed in omega arith
verb_small _ fits allowed = omega arith

pub word_small : (command : Command) → IsInRange command → word_of command < 2 ^ 32
word_small command is =
    let small = verb_small command.verb (payload-lt command.verb is.verb) (allowed-of command.verb is.verb) in
    let codec = is.codec in
    let nid = is.nid in
    omega arith

pub are_words : (command : Command) → IsInRange command → (word_of command < 2 ^ 32) × (reading_of (word_of command) ≡ Some command)
are_words command is = (word_small command is, reading_of-complete command is)

pub some_words : (command : Option Command) → IfSome command IsInRange → IfSome command (λ command. (word_of command < 2 ^ 32) × (reading_of (word_of command) ≡ Some command))
some_words None is = is
some_words (Some command) is = are_words command is

-- ---- pins that stay stay in reach

from_map : {X Y : Type 0} (P : Y → Type 0) (f : X → Y) (xs : List X) → All P (map f xs) → All (λ x. P (f x)) xs
from_map P f [] all = All-nil (λ x. P (f x))
from_map P f (x ∷ xs) all = All-cons (λ x. P (f x)) x xs (All-head P (f x) (map f xs) all) (from_map P f xs (All-tail P (f x) (map f xs) all))

pub reach_on : (old new : SwitchingState) → KeepsPins old new → AreInReach old → AreInReach new
reach_on old new keeps reach = record {
  jacks = from_map (λ (jack : JackPin). IsInReach jack.codec jack.pin) pin_of new.jacks
      (subst (λ (pins : List JackPin). All (λ (jack : JackPin). IsInReach jack.codec jack.pin) pins) (sym keeps.jacks)
      (All-map (λ (jack : JackPin). IsInReach jack.codec jack.pin) pin_of old.jacks reach.jacks));
  speakers = from_map (λ (speaker : SpeakerPin). IsInReach speaker.codec speaker.pin) (λ (state : SpeakerState). state.speaker) new.speakers
      (subst (λ (pins : List SpeakerPin). All (λ (speaker : SpeakerPin). IsInReach speaker.codec speaker.pin) pins) (sym keeps.speakers)
      (All-map (λ (speaker : SpeakerPin). IsInReach speaker.codec speaker.pin) (λ (state : SpeakerState). state.speaker) old.speakers reach.speakers));
}
