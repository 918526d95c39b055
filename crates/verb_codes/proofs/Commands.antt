-- What a whole word reads as: words and commands that are in range stand for one another.
use Rattle.std.proofs.Common.{◌≡◌, ◌<◌, ◌≤◌, ◌+◌, ◌*◌, ◌/◌, ◌%◌, ◌^◌, ℕ, Bool, true, false, ◌&&◌, nat_le, Option, Some, None, cond, refl, sym, ap, ◌∙◌, arith, ◌⊎◌, inl, inr}
use Rattle.std.specs.Prelude.{◌↔◌}
use Rattle.std.specs.Option.{option_map}
use Rattle.std.proofs.lemmas.Bool.{and_parts, and_from, and_left, and_right, leb-true, le-leb, lt-leb}
use Rattle.std.proofs.lemmas.Option.{same_Some, none-some}
use Rattle.verb_codes.specs.declared.verbs.Command.{Command}
use Rattle.verb_codes.specs.declared.verbs.Verb.{Verb}
use Rattle.verb_codes.specs.Verbs.{verb_bits, verb_of_bits, IsInRange, word_of, command_with, reading_of}
use Rattle.verb_codes.proofs.Readings.{verb_of_bits-sound, verb_of_bits-complete, payload-lt, allowed-of, verb_bits-lt}

-- the parts of a command that a word reads as
record IsMadeOf (codec nid : ℕ) (verb : Option Verb) (command : Command) : Type 0 where
  codec_in : codec ≤ 14
  nid_in : nid ≤ 127
  codec_is : codec ≡ command.codec
  nid_is : nid ≡ command.nid
  verb_is : verb ≡ Some command.verb

command_with-parts : (codec nid : ℕ) (verb : Option Verb) (command : Command) → command_with codec nid verb ≡ Some command → IsMadeOf codec nid verb command
command_with-parts codec nid verb command =
    let C : Bool → Option Verb → Option Command = λ b o. cond b (option_map (λ v. record { codec = codec; nid = nid; verb = v }) o) None in
    let go : (b : Bool) (o : Option Verb) → (nat_le codec 14 && nat_le nid 127) ≡ b → C b o ≡ Some command → IsMadeOf codec nid o command =
    λ b o. elim b as (λ b. (nat_le codec 14 && nat_le nid 127) ≡ b → C b o ≡ Some command → IsMadeOf codec nid o command) [
      | true ↦ elim o as (λ o. (nat_le codec 14 && nat_le nid 127) ≡ true → C true o ≡ Some command → IsMadeOf codec nid o command) [
        | Some v ↦ λ q h.
            let e = same_Some _ command h in
            let both = and_parts _ _ q in
            record {
              codec_in = leb-true codec 14 both.0;
              nid_in = leb-true nid 127 both.1;
              codec_is = ap (λ (x : Command). x.codec) e;
              nid_is = ap (λ (x : Command). x.nid) e;
              verb_is = ap (λ (x : Command). Some x.verb) e;
            }
        | None ↦ λ q h. absurd (none-some command h)
      ]
      | false ↦ λ q h. absurd (none-some command h)
    ]
    in go (nat_le codec 14 && nat_le nid 127) verb refl

command_with-of : (command : Command) → command.codec ≤ 14 → command.nid ≤ 127 → command_with command.codec command.nid (Some command.verb) ≡ Some command
command_with-of command codec_in nid_in = rw (and_from _ _ (le-leb command.codec 14 codec_in) (le-leb command.nid 127 nid_in))

pub command_with-outside : (codec nid : ℕ) (verb : Option Verb) → (14 < codec) ⊎ ((codec ≤ 14) × (127 < nid)) → command_with codec nid verb ≡ None
command_with-outside codec nid verb (inl h) = rw (and_left (nat_le codec 14) (nat_le nid 127) (lt-leb codec 14 h))
command_with-outside codec nid verb (inr h) = rw (and_right (nat_le codec 14) (nat_le nid 127) (lt-leb nid 127 h.1))

pub command_with-none : (codec nid : ℕ) → command_with codec nid None ≡ None
command_with-none codec nid =
    let IsNothing : Bool → Type 0 = λ b. ◌≡◌ {A = Option Command} (cond b None None) None in
    elim (nat_le codec 14 && nat_le nid 127) as IsNothing [ true ↦ refl | false ↦ refl ]

pub command_with-some : (codec nid : ℕ) (verb : Verb) → codec ≤ 14 → nid ≤ 127 → command_with codec nid (Some verb) ≡ Some (record { codec = codec; nid = nid; verb = verb })
command_with-some codec nid verb h k = command_with-of (record { codec = codec; nid = nid; verb = verb }) h k

-- the word's parts as they are cut out of it
pub reading_of-parts : (word codec nid bits : ℕ) → word < 2 ^ 32 → codec ≡ word / 2 ^ 28 % 2 ^ 4 → nid ≡ word / 2 ^ 20 % 2 ^ 8 → bits ≡ word / 2 ^ 0 % 2 ^ 20 → reading_of word ≡ command_with codec nid (verb_of_bits bits)
unfolding reading_of
reading_of-parts word codec nid bits lt c n b =
    let e : word / 2 ^ 28 ≡ codec = omega arith in
    let f : word % 2 ^ 20 ≡ bits = omega arith in
    ap (λ x. command_with x (word / 2 ^ 20 % 2 ^ 8) (verb_of_bits (word % 2 ^ 20))) e
    ∙ ap (λ x. command_with codec x (verb_of_bits (word % 2 ^ 20))) (sym n)
    ∙ ap (λ x. command_with codec nid (verb_of_bits x)) f

-- a word that reads as a command is that command's word
pub reading_of-sound : (word : ℕ) (command : Command) → reading_of word ≡ Some command → IsInRange command × (word ≡ word_of command)
unfolding reading_of
reading_of-sound word command e =
    let parts = command_with-parts (word / 2 ^ 28) (word / 2 ^ 20 % 2 ^ 8) (verb_of_bits (word % 2 ^ 20)) command e in
    let verb = verb_of_bits-sound (word % 2 ^ 20) command.verb parts.verb_is in
    let low : word % 2 ^ 20 ≡ verb_bits command.verb = verb.1 in
    let c : word / 2 ^ 28 ≡ command.codec = parts.codec_is in
    let n : word / 2 ^ 20 % 2 ^ 8 ≡ command.nid = parts.nid_is in
    (record { codec = rw (← c) parts.codec_in; nid = rw (← n) parts.nid_in; verb = verb.0 }, whole word command.codec command.nid (verb_bits command.verb) c n low)
  where
    whole : (word codec nid bits : ℕ) → word / 2 ^ 28 ≡ codec → word / 2 ^ 20 % 2 ^ 8 ≡ nid → word % 2 ^ 20 ≡ bits → word ≡ codec * 2 ^ 28 + nid * 2 ^ 20 + bits
    whole word codec nid bits c n b = omega arith

-- the word of a command in range reads as it
pub reading_of-complete : (command : Command) → IsInRange command → reading_of (word_of command) ≡ Some command
unfolding reading_of
reading_of-complete command h =
    let bits = verb_bits command.verb in
    let lt : bits < 2 ^ 20 = verb_bits-lt command.verb (payload-lt command.verb h.verb) (allowed-of command.verb h.verb) in
    let p = parts command.codec command.nid bits h.codec h.nid lt in
    ap (λ x. command_with x (word_of command / 2 ^ 20 % 2 ^ 8) (verb_of_bits (word_of command % 2 ^ 20))) p.0
    ∙ ap (λ x. command_with command.codec x (verb_of_bits (word_of command % 2 ^ 20))) p.1
    ∙ ap (λ x. command_with command.codec command.nid (verb_of_bits x)) p.2
    ∙ ap (λ x. command_with command.codec command.nid x) (verb_of_bits-complete command.verb h.verb)
    ∙ command_with-of command h.codec h.nid
  where
    parts : (codec nid bits : ℕ) → codec ≤ 14 → nid ≤ 127 → bits < 2 ^ 20 → ((codec * 2 ^ 28 + nid * 2 ^ 20 + bits) / 2 ^ 28 ≡ codec) × ((codec * 2 ^ 28 + nid * 2 ^ 20 + bits) / 2 ^ 20 % 2 ^ 8 ≡ nid) × ((codec * 2 ^ 28 + nid * 2 ^ 20 + bits) % 2 ^ 20 ≡ bits)
    parts codec nid bits c n b = (omega arith, omega arith, omega arith)

-- a reading says all of the words and commands that stand for one another
pub reading_of-exact : (word : ℕ) (reading : Option Command) → reading ≡ reading_of word → (command : Command) → (reading ≡ Some command) ↔ (IsInRange command × (word ≡ word_of command))
reading_of-exact word reading e command = (
  (λ h. reading_of-sound word command (sym e ∙ h)),
  (λ h. e ∙ ap reading_of h.1 ∙ reading_of-complete command h.0),
)
