-- What a walk tells is a codec with the walk's address.
use Rattle.std.proofs.Common.{◌≡◌, ℕ, List, [], ◌∷◌, Some, None, Ok, refl, sym, ap, subst, ◌∙◌, ◌<◌, length, get_or, arith}
use Rattle.std.proofs.lemmas.List.{get_or_read_under}
use Rattle.std.specs.Prelude.{IsSome, slice_index}
use Rattle.verb_codes.specs.declared.verbs.Command.{Command}
use Rattle.codec_graph.specs.declared.raw.RawCodec.{RawCodec}
use Rattle.codec_walk.specs.Dialogues.{Dialogue, Ask, Told, question, answered, after, told, asked}
use Rattle.codec_walk.specs.Walks.{walk, from_codec}
use Rattle.codec_walk.specs.Commands.{walk_commands}
use Rattle.codec_walk.specs.declared.walk.Walk.{Walk}
use Rattle.codec_walk.specs.Outcomes.{IsOutcomeOf}
use Rattle.driver_agenda.specs.Sound.{TellsOf}

abbrev pub AsksWhatIsTold : Type 0
AsksWhatIsTold = (address : ℕ) (answers : List ℕ) (codec : RawCodec) → told (after (walk address) answers) ≡ Some codec → asked (walk address) answers ≡ walk_commands codec

first_codec : List Command → ℕ
first_codec [] = 0
first_codec (command ∷ commands) = command.codec

first_asked : (address answer : ℕ) (answers : List ℕ) → first_codec (asked (walk address) (answer ∷ answers)) ≡ address
unfolding walk from_codec first_codec
first_asked address answer answers = refl

first_walked : (codec : RawCodec) → first_codec (walk_commands codec) ≡ codec.address
unfolding walk_commands first_codec
first_walked codec = refl

told_none : (address : ℕ) → told (walk address) ≡ None
unfolding walk from_codec
told_none address = refl

pub asks_first : (address : ℕ) → IsSome (question (walk address))
unfolding walk from_codec
asks_first address = refl

pub walk_tells : AsksWhatIsTold → (address : ℕ) → TellsOf address (walk address)
walk_tells law address [] codec e = let none = told_none address in cc
walk_tells law address (answer ∷ answers) codec e =
    sym (first_walked codec) ∙ sym (ap first_codec (law address (answer ∷ answers) codec e)) ∙ first_asked address answer answers

-- over an answer it stays so
pub tells_on : (address answer : ℕ) (dialogue : Dialogue) → TellsOf address dialogue → TellsOf address (answered dialogue answer)
tells_on address answer dialogue tells answers codec e = tells (answer ∷ answers) codec e

-- the graph that comes of it has that address too
pub outcome_address : (dialogue : Dialogue) (graph : RawCodec) (address : ℕ) → TellsOf address dialogue → IsOutcomeOf dialogue (Ok graph) → graph.address ≡ address
outcome_address (Ask command rest) graph address tells outcome = absurd outcome
outcome_address (Told codec) graph address tells outcome = ap (λ (told : RawCodec). told.address) outcome.value ∙ tells [] codec refl

-- what holds of a walk holds of whichever is there
pub of_some : (P : Walk → Type 0) (under_way : Walk) → P under_way → (other : Walk) → Some under_way ≡ Some other → P other
of_some P under_way is other e = let same : under_way ≡ other = cc in subst P same is

-- the element at a place
pub place_of : (xs : List ℕ) (k n x : ℕ) → x ≡ get_or xs k x → k ≡ n → n < length xs → x ≡ slice_index xs n
place_of xs k n x is same there = get_or_read_under xs k (length xs) x 0 is (omega (arith, same, there)) refl ∙ ap (slice_index xs) same
