-- What entries of RIRB say that are read where responses stand.
use Rattle.std.proofs.Common.{◌≡◌, ◌<◌, ◌≤◌, ◌+◌, ◌-◌, ◌%◌, ◌^◌, ℕ, Bool, true, false, List, [], length, slice_index, refl, ap, subst, ◌∙◌, arith, rules, if◌then◌else◌}
use Rattle.std.specs.Prelude.{slice_range}
use Rattle.std.proofs.Math.Nat.{mod-lt, mod-add-mod, mod-eq_of_lt, add-mod_left}
use Rattle.std.proofs.lemmas.List.{places}
use Rattle.byteorder.specs.Endian.{little_bytes}
use Rattle.byteorder.specs.Numbers.{little_from-bytes}
use Rattle.verb_codes.specs.Words.{bits_of, has_bit}
use Rattle.world_rings.specs.declared.response.Response.{Response}
use Rattle.world_rings.specs.Memory.{word_at}
use Rattle.world_rings.specs.Entries.{response_source, response_bytes}
use Rattle.hda_world.specs.Events.{IsPiece}
use Rattle.command_engine.specs.Entries.{response_in}
use Rattle.command_engine.specs.Belonging.{as_held}
use Rattle.hda_world.proofs.Callers.{same_word}

piece_byte : (memory entry : List ℕ) (at byte : ℕ) → byte < length entry → IsPiece memory at entry → slice_index entry byte ≡ slice_index memory (at + byte)
piece_byte memory entry at byte small piece =
    let within = piece.within in
    ap (λ (bytes : List ℕ). slice_index bytes byte) piece.same ∙ range_byte memory at (length entry) byte small within
  where
    range_byte : (memory : List ℕ) (at count byte : ℕ) → byte < count → at + count ≤ length memory → slice_index (slice_range memory at (at + count)) byte ≡ slice_index memory (at + byte)
    range_byte memory at count byte small within = search (rules, places)

first_word : (response : Response) → word_at (response_bytes response) 0 ≡ response.answer % 2 ^ 32
first_word response = little_from-bytes 4 0 response.answer (little_bytes 4 (response_source response)) ∙ omega arith

second_word : (response : Response) → word_at (response_bytes response) 4 ≡ response_source response % 2 ^ 32
second_word response = little_from-bytes 4 0 (response_source response) [] ∙ omega arith

same_response : (one other : Response) → one.codec ≡ other.codec → one.answer ≡ other.answer → one.unsolicited ≡ other.unsolicited → one ≡ other
same_response one other a b c =
    subst (λ (codec : ℕ). one ≡ record { codec = codec; answer = other.answer; unsolicited = other.unsolicited }) a
    (subst (λ (answer : ℕ). one ≡ record { codec = one.codec; answer = answer; unsolicited = other.unsolicited }) b
    (subst (λ (unsolicited : Bool). one ≡ record { codec = one.codec; answer = one.answer; unsolicited = unsolicited }) c refl))

source_codec : (codec : ℕ) (unsolicited : Bool) → codec ≤ 14 → bits_of ((codec + (if unsolicited then 16 else 0)) % 2 ^ 32) 0 4 ≡ codec
source_codec codec true small = omega arith
source_codec codec false small = omega arith

source_mark : (codec : ℕ) (unsolicited : Bool) → codec ≤ 14 → has_bit ((codec + (if unsolicited then 16 else 0)) % 2 ^ 32) 4 ≡ unsolicited
source_mark codec true small = let e : bits_of ((codec + 16) % 2 ^ 32) 4 1 ≡ 1 = omega arith in rw e refl
source_mark codec false small = let e : bits_of ((codec + 0) % 2 ^ 32) 4 1 ≡ 0 = omega arith in rw e refl

-- an entry that is read where a response stands says that response
pub entry_says : (memory entry : List ℕ) (at : ℕ) (response : Response) → length entry ≡ 8 → IsPiece memory at entry
    → ((byte : ℕ) → byte < 8 → slice_index memory (at + byte) ≡ slice_index (response_bytes response) byte) → response.codec ≤ 14 → response_in entry ≡ as_held response
entry_says memory entry at response long piece stands small =
    let bytes = λ (byte : ℕ) (few : byte < 8). piece_byte memory entry at byte (omega arith) piece ∙ stands byte few in
    let first : word_at entry 0 ≡ response.answer % 2 ^ 32 =
    same_word (response_bytes response) entry 0 (λ byte few. bytes (0 + byte) (omega arith)) ∙ first_word response in
    let second : word_at entry 4 ≡ response_source response % 2 ^ 32 =
    same_word (response_bytes response) entry 4 (λ byte few. bytes (4 + byte) (omega arith)) ∙ second_word response in
    same_response (response_in entry) (as_held response)
    (ap (λ (word : ℕ). bits_of word 0 4) second ∙ source_codec response.codec response.unsolicited small)
    first
    (ap (λ (word : ℕ). has_bit word 4) second ∙ source_mark response.codec response.unsolicited small)

-- how many entries are new, of so many that were written
pub new_is : (size place count : ℕ) → place < size → count < size → ((place + count) % size % size + (size - place)) % size ≡ count
new_is size place count below few =
    ap (λ (n : ℕ). (n + (size - place)) % size) (mod-eq_of_lt (mod-lt (place + count) (omega arith)))
    ∙ mod-add-mod (place + count) size (size - place)
    ∙ ap (λ (n : ℕ). n % size) (omega arith)
    ∙ add-mod_left size count
    ∙ mod-eq_of_lt few
