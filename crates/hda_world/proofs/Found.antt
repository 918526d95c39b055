-- A codec among those that stand by address.
use Rattle.std.proofs.Common.{◌≡◌, ◌==◌, ℕ, Bool, true, false, List, [], ◌∷◌, None, Some, refl, ap, subst, rules, tests, if◌then◌else◌}
use Rattle.std.specs.Prelude.{All}
use Rattle.std.proofs.lemmas.List.Elements.{All-head, All-tail}
use Rattle.codec_graph.specs.CodecStates.{CodecState}
use Rattle.hda_world.specs.Worlds.{codec_at, with_codec}

pub is_address : (codec : CodecState) (address : ℕ) → (codec.graph.address == address) ≡ true → codec.graph.address ≡ address
is_address codec address is = search (rules, tests)

-- the codec that is found has the address
pub found_address : (address : ℕ) (codecs : List CodecState) (codec : CodecState) → codec_at address codecs ≡ Some codec → codec.graph.address ≡ address
found_address address [] codec e = cc
found_address address (first ∷ codecs) codec e = by (λ e. found_address address codecs codec e) (first.graph.address == address) refl e
  where
    by : (codec_at address codecs ≡ Some codec → codec.graph.address ≡ address) → (b : Bool) → (first.graph.address == address) ≡ b → (if b then Some first else codec_at address codecs) ≡ Some codec → codec.graph.address ≡ address
    by later true is e =
        let same : first ≡ codec = cc in
        subst (λ (c : CodecState). c.graph.address ≡ address) same (is_address first address is)
    by later false is e = later e

-- it has what all have
pub found_all : (P : CodecState → Type 0) (address : ℕ) (codecs : List CodecState) (codec : CodecState) → codec_at address codecs ≡ Some codec → All P codecs → P codec
found_all P address [] codec e all = cc
found_all P address (first ∷ codecs) codec e all = by (λ e. found_all P address codecs codec e (All-tail P first codecs all)) (first.graph.address == address) e
  where
    by : (codec_at address codecs ≡ Some codec → P codec) → (b : Bool) → (if b then Some first else codec_at address codecs) ≡ Some codec → P codec
    by later true e = let same : first ≡ codec = cc in subst P same (All-head P first codecs all)
    by later false e = later e

-- a change where no codec has the address changes nothing
pub absent : (address : ℕ) (change : CodecState → CodecState) (codecs : List CodecState) → codec_at address codecs ≡ None → with_codec address change codecs ≡ codecs
absent address change [] e = refl
absent address change (first ∷ codecs) e = by (λ e. absent address change codecs e) (first.graph.address == address) e
  where
    by : (codec_at address codecs ≡ None → with_codec address change codecs ≡ codecs) → (b : Bool) → (if b then Some first else codec_at address codecs) ≡ None → (if b then change first else first) ∷ with_codec address change codecs ≡ first ∷ codecs
    by later true e = cc
    by later false e = ap (λ (rest : List CodecState). first ∷ rest) (later e)
