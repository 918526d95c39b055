-- A change of one codec among those that stand by address.
use Rattle.std.proofs.Common.{◌≡◌, ◌<◌, ◌+◌, ◌==◌, ℕ, Bool, true, false, List, [], ◌∷◌, map, Some, refl, sym, ap, subst, arith, rules, tests, if◌then◌else◌}
use Rattle.std.specs.Prelude.{All, sum_by}
use Rattle.std.proofs.lemmas.List.Elements.{All-cons, All-head, All-tail}
use Rattle.std.proofs.lemmas.List.Sums.{sum_by-cons}
use Rattle.codec_graph.specs.declared.raw.RawCodec.{RawCodec}
use Rattle.codec_graph.specs.CodecStates.{CodecState}
use Rattle.hda_world.specs.Worlds.{codec_at, with_codec}
use Rattle.hda_world.proofs.Callers.{is_address}
use Rattle.command_engine.specs.Fetchings.{AscendFrom, graph_at, graphs_in}

-- its graph is found among the graphs
pub graph_there : (address : ℕ) (codecs : List CodecState) (codec : CodecState) → codec_at address codecs ≡ Some codec → graph_at address (graphs_in codecs) ≡ Some codec.graph
graph_there address [] codec e = cc
graph_there address (first ∷ codecs) codec e = by (λ e. graph_there address codecs codec e) (first.graph.address == address) e
  where
    by : (codec_at address codecs ≡ Some codec → graph_at address (graphs_in codecs) ≡ Some codec.graph) → (b : Bool) → (if b then Some first else codec_at address codecs) ≡ Some codec → (if b then Some first.graph else graph_at address (graphs_in codecs)) ≡ Some codec.graph
    by later true e = let same : first ≡ codec = cc in ap (λ (c : CodecState). Some c.graph) same
    by later false e = later e

graph_is : (graph : RawCodec) (address : ℕ) → (graph.address == address) ≡ true → graph.address ≡ address
graph_is graph address is = search (rules, tests)

-- the graph that is found has the address
pub graph_address : (address : ℕ) (graphs : List RawCodec) (graph : RawCodec) → graph_at address graphs ≡ Some graph → graph.address ≡ address
graph_address address [] graph e = cc
graph_address address (first ∷ graphs) graph e = by (λ e. graph_address address graphs graph e) (first.address == address) refl e
  where
    by : (graph_at address graphs ≡ Some graph → graph.address ≡ address) → (b : Bool) → (first.address == address) ≡ b → (if b then Some first else graph_at address graphs) ≡ Some graph → graph.address ≡ address
    by later true is e =
        let same : first ≡ graph = cc in
        subst (λ (g : RawCodec). g.address ≡ address) same (graph_is first address is)
    by later false is e = later e

-- nor one of an address below all
past : (address from : ℕ) (change : CodecState → CodecState) (codecs : List CodecState) → AscendFrom from (map (λ (codec : CodecState). codec.graph) codecs) → address < from → with_codec address change codecs ≡ codecs
past address from change [] ascend less = refl
past address from change (first ∷ codecs) ascend less = by (λ less. past address (first.graph.address + 1) change codecs ascend.2 less) (first.graph.address == address) refl
  where
    by : (address < first.graph.address + 1 → with_codec address change codecs ≡ codecs) → (b : Bool) → (first.graph.address == address) ≡ b → (if b then change first else first) ∷ with_codec address change codecs ≡ first ∷ codecs
    by later true is =
        let same = is_address first address is in
        let above = ascend.0 in
        absurd (omega arith)
    by later false is =
        let above = ascend.0 in
        ap (λ (rest : List CodecState). first ∷ rest) (later (omega arith))

-- what all codecs have and the changed one, all have after the change
pub changed_all : (P : CodecState → Type 0) (address from : ℕ) (change : CodecState → CodecState) (codecs : List CodecState) (codec : CodecState)
    → AscendFrom from (map (λ (codec : CodecState). codec.graph) codecs) → codec_at address codecs ≡ Some codec → All P codecs → P (change codec) → All P (with_codec address change codecs)
changed_all P address from change [] codec ascend e all is = cc
changed_all P address from change (first ∷ codecs) codec ascend e all is =
    by (λ e. changed_all P address (first.graph.address + 1) change codecs codec ascend.2 e (All-tail P first codecs all) is) (first.graph.address == address) refl e
  where
    by : (codec_at address codecs ≡ Some codec → All P (with_codec address change codecs)) → (b : Bool) → (first.graph.address == address) ≡ b → (if b then Some first else codec_at address codecs) ≡ Some codec → All P ((if b then change first else first) ∷ with_codec address change codecs)
    by later true there e =
        let same : codec ≡ first = cc in
        let at = is_address first address there in
        let rest = past address (first.graph.address + 1) change codecs ascend.2 (omega arith) in
        All-cons P (change first) (with_codec address change codecs) (subst (λ (c : CodecState). P (change c)) same is)
        (subst (λ (cs : List CodecState). All P cs) (sym rest) (All-tail P first codecs all))
    by later false there e = All-cons P first (with_codec address change codecs) (All-head P first codecs all) (later e)

-- a sum over codecs changes by what the changed one's part does
pub changed_sum : (f : CodecState → ℕ) (address from : ℕ) (change : CodecState → CodecState) (codecs : List CodecState) (codec : CodecState)
    → AscendFrom from (map (λ (codec : CodecState). codec.graph) codecs) → codec_at address codecs ≡ Some codec → sum_by f (with_codec address change codecs) + f codec ≡ sum_by f codecs + f (change codec)
changed_sum f address from change [] codec ascend e = cc
changed_sum f address from change (first ∷ codecs) codec ascend e =
    by (λ e. changed_sum f address (first.graph.address + 1) change codecs codec ascend.2 e) (first.graph.address == address) refl e
  where
    by : (codec_at address codecs ≡ Some codec → sum_by f (with_codec address change codecs) + f codec ≡ sum_by f codecs + f (change codec)) → (b : Bool) → (first.graph.address == address) ≡ b → (if b then Some first else codec_at address codecs) ≡ Some codec
        → sum_by f ((if b then change first else first) ∷ with_codec address change codecs) + f codec ≡ sum_by f (first ∷ codecs) + f (change codec)
    by later true there e =
        let same : first ≡ codec = cc in
        let at = is_address first address there in
        let rest = ap (sum_by f) (past address (first.graph.address + 1) change codecs ascend.2 (omega arith)) in
        let new = sum_by-cons f (change first) (with_codec address change codecs) in
        let old = sum_by-cons f first codecs in
        subst (λ (c : CodecState). sum_by f (change first ∷ with_codec address change codecs) + f c ≡ sum_by f (first ∷ codecs) + f (change c)) same (omega arith)
    by later false there e =
        let rest = later e in
        let new = sum_by-cons f first (with_codec address change codecs) in
        let old = sum_by-cons f first codecs in
        omega arith
