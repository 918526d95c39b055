-- Node identifiers of a well-formed graph.
use Rattle.std.proofs.Common.{◌≡◌, ◌<◌, ◌≤◌, ◌==◌, ℕ, Bool, true, false, List, [], ◌∷◌, ◌++◌, Some, None, inl, inr, refl, sym, ◌∙◌, arith}
use Rattle.std.proofs.lemmas.Bool.{cases_lt}
use Rattle.std.proofs.lemmas.Bool.Decides.{nat_tests}
use Rattle.std.proofs.lemmas.Option.{none-some}
use Rattle.codec_graph.specs.declared.raw.RawNode.{RawNode}
use Rattle.codec_graph.specs.declared.raw.RawCodec.{RawCodec}
use Rattle.codec_graph.specs.declared.fault.GraphFault.{GraphFault}
use Rattle.codec_graph.specs.declared.fault.GraphFault.TheVariants.{NoAudioGroup, BadCount}
use Rattle.codec_graph.specs.Widget.{node_at}
use Rattle.codec_graph.specs.Faults.{fault_if, is_no_audio_group, has_bad_count}
use Rattle.codec_graph.specs.Cycles.{IsWellFormed}
use Rattle.codec_graph.proofs.Tables.{IsCounted, counted_by, node_at-past}

pub faultless_left : (xs ys : List GraphFault) → xs ++ ys ≡ [] → xs ≡ []
faultless_left [] ys e = refl
faultless_left (x ∷ xs) ys e = cc

pub faultless_right : (xs ys : List GraphFault) → xs ++ ys ≡ [] → ys ≡ []
faultless_right [] ys e = e
faultless_right (x ∷ xs) ys e = cc

pub faultless_test : (holds : Bool) (fault : GraphFault) → fault_if holds fault ≡ [] → holds ≡ false
faultless_test true fault e = cc
faultless_test false fault e = refl

-- the count of a well-formed graph is good
pub good_count : (codec : RawCodec) → IsWellFormed codec → has_bad_count codec ≡ false
good_count codec well =
    let rest = faultless_right (fault_if (is_no_audio_group codec) (NoAudioGroup codec.group)) _ well.tables.no_fault in
    faultless_test (has_bad_count codec) (BadCount 0) (faultless_left (fault_if (has_bad_count codec) (BadCount 0)) _ rest)

-- where the widgets and the group of a well-formed graph are
pub counted : (codec : RawCodec) → IsWellFormed codec → IsCounted codec
counted codec well = counted_by codec (good_count codec well)

-- no widget of a well-formed graph has a node identifier above 7Fh
pub node_at-high : (codec : RawCodec) (nid : ℕ) → IsWellFormed codec → 128 ≤ nid → node_at codec nid ≡ None
node_at-high codec nid well high = node_at-past codec (counted codec well) nid high

pub node_below : (codec : RawCodec) (nid : ℕ) (node : RawNode) → IsWellFormed codec → node_at codec nid ≡ Some node → nid < 128
node_below codec nid node well there = elim (cases_lt nid 128) [
  | inl below ↦ below
  | inr high ↦ absurd (none-some node (sym (node_at-high codec nid well high) ∙ there))
]

-- nor has the function group
pub group_below : (codec : RawCodec) (nid : ℕ) → IsWellFormed codec → (nid == codec.group) ≡ true → nid < 128
group_below codec nid well is =
    let low = (counted codec well).group_below in
    grind (arith, nat_tests)
