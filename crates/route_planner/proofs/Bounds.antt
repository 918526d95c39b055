-- What tables without a fault say of node identifiers and connection lists.
use Rattle.std.proofs.Common.{◌≡◌, ◌<◌, ◌≤◌, ◌+◌, ◌-◌, ◌||◌, ℕ, Bool, true, false, not, cond, List, [], ◌∷◌, ◌++◌, length, None, refl, sym, ap, subst, ◌∙◌, zero, suc, arith}
use Rattle.std.specs.Prelude.{is_some, slice_get, nat_lt}
use Rattle.std.proofs.lemmas.Bool.{ltb-false}
use Rattle.std.specs.List.{list_all}
use Rattle.codec_graph.specs.declared.raw.RawNode.{RawNode}
use Rattle.codec_graph.specs.declared.raw.RawCodec.{RawCodec}
use Rattle.codec_graph.specs.declared.fault.GraphFault.{GraphFault}
use Rattle.codec_graph.specs.declared.fault.GraphFault.TheVariants.{NoAudioGroup, BadCount, ConnectionOutside, ListTooLong, AmpOffset}
use Rattle.codec_graph.specs.Widget.{node_at, is_widget, is_mixer}
use Rattle.codec_graph.specs.Faults.{fault_if, nodes_faults, node_faults, has_bad_count, has_bad_offset, is_no_audio_group, most_connections}
use Rattle.codec_graph.specs.Cycles.{HasSoundTables}
use Rattle.codec_graph.proofs.Callers.{faultless_left, faultless_right, faultless_test, counted_by}
use Rattle.route_planner.specs.Paths.{list_of}
use Rattle.route_planner.specs.Search.{IsBounded}

-- the widgets end below 128 and are as many as the nodes
ends_below : (codec : RawCodec) → has_bad_count codec ≡ false → codec.first + length codec.nodes ≤ 128
ends_below codec e = let is = counted_by codec e in let ends = is.ends in let many = is.as_many in omega (arith, ends, many)

short_list : (node : RawNode) → nat_lt (most_connections node) (length node.list) ≡ false → length node.list ≤ 64
short_list node e =
    let most : most_connections node ≤ 64 = elim (is_mixer node) as (λ b. cond b 16 64 ≤ 64) [ true ↦ omega arith | false ↦ omega arith ] in
    let short : length node.list ≤ most_connections node = ltb-false (most_connections node) (length node.list) e in
    omega arith

short_lists : (codec : RawCodec) (nid : ℕ) (nodes : List RawNode) → nodes_faults codec nid nodes ≡ [] → (i : ℕ) → length (list_of (slice_get nodes i)) ≤ 64
short_lists codec nid [] e i = omega arith
short_lists codec nid (node ∷ nodes) e zero =
    let here = faultless_left (node_faults codec nid node) (nodes_faults codec (nid + 1) nodes) e in
    let listed = faultless_right (fault_if (not (list_all (is_widget codec) node.list)) (ConnectionOutside nid)) (fault_if (nat_lt (most_connections node) (length node.list)) (ListTooLong nid) ++ fault_if (has_bad_offset node.amp_in || has_bad_offset node.amp_out) (AmpOffset nid)) here in
    let long = faultless_left (fault_if (nat_lt (most_connections node) (length node.list)) (ListTooLong nid)) (fault_if (has_bad_offset node.amp_in || has_bad_offset node.amp_out) (AmpOffset nid)) listed in
    short_list node (faultless_test (nat_lt (most_connections node) (length node.list)) (ListTooLong nid) long)
short_lists codec nid (node ∷ nodes) e (suc i) = short_lists codec (nid + 1) nodes (faultless_right (node_faults codec nid node) (nodes_faults codec (nid + 1) nodes) e) i

abbrev after_count : RawCodec → List GraphFault
after_count codec =
    fault_if (has_bad_offset codec.group_words.amp_in || has_bad_offset codec.group_words.amp_out) (AmpOffset codec.group)
    ++ nodes_faults codec codec.first codec.nodes

abbrev after_group : RawCodec → List GraphFault
after_group codec = fault_if (has_bad_count codec) (BadCount 0) ++ after_count codec

there_within : (nodes : List RawNode) (i : ℕ) → is_some (slice_get nodes i) ≡ true → i < length nodes
there_within [] i e = cc
there_within (node ∷ nodes) zero e = omega arith
there_within (node ∷ nodes) (suc i) e = omega (arith, there_within nodes i e)

node_below : (codec : RawCodec) (nid end : ℕ) → codec.first + length codec.nodes ≤ end → (before : Bool) → before ≡ nat_lt nid codec.first → is_some (node_at codec nid) ≡ true → nid < end
node_below codec nid end fits true e there = cc (ap (λ (b : Bool). is_some (cond b None (slice_get codec.nodes (nid - codec.first)))) e)
node_below codec nid end fits false e there =
    let found = ap (λ (b : Bool). is_some (cond b None (slice_get codec.nodes (nid - codec.first)))) e ∙ there in
    let first : codec.first ≤ nid = ltb-false nid codec.first (sym e) in
    omega (arith, there_within codec.nodes (nid - codec.first) found)

node_short : (codec : RawCodec) (nid : ℕ) → ((i : ℕ) → length (list_of (slice_get codec.nodes i)) ≤ 64) → (before : Bool) → before ≡ nat_lt nid codec.first → length (list_of (node_at codec nid)) ≤ 64
node_short codec nid short before e =
    subst (λ (b : Bool). length (list_of (cond b None (slice_get codec.nodes (nid - codec.first)))) ≤ 64) e (elim before as (λ (b : Bool). length (list_of (cond b None (slice_get codec.nodes (nid - codec.first)))) ≤ 64) [ true ↦ omega arith | false ↦ short (nid - codec.first) ])

pub IsBounded-from_sound : (codec : RawCodec) → HasSoundTables codec → IsBounded codec
IsBounded-from_sound codec sound =
    let rest = faultless_right (fault_if (is_no_audio_group codec) (NoAudioGroup codec.group)) (after_group codec) sound.no_fault in
    let count = faultless_left (fault_if (has_bad_count codec) (BadCount 0)) (after_count codec) rest in
    let words = faultless_right (fault_if (has_bad_count codec) (BadCount 0)) (after_count codec) rest in
    let nodes = faultless_right (fault_if (has_bad_offset codec.group_words.amp_in || has_bad_offset codec.group_words.amp_out) (AmpOffset codec.group)) (nodes_faults codec codec.first codec.nodes) words in
    let end = ends_below codec (faultless_test (has_bad_count codec) (BadCount 0) count) in
    record {
      within = λ nid there. node_below codec nid 128 end (nat_lt nid codec.first) refl there;
      short = λ nid. node_short codec nid (short_lists codec codec.first codec.nodes nodes) (nat_lt nid codec.first) refl;
    }
