-- What tables without a fault say of each widget: its inputs, its amplifiers, and that the function group is none.
use Rattle.std.proofs.Common.{◌≡◌, ◌<◌, ◌≤◌, ◌+◌, ◌-◌, ◌&&◌, ◌||◌, ℕ, zero, suc, Bool, true, false, not, cond, List, [], ◌∷◌, ◌++◌, length, Some, None, refl, sym, subst, ◌∙◌, arith}
use Rattle.std.specs.Prelude.{slice_get, nat_lt, nat_le}
use Rattle.std.specs.List.{list_all}
use Rattle.std.proofs.lemmas.Bool.{ltb-false, true≢false, or_parts}
use Rattle.std.proofs.lemmas.Bool.Decides.{nat_tests}
use Rattle.std.proofs.lemmas.Option.{none-some}
use Rattle.codec_graph.specs.declared.raw.RawNode.{RawNode}
use Rattle.codec_graph.specs.declared.raw.RawCodec.{RawCodec}
use Rattle.codec_graph.specs.declared.fault.GraphFault.{GraphFault}
use Rattle.codec_graph.specs.declared.fault.GraphFault.TheVariants.{NoAudioGroup, BadCount, ConnectionOutside, ListTooLong, AmpOffset}
use Rattle.codec_graph.specs.Widget.{node_at, is_widget, is_mixer, overrides_amplifiers, input_amplifier_word, output_amplifier_word, amplifier_offset, amplifier_steps}
use Rattle.codec_graph.specs.Faults.{fault_if, nodes_faults, node_faults, has_bad_count, has_bad_offset, is_no_audio_group, most_connections}
use Rattle.codec_graph.specs.Cycles.{IsWellFormed}
use Rattle.codec_graph.proofs.Callers.{faultless_left, faultless_right, faultless_test, IsCounted, counted}

offset_fits : (word : ℕ) → has_bad_offset word ≡ false → amplifier_offset word ≤ amplifier_steps word
offset_fits word e = ltb-false (amplifier_steps word) (amplifier_offset word) e

-- a widget without a fault
pub record IsFaultless (node : RawNode) : Type 0 where
  pub inputs : is_mixer node ≡ true → length node.list ≤ 16
  pub amp_in : amplifier_offset node.amp_in ≤ amplifier_steps node.amp_in
  pub amp_out : amplifier_offset node.amp_out ≤ amplifier_steps node.amp_out

few_inputs : (mixer : Bool) (n : ℕ) → nat_lt (cond mixer 16 64) n ≡ false → mixer ≡ true → n ≤ 16
few_inputs true n e is = ltb-false 16 n e
few_inputs false n e is = cc

faultless : (codec : RawCodec) (nid : ℕ) (node : RawNode) → node_faults codec nid node ≡ [] → IsFaultless node
faultless codec nid node e =
    let rest = faultless_right (fault_if (not (list_all (is_widget codec) node.list)) (ConnectionOutside nid)) (fault_if (nat_lt (most_connections node) (length node.list)) (ListTooLong nid) ++ fault_if (has_bad_offset node.amp_in || has_bad_offset node.amp_out) (AmpOffset nid)) e in
    let long = faultless_left (fault_if (nat_lt (most_connections node) (length node.list)) (ListTooLong nid)) (fault_if (has_bad_offset node.amp_in || has_bad_offset node.amp_out) (AmpOffset nid)) rest in
    let amps = faultless_test (has_bad_offset node.amp_in || has_bad_offset node.amp_out) (AmpOffset nid) (faultless_right (fault_if (nat_lt (most_connections node) (length node.list)) (ListTooLong nid)) (fault_if (has_bad_offset node.amp_in || has_bad_offset node.amp_out) (AmpOffset nid)) rest) in
    record {
      inputs = few_inputs (is_mixer node) (length node.list) (faultless_test (nat_lt (most_connections node) (length node.list)) (ListTooLong nid) long);
      amp_in = offset_fits node.amp_in ((or_parts (has_bad_offset node.amp_in) (has_bad_offset node.amp_out) amps).0);
      amp_out = offset_fits node.amp_out ((or_parts (has_bad_offset node.amp_in) (has_bad_offset node.amp_out) amps).1);
    }

faultless_nodes : (codec : RawCodec) (nid : ℕ) (nodes : List RawNode) → nodes_faults codec nid nodes ≡ [] → (i : ℕ) (node : RawNode) → slice_get nodes i ≡ Some node → IsFaultless node
faultless_nodes codec nid [] e i node there = absurd (none-some node there)
faultless_nodes codec nid (first ∷ nodes) e zero node there =
    let same : first ≡ node = cc in
    subst IsFaultless same (faultless codec nid first (faultless_left (node_faults codec nid first) (nodes_faults codec (nid + 1) nodes) e))
faultless_nodes codec nid (first ∷ nodes) e (suc i) node there =
    faultless_nodes codec (nid + 1) nodes (faultless_right (node_faults codec nid first) (nodes_faults codec (nid + 1) nodes) e) i node there

abbrev after_count : RawCodec → List GraphFault
after_count codec =
    fault_if (has_bad_offset codec.group_words.amp_in || has_bad_offset codec.group_words.amp_out) (AmpOffset codec.group)
    ++ nodes_faults codec codec.first codec.nodes

abbrev after_group : RawCodec → List GraphFault
after_group codec = fault_if (has_bad_count codec) (BadCount 0) ++ after_count codec

rest_of : (codec : RawCodec) → IsWellFormed codec → after_group codec ≡ []
rest_of codec well = faultless_right (fault_if (is_no_audio_group codec) (NoAudioGroup codec.group)) (after_group codec) well.tables.no_fault

count_faults : (codec : RawCodec) → IsWellFormed codec → after_count codec ≡ []
count_faults codec well = faultless_right (fault_if (has_bad_count codec) (BadCount 0)) (after_count codec) (rest_of codec well)

pub faultless_at : (codec : RawCodec) (nid : ℕ) (node : RawNode) → IsWellFormed codec → node_at codec nid ≡ Some node → IsFaultless node
faultless_at codec nid node well there = by (nat_lt nid codec.first) there
  where
    nodes : nodes_faults codec codec.first codec.nodes ≡ []
    nodes = faultless_right (fault_if (has_bad_offset codec.group_words.amp_in || has_bad_offset codec.group_words.amp_out) (AmpOffset codec.group)) (nodes_faults codec codec.first codec.nodes) (count_faults codec well)

    by : (b : Bool) → cond b None (slice_get codec.nodes (nid - codec.first)) ≡ Some node → IsFaultless node
    by true e = absurd (none-some node e)
    by false e = faultless_nodes codec codec.first codec.nodes nodes (nid - codec.first) node e

group_offsets : (codec : RawCodec) → IsWellFormed codec → (has_bad_offset codec.group_words.amp_in || has_bad_offset codec.group_words.amp_out) ≡ false
group_offsets codec well =
    faultless_test (has_bad_offset codec.group_words.amp_in || has_bad_offset codec.group_words.amp_out) (AmpOffset codec.group)
    (faultless_left (fault_if (has_bad_offset codec.group_words.amp_in || has_bad_offset codec.group_words.amp_out) (AmpOffset codec.group)) (nodes_faults codec codec.first codec.nodes) (count_faults codec well))

by_own : (P : ℕ → Type 0) (own : Bool) (here group : ℕ) → P here → P group → P (cond own here group)
by_own P true here group h g = h
by_own P false here group h g = g

-- the 0 dB step of an amplifier is one of its steps
pub input_offset : (codec : RawCodec) (nid : ℕ) (node : RawNode) → IsWellFormed codec → node_at codec nid ≡ Some node → amplifier_offset (input_amplifier_word codec node) ≤ amplifier_steps (input_amplifier_word codec node)
input_offset codec nid node well there =
    by_own (λ w. amplifier_offset w ≤ amplifier_steps w) (overrides_amplifiers node) node.amp_in codec.group_words.amp_in (faultless_at codec nid node well there).amp_in
    (offset_fits codec.group_words.amp_in ((or_parts (has_bad_offset codec.group_words.amp_in) (has_bad_offset codec.group_words.amp_out) (group_offsets codec well)).0))

pub output_offset : (codec : RawCodec) (nid : ℕ) (node : RawNode) → IsWellFormed codec → node_at codec nid ≡ Some node → amplifier_offset (output_amplifier_word codec node) ≤ amplifier_steps (output_amplifier_word codec node)
output_offset codec nid node well there =
    by_own (λ w. amplifier_offset w ≤ amplifier_steps w) (overrides_amplifiers node) node.amp_out codec.group_words.amp_out (faultless_at codec nid node well there).amp_out
    (offset_fits codec.group_words.amp_out ((or_parts (has_bad_offset codec.group_words.amp_in) (has_bad_offset codec.group_words.amp_out) (group_offsets codec well)).1))

within_of : (nodes : List RawNode) (i : ℕ) (node : RawNode) → slice_get nodes i ≡ Some node → i < length nodes
within_of [] i node e = absurd (none-some node e)
within_of (first ∷ nodes) zero node e = omega arith
within_of (first ∷ nodes) (suc i) node e = omega (arith, within_of nodes i node e)

-- a widget's node identifier is neither 0 nor the group's
pub record IsApart (codec : RawCodec) (nid : ℕ) : Type 0 where
  pub some : 1 ≤ nid
  pub other : nid ≡ codec.group → ⊥

pub apart_at : (codec : RawCodec) (nid : ℕ) (node : RawNode) → IsWellFormed codec → node_at codec nid ≡ Some node → IsApart codec nid
apart_at codec nid node well there = by (nat_lt nid codec.first) refl there
  where
    p : IsCounted codec
    p = counted codec well

    by : (b : Bool) → nat_lt nid codec.first ≡ b → cond b None (slice_get codec.nodes (nid - codec.first)) ≡ Some node → IsApart codec nid
    by true t e = absurd (none-some node e)
    by false t e =
        let low : codec.first ≤ nid = ltb-false nid codec.first t in
        let within : nid - codec.first < length codec.nodes = within_of codec.nodes (nid - codec.first) node e in
        let high : nid < codec.first + codec.count = omega (arith, p.as_many) in
        record {
          some = omega (arith, p.begins);
          other = λ same.
              let apart = p.group_apart in
              let inside : is_widget codec codec.group ≡ true = rw (← same) (both low high) in
              absurd (true≢false (sym inside ∙ apart));
        }
      where
        both : codec.first ≤ nid → nid < codec.first + codec.count → (nat_le codec.first nid && nat_lt nid (codec.first + codec.count)) ≡ true
        both low high = grind (arith, nat_tests)
