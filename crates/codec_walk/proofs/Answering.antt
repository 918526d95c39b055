-- What a well-formed graph answers to the commands of its walk.
use Rattle.std.proofs.Common.{◌≡◌, ◌≤◌, ◌+◌, ◌*◌, ◌/◌, ◌%◌, ◌^◌, ◌-◌, ◌==◌, ℕ, Bool, true, false, cond, List, length, Option, refl, sym, ap, ◌∙◌, arith}
use Rattle.std.proofs.lemmas.Bool.Decides.{nat_tests}
use Rattle.codec_graph.specs.declared.raw.RawNode.{RawNode}
use Rattle.codec_graph.specs.declared.raw.RawCodec.{RawCodec}
use Rattle.codec_graph.specs.Widget.{node_at, kept_word}
use Rattle.codec_graph.specs.Settings.{Entries, setting_of}
use Rattle.codec_graph.specs.declared.controls.Control.TheVariants as control
use Rattle.codec_graph.specs.VerbMeaning.{root_parameter, group_parameter, widget_parameter, known_parameter, list_length, list_word, node_list_word, answer_of}
use Rattle.verb_codes.specs.declared.verbs.Verb.TheVariants.{GetDefault}
use Rattle.verb_codes.specs.declared.parameters.Parameter.{Parameter}
use Rattle.verb_codes.specs.declared.parameters.Parameter.TheVariants.{Vendor, Revision, Nodes, GroupType, WidgetCapabilities, PcmSizesAndRates, StreamFormats, PinCapabilities, InputAmplifier, ListLength, PowerStates, OutputAmplifier}
use Rattle.verb_codes.specs.Lists.{entries_per_word}
use Rattle.codec_graph.proofs.Callers.{IsCounted}
use Rattle.codec_walk.specs.declared.words.CodecWord.{CodecWord}
use Rattle.codec_walk.specs.declared.words.CodecWord.TheVariants as codec_word
use Rattle.codec_walk.specs.declared.words.NodeWord.{NodeWord}
use Rattle.codec_walk.specs.declared.words.NodeWord.TheVariants as node_word
use Rattle.codec_walk.specs.Words.{command_to, parameter_command, list_command, codec_command, applies, word_command, entries_told, is_long}
use Rattle.codec_walk.specs.Replies.{CanAnswer}
use Rattle.codec_walk.proofs.Counted.{IsWidgetAt}

parameter_answer : (graph : RawCodec) (settings : Entries) (present : List Bool) (address nid : ℕ) (wanted : Parameter)
    → answer_of graph settings present (parameter_command address nid wanted) ≡ known_parameter graph nid wanted
unfolding answer_of
parameter_answer graph settings present address nid Vendor = refl
parameter_answer graph settings present address nid Revision = refl
parameter_answer graph settings present address nid Nodes = refl
parameter_answer graph settings present address nid GroupType = refl
parameter_answer graph settings present address nid WidgetCapabilities = refl
parameter_answer graph settings present address nid PcmSizesAndRates = refl
parameter_answer graph settings present address nid StreamFormats = refl
parameter_answer graph settings present address nid PinCapabilities = refl
parameter_answer graph settings present address nid InputAmplifier = refl
parameter_answer graph settings present address nid ListLength = refl
parameter_answer graph settings present address nid PowerStates = refl
parameter_answer graph settings present address nid OutputAmplifier = refl

module _ (graph : RawCodec) where
  -- a node answers a parameter with its word
  can_parameter : (address nid : ℕ) (wanted : Parameter) (answer value : ℕ) → CanAnswer graph (parameter_command address nid wanted) answer
      → known_parameter graph nid wanted ≡ value → answer ≡ value
  can_parameter address nid wanted answer value can is =
      can.is_answer ∙ parameter_answer graph can.settings can.present address nid wanted ∙ is

  root_known : (wanted : Parameter) → known_parameter graph 0 wanted ≡ root_parameter graph wanted
  root_known wanted = refl

  group_known : IsCounted graph → (wanted : Parameter) → known_parameter graph graph.group wanted ≡ group_parameter graph wanted
  group_known counts wanted =
      let h = counts.has_group in
      let no_root : (graph.group == 0) ≡ false = grind (arith, nat_tests) in
      let same : (graph.group == graph.group) ≡ true = grind (arith, nat_tests) in
      rw (no_root, same) refl

  abbrev pub codec_value : CodecWord → ℕ
  codec_value codec_word.Vendor = graph.vendor
  codec_value codec_word.Revision = graph.revision
  codec_value codec_word.Groups = graph.group * 2 ^ 16 + 1
  codec_value codec_word.GroupType = graph.group_type
  codec_value codec_word.Widgets = graph.first * 2 ^ 16 + graph.count
  codec_value codec_word.GroupPcm = graph.group_words.pcm
  codec_value codec_word.GroupFormats = graph.group_words.formats
  codec_value codec_word.GroupAmpIn = graph.group_words.amp_in
  codec_value codec_word.GroupAmpOut = graph.group_words.amp_out
  codec_value codec_word.GroupPower = graph.group_words.power

  pub codec_answer : IsCounted graph → (word : CodecWord) (answer : ℕ) → CanAnswer graph (codec_command graph word) answer → answer ≡ codec_value word
  codec_answer counts codec_word.Vendor answer can = can_parameter graph.address 0 Vendor answer _ can (root_known Vendor)
  codec_answer counts codec_word.Revision answer can = can_parameter graph.address 0 Revision answer _ can (root_known Revision)
  codec_answer counts codec_word.Groups answer can = can_parameter graph.address 0 Nodes answer _ can (root_known Nodes)
  codec_answer counts codec_word.GroupType answer can = can_parameter graph.address graph.group GroupType answer _ can (group_known counts GroupType)
  codec_answer counts codec_word.Widgets answer can = can_parameter graph.address graph.group Nodes answer _ can (group_known counts Nodes)
  codec_answer counts codec_word.GroupPcm answer can = can_parameter graph.address graph.group PcmSizesAndRates answer _ can (group_known counts PcmSizesAndRates)
  codec_answer counts codec_word.GroupFormats answer can = can_parameter graph.address graph.group StreamFormats answer _ can (group_known counts StreamFormats)
  codec_answer counts codec_word.GroupAmpIn answer can = can_parameter graph.address graph.group InputAmplifier answer _ can (group_known counts InputAmplifier)
  codec_answer counts codec_word.GroupAmpOut answer can = can_parameter graph.address graph.group OutputAmplifier answer _ can (group_known counts OutputAmplifier)
  codec_answer counts codec_word.GroupPower answer can = can_parameter graph.address graph.group PowerStates answer _ can (group_known counts PowerStates)

  -- ---- a widget

  module _ (nid : ℕ) (node : RawNode) (at : IsWidgetAt graph nid node) where
    widget_known : (wanted : Parameter) → known_parameter graph nid wanted ≡ widget_parameter node wanted
    widget_known wanted = rw (at.no_root, at.no_group, at.there) refl

    pub widget_answer : (wanted : Parameter) (answer : ℕ) → CanAnswer graph (parameter_command graph.address nid wanted) answer → answer ≡ widget_parameter node wanted
    widget_answer wanted answer can = can_parameter graph.address nid wanted answer _ can (widget_known wanted)

    abbrev pub field : NodeWord → ℕ
    field node_word.Pcm = node.pcm
    field node_word.Formats = node.formats
    field node_word.PinCaps = node.pin_caps
    field node_word.Default = node.default
    field node_word.AmpIn = node.amp_in
    field node_word.AmpOut = node.amp_out

    default_answer : (settings : Entries) (present : List Bool) → answer_of graph settings present (command_to graph.address nid GetDefault) ≡ setting_of settings nid control.Default
    unfolding answer_of
    default_answer settings present = refl

    pub word_answer : (word : NodeWord) → applies node word ≡ true → (answer : ℕ) → CanAnswer graph (word_command graph.address nid word) answer → answer ≡ field word
    word_answer node_word.Pcm applied answer can = widget_answer PcmSizesAndRates answer can
    word_answer node_word.Formats applied answer can = widget_answer StreamFormats answer can
    word_answer node_word.PinCaps applied answer can = widget_answer PinCapabilities answer can
    word_answer node_word.Default applied answer can = can.is_answer ∙ default_answer can.settings can.present ∙ can.defaults nid node at.there applied
    word_answer node_word.AmpIn applied answer can = widget_answer InputAmplifier answer can
    word_answer node_word.AmpOut applied answer can = widget_answer OutputAmplifier answer can

    kept : (word : NodeWord) → kept_word (applies node word) (field word) ≡ field word
    kept node_word.Pcm = ap (λ (n : RawNode). n.pcm) at.is_normal
    kept node_word.Formats = ap (λ (n : RawNode). n.formats) at.is_normal
    kept node_word.PinCaps = ap (λ (n : RawNode). n.pin_caps) at.is_normal
    kept node_word.Default = ap (λ (n : RawNode). n.default) at.is_normal
    kept node_word.AmpIn = ap (λ (n : RawNode). n.amp_in) at.is_normal
    kept node_word.AmpOut = ap (λ (n : RawNode). n.amp_out) at.is_normal

    -- a word that does not apply is 0
    pub no_word : (word : NodeWord) → applies node word ≡ false → field word ≡ 0
    no_word word applied = sym (kept word) ∙ ap (λ b. kept_word b (field word)) applied

    list_answer : (settings : Entries) (present : List Bool) (place : ℕ) → answer_of graph settings present (list_command graph.address nid place) ≡ node_list_word (node_at graph nid) place
    unfolding answer_of
    list_answer settings present place = refl

    on_place : (long : Bool) (word : ℕ) → word * entries_per_word long - word * entries_per_word long % entries_per_word long ≡ word * entries_per_word long
    on_place true word = omega arith
    on_place false word = omega arith

    pub entries_answer : (word answer : ℕ) → CanAnswer graph (list_command graph.address nid (word * entries_per_word node.long)) answer
        → answer ≡ list_word node.long node.entries (word * entries_per_word node.long)
    entries_answer word answer can =
        let place = word * entries_per_word node.long in
        can.is_answer ∙ list_answer can.settings can.present place ∙ ap (λ (o : Option RawNode). node_list_word o place) at.there
        ∙ ap (λ (p : ℕ). list_word node.long node.entries p) (on_place node.long word)

    length_long : (long : Bool) (entries : ℕ) → entries ≤ 127 → is_long (entries + cond long (2 ^ 7) 0) ≡ long
    length_long true entries few = let e : (entries + 128) / 128 % 2 ≡ 1 = omega arith in rw e refl
    length_long false entries few = let e : (entries + 0) / 128 % 2 ≡ 0 = omega arith in rw e refl

    length_entries : (long : Bool) (entries : ℕ) → entries ≤ 127 → entries_told (entries + cond long (2 ^ 7) 0) ≡ entries
    length_entries true entries few = omega arith
    length_entries false entries few = omega arith

    pub told_long : is_long (list_length node) ≡ node.long
    told_long = length_long node.long (length node.entries) at.readable.few

    pub told_entries : entries_told (list_length node) ≡ length node.entries
    told_entries = length_entries node.long (length node.entries) at.readable.few
