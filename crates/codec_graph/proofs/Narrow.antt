-- Answers have 32 bits.
use Rattle.std.proofs.Common.{◌≡◌, ◌<◌, ◌+◌, ◌-◌, ◌%◌, ◌^◌, ◌==◌, ◌&&◌, ℕ, Bool, true, false, cond, List, length, get_or, Option, Some, None, inl, inr, refl, subst, arith, lit<}
use Rattle.std.specs.Prelude.{All, slice_get, nat_lt}
use Rattle.std.proofs.lemmas.Bool.{cases_lt}
use Rattle.std.proofs.lemmas.List.{get_or_past}
use Rattle.std.proofs.lemmas.List.Elements.{All-get_or}
use Rattle.std.proofs.lemmas.Option.{get_or_from_slice_get, slice_get_within, none-some}
use Rattle.codec_graph.specs.declared.raw.RawNode.{RawNode}
use Rattle.codec_graph.specs.declared.raw.RawCodec.{RawCodec}
use Rattle.codec_graph.specs.declared.controls.Control.TheVariants.{Select, Stream, Pin, Unsol, Eapd, Digital, Default, Format}
use Rattle.codec_graph.specs.Widget.{node_at}
use Rattle.codec_graph.specs.Listed.{HasReadableList}
use Rattle.codec_graph.specs.Widths.{HasNodeWords}
use Rattle.codec_graph.specs.Cycles.{IsWellFormed}
use Rattle.codec_graph.specs.Settings.{Entries, detects_presence, IsSettingsOf}
use Rattle.codec_graph.specs.VerbMeaning.{root_parameter, group_parameter, list_length, widget_parameter, node_parameter, numbered_parameter, parameter_at, list_word, node_list_word, node_sense, is_present, side_control, verb_answer, answer_of}
use Rattle.codec_graph.proofs.Openings.{power_below}
use Rattle.codec_graph.proofs.Writes.{narrow_of}
use Rattle.verb_codes.specs.declared.verbs.Command.{Command}
use Rattle.verb_codes.specs.declared.verbs.Verb.{Verb}
use Rattle.verb_codes.specs.declared.verbs.Verb.TheVariants.{GetParam, GetSelect, SetSelect, GetList, GetPower, SetPower, GetStream, SetStream, GetPin, SetPin, GetUnsol, SetUnsol, GetSense, GetEapd, SetEapd, GetDigital, SetDigital, GetDefault, SetDefault, GetFormat, SetFormat, GetAmp, SetAmp}
use Rattle.verb_codes.specs.declared.parameters.Parameter.{Parameter}
use Rattle.verb_codes.specs.declared.parameters.Parameter.TheVariants.{Vendor, Revision, Nodes, GroupType, WidgetCapabilities, PcmSizesAndRates, StreamFormats, PinCapabilities, InputAmplifier, ListLength, PowerStates, OutputAmplifier}
use Rattle.verb_codes.specs.Amplifiers as amplifiers
use Rattle.verb_codes.specs.Lists.{entry_width, entries_per_word}
use Rattle.verb_codes.specs.Parameters.{parameter_of}

-- a fact of all widgets is one of the widget with a node identifier
node_all : (P : RawNode → Type 0) (codec : RawCodec) (nid : ℕ) (node : RawNode) → All P codec.nodes → node_at codec nid ≡ Some node → P node
node_all P codec nid node all there = by (nat_lt nid codec.first) there
  where
    by : (b : Bool) → cond b None (slice_get codec.nodes (nid - codec.first)) ≡ Some node → P node
    by true e = absurd (none-some node e)
    by false e =
        subst P (get_or_from_slice_get codec.nodes (nid - codec.first) node node e)
        (All-get_or P codec.nodes (nid - codec.first) node (slice_get_within codec.nodes (nid - codec.first) node e) all)

pub readable_at : (codec : RawCodec) (nid : ℕ) (node : RawNode) → IsWellFormed codec → node_at codec nid ≡ Some node → HasReadableList node
readable_at codec nid node well there = node_all HasReadableList codec nid node well.lists there

pub words_at : (codec : RawCodec) (nid : ℕ) (node : RawNode) → IsWellFormed codec → node_at codec nid ≡ Some node → HasNodeWords node
words_at codec nid node well there = node_all HasNodeWords codec nid node well.words.nodes there

-- an entry, or the 0 past the end, is narrow where all entries are
pub entry_narrow : (entries : List ℕ) (place bound : ℕ) → 0 < bound → All (λ entry. entry < bound) entries → get_or entries place 0 < bound
entry_narrow entries place bound some all = elim (cases_lt place (length entries)) as (λ _. get_or entries place 0 < bound) [
  | inl within ↦ All-get_or (λ entry. entry < bound) entries place 0 within all
  | inr past ↦ let e = get_or_past entries place 0 past in rw e some
]

list_word-narrow : (long : Bool) (entries : List ℕ) (place : ℕ) → All (λ entry. entry < 2 ^ entry_width long) entries → list_word long entries place < 2 ^ 32
list_word-narrow true entries place all =
    let a = entry_narrow entries place (2 ^ 16) (lit< tt) all in
    let b = entry_narrow entries (place + 1) (2 ^ 16) (lit< tt) all in
    omega arith
list_word-narrow false entries place all =
    let a = entry_narrow entries place (2 ^ 8) (lit< tt) all in
    let b = entry_narrow entries (place + 1) (2 ^ 8) (lit< tt) all in
    let c = entry_narrow entries (place + 2) (2 ^ 8) (lit< tt) all in
    let d = entry_narrow entries (place + 3) (2 ^ 8) (lit< tt) all in
    omega arith

module _ (codec : RawCodec) (well : IsWellFormed codec) where
  root_narrow : (parameter : Parameter) → root_parameter codec parameter < 2 ^ 32
  root_narrow Vendor = well.words.vendor
  root_narrow Revision = well.words.revision
  root_narrow Nodes = let g = well.words.group in omega arith
  root_narrow GroupType = lit< tt
  root_narrow WidgetCapabilities = lit< tt
  root_narrow PcmSizesAndRates = lit< tt
  root_narrow StreamFormats = lit< tt
  root_narrow PinCapabilities = lit< tt
  root_narrow InputAmplifier = lit< tt
  root_narrow ListLength = lit< tt
  root_narrow PowerStates = lit< tt
  root_narrow OutputAmplifier = lit< tt

  group_narrow : (parameter : Parameter) → group_parameter codec parameter < 2 ^ 32
  group_narrow Vendor = lit< tt
  group_narrow Revision = lit< tt
  group_narrow Nodes = let f = well.words.first in let c = well.words.count in omega arith
  group_narrow GroupType = well.words.group_type
  group_narrow WidgetCapabilities = lit< tt
  group_narrow PcmSizesAndRates = well.words.group_words.pcm
  group_narrow StreamFormats = well.words.group_words.formats
  group_narrow PinCapabilities = lit< tt
  group_narrow InputAmplifier = well.words.group_words.amp_in
  group_narrow ListLength = lit< tt
  group_narrow PowerStates = well.words.group_words.power
  group_narrow OutputAmplifier = well.words.group_words.amp_out

  length_narrow : (node : RawNode) → HasReadableList node → list_length node < 2 ^ 32
  length_narrow node list = by node.long
    where
      by : (b : Bool) → length node.entries + cond b (2 ^ 7) 0 < 2 ^ 32
      by true = let few = list.few in omega arith
      by false = let few = list.few in omega arith

  widget_narrow : (node : RawNode) → HasNodeWords node → HasReadableList node → (parameter : Parameter) → widget_parameter node parameter < 2 ^ 32
  widget_narrow node words list Vendor = lit< tt
  widget_narrow node words list Revision = lit< tt
  widget_narrow node words list Nodes = lit< tt
  widget_narrow node words list GroupType = lit< tt
  widget_narrow node words list WidgetCapabilities = words.caps
  widget_narrow node words list PcmSizesAndRates = words.pcm
  widget_narrow node words list StreamFormats = words.formats
  widget_narrow node words list PinCapabilities = words.pin_caps
  widget_narrow node words list InputAmplifier = words.amp_in
  widget_narrow node words list ListLength = length_narrow node list
  widget_narrow node words list PowerStates = words.power
  widget_narrow node words list OutputAmplifier = words.amp_out

  parameter_narrow : (nid number : ℕ) → parameter_at codec nid number < 2 ^ 32
  parameter_narrow nid number = by (parameter_of number)
    where
      at_node : (o : Option RawNode) → node_at codec nid ≡ o → (parameter : Parameter) → node_parameter o parameter < 2 ^ 32
      at_node None e parameter = lit< tt
      at_node (Some node) e parameter = widget_narrow node (words_at codec nid node well e) (readable_at codec nid node well e) parameter

      by_place : (root group : Bool) (parameter : Parameter) → cond root (root_parameter codec parameter) (cond group (group_parameter codec parameter) (node_parameter (node_at codec nid) parameter)) < 2 ^ 32
      by_place true group parameter = root_narrow parameter
      by_place false true parameter = group_narrow parameter
      by_place false false parameter = at_node (node_at codec nid) refl parameter

      by : (o : Option Parameter) → numbered_parameter codec nid o < 2 ^ 32
      by None = lit< tt
      by (Some parameter) = by_place (nid == 0) (nid == codec.group) parameter

  word_narrow : (nid place : ℕ) → node_list_word (node_at codec nid) place < 2 ^ 32
  word_narrow nid place = by (node_at codec nid) refl
    where
      by : (o : Option RawNode) → node_at codec nid ≡ o → node_list_word o place < 2 ^ 32
      by None e = lit< tt
      by (Some node) e = list_word-narrow node.long node.entries (place - place % entries_per_word node.long) (readable_at codec nid node well e).fit

  sense_narrow : (o : Option RawNode) (plugged : Bool) → node_sense o plugged < 2 ^ 32
  sense_narrow None plugged = lit< tt
  sense_narrow (Some node) plugged = by (detects_presence node && plugged)
    where
      by : (b : Bool) → cond b (2 ^ 31) 0 < 2 ^ 32
      by true = lit< tt
      by false = lit< tt

  verb_narrow : (settings : Entries) (present : List Bool) (nid : ℕ) → IsSettingsOf codec settings → (verb : Verb) → verb_answer codec settings present nid verb < 2 ^ 32
  verb_narrow settings present nid of (GetParam number) = parameter_narrow nid number
  verb_narrow settings present nid of GetSelect = narrow_of settings nid Select of.each
  verb_narrow settings present nid of (SetSelect place) = lit< tt
  verb_narrow settings present nid of (GetList place) = word_narrow nid place
  verb_narrow settings present nid of GetPower = let low = power_below settings nid of.each in omega arith
  verb_narrow settings present nid of (SetPower state) = lit< tt
  verb_narrow settings present nid of GetStream = narrow_of settings nid Stream of.each
  verb_narrow settings present nid of (SetStream stream) = lit< tt
  verb_narrow settings present nid of GetPin = narrow_of settings nid Pin of.each
  verb_narrow settings present nid of (SetPin control) = lit< tt
  verb_narrow settings present nid of GetUnsol = narrow_of settings nid Unsol of.each
  verb_narrow settings present nid of (SetUnsol control) = lit< tt
  verb_narrow settings present nid of GetSense = sense_narrow (node_at codec nid) (is_present present nid)
  verb_narrow settings present nid of GetEapd = narrow_of settings nid Eapd of.each
  verb_narrow settings present nid of (SetEapd control) = lit< tt
  verb_narrow settings present nid of GetDigital = narrow_of settings nid Digital of.each
  verb_narrow settings present nid of (SetDigital control) = lit< tt
  verb_narrow settings present nid of GetDefault = narrow_of settings nid Default of.each
  verb_narrow settings present nid of (SetDefault place byte) = lit< tt
  verb_narrow settings present nid of GetFormat = narrow_of settings nid Format of.each
  verb_narrow settings present nid of (SetFormat format) = lit< tt
  verb_narrow settings present nid of (GetAmp side) = narrow_of settings nid (side_control (amplifiers.side_of side)) of.each
  verb_narrow settings present nid of (SetAmp setting) = lit< tt

pub answer_of-narrow : (codec : RawCodec) (settings : Entries) (present : List Bool) (command : Command) → IsWellFormed codec → IsSettingsOf codec settings → answer_of codec settings present command < 2 ^ 32
unfolding answer_of
answer_of-narrow codec settings present command well of = verb_narrow codec well settings present command.nid of command.verb
