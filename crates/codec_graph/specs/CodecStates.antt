-- A codec, as commands and its pins change it: its graph, its settings, what is plugged in, and what waits to be sent
-- to the controller in order of arrival. Unsolicited responses: High Definition Audio 1.0a, 7.3.3.14. The queue, its
-- limits and what is lost are this project's own.
use Rattle.std.specs.Prelude.{◌≡◌, ◌≤◌, ◌*◌, ◌%◌, ◌^◌, ℕ, Bool, true, false, ◌==◌, ◌&&◌, not, List, [], ◌∷◌, ◌++◌}
use Rattle.std.specs.Prelude.{length, drop, count_by, slice_set, nat_lt, if◌then◌else◌, Option, Some, None}
use Rattle.codec_graph.specs.declared.raw.RawNode.{RawNode}
use Rattle.codec_graph.specs.declared.raw.RawCodec.{RawCodec}
use Rattle.codec_graph.specs.declared.controls.Control.TheVariants.{Unsol}
use Rattle.codec_graph.specs.declared.waiting.Waiting.{Waiting}
use Rattle.codec_graph.specs.declared.waiting.Waiting.TheVariants.{Answer, Unsolicited}
use Rattle.verb_codes.specs.Words.{has_bit}
use Rattle.codec_graph.specs.Widget.{node_identifiers, node_at, is_pin}
use Rattle.codec_graph.specs.Cycles.{IsWellFormed}
use Rattle.codec_graph.specs.Settings.{Entries, setting_of, sends_unsolicited, detects_presence, IsSettingsOf}
use Rattle.codec_graph.specs.VerbMeaning.{is_present, answer_of, after}
use Rattle.verb_codes.specs.declared.verbs.Command.{Command}
use Rattle.verb_codes.specs.Verbs.{reading_of}

-- a codec: whether something is plugged in stands by node identifier
pub record CodecState : Type 0 where
  pub graph : RawCodec
  pub settings : Entries
  pub present : List Bool
  pub waiting : List Waiting

abbrev pub is_answer : Waiting → Bool
is_answer (Answer word) = true
is_answer (Unsolicited word) = false

-- how many answers to commands wait, and how many unsolicited responses
abbrev pub answers : List Waiting → ℕ
answers waiting = count_by is_answer waiting

abbrev pub unsolicited : List Waiting → ℕ
unsolicited waiting = count_by (λ item. not (is_answer item)) waiting

-- how many answers to commands can wait, and how many unsolicited responses beside them
abbrev pub most_answers : ℕ
most_answers = 64

abbrev pub most_unsolicited : ℕ
most_unsolicited = 64

-- whether no further answer to a command can wait
abbrev pub is_full : CodecState → Bool
is_full codec = answers codec.waiting == most_answers

-- the answer to a word: to the command that it reads as, and 0 where it has no reading
abbrev pub reading_answer : CodecState → Option Command → ℕ
reading_answer codec None = 0
reading_answer codec (Some command) = answer_of codec.graph codec.settings codec.present command

abbrev pub answer_to : CodecState → ℕ → ℕ
answer_to codec word = reading_answer codec (reading_of word)

-- the settings after a word: a word without reading changes nothing
abbrev pub reading_settings : CodecState → Option Command → Entries
reading_settings codec None = codec.settings
reading_settings codec (Some command) = after codec.graph codec.settings command

-- a word is taken: its verb has acted, and its answer waits last
abbrev pub taken : CodecState → ℕ → CodecState
taken codec word = record codec {
  settings = reading_settings codec (reading_of word);
  waiting = codec.waiting ++ Answer (answer_to codec word) ∷ [];
}

-- whether a pin has another presence
abbrev pub changes : Bool → Bool → Bool
changes old new = if old then not new else new

-- the control of unsolicited responses enables them in bit 7, and has their tag in 5:0 (7.3.3.14)
abbrev pub is_enabled : ℕ → Bool
is_enabled control = has_bit control 7

-- an unsolicited response has its tag in bits 31:26
abbrev pub response_of : ℕ → Waiting
response_of control = Unsolicited (control % 2 ^ 6 * 2 ^ 26)

-- whether the pin's new presence is told: it can detect presence, its presence changed, it can send unsolicited
-- responses, they are enabled, and there is room for another
abbrev pub is_told : CodecState → ℕ → Bool → RawNode → Bool
is_told codec nid present node =
    detects_presence node && changes (is_present codec.present nid) present && sends_unsolicited node
    && is_enabled (setting_of codec.settings nid Unsol) && nat_lt (unsolicited codec.waiting) most_unsolicited

-- the pin has this presence; where it is told, a response waits last
abbrev pub pin_plugged : CodecState → ℕ → Bool → RawNode → CodecState
pin_plugged codec nid present node = record codec {
  present = slice_set codec.present nid present;
  waiting = if is_told codec nid present node then codec.waiting ++ response_of (setting_of codec.settings nid Unsol) ∷
      [] else codec.waiting;
}

abbrev pub node_plugged : CodecState → ℕ → Bool → Option RawNode → CodecState
node_plugged codec nid present None = codec
node_plugged codec nid present (Some node) = if is_pin node then pin_plugged codec nid present node else codec

-- something is plugged in at the node or pulled out; at a node that is no pin nothing happens
abbrev pub plugged : CodecState → ℕ → Bool → CodecState
plugged codec nid present = node_plugged codec nid present (node_at codec.graph nid)

-- without the first item that waits
abbrev pub without_first : CodecState → CodecState
without_first codec = record codec { waiting = drop 1 codec.waiting }

-- without the first answer to a command that waits
abbrev pub drop_answer : List Waiting → List Waiting
drop_answer [] = []
drop_answer (item ∷ items) = if is_answer item then items else item ∷ drop_answer items

abbrev pub without_answer : CodecState → CodecState
without_answer codec = record codec { waiting = drop_answer codec.waiting }

-- with nothing that waits
abbrev pub cleared : CodecState → CodecState
cleared codec = record codec { waiting = [] }

-- what holds of a codec at all times
pub record IsSound (codec : CodecState) : Type 0 where
  pub well_formed : IsWellFormed codec.graph
  pub settings : IsSettingsOf codec.graph codec.settings
  pub present : length codec.present ≡ node_identifiers
  pub answers_fit : answers codec.waiting ≤ most_answers
  pub unsolicited_fit : unsolicited codec.waiting ≤ most_unsolicited
