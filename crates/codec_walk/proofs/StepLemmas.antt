-- Each step of a walk goes on with the dialogue.
use Rattle.std.proofs.Common.{◌≡◌, ◌<◌, ◌≤◌, ◌+◌, ◌-◌, ◌/◌, ◌%◌, ◌^◌, ◌==◌, ℕ, suc, Bool, true, false, cond, List, [], ◌∷◌, ◌++◌, length, take, Option, Some, None, refl, sym, subst, inl, inr, arith}
use Rattle.std.specs.Prelude.{All, find, ◌⊎◌}
use Rattle.std.proofs.lemmas.Bool.{cases_lt}
use Rattle.std.proofs.lemmas.Bool.Decides.{nat_tests}
use Rattle.std.proofs.lemmas.List.{length-take}
use Rattle.std.proofs.lemmas.List.Elements.{All-nil, All-cons, All-append, All-take}
use Rattle.std.proofs.Common.{length-append}
use Rattle.codec_graph.specs.declared.raw.RawNode.{RawNode}
use Rattle.codec_graph.specs.declared.raw.RawCodec.{RawCodec}
use Rattle.codec_graph.specs.Widget.{has_list, has_power_control}
use Rattle.verb_codes.specs.Lists.{entry_width, entries_per_word, entries_of_word}
use Rattle.codec_walk.specs.declared.words.NodeWord.{NodeWord}
use Rattle.codec_walk.specs.declared.words.NodeWord.TheVariants.{Pcm, Formats, PinCaps, Default, AmpIn, AmpOut}
use Rattle.codec_walk.specs.declared.words.CodecWord.{CodecWord}
use Rattle.codec_walk.specs.declared.words.CodecWord.TheVariants.{Vendor, Revision, Groups, GroupType, Widgets, GroupPcm, GroupFormats, GroupAmpIn, GroupAmpOut, GroupPower}
use Rattle.codec_walk.specs.declared.step.NodeStep.{NodeStep}
use Rattle.codec_walk.specs.declared.step.NodeStep.TheVariants.{Word, Length, Entries, Power}
use Rattle.codec_walk.specs.Dialogues.{Dialogue, Ask, answered}
use Rattle.codec_walk.specs.Words.{later, node_words, applies, word_command, with_word, words_for, with_codec_word}
use Rattle.codec_walk.specs.Walks.{from_words, from_entries, from_length, from_power}
use Rattle.codec_walk.specs.Steps.{from_step, from_next, power_step, list_step, word_step, first_step, entries_step, next_room, next_end, HasRoom}

module _ (address nid : ℕ) (rest : RawNode → Dialogue) where
  pub power_next : (node : RawNode) → from_next (power_step node) address nid node rest ≡ from_power address nid node rest
  power_next node = by (has_power_control node)
    where
      by : (b : Bool) → from_next (cond b (Some Power) None) address nid node rest ≡ cond b (from_step Power address nid node rest) (rest node)
      by true = refl
      by false = refl

  pub list_next : (node : RawNode) → from_next (list_step node) address nid node rest ≡ from_length address nid node (λ node. from_power address nid node rest)
  list_next node = by (has_list node)
    where
      by : (b : Bool) → from_next (cond b (Some Length) (power_step node)) address nid node rest
          ≡ cond b (from_step Length address nid node rest) (from_power address nid node rest)
      by true = refl
      by false = power_next node

  -- the first step for some words goes on with them
  abbrev GoesOn : RawNode → List NodeWord → Type 0
  GoesOn node words =
      from_next (first_step node words) address nid node rest
      ≡ from_words words address nid node (λ node. from_length address nid node (λ node. from_power address nid node rest))

  none_next : (node : RawNode) → GoesOn node []
  unfolding from_words
  none_next node = list_next node

  one_next : (node : RawNode) (word : NodeWord) (words : List NodeWord) → words ≡ later word → GoesOn node words → GoesOn node (word ∷ words)
  unfolding from_words
  one_next node word words are goes = by (applies node word)
    where
      by : (b : Bool) → from_next (word_step node (cond b (Some word) (find (applies node) words))) address nid node rest
          ≡ cond b (Ask (word_command address nid word) (λ answer. from_words words address nid (with_word node word answer) (λ node. from_length address nid node (λ node. from_power address nid node rest))))
          (from_words words address nid node (λ node. from_length address nid node (λ node. from_power address nid node rest)))
      by true = subst (λ (ws : List NodeWord). from_step (Word word) address nid node rest ≡ Ask (word_command address nid word) (λ answer. from_words ws address nid (with_word node word answer) (λ node. from_length address nid node (λ node. from_power address nid node rest)))) (sym are) refl
      by false = goes

  amp_out_next : (node : RawNode) → GoesOn node (later AmpIn)
  amp_out_next node = one_next node AmpOut [] refl (none_next node)

  amp_in_next : (node : RawNode) → GoesOn node (later Default)
  amp_in_next node = one_next node AmpIn (later AmpIn) refl (amp_out_next node)

  default_next : (node : RawNode) → GoesOn node (later PinCaps)
  default_next node = one_next node Default (later Default) refl (amp_in_next node)

  pin_caps_next : (node : RawNode) → GoesOn node (later Formats)
  pin_caps_next node = one_next node PinCaps (later PinCaps) refl (default_next node)

  formats_next : (node : RawNode) → GoesOn node (later Pcm)
  formats_next node = one_next node Formats (later Formats) refl (pin_caps_next node)

  pub words_next : (node : RawNode) → GoesOn node node_words
  words_next node = one_next node Pcm (later Pcm) refl (formats_next node)

  pub later_next : (node : RawNode) (word : NodeWord) → GoesOn node (later word)
  later_next node Pcm = formats_next node
  later_next node Formats = pin_caps_next node
  later_next node PinCaps = default_next node
  later_next node Default = amp_in_next node
  later_next node AmpIn = amp_out_next node
  later_next node AmpOut = none_next node

  -- a word less for the entries that it has
  words_for-more : (long : Bool) (left : ℕ) → 0 < left → words_for long left ≡ suc (words_for long (left - entries_per_word long))
  words_for-more true left some = omega arith
  words_for-more false left some = omega arith

  words_for-none : (long : Bool) → words_for long 0 ≡ 0
  words_for-none true = refl
  words_for-none false = refl

  pub entries_next : (node : RawNode) (place left : ℕ)
      → from_next (entries_step node place left) address nid node rest
      ≡ from_entries (words_for node.long left) address nid place left node (λ node. from_power address nid node rest)
  entries_next node place left = by (left == 0) refl
    where
      by : (b : Bool) → (left == 0) ≡ b → from_next (cond b (power_step node) (Some (Entries place left))) address nid node rest
          ≡ from_entries (words_for node.long left) address nid place left node (λ node. from_power address nid node rest)
      by true e =
          let none : left ≡ 0 = grind (arith, nat_tests) in
          rw (none, words_for-none node.long) (power_next node)
      by false e =
          let some : 0 < left = grind (arith, nat_tests) in
          rw (words_for-more node.long left some) refl

  -- a word of the connection list is taken
  pub entries_taken : (old new : RawNode) (place left answer read rest_left : ℕ) (next : Option NodeStep)
      → new ≡ record old { entries = old.entries ++ take left (entries_of_word old.long answer) }
      → read ≡ entries_per_word new.long → rest_left ≡ left - read → next ≡ entries_step new (place + read) rest_left
      → from_next next address nid new rest ≡ answered (from_step (Entries place left) address nid old rest) answer
  entries_taken old new place left answer read rest_left next is reads lefts goes =
      rw (goes, lefts, reads, is)
      (entries_next (record old { entries = old.entries ++ take left (entries_of_word old.long answer) }) (place + entries_per_word old.long) (left - entries_per_word old.long))

-- ---- room for the entries of a widget

room_power : (node : RawNode) → length node.entries ≤ 127 → All (λ entry. entry < 2 ^ entry_width node.long) node.entries
    → HasRoom (next_room (power_step node)) (next_end (power_step node)) node
room_power node few fit = by (has_power_control node)
  where
    by : (b : Bool) → HasRoom (next_room (cond b (Some Power) None)) (next_end (cond b (Some Power) None)) node
    by true = record { few = omega arith; places = omega arith; fit = fit }
    by false = record { few = omega arith; places = omega arith; fit = fit }

room_entries : (node : RawNode) (place left : ℕ) → length node.entries + left ≤ 127 → (place + left ≤ 127) ⊎ (left ≡ 0)
    → All (λ entry. entry < 2 ^ entry_width node.long) node.entries
    → HasRoom (next_room (entries_step node place left)) (next_end (entries_step node place left)) node
room_entries node place left few places fit = by (left == 0) refl
  where
    end : (left == 0) ≡ false → (place + left ≤ 127) ⊎ (left ≡ 0) → place + left ≤ 127
    end e (inl low) = low
    end e (inr none) = grind (arith, nat_tests)

    by : (b : Bool) → (left == 0) ≡ b → HasRoom (next_room (cond b (power_step node) (Some (Entries place left)))) (next_end (cond b (power_step node) (Some (Entries place left)))) node
    by true e = room_power node (omega arith) fit
    by false e = record { few = few; places = end e places; fit = fit }

-- the entries of a word fit their form, and are as many as a word has
word_fits : (long : Bool) (word : ℕ) → All (λ entry. entry < 2 ^ entry_width long) (entries_of_word long word)
word_fits true word =
    let P : ℕ → Type 0 = λ entry. entry < 2 ^ 16 in
    let a : word % 2 ^ 16 < 2 ^ 16 = omega arith in
    let b : word / 2 ^ 16 % 2 ^ 16 < 2 ^ 16 = omega arith in
    All-cons P (word % 2 ^ 16) (word / 2 ^ 16 % 2 ^ 16 ∷ []) a (All-cons P (word / 2 ^ 16 % 2 ^ 16) [] b (All-nil P))
word_fits false word =
    let P : ℕ → Type 0 = λ entry. entry < 2 ^ 8 in
    let a : word % 2 ^ 8 < 2 ^ 8 = omega arith in
    let b : word / 2 ^ 8 % 2 ^ 8 < 2 ^ 8 = omega arith in
    let c : word / 2 ^ 16 % 2 ^ 8 < 2 ^ 8 = omega arith in
    let d : word / 2 ^ 24 % 2 ^ 8 < 2 ^ 8 = omega arith in
    All-cons P (word % 2 ^ 8) (word / 2 ^ 8 % 2 ^ 8 ∷ word / 2 ^ 16 % 2 ^ 8 ∷ word / 2 ^ 24 % 2 ^ 8 ∷ []) a
    (All-cons P (word / 2 ^ 8 % 2 ^ 8) (word / 2 ^ 16 % 2 ^ 8 ∷ word / 2 ^ 24 % 2 ^ 8 ∷ []) b
    (All-cons P (word / 2 ^ 16 % 2 ^ 8) (word / 2 ^ 24 % 2 ^ 8 ∷ []) c (All-cons P (word / 2 ^ 24 % 2 ^ 8) [] d (All-nil P))))

length_word : (long : Bool) (word : ℕ) → length (entries_of_word long word) ≡ entries_per_word long
length_word true word = refl
length_word false word = refl

pushed_fit : (node : RawNode) (left word : ℕ) → All (λ entry. entry < 2 ^ entry_width node.long) node.entries
    → All (λ entry. entry < 2 ^ entry_width node.long) (node.entries ++ take left (entries_of_word node.long word))
pushed_fit node left word fit =
    All-append (λ entry. entry < 2 ^ entry_width node.long) node.entries (take left (entries_of_word node.long word)) fit
    (All-take (λ entry. entry < 2 ^ entry_width node.long) left (entries_of_word node.long word) (word_fits node.long word))

pushed_few : (node : RawNode) (left word : ℕ) → length node.entries + left ≤ 127
    → length (node.entries ++ take left (entries_of_word node.long word)) + (left - entries_per_word node.long) ≤ 127
pushed_few node left word few =
    let a = length-append node.entries (take left (entries_of_word node.long word)) in
    let b = length-take left (entries_of_word node.long word) in
    let c = length_word node.long word in
    omega arith

pushed_places : (long : Bool) (place left : ℕ) → place + left ≤ 127
    → ((place + entries_per_word long) + (left - entries_per_word long) ≤ 127) ⊎ (left - entries_per_word long ≡ 0)
pushed_places true place left few = elim (cases_lt 2 left) [ inl more ↦ inl (omega arith) | inr none ↦ inr (omega arith) ]
pushed_places false place left few = elim (cases_lt 4 left) [ inl more ↦ inl (omega arith) | inr none ↦ inr (omega arith) ]

pub room_taken : (old new : RawNode) (place left answer read rest_left : ℕ) (next : Option NodeStep)
    → new ≡ record old { entries = old.entries ++ take left (entries_of_word old.long answer) }
    → read ≡ entries_per_word new.long → rest_left ≡ left - read → next ≡ entries_step new (place + read) rest_left
    → HasRoom left (place + left) old → HasRoom (next_room next) (next_end next) new
room_taken old new place left answer read rest_left next is reads lefts goes room =
    rw (goes, lefts, reads, is)
    (room_entries (record old { entries = old.entries ++ take left (entries_of_word old.long answer) }) (place + entries_per_word old.long) (left - entries_per_word old.long)
    (pushed_few old left answer room.few) (pushed_places old.long place left room.places) (pushed_fit old left answer room.fit))

-- ---- words of the codec

-- a word of the codec leaves its widgets
pub with_word_nodes : (codec : RawCodec) (nodes : List RawNode) (word : CodecWord) (answer : ℕ)
    → with_codec_word (record codec { nodes = nodes }) word answer ≡ record (with_codec_word codec word answer) { nodes = nodes }
with_word_nodes codec nodes Vendor answer = refl
with_word_nodes codec nodes Revision answer = refl
with_word_nodes codec nodes Groups answer = refl
with_word_nodes codec nodes GroupType answer = refl
with_word_nodes codec nodes Widgets answer = refl
with_word_nodes codec nodes GroupPcm answer = refl
with_word_nodes codec nodes GroupFormats answer = refl
with_word_nodes codec nodes GroupAmpIn answer = refl
with_word_nodes codec nodes GroupAmpOut answer = refl
with_word_nodes codec nodes GroupPower answer = refl
