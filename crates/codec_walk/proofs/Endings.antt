-- What was asked in a dialogue that is told to its end.
use Rattle.std.proofs.Common.{◌≡◌, ◌+◌, ◌-◌, ◌*◌, ℕ, zero, suc, Bool, true, false, cond, List, [], ◌∷◌, ◌++◌, map, length, take, Some, refl, sym, ap, ◌∙◌, subst, arith, append_assoc, append-nil, length-append}
use Rattle.std.specs.Prelude.{filter}
use Rattle.std.specs.List.{range_with_len}
use Rattle.std.proofs.lemmas.List.{length-take}
use Rattle.codec_graph.specs.declared.raw.RawNode.{RawNode}
use Rattle.codec_graph.specs.declared.raw.RawCodec.{RawCodec}
use Rattle.codec_graph.specs.Widget.{plain_node, has_list, has_power_control}
use Rattle.verb_codes.specs.declared.verbs.Command.{Command}
use Rattle.verb_codes.specs.declared.parameters.Parameter.TheVariants as parameter
use Rattle.verb_codes.specs.Words.{bits_of}
use Rattle.verb_codes.specs.Lists.{entries_per_word, entries_of_word}
use Rattle.codec_walk.specs.declared.words.NodeWord.{NodeWord}
use Rattle.codec_walk.specs.declared.words.NodeWord.TheVariants.{Pcm, Formats, PinCaps, Default, AmpIn, AmpOut}
use Rattle.codec_walk.specs.Dialogues.{Dialogue, Ask, Told, told, after, asked}
use Rattle.codec_walk.specs.Words.{parameter_command, list_command, node_words, applies, word_command, with_word, words_for, is_long, entries_told}
use Rattle.codec_walk.specs.Walks.{from_codec, from_words, from_entries, from_length, from_power, from_node, with_node, from_widgets, from_count, has_widgets, walk}
use Rattle.codec_walk.specs.Commands.{connection_commands, power_commands, node_commands, nodes_commands, walk_commands}
use Rattle.codec_walk.proofs.EntryWords.{place_more, place_none, none_left, more_left}

-- however it is told to its end, this holds of what was asked and told
abbrev pub Ends : Dialogue → (List Command → RawCodec → Type 0) → Type 0
Ends dialogue Q = (answers : List ℕ) (codec : RawCodec) → told (after dialogue answers) ≡ Some codec → Q (asked dialogue answers) codec

ends_ask : (command : Command) (rest : ℕ → Dialogue) (Q : List Command → RawCodec → Type 0)
    → ((answer : ℕ) → Ends (rest answer) (λ commands codec. Q (command ∷ commands) codec)) → Ends (Ask command rest) Q
ends_ask command rest Q each [] codec e = cc
ends_ask command rest Q each (answer ∷ answers) codec e = each answer answers codec e

ends_told : (codec : RawCodec) (Q : List Command → RawCodec → Type 0) → Q [] codec → Ends (Told codec) Q
ends_told codec Q here [] other e = let same : codec ≡ other = cc in subst (λ (c : RawCodec). Q [] c) same here
ends_told codec Q here (answer ∷ answers) other e = ends_told codec Q here answers other e

ends_weaker : (dialogue : Dialogue) (P Q : List Command → RawCodec → Type 0) → ((commands : List Command) (codec : RawCodec) → P commands codec → Q commands codec)
    → Ends dialogue P → Ends dialogue Q
ends_weaker dialogue P Q weaker ends answers codec e = weaker (asked dialogue answers) codec (ends answers codec e)

regroup : (a b c d : List Command) → (a ++ (b ++ c)) ++ d ≡ a ++ (b ++ (c ++ d))
regroup a b c d = simp append_assoc

-- which words apply follows from the capabilities, which no other word changes
by_caps : (node : RawNode) (word : NodeWord) → applies node word ≡ applies (plain_node node.caps) word
by_caps node Pcm = refl
by_caps node Formats = refl
by_caps node PinCaps = refl
by_caps node Default = refl
by_caps node AmpIn = refl
by_caps node AmpOut = refl

-- a widget of which only words between its capabilities and its list are known
record IsBare (caps : ℕ) (node : RawNode) : Type 0 where
  pub same : node.caps ≡ caps
  pub short : node.long ≡ false
  pub none : node.entries ≡ []

bare_word : (caps : ℕ) (node : RawNode) (word : NodeWord) (answer : ℕ) → IsBare caps node → IsBare caps (with_word node word answer)
bare_word caps node Pcm answer bare = record { same = bare.same; short = bare.short; none = bare.none }
bare_word caps node Formats answer bare = record { same = bare.same; short = bare.short; none = bare.none }
bare_word caps node PinCaps answer bare = record { same = bare.same; short = bare.short; none = bare.none }
bare_word caps node Default answer bare = record { same = bare.same; short = bare.short; none = bare.none }
bare_word caps node AmpIn answer bare = record { same = bare.same; short = bare.short; none = bare.none }
bare_word caps node AmpOut answer bare = record { same = bare.same; short = bare.short; none = bare.none }

module _ (address nid : ℕ) where
  abbrev word_commands : ℕ → List NodeWord → List Command
  word_commands caps words = map (word_command address nid) (filter (applies (plain_node caps)) words)

  one_word : (word : NodeWord) (words : List NodeWord) (caps : ℕ) (node : RawNode) (rest : RawNode → Dialogue) (Q : List Command → RawCodec → Type 0) (b : Bool) → applies node word ≡ b
      → ((answer : ℕ) → ((done : RawNode) → IsBare caps done → Ends (rest done) (λ commands codec. Q ((word_command address nid word ∷ word_commands caps words) ++ commands) codec))
      → Ends (from_words words address nid (with_word node word answer) rest) (λ commands codec. Q (word_command address nid word ∷ commands) codec))
      → (((done : RawNode) → IsBare caps done → Ends (rest done) (λ commands codec. Q (word_commands caps words ++ commands) codec)) → Ends (from_words words address nid node rest) Q)
      → ((done : RawNode) → IsBare caps done → Ends (rest done) (λ commands codec. Q (map (word_command address nid) (cond b (word ∷ filter (applies (plain_node caps)) words) (filter (applies (plain_node caps)) words)) ++ commands) codec))
      → Ends (cond (applies node word) (Ask (word_command address nid word) (λ answer. from_words words address nid (with_word node word answer) rest)) (from_words words address nid node rest)) Q
  one_word word words caps node rest Q true e asks skips each = rw e (ends_ask _ _ Q (λ answer. asks answer each))
  one_word word words caps node rest Q false e asks skips each = rw e (skips each)

  ends_words : (words : List NodeWord) (caps : ℕ) (node : RawNode) (rest : RawNode → Dialogue) (Q : List Command → RawCodec → Type 0) → IsBare caps node
      → ((done : RawNode) → IsBare caps done → Ends (rest done) (λ commands codec. Q (word_commands caps words ++ commands) codec))
      → Ends (from_words words address nid node rest) Q
  unfolding from_words
  ends_words [] caps node rest Q bare each = each node bare
  ends_words (word ∷ words) caps node rest Q bare each =
      one_word word words caps node rest Q (applies (plain_node caps) word) (by_caps node word ∙ ap (λ caps. applies (plain_node caps) word) bare.same)
      (λ answer. ends_words words caps (with_word node word answer) rest (λ commands codec. Q (word_command address nid word ∷ commands) codec) (bare_word caps node word answer bare))
      (ends_words words caps node rest Q bare)
      each

  length_word : (long : Bool) (word : ℕ) → length (entries_of_word long word) ≡ entries_per_word long
  length_word true word = refl
  length_word false word = refl

  pushed : (node : RawNode) (left answer : ℕ)
      → length (node.entries ++ take left (entries_of_word node.long answer)) + (left - entries_per_word node.long) ≡ length node.entries + left
  pushed node left answer =
      let a = length-append node.entries (take left (entries_of_word node.long answer)) in
      let b = length-take left (entries_of_word node.long answer) in
      let c = length_word node.long answer in
      omega arith

  abbrev places : Bool → ℕ → ℕ → List Command
  places long word words = map (λ word. list_command address nid (word * entries_per_word long)) (range_with_len word words)

  -- the widget with its connection list
  record IsListed (caps : ℕ) (long : Bool) (entries : ℕ) (node : RawNode) : Type 0 where
    pub same : node.caps ≡ caps
    pub form : node.long ≡ long
    pub many : length node.entries ≡ entries

  ends_entries : (words word left caps : ℕ) (node : RawNode) (rest : RawNode → Dialogue) (Q : List Command → RawCodec → Type 0)
      → words ≡ words_for node.long left → node.caps ≡ caps
      → ((done : RawNode) → IsListed caps node.long (length node.entries + left) done → Ends (rest done) (λ commands codec. Q (places node.long word words ++ commands) codec))
      → Ends (from_entries words address nid (word * entries_per_word node.long) left node rest) Q
  ends_entries zero word left caps node rest Q are same each =
      let none = none_left node.long left are in
      each node (record { same = same; form = refl; many = omega arith })
  ends_entries (suc words) word left caps node rest Q are same each =
      ends_ask _ _ Q (λ answer.
      let next : RawNode = record node { entries = node.entries ++ take left (entries_of_word node.long answer) } in
      subst (λ (place : ℕ). Ends (from_entries words address nid place (left - entries_per_word node.long) next rest) (λ commands codec. Q (list_command address nid (word * entries_per_word node.long) ∷ commands) codec))
      (place_more node.long word)
      (ends_entries words (word + 1) (left - entries_per_word node.long) caps next rest (λ commands codec. Q (list_command address nid (word * entries_per_word node.long) ∷ commands) codec)
      (more_left node.long left words are) same
      (λ done listed. each done (record { same = listed.same; form = listed.form; many = listed.many ∙ pushed node left answer }))))

  ends_length : (caps : ℕ) (node : RawNode) (rest : RawNode → Dialogue) (Q : List Command → RawCodec → Type 0) → IsBare caps node
      → ((done : RawNode) → done.caps ≡ caps → Ends (rest done) (λ commands codec. Q (connection_commands address nid done ++ commands) codec))
      → Ends (from_length address nid node rest) Q
  ends_length caps node rest Q bare each = by (has_list node) refl
    where
      asks : (done : RawNode) (b : Bool) → has_list node ≡ b → done.caps ≡ node.caps → has_list done ≡ b
      asks done b e same = ap (λ caps. has_list (plain_node caps)) same ∙ e

      by : (b : Bool) → has_list node ≡ b
          → Ends (cond b (Ask (parameter_command address nid parameter.ListLength) (λ answer. from_entries (words_for (is_long answer) (entries_told answer)) address nid 0 (entries_told answer) (record node { long = is_long answer }) rest)) (rest node)) Q
      by true e =
          ends_ask _ _ Q (λ answer.
          let next : RawNode = record node { long = is_long answer } in
          let words = words_for (is_long answer) (entries_told answer) in
          subst (λ (place : ℕ). Ends (from_entries words address nid place (entries_told answer) next rest) (λ commands codec. Q (parameter_command address nid parameter.ListLength ∷ commands) codec))
          (place_none (is_long answer))
          (ends_entries words 0 (entries_told answer) caps next rest (λ commands codec. Q (parameter_command address nid parameter.ListLength ∷ commands) codec) refl bare.same
          (λ done listed.
          let many : length done.entries ≡ entries_told answer = listed.many ∙ ap (λ (entries : List ℕ). length entries + entries_told answer) bare.none ∙ omega arith in
          let here : connection_commands address nid done ≡ parameter_command address nid parameter.ListLength ∷ places (is_long answer) 0 (words_for (is_long answer) (entries_told answer)) =
          rw (asks done true e (listed.same ∙ sym bare.same), many, listed.form) refl in
          subst (λ (front : List Command). Ends (rest done) (λ commands codec. Q (front ++ commands) codec)) here (each done listed.same))))
      by false e =
          let here : connection_commands address nid node ≡ [] = rw e refl in
          subst (λ (front : List Command). Ends (rest node) (λ commands codec. Q (front ++ commands) codec)) here (each node bare.same)

  ends_power : (node : RawNode) (rest : RawNode → Dialogue) (Q : List Command → RawCodec → Type 0)
      → ((answer : ℕ) → Ends (rest (record node { power = answer })) (λ commands codec. Q (power_commands address nid node ++ commands) codec))
      → Ends (rest node) (λ commands codec. Q (power_commands address nid node ++ commands) codec)
      → Ends (from_power address nid node rest) Q
  ends_power node rest Q each plain = by (has_power_control node) each plain
    where
      by : (b : Bool)
          → ((answer : ℕ) → Ends (rest (record node { power = answer })) (λ commands codec. Q (cond b (parameter_command address nid parameter.PowerStates ∷ []) [] ++ commands) codec))
          → Ends (rest node) (λ commands codec. Q (cond b (parameter_command address nid parameter.PowerStates ∷ []) [] ++ commands) codec)
          → Ends (cond b (Ask (parameter_command address nid parameter.PowerStates) (λ answer. rest (record node { power = answer }))) (rest node)) Q
      by true each plain = ends_ask _ _ Q each
      by false each plain = plain

  -- a whole widget
  ends_node : (rest : RawNode → Dialogue) (Q : List Command → RawCodec → Type 0)
      → ((done : RawNode) → Ends (rest done) (λ commands codec. Q (node_commands address nid done ++ commands) codec))
      → Ends (Ask (parameter_command address nid parameter.WidgetCapabilities) (λ caps. from_node address nid (plain_node caps) rest)) Q
  ends_node rest Q each =
      ends_ask _ _ Q (λ caps.
      let first = parameter_command address nid parameter.WidgetCapabilities in
      let words = word_commands caps node_words in
      ends_words node_words caps (plain_node caps) _ (λ commands codec. Q (first ∷ commands) codec) (record { same = refl; short = refl; none = refl })
      (λ bare is_bare.
      ends_length caps bare _ (λ commands codec. Q (first ∷ (words ++ commands)) codec) is_bare
      (λ listed same.
      let connections = connection_commands address nid listed in
      let power = power_commands address nid listed in
      let here : word_commands listed.caps node_words ≡ words = ap (λ caps. word_commands caps node_words) same in
      let joins = λ (commands : List Command) (codec : RawCodec) (h : Q (node_commands address nid listed ++ commands) codec).
      subst (λ (all : List Command). Q (first ∷ all) codec) (ap (λ (ws : List Command). (ws ++ (connections ++ power)) ++ commands) here ∙ regroup words connections power commands) h in
      ends_power listed rest (λ commands codec. Q (first ∷ (words ++ (connections ++ commands))) codec)
      (λ answer. ends_weaker (rest (record listed { power = answer })) (λ commands codec. Q (node_commands address nid listed ++ commands) codec) (λ commands codec. Q (first ∷ (words ++ (connections ++ (power ++ commands)))) codec) joins (each (record listed { power = answer })))
      (ends_weaker (rest listed) (λ commands codec. Q (node_commands address nid listed ++ commands) codec) (λ commands codec. Q (first ∷ (words ++ (connections ++ (power ++ commands)))) codec) joins (each listed)))))

-- the widgets
ends_widgets : (left nid : ℕ) (codec : RawCodec) (Q : List Command → RawCodec → Type 0)
    → ((nodes : List RawNode) → Q (nodes_commands codec.address nid nodes) (record codec { nodes = codec.nodes ++ nodes }))
    → Ends (from_widgets left nid codec) Q
ends_widgets zero nid codec Q each =
    ends_told codec Q (subst (λ (nodes : List RawNode). Q [] (record codec { nodes = nodes })) (append-nil codec.nodes) (each []))
ends_widgets (suc left) nid codec Q each =
    ends_node codec.address nid _ Q (λ node.
    ends_widgets left (nid + 1) (with_node codec node) (λ commands codec'. Q (node_commands codec.address nid node ++ commands) codec')
    (λ nodes. subst (λ (all : List RawNode). Q (node_commands codec.address nid node ++ nodes_commands codec.address (nid + 1) nodes) (record codec { nodes = all })) (sym (append_assoc codec.nodes (node ∷ []) nodes)) (each (node ∷ nodes))))

ends_count : (codec : RawCodec) (Q : List Command → RawCodec → Type 0) → codec.nodes ≡ []
    → ((nodes : List RawNode) → Q (nodes_commands codec.address codec.first nodes) (record codec { nodes = nodes }))
    → Ends (from_count codec) Q
ends_count codec Q none each = by (has_widgets codec)
  where
    by : (b : Bool) → Ends (cond b (from_widgets codec.count codec.first codec) (Told codec)) Q
    by true = ends_widgets codec.count codec.first codec Q (λ nodes. subst (λ (before : List RawNode). Q (nodes_commands codec.address codec.first nodes) (record codec { nodes = before ++ nodes })) (sym none) (each nodes))
    by false = ends_told codec Q (subst (λ (nodes : List RawNode). Q [] (record codec { nodes = nodes })) (sym none) (each []))

-- the whole walk
record EndsIn (dialogue : Dialogue) (Q : List Command → RawCodec → Type 0) : Type 0 where
  pub ends : Ends dialogue Q

next_ask : (command : Command) (rest : ℕ → Dialogue) (Q : List Command → RawCodec → Type 0)
    → ((answer : ℕ) → EndsIn (rest answer) (λ commands codec. Q (command ∷ commands) codec)) → EndsIn (Ask command rest) Q
next_ask command rest Q each = record { ends = ends_ask command rest Q (λ answer. (each answer).ends) }

then_count : (codec : RawCodec) (Q : List Command → RawCodec → Type 0) → codec.nodes ≡ []
    → ((nodes : List RawNode) → Q (nodes_commands codec.address codec.first nodes) (record codec { nodes = nodes }))
    → EndsIn (from_count codec) Q
then_count codec Q none each = record { ends = ends_count codec Q none each }

whole_walk : (address : ℕ) → EndsIn (walk address) (λ commands codec. commands ≡ walk_commands codec)
unfolding walk from_codec walk_commands
whole_walk address =
    next_ask _ _ _ (λ vendor. next_ask _ _ _ (λ revision. next_ask _ _ _ (λ groups. next_ask _ _ _ (λ type. next_ask _ _ _ (λ widgets.
    next_ask _ _ _ (λ pcm. next_ask _ _ _ (λ formats. next_ask _ _ _ (λ amp_in. next_ask _ _ _ (λ amp_out. next_ask _ _ _ (λ power.
    then_count (record {
      address = address;
      vendor = vendor;
      revision = revision;
      group = bits_of groups 16 7;
      group_type = type;
      group_words = record { pcm = pcm; formats = formats; amp_in = amp_in; amp_out = amp_out; power = power };
      first = bits_of widgets 16 8;
      count = bits_of widgets 0 8;
      nodes = [];
    }) _ refl (λ nodes. refl)))))))))))

pub asks_told : (address : ℕ) → Ends (walk address) (λ commands codec. commands ≡ walk_commands codec)
asks_told address = (whole_walk address).ends
