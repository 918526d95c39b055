-- The answers of a well-formed graph lead its walk through its walk commands, widget by widget.
use Rattle.std.proofs.Common.{◌≡◌, ◌<◌, ◌+◌, ◌*◌, ◌^◌, ◌-◌, ◌&&◌, ℕ, zero, suc, Bool, true, false, cond, List, [], ◌∷◌, ◌++◌, map, length, take, drop, get_or, refl, sym, ap, ◌∙◌, subst, arith, append_assoc, append-nil, zero-add, length-drop}
use Rattle.std.specs.Prelude.{slice_index, All, filter}
use Rattle.std.specs.List.{range_with_len}
use Rattle.std.proofs.lemmas.List.{get_or-drop, take_all}
use Rattle.codec_graph.specs.declared.raw.RawNode.{RawNode}
use Rattle.codec_graph.specs.declared.raw.RawCodec.{RawCodec}
use Rattle.codec_graph.specs.Widget.{kept_word, plain_node, has_list, has_power_control}
use Rattle.codec_graph.specs.VerbMeaning.{list_word, list_length}
use Rattle.verb_codes.specs.declared.verbs.Command.{Command}
use Rattle.verb_codes.specs.declared.parameters.Parameter.TheVariants.{WidgetCapabilities, ListLength, PowerStates}
use Rattle.verb_codes.specs.Lists.{entry_width, entries_per_word, entries_of_word}
use Rattle.codec_walk.specs.declared.words.NodeWord.{NodeWord}
use Rattle.codec_walk.specs.declared.words.NodeWord.TheVariants.{Pcm, Formats, PinCaps, Default, AmpIn, AmpOut}
use Rattle.codec_walk.specs.Dialogues.{Dialogue, Ask, Told}
use Rattle.codec_walk.specs.Words.{parameter_command, list_command, later, node_words, applies, word_command, with_word, entries_told, is_long, words_for}
use Rattle.codec_walk.specs.Walks.{from_words, from_entries, from_length, from_power, from_node, with_node, from_widgets}
use Rattle.codec_walk.specs.Commands.{entry_commands, connection_commands, power_commands, node_commands, nodes_commands}
use Rattle.codec_walk.specs.Replies.{CanAnswer}
use Rattle.codec_walk.proofs.Leading.{Leads, leads_append, leads_ask}
use Rattle.codec_walk.proofs.Counted.{IsWidgetAt, AreWidgetsAt}
use Rattle.codec_walk.proofs.Answering as answering
use Rattle.codec_walk.proofs.EntryWords.{place_more, place_none, none_left, more_left}

-- a word that GetList answers has the entries from its place on
abbrev pub HasListWords : Type 0
HasListWords = (long : Bool) (entries : List ℕ) (place : ℕ) → All (λ entry. entry < 2 ^ entry_width long) entries
    → entries_of_word long (list_word long entries place) ≡ map (λ i. slice_index entries (place + i)) (range_with_len 0 (entries_per_word long))

-- a widget as it is told: its list is still to be expanded
abbrev pub unlisted : RawNode → RawNode
unlisted node = record node { list = [] }

-- ---- entries

take_none : (n : ℕ) → take {A = ℕ} n [] ≡ []
take_none zero = refl
take_none (suc n) = refl

take_join : (i n : ℕ) (xs : List ℕ) → take i xs ++ take n (drop i xs) ≡ take (i + n) xs
take_join zero n xs = rw (zero-add n) refl
take_join (suc i) n [] = rw (take_none n, take_none (suc i + n)) refl
take_join (suc i) n (x ∷ xs) = let e : suc i + n ≡ suc (i + n) = omega arith in rw e (ap (λ (ys : List ℕ). x ∷ ys) (take_join i n xs))

two_front : (xs : List ℕ) → take (length xs) (get_or xs 0 0 ∷ get_or xs 1 0 ∷ []) ≡ take 2 xs
two_front [] = refl
two_front (a ∷ []) = refl
two_front (a ∷ b ∷ xs) = rw (take_none (length xs)) refl

four_front : (xs : List ℕ) → take (length xs) (get_or xs 0 0 ∷ get_or xs 1 0 ∷ get_or xs 2 0 ∷ get_or xs 3 0 ∷ []) ≡ take 4 xs
four_front [] = refl
four_front (a ∷ []) = refl
four_front (a ∷ b ∷ []) = refl
four_front (a ∷ b ∷ c ∷ []) = refl
four_front (a ∷ b ∷ c ∷ d ∷ xs) = rw (take_none (length xs)) refl

front : (long : Bool) (xs : List ℕ) → take (length xs) (map (λ i. get_or xs i 0) (range_with_len 0 (entries_per_word long))) ≡ take (entries_per_word long) xs
front true xs = two_front xs
front false xs = four_front xs

window : (long : Bool) (xs : List ℕ) (place : ℕ)
    → take (length xs - place) (map (λ i. slice_index xs (place + i)) (range_with_len 0 (entries_per_word long))) ≡ take (entries_per_word long) (drop place xs)
window long xs place = simp (length-drop, get_or-drop) at (front long (drop place xs))

module _ (list_words : HasListWords) (graph : RawCodec) where
  module _ (nid : ℕ) (node : RawNode) (at : IsWidgetAt graph nid node) where
    abbrev Answers : Command → ℕ → Type 0
    Answers = CanAnswer graph

    abbrev per : ℕ
    per = entries_per_word node.long

    -- the widget with so many of its entries
    abbrev listing : List ℕ → RawNode
    listing entries = record (unlisted node) { power = 0; entries = entries }

    -- the widget with the words before its list alone
    abbrev bare : RawNode
    bare = record (unlisted node) { power = 0; long = false; entries = [] }

    more_entries : (place : ℕ) → take place node.entries ++ take (length node.entries - place) (entries_of_word node.long (list_word node.long node.entries place)) ≡ take (place + per) node.entries
    more_entries place =
        rw (list_words node.long node.entries place at.readable.fit, window node.long node.entries place) (take_join place per node.entries)

    abbrev from_place : ℕ → (RawNode → Dialogue) → ℕ → ℕ → List ℕ → Dialogue
    from_place words rest place left entries = from_entries words graph.address nid place left (listing entries) rest

    moved : (commands : List Command) (to : Dialogue) (words : ℕ) (rest : RawNode → Dialogue) (place place' left left' : ℕ) (entries entries' : List ℕ)
        → place ≡ place' → left ≡ left' → entries ≡ entries' → Leads Answers commands (from_place words rest place left entries) to → Leads Answers commands (from_place words rest place' left' entries') to
    moved commands to words rest place place' left left' entries entries' p l e leads =
        subst (λ (x : ℕ). Leads Answers commands (from_place words rest x left' entries') to) p
        (subst (λ (x : ℕ). Leads Answers commands (from_place words rest place x entries') to) l
        (subst (λ (x : List ℕ). Leads Answers commands (from_place words rest place left x) to) e leads))

    leads_entries : (words word : ℕ) (rest : RawNode → Dialogue) → words ≡ words_for node.long (length node.entries - word * per)
        → Leads Answers (map (λ word. list_command graph.address nid (word * per)) (range_with_len word words))
        (from_place words rest (word * per) (length node.entries - word * per) (take (word * per) node.entries)) (rest (listing node.entries))
    leads_entries zero word rest are =
        let none = none_left node.long (length node.entries - word * per) are in
        ap (λ (entries : List ℕ). rest (listing entries)) (take_all (word * per) node.entries (omega arith))
    leads_entries (suc words) word rest are =
        let place = word * per in
        let next : words ≡ words_for node.long (length node.entries - (word + 1) * per) =
        more_left node.long (length node.entries - place) words are
        ∙ ap (words_for node.long) (let e = place_more node.long word in omega arith) in
        leads_ask Answers (list_command graph.address nid place) _ (list_word node.long node.entries place) _ _
        (λ answer can. answering.entries_answer graph nid node at word answer can)
        (moved _ _ words rest ((word + 1) * per) (place + per) (length node.entries - (word + 1) * per) (length node.entries - place - per) (take ((word + 1) * per) node.entries) _
        (place_more node.long word)
        (let e = place_more node.long word in omega arith)
        (ap (λ (n : ℕ). take n node.entries) (place_more node.long word) ∙ sym (more_entries place))
        (leads_entries words (word + 1) rest next))

    -- all of the connection list, or nothing where there is none
    leads_length : (rest : RawNode → Dialogue)
        → Leads Answers (connection_commands graph.address nid node) (from_length graph.address nid bare rest) (rest (listing node.entries))
    leads_length rest = by (has_list node) refl
      where
        asked : Leads Answers (entry_commands graph.address nid node)
            (from_entries (words_for (is_long (list_length node)) (entries_told (list_length node))) graph.address nid 0 (entries_told (list_length node)) (record bare { long = is_long (list_length node) }) rest)
            (rest (listing node.entries))
        asked =
            rw (answering.told_long graph nid node at, answering.told_entries graph nid node at)
            (moved (entry_commands graph.address nid node) (rest (listing node.entries)) (words_for node.long (length node.entries)) rest (0 * per) 0 (length node.entries - 0 * per) (length node.entries) (take (0 * per) node.entries) []
            (place_none node.long) (let e = place_none node.long in omega arith) (ap (λ (n : ℕ). take n node.entries) (place_none node.long))
            (leads_entries (words_for node.long (length node.entries)) 0 rest (ap (words_for node.long) (let e = place_none node.long in omega arith))))

        short : has_list node ≡ false → bare ≡ listing node.entries
        short e =
            let long : node.long ≡ false = sym (ap (λ (n : RawNode). n.long) at.is_normal) ∙ ap (λ b. b && node.long) e in
            let none : node.entries ≡ [] = sym (ap (λ (n : RawNode). n.entries) at.is_normal) ∙ ap (λ b. cond b node.entries []) e in
            rw (long, none) refl

        by : (b : Bool) → has_list node ≡ b
            → Leads Answers (cond b (parameter_command graph.address nid ListLength ∷ entry_commands graph.address nid node) [])
            (cond b (Ask (parameter_command graph.address nid ListLength) (λ answer. from_entries (words_for (is_long answer) (entries_told answer)) graph.address nid 0 (entries_told answer) (record bare { long = is_long answer }) rest)) (rest bare))
            (rest (listing node.entries))
        by true e = leads_ask Answers _ _ (list_length node) _ _ (λ answer can. answering.widget_answer graph nid node at ListLength answer can) asked
        by false e = ap rest (short e)

    leads_power : (rest : RawNode → Dialogue)
        → Leads Answers (power_commands graph.address nid node) (from_power graph.address nid (listing node.entries) rest) (rest (unlisted node))
    leads_power rest = by (has_power_control node) refl
      where
        by : (b : Bool) → has_power_control node ≡ b
            → Leads Answers (cond b (parameter_command graph.address nid PowerStates ∷ []) [])
            (cond b (Ask (parameter_command graph.address nid PowerStates) (λ answer. rest (record (listing node.entries) { power = answer }))) (rest (listing node.entries)))
            (rest (unlisted node))
        by true e = leads_ask Answers _ _ node.power [] _ (λ answer can. answering.widget_answer graph nid node at PowerStates answer can) refl
        by false e =
            let none : node.power ≡ 0 = sym (ap (λ (n : RawNode). n.power) at.is_normal) ∙ ap (λ b. kept_word b node.power) e in
            ap (λ (power : ℕ). rest (record (unlisted node) { power = power })) (sym none)

    abbrev asks : List NodeWord → List Command
    asks words = map (word_command graph.address nid) (filter (applies node) words)

    leads_word : (word : NodeWord) (words : List NodeWord) (start : RawNode) (rest : RawNode → Dialogue) (to : Dialogue)
        → applies start word ≡ applies node word → with_word start word 0 ≡ start
        → Leads Answers (asks words) (from_words words graph.address nid (with_word start word (answering.field graph nid node at word)) rest) to
        → Leads Answers (asks (word ∷ words)) (from_words (word ∷ words) graph.address nid start rest) to
    unfolding from_words
    leads_word word words start rest to same none leads = by (applies node word) refl
      where
        by : (b : Bool) → applies node word ≡ b
            → Leads Answers (map (word_command graph.address nid) (cond b (word ∷ filter (applies node) words) (filter (applies node) words)))
            (cond (applies start word) (Ask (word_command graph.address nid word) (λ answer. from_words words graph.address nid (with_word start word answer) rest)) (from_words words graph.address nid start rest)) to
        by true e =
            rw (same, e) (leads_ask Answers _ _ (answering.field graph nid node at word) _ _ (λ answer can. answering.word_answer graph nid node at word e answer can) leads)
        by false e =
            let zero : answering.field graph nid node at word ≡ 0 = answering.no_word graph nid node at word e in
            let here : with_word start word (answering.field graph nid node at word) ≡ start = ap (λ (value : ℕ). with_word start word value) zero ∙ none in
            rw (same, e) (subst (λ (n : RawNode). Leads Answers (asks words) (from_words words graph.address nid n rest) to) here leads)

    leads_words : (rest : RawNode → Dialogue) → Leads Answers (asks node_words) (from_words node_words graph.address nid (plain_node node.caps) rest) (rest bare)
    unfolding from_words
    leads_words rest =
        let s0 : RawNode = plain_node node.caps in
        let s1 : RawNode = record s0 { pcm = node.pcm } in
        let s2 : RawNode = record s1 { formats = node.formats } in
        let s3 : RawNode = record s2 { pin_caps = node.pin_caps } in
        let s4 : RawNode = record s3 { default = node.default } in
        let s5 : RawNode = record s4 { amp_in = node.amp_in } in
        leads_word Pcm (later Pcm) s0 rest (rest bare) refl refl
        (leads_word Formats (later Formats) s1 rest (rest bare) refl refl
        (leads_word PinCaps (later PinCaps) s2 rest (rest bare) refl refl
        (leads_word Default (later Default) s3 rest (rest bare) refl refl
        (leads_word AmpIn (later AmpIn) s4 rest (rest bare) refl refl
        (leads_word AmpOut (later AmpOut) s5 rest (rest bare) refl refl refl)))))

    -- the whole widget
    leads_node : (rest : RawNode → Dialogue)
        → Leads Answers (node_commands graph.address nid node)
        (Ask (parameter_command graph.address nid WidgetCapabilities) (λ answer. from_node graph.address nid (plain_node answer) rest)) (rest (unlisted node))
    leads_node rest =
        leads_ask Answers _ _ node.caps _ _ (λ answer can. answering.widget_answer graph nid node at WidgetCapabilities answer can)
        (leads_append Answers (asks node_words) (connection_commands graph.address nid node ++ power_commands graph.address nid node) _ _ _
        (leads_words (λ node. from_length graph.address nid node (λ node. from_power graph.address nid node rest)))
        (leads_append Answers (connection_commands graph.address nid node) (power_commands graph.address nid node) _ _ _
        (leads_length (λ node. from_power graph.address nid node rest)) (leads_power rest)))

  pub leads_widgets : (nodes before : List RawNode) (nid : ℕ) → AreWidgetsAt graph nid nodes
      → Leads (CanAnswer graph) (nodes_commands graph.address nid nodes) (from_widgets (length nodes) nid (record graph { nodes = before }))
      (Told (record graph { nodes = before ++ map unlisted nodes }))
  leads_widgets [] before nid at = ap (λ (nodes : List RawNode). Told (record graph { nodes = nodes })) (sym (append-nil before))
  leads_widgets (node ∷ nodes) before nid at =
      leads_append (CanAnswer graph) (node_commands graph.address nid node) (nodes_commands graph.address (nid + 1) nodes)
      (from_widgets (length (node ∷ nodes)) nid (record graph { nodes = before }))
      (from_widgets (length nodes) (nid + 1) (record graph { nodes = before ++ unlisted node ∷ [] }))
      (Told (record graph { nodes = before ++ map unlisted (node ∷ nodes) }))
      (leads_node nid node at.0 (λ node. from_widgets (length nodes) (nid + 1) (with_node (record graph { nodes = before }) node)))
      (subst (λ (all : List RawNode). Leads (CanAnswer graph) (nodes_commands graph.address (nid + 1) nodes) (from_widgets (length nodes) (nid + 1) (record graph { nodes = before ++ unlisted node ∷ [] })) (Told (record graph { nodes = all })))
      (append_assoc before (unlisted node ∷ []) (map unlisted nodes))
      (leads_widgets nodes (before ++ unlisted node ∷ []) (nid + 1) at.1))
