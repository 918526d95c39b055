-- The whole walk over a well-formed graph: what it asks, and that the graph is told.
use Rattle.std.proofs.Common.{◌≡◌, ◌<◌, ◌+◌, ◌*◌, ◌/◌, ◌%◌, ◌^◌, ◌-◌, ℕ, zero, suc, Bool, true, false, cond, List, [], ◌∷◌, ◌++◌, map, Some, None, Ok, Err, Result, refl, sym, ap, ◌∙◌, subst, arith}
use Rattle.std.specs.Prelude.{All, slice_get, nat_lt}
use Rattle.std.specs.Option.{option_and_then}
use Rattle.std.specs.Result.{result_err, result_unwrap_or}
use Rattle.std.proofs.lemmas.List.Elements.{All-head, All-tail}
use Rattle.codec_graph.specs.declared.raw.GroupWords.{GroupWords}
use Rattle.codec_graph.specs.declared.raw.RawNode.{RawNode}
use Rattle.codec_graph.specs.declared.raw.RawCodec.{RawCodec}
use Rattle.codec_graph.specs.Widget.{normal_node}
use Rattle.codec_graph.specs.Listed.{HasReadableList, list_fault, listed_node}
use Rattle.codec_graph.specs.Cycles.{IsWellFormed, IsFirstFault}
use Rattle.verb_codes.specs.declared.entries.ListFault.{ListFault}
use Rattle.verb_codes.specs.declared.verbs.Command.{Command}
use Rattle.codec_walk.specs.declared.words.CodecWord.{CodecWord}
use Rattle.codec_walk.specs.declared.words.CodecWord.TheVariants.{Vendor, Revision, Groups, GroupType, Widgets, GroupPcm, GroupFormats, GroupAmpIn, GroupAmpOut, GroupPower}
use Rattle.codec_walk.specs.Dialogues.{Dialogue, Told}
use Rattle.codec_walk.specs.Words.{later_codec, codec_words, codec_command, with_codec_word}
use Rattle.codec_walk.specs.Walks.{unknown, from_codec, from_widgets, from_count, walk}
use Rattle.codec_walk.specs.Commands.{nodes_commands, walk_commands}
use Rattle.codec_walk.specs.Replies.{CanAnswer}
use Rattle.codec_walk.specs.declared.fault.WalkError.{WalkError}
use Rattle.codec_walk.specs.declared.fault.WalkError.TheVariants.{Malformed, OutOfMemory}
use Rattle.codec_walk.specs.declared.fault.WalkFault.TheVariants as walk_fault
use Rattle.std.specs.Prelude.{◌⊎◌}
use Rattle.std.proofs.Common.{inl, inr}
use Rattle.std.proofs.lemmas.Option.{none-some}
use Rattle.codec_graph.proofs.Callers.{counted}
use Rattle.codec_walk.specs.Outcomes.{HasGoodLists, IsGood, IsOutcome}
use Rattle.codec_walk.proofs.OneOutcome.{no_first}
use Rattle.codec_walk.proofs.Leading.{Leads}
use Rattle.codec_walk.proofs.Counted.{widgets_there, widgets_at}
use Rattle.codec_walk.proofs.Answering.{codec_value, codec_answer}
use Rattle.codec_walk.proofs.Following.{HasListWords, unlisted, leads_widgets}

-- the words that are told: the lists are still to be expanded
abbrev pub unlisted_codec : RawCodec → RawCodec
unlisted_codec codec = record codec { nodes = map unlisted codec.nodes }

module _ (list_words : HasListWords) (graph : RawCodec) (well : IsWellFormed graph) where
  abbrev Answers : Command → ℕ → Type 0
  Answers = CanAnswer graph

  leads_word : (word : CodecWord) (words : List CodecWord) (codec next : RawCodec) (rest : RawCodec → Dialogue) (commands : List Command) (to : Dialogue)
      → codec_command codec word ≡ codec_command graph word → with_codec_word codec word (codec_value graph word) ≡ next
      → Leads Answers commands (from_codec words next rest) to
      → Leads Answers (codec_command graph word ∷ commands) (from_codec (word ∷ words) codec rest) to
  unfolding from_codec
  leads_word word words codec next rest commands to same put leads = (
    ap Some same,
    λ answer can.
        subst (λ (dialogue : Dialogue). Leads Answers commands dialogue to)
        (sym (ap (λ (c : RawCodec). from_codec words c rest) (ap (λ (value : ℕ). with_codec_word codec word value) (codec_answer graph (counted graph well) word answer can) ∙ put)))
        leads,
  )

  -- the codec as far as it is told
  abbrev known : ℕ → ℕ → ℕ → ℕ → ℕ → ℕ → GroupWords → RawCodec
  known vendor revision group type first count words = record {
    address = graph.address;
    vendor = vendor;
    revision = revision;
    group = group;
    group_type = type;
    group_words = words;
    first = first;
    count = count;
    nodes = [];
  }

  abbrev words_of : ℕ → ℕ → ℕ → ℕ → ℕ → GroupWords
  words_of pcm formats amp_in amp_out power = record { pcm = pcm; formats = formats; amp_in = amp_in; amp_out = amp_out; power = power }

  group_read : (group : ℕ) → group < 128 → (group * 2 ^ 16 + 1) / 2 ^ 16 % 2 ^ 7 ≡ group
  group_read group low = omega arith

  first_read : (first count : ℕ) → first < 2 ^ 8 → count < 2 ^ 8 → (first * 2 ^ 16 + count) / 2 ^ 16 % 2 ^ 8 ≡ first
  first_read first count low few = omega arith

  count_read : (first count : ℕ) → first < 2 ^ 8 → count < 2 ^ 8 → (first * 2 ^ 16 + count) / 2 ^ 0 % 2 ^ 8 ≡ count
  count_read first count low few = omega arith

  leads_codec : (rest : RawCodec → Dialogue) (commands : List Command) (to : Dialogue) → Leads Answers commands (rest (record graph { nodes = [] })) to
      → Leads Answers (map (codec_command graph) codec_words ++ commands) (from_codec codec_words (unknown graph.address) rest) to
  unfolding from_codec
  leads_codec rest commands to leads =
      let g = graph in
      let w = graph.group_words in
      let none : GroupWords = words_of 0 0 0 0 0 in
      let group = group_read g.group (counted graph well).group_below in
      let first = first_read g.first g.count well.words.first well.words.count in
      let count = count_read g.first g.count well.words.first well.words.count in
      leads_word Vendor (later_codec Vendor) (unknown g.address) (known g.vendor 0 0 0 0 0 none) rest (map (codec_command graph) (later_codec Vendor) ++ commands) to refl refl
      (leads_word Revision (later_codec Revision) (known g.vendor 0 0 0 0 0 none) (known g.vendor g.revision 0 0 0 0 none) rest (map (codec_command graph) (later_codec Revision) ++ commands) to refl refl
      (leads_word Groups (later_codec Groups) (known g.vendor g.revision 0 0 0 0 none) (known g.vendor g.revision g.group 0 0 0 none) rest (map (codec_command graph) (later_codec Groups) ++ commands) to refl (ap (λ (n : ℕ). known g.vendor g.revision n 0 0 0 none) group)
      (leads_word GroupType (later_codec GroupType) (known g.vendor g.revision g.group 0 0 0 none) (known g.vendor g.revision g.group g.group_type 0 0 none) rest (map (codec_command graph) (later_codec GroupType) ++ commands) to refl refl
      (leads_word Widgets (later_codec Widgets) (known g.vendor g.revision g.group g.group_type 0 0 none) (known g.vendor g.revision g.group g.group_type g.first g.count none) rest (map (codec_command graph) (later_codec Widgets) ++ commands) to refl
      (ap (λ (n : ℕ). known g.vendor g.revision g.group g.group_type n (codec_value graph Widgets / 2 ^ 0 % 2 ^ 8) none) first ∙ ap (λ (n : ℕ). known g.vendor g.revision g.group g.group_type g.first n none) count)
      (leads_word GroupPcm (later_codec GroupPcm) (known g.vendor g.revision g.group g.group_type g.first g.count none) (known g.vendor g.revision g.group g.group_type g.first g.count (words_of w.pcm 0 0 0 0)) rest (map (codec_command graph) (later_codec GroupPcm) ++ commands) to refl refl
      (leads_word GroupFormats (later_codec GroupFormats) (known g.vendor g.revision g.group g.group_type g.first g.count (words_of w.pcm 0 0 0 0)) (known g.vendor g.revision g.group g.group_type g.first g.count (words_of w.pcm w.formats 0 0 0)) rest (map (codec_command graph) (later_codec GroupFormats) ++ commands) to refl refl
      (leads_word GroupAmpIn (later_codec GroupAmpIn) (known g.vendor g.revision g.group g.group_type g.first g.count (words_of w.pcm w.formats 0 0 0)) (known g.vendor g.revision g.group g.group_type g.first g.count (words_of w.pcm w.formats w.amp_in 0 0)) rest (map (codec_command graph) (later_codec GroupAmpIn) ++ commands) to refl refl
      (leads_word GroupAmpOut (later_codec GroupAmpOut) (known g.vendor g.revision g.group g.group_type g.first g.count (words_of w.pcm w.formats w.amp_in 0 0)) (known g.vendor g.revision g.group g.group_type g.first g.count (words_of w.pcm w.formats w.amp_in w.amp_out 0)) rest (map (codec_command graph) (later_codec GroupAmpOut) ++ commands) to refl refl
      (leads_word GroupPower (later_codec GroupPower) (known g.vendor g.revision g.group g.group_type g.first g.count (words_of w.pcm w.formats w.amp_in w.amp_out 0)) (record graph { nodes = [] }) rest commands to refl refl
      leads)))))))))

  leads_count : Leads Answers (nodes_commands graph.address graph.first graph.nodes) (from_count (record graph { nodes = [] })) (Told (unlisted_codec graph))
  leads_count =
      rw (widgets_there graph (counted graph well))
      (subst (λ (count : ℕ). Leads Answers (nodes_commands graph.address graph.first graph.nodes) (from_widgets count graph.first (record graph { nodes = [] })) (Told (unlisted_codec graph)))
      (counted graph well).as_many
      (leads_widgets list_words graph graph.nodes [] graph.first (widgets_at graph well)))

  pub leads_walk : Leads Answers (walk_commands graph) (walk graph.address) (Told (unlisted_codec graph))
  unfolding walk walk_commands
  leads_walk = leads_codec from_count (nodes_commands graph.address graph.first graph.nodes) (Told (unlisted_codec graph)) leads_count

-- ---- what was told is the graph

relisted : (node : RawNode) → HasReadableList node → listed_node (unlisted node) ≡ node
relisted node readable = ap (λ (expansion : Result (List ℕ) ListFault). record node { list = result_unwrap_or expansion [] }) readable.expanded

meant_node : (nodes : List RawNode) → All HasReadableList nodes → map normal_node nodes ≡ nodes → map normal_node (map listed_node (map unlisted nodes)) ≡ nodes
meant_node [] readables normals = refl
meant_node (node ∷ nodes) readables normals =
    let here : normal_node node ≡ node = cc in
    let rest : map normal_node nodes ≡ nodes = cc in
    let first = relisted node (All-head HasReadableList node nodes readables) in
    let others = meant_node nodes (All-tail HasReadableList node nodes readables) rest in
    ap (λ (n : RawNode). normal_node n ∷ map normal_node (map listed_node (map unlisted nodes))) first ∙ ap (λ (n : RawNode). n ∷ map normal_node (map listed_node (map unlisted nodes))) here ∙ ap (λ (ns : List RawNode). node ∷ ns) others

good_place : (nodes : List RawNode) → All HasReadableList nodes → (place : ℕ) → option_and_then list_fault (slice_get (map unlisted nodes) place) ≡ None
good_place [] readables place = refl
good_place (node ∷ nodes) readables zero = ap result_err (All-head HasReadableList node nodes readables).expanded
good_place (node ∷ nodes) readables (suc place) = good_place nodes (All-tail HasReadableList node nodes readables) place

good_lists : (graph : RawCodec) → IsWellFormed graph → HasGoodLists (unlisted_codec graph)
good_lists graph well nid = by (nat_lt nid graph.first)
  where
    by : (b : Bool) → option_and_then list_fault (cond b None (slice_get (map unlisted graph.nodes) (nid - graph.first))) ≡ None
    by true = refl
    by false = good_place graph.nodes well.lists (nid - graph.first)

pub told_good : (graph : RawCodec) → IsWellFormed graph → IsGood (unlisted_codec graph) graph
told_good graph well = record {
  lists = good_lists graph well;
  value = ap (λ (nodes : List RawNode). record graph { nodes = nodes }) (sym (meant_node graph.nodes well.lists (ap (λ (c : RawCodec). c.nodes) well.tables.is_normal)));
  well_formed = well;
}

-- and nothing else comes of it but want of memory
pub only_graph : (codec graph : RawCodec) (result : Result RawCodec WalkError) → IsGood codec graph → IsOutcome codec result → (result ≡ Ok graph) ⊎ (result ≡ Err OutOfMemory)
only_graph codec graph (Ok other) good outcome = inl (ap Ok (outcome.value ∙ sym good.value))
only_graph codec graph (Err (Malformed (walk_fault.List nid fault))) good outcome = absurd (none-some fault (sym (good.lists nid) ∙ outcome.here))
only_graph codec graph (Err (Malformed (walk_fault.Graph fault))) good outcome =
    absurd (no_first graph fault good.well_formed (subst (λ (g : RawCodec). IsFirstFault g fault) (sym good.value) outcome.1))
only_graph codec graph (Err OutOfMemory) good outcome = inr refl
