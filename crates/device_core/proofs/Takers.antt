-- Which input converter takes a stream, by how many do.
use Rattle.std.proofs.Common.{◌≡◌, ◌≤◌, ◌<◌, ◌+◌, ℕ, Bool, true, false, List, [], ◌∷◌, ◌++◌, length, take, map, get_or, if◌then◌else◌, Option, Some, None, refl, sym, ap, ap₂, ◌∙◌, zero-add, append_assoc}
use Rattle.std.specs.Prelude.{filter}
use Rattle.std.specs.List.{flat_map, range_with_len}
use Rattle.std.proofs.lemmas.List.{append-nil, map-append, map-id, take_all, take_more}
use Rattle.std.proofs.lemmas.Grind.{flat_map-append}
use Rattle.std.proofs.lemmas.List.Elements.{filter-append}
use Rattle.std.proofs.lemmas.List.FromFn.{map-range_with_len_more}
use Rattle.codec_graph.specs.declared.raw.RawCodec.{RawCodec}
use Rattle.codec_graph.specs.CodecStates.{CodecState}
use Rattle.codec_graph.specs.Settings.{Entries}
use Rattle.codec_graph.specs.Widget.{node_identifiers, node_at}
use Rattle.codec_sound.specs.declared.in_heard.InHeard.{InHeard}
use Rattle.codec_sound.specs.Inward.{in_signal_of, is_taking}
use Rattle.hda_world.specs.Arriving.{brought_by_codec, brought_by, brought_alone, listened}
use Rattle.device_core.specs.Codecs.{KeepCodecs, graphs_of_all, settings_of_all}
use Rattle.device_core.specs.Captures.{IsSourceOf, with_taker, takers_of}
use Rattle.device_core.specs.declared.listening.Takers.{Takers}
use Rattle.device_core.specs.declared.listening.Takers.TheVariants.{Nobody, One, Several}
use Rattle.device_core.specs.declared.capture.Source.{Source}
use Rattle.device_core.specs.declared.capture.Source.TheVariants.{Stale, Fresh}

-- ---- how many take it

pub takers-one : (before : List InHeard) (heard : InHeard) → takers_of (before ++ heard ∷ []) ≡ with_taker (takers_of before) heard
takers-one [] heard = refl
takers-one (first ∷ []) heard = refl
takers-one (first ∷ second ∷ rest) heard = refl

-- what is heard of them
abbrev pub heard_by : Takers → Option InHeard
heard_by Nobody = None
heard_by (One heard) = Some heard
heard_by Several = None

pub alone-takers : (list : List InHeard) → heard_by (takers_of list) ≡ brought_alone list
alone-takers [] = refl
alone-takers (one ∷ []) = refl
alone-takers (one ∷ other ∷ rest) = refl

pub listened-takers : (tag word : ℕ) (codecs : List CodecState) → heard_by (takers_of (brought_by tag word codecs)) ≡ listened tag word codecs
unfolding listened
listened-takers tag word codecs = alone-takers (brought_by tag word codecs)

-- ---- node by node

range_more : (from many : ℕ) → range_with_len from (many + 1) ≡ range_with_len from many ++ (from + many) ∷ []
range_more from many = sym (map-id (range_with_len from (many + 1))) ∙ map-range_with_len_more (λ n. n) from many (from + many) refl ∙ ap (λ (front : List ℕ). front ++ (from + many) ∷ []) (map-id (range_with_len from many))

module _ {A : Type 0} (takes : ℕ → Bool) (hears : ℕ → A) where
  -- what those hear that take, of the nodes below a number
  abbrev pub heard_below : ℕ → List A
  heard_below many = map hears (filter takes (range_with_len 0 many))

  one_heard : (nid : ℕ) (taken : Bool) → takes nid ≡ taken → map hears (filter takes (nid ∷ [])) ≡ (if taken then hears nid ∷ [] else [])
  one_heard nid true is = rw is refl
  one_heard nid false is = rw is refl

  heard_more : (many : ℕ) (taken : Bool) → takes many ≡ taken → heard_below (many + 1) ≡ heard_below many ++ (if taken then hears many ∷ [] else [])
  heard_more many taken is =
      ap (λ (nodes : List ℕ). map hears (filter takes nodes)) (range_more 0 many ∙ ap (λ (last : ℕ). range_with_len 0 many ++ last ∷ []) (zero-add many))
      ∙ (ap (map hears) (filter-append takes (range_with_len 0 many) (many ∷ []))
      ∙ (map-append hears (filter takes (range_with_len 0 many)) (filter takes (many ∷ []))
      ∙ ap (λ (last : List A). heard_below many ++ last) (one_heard many taken is)))

-- the takers after the codec's nodes below a number
abbrev pub takers_below : (before : List InHeard) (tag word : ℕ) (codec : CodecState) (many : ℕ) → Takers
takers_below before tag word codec many = takers_of
    (before ++ heard_below (λ nid. is_taking codec.settings tag word nid (node_at codec.graph nid)) (in_signal_of codec.graph codec.settings) many)

module _ (before : List InHeard) (tag word : ℕ) (codec : CodecState) where
  abbrev takes : ℕ → Bool
  takes nid = is_taking codec.settings tag word nid (node_at codec.graph nid)

  abbrev hears : ℕ → InHeard
  hears = in_signal_of codec.graph codec.settings

  pub takers-none : takers_of before ≡ takers_below before tag word codec 0
  takers-none = sym (ap takers_of (append-nil before))

  pub takers-taken : (many : ℕ) → takes many ≡ true → takers_below before tag word codec (many + 1) ≡ with_taker (takers_below before tag word codec many) (hears many)
  takers-taken many is =
      ap (λ (list : List InHeard). takers_of (before ++ list)) (heard_more takes hears many true is)
      ∙ (ap takers_of (sym (append_assoc before (heard_below takes hears many) (hears many ∷ [])))
      ∙ takers-one (before ++ heard_below takes hears many) (hears many))

  pub takers-passed : (many : ℕ) → takes many ≡ false → takers_below before tag word codec (many + 1) ≡ takers_below before tag word codec many
  takers-passed many is = ap (λ (list : List InHeard). takers_of (before ++ list)) (heard_more takes hears many false is ∙ append-nil (heard_below takes hears many))

  pub takers-all : (many : ℕ) → many ≡ node_identifiers → takers_below before tag word codec many ≡ takers_of (before ++ brought_by_codec tag word codec)
  takers-all many is = ap (takers_below before tag word codec) is

-- ---- codec by codec

pub brought-more : (tag word : ℕ) (codecs : List CodecState) (place : ℕ) (default : CodecState) → place < length codecs
    → brought_by tag word (take (place + 1) codecs) ≡ brought_by tag word (take place codecs) ++ brought_by_codec tag word (get_or codecs place default)
brought-more tag word codecs place default within =
    let of : CodecState → List InHeard = brought_by_codec tag word in
    ap (flat_map of) (take_more codecs place default within)
    ∙ (flat_map-append of (take place codecs) (get_or codecs place default ∷ [])
    ∙ ap (λ (last : List InHeard). flat_map of (take place codecs) ++ last) (append-nil (of (get_or codecs place default))))

-- all of them
pub listened-where : (tag word : ℕ) (codecs : List CodecState) (place : ℕ) (takers : Takers) → length codecs ≤ place → takers ≡ takers_of (brought_by tag word (take place codecs))
    → heard_by takers ≡ listened tag word codecs
listened-where tag word codecs place takers past is =
    ap heard_by (is ∙ ap (λ (front : List CodecState). takers_of (brought_by tag word front)) (take_all place codecs past)) ∙ listened-takers tag word codecs

-- ---- codecs whose graphs and settings stay

brought_at : (tag word : ℕ) → RawCodec → Entries → List InHeard
brought_at tag word graph settings = heard_below (λ nid. is_taking settings tag word nid (node_at graph nid)) (in_signal_of graph settings) node_identifiers

brought_same : (tag word : ℕ) (old new : CodecState) → new.graph ≡ old.graph → new.settings ≡ old.settings → brought_by_codec tag word new ≡ brought_by_codec tag word old
unfolding brought_at
brought_same tag word old new graph settings = ap (λ (graph : RawCodec). brought_at tag word graph new.settings) graph ∙ ap (brought_at tag word old.graph) settings

kept_by : (tag word : ℕ) (old new : List CodecState) → graphs_of_all new ≡ graphs_of_all old → settings_of_all new ≡ settings_of_all old → brought_by tag word new ≡ brought_by tag word old
kept_by tag word [] [] graphs settings = refl
kept_by tag word [] (codec ∷ codecs) graphs settings = cc
kept_by tag word (codec ∷ codecs) [] graphs settings = cc
kept_by tag word (old ∷ olds) (new ∷ news) graphs settings =
    let graph_list : new.graph ∷ graphs_of_all news ≡ old.graph ∷ graphs_of_all olds = graphs in
    let settings_list : new.settings ∷ settings_of_all news ≡ old.settings ∷ settings_of_all olds = settings in
    let graph : new.graph ≡ old.graph = cc in
    let rest_graphs : graphs_of_all news ≡ graphs_of_all olds = cc in
    let setting : new.settings ≡ old.settings = cc in
    let rest_settings : settings_of_all news ≡ settings_of_all olds = cc in
    ap₂ ◌++◌ (brought_same tag word old new graph setting) (kept_by tag word olds news rest_graphs rest_settings)

pub listened-kept : (tag word : ℕ) (old new : List CodecState) → KeepCodecs old new → listened tag word new ≡ listened tag word old
unfolding listened
listened-kept tag word old new keeps = ap brought_alone (kept_by tag word old new keeps.graphs keeps.settings)

-- so what was worked out stays what it is
pub source-kept : (source : Source) (old new : List CodecState) → KeepCodecs old new → IsSourceOf source old → IsSourceOf source new
source-kept Stale old new keeps is = tt
source-kept (Fresh last) old new keeps is = is ∙ sym (listened-kept last.tag last.word old new keeps)
