-- What comes of a walk: the graph of the words that were told, or what they have wrong. That the faults of connection
-- lists come before those of the graph, the one of the least node identifier first, is this project's own.
use Rattle.std.specs.Prelude.{◌≡◌, ℕ, None, Result, Ok, Err, ⊤}
use Rattle.codec_graph.specs.declared.raw.RawCodec.{RawCodec}
use Rattle.codec_graph.specs.Widget.{normal}
use Rattle.codec_graph.specs.Listed.{listed, codec_list_fault, IsFirstListFault}
use Rattle.codec_graph.specs.Cycles.{IsWellFormed, IsFirstFault}
use Rattle.codec_walk.specs.declared.fault.WalkError.{WalkError}
use Rattle.codec_walk.specs.declared.fault.WalkError.TheVariants.{Malformed, OutOfMemory}
use Rattle.codec_walk.specs.declared.fault.WalkFault.{WalkFault}
use Rattle.codec_walk.specs.declared.fault.WalkFault.TheVariants.{List, Graph}
use Rattle.codec_walk.specs.Dialogues.{Dialogue, Ask, Told}

-- the graph that was told: each connection list expanded, and only the words that apply
abbrev pub graph_told : RawCodec → RawCodec
graph_told codec = normal (listed codec)

-- no connection list has a fault
abbrev pub HasGoodLists : RawCodec → Type 0
HasGoodLists codec = (nid : ℕ) → codec_list_fault codec nid ≡ None

abbrev pub IsFaultOf : RawCodec → WalkFault → Type 0
IsFaultOf codec (List nid fault) = IsFirstListFault (codec_list_fault codec) nid fault
IsFaultOf codec (Graph fault) = HasGoodLists codec × IsFirstFault (graph_told codec) fault

-- a walk's words are well-formed
pub record IsGood (codec graph : RawCodec) : Type 0 where
  pub lists : HasGoodLists codec
  pub value : graph ≡ graph_told codec
  pub well_formed : IsWellFormed graph

abbrev pub IsOutcome : RawCodec → Result RawCodec WalkError → Type 0
IsOutcome codec (Ok graph) = IsGood codec graph
IsOutcome codec (Err (Malformed fault)) = IsFaultOf codec fault
IsOutcome codec (Err OutOfMemory) = ⊤

-- what comes of a dialogue in which nothing is asked any more
abbrev pub IsOutcomeOf : Dialogue → Result RawCodec WalkError → Type 0
IsOutcomeOf (Ask command rest) result = ⊥
IsOutcomeOf (Told codec) result = IsOutcome codec result
