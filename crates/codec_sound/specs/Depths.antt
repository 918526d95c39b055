-- How far connections lead through mixers and selectors, and how much of a table of signals is worked out.
use Rattle.std.specs.Prelude.{◌≡◌, ℕ, zero, suc, Bool, List, Contains, slice_index_or}
use Rattle.codec_graph.specs.declared.raw.RawCodec.{RawCodec}
use Rattle.codec_graph.specs.Cycles.{inner_list}
use Rattle.codec_graph.specs.Marks.{IsMarked}
use Rattle.codec_graph.specs.Settings.{Entries}
use Rattle.codec_sound.specs.declared.signals.Signal.{Signal}
use Rattle.codec_sound.specs.declared.signals.Signal.TheVariants.{Silence}
use Rattle.codec_sound.specs.declared.sources.Sources.{Sources}
use Rattle.codec_sound.specs.Signals.{out_from}

-- connections lead from the node over less than so many mixers and selectors
unfoldable pub IsShallow : RawCodec → ℕ → ℕ → Type 0
IsShallow codec zero nid = ⊥
IsShallow codec (suc nodes) nid = (to : ℕ) → Contains (inner_list codec nid) to → IsShallow codec nodes to

-- the signal at a node's place of a table
abbrev pub in_table : List Signal → ℕ → Signal
in_table table nid = slice_index_or table nid Silence

-- all nodes that this one lists are marked
abbrev pub IsReady : RawCodec → List Bool → ℕ → Type 0
IsReady codec known nid = (to : ℕ) → Contains (inner_list codec nid) to → IsMarked known to

-- the table has what each marked node gives
abbrev pub AreRight : Sources → RawCodec → Entries → List Signal → List Bool → Type 0
AreRight sources codec settings table known = (nid : ℕ) → IsMarked known nid
    → in_table table nid ≡ out_from sources codec settings nid
