use Rattle.std.proofs.Common.{subst, sym, Option}
use Rattle.std.specs.Prelude.{All, MatchOption, ◌≡◌, ℕ, None}
use Rattle.codec_graph.proofs.Callers.{readable_codec}
use Rattle.codec_graph.specs.Listed.{HasReadableList, listed, codec_list_fault, IsFirstListFault}
use Rattle.codec_graph.specs.declared.listed.FaultyList.{FaultyList}
use Rattle.codec_graph.specs.declared.raw.RawCodec.{RawCodec}
use Rattle.codec_walk.proofs.outcome.graph_of.Goals as goal

pub check-requires : goal.check-requires
check-requires c =
    let old = c.args.codec in
    let new = c.expand_lists.new.self in
    let found = subst (λ (found : Option FaultyList). MatchOption found
    ((new ≡ listed old) × ((nid : ℕ) → codec_list_fault old nid ≡ None))
    (λ faulty. IsFirstListFault (codec_list_fault old) faulty.nid faulty.fault)) c.in_default.is c.in_ok-faulty.ensures.found in
    subst (λ (codec : RawCodec). All HasReadableList codec.nodes) (sym found.0) (readable_codec old c.requires.entries found.1)
