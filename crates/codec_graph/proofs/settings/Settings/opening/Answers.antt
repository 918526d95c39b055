use Rattle.std.proofs.Common.{◌≡◌, ◌+◌, sym, ap, ◌∙◌, arith}
use Rattle.std.specs.Map.{keys_of}
use Rattle.codec_graph.specs.declared.raw.RawCodec.{RawCodec}
use Rattle.codec_graph.specs.Settings.{Entries, setting_at, keys_below, controls_of, opening}
use Rattle.codec_graph.specs.Openings.{opened_so_far}
use Rattle.codec_graph.proofs.Ascending.{keys_of-opened}
use Rattle.codec_graph.proofs.Controlled.{setting_at-opening}
use Rattle.codec_graph.proofs.settings.Settings.opening.Goals as goal

pub open_node-requires : goal.open_node-requires
open_node-requires c =
    c.loop-nid.invariant.opened ∙ ap (λ (codec : RawCodec). opened_so_far codec (keys_below c.loop-nid.nid)) (sym c.loop-nid.invariant.same)

pub loop-nid-preserved : goal.loop-nid-preserved
loop-nid-preserved c = record {
  same = c.loop-nid.invariant.same;
  opened =
      c.in_ok-open_node.ensures.value
      ∙ ap (λ (codec : RawCodec). opened_so_far codec (keys_below (c.loop-nid.nid + 1))) c.loop-nid.invariant.same;
  each = c.in_ok-open_node.ensures.each c.loop-nid.invariant.each;
}

opened : (c : goal.After-loop-nid) → c.loop-nid.settings ≡ opening c.args.graph.now
unfolding opening controls_of
opened c =
    let all : c.loop-nid.nid ≡ 128 = omega arith in
    c.loop-nid.invariant.opened ∙ ap (λ n. opened_so_far c.args.graph.now (keys_below n)) all

keys : (c : goal.After-loop-nid) → keys_of c.loop-nid.settings ≡ controls_of c.args.graph.now
unfolding opening
keys c = ap (λ (entries : Entries). keys_of entries) (opened c) ∙ keys_of-opened c.args.graph.now (controls_of c.args.graph.now)

pub returns-clause-value : goal.returns-clause-value
returns-clause-value c = opened c

pub returns-clause-of_graph : goal.returns-clause-of_graph
returns-clause-of_graph c = record { keys = keys c; each = c.loop-nid.invariant.each }

pub returns-clause-each : goal.returns-clause-each
returns-clause-each c =
    λ nid control. ap (λ entries. setting_at entries nid control) (opened c) ∙ setting_at-opening c.args.graph.now nid control c.raw-codec.ensures.well_formed
