use Rattle.std.proofs.Common.{◌≡◌}
use Rattle.std.specs.Prelude.{All}
use Rattle.codec_graph.specs.Settings.{keys_below, IsSetting}
use Rattle.codec_graph.specs.Openings.{opened_so_far}
use Rattle.codec_graph.proofs.settings.Settings.opening.Given as goal

-- the nodes so far have their opening values
abbrev pub invariant-loop-nid : goal.invariant-loop-nid
invariant-loop-nid l = record {
  same : l.codec ≡ l.graph;
  opened : l.settings ≡ opened_so_far l.graph (keys_below l.nid);
  each : All IsSetting l.settings;
}
