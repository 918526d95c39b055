use Rattle.std.proofs.Common.{◌≡◌, ◌+◌}
use Rattle.std.specs.Prelude.{All}
use Rattle.codec_graph.specs.Settings.{IsSetting}
use Rattle.codec_graph.specs.Openings.{opened_so_far}
use Rattle.codec_graph.proofs.Ascending.{keys_up_to}
use Rattle.codec_graph.proofs.settings.Settings.open_node.Given as goal

-- the controls so far have their opening values: 11 plain ones, the left sides of 16 inputs and then the right
abbrev pub invariant-loop-control : goal.invariant-loop-control
invariant-loop-control l = record {
  opened : l.self ≡ opened_so_far l.codec (keys_up_to l.nid l.control-index);
  each : All IsSetting l.fn.self → All IsSetting l.self;
}

abbrev pub invariant-loop-place : goal.invariant-loop-place
invariant-loop-place l = record {
  opened : l.self ≡ opened_so_far l.codec (keys_up_to l.nid (11 + l.place));
  each : All IsSetting l.fn.self → All IsSetting l.self;
}

abbrev pub invariant-loop-place-2 : goal.invariant-loop-place-2
invariant-loop-place-2 l = record {
  opened : l.self ≡ opened_so_far l.codec (keys_up_to l.nid (27 + l.place));
  each : All IsSetting l.fn.self → All IsSetting l.self;
}
