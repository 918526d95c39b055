use Rattle.std.proofs.Common.{◌≡◌, ℕ, ◌<◌, length, false, slice_index_or}
use Rattle.hda_files.specs.Starts.{is_plugged}
use Rattle.hda_files.proofs.start.presence_of.Given as goal

abbrev pub invariant-loop-nid : goal.invariant-loop-nid
invariant-loop-nid l = record {
  size : length l.present ≡ 128;
  each : (k : ℕ) → k < l.nid → slice_index_or l.present k false ≡ is_plugged l.nodes k;
}
