use Rattle.std.proofs.Common.{◌≡◌, map}
use Rattle.std.specs.List.{range_with_len}
use Rattle.codec_graph.specs.Settings.{IsSettingsOf}
use Rattle.hda_files.specs.Starts.{set_all, gain_verb}
use Rattle.codec_dump.proofs.machine.set_gains.Given as goal

-- the gains of the places so far are set
abbrev pub invariant-loop-place : goal.invariant-loop-place
invariant-loop-place l = record {
  of_graph : IsSettingsOf l.graph l.settings;
  value : l.settings ≡ set_all l.graph l.nid l.initial.settings (map (gain_verb l.gains) (range_with_len 0 l.place));
}
