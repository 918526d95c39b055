use Rattle.std.proofs.Common.{◌≡◌, take, fold, Some}
use Rattle.verb_codes.specs.declared.verbs.Verb.TheVariants.{SetPower}
use Rattle.codec_graph.specs.Settings.{IsSettingsOf, opening}
use Rattle.hda_files.specs.Starts.{set_given, set_node}
use Rattle.hda_files.proofs.start.settings_of.Given as goal

-- the keys of the tables so far are set
abbrev pub invariant-loop-node : goal.invariant-loop-node
invariant-loop-node l = record {
  of_graph : IsSettingsOf l.graph l.settings;
  value : l.settings ≡ fold (set_node l.graph) (set_given l.graph l.graph.group (opening l.graph) (Some (SetPower l.group_power))) (take l.node-index l.nodes);
}
