use Rattle.std.proofs.Common.{◌≡◌, take, fold, Some}
use Rattle.std.specs.Prelude.{unwrap_or}
use Rattle.verb_codes.specs.declared.verbs.Verb.TheVariants.{SetPower}
use Rattle.codec_graph.specs.Settings.{IsSettingsOf, opening}
use Rattle.hda_files.specs.Starts.{set_given}
use Rattle.codec_dump.specs.Machines.{set_node}
use Rattle.codec_dump.proofs.machine.settings_of.Given as goal

-- the widgets so far are set
abbrev pub invariant-loop-node : goal.invariant-loop-node
invariant-loop-node l = record {
  of_graph : IsSettingsOf l.graph l.settings;
  value : l.settings ≡ fold (set_node l.graph) (set_given l.graph l.graph.group (opening l.graph)
      (Some (SetPower (unwrap_or l.codec.group.power_state 0)))) (take l.node-index l.codec.nodes);
}
