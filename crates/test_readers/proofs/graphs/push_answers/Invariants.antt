use Rattle.codec_graph.specs.Settings.{IsSettingsOf}
use Rattle.test_readers.proofs.graphs.push_answers.Given as goal

-- the settings stay those of the graph
abbrev pub invariant-loop-word : goal.invariant-loop-word
invariant-loop-word l = IsSettingsOf l.graph l.settings
