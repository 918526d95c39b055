use Rattle.codec_graph.proofs.Ascending.{sorted_controls_of, sorted_settings}
use Rattle.codec_graph.proofs.Controlled.{Contains-controls_of}
use Rattle.codec_graph.proofs.laws.controls_ascend.Goals as goal

pub returns-clause-exact : goal.returns-clause-exact
returns-clause-exact c = λ codec nid control well. Contains-controls_of codec nid control well

pub returns-clause-ascending : goal.returns-clause-ascending
returns-clause-ascending c = λ codec. sorted_controls_of codec

pub returns-clause-settings : goal.returns-clause-settings
returns-clause-settings c = λ codec settings h. sorted_settings codec settings h
