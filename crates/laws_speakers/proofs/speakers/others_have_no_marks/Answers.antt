use Rattle.std.proofs.Common.{drop, ◌∙◌}
use Rattle.laws_speakers.proofs.MarkedFrames.{marks_since, no_marks, each_switches, all_named}
use Rattle.laws_speakers.proofs.speakers.others_have_no_marks.Goals as goal

pub returns : goal.returns
returns c = λ is_speaker kind start from world address pin is switching none.
    marks_since kind address pin world.carried from world.commands switching.before
    ∙ no_marks is_speaker address pin none kind world.carried (drop from world.commands) (each_switches is_speaker (drop from world.commands) switching.words) (all_named start (drop from world.commands) is.taken)
