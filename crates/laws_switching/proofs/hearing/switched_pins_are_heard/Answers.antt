use Rattle.stream_format.proofs.Callers.{read_back}
use Rattle.laws_switching.proofs.SwitchedHeard.{MarkLaws, heard_switched}
use Rattle.laws_switching.proofs.hearing.switched_pins_are_heard.Goals as goal

pub returns : goal.returns
returns c = λ format graphs plans pcm given_up tally world turned well streams hear.
    let laws : MarkLaws = record {
      pair = c.marks_are_the_signals.ensures.pair;
      others = c.marks_are_the_signals.ensures.others;
      unmarked = c.others_have_no_marks.ensures;
      silent = c.one_signal_is_played.ensures.silent;
    } in
    heard_switched laws read_back format graphs plans pcm given_up tally world turned well streams hear
