use Rattle.program_runs.proofs.Plays.{plays_end}
use Rattle.program_runs.proofs.served_laws.plays_end_so.Goals as goal

pub returns : goal.returns
returns c = λ kind machine plans wav geometry schedule played sound whole have limited serves is.
    let well = whole.well_formed in
    plays_end kind machine plans wav geometry schedule played sound well have limited serves is c.served_drivers_play.ensures
