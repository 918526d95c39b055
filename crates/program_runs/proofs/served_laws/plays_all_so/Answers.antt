use Rattle.program_runs.proofs.Plays.{plays_whole}
use Rattle.program_runs.proofs.served_laws.plays_all_so.Goals as goal

pub returns : goal.returns
returns c = λ kind machine plans wav geometry schedule played frames sound whole have limited serves is long fed.
    let well = whole.well_formed in
    plays_whole kind machine plans wav geometry schedule played sound well have limited serves is c.served_drivers_play.ensures c.fed_drivers_play_all.ensures.all c.fed_drivers_play_all.ensures.lines frames long fed
