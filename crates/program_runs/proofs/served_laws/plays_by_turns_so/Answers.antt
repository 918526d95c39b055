use Rattle.program_runs.proofs.Turns.{plays_by_turns}
use Rattle.program_runs.proofs.served_laws.plays_by_turns_so.Goals as goal

pub returns : goal.returns
returns c = λ machine plans wav geometry schedule played frames lengths sound whole have limited serves is rate long turns ends.
    plays_by_turns machine plans wav geometry schedule played sound whole.well_formed have limited serves is c.served_drivers_play.ensures c.turns_play_exactly.ensures.turns
    c.turns_play_exactly.ensures.no_holes c.turns_serve.ensures.lines frames lengths rate long turns ends
