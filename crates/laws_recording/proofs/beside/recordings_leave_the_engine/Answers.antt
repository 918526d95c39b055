use Rattle.laws_recording.proofs.EngineKept.{first_stands, later_stands}
use Rattle.laws_recording.proofs.beside.recordings_leave_the_engine.Goals as goal

pub returns-clause-first : goal.returns-clause-first
returns-clause-first c = λ from read corb rirb rings.
    first_stands from read corb rirb rings (c.events_beside_keep_standing.ensures from read corb rirb rings) (c.events_beside_input_keep_standing.ensures from read corb rirb rings)

pub returns-clause-later : goal.returns-clause-later
returns-clause-later c = λ from read corb rirb rings.
    later_stands from read corb rirb rings (c.events_beside_keep_standing.ensures from read corb rirb rings) (c.events_beside_input_keep_standing.ensures from read corb rirb rings)
