use Rattle.laws_stream.proofs.Written.{reset_brings}
use Rattle.laws_stream.proofs.RestingRows.{steps_rest, events_rest, row_rests}
use Rattle.laws_stream.proofs.Requests.{stretch_rests}
use Rattle.laws_stream.proofs.rest.streams_rest_before_sound.Goals as goal

pub returns-clause-reset : goal.returns-clause-reset
returns-clause-reset c = reset_brings

pub returns-clause-steps : goal.returns-clause-steps
returns-clause-steps c = steps_rest

pub returns-clause-events : goal.returns-clause-events
returns-clause-events c = events_rest

pub returns-clause-rows : goal.returns-clause-rows
returns-clause-rows c = row_rests

pub returns-clause-stretches : goal.returns-clause-stretches
returns-clause-stretches c = stretch_rests
