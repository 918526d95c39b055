use Rattle.laws_serving.proofs.RoundTrips.{round_trip_answers}
use Rattle.laws_serving.proofs.commands.round_trips_answer.Goals as goal

pub returns : goal.returns
returns c = λ from read corb rirb rings. round_trip_answers from read corb rirb rings
