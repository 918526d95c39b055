use Rattle.laws_stream.proofs.CommandsTold.{took_before, took_playing, took_over}
use Rattle.laws_stream.proofs.commands.commands_tell_whether_the_stream_runs.Goals as goal

pub returns-clause-before : goal.returns-clause-before
returns-clause-before c = took_before

pub returns-clause-playing : goal.returns-clause-playing
returns-clause-playing c = took_playing

pub returns-clause-over : goal.returns-clause-over
returns-clause-over c = took_over
