use Rattle.laws_stream.proofs.AloneRows.{polls_alone, looks_alone, submissions_alone}
use Rattle.laws_stream.proofs.commands.accesses_of_commands_leave_the_stream_alone.Goals as goal

pub returns-clause-polls : goal.returns-clause-polls
returns-clause-polls c = polls_alone

pub returns-clause-looks : goal.returns-clause-looks
returns-clause-looks c = looks_alone

pub returns-clause-submissions : goal.returns-clause-submissions
returns-clause-submissions c = submissions_alone
