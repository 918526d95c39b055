-- What a poll says of the outstanding command. This project's own.
use Rattle.std.specs.Prelude.{ℕ, Bool, true, false, Option, None, Some}
use Rattle.command_engine.specs.declared.answers.Poll.{Poll}
use Rattle.command_engine.specs.declared.answers.Poll.TheVariants as polls
use Rattle.jack_rules.specs.Switching.{SwitchingState, told_found}

-- the answer that it found
abbrev pub answer_of : Poll → Option ℕ
answer_of polls.Idle = None
answer_of (polls.Answered word) = Some word
answer_of polls.Waiting = None
answer_of (polls.Unanswered issued noticed) = None

-- what the rules keep once they were told of it
abbrev pub told_poll : SwitchingState → Poll → SwitchingState
told_poll switching poll = told_found switching (answer_of poll)

-- whether the command was not answered in its time
abbrev pub is_unanswered : Poll → Bool
is_unanswered polls.Idle = false
is_unanswered (polls.Answered word) = false
is_unanswered polls.Waiting = false
is_unanswered (polls.Unanswered issued noticed) = true
