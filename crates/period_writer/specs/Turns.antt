-- What a run goes by and where it stands, as the program has it. This project's own.
use Rattle.std.specs.Prelude.{ℕ}
use Rattle.period_writer.specs.declared.turns.Facts.{Facts}
use Rattle.period_writer.specs.Runs.{RunFacts, facts_of}

-- with the clock that is read last
abbrev pub facts_by : Facts → (to : ℕ) → RunFacts
facts_by facts to = facts_of facts.budget facts.left facts.from facts.lpib to
