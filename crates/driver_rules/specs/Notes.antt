-- What laws say of answers and of tallies beside rules. This project's own.
use Rattle.std.specs.Prelude.{◌≡◌, ℕ, Bool, List, length, Option, Some}
use Rattle.hda_registers.specs.declared.places.TheConstants.{WALCLK}
use Rattle.period_writer.specs.declared.registers.TheConstants.{POSITION}
use Rattle.period_writer.specs.Runs.{Tally, measures, taken_up}
use Rattle.driver_progress.specs.Next.{budget_of}
use Rattle.driver_progress.specs.Tasks.{Task, DriverLine}
use Rattle.driver_rules.specs.Findings.{Findings}
use Rattle.driver_rules.specs.Rules.{Rules}
use Rattle.driver_rules.specs.Onward.{Onward}

module _ {S : Type 0} where
  -- what the rules keep, whether the command that they ask was answered, and how many responses were written at the last
  -- write of CORBWP
  pub record HasNoted (onward : Onward S) (later : Option S) (answered : Bool) (written : ℕ) : Type 0 where
    pub later_is : onward.later ≡ later
    pub answered_is : onward.answered ≡ answered
    pub written_is : onward.trail.written ≡ written

  -- rules take up a tally as progress does: a stretch that reads the clock twice is a run
  abbrev pub TakesUp : Rules S → (S → Tally) → Task → Type 0
  TakesUp rules tally task =
      (state : S) (turn : Option DriverLine) (findings : Findings)
      → tally (rules.next state turn findings)
      ≡ taken_up (measures task.geometry) (length task.pcm) (tally state) (record {
        budget = budget_of turn;
        clocks = findings.values WALCLK;
        lpibs = findings.values POSITION;
      })

  -- once the rules began, their tally is the trail's
  abbrev pub TallyIs : (S → Tally) → Onward S → Type 0
  TallyIs tally onward = (state : S) → onward.later ≡ Some state → tally state ≡ onward.trail.state.tally
