-- Phases in which all codecs were walked.
use Rattle.std.proofs.Common.{◌≡◌, true, false}
use Rattle.driver_progress.specs.declared.phase.Phase.{Phase}
use Rattle.driver_progress.specs.declared.phase.Phase.TheVariants.{SettingUp, Ready, Playing, Drained, NothingRouted}
use Rattle.driver_progress.specs.declared.phase.Phase.TheVariants.{Late, Malformed}
use Rattle.driver_progress.specs.Phases.{walked_all}
use Rattle.laws_bring_up.specs.Standing.{WalkedIn}

never : false ≡ true → ⊥
never is = cc

-- in a phase in which all codecs were walked
pub walked_in : (phase : Phase) (all : Type 0) → walked_all phase ≡ true → WalkedIn phase all → all
walked_in SettingUp all is by = by
walked_in Ready all is by = by
walked_in Playing all is by = absurd by
walked_in Drained all is by = absurd by
walked_in NothingRouted all is by = absurd by
walked_in (Late from to limit) all is by = absurd by
walked_in (Malformed codec fault) all is by = absurd by
walked_in phase all is by = absurd (never is)
