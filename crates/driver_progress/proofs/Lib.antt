pub mod TrailLaws
pub mod TrailRows
mod Recorded
pub mod PhaseCases
pub mod AccessRows
pub mod Callers
pub mod Fitting
pub mod Time
pub mod ResetWorlds
pub mod InterruptWorlds
pub mod SettleWorlds
pub mod Polled
pub mod Agreeing
pub mod Unasked
pub mod UnreadRows
pub mod UntakenSteps
pub mod UntakenRows
