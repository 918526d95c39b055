pub mod MadeSound
pub mod MadeSchedule
pub mod MadeMachine
