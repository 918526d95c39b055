pub mod ReadSteps
pub mod RecordCourses
pub mod RecordTurns
pub mod Told
pub mod KeptRecorders
pub mod Callers
