pub mod RecordStretches
pub mod RecordRules
pub mod InputInterrupts
pub mod RecordingDrivers
pub mod Inside
pub mod RecordingCalls
pub mod RecordingSteps
pub mod RecordingClosing
