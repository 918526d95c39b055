pub mod SwitchRules
pub mod JackDrivers
pub mod JackCalls
pub mod JackClosing
pub mod JackSteps
pub mod Found
pub mod Inside
