pub mod ServingDevices
pub mod Rounds
pub mod ServingSchedules
pub mod Coming
pub mod Runs
pub mod Feeding
pub mod Turns
