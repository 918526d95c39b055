pub mod Cuts
pub mod Numbers
pub mod Keywords
pub mod Operands
pub mod Heads
pub mod Rows
pub mod Faults
pub mod FaultText
pub mod Parts
pub mod Counts
pub mod Ranges
pub mod Schedules
-- what private functions promise one another
pub mod Left
pub mod Readers
