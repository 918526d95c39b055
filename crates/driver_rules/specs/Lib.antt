pub mod Findings
pub mod Rules
pub mod Onward
pub mod Notes
