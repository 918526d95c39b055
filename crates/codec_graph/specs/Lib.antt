pub mod Widget
pub mod Listed
pub mod Widths
pub mod Faults
pub mod FaultText
pub mod Cycles
pub mod Candidates
pub mod Kinds
pub mod Order
pub mod Settings
pub mod VerbMeaning
pub mod CodecStates
-- what private functions promise one another
pub mod Checks
pub mod Marks
pub mod Openings
pub mod SafeNodes
pub mod Places
