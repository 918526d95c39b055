pub mod AddressLemmas
pub mod ArrayLemmas
pub mod JudgeLemmas
pub mod KeptLemmas
pub mod Meant
pub mod NodeLemmas
pub mod NumberLemmas
pub mod OneReading
pub mod ReadableLemmas
pub mod Readings
pub mod StartLemmas
pub mod TableBounds
-- what the proofs of other crates cite
pub mod Callers
