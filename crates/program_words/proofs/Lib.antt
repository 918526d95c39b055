mod WordViews
mod ClapRules
mod ClapWalk
mod ClapParts
mod ClapRows
mod ClapAnswer
mod RowLemmas
mod NumberLemmas
mod NumberRows
mod LineLemmas
mod RunLemmas
pub mod Callers
