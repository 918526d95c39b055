mod PageLemmas
mod PlanParts
mod SoundLines
mod HeardText
pub mod Callers
