pub mod StartLemmas
pub mod SameLemmas
pub mod ImportLemmas
pub mod OutletLemmas
pub mod ProgramLemmas
pub mod MendLemmas
pub mod PieceLemmas
pub mod ShownLemmas
