pub mod BandLemmas
pub mod MomentLemmas
pub mod PictureLemmas
pub mod Bounds
