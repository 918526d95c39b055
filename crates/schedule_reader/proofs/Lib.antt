pub mod CutLemmas
pub mod DigitLemmas
pub mod CountLemmas
pub mod RowLemmas
pub mod RangeLemmas
pub mod ReadLemmas
pub mod HeadLemmas
pub mod FaultLemmas
