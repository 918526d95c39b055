pub mod Callers
mod ChunkLemmas
mod CountLemmas
mod HeadLemmas
pub mod PieceLemmas
mod RingLemmas
mod SlotLemmas
mod WrittenLemmas
mod SoundLemmas
pub mod BlockLemmas
pub mod FrontLemmas
pub mod OpeningLemmas
pub mod StreamLemmas
pub mod PutLemmas
pub mod PlaceLemmas
pub mod ReadLemmas
pub mod ReadingOn
