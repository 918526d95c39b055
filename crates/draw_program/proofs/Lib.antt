mod CodecLemmas
mod WordLemmas
mod DrawLemmas
