mod PageParts
mod InputParts
mod OverrunLemmas
mod OverrunLaws
mod FileLemmas
