mod NameLemmas
mod PutLemmas
mod RawLemmas
mod PieceLemmas
mod LineLemmas
