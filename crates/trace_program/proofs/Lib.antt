mod WordLemmas
mod TraceLemmas
