mod RepeatLemmas
mod BoxLemmas
