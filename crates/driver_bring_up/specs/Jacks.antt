-- How often pins told of something unasked, by codec and tag. High Definition Audio 1.0a, 4.4.2 and 7.3.3.14; the list
-- is this project's own.
use Rattle.std.specs.Prelude.{◌≡◌, ◌≤◌, ◌<◌, ◌⊎◌, ◌+◌, ℕ, Bool, ◌==◌, ◌&&◌, List, [], All, AllPairs, Any}
use Rattle.std.specs.Prelude.{slice_index, slice_index_or, count_by, if◌then◌else◌}
use Rattle.command_engine.specs.declared.answers.Event.{Event}
use Rattle.driver_progress.specs.declared.jack.Jack.{Jack}

-- a codec has 4 bits, a tag 6
pub record IsOfPin (event : Event) : Type 0 where
  pub codec : event.codec ≤ 15
  pub tag : event.tag ≤ 63

abbrev pub is_at : (codec tag : ℕ) → Event → Bool
is_at codec tag event = event.codec == codec && event.tag == tag

-- how many of the events have this codec and tag
abbrev pub times_of : List Event → (codec tag : ℕ) → ℕ
times_of events codec tag = count_by (is_at codec tag) events

-- ---- counters, a row of tags for each codec

abbrev pub row_of : List (List ℕ) → (codec : ℕ) → List ℕ
row_of rows codec = slice_index_or rows codec []

abbrev pub counter_of : List (List ℕ) → (codec tag : ℕ) → ℕ
counter_of rows codec tag = slice_index (row_of rows codec) tag

abbrev pub AreTimes : List Event → List (List ℕ) → Type 0
AreTimes events rows = (codec tag : ℕ) → codec ≤ 15 → tag ≤ 63 → counter_of rows codec tag ≡ times_of events codec tag

-- ---- the list

-- codecs ascend, and each one's tags
abbrev pub IsBefore : Jack → Jack → Type 0
IsBefore first second = (first.codec < second.codec) ⊎ ((first.codec ≡ second.codec) × (first.tag < second.tag))

pub record IsTold (events : List Event) (jack : Jack) : Type 0 where
  pub times : jack.times ≡ times_of events jack.codec jack.tag
  pub some : 1 ≤ jack.times

abbrev pub IsOf : (codec tag : ℕ) → Jack → Type 0
IsOf codec tag jack = (jack.codec ≡ codec) × (jack.tag ≡ tag)

-- the jacks are those of the events, each with how many of them are its own
pub record Counts (events : List Event) (jacks : List Jack) : Type 0 where
  pub ascend : AllPairs IsBefore jacks
  pub times : All (IsTold events) jacks
  pub whole : All (λ (event : Event). Any (IsOf event.codec event.tag) jacks) events

-- ---- counters that go on from a list

-- a jack adds to the counter of its own codec and tag
abbrev pub times_at : (codec tag : ℕ) → Jack → ℕ
times_at codec tag jack = if jack.codec == codec && jack.tag == tag then jack.times else 0

-- an event can name it, and so many more can be counted
pub record CanAdd (taken : ℕ) (jack : Jack) : Type 0 where
  pub codec : jack.codec ≤ 15
  pub tag : jack.tag ≤ 63
  pub few : taken + jack.times ≤ 4294967295
