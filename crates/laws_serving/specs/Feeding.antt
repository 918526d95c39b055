-- When a schedule has a driver play all of a sound. This project's own.
use Rattle.std.specs.Prelude.{◌≡◌, ◌≤◌, ℕ, Bool, true, false, List, ◌∷◌, ◌++◌, length, All, count_by}
use Rattle.hda_world.specs.Worlds.{World}
use Rattle.hda_world.specs.Events.{Event, Stepped, Begin, End, Read, Write, DmaRead, DmaWrite, after}
use Rattle.hda_world.specs.Streaming.{carried_bytes}
use Rattle.period_writer.specs.declared.course.Span.{Span}

abbrev pub is_begin : Event → Bool
is_begin (Stepped step) = false
is_begin Begin = true
is_begin End = false
is_begin (Read at width value) = false
is_begin (Write at width value) = false
is_begin (DmaRead at bytes) = false
is_begin (DmaWrite at bytes) = false

-- how many calls began among some events
abbrev pub calls_in : List Event → ℕ
calls_in events = count_by is_begin events

-- when a call began, before which so many had begun, the link had sent so many bytes of sound or of silence
pub record HasSentBefore (calls bytes : ℕ) (start : World) (journal : List Event) : Type 0 where
  pub front : List Event
  pub back : List Event
  pub journal_is : journal ≡ front ++ Begin ∷ back
  pub later : calls ≤ calls_in front
  pub sent : bytes ≤ length (carried_bytes (after front start).carried)

-- no silence begins before the end of so many bytes of sound
abbrev pub IsUnbroken : (bytes : ℕ) → List Span → Type 0
IsUnbroken bytes silences = All (λ (span : Span). bytes ≤ span.start) silences
