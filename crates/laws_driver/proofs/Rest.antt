-- Streams rest at every moment until the first run.
use Rattle.std.proofs.Common.{ℕ, List, [], ◌∷◌, ◌++◌, map, sym, subst}
use Rattle.std.specs.Prelude.{All}
use Rattle.std.proofs.lemmas.List.Elements.{All-append, All-cons, All-head, All-nil, All-tail}
use Rattle.world_steps.specs.declared.Step.{Step}
use Rattle.hda_world.specs.Worlds.{World}
use Rattle.hda_world.specs.Events.{Event, Stepped, Begin, End, happens, after}
use Rattle.hda_world.specs.Tellings.{Telling, world_of, Went, Accessed, Makes}
use Rattle.hda_world.proofs.Callers.{woven}
use Rattle.laws_stream.specs.Resting.{Rests, LeavesRest}
use Rattle.laws_stream.specs.Lives.{IsStopped, HasNotBegun, Along}
use Rattle.laws_stream.proofs.Callers.{all_map, woven_all, Along-append, Along-end}

-- what this goes by
abbrev pub EventsRest : Type 0
EventsRest = (fifo : ℕ) (events : List Event) (world : World) → All LeavesRest events → Rests fifo world → Rests fifo (after events world)

-- something that holds at every moment, and what follows of it
pub along_weaker : (Holds Follows : World → Type 0) → ((world : World) → Holds world → Follows world) → (events : List Event) (world : World) → Along Holds events world → Along Follows events world
along_weaker Holds Follows leads [] world along = leads world along
along_weaker Holds Follows leads (event ∷ events) world along = (leads world along.0, along_weaker Holds Follows leads events (happens world event) along.1)

pub rests_stopped : (fifo : ℕ) (world : World) → Rests fifo world → IsStopped world
rests_stopped fifo world rests = record { stopped = rests.output_stopped; no_error = rests.no_error }

pub rests_unbegun : (fifo : ℕ) (world : World) → Rests fifo world → HasNotBegun world
rests_unbegun fifo world rests = record { stopped = rests.output_stopped; no_error = rests.no_error; none = rests.none_carried }

module _ (rests : EventsRest) (fifo : ℕ) where
  events_rest : (events : List Event) (world : World) → All LeavesRest events → Rests fifo world → Along (Rests fifo) events world
  events_rest [] world all is = is
  events_rest (event ∷ events) world all is = (
    is,
    events_rest events (happens world event) (All-tail LeavesRest event events all)
        (rests fifo (event ∷ []) world (All-cons LeavesRest event [] (All-head LeavesRest event events all) (All-nil LeavesRest)) is),
  )

  -- over events that went on
  went_rest : (old new : Telling) (events : List Event) → Went old new events → All LeavesRest events → Along (Rests fifo) old.journal old.start → Along (Rests fifo) new.journal new.start
  went_rest old new events went all along =
      subst (λ (start : World). Along (Rests fifo) new.journal start) (sym went.start)
      (subst (λ (journal : List Event). Along (Rests fifo) journal old.start) (sym went.journal)
      (Along-append (Rests fifo) old.journal events old.start along (events_rest events (world_of old) all (Along-end (Rests fifo) old.journal old.start along))))

  pub steps_rest : (steps : List Step) (old new : Telling) → Went old new (map Stepped steps) → Along (Rests fifo) old.journal old.start → Along (Rests fifo) new.journal new.start
  steps_rest steps old new went = went_rest old new (map Stepped steps) went (all_map LeavesRest Stepped (λ step. tt {0}) steps)

  mark_rest : (mark : Event) (old new : Telling) → LeavesRest mark → Accessed old new mark → Along (Rests fifo) old.journal old.start → Along (Rests fifo) new.journal new.start
  mark_rest mark old new leaves accessed =
      went_rest old new (map Stepped accessed.steps ++ mark ∷ []) accessed.went
      (All-append LeavesRest (map Stepped accessed.steps) (mark ∷ []) (all_map LeavesRest Stepped (λ step. tt {0}) accessed.steps) (All-cons LeavesRest mark [] leaves (All-nil LeavesRest)))

  pub begin_rest : (old new : Telling) → Accessed old new Begin → Along (Rests fifo) old.journal old.start → Along (Rests fifo) new.journal new.start
  begin_rest old new accessed = mark_rest Begin old new (tt {0}) accessed

  pub end_rest : (old new : Telling) → Accessed old new End → Along (Rests fifo) old.journal old.start → Along (Rests fifo) new.journal new.start
  end_rest old new accessed = mark_rest End old new (tt {0}) accessed

  pub row_rest : (made : List Event) (old new : Telling) → Makes made old new → All LeavesRest made → Along (Rests fifo) old.journal old.start → Along (Rests fifo) new.journal new.start
  row_rest made old new makes all =
      let weaving = woven makes in
      went_rest old new weaving.events weaving.went (woven_all LeavesRest (λ step. tt {0}) made weaving.events weaving.woven all)
