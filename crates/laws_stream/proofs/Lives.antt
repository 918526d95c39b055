-- The life of the output stream goes on.
use Rattle.std.proofs.Common.{◌≡◌, List, [], ◌∷◌, ◌++◌, refl, sym, ap, subst, ◌∙◌, append_assoc}
use Rattle.hda_world.specs.Worlds.{World}
use Rattle.hda_world.specs.Events.{Event, happens, after}
use Rattle.hda_world.specs.Tellings.{Telling, world_of, Went}
use Rattle.laws_stream.specs.Lives.{Runs, IsStopped, HasNotBegun, Along, sets_going, stops, IsGoing, HasStopped}

pub Along-append : (Holds : World → Type 0) (first second : List Event) (world : World) → Along Holds first world → Along Holds second (after first world) → Along Holds (first ++ second) world
Along-append Holds [] second world along more = more
Along-append Holds (event ∷ first) second world along more = (along.0, Along-append Holds first second (happens world event) along.1 more)

-- it holds after the last
pub Along-end : (Holds : World → Type 0) (events : List Event) (world : World) → Along Holds events world → Holds (after events world)
Along-end Holds [] world along = along
Along-end Holds (event ∷ events) world along = Along-end Holds events (happens world event) along.1

pub Along-front : (Holds : World → Type 0) (first second : List Event) (world : World) → Along Holds (first ++ second) world → Along Holds first world
Along-front Holds [] [] world along = along
Along-front Holds [] (event ∷ second) world along = along.0
Along-front Holds (event ∷ first) second world along = (along.0, Along-front Holds first second (happens world event) along.1)

-- an event among others
after-split : (before : List Event) (event : Event) (during : List Event) (world : World) → after (before ++ event ∷ during) world ≡ after during (after (before ++ event ∷ []) world)
after-split [] event during world = refl
after-split (first ∷ before) event during world = after-split before event during (happens world first)

pub stopped_there : (telling : Telling) (was : HasStopped telling) → world_of telling ≡ after was.later (after (was.before ++ sets_going ∷ (was.during ++ stops ∷ [])) telling.start)
stopped_there telling was =
    ap (λ (journal : List Event). after journal telling.start) (was.journal ∙ sym (append_assoc was.before (sets_going ∷ was.during) (stops ∷ was.later)))
    ∙ after-split (was.before ++ sets_going ∷ was.during) stops was.later telling.start
    ∙ ap (λ (journal : List Event). after was.later (after journal telling.start)) (append_assoc was.before (sets_going ∷ was.during) (stops ∷ []))

-- ---- it goes on

module _ (old new : Telling) (events : List Event) where
  gone : (going : IsGoing old) → world_of old ≡ after going.during (after (going.before ++ sets_going ∷ []) old.start)
  gone going = ap (λ (journal : List Event). after journal old.start) going.journal ∙ after-split going.before sets_going going.during old.start

  along_on : (going : IsGoing old) → new.start ≡ old.start → Along Runs events (world_of old) → Along Runs (going.during ++ events) (after (going.before ++ sets_going ∷ []) new.start)
  along_on going same along =
      subst (λ (start : World). Along Runs (going.during ++ events) (after (going.before ++ sets_going ∷ []) start)) (sym same)
      (Along-append Runs going.during events (after (going.before ++ sets_going ∷ []) old.start) going.runs (subst (Along Runs events) (gone going) along))

  pub goes_more : Went old new events → IsGoing old → Along Runs events (world_of old) → IsGoing new
  goes_more went going along = record {
    before = going.before;
    during = going.during ++ events;
    journal = went.journal ∙ ap (λ (journal : List Event). journal ++ events) going.journal ∙ append_assoc going.before (sets_going ∷ going.during) events;
    silent = subst (λ (start : World). Along HasNotBegun going.before start) (sym went.start) going.silent;
    runs = along_on going went.start along;
  }

  -- ---- it is stopped

  pub stops_now : Went old new (events ++ stops ∷ []) → IsGoing old → Along Runs events (world_of old) → IsStopped (world_of new) → HasStopped new
  stops_now went going along stopped =
      let journal : new.journal ≡ going.before ++ sets_going ∷ ((going.during ++ events) ++ stops ∷ []) =
      went.journal ∙ ap (λ (journal : List Event). journal ++ (events ++ stops ∷ [])) going.journal ∙ append_assoc going.before (sets_going ∷ going.during) (events ++ stops ∷ [])
      ∙ ap (λ (rest : List Event). going.before ++ sets_going ∷ rest) (sym (append_assoc going.during events (stops ∷ []))) in record {
        before = going.before;
        during = going.during ++ events;
        later = [];
        journal = journal;
        silent = subst (λ (start : World). Along HasNotBegun going.before start) (sym went.start) going.silent;
        runs = along_on going went.start along;
        stays = subst IsStopped (ap (λ (journal : List Event). after journal new.start) journal) stopped;
      }

  -- and stays so
  pub stays_stopped : Went old new events → HasStopped old → Along IsStopped events (world_of old) → HasStopped new
  stays_stopped went was along =
      let there = stopped_there old was in record {
        before = was.before;
        during = was.during;
        later = was.later ++ events;
        journal = went.journal ∙ ap (λ (journal : List Event). journal ++ events) was.journal ∙ append_assoc was.before (sets_going ∷ (was.during ++ stops ∷ was.later)) events
            ∙ ap (λ (rest : List Event). was.before ++ sets_going ∷ rest) (append_assoc was.during (stops ∷ was.later) events);
        silent = subst (λ (start : World). Along HasNotBegun was.before start) (sym went.start) was.silent;
        runs = subst (λ (start : World). Along Runs was.during (after (was.before ++ sets_going ∷ []) start)) (sym went.start) was.runs;
        stays = subst (λ (start : World). Along IsStopped (was.later ++ events) (after (was.before ++ sets_going ∷ (was.during ++ stops ∷ [])) start)) (sym went.start)
            (Along-append IsStopped was.later events (after (was.before ++ sets_going ∷ (was.during ++ stops ∷ [])) old.start) was.stays (subst (Along IsStopped events) there along));
      }
