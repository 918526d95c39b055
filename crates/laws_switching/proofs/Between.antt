-- Whether the stream ran between two moments that are told, by how it stood at both.
use Rattle.std.proofs.Common.{◌≡◌, ◌⊎◌, inl, inr, List, [], ◌∷◌, ◌++◌, refl, sym, ap, subst, ◌∙◌}
use Rattle.std.proofs.lemmas.Bool.{false≢true}
use Rattle.hda_world.specs.Worlds.{World}
use Rattle.hda_world.specs.Events.{Event, happens, after}
use Rattle.hda_world.specs.Tellings.{Telling, world_of, Went}
use Rattle.hda_world.proofs.Callers.{after-append}
use Rattle.laws_stream.specs.Lives.{Runs, IsStopped, HasNotBegun, Along, sets_going, stops, IsGoing, HasStopped}
use Rattle.laws_stream.proofs.Callers.{Along-end, Along-front}

-- ---- lists

split : (a b c d : List Event) → a ++ b ≡ c ++ d → ((m : List Event) × (c ≡ a ++ m) × (b ≡ m ++ d)) ⊎ ((m : List Event) × (a ≡ c ++ m) × (d ≡ m ++ b))
split [] b c d same = inl (c, refl, same)
split (x ∷ a) b [] d same = inr (x ∷ a, refl, sym same)
split (x ∷ a) b (y ∷ c) d same =
    let first : x ≡ y = cc in
    let rest : a ++ b ≡ c ++ d = cc in
    by first (split a b c d rest)
  where
    by : x ≡ y → ((m : List Event) × (c ≡ a ++ m) × (b ≡ m ++ d)) ⊎ ((m : List Event) × (a ≡ c ++ m) × (d ≡ m ++ b)) → ((m : List Event) × (y ∷ c ≡ (x ∷ a) ++ m) × (b ≡ m ++ d)) ⊎ ((m : List Event) × (x ∷ a ≡ (y ∷ c) ++ m) × (d ≡ m ++ b))
    by first (inl (m, is, more)) = inl (m, ap (λ (x : Event). x ∷ c) (sym first) ∙ ap (λ (rest : List Event). x ∷ rest) is, more)
    by first (inr (m, is, more)) = inr (m, ap (λ (x : Event). x ∷ a) first ∙ ap (λ (rest : List Event). y ∷ rest) is, more)

module _ (Holds : World → Type 0) where
  along_back : (front back : List Event) (world : World) → Along Holds (front ++ back) world → Along Holds back (after front world)
  along_back [] back world along = along
  along_back (event ∷ front) back world along = along_back front back (happens world event) along.1

  along_first : (events : List Event) (world : World) → Along Holds events world → Holds world
  along_first [] world along = along
  along_first (event ∷ events) world along = along.0

after_split : (before : List Event) (event : Event) (during : List Event) (world : World) → after (before ++ event ∷ during) world ≡ after during (after (before ++ event ∷ []) world)
after_split [] event during world = refl
after_split (first ∷ before) event during world = after_split before event during (happens world first)

head_is : (x y : Event) (xs ys : List Event) → x ∷ xs ≡ y ∷ ys → xs ≡ ys
head_is x y xs ys same = cc

-- ---- moments

running_not : (world : World) → Runs world → IsStopped world → ⊥
running_not world runs stopped = false≢true (sym stopped.stopped ∙ runs.running)

begun_not : (world : World) → Runs world → HasNotBegun world → ⊥
begun_not world runs silent = false≢true (sym silent.stopped ∙ runs.running)

pub going_runs : (telling : Telling) → IsGoing telling → Runs (world_of telling)
going_runs telling going =
    subst Runs (sym (ap (λ (journal : List Event). after journal telling.start) going.journal ∙ after_split going.before sets_going going.during telling.start))
    (Along-end Runs going.during (after (going.before ++ sets_going ∷ []) telling.start) going.runs)

module _ (old new : Telling) (events : List Event) (went : Went old new events) where
  -- the world that is told where a part of the journal ends at the old one
  there : (before m : List Event) → old.journal ≡ before ++ sets_going ∷ m → world_of old ≡ after m (after (before ++ sets_going ∷ []) new.start)
  there before m is =
      ap (λ (journal : List Event). after journal old.start) is ∙ after_split before sets_going m old.start
      ∙ ap (λ (start : World). after m (after (before ++ sets_going ∷ []) start)) (sym went.start)

  silent_old : (before m : List Event) → before ≡ old.journal ++ m → Along HasNotBegun before new.start → HasNotBegun (world_of old)
  silent_old before m is along =
      Along-end HasNotBegun old.journal old.start
      (subst (Along HasNotBegun old.journal) went.start
      (Along-front HasNotBegun old.journal m new.start (subst (λ (before : List Event). Along HasNotBegun before new.start) is along)))

  -- the rise lies in the old journal, of which the rest goes on
  record Risen (before later : List Event) : Type 0 where
    done : List Event
    is : old.journal ≡ before ++ sets_going ∷ done
    rest : later ≡ done ++ events

  risen : (before later : List Event) → new.journal ≡ before ++ sets_going ∷ later → ((m : List Event) → before ≡ old.journal ++ m → ⊥) → Risen before later
  risen before later is never = by (split old.journal events before (sets_going ∷ later) (sym went.journal ∙ is))
    where
      in_it : (m : List Event) → old.journal ≡ before ++ m → sets_going ∷ later ≡ m ++ events → Risen before later
      in_it [] is more = absurd (never [] (sym (append_end before) ∙ sym is ∙ sym (append_end old.journal)))
        where
          append_end : (xs : List Event) → xs ++ [] ≡ xs
          append_end [] = refl
          append_end (x ∷ xs) = ap (λ (rest : List Event). x ∷ rest) (append_end xs)
      in_it (x ∷ m) is more =
          let same : sets_going ≡ x = cc in
          record { done = m; is = is ∙ ap (λ (x : Event). before ++ x ∷ m) (sym same); rest = head_is sets_going x later (m ++ events) more }

      by : ((m : List Event) × (before ≡ old.journal ++ m) × (events ≡ m ++ sets_going ∷ later)) ⊎ ((m : List Event) × (old.journal ≡ before ++ m) × (sets_going ∷ later ≡ m ++ events)) → Risen before later
      by (inl (m, is, more)) = absurd (never m is)
      by (inr (m, is, more)) = in_it m is more

  -- it ran before and runs now: it ran meanwhile
  pub ran_between : Runs (world_of old) → IsGoing new → Along Runs events (world_of old)
  ran_between runs going =
      let rise = risen going.before going.during going.journal (λ m is. begun_not (world_of old) runs (silent_old going.before m is going.silent)) in
      subst (Along Runs events) (sym (there going.before rise.done rise.is))
      (along_back Runs rise.done events (after (going.before ++ sets_going ∷ []) new.start)
      (subst (λ (during : List Event). Along Runs during (after (going.before ++ sets_going ∷ []) new.start)) rise.rest going.runs))

  -- it ran before and is stopped now: it ran up to the stop
  pub record StoppedAt : Type 0 where
    pub front : List Event
    pub back : List Event
    pub events_are : events ≡ front ++ stops ∷ back
    pub runs : Along Runs front (world_of old)
    pub stays : Along IsStopped back (after (front ++ stops ∷ []) (world_of old))

  after_both : (before during m : List Event) (start : World) → after (before ++ sets_going ∷ (during ++ stops ∷ m)) start ≡ after m (after (during ++ stops ∷ []) (after (before ++ sets_going ∷ []) start))
  after_both before during m start = after_split before sets_going (during ++ stops ∷ m) start ∙ after_split during stops m (after (before ++ sets_going ∷ []) start)

  pub stopped_between : Runs (world_of old) → HasStopped new → StoppedAt
  stopped_between runs was = by (split rise.done events was.during (stops ∷ was.later) (sym rise.rest))
    where
      rise : Risen was.before (was.during ++ stops ∷ was.later)
      rise = risen was.before (was.during ++ stops ∷ was.later) was.journal (λ m is. begun_not (world_of old) runs (silent_old was.before m is was.silent))

      base : World
      base = after (was.before ++ sets_going ∷ []) new.start

      here : world_of old ≡ after rise.done base
      here = there was.before rise.done rise.is

      later_base : after (was.before ++ sets_going ∷ (was.during ++ stops ∷ [])) new.start ≡ after (was.during ++ stops ∷ []) base
      later_base = after_split was.before sets_going (was.during ++ stops ∷ []) new.start

      in_time : (n : List Event) → was.during ≡ rise.done ++ n → events ≡ n ++ stops ∷ was.later → StoppedAt
      in_time n is more = record {
        front = n;
        back = was.later;
        events_are = more;
        runs = subst (Along Runs n) (sym here) (along_back Runs rise.done n base (subst (λ (during : List Event). Along Runs during base) is was.runs));
        stays = subst (Along IsStopped was.later)
            (later_base ∙ after-append was.during (stops ∷ []) base ∙ ap (λ (during : List Event). after (stops ∷ []) (after during base)) is
            ∙ ap (λ (world : World). after (stops ∷ []) world) (after-append rise.done n base) ∙ ap (λ (world : World). after (stops ∷ []) (after n world)) (sym here)
            ∙ sym (after-append n (stops ∷ []) (world_of old))) was.stays;
      }

      too_late : (n : List Event) → rise.done ≡ was.during ++ n → stops ∷ was.later ≡ n ++ events → StoppedAt
      too_late [] is more =
          in_time [] (sym (append_end was.during) ∙ sym is ∙ sym (append_end rise.done)) (sym more)
        where
          append_end : (xs : List Event) → xs ++ [] ≡ xs
          append_end [] = refl
          append_end (x ∷ xs) = ap (λ (rest : List Event). x ∷ rest) (append_end xs)
      too_late (x ∷ n) is more =
          let same : stops ≡ x = cc in
          let rest : was.later ≡ n ++ events = head_is stops x was.later (n ++ events) more in
          let at : world_of old ≡ after n (after (was.during ++ stops ∷ []) base) =
          here ∙ ap (λ (done : List Event). after done base) (is ∙ ap (λ (x : Event). was.during ++ x ∷ n) (sym same)) ∙ after_split was.during stops n base in
          absurd (running_not (world_of old) runs
          (subst IsStopped (sym at)
          (along_first IsStopped events (after n (after (was.during ++ stops ∷ []) base))
          (along_back IsStopped n events (after (was.during ++ stops ∷ []) base)
          (subst (λ (later : List Event). Along IsStopped later (after (was.during ++ stops ∷ []) base)) rest (subst (Along IsStopped was.later) later_base was.stays))))))

      by : ((n : List Event) × (was.during ≡ rise.done ++ n) × (events ≡ n ++ stops ∷ was.later)) ⊎ ((n : List Event) × (rise.done ≡ was.during ++ n) × (stops ∷ was.later ≡ n ++ events)) → StoppedAt
      by (inl (n, is, more)) = in_time n is more
      by (inr (n, is, more)) = too_late n is more
