-- Where in a journal an access was made, and whether the output stream ran there.
use Rattle.std.proofs.Common.{◌≡◌, ◌≢◌, ℕ, ◌/◌, ◌==◌, Bool, true, false, List, [], ◌∷◌, ◌++◌, refl, sym, ap, subst, ◌∙◌, arith, if◌then◌else◌}
use Rattle.std.specs.Prelude.{All}
use Rattle.std.proofs.lemmas.List.Elements.{All-nil, All-cons, All-head, All-tail}
use Rattle.hda_registers.specs.declared.shapes.Width.TheVariants.{One}
use Rattle.hda_registers.specs.Fields.{Fields, is_running, is_out_of_reset}
use Rattle.hda_registers.specs.Access.{written, placed, stream_written}
use Rattle.hda_world.specs.Worlds.{World}
use Rattle.hda_world.specs.Events.{Event, happens, after}
use Rattle.rig.specs.Stretches.{is_access, accesses_of}
use Rattle.laws_stream.specs.Lives.{Runs, HasNotBegun, Along, sets_going, stops}
use Rattle.laws_serving.proofs.Callers.{write_is}

-- ---- an access among events

pub record IsSplit (body front : List Event) (access : Event) (back : List Event) : Type 0 where
  pub before : List Event
  pub behind : List Event
  pub is : body ≡ before ++ access ∷ behind
  pub front_is : accesses_of before ≡ front
  pub back_is : accesses_of behind ≡ back

pub split_body : (body front : List Event) (access : Event) (back : List Event) → accesses_of body ≡ front ++ access ∷ back → IsSplit body front access back
split_body [] [] access back is = cc
split_body [] (first ∷ front) access back is = cc
split_body (event ∷ body) front access back is = by (is_access event) refl front is (λ front is. split_body body front access back is)
  where
    by : (b : Bool) → is_access event ≡ b → (front : List Event) → (if b then event ∷ accesses_of body else accesses_of body) ≡ front ++ access ∷ back
        → ((front : List Event) → accesses_of body ≡ front ++ access ∷ back → IsSplit body front access back) → IsSplit (event ∷ body) front access back
    by false none front is later =
        let rest = later front is in record {
          before = event ∷ rest.before;
          behind = rest.behind;
          is = ap (λ (events : List Event). event ∷ events) rest.is;
          front_is = ap (λ (b : Bool). if b then event ∷ accesses_of rest.before else accesses_of rest.before) none ∙ rest.front_is;
          back_is = rest.back_is;
        }
    by true holds [] is later =
        let first : event ≡ access = cc in
        let rest : accesses_of body ≡ back = cc in record { before = []; behind = body; is = ap (λ (one : Event). one ∷ body) first; front_is = refl; back_is = rest }
    by true holds (one ∷ front) is later =
        let first : event ≡ one = cc in
        let rest : accesses_of body ≡ front ++ access ∷ back = cc in
        let done = later front rest in record {
          before = event ∷ done.before;
          behind = done.behind;
          is = ap (λ (events : List Event). event ∷ events) done.is;
          front_is = ap (λ (b : Bool). if b then event ∷ accesses_of done.before else accesses_of done.before) holds ∙ ap (λ (one : Event). one ∷ accesses_of done.before) first ∙ ap (λ (events : List Event). one ∷ events) done.front_is;
          back_is = done.back_is;
        }

-- ---- until the stop the stream runs

abbrev pub IsNoStop : Event → Type 0
IsNoStop event = event ≢ stops

first_moment : (during : List Event) (world : World) → Along Runs during world → Runs world
first_moment [] world along = along
first_moment (event ∷ during) world along = along.0

pub runs_at : (front back during later : List Event) (world : World) → front ++ back ≡ during ++ stops ∷ later → All IsNoStop front → Along Runs during world → Runs (after front world)
runs_at [] back during later world is none along = first_moment during world along
runs_at (event ∷ front) back [] later world is none along = let same : event ≡ stops = cc in absurd (All-head IsNoStop event front none same)
runs_at (event ∷ front) back (other ∷ during) later world is none along =
    let same : event ≡ other = cc in
    let rest : front ++ back ≡ during ++ stops ∷ later = cc in
    runs_at front back during later (happens world event) rest (All-tail IsNoStop event front none) (subst (λ (event : Event). Along Runs during (happens world event)) (sym same) along.1)

-- ---- the rise of RUN

abbrev pub IsNoRise : Event → Type 0
IsNoRise event = event ≢ sets_going

write-run : (f : Fields) → is_out_of_reset f.global ≡ true → (written f 0xA0 One 0x1E).output.run ≡ 1
unfolding written placed stream_written
write-run f out = rw out refl

pub rise_runs : (world : World) → is_out_of_reset world.registers.global ≡ true → is_running (happens world sets_going).registers.output ≡ true
rise_runs world out =
    let apart : 0xA0 / 4 ≢ 2 = omega arith in
    ap (λ (now : World). is_running now.registers.output) (write_is world 0xA0 0x1E One apart) ∙ ap (λ (run : ℕ). run == 1) (write-run world.registers out)

pub never_begun : (events : List Event) (world : World) → Along HasNotBegun events world → HasNotBegun world
never_begun [] world along = along
never_begun (event ∷ events) world along = along.0

-- it is the first write that sets the stream going
pub record IsTheRise (front back before later : List Event) (world : World) : Type 0 where
  pub front_is : front ≡ before
  pub back_is : back ≡ later
  pub silent : Along HasNotBegun front world

pub one_rise : (front back before later : List Event) (world : World) → front ++ sets_going ∷ back ≡ before ++ sets_going ∷ later → All IsNoRise front → is_out_of_reset (after front world).registers.global ≡ true
    → Along HasNotBegun before world → IsTheRise front back before later world
one_rise [] back [] later world is none out along = let rest : back ≡ later = cc in record { front_is = refl; back_is = rest; silent = along }
one_rise [] back (other ∷ before) later world is none out along =
    let same : sets_going ≡ other = cc in
    let there = never_begun before (happens world other) along.1 in
    let stopped : is_running (happens world sets_going).registers.output ≡ false = ap (λ (event : Event). is_running (happens world event).registers.output) same ∙ there.stopped in
    absurd (let z : true ≡ false = sym (rise_runs world out) ∙ stopped in cc)
one_rise (event ∷ front) back [] later world is none out along = let same : event ≡ sets_going = cc in absurd (All-head IsNoRise event front none same)
one_rise (event ∷ front) back (other ∷ before) later world is none out along =
    let same : event ≡ other = cc in
    let rest : front ++ sets_going ∷ back ≡ before ++ sets_going ∷ later = cc in
    let done = one_rise front back before later (happens world event) rest (All-tail IsNoRise event front none) out (subst (λ (event : Event). Along HasNotBegun before (happens world event)) (sym same) along.1) in
    record { front_is = ap (λ (events : List Event). event ∷ events) done.front_is ∙ ap (λ (one : Event). one ∷ before) same; back_is = done.back_is; silent = (along.0, done.silent) }

-- ---- events by their accesses

-- what accesses have, events have that are no access
pub by_accesses : (P : Event → Type 0) → ((event : Event) → is_access event ≡ false → P event) → (events : List Event) → All P (accesses_of events) → All P events
by_accesses P others [] all = All-nil P
by_accesses P others (event ∷ events) all = by (is_access event) refl all (λ all. by_accesses P others events all)
  where
    by : (b : Bool) → is_access event ≡ b → All P (if b then event ∷ accesses_of events else accesses_of events) → (All P (accesses_of events) → All P events) → All P (event ∷ events)
    by true holds all later = All-cons P event events (All-head P event (accesses_of events) all) (later (All-tail P event (accesses_of events) all))
    by false none all later = All-cons P event events (others event none) (later all)
