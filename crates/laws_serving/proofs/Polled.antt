-- The device serves the rings after the driver's look for an answer, and a command that is submitted then comes next.
use Rattle.std.proofs.Common.{◌≡◌, ◌≤◌, ◌<◌, inl, inr, ◌+◌, ◌*◌, ◌%◌, ◌^◌, ℕ, zero, suc, Bool, true, false, if◌then◌else◌, ◌||◌, List, [], ◌∷◌, length, drop, Option, None, Some, refl, sym, ap, subst, ◌∙◌, arith}
use Rattle.std.specs.Option.{is_some, option_map}
use Rattle.std.proofs.Math.Nat.{mod-lt, mod-eq_of_lt}
use Rattle.std.proofs.lemmas.List.{drop_all}
use Rattle.hda_registers.specs.Fields.{entries_of}
use Rattle.world_rings.specs.declared.response.Response.{Response}
use Rattle.world_rings.specs.Memory.{word_at}
use Rattle.world_rings.specs.Entries.{next_place}
use Rattle.hda_world.specs.Worlds.{World, TakenCommand}
use Rattle.command_engine.specs.declared.ring_places.RingPlaces.{RingPlaces}
use Rattle.command_engine.specs.declared.answers.Outstanding.{Outstanding}
use Rattle.command_engine.specs.Belonging.{from_after}
use Rattle.command_engine.specs.Submitting.{command_place}
use Rattle.command_engine.specs.Fetchings.{AreOf, RingPart, IsFetching, IsWordOf, part_of, solicited, waiting_answers}
use Rattle.std.specs.Prelude.{cond, not, ◌&&◌, map}
use Rattle.std.specs.List.{list_any, find}
use Rattle.std.proofs.lemmas.List.Sums.{sum_by-cons}
use Rattle.hda_registers.proofs.Callers.{some_entries, few_entries}
use Rattle.command_engine.specs.Entries.{answers_it, is_from, answer_among}
use Rattle.command_engine.specs.Polling.{asked_of}
use Rattle.command_engine.specs.Belonging.{as_held}
use Rattle.command_engine.specs.Told.{found_since}
use Rattle.laws_serving.proofs.RoundTrips.{unread_answers_it}
use Rattle.laws_serving.specs.ServingDevices.{ServesBy, StandsServed, NamesItsCodec, taken_since, unread_answers}

-- ---- whether an answer was found

found_is : (asked : Option ℕ) (responses : List Response) → is_some (find (answers_it asked) (map as_held responses)) ≡ list_any (answers_it asked) responses
found_is asked [] = refl
found_is asked (response ∷ responses) = by (answers_it asked response) (found_is asked responses)
  where
    by : (b : Bool) → is_some (find (answers_it asked) (map as_held responses)) ≡ list_any (answers_it asked) responses
        → is_some (if b then Some (as_held response) else find (answers_it asked) (map as_held responses)) ≡ (b || list_any (answers_it asked) responses)
    by true rest = refl
    by false rest = rest

held_is : (found : Option Response) → is_some (option_map (λ (response : Response). response.answer) found) ≡ is_some found
held_is None = refl
held_is (Some response) = refl

among_is : (asked : Option ℕ) (responses : List Response) → is_some (answer_among asked (map as_held responses)) ≡ list_any (answers_it asked) responses
among_is asked responses = held_is (find (answers_it asked) (map as_held responses)) ∙ found_is asked responses

-- an answer among responses is counted
counted : (asked : Option ℕ) (responses : List Response) → list_any (answers_it asked) responses ≡ true → 1 ≤ solicited responses
counted asked [] some = cc
counted asked (response ∷ responses) some = by response.unsolicited refl (sum_by-cons (λ (response : Response). cond (not response.unsolicited) 1 0) response responses) (λ rest. counted asked responses rest)
  where
    by : (b : Bool) → response.unsolicited ≡ b → solicited (response ∷ responses) ≡ cond (not response.unsolicited) 1 0 + solicited responses → (list_any (answers_it asked) responses ≡ true → 1 ≤ solicited responses)
        → 1 ≤ solicited (response ∷ responses)
    by true is cons later =
        let rest : list_any (answers_it asked) responses ≡ true = sym (ap (λ (b : Bool). (not b && is_from asked response.codec) || list_any (answers_it asked) responses) is) ∙ some in
        let more = later rest in omega (arith, cons, more)
    by false is cons later =
        let one : solicited (response ∷ responses) ≡ 1 + solicited responses = cons ∙ ap (λ (b : Bool). cond (not b) 1 0 + solicited responses) is in omega (arith, one)

most_of : (outstanding : Option Outstanding) (gained : List TakenCommand) → AreOf outstanding gained → length gained ≤ 1
most_of outstanding [] are = omega arith
most_of None (taken ∷ more) are = absurd are
most_of (Some command) (taken ∷ more) are = let none = ap length are.1 in omega (arith, none)

nothing_taken : (outstanding : Option Outstanding) (part : RingPart) (word : ℕ) (gained : List TakenCommand) → outstanding ≡ None → IsFetching outstanding part word gained → length gained ≡ 0
nothing_taken outstanding part word gained idle (inl all) = none gained (subst (λ (outstanding : Option Outstanding). AreOf outstanding gained) idle all.taken)
  where
    none : (gained : List TakenCommand) → AreOf None gained → length gained ≡ 0
    none [] are = refl
    none (taken ∷ more) are = absurd are
nothing_taken outstanding part word gained idle (inr next) = ap length next.none

module _ (from read corb rirb : ℕ) (rings : RingPlaces) where
  taken_most : (world : World) → StandsServed from read corb rirb rings world → taken_since from world ≤ 1
  taken_most world served = by served.stands.fetching
    where
      by : IsFetching rings.outstanding (part_of world.registers) (word_at world.memory (corb + 4 * rings.submitted)) (drop from world.commands) → taken_since from world ≤ 1
      by (inl all) = most_of rings.outstanding (drop from world.commands) all.taken
      by (inr next) = let none = ap length next.none in omega (arith, none)

  nothing_after : (found : Option ℕ) (world : World) → StandsServed from read corb rirb rings world → (is_some found ≡ true → 1 ≤ unread_answers read world) → (is_some found ≡ false → unread_answers read world ≡ 0)
      → solicited world.waiting + waiting_answers world.codecs ≡ length (drop (from_after found from world.commands) world.commands)
  nothing_after None world served some none =
      let all = served.serves.none_lost in
      let zero = none refl in omega (arith, all, zero)
  nothing_after (Some value) world served some none =
      let all = served.serves.none_lost in
      let most = taken_most world served in
      let one = some refl in
      let past = ap length (drop_all (length world.commands) world.commands (omega arith)) in omega (arith, all, most, one, past)

  -- the look read all that was written and cleared the flag
  pub polled_serves : (found : Option ℕ) (world : World) → StandsServed from read corb rirb rings world → (is_some found ≡ true → 1 ≤ unread_answers read world) → (is_some found ≡ false → unread_answers read world ≡ 0)
      → ServesBy (from_after found from world.commands) (length world.written) (record world.registers.global { response_flag = 0 }) world.codecs world.waiting world.commands world.written
  polled_serves found world served some none =
      let past = drop_all (length world.written) world.written (omega arith) in
      let left = nothing_after found world served some none in
      let counts = ap solicited past in
      let longs = ap length past in record {
        corb_runs = served.serves.corb_runs;
        no_reset = served.serves.no_reset;
        rirb_runs = served.serves.rirb_runs;
        flag = λ is. absurd (not_one is);
        asked = served.serves.asked;
        all_asked = served.serves.all_asked;
        read_asked = omega (arith, counts, longs);
        none_lost = omega (arith, counts, left);
      }
    where
      not_one : let zero : ℕ = 0 in zero ≡ 1 → ⊥
      not_one is = omega (arith, is)

  some_unread : (world : World) → StandsServed from read corb rirb rings world → is_some (found_since read rings world) ≡ true → 1 ≤ unread_answers read world
  some_unread world served some = counted (asked_of rings.outstanding) (drop read world.written) (sym (among_is (asked_of rings.outstanding) (drop read world.written)) ∙ some)

  none_unread : (world : World) → StandsServed from read corb rirb rings world → NamesItsCodec rings.outstanding → is_some (found_since read rings world) ≡ false → unread_answers read world ≡ 0
  none_unread world served names none = by rings.outstanding refl (unread_answers read world) refl
    where
      none_any : list_any (answers_it (asked_of rings.outstanding)) (drop read world.written) ≡ false
      none_any = sym (among_is (asked_of rings.outstanding) (drop read world.written)) ∙ none

      idle : rings.outstanding ≡ None → unread_answers read world ≡ 0
      idle is =
          let all = served.serves.none_lost in
          let empty = nothing_taken rings.outstanding (part_of world.registers) (word_at world.memory (corb + 4 * rings.submitted)) (drop from world.commands) is served.stands.fetching in omega (arith, all, empty)

      by : (outstanding : Option Outstanding) → rings.outstanding ≡ outstanding → (unread : ℕ) → unread_answers read world ≡ unread → unread_answers read world ≡ 0
      by None is unread there = idle is
      by (Some command) is zero there = there
      by (Some command) is (suc more) there =
          let same = subst NamesItsCodec is names in
          let any = unread_answers_it from read corb rirb rings command is world same served (omega (arith, there)) in
          let other : list_any (answers_it (Some command.codec)) (drop read world.written) ≡ false = sym (ap (λ (outstanding : Option Outstanding). list_any (answers_it (asked_of outstanding)) (drop read world.written)) is) ∙ none_any in cc

  pub looked_serves : (world : World) → StandsServed from read corb rirb rings world → NamesItsCodec rings.outstanding
      → ServesBy (from_after (found_since read rings world) from world.commands) (length world.written) (record world.registers.global { response_flag = 0 }) world.codecs world.waiting world.commands world.written
  looked_serves world served names = polled_serves (found_since read rings world) world served (some_unread world served) (none_unread world served names)

  -- a command that is submitted then is the next that CORB's engine fetches
  pub submitted_comes : (world : World) → StandsServed from read corb rirb rings world → rings.outstanding ≡ None
      → next_place world.registers.global.corb_read_pointer (entries_of world.registers.shape.corb) ≡ command_place rings % 2 ^ 8 % entries_of world.registers.shape.corb
  submitted_comes world served idle = by served.stands.fetching
    where
      word : ℕ
      word = word_at world.memory (corb + 4 * rings.submitted)

      by : IsFetching rings.outstanding (part_of world.registers) (word_at world.memory (corb + 4 * rings.submitted)) (drop from world.commands)
          → next_place world.registers.global.corb_read_pointer (entries_of world.registers.shape.corb) ≡ command_place rings % 2 ^ 8 % entries_of world.registers.shape.corb
      by (inl all) =
          let has = served.stands.has_rings in
          let size = ap entries_of has.corb_size in
          let below : command_place rings < entries_of rings.corb = mod-lt (rings.submitted + 1) (some_entries rings.corb) in
          let few = few_entries rings.corb in
          let low : command_place rings % 2 ^ 8 ≡ command_place rings = mod-eq_of_lt (omega (arith, below, few)) in
          ap (λ (place : ℕ). next_place place (entries_of world.registers.shape.corb)) (all.pointers ∙ has.submitted)
          ∙ ap (λ (size : ℕ). next_place rings.submitted size) size
          ∙ sym (mod-eq_of_lt below)
          ∙ ap (λ (size : ℕ). command_place rings % size) (sym size)
          ∙ ap (λ (place : ℕ). place % entries_of world.registers.shape.corb) (sym low)
      by (inr next) = absurd (subst (λ (outstanding : Option Outstanding). IsWordOf outstanding word) idle next.is)
