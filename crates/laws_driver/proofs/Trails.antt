-- The trail of a stretch that begins where no command is outstanding: no answer is found in it.
use Rattle.std.proofs.Common.{◌≡◌, ◌==◌, ◌&&◌, ◌||◌, not, ℕ, Bool, true, false, if◌then◌else◌, List, [], ◌∷◌, map, length, Option, Some, None, refl, sym, ap, subst, ◌∙◌, append_assoc, append-nil}
use Rattle.std.proofs.lemmas.Bool.{false≢true}
use Rattle.std.specs.Prelude.{cond, drop}
use Rattle.std.specs.List.{find, list_any}
use Rattle.std.specs.Option.{is_some, option_map}
use Rattle.hda_registers.specs.declared.places.TheConstants.{CORBWP, RIRBSTS}
use Rattle.world_rings.specs.declared.response.Response.{Response}
use Rattle.hda_world.specs.Worlds.{World}
use Rattle.hda_world.specs.Events.{Event, Stepped, Begin, End, Read, Write, DmaRead, DmaWrite, after}
use Rattle.hda_world.specs.Tellings.{Telling, world_of, MakesBy, Makes}
use Rattle.command_engine.specs.declared.ring_places.RingPlaces.{RingPlaces}
use Rattle.command_engine.specs.declared.answers.Outstanding.{Outstanding}
use Rattle.command_engine.specs.Entries.{answers_it, responses_in}
use Rattle.command_engine.specs.Polling.{asked_of}
use Rattle.driver_progress.specs.declared.phase.Phase.{Phase}
use Rattle.driver_progress.specs.declared.phase.Phase.TheVariants.{Reset, Settling}
use Rattle.driver_progress.specs.Tasks.{Task, DriverLine}
use Rattle.driver_progress.specs.Seen.{Seen, seen_by, values_of}
use Rattle.driver_progress.specs.States.{State}
use Rattle.driver_progress.specs.Progress.{Trail, trail_of, is_answered, noted}
use Rattle.driver_progress.specs.Noting.{with_accesses}
use Rattle.driver_progress.proofs.Callers.{ConformsTo, access_fits}
use Rattle.driver_progress.specs.Unread.{IsAccess, AreAccesses}
use Rattle.driver_progress.specs.Phases.{are_set_up}
use Rattle.driver_bring_up.specs.Commanding.{IsStretch, answer_in, entries_in}
use Rattle.laws_bring_up.specs.Stretches.{FindsIn, FindsBy, IsOpen, IsDone}
use Rattle.laws_bring_up.proofs.Callers.{trail_access, conforms_access, stretch_done}

-- ---- no response answers no command

not_both : (asked : Bool) → (asked && false) ≡ false
not_both true = refl
not_both false = refl

none_any : (responses : List Response) → list_any (answers_it None) responses ≡ false
none_any [] = refl
none_any (response ∷ responses) =
    ap (λ (is : Bool). is || list_any (answers_it None) responses) (not_both (not response.unsolicited)) ∙ none_any responses

none_found : (responses : List Response) → find (answers_it None) responses ≡ None
none_found [] = refl
none_found (response ∷ responses) =
    ap (λ (is : Bool). cond is (Some response) (find (answers_it None) responses)) (not_both (not response.unsolicited)) ∙ none_found responses

pub none_answered : (rings : RingPlaces) (made : List Event) → rings.outstanding ≡ None → is_some (answer_in rings made) ≡ false
none_answered rings made none =
    ap (λ (outstanding : Option Outstanding). is_some (option_map (λ (response : Response). response.answer) (find (answers_it (asked_of outstanding)) (responses_in (entries_in made))))) none
    ∙ ap (λ (found : Option Response). is_some (option_map (λ (response : Response). response.answer) found)) (none_found (responses_in (entries_in made)))

none_due : (trail : Trail) (world : World) → trail.state.rings.outstanding ≡ None → is_answered trail world ≡ false
none_due trail world none =
    ap (λ (outstanding : Option Outstanding). list_any (answers_it (asked_of outstanding)) (drop trail.written world.written)) none ∙ none_any (drop trail.written world.written)

-- ---- accesses

either : (is a b : Bool) → a ≡ false → b ≡ false → (if is then a else b) ≡ false
either true a b first second = first
either false a b first second = second

one_noted : (task : Task) (trail : Trail) (world : World) (event : Event) → IsAccess event → trail.state.rings.outstanding ≡ None → trail.answered ≡ false
    → (written : ℕ) × (noted task trail world event ≡ record (with_accesses trail (event ∷ [])) { written = written; answered = false })
one_noted task trail world (Stepped step) is none unanswered = absurd is
one_noted task trail world Begin is none unanswered = absurd is
one_noted task trail world End is none unanswered = absurd is
one_noted task trail world (Read at width value) is none unanswered =
    (trail.written, ap (λ (answered : Bool). record (with_accesses trail (Read at width value ∷ [])) { answered = answered }) (either (at == RIRBSTS) (is_answered trail world) trail.answered (none_due trail world none) unanswered))
one_noted task trail world (Write at width value) is none unanswered = (
  if at == CORBWP then length world.written else trail.written,
  ap (λ (answered : Bool). record (with_accesses trail (Write at width value ∷ [])) { written = if at == CORBWP then length world.written else trail.written; answered = answered }) unanswered,
)
one_noted task trail world (DmaRead at bytes) is none unanswered = (trail.written, ap (λ (answered : Bool). record (with_accesses trail (DmaRead at bytes ∷ [])) { answered = answered }) unanswered)
one_noted task trail world (DmaWrite at bytes) is none unanswered = (trail.written, ap (λ (answered : Bool). record (with_accesses trail (DmaWrite at bytes ∷ [])) { answered = answered }) unanswered)

record Rowed (task : Task) (lines : List DriverLine) (made : List Event) (old new : Telling) : Type 0 where
  written : ℕ
  trail : trail_of task lines new ≡ record (with_accesses (trail_of task lines old) made) { written = written; answered = false }
  conforms : ConformsTo task lines old → ConformsTo task lines new

idle_row : (task : Task) (lines : List DriverLine) (made : List Event) (old new : Telling) → MakesBy made old new → AreAccesses made → (trail_of task lines old).state.rings.outstanding ≡ None → (trail_of task lines old).answered ≡ false
    → Rowed task lines made old new
idle_row task lines [] old new makes are none unanswered = record {
  written = (trail_of task lines old).written;
  trail = ap (trail_of task lines) makes ∙ ap (λ (made : List Event). record (trail_of task lines old) { made = made }) (sym (append-nil (trail_of task lines old).made))
      ∙ ap (λ (answered : Bool). record (with_accesses (trail_of task lines old) []) { answered = answered }) unanswered;
  conforms = λ conforms. subst (ConformsTo task lines) (sym makes) conforms;
}
idle_row task lines (event ∷ made) old new makes are none unanswered =
    let one = one_noted task (trail_of task lines old) (after (map Stepped makes.1.steps) (world_of old)) event are.0 none unanswered in
    let here = trail_access task lines event old makes.0 makes.1 ∙ one.1 in
    let rest = idle_row task lines made makes.0 new makes.2 are.1 (ap (λ (trail : Trail). trail.state.rings.outstanding) here ∙ none) (ap (λ (trail : Trail). trail.answered) here) in record {
      written = rest.written;
      trail = rest.trail
          ∙ ap (λ (trail : Trail). record (with_accesses trail made) { written = rest.written; answered = false }) here
          ∙ ap (λ (all : List Event). record (trail_of task lines old) { made = all; written = rest.written; answered = false }) (append_assoc (trail_of task lines old).made (event ∷ []) made);
      conforms = λ conforms. rest.conforms (conforms_access task lines event old makes.0 makes.1 (access_fits task (trail_of task lines old) event are.0) conforms);
    }

-- ---- a stretch

finds_none : (phase : Phase) (state : State) (seen : Seen) → are_set_up phase ≡ true → FindsIn phase state seen
finds_none Reset state seen up = absurd (false≢true up)
finds_none Settling state seen up = absurd (false≢true up)
finds_none phase state seen up = tt {0}

finds_by : (turn : Option DriverLine) (state : State) (seen : Seen) → are_set_up state.phase ≡ true → FindsBy turn state seen
finds_by None state seen up = tt {0}
finds_by (Some line) state seen up = λ some. finds_none state.phase state seen up

pub idle_done : (task : Task) (lines left : List DriverLine) (turn : Option DriverLine) (state state' : State) (made : List Event) (old new : Telling) → IsOpen task lines left turn state old → Makes made old new → AreAccesses made
    → state.rings.outstanding ≡ None → are_set_up state.phase ≡ true → IsStretch task state turn made (is_some (answer_in state.rings made)) state' → IsDone task lines left state' new
idle_done task lines left turn state state' made old new opened makes are none up stretch =
    let row = idle_row task lines made old new makes.by are (ap (λ (state : State). state.rings.outstanding) opened.state_is ∙ none) opened.unanswered in
    stretch_done task lines left turn state state' made false row.written old new opened makes.by are row.trail (row.conforms opened.conforms)
    (subst (λ (found : Bool). IsStretch task state turn made found state') (none_answered state.rings made none) stretch)
    (finds_by turn state (seen_by (values_of made) false) up)
