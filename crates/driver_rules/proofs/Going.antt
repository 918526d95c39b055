-- Stretches that go by the rules.
use Rattle.std.proofs.Common.{◌≡◌, ◌&&◌, Bool, true, List, [], ◌∷◌, ◌++◌, map, Option, None, Some, refl, sym, ap, subst, ◌∙◌, append_assoc, append-nil}
use Rattle.std.specs.Prelude.{drop, slice_get}
use Rattle.std.specs.Option.{is_some}
use Rattle.world_steps.specs.declared.Step.{Step}
use Rattle.hda_world.specs.Worlds.{World}
use Rattle.hda_world.specs.Events.{Event, Stepped, Begin, End, Read, Write, DmaRead, DmaWrite, after}
use Rattle.hda_world.specs.Tellings.{Telling, world_of, Went, Accessed, MakesBy, Makes}
use Rattle.command_engine.specs.declared.ring_places.RingPlaces.{RingPlaces}
use Rattle.driver_progress.specs.Phases.{is_ready}
use Rattle.driver_progress.specs.Tasks.{Task, DriverLine}
use Rattle.driver_progress.specs.Unread.{IsAccess, AreAccesses}
use Rattle.driver_progress.specs.Requests.{requests_of}
use Rattle.driver_progress.specs.Progress.{Trail, trail_of}
use Rattle.driver_rules.specs.Findings.{findings_of}
use Rattle.driver_rules.specs.Rules.{Rules}
use Rattle.driver_rules.specs.Onward.{Onward, is_turn, begun_if, later_begun, later_ended, onward_noted, FitsBy, onward_of, IsAtOnwardRest, IsOnwardOpen, IsRuleStretch}
use Rattle.driver_rules.proofs.Onwards.{trail_is, onward_went, conforms_onward_went, steps_leave_onward, steps_conform_onward, onward_access, conforms_onward_access, access_fits_onward}

module _ {S : Type 0} (rules : Rules S) where
  -- ---- a stretch begins

  pub turned : (trail : Trail) (later : Option S) → later ≡ None → is_turn trail ≡ true → later_begun rules trail later ≡ Some (rules.begin trail.state.rings)
  turned trail None none turns = ap (λ (turns : Bool). begun_if rules turns trail) turns
  turned trail (Some later) none turns = cc

  -- the first of a line in `Ready`
  pub rules_turn : (task : Task) (lines left : List DriverLine) (line : DriverLine) (rings : RingPlaces) (old new : Telling) → Accessed old new Begin
      → is_ready (trail_of task lines old).state.phase ≡ true → (trail_of task lines old).state.rings ≡ rings
      → IsAtOnwardRest rules task lines (line ∷ left) None old → IsOnwardOpen rules task lines left (Some line) (Some (rules.begin rings)) [] new
  rules_turn task lines left line rings old new accessed ready rings_are rest =
      let onward = onward_of rules task lines old in
      let same = trail_is rules task lines old in
      let is = onward_access rules task lines Begin old new accessed in
      let turns : is_turn onward.trail ≡ true =
      ap (λ (left : List DriverLine). is_ready onward.trail.state.phase && is_some (slice_get left 0)) rest.left_is
      ∙ ap (λ (trail : Trail). is_ready trail.state.phase && true) same ∙ ap (λ (ready : Bool). ready && true) ready in record {
        conforms = conforms_onward_access rules task lines Begin old new accessed (tt {0}) rest.conforms;
        within = ap (λ (onward : Onward S). onward.trail.within) is;
        left_is = ap (λ (onward : Onward S). onward.trail.left) is ∙ ap (λ (left : List DriverLine). drop 1 left) rest.left_is;
        turn_is = ap (λ (onward : Onward S). onward.trail.turn) is ∙ ap (λ (left : List DriverLine). slice_get left 0) rest.left_is;
        made_is = ap (λ (onward : Onward S). onward.trail.made) is;
        later_is = ap (λ (onward : Onward S). onward.later) is ∙ turned onward.trail onward.later rest.later_is turns
            ∙ ap (λ (rings : RingPlaces). Some (rules.begin rings)) (ap (λ (trail : Trail). trail.state.rings) same ∙ rings_are);
      }

  begun_later : (trail : Trail) (later : Option S) (state : S) → later ≡ Some state → later_begun rules trail later ≡ Some state
  begun_later trail None state is = cc
  begun_later trail (Some later) state is = is

  -- each later one
  pub rules_open : (task : Task) (lines left : List DriverLine) (later : S) (old new : Telling) → Accessed old new Begin
      → IsAtOnwardRest rules task lines left (Some later) old → IsOnwardOpen rules task lines (drop 1 left) (slice_get left 0) (Some later) [] new
  rules_open task lines left later old new accessed rest =
      let onward = onward_of rules task lines old in
      let is = onward_access rules task lines Begin old new accessed in record {
        conforms = conforms_onward_access rules task lines Begin old new accessed (tt {0}) rest.conforms;
        within = ap (λ (onward : Onward S). onward.trail.within) is;
        left_is = ap (λ (onward : Onward S). onward.trail.left) is ∙ ap (λ (left : List DriverLine). drop 1 left) rest.left_is;
        turn_is = ap (λ (onward : Onward S). onward.trail.turn) is ∙ ap (λ (left : List DriverLine). slice_get left 0) rest.left_is;
        made_is = ap (λ (onward : Onward S). onward.trail.made) is;
        later_is = ap (λ (onward : Onward S). onward.later) is ∙ begun_later onward.trail onward.later later rest.later_is;
      }

  -- ---- its accesses

  -- it stays open, and the access is added to what was made
  record AreOf (old new : Onward S) (made : List Event) : Type 0 where
    pub within : new.trail.within ≡ old.trail.within
    pub left_is : new.trail.left ≡ old.trail.left
    pub turn_is : new.trail.turn ≡ old.trail.turn
    pub made_is : new.trail.made ≡ old.trail.made ++ made
    pub later_is : new.later ≡ old.later

  access_of : (task : Task) (onward : Onward S) (world : World) (event : Event) → IsAccess event → AreOf onward (onward_noted rules task onward world event) (event ∷ [])
  access_of task onward world (Stepped step) is = absurd is
  access_of task onward world Begin is = absurd is
  access_of task onward world End is = absurd is
  access_of task onward world (Read at width value) is = record { within = refl; left_is = refl; turn_is = refl; made_is = refl; later_is = refl }
  access_of task onward world (Write at width value) is = record { within = refl; left_is = refl; turn_is = refl; made_is = refl; later_is = refl }
  access_of task onward world (DmaRead at bytes) is = record { within = refl; left_is = refl; turn_is = refl; made_is = refl; later_is = refl }
  access_of task onward world (DmaWrite at bytes) is = record { within = refl; left_is = refl; turn_is = refl; made_is = refl; later_is = refl }

  row_by : (task : Task) (lines left : List DriverLine) (turn : Option DriverLine) (later : S) (before made : List Event) (old new : Telling) → MakesBy made old new → AreAccesses made
      → IsOnwardOpen rules task lines left turn (Some later) before old → IsOnwardOpen rules task lines left turn (Some later) (before ++ made) new
  row_by task lines left turn later before [] old new none are opened =
      subst (λ (telling : Telling). IsOnwardOpen rules task lines left turn (Some later) (before ++ []) telling) (sym none)
      (subst (λ (made : List Event). IsOnwardOpen rules task lines left turn (Some later) made old) (sym (append-nil before)) opened)
  row_by task lines left turn later before (event ∷ made) old new makes are opened =
      let onward = onward_of rules task lines old in
      let is = onward_access rules task lines event old makes.0 makes.1 in
      let one = access_of task onward (after (map Stepped makes.1.steps) (world_of old)) event are.0 in
      subst (λ (made : List Event). IsOnwardOpen rules task lines left turn (Some later) made new) (append_assoc before (event ∷ []) made)
      (row_by task lines left turn later (before ++ event ∷ []) made makes.0 new makes.2 are.1 (record {
        conforms = conforms_onward_access rules task lines event old makes.0 makes.1 (access_fits_onward rules task onward event are.0) opened.conforms;
        within = ap (λ (onward : Onward S). onward.trail.within) is ∙ one.within ∙ opened.within;
        left_is = ap (λ (onward : Onward S). onward.trail.left) is ∙ one.left_is ∙ opened.left_is;
        turn_is = ap (λ (onward : Onward S). onward.trail.turn) is ∙ one.turn_is ∙ opened.turn_is;
        made_is = ap (λ (onward : Onward S). onward.trail.made) is ∙ one.made_is ∙ ap (λ (front : List Event). front ++ event ∷ []) opened.made_is;
        later_is = ap (λ (onward : Onward S). onward.later) is ∙ one.later_is ∙ opened.later_is;
      }))

  pub rules_row : (task : Task) (lines left : List DriverLine) (turn : Option DriverLine) (later : S) (before made : List Event) (old new : Telling) → Makes made old new → AreAccesses made
      → IsOnwardOpen rules task lines left turn (Some later) before old → IsOnwardOpen rules task lines left turn (Some later) (before ++ made) new
  rules_row task lines left turn later before made old new makes are opened = row_by task lines left turn later before made old new makes.by are opened

  -- ---- it ends

  ended_later : (trail : Trail) (later : Option S) (state : S) (turn : Option DriverLine) (made : List Event) (answered : Bool) → later ≡ Some state → trail.turn ≡ turn → trail.made ≡ made
      → later_ended rules trail.turn trail.made answered later ≡ Some (rules.next state turn (findings_of made answered))
  ended_later trail later state turn made answered is turn_is made_is =
      ap (λ (later : Option S). later_ended rules trail.turn trail.made answered later) is
      ∙ ap (λ (turn : Option DriverLine). Some (rules.next state turn (findings_of trail.made answered))) turn_is
      ∙ ap (λ (made : List Event). Some (rules.next state turn (findings_of made answered))) made_is

  fits_by : (task : Task) (trail : Trail) (later : Option S) (state : S) (turn : Option DriverLine) (made : List Event) (answered : Bool) → later ≡ Some state → trail.turn ≡ turn → trail.made ≡ made
      → requests_of made ≡ rules.expected state turn (findings_of made answered) → FitsBy rules task trail answered later
  fits_by task trail later state turn made answered is turn_is made_is fits =
      subst (FitsBy rules task trail answered) (sym is)
      (ap requests_of made_is ∙ fits
      ∙ ap (λ (turn : Option DriverLine). rules.expected state turn (findings_of made answered)) (sym turn_is)
      ∙ ap (λ (made : List Event). rules.expected state trail.turn (findings_of made answered)) (sym made_is))

  pub rules_close : (task : Task) (lines left : List DriverLine) (turn : Option DriverLine) (later later' : S) (made : List Event) (old new : Telling) → Accessed old new End
      → IsRuleStretch rules later turn made (onward_of rules task lines old).answered later' → IsOnwardOpen rules task lines left turn (Some later) made old
      → IsAtOnwardRest rules task lines left (Some later') new
  rules_close task lines left turn later later' made old new accessed stretch opened =
      let onward = onward_of rules task lines old in
      let is = onward_access rules task lines End old new accessed in record {
        conforms = conforms_onward_access rules task lines End old new accessed
            (fits_by task onward.trail onward.later later turn made onward.answered opened.later_is opened.turn_is opened.made_is stretch.fits) opened.conforms;
        within = ap (λ (onward : Onward S). onward.trail.within) is;
        left_is = ap (λ (onward : Onward S). onward.trail.left) is ∙ opened.left_is;
        later_is = ap (λ (onward : Onward S). onward.later) is
            ∙ ended_later onward.trail onward.later later turn made onward.answered opened.later_is opened.turn_is opened.made_is
            ∙ ap (λ (state : S). Some state) (sym stretch.leads);
      }

  -- ---- steps of the device between two stretches

  pub rest_steps : (task : Task) (lines left : List DriverLine) (later : Option S) (steps : List Step) (old new : Telling) → Went old new (map Stepped steps)
      → IsAtOnwardRest rules task lines left later old → IsAtOnwardRest rules task lines left later new
  rest_steps task lines left later steps old new went rest =
      let onward = onward_of rules task lines old in
      let is = onward_went rules task lines old new (map Stepped steps) went ∙ steps_leave_onward rules task steps (world_of old) onward in record {
        conforms = conforms_onward_went rules task lines old new (map Stepped steps) went (steps_conform_onward rules task steps (world_of old) onward) rest.conforms;
        within = ap (λ (onward : Onward S). onward.trail.within) is ∙ rest.within;
        left_is = ap (λ (onward : Onward S). onward.trail.left) is ∙ rest.left_is;
        later_is = ap (λ (onward : Onward S). onward.later) is ∙ rest.later_is;
      }
