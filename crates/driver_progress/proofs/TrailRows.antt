-- How the trail goes on over rows of accesses, as they are told.
use Rattle.std.proofs.Common.{◌≡◌, ◌==◌, ℕ, List, [], ◌∷◌, ◌++◌, map, Bool, false, refl, sym, ap, subst, ◌∙◌, append_assoc, append-nil, length, if◌then◌else◌}
use Rattle.hda_registers.specs.declared.places.TheConstants.{CORBWP, RIRBSTS}
use Rattle.world_steps.specs.declared.Step.{Step}
use Rattle.hda_world.specs.Worlds.{World}
use Rattle.hda_world.specs.Events.{Event, Stepped, Begin, End, Read, Write, DmaRead, DmaWrite, happens, after}
use Rattle.hda_world.specs.Tellings.{Telling, world_of, Went, Makes, MakesBy}
use Rattle.driver_progress.specs.Tasks.{Task, DriverLine}
use Rattle.driver_progress.specs.Progress.{Trail, trail_opened, trail_after, trail_of, noted, is_answered, with_access, FitsAt, Conforms}
use Rattle.driver_progress.specs.Noting.{IsPlain, ArePlain, with_accesses}
use Rattle.driver_progress.proofs.TrailLaws.{trail_append, conforms_both}
use Rattle.driver_progress.proofs.AccessRows.{access_fits, plain_access}

-- that the journal conforms, by what is told
abbrev pub ConformsTo : Task → List DriverLine → Telling → Type 0
ConformsTo task lines telling = Conforms task telling.journal telling.start (trail_opened lines)

-- over events that went on
pub trail_went : (task : Task) (lines : List DriverLine) (old new : Telling) (events : List Event) → Went old new events
    → trail_of task lines new ≡ trail_after task events (world_of old) (trail_of task lines old)
trail_went task lines old new events went =
    ap (λ (start : World). trail_after task new.journal start (trail_opened lines)) went.start
    ∙ ap (λ (journal : List Event). trail_after task journal old.start (trail_opened lines)) went.journal
    ∙ trail_append task old.journal events old.start (trail_opened lines)

pub conforms_went : (task : Task) (lines : List DriverLine) (old new : Telling) (events : List Event) → Went old new events
    → Conforms task events (world_of old) (trail_of task lines old) → ConformsTo task lines old → ConformsTo task lines new
conforms_went task lines old new events went more conforms =
    subst (λ (start : World). Conforms task new.journal start (trail_opened lines)) (sym went.start)
    (subst (λ (journal : List Event). Conforms task journal old.start (trail_opened lines)) (sym went.journal)
    (conforms_both task old.journal events old.start (trail_opened lines) conforms more))

-- ---- steps and then an event

pub trail_stepped : (task : Task) (steps : List Step) (event : Event) (world : World) (trail : Trail)
    → trail_after task (map Stepped steps ++ event ∷ []) world trail ≡ noted task trail (after (map Stepped steps) world) event
trail_stepped task [] event world trail = refl
trail_stepped task (step ∷ steps) event world trail = trail_stepped task steps event (happens world (Stepped step)) trail

pub conforms_stepped : (task : Task) (steps : List Step) (event : Event) (world : World) (trail : Trail) → FitsAt task trail event
    → Conforms task (map Stepped steps ++ event ∷ []) world trail
conforms_stepped task [] event world trail fits = (fits, tt)
conforms_stepped task (step ∷ steps) event world trail fits = (tt, conforms_stepped task steps event (happens world (Stepped step)) trail fits)

-- ---- a plain access, and a row of them

answered_plain : (is : Bool) (trail : Trail) (event : Event) (answered : Bool) → is ≡ false
    → record (with_access trail event) { answered = if is then answered else trail.answered } ≡ with_access trail event
answered_plain is trail event answered none = ap (λ (b : Bool). record (with_access trail event) { answered = if b then answered else trail.answered }) none

written_plain : (is : Bool) (trail : Trail) (event : Event) (written : ℕ) → is ≡ false
    → record (with_access trail event) { written = if is then written else trail.written } ≡ with_access trail event
written_plain is trail event written none = ap (λ (b : Bool). record (with_access trail event) { written = if b then written else trail.written }) none

pub noted_plain : (task : Task) (trail : Trail) (world : World) (event : Event) → IsPlain event → noted task trail world event ≡ with_access trail event
noted_plain task trail world (Stepped step) plain = absurd plain
noted_plain task trail world Begin plain = absurd plain
noted_plain task trail world End plain = absurd plain
noted_plain task trail world (Read at width value) plain = answered_plain (at == RIRBSTS) trail (Read at width value) (is_answered trail world) plain
noted_plain task trail world (Write at width value) plain = written_plain (at == CORBWP) trail (Write at width value) (length world.written) plain
noted_plain task trail world (DmaRead at bytes) plain = refl
noted_plain task trail world (DmaWrite at bytes) plain = refl

row_by : (task : Task) (lines : List DriverLine) (made : List Event) (old new : Telling) → MakesBy made old new → ArePlain made
    → (trail_of task lines new ≡ with_accesses (trail_of task lines old) made) × (ConformsTo task lines old → ConformsTo task lines new)
row_by task lines [] old new none plain = (
  ap (trail_of task lines) none ∙ ap (λ (made : List Event). record (trail_of task lines old) { made = made }) (sym (append-nil (trail_of task lines old).made)),
  λ conforms. subst (ConformsTo task lines) (sym none) conforms,
)
row_by task lines (event ∷ made) old new (middle, first, more) plain =
    let rest = row_by task lines made middle new more plain.1 in
    let here : trail_of task lines middle ≡ with_access (trail_of task lines old) event =
    trail_went task lines old middle (map Stepped first.steps ++ event ∷ []) first.went
    ∙ trail_stepped task first.steps event (world_of old) (trail_of task lines old)
    ∙ noted_plain task (trail_of task lines old) (after (map Stepped first.steps) (world_of old)) event plain.0 in
    let go = conforms_went task lines old middle (map Stepped first.steps ++ event ∷ []) first.went
    (conforms_stepped task first.steps event (world_of old) (trail_of task lines old) (access_fits task (trail_of task lines old) event (plain_access event plain.0))) in (
      rest.0 ∙ ap (λ (trail : Trail). with_accesses trail made) here
          ∙ ap (λ (all : List Event). record (trail_of task lines old) { made = all }) (append_assoc (trail_of task lines old).made (event ∷ []) made),
      λ conforms. rest.1 (go conforms),
    )

-- accesses that were made one after another were made
pub trail_row : (task : Task) (lines : List DriverLine) (made : List Event) (old new : Telling) → Makes made old new → ArePlain made
    → (trail_of task lines new ≡ with_accesses (trail_of task lines old) made) × (ConformsTo task lines old → ConformsTo task lines new)
trail_row task lines made old new makes plain = row_by task lines made old new makes.by plain
