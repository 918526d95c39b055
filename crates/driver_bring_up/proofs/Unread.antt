-- Calls before the first command is sent.
use Rattle.std.proofs.Common.{◌≡◌, ◌*◌, ◌++◌, ◌∷◌, [], ℕ, List, Bool, true, false, if◌then◌else◌, Option, refl, sym, ap, subst, ◌∙◌, inl, inr, ◌⊎◌}
use Rattle.std.proofs.lemmas.Bool.{false≢true}
use Rattle.std.specs.Prelude.{slice_index, not}
use Rattle.std.specs.Option.{is_some}
use Rattle.verb_codes.specs.Words.{has_bit, bits_of}
use Rattle.route_setup.specs.Means.{Means}
use Rattle.hda_registers.specs.declared.places.TheConstants.{STATESTS, INTSTS, WALCLK}
use Rattle.hda_registers.specs.declared.shapes.Width.TheVariants.{One, Four}
use Rattle.hda_world.specs.Worlds.{World, TakenCommand}
use Rattle.hda_world.specs.Events.{Event, Read, Write}
use Rattle.hda_world.specs.Tellings.{Telling, world_of, Makes}
use Rattle.hda_world.specs.Discovery.{addresses_of}
use Rattle.command_engine.specs.Starting.{codecs_in}
use Rattle.driver_progress.specs.declared.phase.Phase.{Phase}
use Rattle.driver_progress.specs.declared.phase.Phase.TheVariants.{Reset, Settling, Walking}
use Rattle.driver_progress.specs.Phases.{is_asking, is_active}
use Rattle.driver_progress.specs.declared.registers.TheConstants.{STREAM_STATUS}
use Rattle.driver_progress.specs.Seen.{values_of}
use Rattle.driver_progress.specs.Expected.{has_settled}
use Rattle.driver_progress.specs.Beginning.{CanReset, IsSettling}
use Rattle.driver_progress.specs.Announcing.{AreCodecs, IsStarted}
use Rattle.driver_progress.specs.Interrupts.{interrupt_accesses}
use Rattle.driver_progress.proofs.Callers.{can_reset_looked, settling_looked, addresses_looked, looked_untaken}
use Rattle.driver_bring_up.specs.Commanding.{answer_in}
use Rattle.driver_bring_up.specs.declared.bringing.BringUp.{BringUp}
use Rattle.driver_bring_up.specs.Told.{found_none, ResetsTo, SettlesTo}
use Rattle.driver_bring_up.specs.Calls.{CanMove, LeadsUnread, Leads}
use Rattle.driver_bring_up.proofs.Asks.{is_over}
use Rattle.driver_bring_up.proofs.Leading.{unread_none, answer_none, reads_none, same_found, interrupt_values}

-- one is a call
pub leads_unread : {means : Means} {old new : BringUp} {before after : Option Telling} → is_asking old.phase ≡ false → LeadsUnread old new before after → Leads means false old new before after
leads_unread {means} {old} {new} {before} {after} asks leads =
    let none = unread_none leads.made leads.unread in record {
      made = leads.made;
      by = leads.by;
      is = λ task budget of silent ended agrees. same_found (sym (answer_none old.engine.rings leads.made none)) (leads.is task budget of);
      ended = λ task of ended. absurd (false≢true (sym asks ∙ (is_over old.phase (is_some (answer_in old.engine.rings leads.made)) new.phase ended).0));
      unread = λ asking. leads.unread;
      moves = λ asking. leads.moves;
      reads = reads_none means leads.made old new none leads.agenda leads.jacks (λ asking. absurd (false≢true (sym asks ∙ asking)));
      begun = leads.begun;
      resets = leads.resets;
      untaken = leads.untaken;
      settles = leads.settles;
      stays = λ goes. absurd (false≢true (sym leads.still ∙ goes));
    }

-- ---- phases

pub can_stay : (phase : Phase) → CanMove phase phase
can_stay Reset = inl refl
can_stay Settling = inl refl
can_stay phase = refl

pub settles_on : (phase : Phase) → phase ≡ Settling → CanMove phase Walking
settles_on phase is = subst (λ (phase : Phase). CanMove phase Walking) (sym is) (inr refl)

not_settling : Reset ≡ Settling → ⊥
not_settling is = cc

pub walking_settles : Walking ≡ Settling → ⊥
walking_settles is = cc

pub reset_settles : (phase : Phase) → phase ≡ Reset → phase ≡ Settling → ⊥
reset_settles phase reset settling = not_settling (sym reset ∙ settling)

pub walks_settles : (phase : Phase) → phase ≡ Settling → phase ≡ Walking → ⊥
walks_settles phase settling walking = walking_settles (sym walking ∙ settling)

pub inactive_reset : (phase : Phase) → is_active phase ≡ false → phase ≡ Reset → ⊥
inactive_reset phase inactive is = false≢true (sym inactive ∙ ap is_active is)

pub inactive_settling : (phase : Phase) → is_active phase ≡ false → phase ≡ Settling → ⊥
inactive_settling phase inactive is = false≢true (sym inactive ∙ ap is_active is)

-- ---- interrupts

-- what is read of the interrupt status, by a look that is told
found_none_at : (on clears : Bool) (interrupts stream : ℕ) (made : List Event) → has_bit interrupts 31 ≡ on
    → found_none true (Read INTSTS Four interrupts ∷ ((if on then (if clears then Read STREAM_STATUS One stream ∷ Write STREAM_STATUS One (4 * bits_of stream 2 3) ∷ [] else []) else []) ++ made)) ≡ not on
found_none_at true true interrupts stream made is = ap not is
found_none_at true false interrupts stream made is = ap not is
found_none_at false clears interrupts stream made is = ap not is

-- there is one
some_found : (interrupts stream : ℕ) (made : List Event) → has_bit interrupts 31 ≡ true → found_none true (interrupt_accesses interrupts stream ++ made) ≡ false
some_found interrupts stream made on = found_none_at (has_bit interrupts 31) (has_bit interrupts 1) interrupts stream made refl ∙ ap not on

-- there is none
none_found_at : (on clears : Bool) (interrupts stream : ℕ) → has_bit interrupts 31 ≡ on
    → found_none true (Read INTSTS Four interrupts ∷ (if on then (if clears then Read STREAM_STATUS One stream ∷ Write STREAM_STATUS One (4 * bits_of stream 2 3) ∷ [] else []) else [])) ≡ not on
none_found_at true true interrupts stream is = ap not is
none_found_at true false interrupts stream is = ap not is
none_found_at false clears interrupts stream is = ap not is

none_looked : (interrupts stream : ℕ) → has_bit interrupts 31 ≡ false → found_none true (interrupt_accesses interrupts stream) ≡ true
none_looked interrupts stream off = none_found_at (has_bit interrupts 31) (has_bit interrupts 1) interrupts stream refl ∙ ap not off

clocks_after : (on clears : Bool) (interrupts stream : ℕ) (made : List Event)
    → values_of (Read INTSTS Four interrupts ∷ ((if on then (if clears then Read STREAM_STATUS One stream ∷ Write STREAM_STATUS One (4 * bits_of stream 2 3) ∷ [] else []) else []) ++ made)) WALCLK ≡ values_of made WALCLK
clocks_after true true interrupts stream made = refl
clocks_after true false interrupts stream made = refl
clocks_after false clears interrupts stream made = refl

-- the clock is read after it
clocks_looked : (interrupts stream : ℕ) (made : List Event) → values_of (interrupt_accesses interrupts stream ++ made) WALCLK ≡ values_of made WALCLK
clocks_looked interrupts stream made = clocks_after (has_bit interrupts 31) (has_bit interrupts 1) interrupts stream made

-- a look that finds none
pub resets_looked : (old : BringUp) (interrupts stream : ℕ) (before after : Telling) → old.phase ≡ Reset → has_bit interrupts 31 ≡ false → Makes (interrupt_accesses interrupts stream) before after
    → ResetsTo true (interrupt_accesses interrupts stream) old before after
resets_looked old interrupts stream before after is off makes corb rirb can = inr (none_looked interrupts stream off, can_reset_looked corb rirb interrupts stream before after makes can, is)

commands_looked : (corb rirb interrupts stream : ℕ) (before after : Telling) → Makes (interrupt_accesses interrupts stream) before after → IsSettling corb rirb (world_of before) → (world_of after).commands ≡ (world_of before).commands
commands_looked corb rirb interrupts stream before after makes settling =
    (looked_untaken interrupts stream before after makes (world_of before).commands (record { stopped = settling.can_start.quiet.corb_stopped; commands_are = refl })).commands_are

pub settles_looked : (old : BringUp) (interrupts stream : ℕ) (before after : Telling) → old.phase ≡ Settling → has_bit interrupts 31 ≡ false → Makes (interrupt_accesses interrupts stream) before after
    → SettlesTo true old old (interrupt_accesses interrupts stream) before after
settles_looked old interrupts stream before after is off makes settling some = record {
  stays = λ none. is;
  late = λ found settled. absurd (false≢true (sym found ∙ none_looked interrupts stream off));
  early = λ still. settling_looked old.engine.corb.address old.engine.rirb.address interrupts stream before after makes settling;
  untaken = λ still. commands_looked old.engine.corb.address old.engine.rirb.address interrupts stream before after makes settling;
  codecs = λ walking. absurd (walks_settles old.phase is walking);
  started = λ walking. absurd (walks_settles old.phase is walking);
}

-- and one before a call
resets_on : (made : List Event) (new : BringUp) (corb rirb : ℕ) (after : World) → (IsSettling corb rirb after × (new.phase ≡ Settling)) ⊎ ((found_none false made ≡ true) × CanReset corb rirb after × (new.phase ≡ Reset))
    → IsSettling corb rirb after × (new.phase ≡ Settling)
resets_on made new corb rirb after (inl settles) = settles
resets_on made new corb rirb after (inr none) = absurd (false≢true none.0)

pub resets_after : (new : BringUp) (interrupts stream : ℕ) (made : List Event) (before middle after : Telling) → Makes (interrupt_accesses interrupts stream) before middle → ResetsTo false made new middle after
    → ResetsTo true (interrupt_accesses interrupts stream ++ made) new before after
resets_after new interrupts stream made before middle after makes resets corb rirb can =
    inl (resets_on made new corb rirb (world_of after) (resets corb rirb (can_reset_looked corb rirb interrupts stream before middle makes can)))

pub settles_after : (old new : BringUp) (interrupts stream : ℕ) (made : List Event) (before middle after : Telling) → has_bit interrupts 31 ≡ true → Makes (interrupt_accesses interrupts stream) before middle → SettlesTo false old new made middle after
    → SettlesTo true old new (interrupt_accesses interrupts stream ++ made) before after
settles_after old new interrupts stream made before middle after on makes settles settling some =
    let same = addresses_looked interrupts stream before middle makes in
    let later = settles (settling_looked old.engine.corb.address old.engine.rirb.address interrupts stream before middle makes settling) (λ none. some (sym same ∙ none)) in
    let commands = commands_looked old.engine.corb.address old.engine.rirb.address interrupts stream before middle makes settling in
    let addresses = addresses_of (world_of before).codecs in record {
      stays = λ none. absurd (false≢true (sym (some_found interrupts stream made on) ∙ none));
      late = λ found settled. later.late refl (ap (λ (clocks : List ℕ). has_settled old.kept (slice_index clocks 0)) (sym (clocks_looked interrupts stream made)) ∙ settled);
      early = later.early;
      untaken = λ still. later.untaken still ∙ commands;
      codecs = λ walking. subst (λ (values : List ℕ). AreCodecs (codecs_in (slice_index values 0)) addresses) (sym (interrupt_values interrupts stream made))
          (subst (λ (addresses : List ℕ). AreCodecs (codecs_in (slice_index (values_of made STATESTS) 0)) addresses) same (later.codecs walking));
      started = λ walking. subst (λ (commands : List TakenCommand). IsStarted old.engine.corb.address old.engine.rirb.address new.engine.rings commands (world_of after)) commands (later.started walking);
    }
