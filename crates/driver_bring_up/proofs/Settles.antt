-- A look whether the codecs had their time leads where progress says.
use Rattle.std.proofs.Common.{◌≡◌, ◌≢◌, ◌<◌, ◌^◌, ℕ, List, [], ◌∷◌, Bool, true, false, if◌then◌else◌, Option, Some, None, refl, sym, ap, subst, ◌∙◌, arith, IsSome}
use Rattle.std.specs.Prelude.{◌==◌, slice_index}
use Rattle.std.specs.Option.{is_some, ForSome}
use Rattle.std.proofs.Math.Nat.{mod-lt}
use Rattle.hda_registers.specs.declared.shapes.RingSize.{RingSize}
use Rattle.hda_registers.specs.declared.shapes.Width.TheVariants.{Four}
use Rattle.hda_registers.specs.declared.places.TheConstants.{WALCLK, STATESTS}
use Rattle.hda_world.specs.Events.{Read}
use Rattle.verb_codes.specs.declared.verbs.Command.{Command}
use Rattle.codec_walk.specs.declared.walk.Walk.{Walk}
use Rattle.codec_walk.specs.Dialogues.{question}
use Rattle.codec_walk.specs.Remaining.{remaining}
use Rattle.driver_agenda.specs.declared.agenda.Agenda.{Agenda}
use Rattle.driver_bring_up.specs.Addresses.{addresses_in}
use Rattle.driver_bring_up.specs.Calls.{Begins}
use Rattle.driver_agenda.specs.Sound.{WalkGoesOn}
use Rattle.driver_agenda.specs.Agendas.{next_of, BeginsWalk}
use Rattle.command_engine.specs.declared.ring_places.RingPlaces.{RingPlaces}
use Rattle.command_engine.specs.Sizes.{largest_size}
use Rattle.command_engine.specs.Starting.{StartReads, codecs_in, rings_of, rings_read, codecs_if, rings_if, settings_if}
use Rattle.period_writer.specs.Runs.{Tally}
use Rattle.driver_progress.specs.declared.phase.Phase.{Phase}
use Rattle.driver_progress.specs.declared.phase.Phase.TheVariants as phases
use Rattle.driver_progress.specs.Tasks.{Task}
use Rattle.driver_progress.specs.Seen.{seen_by, values_of}
use Rattle.driver_progress.specs.States.{State}
use Rattle.driver_progress.specs.Expected.{has_settled, rings_seen, runs}
use Rattle.driver_progress.specs.Next.{settled_if, walking_if, led, tally_next}
use Rattle.driver_progress.specs.declared.settling.Settled.{Settled}
use Rattle.driver_progress.specs.declared.settling.Settled.TheVariants.{TooEarly, NoCodec, Codecs}
use Rattle.driver_progress.specs.Settling.{start_if, settle_accesses, codecs_found, found_if, rings_after}
use Rattle.driver_progress.proofs.Callers.{settle_fits_by}
use Rattle.driver_bring_up.specs.Standing.{phase_at}
use Rattle.driver_bring_up.specs.Commanding.{IsStretch, run_of}
use Rattle.driver_bring_up.proofs.Commands.{once}

-- ---- what was found

not_zero : true ≡ false → ⊥
not_zero is = cc

codecs_not : (codecs bits : ℕ) (none : Bool) → (codecs == 0) ≡ none → Codecs bits ≡ (if none then NoCodec else Codecs codecs) → (bits ≡ codecs) × (codecs ≢ 0)
codecs_not codecs bits true is found = cc
codecs_not codecs bits false is found = (cc, λ zero. not_zero (sym (ap (λ (codecs : ℕ). codecs == 0) zero) ∙ is))

codecs_some : (found : Option RingPlaces) (status bits : ℕ) → Codecs bits ≡ codecs_found (codecs_if found status) → (bits ≢ 0) × (bits < 2 ^ 15) × (is_some found ≡ true) × (bits ≡ codecs_in status)
codecs_some None status bits is = cc
codecs_some (Some rings) status bits is =
    let codecs = codecs_not (codecs_in status) bits (codecs_in status == 0) refl is in
    let below = mod-lt status {m = 2 ^ 15} (omega arith) in
    (λ zero. codecs.1 (sym codecs.0 ∙ zero), omega arith, refl, codecs.0)

-- and once they had their time it was not too early
found_late : (none : Bool) (codecs : ℕ) → TooEarly ≡ (if none then NoCodec else Codecs codecs) → ⊥
found_late true codecs is = cc
found_late false codecs is = cc

pub too_early : (settled : Bool) (reads : StartReads) → TooEarly ≡ found_if settled reads → settled ≡ true → ⊥
too_early true reads found is = found_late (codecs_if (rings_read reads) reads.status == 0) (codecs_if (rings_read reads) reads.status) found
too_early false reads found is = not_zero (sym is)

pub found_some : (settled : Bool) (reads : StartReads) (bits : ℕ) → Codecs bits ≡ found_if settled reads → (bits ≢ 0) × (bits < 2 ^ 15) × (is_some (rings_read reads) ≡ true) × (settled ≡ true) × (bits ≡ codecs_in reads.status)
found_some false reads bits is = cc
found_some true reads bits is = let some = codecs_some (rings_read reads) reads.status bits is in (some.0, some.1, some.2, refl, some.3)

begun_by : (none : Bool) (corb rirb : Option RingSize) (rings : RingPlaces) → is_some (if none then None else rings_of corb rirb) ≡ true → (rings_if (if none then None else rings_of corb rirb) rings).started ≡ true
begun_by true corb rirb rings is = cc
begun_by false None rirb rings is = cc
begun_by false (Some corb) None rings is = cc
begun_by false (Some corb) (Some rirb) rings is = refl

-- the engine was started then
pub found_started : (settled : Bool) (reads : StartReads) (rings : RingPlaces) (bits : ℕ) → Codecs bits ≡ found_if settled reads → (rings_after settled reads rings).started ≡ true
found_started false reads rings bits is = cc
found_started true reads rings bits is =
    begun_by (codecs_in reads.status == 0) (largest_size reads.corb_size) (largest_size reads.rirb_size) rings (codecs_some (rings_read reads) reads.status bits is).2

-- ---- the agenda at its beginning

asks_some : (command : Option Command) → IsSome command → phase_at (is_some command) true ≡ phases.Walking
asks_some None some = cc
asks_some (Some command) some = refl

pub begins_phase : (walk : Option Walk) (under_way : Walk) (verbs : List Command) (answered : ℕ) (addresses : List ℕ) (place : ℕ) → walk ≡ Some under_way → ForSome walk (λ walk. WalkGoesOn addresses place walk)
    → phases.Walking ≡ phase_at (is_some (next_of walk verbs answered)) (is_some walk)
begins_phase None under_way verbs answered addresses place is keeps = cc
begins_phase (Some walk) under_way verbs answered addresses place is keeps = sym (asks_some (question (remaining walk)) (keeps walk refl).asks)

-- ---- where it leads

abbrev pub phase_settled : Settled → Phase → Phase
phase_settled TooEarly phase = phase
phase_settled NoCodec phase = phase
phase_settled (Codecs bits) phase = phases.Walking

no_rings : (none : Bool) (corb rirb : Option RingSize) (codecs : ℕ) (rings : RingPlaces) → (codecs == 0) ≡ none → Some rings ≡ (if none then None else rings_of corb rirb) → (codecs == 0) ≡ false
no_rings true corb rirb codecs rings is found = cc
no_rings false corb rirb codecs rings is found = is

begun_leads : (found : Option RingPlaces) (status : ℕ) (state : State) (answer : Settled) (rings' : RingPlaces) → ((rings : RingPlaces) → found ≡ Some rings → (codecs_in status == 0) ≡ false)
    → answer ≡ codecs_found (codecs_if found status) → rings' ≡ rings_if found state.rings → record state { phase = phase_settled answer state.phase; rings = rings' } ≡ walking_if found state
begun_leads None status state answer rings' some is rings =
    ap (λ (answer : Settled). record state { phase = phase_settled answer state.phase; rings = rings' }) is ∙ ap (λ (rings : RingPlaces). record state { rings = rings }) rings
begun_leads (Some begun) status state answer rings' some is rings =
    ap (λ (answer : Settled). record state { phase = phase_settled answer state.phase; rings = rings' }) (is ∙ ap (λ (none : Bool). if none then NoCodec else Codecs (codecs_in status)) (some begun refl))
    ∙ ap (λ (rings : RingPlaces). record state { phase = phases.Walking; rings = rings }) rings

settled_leads : (settled : Bool) (reads : StartReads) (state : State) (answer : Settled) (rings' : RingPlaces) → answer ≡ found_if settled reads → rings' ≡ rings_after settled reads state.rings
    → record state { phase = phase_settled answer state.phase; rings = rings' } ≡ settled_if settled (rings_read reads) state
settled_leads false reads state answer rings' is rings =
    ap (λ (answer : Settled). record state { phase = phase_settled answer state.phase; rings = rings' }) is ∙ ap (λ (rings : RingPlaces). record state { rings = rings }) rings
settled_leads true reads state answer rings' is rings =
    begun_leads (rings_read reads) reads.status state answer rings'
    (λ begun found. no_rings (codecs_in reads.status == 0) (largest_size reads.corb_size) (largest_size reads.rirb_size) (codecs_in reads.status) begun refl (sym found)) is rings

settings_unread : (found : Option RingPlaces) (corb rirb : ℕ) (reads : StartReads) → values_of (settings_if found corb rirb reads) WALCLK ≡ []
settings_unread None corb rirb reads = refl
settings_unread (Some rings) corb rirb reads = refl

one_clock : (settled : Bool) (clock corb rirb : ℕ) (reads : StartReads) → values_of (Read WALCLK Four clock ∷ start_if settled corb rirb reads) WALCLK ≡ clock ∷ []
one_clock false clock corb rirb reads = refl
one_clock true clock corb rirb reads = ap (λ (values : List ℕ). clock ∷ values) (settings_unread (rings_read reads) corb rirb reads)

rings_same : (settled : Bool) (clock corb rirb : ℕ) (reads : StartReads) (state : State)
    → settled_if settled (rings_seen (seen_by (values_of (Read WALCLK Four clock ∷ start_if settled corb rirb reads)) false)) state ≡ settled_if settled (rings_read reads) state
rings_same false clock corb rirb reads state = refl
rings_same true clock corb rirb reads state = refl

pub settle_stretch : (task : Task) (state : State) (budget clock : ℕ) (reads : StartReads) (answer : Settled) (rings' : RingPlaces) → state.phase ≡ phases.Settling
    → answer ≡ found_if (has_settled state.kept clock) reads → rings' ≡ rings_after (has_settled state.kept clock) reads state.rings
    → IsStretch task state (Some (run_of budget)) (settle_accesses state.kept clock task.blocks.corb task.blocks.rirb reads) false (record state { phase = phase_settled answer state.phase; rings = rings' })
settle_stretch task state budget clock reads answer rings' settling is rings =
    let settled = has_settled state.kept clock in
    let seen = seen_by (values_of (settle_accesses state.kept clock task.blocks.corb task.blocks.rirb reads)) false in
    let line = Some (run_of budget) in
    let tally = tally_next task state line seen in
    let kept = once task state line seen clock (one_clock settled clock task.blocks.corb task.blocks.rirb reads) in record {
      fits = settle_fits_by settled task state clock reads false refl ∙ sym (ap (λ (phase : Phase). runs task state budget seen tally phase) settling);
      leads = ap (λ (after : State). record after { tally = state.tally })
          (settled_leads settled reads state answer rings' is rings ∙ sym (rings_same settled clock task.blocks.corb task.blocks.rirb reads state)
          ∙ sym (ap (λ (phase : Phase). led task state seen tally phase) settling))
          ∙ sym (ap (λ (tally' : Tally). record (led task state seen tally state.phase) { tally = tally' }) kept);
    }

-- where the rings' blocks lie at these addresses
pub settle_with : (task : Task) (state : State) (budget clock : ℕ) (reads : StartReads) (answer : Settled) (rings' : RingPlaces) (corb rirb : ℕ) → task.blocks.corb ≡ corb → task.blocks.rirb ≡ rirb
    → state.phase ≡ phases.Settling → answer ≡ found_if (has_settled state.kept clock) reads → rings' ≡ rings_after (has_settled state.kept clock) reads state.rings
    → IsStretch task state (Some (run_of budget)) (settle_accesses state.kept clock corb rirb reads) false (record state { phase = phase_settled answer state.phase; rings = rings' })
settle_with task state budget clock reads answer rings' corb rirb of_corb of_rirb settling is rings =
    let After = λ (corb : ℕ) (rirb : ℕ). IsStretch task state (Some (run_of budget)) (settle_accesses state.kept clock corb rirb reads) false (record state { phase = phase_settled answer state.phase; rings = rings' }) in
    subst (λ (rirb : ℕ). After corb rirb) of_rirb (subst (λ (corb : ℕ). After corb task.blocks.rirb) of_corb (settle_stretch task state budget clock reads answer rings' settling is rings))

-- ---- what is read

pub status_read : (settled : Bool) (clock corb rirb : ℕ) (reads : StartReads) → settled ≡ true → slice_index (values_of (Read WALCLK Four clock ∷ start_if settled corb rirb reads) STATESTS) 0 ≡ reads.status
status_read true clock corb rirb reads is = refl
status_read false clock corb rirb reads is = cc

pub begins_with : (settled : Bool) (reads : StartReads) (bits clock corb rirb : ℕ) (addresses : List ℕ) (agenda : Agenda) → Codecs bits ≡ found_if settled reads → addresses ≡ addresses_in bits
    → agenda.addresses.items ≡ addresses → BeginsWalk addresses [] agenda → Begins (slice_index (values_of (Read WALCLK Four clock ∷ start_if settled corb rirb reads) STATESTS) 0) agenda
begins_with settled reads bits clock corb rirb addresses agenda is are asked begins =
    let found = found_some settled reads bits is in
    let same = are ∙ ap (λ (bits : ℕ). addresses_in bits) (found.4 ∙ ap (λ (status : ℕ). codecs_in status) (sym (status_read settled clock corb rirb reads found.3))) in
    record { addresses = asked ∙ same; begins = subst (λ (addresses : List ℕ). BeginsWalk addresses [] agenda) same begins }

-- the codecs that were found are those that the state change status names
pub found_named : (settled : Bool) (reads : StartReads) (bits clock corb rirb : ℕ) → Codecs bits ≡ found_if settled reads
    → bits ≡ codecs_in (slice_index (values_of (Read WALCLK Four clock ∷ start_if settled corb rirb reads) STATESTS) 0)
found_named settled reads bits clock corb rirb is =
    let found = found_some settled reads bits is in
    found.4 ∙ ap (λ (status : ℕ). codecs_in status) (sym (status_read settled clock corb rirb reads found.3))
