-- Looks for interrupts of the input stream: they read, and write its status alone.
use Rattle.std.proofs.Common.{◌≡◌, ◌⊎◌, inl, inr, ◌+◌, ◌*◌, ℕ, Bool, true, false, if◌then◌else◌, List, [], ◌∷◌, refl, sym, subst}
use Rattle.std.specs.Prelude.{All}
use Rattle.std.proofs.lemmas.List.Elements.{All-cons, All-head, All-nil, All-tail}
use Rattle.verb_codes.specs.Words.{has_bit, bits_of}
use Rattle.hda_registers.specs.declared.places.TheConstants.{INTSTS, INPUT_DESCRIPTOR, SDSTS}
use Rattle.hda_registers.specs.declared.shapes.Width.{Width}
use Rattle.hda_registers.specs.declared.shapes.Width.TheVariants.{One, Four}
use Rattle.hda_world.specs.Events.{Event, Stepped, Begin, End, Read, Write, DmaRead, DmaWrite}
use Rattle.period_writer.specs.Standing.{Ring}
use Rattle.driver_progress.specs.Requests.{requests_in, requests_of}
use Rattle.laws_bring_up.proofs.Callers.{AreCalm, calm_both}
use Rattle.laws_stream.specs.Resting.{LeavesRest}
use Rattle.laws_recording.specs.Beside.{IsStatusAt, LeavesFilling, LeavesStoppedInput}
use Rattle.recording_driver.specs.declared.registers.TheConstants.{INPUT_STATUS}
use Rattle.recording_driver.specs.RecordRules.{input_interrupts_at}
use Rattle.recording_driver.specs.InputInterrupts.{input_clear_accesses, input_interrupt_accesses}
use Rattle.recording_driver.specs.RecordingCalls.{IsInputLook, IsBeforeRun}

-- an event that is no write but of the input stream's status
abbrev pub IsLook : Event → Type 0
IsLook (Write at width value) = IsStatusAt (INPUT_DESCRIPTOR + SDSTS) at width
IsLook (DmaWrite at bytes) = ⊥
IsLook (Stepped step) = Unit {0}
IsLook Begin = Unit {0}
IsLook End = Unit {0}
IsLook (Read at width value) = Unit {0}
IsLook (DmaRead at bytes) = Unit {0}

-- ---- what such events leave alone

looks_filling : (ring : Ring) (event : Event) → IsLook event → LeavesFilling ring event
looks_filling ring (Write at width value) is = inr (inr is)
looks_filling ring (DmaWrite at bytes) is = absurd is
looks_filling ring (Stepped step) is = tt {0}
looks_filling ring Begin is = tt {0}
looks_filling ring End is = tt {0}
looks_filling ring (Read at width value) is = tt {0}
looks_filling ring (DmaRead at bytes) is = tt {0}

looks_stopped : (event : Event) → IsLook event → LeavesStoppedInput event
looks_stopped (Write at width value) is = inr is
looks_stopped (DmaWrite at bytes) is = absurd is
looks_stopped (Stepped step) is = tt {0}
looks_stopped Begin is = tt {0}
looks_stopped End is = tt {0}
looks_stopped (Read at width value) is = tt {0}
looks_stopped (DmaRead at bytes) is = tt {0}

looks_rest : (event : Event) → IsLook event → LeavesRest event
looks_rest (Write at width value) is = inr (inl (inl is.at_is, is.width_is))
looks_rest (DmaWrite at bytes) is = absurd is
looks_rest (Stepped step) is = tt {0}
looks_rest Begin is = tt {0}
looks_rest End is = tt {0}
looks_rest (Read at width value) is = tt {0}
looks_rest (DmaRead at bytes) is = tt {0}

status_calm : (value : ℕ) → AreCalm (requests_in (Write INPUT_STATUS One value))
status_calm value = (inl (record { control = refl; pointers = refl }), tt {0})

looks_calm : (event : Event) → IsLook event → AreCalm (requests_in event)
looks_calm (Write at width value) is =
    subst (λ (at : ℕ). AreCalm (requests_in (Write at width value))) (sym is.at_is) (subst (λ (width : Width). AreCalm (requests_in (Write INPUT_STATUS width value))) (sym is.width_is) (status_calm value))
looks_calm (DmaWrite at bytes) is = absurd is
looks_calm (Stepped step) is = tt {0}
looks_calm Begin is = tt {0}
looks_calm End is = tt {0}
looks_calm (Read at width value) is = (tt {0}, tt {0})
looks_calm (DmaRead at bytes) is = (tt {0}, tt {0})

-- ---- and several of them

all_follow : (P Q : Event → Type 0) → ((event : Event) → P event → Q event) → (events : List Event) → All P events → All Q events
all_follow P Q follows [] all = All-nil Q
all_follow P Q follows (event ∷ events) all = All-cons Q event events (follows event (All-head P event events all)) (all_follow P Q follows events (All-tail P event events all))

pub all_filling : (ring : Ring) (events : List Event) → All IsLook events → All (LeavesFilling ring) events
all_filling ring events all = all_follow IsLook (LeavesFilling ring) (looks_filling ring) events all

pub all_stopped : (events : List Event) → All IsLook events → All LeavesStoppedInput events
all_stopped events all = all_follow IsLook LeavesStoppedInput looks_stopped events all

pub all_rest : (events : List Event) → All IsLook events → All LeavesRest events
all_rest events all = all_follow IsLook LeavesRest looks_rest events all

pub all_calm : (events : List Event) → All IsLook events → AreCalm (requests_of events)
all_calm [] all = tt {0}
all_calm (event ∷ events) all =
    calm_both (requests_in event) (requests_of events) (looks_calm event (All-head IsLook event events all)) (all_calm events (All-tail IsLook event events all))

-- ---- a look

some_looks : (some : Bool) (events : List Event) → All IsLook events → All IsLook (if some then events else [])
some_looks true events all = all
some_looks false events all = All-nil IsLook

clear_looks : (interrupts status : ℕ) → All IsLook (input_clear_accesses interrupts status)
clear_looks interrupts status =
    let clear = Write INPUT_STATUS One (4 * bits_of status 2 3) in
    some_looks (has_bit interrupts input_interrupts_at) (Read INPUT_STATUS One status ∷ clear ∷ [])
    (All-cons IsLook (Read INPUT_STATUS One status) (clear ∷ []) (tt {0}) (All-cons IsLook clear [] (record { at_is = refl; width_is = refl }) (All-nil IsLook)))

look_looks : (interrupts status : ℕ) → All IsLook (input_interrupt_accesses interrupts status)
look_looks interrupts status =
    All-cons IsLook (Read INTSTS Four interrupts) (if has_bit interrupts 31 then input_clear_accesses interrupts status else []) (tt {0})
    (some_looks (has_bit interrupts 31) (input_clear_accesses interrupts status) (clear_looks interrupts status))

-- the accesses of a call in which no run came
pub still_looks : (made : List Event) → (made ≡ []) ⊎ IsInputLook made → All IsLook made
still_looks made (inl none) = subst (All IsLook) (sym none) (All-nil IsLook)
still_looks made (inr look) = subst (All IsLook) (sym look.is) (look_looks look.interrupts look.status)

-- and those before a run
pub before_looks : (irq : Bool) (first : List Event) → IsBeforeRun irq first → All IsLook first
before_looks true first found = subst (All IsLook) (sym found.is) (look_looks found.interrupts found.status)
before_looks false first none = subst (All IsLook) (sym none) (All-nil IsLook)
