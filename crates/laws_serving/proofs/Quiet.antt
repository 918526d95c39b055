-- Before the sound no call sets the output stream going.
use Rattle.std.proofs.Common.{◌≡◌, ◌≢◌, ℕ, zero, suc, ◌+◌, ◌*◌, ◌%◌, Bool, true, false, List, [], ◌∷◌, ◌++◌, length, Option, None, Some, refl, sym, subst, ◌∙◌, arith, if◌then◌else◌}
use Rattle.std.specs.Prelude.{All, slice_get}
use Rattle.std.proofs.lemmas.List.Elements.{All-nil, All-cons, All-head, All-tail, All-append}
use Rattle.verb_codes.specs.Words.{has_bit}
use Rattle.hda_registers.specs.declared.shapes.Width.{Width}
use Rattle.hda_registers.specs.declared.shapes.Width.TheVariants.{One, Two, Four}
use Rattle.hda_registers.specs.declared.shapes.RingSize.{RingSize}
use Rattle.hda_registers.specs.declared.places.TheConstants.{GCTL, INTCTL, STATESTS, WALCLK, CORBLBASE, CORBWP, CORBRP, CORBCTL, CORBSIZE, RIRBLBASE, RIRBWP, RINTCNT, RIRBCTL, RIRBSTS, RIRBSIZE}
use Rattle.hda_registers.specs.Fields.{entries_of}
use Rattle.world_rings.specs.declared.entries.TheConstants.{RESPONSE_BYTES}
use Rattle.hda_world.specs.Worlds.{World}
use Rattle.hda_world.specs.Events.{Event, Stepped, Begin, End, Read, Write, DmaRead, DmaWrite}
use Rattle.command_engine.specs.declared.ring_places.RingPlaces.{RingPlaces}
use Rattle.command_engine.specs.Sizes.{half_of}
use Rattle.command_engine.specs.Starting.{rirb_accesses}
use Rattle.command_engine.specs.Polling.{new_entries}
use Rattle.period_writer.specs.declared.registers.TheConstants.{CONTROL}
use Rattle.period_writer.specs.Runs.{Tally}
use Rattle.driver_progress.specs.declared.phase.Phase.{Phase}
use Rattle.driver_progress.specs.declared.phase.Phase.TheVariants.{Reset, Settling, Walking, SettingUp}
use Rattle.driver_progress.specs.Phases.{is_asking, has_commands_left}
use Rattle.driver_progress.specs.Tasks.{Task, Order, Blocks, DriverLine}
use Rattle.driver_progress.specs.Seen.{Seen, clock_of}
use Rattle.driver_progress.specs.States.{State}
use Rattle.driver_progress.specs.Requests.{Request, Gets, Puts, Fetches, Stores, requests_of}
use Rattle.driver_progress.specs.Expected.{resets, settles, has_settled, rings_seen, sets_rings, fetches, polls, next_order, submits, asks, runs}
use Rattle.driver_progress.specs.Next.{tally_next}
use Rattle.driver_progress.specs.Progress.{Trail, seen_in}
use Rattle.rig.specs.Follows.{AreAccesses}
use Rattle.laws_serving.proofs.Requests.{IsAccess}
use Rattle.laws_serving.proofs.Notes.{trail_made, IsNoted}
use Rattle.laws_serving.proofs.Asking.{fits_so, plainly_asked}

-- ---- accesses that set nothing going

-- the write that sets RUN
abbrev pub IsNoRise : Event → Type 0
IsNoRise event = event ≢ Write CONTROL One 0x1E

-- a write elsewhere than at the output stream's control
abbrev IsElsewhere : Request → Type 0
IsElsewhere (Gets at width) = Unit {0}
IsElsewhere (Puts at width value) = at ≢ CONTROL
IsElsewhere (Fetches at count) = Unit {0}
IsElsewhere (Stores at bytes) = Unit {0}

no_rise : (accesses : List Event) → AreAccesses accesses → All IsElsewhere (requests_of accesses) → All IsNoRise accesses
no_rise [] are elsewhere = All-nil IsNoRise
no_rise (Stepped step ∷ accesses) are elsewhere = absurd (let is = All-head IsAccess (Stepped step) accesses are in cc)
no_rise (Begin ∷ accesses) are elsewhere = absurd (let is = All-head IsAccess Begin accesses are in cc)
no_rise (End ∷ accesses) are elsewhere = absurd (let is = All-head IsAccess End accesses are in cc)
no_rise (Read at width value ∷ accesses) are elsewhere =
    All-cons IsNoRise (Read at width value) accesses (λ same. cc) (no_rise accesses (All-tail IsAccess (Read at width value) accesses are) (All-tail IsElsewhere (Gets at width) (requests_of accesses) elsewhere))
no_rise (Write at width value ∷ accesses) are elsewhere =
    All-cons IsNoRise (Write at width value) accesses (λ same. All-head IsElsewhere (Puts at width value) (requests_of accesses) elsewhere (cc))
    (no_rise accesses (All-tail IsAccess (Write at width value) accesses are) (All-tail IsElsewhere (Puts at width value) (requests_of accesses) elsewhere))
no_rise (DmaRead at bytes ∷ accesses) are elsewhere =
    All-cons IsNoRise (DmaRead at bytes) accesses (λ same. cc) (no_rise accesses (All-tail IsAccess (DmaRead at bytes) accesses are) (All-tail IsElsewhere (Fetches at (length bytes)) (requests_of accesses) elsewhere))
no_rise (DmaWrite at bytes ∷ accesses) are elsewhere =
    All-cons IsNoRise (DmaWrite at bytes) accesses (λ same. cc) (no_rise accesses (All-tail IsAccess (DmaWrite at bytes) accesses are) (All-tail IsElsewhere (Stores at bytes) (requests_of accesses) elsewhere))

-- ---- by phase

pub asking_left : (phase : Phase) → is_asking phase ≡ true → has_commands_left phase ≡ true
asking_left Reset is = refl
asking_left Settling is = refl
asking_left phase is = is

nothing : All IsElsewhere []
nothing = All-nil IsElsewhere

gets_first : (at : ℕ) (width : Width) (rest : List Request) → All IsElsewhere rest → All IsElsewhere (Gets at width ∷ rest)
gets_first at width rest all = All-cons IsElsewhere (Gets at width) rest tt all

puts_first : (at : ℕ) (width : Width) (value : ℕ) (rest : List Request) → at ≢ CONTROL → All IsElsewhere rest → All IsElsewhere (Puts at width value ∷ rest)
puts_first at width value rest apart all = All-cons IsElsewhere (Puts at width value) rest apart all

reset_elsewhere : All IsElsewhere resets
reset_elsewhere =
    puts_first GCTL Four 0 (Gets GCTL Four ∷ Puts GCTL Four 257 ∷ Gets GCTL Four ∷ Gets WALCLK Four ∷ []) (λ same. absurd (omega (arith, same))) (gets_first GCTL Four (Puts GCTL Four 257 ∷ Gets GCTL Four ∷ Gets WALCLK Four ∷ []) (puts_first GCTL Four 0x101 (Gets GCTL Four ∷ Gets WALCLK Four ∷ []) (λ same. absurd (omega (arith, same))) (gets_first GCTL Four (Gets WALCLK Four ∷ []) (gets_first WALCLK Four [] nothing))))

rirb_elsewhere : (rirb : ℕ) (size : RingSize) → All IsElsewhere (requests_of (rirb_accesses rirb size))
rirb_elsewhere rirb size =
    puts_first RIRBLBASE Four rirb (Puts RIRBWP Two 0x8000 ∷ Puts RINTCNT Two (half_of size) ∷ Puts RIRBCTL One 3 ∷ Puts INTCTL Four 0xC0000000 ∷ []) (λ same. absurd (omega (arith, same)))
    (puts_first RIRBWP Two 0x8000 (Puts RINTCNT Two (half_of size) ∷ Puts RIRBCTL One 3 ∷ Puts INTCTL Four 0xC0000000 ∷ []) (λ same. absurd (omega (arith, same)))
    (puts_first RINTCNT Two (half_of size) (Puts RIRBCTL One 3 ∷ Puts INTCTL Four 0xC0000000 ∷ []) (λ same. absurd (omega (arith, same)))
    (puts_first RIRBCTL One 3 (Puts INTCTL Four 0xC0000000 ∷ []) (λ same. absurd (omega (arith, same))) (puts_first INTCTL Four 0xC0000000 [] (λ same. absurd (omega (arith, same))) nothing))))

rings_elsewhere : (blocks : Blocks) (seen : Seen) (rings : Option RingPlaces) → All IsElsewhere (sets_rings blocks seen rings)
rings_elsewhere blocks seen None = nothing
rings_elsewhere blocks seen (Some rings) =
    puts_first STATESTS Two seen.changes (Puts CORBLBASE Four blocks.corb ∷ Puts CORBWP Two 0 ∷ Puts CORBRP Two 32768 ∷ Gets CORBRP Two ∷ Puts CORBRP Two 0 ∷ Gets CORBRP Two ∷ Puts CORBCTL One 2 ∷ requests_of (rirb_accesses blocks.rirb rings.rirb)) (λ same. absurd (omega (arith, same))) (puts_first CORBLBASE Four blocks.corb (Puts CORBWP Two 0 ∷ Puts CORBRP Two 32768 ∷ Gets CORBRP Two ∷ Puts CORBRP Two 0 ∷ Gets CORBRP Two ∷ Puts CORBCTL One 2 ∷ requests_of (rirb_accesses blocks.rirb rings.rirb)) (λ same. absurd (omega (arith, same)))
    (puts_first CORBWP Two 0 (Puts CORBRP Two 32768 ∷ Gets CORBRP Two ∷ Puts CORBRP Two 0 ∷ Gets CORBRP Two ∷ Puts CORBCTL One 2 ∷ requests_of (rirb_accesses blocks.rirb rings.rirb)) (λ same. absurd (omega (arith, same))) (puts_first CORBRP Two 0x8000 (Gets CORBRP Two ∷ Puts CORBRP Two 0 ∷ Gets CORBRP Two ∷ Puts CORBCTL One 2 ∷ requests_of (rirb_accesses blocks.rirb rings.rirb)) (λ same. absurd (omega (arith, same))) (gets_first CORBRP Two (Puts CORBRP Two 0 ∷ Gets CORBRP Two ∷ Puts CORBCTL One 2 ∷ requests_of (rirb_accesses blocks.rirb rings.rirb))
    (puts_first CORBRP Two 0 (Gets CORBRP Two ∷ Puts CORBCTL One 2 ∷ requests_of (rirb_accesses blocks.rirb rings.rirb)) (λ same. absurd (omega (arith, same))) (gets_first CORBRP Two (Puts CORBCTL One 2 ∷ requests_of (rirb_accesses blocks.rirb rings.rirb)) (puts_first CORBCTL One 2 (requests_of (rirb_accesses blocks.rirb rings.rirb)) (λ same. absurd (omega (arith, same))) (rirb_elsewhere blocks.rirb rings.rirb))))))))

settle_elsewhere : (task : Task) (state : State) (seen : Seen) → All IsElsewhere (settles task state seen)
settle_elsewhere task state seen = by (has_settled state.kept (clock_of seen))
  where
    rings : List Request
    rings = sets_rings task.blocks seen (rings_seen seen)

    by : (settled : Bool) → All IsElsewhere (Gets WALCLK Four ∷ (if settled then Gets STATESTS Two ∷ Gets CORBSIZE One ∷ Gets RIRBSIZE One ∷ rings else []))
    by true =
        gets_first WALCLK Four (Gets STATESTS Two ∷ Gets CORBSIZE One ∷ Gets RIRBSIZE One ∷ rings)
        (gets_first STATESTS Two (Gets CORBSIZE One ∷ Gets RIRBSIZE One ∷ rings) (gets_first CORBSIZE One (Gets RIRBSIZE One ∷ rings)
        (gets_first RIRBSIZE One rings (rings_elsewhere task.blocks seen (rings_seen seen)))))
    by false = gets_first WALCLK Four [] nothing

fetch_elsewhere : (rirb size count place : ℕ) → All IsElsewhere (fetches rirb size count place)
fetch_elsewhere rirb size zero place = nothing
fetch_elsewhere rirb size (suc count) place =
    All-cons IsElsewhere (Fetches (rirb + RESPONSE_BYTES * (place % size)) RESPONSE_BYTES) (fetches rirb size count (place + 1)) tt (fetch_elsewhere rirb size count (place + 1))

poll_elsewhere : (rirb : ℕ) (rings : RingPlaces) (seen : Seen) → All IsElsewhere (polls rirb rings seen)
poll_elsewhere rirb rings seen = gets_first RIRBSTS One _ (by (has_bit seen.flag 0))
  where
    by : (set : Bool) → All IsElsewhere (if set then Gets RIRBWP Two ∷ (fetches rirb (entries_of rings.rirb) (new_entries rings seen.pointer) (rings.read + 1) ++ Puts RIRBSTS One 1 ∷ []) else [])
    by true =
        gets_first RIRBWP Two _ (All-append IsElsewhere (fetches rirb (entries_of rings.rirb) (new_entries rings seen.pointer) (rings.read + 1)) (Puts RIRBSTS One 1 ∷ [])
        (fetch_elsewhere rirb (entries_of rings.rirb) (new_entries rings seen.pointer) (rings.read + 1)) (puts_first RIRBSTS One 1 [] (λ same. absurd (omega (arith, same))) nothing))
    by false = nothing

submit_elsewhere : (blocks : Blocks) (rings : RingPlaces) (order : Option Order) → All IsElsewhere (submits blocks rings order)
submit_elsewhere blocks rings None = nothing
submit_elsewhere blocks rings (Some order) = All-cons IsElsewhere _ (Puts CORBWP Two (Rattle.command_engine.specs.Submitting.command_place rings) ∷ []) tt (puts_first CORBWP Two (Rattle.command_engine.specs.Submitting.command_place rings) [] (λ same. absurd (omega (arith, same))) nothing)

ask_elsewhere : (task : Task) (state : State) (seen : Seen) (later : List Request) → All IsElsewhere later → All IsElsewhere (asks task state seen later)
ask_elsewhere task state seen later all = gets_first WALCLK Four (polls task.blocks.rirb state.rings seen ++ later) (All-append IsElsewhere (polls task.blocks.rirb state.rings seen) later (poll_elsewhere task.blocks.rirb state.rings seen) all)

run_elsewhere : (task : Task) (state : State) (budget : ℕ) (seen : Seen) (tally : Tally) (phase : Phase) → has_commands_left phase ≡ true → All IsElsewhere (runs task state budget seen tally phase)
run_elsewhere task state budget seen tally Reset is = reset_elsewhere
run_elsewhere task state budget seen tally Settling is = settle_elsewhere task state seen
run_elsewhere task state budget seen tally Walking is = ask_elsewhere task state seen _ (submit_elsewhere task.blocks state.rings (next_order task state seen))
run_elsewhere task state budget seen tally SettingUp is = ask_elsewhere task state seen _ (submit_elsewhere task.blocks state.rings (next_order task state seen))
run_elsewhere task state budget seen tally phase is = cc

pub call_sets_none : (task : Task) (world : World) (trail trail' : Trail) (line : DriverLine) (accesses : List Event) → AreAccesses accesses → IsNoted task world trail accesses trail' → slice_get trail.left 0 ≡ Some line → line.irq ≡ false
    → has_commands_left trail.state.phase ≡ true → All IsNoRise accesses
call_sets_none task world trail trail' line accesses are noted turn calm before =
    let seen = seen_in (trail_made world trail accesses) in
    let tally = tally_next task trail.state (Some line) seen in
    let is = fits_so task world trail trail' accesses (Some line) are noted turn ∙ plainly_asked task trail.state line seen tally calm in
    no_rise accesses are (subst (All IsElsewhere) (sym is) (run_elsewhere task trail.state line.budget seen tally trail.state.phase before))
