-- What a look whether the codecs had their time leads to.
use Rattle.std.proofs.Common.{◌≡◌, ◌<◌, ◌≤◌, ◌+◌, ◌*◌, ◌/◌, ◌%◌, ◌^◌, ◌==◌, ℕ, Bool, true, false, List, [], ◌∷◌, map, get_or, Option, Some, None, if◌then◌else◌, refl, sym, ap, subst, ◌∙◌, arith, rules, tests}
use Rattle.std.specs.Prelude.{All, nat_le}
use Rattle.std.specs.Int.{bit_at}
use Rattle.std.proofs.Math.Nat.{mod-le, div-add-mod}
use Rattle.std.proofs.lemmas.Nat.Bits.{bit_at_cat_low, bit_at-zero}
use Rattle.std.proofs.lemmas.List.Elements.{All-nil, All-cons, All-head}
use Rattle.codec_graph.specs.declared.raw.RawCodec.{RawCodec}
use Rattle.codec_graph.specs.CodecStates.{CodecState}
use Rattle.hda_registers.specs.declared.shapes.Width.TheVariants.{One, Two, Four}
use Rattle.hda_registers.specs.declared.shapes.RingSize.{RingSize}
use Rattle.hda_registers.specs.declared.shapes.RingSize.TheVariants as size
use Rattle.hda_registers.specs.Table.{size_code}
use Rattle.hda_registers.specs.Access.{value_at}
use Rattle.hda_registers.proofs.Callers.{read-wall_clock, read-state_status, read-corb_size, read-rirb_size}
use Rattle.world_steps.specs.declared.Step.{Step}
use Rattle.hda_world.specs.Worlds.{World, TakenCommand}
use Rattle.hda_world.specs.Steps.{after_steps}
use Rattle.hda_world.specs.Events.{Read}
use Rattle.hda_world.specs.Tellings.{Telling, world_of, Accessed, MakesBy, Makes}
use Rattle.hda_world.specs.Kept.{Kept}
use Rattle.hda_world.specs.Discovery.{addresses_of, AreSet}
use Rattle.hda_world.specs.Leaving.{StepsLeave}
use Rattle.hda_world.proofs.Callers.{kept_steps, steps_leave, kept_frames}
use Rattle.command_engine.specs.declared.ring_places.RingPlaces.{RingPlaces}
use Rattle.command_engine.specs.Sizes.{largest_size}
use Rattle.command_engine.specs.Starting.{StartReads, codecs_in, codecs_if, rings_of, start_accesses}
use Rattle.command_engine.specs.Fetchings.{AscendFrom, graphs_in}
use Rattle.driver_progress.specs.Expected.{has_settled}
use Rattle.driver_progress.specs.declared.settling.Settled.{Settled}
use Rattle.driver_progress.specs.declared.settling.Settled.TheVariants.{NoCodec, Codecs}
use Rattle.driver_progress.specs.Beginning.{AreOnly, IsSettling}
use Rattle.driver_progress.specs.Settling.{start_if, codecs_found, found_if}
use Rattle.driver_progress.specs.Announcing.{AreCodecs, IsStarted, StartLeads, LedBy}
use Rattle.driver_progress.proofs.ResetWorlds.{access_leads, settling_steps}
use Rattle.driver_progress.proofs.UntakenSteps.{untaken_steps}

-- ---- the codecs had their time

abbrev IsLate : World → Type 0
IsLate world = 25 ≤ world.frames

keeps_late : Kept IsLate
keeps_late = kept_frames (λ (frames : ℕ). 25 ≤ frames) (λ frames late. omega (arith, late))

late_by : (kept clock frames : ℕ) → kept + 12500 ≤ clock → clock ≡ 500 * frames % 2 ^ 32 → 25 ≤ frames
late_by kept clock frames had is = let less = mod-le (500 * frames) (2 ^ 32) in by (500 * frames % 2 ^ 32) less is
  where
    by : (ticks : ℕ) → ticks ≤ 500 * frames → clock ≡ ticks → 25 ≤ frames
    by ticks less is = omega (arith, had, less, is)

pub addresses_stay : (steps : List Step) (world : World) → addresses_of (after_steps steps world).codecs ≡ addresses_of world.codecs
addresses_stay steps world =
    let leaves : StepsLeave world (after_steps steps world) = steps_leave steps world in
    by (after_steps steps world).codecs ∙ ap (map (λ (graph : RawCodec). graph.address)) leaves.graphs ∙ sym (by world.codecs)
  where
    by : (codecs : List CodecState) → addresses_of codecs ≡ map (λ (graph : RawCodec). graph.address) (map (λ (codec : CodecState). codec.graph) codecs)
    by [] = refl
    by (codec ∷ codecs) = ap (λ (rest : List ℕ). codec.graph.address ∷ rest) (by codecs)

-- the codecs announced themselves, those with these addresses
record IsAwake (corb rirb : ℕ) (addresses : List ℕ) (world : World) : Type 0 where
  settling : IsSettling corb rirb world
  late : IsLate world
  are : addresses_of world.codecs ≡ addresses

awake_steps : (corb rirb : ℕ) (addresses : List ℕ) (steps : List Step) (world : World) → IsAwake corb rirb addresses world → IsAwake corb rirb addresses (after_steps steps world)
awake_steps corb rirb addresses steps world is = record {
  settling = settling_steps corb rirb steps world is.settling;
  late = kept_steps IsLate keeps_late steps world is.late;
  are = addresses_stay steps world ∙ is.are;
}

-- ---- which bits are 1

ascend_few : (from : ℕ) (codecs : List CodecState) → AscendFrom from (graphs_in codecs) → All (λ (address : ℕ). address ≤ 14) (addresses_of codecs)
ascend_few from [] ascend = All-nil (λ (address : ℕ). address ≤ 14)
ascend_few from (codec ∷ codecs) ascend =
    All-cons (λ (address : ℕ). address ≤ 14) codec.graph.address (addresses_of codecs) ascend.1 (ascend_few (codec.graph.address + 1) codecs ascend.2)

low_bit : (status bit : ℕ) → bit < 15 → bit_at (status % 2 ^ 15) bit ≡ bit_at status bit
low_bit status bit below =
    let whole = div-add-mod status (2 ^ 15) in
    sym (bit_at_cat_low (status / 2 ^ 15) 15 (status % 2 ^ 15) bit below)
    ∙ ap (λ (n : ℕ). bit_at n bit) (let same : status / 2 ^ 15 * 2 ^ 15 + status % 2 ^ 15 ≡ status = omega (arith, whole) in same)

set_low : (status : ℕ) (addresses : List ℕ) → All (λ (address : ℕ). address ≤ 14) addresses → AreSet status addresses → AreSet (codecs_in status) addresses
set_low status addresses few set k d lt =
    let below : get_or addresses k d ≤ 14 = few k d lt in
    low_bit status (get_or addresses k d) (omega (arith, below)) ∙ set k d lt

are_codecs : (status : ℕ) (addresses : List ℕ) → All (λ (address : ℕ). address ≤ 14) addresses → AreSet status addresses → AreOnly status addresses → AreCodecs (codecs_in status) addresses
are_codecs status addresses few set only = record {
  set = set_low status addresses few set;
  only = λ bit below is. only bit (sym (low_bit status bit below) ∙ is);
}

none_there : (status : ℕ) (addresses : List ℕ) → AreSet (codecs_in status) addresses → codecs_in status ≡ 0 → addresses ≡ []
none_there status [] set zero_it = refl
none_there status (address ∷ addresses) set zero_it =
    let one : bit_at (codecs_in status) address ≡ 1 = All-head (λ (address : ℕ). bit_at (codecs_in status) address ≡ 1) address addresses set in
    let none = bit_at-zero address in
    let same : 0 ≡ 1 = sym none ∙ ap (λ (n : ℕ). bit_at n address) (sym zero_it) ∙ one in
    absurd (omega (arith, same))

-- ---- what the start finds

size_named : (of : RingSize) (fields-code : ℕ) → fields-code ≡ size_code of → largest_size fields-code ≡ Some of
size_named size.Two code is = ap largest_size is
size_named size.Sixteen code is = ap largest_size is
size_named size.Full code is = ap largest_size is

-- what the first reads of a start say
record IsRead (corb rirb : ℕ) (addresses : List ℕ) (reads : StartReads) (world : World) : Type 0 where
  awake : IsAwake corb rirb addresses world
  few : All (λ (address : ℕ). address ≤ 14) addresses
  set : AreSet reads.status addresses
  only : AreOnly reads.status addresses

read_steps : (corb rirb : ℕ) (addresses : List ℕ) (reads : StartReads) (steps : List Step) (world : World) → IsRead corb rirb addresses reads world → IsRead corb rirb addresses reads (after_steps steps world)
read_steps corb rirb addresses reads steps world is = record { awake = awake_steps corb rirb addresses steps world is.awake; few = is.few; set = is.set; only = is.only }

status_read : (corb rirb : ℕ) (addresses : List ℕ) (reads : StartReads) (world : World) → IsAwake corb rirb addresses world → reads.status ≡ value_at world.registers 0x0E Two → IsRead corb rirb addresses reads world
status_read corb rirb addresses reads world awake is =
    let reads_it : reads.status ≡ world.registers.global.state_status = is ∙ read-state_status world.registers in
    let settling = awake.settling in
    record {
      awake = awake;
      few = subst (All (λ (address : ℕ). address ≤ 14)) awake.are (ascend_few 0 world.codecs settling.can_start.quiet.ascend);
      set = subst (λ (status : ℕ). AreSet status addresses) (sym reads_it) (subst (AreSet world.registers.global.state_status) awake.are (settling.discovered awake.late));
      only = subst (λ (status : ℕ). AreOnly status addresses) (sym reads_it) (subst (AreOnly world.registers.global.state_status) awake.are settling.only);
    }

-- with both sizes
record AreSized (corb rirb : ℕ) (addresses : List ℕ) (reads : StartReads) (world : World) : Type 0 where
  read : IsRead corb rirb addresses reads world
  corb_is : (size : RingSize) × (largest_size reads.corb_size ≡ Some size)

corb_read : (corb rirb : ℕ) (addresses : List ℕ) (reads : StartReads) (world : World) → IsRead corb rirb addresses reads world → reads.corb_size ≡ value_at world.registers 0x4E One → AreSized corb rirb addresses reads world
corb_read corb rirb addresses reads world read is =
    record { read = read; corb_is = (world.registers.shape.corb, size_named world.registers.shape.corb reads.corb_size (is ∙ read-corb_size world.registers)) }

sized_steps : (corb rirb : ℕ) (addresses : List ℕ) (reads : StartReads) (steps : List Step) (world : World) → AreSized corb rirb addresses reads world → AreSized corb rirb addresses reads (after_steps steps world)
sized_steps corb rirb addresses reads steps world is = record { read = read_steps corb rirb addresses reads steps world is.read; corb_is = is.corb_is }

-- so the rings are found, unless there is no codec
record AreFound (addresses : List ℕ) (reads : StartReads) (world : World) : Type 0 where
  few : All (λ (address : ℕ). address ≤ 14) addresses
  set : AreSet reads.status addresses
  only : AreOnly reads.status addresses
  corb_is : (size : RingSize) × (largest_size reads.corb_size ≡ Some size)
  rirb_is : (size : RingSize) × (largest_size reads.rirb_size ≡ Some size)

rirb_read : (corb rirb : ℕ) (addresses : List ℕ) (reads : StartReads) (world : World) → AreSized corb rirb addresses reads world → reads.rirb_size ≡ value_at world.registers 0x5E One → AreFound addresses reads world
rirb_read corb rirb addresses reads world sized is = record {
  few = sized.read.few;
  set = sized.read.set;
  only = sized.read.only;
  corb_is = sized.corb_is;
  rirb_is = (world.registers.shape.rirb, size_named world.registers.shape.rirb reads.rirb_size (is ∙ read-rirb_size world.registers));
}

-- what was found, by whether a codec is there
found_by : (none : Bool) (corb rirb : ℕ) (rings : RingPlaces) (addresses : List ℕ) (before : List TakenCommand) (reads : StartReads) (found new : World) → (codecs_in reads.status == 0) ≡ none → AreFound addresses reads found
    → ((bits : ℕ) → found_if true reads ≡ Codecs bits → IsStarted corb rirb rings before new) → LedBy corb rirb rings addresses before (found_if true reads) new
found_by true corb rirb rings addresses before reads found new none is started =
    let nothing : found_if true reads ≡ NoCodec = ap (λ (none : Bool). codecs_found (codecs_if (if none then None else rings_of (largest_size reads.corb_size) (largest_size reads.rirb_size)) reads.status)) none in
    subst (λ (answer : Settled). LedBy corb rirb rings addresses before answer new) (sym nothing)
    (none_there reads.status addresses (set_low reads.status addresses is.few is.set) (is_zero (codecs_in reads.status) none))
  where
    is_zero : (n : ℕ) → (n == 0) ≡ true → n ≡ 0
    is_zero n is = search (rules, tests)
found_by false corb rirb rings addresses before reads found new some is started =
    let codecs : found_if true reads ≡ Codecs (codecs_in reads.status) =
    ap (λ (none : Bool). codecs_found (codecs_if (if none then None else rings_of (largest_size reads.corb_size) (largest_size reads.rirb_size)) reads.status)) some
    ∙ ap (λ (size : Option RingSize). codecs_found (codecs_if (rings_of size (largest_size reads.rirb_size)) reads.status)) is.corb_is.1
    ∙ ap (λ (size : Option RingSize). codecs_found (codecs_if (rings_of (Some is.corb_is.0) size) reads.status)) is.rirb_is.1
    ∙ ap (λ (none : Bool). if none then NoCodec else Codecs (codecs_in reads.status)) some in
    subst (λ (answer : Settled). LedBy corb rirb rings addresses before answer new) (sym codecs)
    (are_codecs reads.status addresses is.few is.set is.only, started (codecs_in reads.status) codecs)

-- ---- the whole look

clock_read : (corb rirb kept clock : ℕ) (world : World) → has_settled kept clock ≡ true → IsSettling corb rirb world → clock ≡ value_at world.registers 0x30 Four → IsLate world
clock_read corb rirb kept clock world had settling is =
    late_by kept clock world.frames (had_by (kept + 12500) clock had) (is ∙ read-wall_clock world.registers ∙ settling.time)
  where
    had_by : (a b : ℕ) → nat_le a b ≡ true → a ≤ b
    had_by a b is = search (rules, tests)

-- after the clock: it is settling still, and where the codecs had their time they announced themselves
record IsLooked (corb rirb kept clock : ℕ) (addresses : List ℕ) (commands : List TakenCommand) (world : World) : Type 0 where
  settling : IsSettling corb rirb world
  are : addresses_of world.codecs ≡ addresses
  untaken : world.commands ≡ commands
  late : has_settled kept clock ≡ true → IsLate world

-- settling, with these codecs, which took just these commands
record IsSettlingOf (corb rirb : ℕ) (addresses : List ℕ) (commands : List TakenCommand) (world : World) : Type 0 where
  settling : IsSettling corb rirb world
  are : addresses_of world.codecs ≡ addresses
  untaken : world.commands ≡ commands

settling_of_steps : (corb rirb : ℕ) (addresses : List ℕ) (commands : List TakenCommand) (steps : List Step) (world : World) → IsSettlingOf corb rirb addresses commands world → IsSettlingOf corb rirb addresses commands (after_steps steps world)
settling_of_steps corb rirb addresses commands steps world is = record {
  settling = settling_steps corb rirb steps world is.settling;
  are = addresses_stay steps world ∙ is.are;
  untaken = (untaken_steps commands steps world (record { stopped = is.settling.can_start.quiet.corb_stopped; commands_are = is.untaken })).commands_are;
}

looked : (corb rirb kept clock : ℕ) (old mid : Telling) → Accessed old mid (Read 0x30 Four clock) → IsSettling corb rirb (world_of old) → IsLooked corb rirb kept clock (addresses_of (world_of old).codecs) (world_of old).commands (world_of mid)
looked corb rirb kept clock old mid accessed settling =
    let addresses = addresses_of (world_of old).codecs in
    let commands = (world_of old).commands in
    access_leads (IsSettlingOf corb rirb addresses commands) (IsLooked corb rirb kept clock addresses commands) (Read 0x30 Four clock) (settling_of_steps corb rirb addresses commands)
    (λ world before honest. record { settling = before.settling; are = before.are; untaken = before.untaken; late = λ had. clock_read corb rirb kept clock world had before.settling honest })
    old mid accessed (record { settling = settling; are = refl; untaken = refl })

-- the three first reads of the start
found_told : (corb rirb : ℕ) (addresses : List ℕ) (reads : StartReads) (mid new : Telling) → MakesBy (start_accesses corb rirb reads) mid new → IsAwake corb rirb addresses (world_of mid)
    → (world : World) × AreFound addresses reads world
found_told corb rirb addresses reads mid new (one, first, (two, second, (three, third, rest))) awake =
    let in_one = access_leads (IsAwake corb rirb addresses) (IsRead corb rirb addresses reads) (Read 0x0E Two reads.status) (awake_steps corb rirb addresses)
    (λ world before honest. status_read corb rirb addresses reads world before honest) mid one first awake in
    let in_two = access_leads (IsRead corb rirb addresses reads) (AreSized corb rirb addresses reads) (Read 0x4E One reads.corb_size) (read_steps corb rirb addresses reads)
    (λ world before honest. corb_read corb rirb addresses reads world before honest) one two second in_one in
    let in_three = access_leads (AreSized corb rirb addresses reads) (AreFound addresses reads) (Read 0x5E One reads.rirb_size) (sized_steps corb rirb addresses reads)
    (λ world before honest. rirb_read corb rirb addresses reads world before honest) two three third in_two in
    (world_of three, in_three)

-- by whether the codecs had their time
settle_by : (had : Bool) (corb rirb kept clock : ℕ) (rings : RingPlaces) (addresses : List ℕ) (commands : List TakenCommand) (reads : StartReads) (answer : Settled) (mid new : Telling) → has_settled kept clock ≡ had
    → IsLooked corb rirb kept clock addresses commands (world_of mid) → MakesBy (start_if had corb rirb reads) mid new → answer ≡ found_if had reads → StartLeads corb rirb rings answer mid new
    → LedBy corb rirb rings addresses commands answer (world_of new)
settle_by false corb rirb kept clock rings addresses commands reads answer mid new had is none answer_is starts =
    subst (λ (answer : Settled). LedBy corb rirb rings addresses commands answer (world_of new)) (sym answer_is)
    (subst (λ (telling : Telling). IsSettling corb rirb (world_of telling) × ((world_of telling).commands ≡ commands)) (sym none) (is.settling, is.untaken))
settle_by true corb rirb kept clock rings addresses commands reads answer mid new had is makes answer_is starts =
    let (there, found) = found_told corb rirb addresses reads mid new makes (record { settling = is.settling; late = is.late had; are = is.are }) in
    subst (λ (answer : Settled). LedBy corb rirb rings addresses commands answer (world_of new)) (sym answer_is)
    (found_by (codecs_in reads.status == 0) corb rirb rings addresses commands reads there (world_of new) refl found
    (λ bits is_codecs. subst (λ (commands : List TakenCommand). IsStarted corb rirb rings commands (world_of new)) is.untaken (starts bits (answer_is ∙ is_codecs) is.settling.can_start)))

pub settle_told : (corb rirb kept clock : ℕ) (rings : RingPlaces) (reads : StartReads) (answer : Settled) (old mid new : Telling) → Accessed old mid (Read 0x30 Four clock)
    → Makes (start_if (has_settled kept clock) corb rirb reads) mid new → answer ≡ found_if (has_settled kept clock) reads → StartLeads corb rirb rings answer mid new
    → IsSettling corb rirb (world_of old) → LedBy corb rirb rings (addresses_of (world_of old).codecs) (world_of old).commands answer (world_of new)
settle_told corb rirb kept clock rings reads answer old mid new accessed makes answer_is starts settling =
    settle_by (has_settled kept clock) corb rirb kept clock rings (addresses_of (world_of old).codecs) (world_of old).commands reads answer mid new refl (looked corb rirb kept clock old mid accessed settling) makes.by answer_is starts
