-- While a command is submitted the count of link frames does not fall.
use Rattle.std.proofs.Common.{◌≢◌, ◌≤◌, ◌+◌, ◌*◌, ◌/◌, ℕ, List, [], ◌∷◌, sym, ap, subst, arith}
use Rattle.std.specs.Prelude.{All}
use Rattle.std.proofs.lemmas.List.Elements.{All-cons, All-head, All-nil, All-tail}
use Rattle.hda_registers.proofs.Callers.{keeps-reset, keeps-left}
use Rattle.hda_registers.specs.declared.shapes.Width.TheVariants.{Two}
use Rattle.hda_registers.specs.declared.places.TheConstants.{CORBWP}
use Rattle.hda_world.specs.Worlds.{World}
use Rattle.hda_world.specs.Events.{Event, Stepped, Begin, End, Read, Write, DmaRead, DmaWrite, happens, after}
use Rattle.hda_world.specs.Tellings.{Telling, world_of, Makes}
use Rattle.hda_world.proofs.Callers.{Weaving, woven, world_of-went, kept_frames, kept_step, plain_write}
use Rattle.command_engine.specs.declared.ring_places.RingPlaces.{RingPlaces}
use Rattle.command_engine.specs.Submitting.{command_place}
use Rattle.world_rings.specs.declared.entries.TheConstants.{COMMAND_BYTES}
use Rattle.byteorder.specs.Endian.{little_bytes}
use Rattle.period_writer.specs.Outcomes.{HasNotWrapped}
use Rattle.driver_bring_up.specs.Commanding.{submit_made}
use Rattle.driver_progress.specs.Tasks.{Order}
use Rattle.std.specs.Prelude.{Option, None, Some}
use Rattle.laws_stream.proofs.Callers.{woven_all}

-- an event writes no register of GCTL
abbrev NoReset : Event → Type 0
NoReset (Write at width value) = at / 4 ≢ 2
NoReset (Stepped step) = Unit {0}
NoReset Begin = Unit {0}
NoReset End = Unit {0}
NoReset (Read at width value) = Unit {0}
NoReset (DmaRead at bytes) = Unit {0}
NoReset (DmaWrite at bytes) = Unit {0}

one_on : (least : ℕ) (event : Event) (world : World) → NoReset event → least ≤ world.frames → least ≤ (happens world event).frames
one_on least (Write at width value) world none low =
    subst (λ (frames : ℕ). least ≤ frames) (sym (ap (λ (world : World). world.frames) (plain_write world at value width (keeps-reset world.registers at width value none) (keeps-left world.registers at width value none)))) low
one_on least (Stepped step) world none low = kept_step (λ (world : World). least ≤ world.frames) (kept_frames (λ (frames : ℕ). least ≤ frames) (λ frames low. omega (arith, low))) step world low
one_on least Begin world none low = low
one_on least End world none low = low
one_on least (Read at width value) world none low = low
one_on least (DmaRead at bytes) world none low = low
one_on least (DmaWrite at bytes) world none low = low

all_on : (least : ℕ) (events : List Event) (world : World) → All NoReset events → least ≤ world.frames → least ≤ (after events world).frames
all_on least [] world all low = low
all_on least (event ∷ events) world all low = all_on least events (happens world event) (All-tail NoReset event events all) (one_on least event world (All-head NoReset event events all) low)

submits_none : (corb : ℕ) (rings : RingPlaces) (order : Option Order) → All NoReset (submit_made corb rings order)
submits_none corb rings None = All-nil NoReset
submits_none corb rings (Some order) =
    let store = DmaWrite (corb + COMMAND_BYTES * command_place rings) (little_bytes 4 order.word) in
    let point = Write CORBWP Two (command_place rings) in
    All-cons NoReset store (point ∷ []) (tt {0}) (All-cons NoReset point [] (λ e. cc) (All-nil NoReset))

pub submitted_small : (corb : ℕ) (rings : RingPlaces) (order : Option Order) (old new : Telling) → Makes (submit_made corb rings order) old new → HasNotWrapped (world_of new) → HasNotWrapped (world_of old)
submitted_small corb rings order old new makes small =
    let weaving : Weaving (submit_made corb rings order) old new = woven makes in
    let all = woven_all NoReset (λ step. tt {0}) (submit_made corb rings order) weaving.events weaving.woven (submits_none corb rings order) in
    let low : (world_of old).frames ≤ (world_of new).frames =
    subst (λ (world : World). (world_of old).frames ≤ world.frames) (sym (world_of-went old new weaving.events weaving.went)) (all_on (world_of old).frames weaving.events (world_of old) all (omega arith)) in
    omega (arith, low, small)
