-- The start of a machine, and the run of a driver over it by a schedule.
use Rattle.std.proofs.Common.{◌≡◌, ◌≤◌, ◌<◌, ◌+◌, ◌==◌, ℕ, suc, Bool, true, false, List, [], ◌∷◌, length, map, get_or, refl, sym, ap, subst, arith, if◌then◌else◌, Some}
use Rattle.std.specs.Prelude.{All, sum_by}
use Rattle.std.specs.List.Sorted.{IsStrictlyIncreasing}
use Rattle.std.specs.Option.{is_some}
use Rattle.std.proofs.lemmas.Bool.Decides.{nat_tests}
use Rattle.std.proofs.lemmas.List.{length-map, length-replicate}
use Rattle.std.proofs.lemmas.List.Elements.{All-nil, All-cons, All-head, All-tail, All-weaker}
use Rattle.codec_graph.specs.declared.raw.RawCodec.{RawCodec}
use Rattle.codec_graph.specs.CodecStates.{CodecState}
use Rattle.hda_files.specs.declared.machine.CodecFile.{CodecFile}
use Rattle.hda_files.specs.declared.machine.Machine.{Machine}
use Rattle.hda_files.specs.Machines.{IsSoundCodec, IsSound}
use Rattle.schedule_reader.specs.declared.schedule.Schedule.{Schedule}
use Rattle.schedule_reader.specs.declared.schedule.Item.{Item}
use Rattle.schedule_reader.specs.declared.schedule.Item.TheVariants.{Device, Drive}
use Rattle.schedule_reader.specs.Counts.{items_of, item_frames, frames_of}
use Rattle.schedule_reader.specs.Schedules.{IsLimited}
use Rattle.hda_world.specs.declared.world.TheConstants.{REGION_BYTES}
use Rattle.hda_world.specs.Worlds.{codec_at}
use Rattle.hda_world.specs.Events.{Event}
use Rattle.hda_controller.specs.Openings.{codec_in, codecs_in}
use Rattle.heard_lists.specs.Listings.{graphs_in as graphs_of}
use Rattle.rig.specs.Replays.{zeros, start_of, telling_from}
use Rattle.command_engine.specs.Fetchings.{HasBlocks, AscendFrom}
use Rattle.driver_progress.specs.Tasks.{Task, DriverLine}
use Rattle.driver_progress.specs.Progress.{IsProgress}
use Rattle.laws_bring_up.specs.Stretches.{HasFound}
use Rattle.program_runs.specs.Lines.{driver_line_of, lines_in, lines_of}
use Rattle.program_runs.specs.Histories.{IsHistory}
use Rattle.laws_serving.specs.Runs.{calls_of, IsStartFor, IsRunOf}
use Rattle.laws_start.proofs.Callers.{graphs_there}
use Rattle.program_runs.specs.Served.{codec_address, machine_addresses}
use Rattle.program_runs.proofs.Blocks.{LieWell}

-- ---- codecs by address

increasing_tail : (address : ℕ) (addresses : List ℕ) → IsStrictlyIncreasing (address ∷ addresses) → IsStrictlyIncreasing addresses
increasing_tail address addresses increasing k within =
    let next : suc k + 1 ≡ suc (k + 1) = omega arith in
    rw next at (increasing (suc k) (omega (arith, within)))

stand_by_address : (low : ℕ) (files : List CodecFile) → IsStrictlyIncreasing (map codec_address files) → All IsSoundCodec files → (0 < length files → low ≤ get_or (map codec_address files) 0 0) → AscendFrom low (graphs_of files)
stand_by_address low [] increasing sound above = tt
stand_by_address low (file ∷ files) increasing sound above = (
  above (omega arith),
  (All-head IsSoundCodec file files sound).address,
  stand_by_address (file.graph.address + 1) files (increasing_tail file.graph.address (map codec_address files) increasing) (All-tail IsSoundCodec file files sound)
      (λ some. (let same = length-map files codec_address in let step = increasing 0 (omega (arith, some, same)) in omega (arith, step))),
)

-- ---- codecs on the link

abbrev IsFound : List CodecState → ℕ → Type 0
IsFound codecs address = is_some (codec_at address codecs) ≡ true

found_first : (codec : CodecState) (codecs : List CodecState) → IsFound (codec ∷ codecs) codec.graph.address
found_first codec codecs = by (codec.graph.address == codec.graph.address) refl
  where
    by : (b : Bool) → (codec.graph.address == codec.graph.address) ≡ b → is_some (if b then Some codec else codec_at codec.graph.address codecs) ≡ true
    by true is = refl
    by false is = absurd (grind (arith, nat_tests))

found_more : (codec : CodecState) (codecs : List CodecState) (address : ℕ) → IsFound codecs address → IsFound (codec ∷ codecs) address
found_more codec codecs address found = by (codec.graph.address == address)
  where
    by : (b : Bool) → is_some (if b then Some codec else codec_at address codecs) ≡ true
    by true = refl
    by false = found

all_found : (files : List CodecFile) → All (IsFound (codecs_in files)) (map codec_address files)
all_found [] = All-nil (IsFound [])
all_found (file ∷ files) =
    All-cons (IsFound (codecs_in (file ∷ files))) file.graph.address (map codec_address files) (found_first (codec_in file) (codecs_in files))
    (All-weaker (IsFound (codecs_in files)) (IsFound (codecs_in (file ∷ files))) (found_more (codec_in file) (codecs_in files)) (map codec_address files) (all_found files))

-- ---- the start

zeros_length : (size : ℕ) → length (zeros size) ≡ size
unfolding zeros
zeros_length size = length-replicate size 0

pub starts : (machine : Machine) (task : Task) → IsSound machine → LieWell task.blocks → IsStartFor (machine_addresses machine) task (start_of REGION_BYTES machine)
starts machine task sound well = record {
  blocks = subst (HasBlocks task.blocks.corb task.blocks.rirb) (sym (zeros_length REGION_BYTES)) well.blocks_are;
  ascend = subst (λ (graphs : List RawCodec). AscendFrom 0 graphs) (sym (graphs_there machine.codecs)) (stand_by_address 0 machine.codecs sound.ascending sound.each (λ some. omega arith));
  there = all_found machine.codecs;
}

-- ---- the run

pub calls_are : (items : List Item) → calls_of items ≡ lines_in items
calls_are [] = refl
calls_are (Device step ∷ items) = calls_are items
calls_are (Drive line ∷ items) = ap (λ (lines : List DriverLine). driver_line_of line ∷ lines) (calls_are items)

short : (schedule : Schedule) (machine : Machine) → IsLimited schedule → (start_of REGION_BYTES machine).frames + sum_by item_frames (items_of schedule) ≤ 2000000
unfolding frames_of
short schedule machine limited = let few = limited.frames in omega (arith, few)

pub run_of : (machine : Machine) (schedule : Schedule) (task : Task) (journal : List Event) → IsLimited schedule → IsHistory machine schedule journal → IsProgress task (lines_of schedule) (telling_from REGION_BYTES machine journal)
    → HasFound task (lines_of schedule) (telling_from REGION_BYTES machine journal) → IsRunOf task (items_of schedule) (telling_from REGION_BYTES machine journal)
run_of machine schedule task journal limited history progress finds =
    let telling = telling_from REGION_BYTES machine journal in
    let lines = sym (calls_are (items_of schedule)) in record {
      followed = history.follows.followed;
      closing = history.follows.closing;
      follows = history.follows.items;
      accesses = history.follows.accesses;
      laid = history.follows.laid;
      honest = history.replays;
      progress = subst (λ (lines : List DriverLine). IsProgress task lines telling) lines progress;
      finds = subst (λ (lines : List DriverLine). HasFound task lines telling) lines finds;
      few = short schedule machine limited;
    }
