-- What calls of a driver that switches go by: laws of runs, of the rules, and of what is submitted; and that both rings lie
-- beside the blocks of its stream.
use Rattle.std.proofs.Common.{◌≡◌, ◌≤◌, ◌+◌, ◌||◌, ℕ, Bool, true, false, List, [], ◌∷◌, length, Option, None, refl, arith, rules, tests}
use Rattle.std.specs.Prelude.{All, nat_le, slice_index}
use Rattle.hda_world.specs.Worlds.{World}
use Rattle.hda_world.specs.Tellings.{Telling, world_of, Makes}
use Rattle.command_engine.specs.declared.answers.Event as told
use Rattle.command_engine.specs.declared.ring_places.RingPlaces.{RingPlaces}
use Rattle.command_engine.specs.Blocks.{corb_bytes, rirb_bytes}
use Rattle.command_engine.specs.Fetchings.{Stands}
use Rattle.command_engine.specs.Submitting.{submit_accesses}
use Rattle.period_writer.specs.declared.course.Course.{Course}
use Rattle.period_writer.specs.declared.course.Ran.{Ran}
use Rattle.period_writer.specs.declared.course.Ran.TheVariants as ran
use Rattle.period_writer.specs.Beside as writer
use Rattle.period_writer.specs.Blocks.{are_apart}
use Rattle.period_writer.specs.Outcomes.{HasNotWrapped, CanBegin, StartTells, RunTellsOf}
use Rattle.period_writer.specs.Playing.{play_accesses}
use Rattle.period_writer.specs.Rings.{list_bytes}
use Rattle.period_writer.specs.Runs.{RunFacts, Tally}
use Rattle.period_writer.specs.Standing.{Ring, bytes_in}
use Rattle.period_writer.specs.Starting.{start_accesses}
use Rattle.period_writer.specs.Touching.{IsOfRing}
use Rattle.period_writer.specs.Writers.{WriterState, ring_of}
use Rattle.audio_driver.specs.Parting.{IsBesideRing}
use Rattle.driver_progress.specs.Answers.{AnswersAgree}
use Rattle.jack_rules.specs.Switching.{SwitchingState, AreInReach, KeepsPins, told_all}
use Rattle.jack_switch.specs.JackDrivers.{JackDriverState, IsJackDriver}
use Rattle.laws_stream.specs.Going.{StreamGoes, LeavesAlone}
use Rattle.laws_stream.specs.Lives.{Along, HasNotBegun, stops}
use Rattle.laws_stream.specs.Resting.{Rests, AreApartFrom}
use Rattle.laws_switching.proofs.RunRows.{IsBesideBlocks}
use Rattle.laws_switching.proofs.Running.{AreBesideRing}
use Rattle.laws_switching.proofs.Words.{ChosenWords}

pub record CallLaws : Type 0 where
  pub first : (ring : Ring) (pcm : List ℕ) (budget : ℕ) (tally tally' : Tally) (old new : Telling) → StartTells ring pcm budget tally tally' old new → Along HasNotBegun old.journal old.start → StreamGoes false ring pcm tally' new
  pub runs : (ring : Ring) (pcm : List ℕ) (budget : ℕ) (tally tally' : Tally) (answer : Ran) (old new : Telling) → RunTellsOf ring pcm budget tally answer tally' old new → answer ≡ tally'.course.ran
      → tally.course.ran ≡ ran.Playing → HasNotWrapped (world_of new) → StreamGoes false ring pcm tally old → StreamGoes false ring pcm tally' new
  pub stop : (ring : Ring) (pcm : List ℕ) (tally : Tally) (old new : Telling) → Makes (stops ∷ []) old new → tally.course.ran ≡ ran.Playing → StreamGoes false ring pcm tally old → StreamGoes true ring pcm tally new
  pub can_begin : (ring : Ring) (from read corb rirb : ℕ) (rings : RingPlaces) (world : World) → Rests ring.geometry.fifo world → Stands from read corb rirb rings world → AreApartFrom ring rirb → CanBegin ring world
  pub submissions : (ring : Ring) (corb : ℕ) (rings : RingPlaces) (word : ℕ) → writer.IsBesideBlocks ring corb corb_bytes → All (LeavesAlone ring) (submit_accesses corb rings word)
  pub submitted : (from read corb rirb : ℕ) (rings : RingPlaces) (world : World) (asked : Option ℕ) → Stands from read corb rirb rings world → rings.outstanding ≡ None → AnswersAgree asked (length world.written) read world.written
  pub starts_of : (ring : Ring) (from in_reset ready to : ℕ) (written : List ℕ) → length ring.periods ≡ ring.geometry.periods
      → All (IsOfRing ring) (start_accesses ring.geometry ring.list ring.periods from in_reset ready to written)
  pub run_of : (ring : Ring) (course : Course) (facts : RunFacts) (pcm : List ℕ) (ran : Ran) → length ring.periods ≡ ring.geometry.periods
      → All (IsOfRing ring) (play_accesses ring.geometry ring.periods course facts pcm ran)
  pub stop_of : (ring : Ring) → All (IsOfRing ring) (stops ∷ [])
  pub chosen : ChosenWords
  pub reaches : (old new : SwitchingState) → KeepsPins old new → AreInReach old → AreInReach new
  pub told : (switching : SwitchingState) (events : List told.Event) (answer : Option ℕ) → KeepsPins switching (told_all switching events answer)

-- ---- both rings lie beside the stream's blocks

beside_blocks : (address bytes : ℕ) (state : WriterState) → length (ring_of state).periods ≡ (ring_of state).geometry.periods → IsBesideRing address bytes state → IsBesideBlocks (ring_of state) address bytes
beside_blocks address bytes state number beside = record {
  list = beside.list;
  periods = λ index few. beside.periods index (omega (arith, few, number));
}

pub rings_beside : (driver : JackDriverState) → IsJackDriver driver → length (ring_of driver.writer).periods ≡ (ring_of driver.writer).geometry.periods → AreBesideRing driver
rings_beside driver is number = record {
  corb = beside_blocks driver.engine.corb.address corb_bytes driver.writer number is.beside_corb;
  rirb = beside_blocks driver.engine.rirb.address rirb_bytes driver.writer number is.beside_rirb;
}

none_common : (address bytes other other_bytes : ℕ) → are_apart address bytes other other_bytes ≡ true → writer.HaveNoneInCommon address bytes other other_bytes
none_common address bytes other other_bytes apart index place few within same = by (nat_le (address + bytes) other) refl apart
  where
    by : (test : Bool) → nat_le (address + bytes) other ≡ test → (test || nat_le (other + other_bytes) address) ≡ true → ⊥
    by true is apart = let below : address + bytes ≤ other = search (rules, tests) in omega (arith, below, few, within, same)
    by false is apart = let above : other + other_bytes ≤ address = search (rules, tests) in omega (arith, above, few, within, same)

pub none_in_common : (ring : Ring) (address bytes : ℕ) → IsBesideBlocks ring address bytes → writer.IsBesideBlocks ring address bytes
none_in_common ring address bytes beside = record {
  list = none_common address bytes ring.list (list_bytes ring.geometry.periods) beside.list;
  periods = λ index few. none_common address bytes (slice_index ring.periods index) (bytes_in ring) (beside.periods index few);
}
