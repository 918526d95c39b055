-- Rows of accesses that leave a recorder alone, those of a poll among them.
use Rattle.std.proofs.Common.{ℕ, Bool, true, false, List, [], ◌∷◌, ◌++◌, ◌+◌, if◌then◌else◌, refl, sym, subst, inl, inr}
use Rattle.std.specs.Prelude.{All}
use Rattle.std.proofs.lemmas.List.Elements.{All-nil, All-cons, All-append}
use Rattle.hda_registers.specs.declared.shapes.Width.TheVariants.{One, Two}
use Rattle.hda_registers.specs.declared.places.TheConstants.{RIRBWP, RIRBSTS}
use Rattle.hda_registers.specs.Fields.{entries_of}
use Rattle.world_steps.specs.declared.Step.{Step}
use Rattle.hda_world.specs.Worlds.{World}
use Rattle.hda_world.specs.Events.{Event, Stepped, Read, Write, after}
use Rattle.hda_world.specs.Tellings.{Telling, Makes, world_of}
use Rattle.hda_world.proofs.Callers.{woven, world_of-went}
use Rattle.period_writer.specs.Standing.{Ring}
use Rattle.command_engine.specs.declared.ring_places.RingPlaces.{RingPlaces}
use Rattle.command_engine.specs.Polling.{PollReads, entry_reads, batch_accesses, poll_accesses}
use Rattle.laws_recording.specs.Beside.{LeavesFilling}
use Rattle.laws_recording.proofs.FirstRecording.{woven_all}

-- the events of a row, and where they lead
pub row_keeps : (P : Event → Type 0) → ((step : Step) → P (Stepped step)) → (Holds : World → Type 0) → ((events : List Event) (world : World) → All P events → Holds world → Holds (after events world))
    → (made : List Event) (old new : Telling) → Makes made old new → All P made → Holds (world_of old) → Holds (world_of new)
row_keeps P steps Holds keeps made old new makes all holds =
    let weaving = woven makes in
    subst Holds (sym (world_of-went old new weaving.events weaving.went)) (keeps weaving.events (world_of old) (woven_all P steps made weaving.events all weaving.woven) holds)

-- ---- a poll

module _ (ring : Ring) where
  abbrev Leaves : Event → Type 0
  Leaves = LeavesFilling ring

  entries_leave : (rirb size place : ℕ) (entries : List (List ℕ)) → All Leaves (entry_reads rirb size place entries)
  entries_leave rirb size place [] = All-nil Leaves
  entries_leave rirb size place (entry ∷ entries) = All-cons Leaves _ (entry_reads rirb size (place + 1) entries) tt (entries_leave rirb size (place + 1) entries)

  batch_leaves : (rirb : ℕ) (rings : RingPlaces) (pointer : ℕ) (entries : List (List ℕ)) → All Leaves (batch_accesses rirb rings pointer entries)
  batch_leaves rirb rings pointer entries =
      let row = entry_reads rirb (entries_of rings.rirb) (rings.read + 1) entries in
      let last : List Event = Write RIRBSTS One 1 ∷ [] in
      All-cons Leaves (Read RIRBWP Two pointer) (row ++ last) tt
      (All-append Leaves row last (entries_leave rirb (entries_of rings.rirb) (rings.read + 1) entries)
      (All-cons Leaves (Write RIRBSTS One 1) [] (inr (inl (record { at_is = refl; width_is = refl }))) (All-nil Leaves)))

  pub polls_leave : (rirb : ℕ) (rings : RingPlaces) (reads : PollReads) → All Leaves (poll_accesses rirb rings reads)
  polls_leave rirb rings reads = by _ where
    by : (set : Bool) → All Leaves (Read RIRBSTS One reads.flag ∷ (if set then batch_accesses rirb rings reads.pointer reads.entries else []))
    by true = All-cons Leaves (Read RIRBSTS One reads.flag) (batch_accesses rirb rings reads.pointer reads.entries) tt (batch_leaves rirb rings reads.pointer reads.entries)
    by false = All-cons Leaves (Read RIRBSTS One reads.flag) [] tt (All-nil Leaves)
