-- What a rig tells. This project's own.
use Rattle.std.specs.Prelude.{◌≡◌, ℕ, List, Option, Some, IfSome, length}
use Rattle.std.specs.Coded.{Coded-set, coded_ℕ}
use Rattle.std.proofs.Common.{ap, ◌∙◌}
use Rattle.std.proofs.Math.Logic.{∥∥₁_elim}
use Rattle.hda_world.specs.declared.world.TheConstants.{REGION_BYTES}
use Rattle.hda_world.specs.Worlds.{World}
use Rattle.hda_world.specs.JournalEvents.{events_of}
use Rattle.hda_world.specs.Tellings.{Telling, world_of}
use Rattle.heard_lists.specs.Listings.{Listing, AreListsAs, graphs_in}
use Rattle.rig.specs.declared.recording.Recording.{Recording}
use Rattle.rig.specs.declared.rig.Rig.{Rig}
use Rattle.rig.specs.declared.setting.Setting.{Setting}
use Rattle.hda_controller.specs.Controllers.{StandsFor}
use Rattle.rig.specs.Replays.{telling_given, start_given, Replays, AreHeardInAs, AreMarkedInAs, HavePassed}

-- the sound that its input pins are given
abbrev pub sound_given : Recording → List ℕ
sound_given recording = recording.controller.device.input.given

abbrev pub told_of : Recording → Telling
told_of recording = telling_given REGION_BYTES recording.machine (sound_given recording) (events_of recording.journal)

-- a rig tells the start of its machine, whose input pins are given a sound, and its journal
abbrev pub telling_of : Rig → Telling
telling_of rig = told_of rig.recording

abbrev pub sound_of : Rig → List ℕ
sound_of rig = sound_given rig.recording

abbrev pub told_by : Rig → Option Telling
told_by rig = Some (telling_of rig)

-- its region has as many bytes at every moment
pub told_whole : (rig : Rig) → IfSome (told_by rig) (λ telling. length (world_of telling).memory ≡ REGION_BYTES)
told_whole rig = ∥∥₁_elim rig.recording.stands (Coded-set coded_ℕ _ _)
    (λ here. ap length here.stands.memory_is ∙ rig.recording.whole)

-- what no access changes: the machine, for which pins there are lists, the sound that input pins are given, whether a run
-- is open, and with which entry and which groups the last one began
abbrev pub setting_of : Rig → Setting
setting_of rig = record {
  machine = rig.recording.machine;
  kind = rig.recording.kind;
  given = sound_of rig;
  in_run = rig.in_run;
  begun = rig.begun;
  groups = rig.groups;
}

-- what its pins heard
abbrev pub lists_of : Rig → List Listing
lists_of rig = rig.recording.heard

-- the journal replays to a world, and the rig is there: its controller with its memory stands for this world, there is
-- one list for each candidate pin of the kind, which has what that pin heard in it and the pin's marks, and of each block
-- that came to the input stream the rig has whether it was taken
pub record IsReplayed (rig : Rig) : Type 0 where
  pub world : World
  pub replays : Replays (start_given REGION_BYTES (setting_of rig).machine (sound_of rig)) (telling_of rig).journal
      world
  pub stands : ∥ StandsFor rig.recording.memory.items rig.recording.controller world ∥₁
  pub heard : AreHeardInAs (setting_of rig).kind world (lists_of rig)
  pub marked : AreMarkedInAs (setting_of rig).kind world (lists_of rig)
  pub passed : HavePassed world
  pub taken : world.came ≡ rig.recording.came.items
  pub pins : ∥ AreListsAs (setting_of rig).kind (graphs_in (setting_of rig).machine.codecs) (lists_of rig) ∥₁
