-- Replay of a journal: where its events lead from the start of a machine. This project's own.
use Rattle.std.specs.Prelude.{◌≡◌, ◌≤◌, ℕ, List, All, length, replicate}
use Rattle.codec_graph.specs.declared.pin_kind.PinKind.{PinKind}
use Rattle.codec_graph.specs.declared.pin_kind.PinKind.TheVariants.{Analog}
use Rattle.heard_frames.specs.HeardLists.{heard_as}
use Rattle.heard_frames.specs.Marks.{marks_of_as}
use Rattle.hda_files.specs.declared.machine.Machine.{Machine}
use Rattle.hda_world.specs.Worlds.{World, given_sound}
use Rattle.hda_world.specs.Events.{Event, after, AreHonest}
use Rattle.hda_world.specs.Tellings.{Telling}
use Rattle.heard_lists.specs.Listings.{Listing}
use Rattle.hda_controller.specs.Openings.{opening_world}

-- so many bytes that are 0
unfoldable pub zeros : ℕ → List ℕ
zeros size = replicate size 0

-- the start of a machine: a region of so many bytes that are 0, the controller in reset, and the codecs with the
-- settings and what is plugged in that its file says
abbrev pub start_of : ℕ → Machine → World
start_of size machine = opening_world (zeros size) machine

-- the same where its input pins are given this sound
abbrev pub start_given : ℕ → Machine → (sound : List ℕ) → World
start_given size machine sound = given_sound sound (start_of size machine)

-- what is told of a machine with this journal
abbrev pub telling_from : ℕ → Machine → List Event → Telling
telling_from size machine journal = record { start = start_of size machine; journal = journal }

-- and where its input pins are given this sound
abbrev pub telling_given : ℕ → Machine → (sound : List ℕ) → List Event → Telling
telling_given size machine sound journal = record { start = start_given size machine sound; journal = journal }

-- the journal leads to this world, and each of its accesses says what the world answered at its moment
pub record Replays (start : World) (journal : List Event) (world : World) : Type 0 where
  pub honest : AreHonest journal start
  pub leads : world ≡ after journal start

-- each list has what its pin heard, as a pin of the kind, of the link frames that the world carried
abbrev pub AreHeardInAs : PinKind → World → List Listing → Type 0
AreHeardInAs kind world lists = All (λ listing. listing.list ≡ heard_as kind listing.codec listing.pin world.carried)
    lists

-- as an analog pin
abbrev pub AreHeardIn : World → List Listing → Type 0
AreHeardIn world lists = AreHeardInAs Analog world lists

-- each list has the marks of its pin, as a pin of the kind, by the commands that codecs took and the link frames that the
-- world carried
abbrev pub AreMarkedInAs : PinKind → World → List Listing → Type 0
AreMarkedInAs kind world lists =
    All (λ listing. listing.marks ≡ marks_of_as kind listing.codec listing.pin world.commands world.carried) lists

-- no command was taken after more link frames than passed
abbrev pub HavePassed : World → Type 0
HavePassed world = All (λ command. command.carried ≤ length world.carried) world.commands
