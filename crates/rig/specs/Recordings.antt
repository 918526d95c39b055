-- A machine in motion whose journal is kept, and what is told of it. This project's own.
use Rattle.std.specs.Prelude.{◌≡◌, ◌≤◌, ◌+◌, ℕ, Bool, List, Vec, sum_by, vec_len, vec_capacity}
use Rattle.codec_graph.specs.declared.pin_kind.PinKind.{PinKind}
use Rattle.world_steps.specs.declared.Step.{Step}
use Rattle.hda_world.specs.Worlds.{World}
use Rattle.hda_world.specs.Events.{Event, after}
use Rattle.hda_world.specs.Journals.{JournalState}
use Rattle.heard_lists.specs.Listings.{Listing, HasRoom, HasMarkRoom}
use Rattle.hda_controller.specs.Controllers.{ControllerState, StandsFor}
use Rattle.hda_controller.specs.Hearing.{AreHeardAs, most_items}
use Rattle.rig.specs.Replays.{AreHeardInAs, AreMarkedInAs, HavePassed}

-- each list has the marks of its pin in this world, in which no command was taken after more link frames than passed
pub record IsMarkedIn (kind : PinKind) (world : World) (lists : List Listing) : Type 0 where
  pub marks : AreMarkedInAs kind world lists
  pub passed : HavePassed world

-- the controller with its memory, the heard lists, of pins of the kind, with their marks, and the marks of the blocks that
-- came are where the journal leads from the start
pub record IsWhere (kind : PinKind) (start : World) (events : List Event) (memory : List ℕ)
    (controller : ControllerState) (lists : List Listing) (marks : List Bool) : Type 0 where
  pub stands : StandsFor memory controller (after events start)
  pub kind_is : controller.kind ≡ kind
  pub known : AreHeardAs controller.kind controller.device.codecs lists
  pub heard : AreHeardInAs kind (after events start) lists
  pub marked : IsMarkedIn kind (after events start) lists
  pub came : (after events start).came ≡ marks

-- a journal has room for so many more entries and bytes of pieces of memory, and each heard list for so many more items
-- and the list of marks of blocks for as many. A step notes an entry and at most one mark of a pin: there is room for as
-- many of these as for entries
pub record HasRoomFor {Z : Type 0} (entries bytes items : ℕ) (journal : JournalState) (lists : List Listing)
    (marks : Vec Bool Z) : Type 0 where
  pub entries_fit : entries ≤ journal.spare_entries
  pub bytes_fit : bytes ≤ journal.spare_bytes
  pub items_fit : HasRoom items lists
  pub switches_fit : HasMarkRoom entries lists
  pub marks_fit : vec_len marks + items ≤ vec_capacity marks

-- for how many items in each list steps ask room
abbrev pub items_for : List Step → ℕ
items_for steps = sum_by most_items steps
