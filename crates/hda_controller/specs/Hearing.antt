-- What a step of the device adds to heard lists, and whose signals it renews. This project's own.
use Rattle.std.specs.Prelude.{◌≡◌, ◌*◌, ◌++◌, ℕ, Bool, List, All, length, true, Some}
use Rattle.codec_graph.specs.CodecStates.{CodecState}
use Rattle.codec_graph.specs.declared.pin_kind.PinKind.{PinKind}
use Rattle.codec_graph.specs.declared.pin_kind.PinKind.TheVariants.{Analog}
use Rattle.world_steps.specs.declared.Step.{Step}
use Rattle.world_steps.specs.declared.Step.TheVariants as step
use Rattle.stream_format.specs.Cadence.{blocks_of}
use Rattle.stream_format.specs.Layouts.{Layout, layout_of}
use Rattle.device_core.specs.Codecs.{handed_now}
use Rattle.hda_world.specs.Worlds.{World, TakenCommand, CarriedFrame}
use Rattle.heard_lists.specs.Listings.{Listing, grown_as, marked}
use Rattle.hda_controller.specs.Controllers.{ControllerState, is_candidate_of_kind, renewals_of, renewals_handed}

-- for how many items in each list a step asks room, and for how many marks of blocks that come: a link frame has at
-- most four blocks each way, and one that misses those of the output stream adds one hole
abbrev pub most_items : Step → ℕ
most_items step.Corb = 0
most_items (step.Answer codec) = 0
most_items (step.Lose codec) = 0
most_items step.Rirb = 0
most_items (step.Fetch stream most) = 0
most_items (step.Link frames) = 4 * frames
most_items (step.Plug codec pin) = 0
most_items (step.Unplug codec pin) = 0

-- for how many marks of pins a step asks room: one where CORB's engine may hand a command on
abbrev pub most_marks : Step → ℕ
most_marks step.Corb = 1
most_marks (step.Answer codec) = 0
most_marks (step.Lose codec) = 0
most_marks step.Rirb = 0
most_marks (step.Fetch stream most) = 0
most_marks (step.Link frames) = 0
most_marks (step.Plug codec pin) = 0
most_marks (step.Unplug codec pin) = 0

-- each list is that of a candidate pin of the kind, of a codec that is there
abbrev pub AreHeardAs : PinKind → List CodecState → List Listing → Type 0
AreHeardAs kind codecs lists = All (λ listing. is_candidate_of_kind kind codecs listing.codec listing.pin ≡ true) lists

-- from one world to another the lists gained the items of the link frames that carried the stream between them, as pins
-- of the kind hear them
pub record FramesHeardAs (kind : PinKind) (before after : World) (old new : List Listing) : Type 0 where
  pub added : List CarriedFrame
  pub carried : after.carried ≡ before.carried ++ added
  pub lists : new ≡ grown_as kind added old

-- and before them the marks of the commands that codecs took between them, while none of these link frames had passed
pub record GrewAs (kind : PinKind) (before after : World) (old new : List Listing) : Type 0 where
  pub added : List CarriedFrame
  pub carried : after.carried ≡ before.carried ++ added
  pub taken : List TakenCommand
  pub commands : after.commands ≡ before.commands ++ taken
  pub moments : All (λ command. command.carried ≡ length before.carried) taken
  pub lists : new ≡ grown_as kind added (marked taken old)

-- from one world to another these blocks came to the input stream, and the list got a mark for each: whether it was
-- taken. No step has RUN rise, so what came before is never dropped
pub record CameAs (before after : World) (old new : List Bool) : Type 0 where
  pub added : List Bool
  pub came : after.came ≡ before.came ++ added
  pub marks : new ≡ old ++ added

-- the lists of analog pins
abbrev pub AreHeard : List CodecState → List Listing → Type 0
AreHeard codecs lists = AreHeardAs Analog codecs lists

abbrev pub Grew : World → World → List Listing → List Listing → Type 0
Grew before after old new = GrewAs Analog before after old new

-- how often signals were renewed after a step: once for a codec that CORB's engine hands a command that sets a control
abbrev pub renewals_stepped : Step → List ℕ → ControllerState → List ℕ
renewals_stepped step.Corb memory controller =
    renewals_handed (handed_now controller.device.registers memory controller.device.codecs) (renewals_of controller)
renewals_stepped (step.Answer codec) memory controller = renewals_of controller
renewals_stepped (step.Lose codec) memory controller = renewals_of controller
renewals_stepped step.Rirb memory controller = renewals_of controller
renewals_stepped (step.Fetch stream most) memory controller = renewals_of controller
renewals_stepped (step.Link frames) memory controller = renewals_of controller
renewals_stepped (step.Plug codec pin) memory controller = renewals_of controller
renewals_stepped (step.Unplug codec pin) memory controller = renewals_of controller

-- what private functions promise one another: so many blocks are due in some link frame of a stream with this format
-- word
pub record AreDue (word blocks : ℕ) : Type 0 where
  pub layout : Layout
  pub frame : ℕ
  pub format_is : layout_of word ≡ Some layout
  pub blocks_are : blocks ≡ blocks_of layout.rate frame
