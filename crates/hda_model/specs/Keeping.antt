-- What holds of a device model at all times: its lists are those of analog candidate pins, and with any memory it is
-- some world. This project's own.
use Rattle.std.specs.Prelude.{◌≡◌, ℕ, Bool, List, map}
use Rattle.codec_graph.specs.declared.pin_kind.PinKind.TheVariants.{Analog}
use Rattle.heard_lists.specs.Listings.{Listing, handed_out}
use Rattle.hda_controller.specs.Controllers.{ControllerState}
use Rattle.hda_controller.specs.Hearing.{AreHeardAs}
use Rattle.hda_model.specs.Models.{ModelState, SomeWorld}

-- a model as contracts see it
abbrev pub seen : ControllerState → List Listing → List Bool → ModelState
seen controller lists marks = record { controller = controller; pins = map handed_out lists; came = marks }

pub record IsModel (controller : ControllerState) (lists : List Listing) (marks : List Bool) : Type 0 where
  pub kind : controller.kind ≡ Analog
  pub known : AreHeardAs controller.kind controller.device.codecs lists
  pub stands : (memory : List ℕ) → SomeWorld memory (seen controller lists marks)
