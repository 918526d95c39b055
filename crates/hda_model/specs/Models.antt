-- A device model as contracts see it, the worlds that it stands for, and the moves of its calls. This project's own.
use Rattle.std.specs.Prelude.{◌≡◌, ◌≤◌, ℕ, Bool, List, [], All, Ok, length, map, drop}
use Rattle.std.specs.List.{AllZip}
use Rattle.codec_graph.specs.declared.raw.RawCodec.{RawCodec}
use Rattle.codec_graph.specs.Order.{IsOrder}
use Rattle.world_steps.specs.declared.Step.{Step}
use Rattle.hda_registers.specs.declared.shapes.Width.{Width}
use Rattle.hda_files.specs.declared.machine.Machine.{Machine}
use Rattle.hda_files.specs.Machines.{Reads}
use Rattle.heard_frames.specs.HeardLists.{heard}
use Rattle.hda_world.specs.Worlds.{World, given_sound}
use Rattle.hda_world.specs.Events.{after_write}
use Rattle.hda_world.specs.Steps.{after_step}
use Rattle.heard_lists.specs.declared.pin_list.PinHeard.{PinHeard}
use Rattle.heard_lists.specs.Listings.{places_in, graphs_in}
use Rattle.hda_controller.specs.Controllers.{ControllerState, StandsFor}
use Rattle.hda_controller.specs.Openings.{opening_world}
use Rattle.hda_model.specs.declared.places.PinName.{PinName}
use Rattle.hda_model.specs.declared.faults.TheConstants.{MOST_TEXT_BYTES}

-- the controller, what each candidate pin heard that was not forgotten, codec by codec, and of each block that came to
-- the input stream since its RUN rose whether it was taken
pub record ModelState : Type 0 where
  pub controller : ControllerState
  pub pins : List PinHeard
  pub came : List Bool

-- each pin has what it heard of the link frames that the world carried, but for the first so many
abbrev pub AreHeardSince : ℕ → World → List PinHeard → Type 0
AreHeardSince forgotten world pins = All (λ pin. pin.list ≡ heard pin.codec pin.pin (drop forgotten world.carried)) pins

-- with this memory the model is this world; of its link frames that carried the stream the first so many were forgotten
pub record StandsSince (memory : List ℕ) (model : ModelState) (forgotten : ℕ) (world : World) : Type 0 where
  pub stands : StandsFor memory model.controller world
  pub within : forgotten ≤ length world.carried
  pub heard : AreHeardSince forgotten world model.pins
  pub came : world.came ≡ model.came

-- with this memory the model is some world
abbrev pub SomeWorld : List ℕ → ModelState → Type 0
SomeWorld memory model = (forgotten : ℕ) × (world : World) × StandsSince memory model forgotten world

-- the world with another memory
abbrev pub with_memory : List ℕ → World → World
with_memory memory world = record world { memory = memory }

-- ---- pins

abbrev pub name_of : PinHeard → PinName
name_of pin = record { codec = pin.codec; nid = pin.pin }

abbrev pub names_of : List PinHeard → List (ℕ × ℕ)
names_of pins = map (λ pin. (pin.codec, pin.pin)) pins

-- one for each candidate pin, codec by codec and each codec's in their order
pub record AreCandidatesOf (graphs : List RawCodec) (pins : List PinHeard) : Type 0 where
  pub orders : List (List ℕ)
  pub ordered : AllZip IsOrder graphs orders
  pub names : names_of pins ≡ places_in graphs orders

-- the pin with nothing heard
abbrev pub emptied : PinHeard → PinHeard
emptied pin = record pin { list = [] }

-- ---- what calls do

-- the model of a machine at its start, with any memory
pub record IsOpened (machine : Machine) (model : ModelState) : Type 0 where
  pub stands : (memory : List ℕ) → StandsSince memory model 0 (opening_world memory machine)
  pub pins : AreCandidatesOf (graphs_in machine.codecs) model.pins

-- the text is not too long and describes a machine, and the model is that machine's at its start
pub record IsDescribed (text : List ℕ) (model : ModelState) : Type 0 where
  pub short : length text ≤ MOST_TEXT_BYTES
  pub machine : Machine
  pub reads : Reads text (Ok machine)
  pub opened : IsOpened machine model

-- the sound is that of the world's input pins from now on, and nothing else changes
pub record IsGiven (sound : List ℕ) (before after : ModelState) : Type 0 where
  pub stands : (memory : List ℕ) (forgotten : ℕ) (world : World) → StandsSince memory before forgotten world
      → StandsSince memory after forgotten (given_sound sound world)
  pub given : after.controller.device.input.given ≡ sound
  pub pins : after.pins ≡ before.pins
  pub came : after.came ≡ before.came

-- a write of a register leads where the world goes, and what was heard stays
pub record IsWritten (at : ℕ) (width : Width) (value : ℕ) (before after : ModelState) : Type 0 where
  pub stands : (memory : List ℕ) (forgotten : ℕ) (world : World) → StandsSince memory before forgotten world
      → StandsSince memory after forgotten (after_write at width value world)
  pub pins : after.pins ≡ before.pins

-- a step leads with the memory where the world goes, and the pins stay
pub record IsStepped (step : Step) (old new : List ℕ) (before after : ModelState) : Type 0 where
  pub stands : (forgotten : ℕ) (world : World) → StandsSince old before forgotten world
      → StandsSince new after forgotten (after_step step world)
  pub names : names_of after.pins ≡ names_of before.pins

-- all that was heard is forgotten, and nothing else changes
pub record IsForgotten (before after : ModelState) : Type 0 where
  pub stands : (memory : List ℕ) (forgotten : ℕ) (world : World) → StandsSince memory before forgotten world
      → StandsSince memory after (length world.carried) world
  pub controller : after.controller ≡ before.controller
  pub pins : after.pins ≡ map emptied before.pins
  pub came : after.came ≡ before.came
