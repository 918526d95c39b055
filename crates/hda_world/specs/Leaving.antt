-- What steps of the device and accesses of the driver leave alone. This project's own.
use Rattle.std.specs.Prelude.{◌≡◌, ◌≢◌, ◌<◌, ◌≤◌, ◌⊎◌, ℕ, ◌+◌, ◌*◌, false, List, [], ◌∷◌, ◌++◌, Option, None, Some}
use Rattle.std.specs.Prelude.{length, map, slice_index}
use Rattle.codec_graph.specs.declared.raw.RawCodec.{RawCodec}
use Rattle.hda_registers.specs.Fields.{Fields, Descriptor, entries_of, rirb_address, is_running}
use Rattle.world_rings.specs.declared.entries.TheConstants.{RESPONSE_BYTES}
use Rattle.world_rings.specs.Engines.{next_word}
use Rattle.world_steps.specs.declared.Step.{Step}
use Rattle.world_steps.specs.declared.Step.TheVariants as step
use Rattle.hda_world.specs.Worlds.{World}
use Rattle.hda_world.specs.Steps.{address_of, after_step}

-- a descriptor is the old one but for LPIB and the status bits, and where its list or its registers could not be used
-- RUN; it stays while its stream does not run
pub record DescriptorStays (old new : Descriptor) : Type 0 where
  pub only : new ≡ record old {
    run = new.run;
    completion = new.completion;
    fifo_error = new.fifo_error;
    descriptor_error = new.descriptor_error;
    fifo_ready = new.fifo_ready;
    link_position = new.link_position;
  }
  pub run : (new.run ≡ old.run) ⊎ ((new.run ≡ 0) × (new.descriptor_error ≡ 1))
  pub still : is_running old ≡ false → new ≡ old

-- the registers are the old ones but for what the device itself moves: the wall clock, the codecs' bits of the state
-- change status, the pointers and the flag of the rings, and the descriptors of streams that run
pub record RegistersStay (old new : Fields) : Type 0 where
  pub shape : new.shape ≡ old.shape
  pub input : DescriptorStays old.input new.input
  pub output : DescriptorStays old.output new.output
  pub global : new.global ≡ record old.global {
    wall_clock = new.global.wall_clock;
    state_status = new.global.state_status;
    corb_read_pointer = new.global.corb_read_pointer;
    rirb_write_pointer = new.global.rirb_write_pointer;
    response_flag = new.global.response_flag;
  }

-- an address that is none of RIRB's
abbrev pub IsOutsideRirb : Fields → ℕ → Type 0
IsOutsideRirb fields at = (at < rirb_address fields)
    ⊎ (rirb_address fields + RESPONSE_BYTES * entries_of fields.shape.rirb ≤ at)

-- the memory has as many bytes as before, and where the input stream does not run, outside RIRB the same
pub record MemoryStays (fields : Fields) (old new : List ℕ) : Type 0 where
  pub size : length new ≡ length old
  pub outside : is_running fields.input ≡ false → (at : ℕ) → IsOutsideRirb fields at
      → slice_index new at ≡ slice_index old at

-- a history went on
abbrev pub WentOn : {A : Type 0} → List A → List A → Type 0
WentOn {A} old new = (more : List A) × (new ≡ old ++ more)

abbrev pub graphs_of : World → List RawCodec
graphs_of world = map (λ codec. codec.graph) world.codecs

-- what every step of the device leaves alone
pub record StepsLeave (old new : World) : Type 0 where
  pub memory : MemoryStays old.registers old.memory new.memory
  pub registers : RegistersStay old.registers new.registers
  pub graphs : graphs_of new ≡ graphs_of old
  pub commands : WentOn old.commands new.commands
  pub written : WentOn old.written new.written
  pub carried : WentOn old.carried new.carried
  pub came : WentOn old.came new.came

-- what an event leaves alone that is no step of the device: an access changes the registers or a piece of memory, and
-- of the codecs nothing but what waits at them, which a reset drops
pub record AccessLeaves (old new : World) : Type 0 where
  pub commands : new.commands ≡ old.commands
  pub written : new.written ≡ old.written
  pub carried : new.carried ≡ old.carried
  pub graphs : graphs_of new ≡ graphs_of old
  pub settings : map (λ codec. codec.settings) new.codecs ≡ map (λ codec. codec.settings) old.codecs
  pub present : map (λ codec. codec.present) new.codecs ≡ map (λ codec. codec.present) old.codecs

-- a word, if there is one, does not name this address
abbrev pub AddressesOther : Option ℕ → ℕ → Type 0
AddressesOther None address = Unit {0}
AddressesOther (Some word) address = address ≢ address_of word

-- the step does not name the codec of this address. The engine of CORB names the codec of the command that it fetches,
-- if it fetches one
abbrev pub NamesOthers : Step → World → ℕ → Type 0
NamesOthers step.Corb world address = AddressesOther (next_word world.registers world.memory) address
NamesOthers (step.Answer codec) world address = address ≢ codec
NamesOthers (step.Lose codec) world address = address ≢ codec
NamesOthers step.Rirb world address = Unit {0}
NamesOthers (step.Fetch stream most) world address = Unit {0}
NamesOthers (step.Link frames) world address = Unit {0}
NamesOthers (step.Plug codec nid) world address = address ≢ codec
NamesOthers (step.Unplug codec nid) world address = address ≢ codec

-- nor does any of some steps in turn
abbrev pub NameOthers : List Step → World → ℕ → Type 0
NameOthers [] world address = Unit {0}
NameOthers (step ∷ steps) world address = NamesOthers step world address
    × NameOthers steps (after_step step world) address

-- the step names no stream
abbrev pub NamesNoStream : Step → Type 0
NamesNoStream step.Corb = Unit {0}
NamesNoStream (step.Answer codec) = Unit {0}
NamesNoStream (step.Lose codec) = Unit {0}
NamesNoStream step.Rirb = Unit {0}
NamesNoStream (step.Fetch stream most) = ⊥
NamesNoStream (step.Link frames) = ⊥
NamesNoStream (step.Plug codec nid) = Unit {0}
NamesNoStream (step.Unplug codec nid) = Unit {0}

-- both streams stay: their descriptors, their states, what link frames carried and what came
pub record StreamsStay (old new : World) : Type 0 where
  pub input_registers : new.registers.input ≡ old.registers.input
  pub output_registers : new.registers.output ≡ old.registers.output
  pub input : new.input ≡ old.input
  pub output : new.output ≡ old.output
  pub carried : new.carried ≡ old.carried
  pub came : new.came ≡ old.came
