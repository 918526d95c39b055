-- What follows from the definitions of a write, a link frame and the device's moves.
use Rattle.std.specs.Prelude.{◌≡◌, ◌<◌, ◌≤◌, ◌⊎◌, ℕ, false}
use Rattle.hda_registers.specs.Fields.{Global, Descriptor, Fields, reset_fields, is_out_of_reset}

-- both descriptors stay
pub record LeavesStreams (old new : Fields) : Type 0 where
  pub input : new.input ≡ old.input
  pub output : new.output ≡ old.output

-- all stays but the input's descriptor, or all but the output's
pub record ChangesInput (old new : Fields) : Type 0 where
  pub shape : new.shape ≡ old.shape
  pub global : new.global ≡ old.global
  pub output : new.output ≡ old.output

pub record ChangesOutput (old new : Fields) : Type 0 where
  pub shape : new.shape ≡ old.shape
  pub global : new.global ≡ old.global
  pub input : new.input ≡ old.input

-- a place that isn't in a descriptor
abbrev pub IsBesideStreams : ℕ → Type 0
IsBesideStreams at = (at < 0x80) ⊎ (0xC0 ≤ at)

-- a place that is neither in GCTL nor in a register of CORB or RIRB
pub record IsBesideRings (at : ℕ) : Type 0 where
  pub control : (at < 0x08) ⊎ (0x0C ≤ at)
  pub rings : (at < 0x40) ⊎ (0x60 ≤ at)

-- every register of CORB and of RIRB stays
pub record LeavesRings (old new : Global) : Type 0 where
  pub corb_base : new.corb_base ≡ old.corb_base
  pub corb_write_pointer : new.corb_write_pointer ≡ old.corb_write_pointer
  pub corb_read_pointer : new.corb_read_pointer ≡ old.corb_read_pointer
  pub corb_pointer_reset : new.corb_pointer_reset ≡ old.corb_pointer_reset
  pub corb_error_interrupt : new.corb_error_interrupt ≡ old.corb_error_interrupt
  pub corb_run : new.corb_run ≡ old.corb_run
  pub rirb_base : new.rirb_base ≡ old.rirb_base
  pub rirb_write_pointer : new.rirb_write_pointer ≡ old.rirb_write_pointer
  pub response_count : new.response_count ≡ old.response_count
  pub response_interrupt : new.response_interrupt ≡ old.response_interrupt
  pub rirb_run : new.rirb_run ≡ old.rirb_run
  pub rirb_overrun_interrupt : new.rirb_overrun_interrupt ≡ old.rirb_overrun_interrupt
  pub response_flag : new.response_flag ≡ old.response_flag

-- all of a descriptor stays but the status bits that a driver clears: BCIS, FIFOE and DESE
abbrev pub ChangesStatus : Descriptor → Descriptor → Type 0
ChangesStatus old new =
    new ≡ record old {
      completion = new.completion;
      fifo_error = new.fifo_error;
      descriptor_error = new.descriptor_error;
    }

-- while CRST is 0, all registers but STATESTS hold their reset value
abbrev pub IsHeldInReset : Fields → Type 0
IsHeldInReset fields = is_out_of_reset fields.global ≡ false
    → fields ≡ reset_fields fields.shape fields.global.state_status
