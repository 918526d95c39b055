-- How far the driver has read the responses that were written to RIRB. High Definition Audio 1.0a, 4.4.2; that the
-- engine writes no more until RINTFL is cleared is this project's own.
use Rattle.std.specs.Prelude.{◌≡◌, ◌≤◌, ◌<◌, ℕ, ◌+◌, ◌==◌, false, length}
use Rattle.hda_registers.specs.Fields.{entries_of}
use Rattle.hda_world.specs.Worlds.{World}

-- of so many responses that were ever written so many were read, the flag and the entries of RIRB being these: while
-- RINTFL is 0 nothing is unread, and fewer responses are unread than the ring has entries
pub record IsReadTo (read written flag entries : ℕ) : Type 0 where
  pub all : (flag == 1) ≡ false → written ≡ read
  pub within : read ≤ written
  pub few : written < read + entries

abbrev pub HasReadTo : ℕ → World → Type 0
HasReadTo read world =
    IsReadTo read (length world.written) world.registers.global.response_flag (entries_of world.registers.shape.rirb)
