-- The blocks of both rings. High Definition Audio 1.0a, 4.4.1 and 4.4.2: room for 256 commands of 4 bytes and 256
-- responses of 8.
use Rattle.std.specs.Prelude.{ℕ, Bool, ◌+◌, ◌||◌, nat_le}

abbrev pub corb_bytes : ℕ
corb_bytes = 1024

abbrev pub rirb_bytes : ℕ
rirb_bytes = 2048

-- how many events wait at most
abbrev pub most_events : ℕ
most_events = 256

-- the blocks at these addresses have no byte in common
abbrev pub are_apart : ℕ → ℕ → Bool
are_apart corb rirb = nat_le (corb + corb_bytes) rirb || nat_le (rirb + rirb_bytes) corb
