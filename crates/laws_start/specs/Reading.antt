-- What holds of each machine that a codec file describes, and of others. This project's own.
use Rattle.std.specs.Prelude.{◌≤◌, ℕ, List, length, All, Ok}
use Rattle.codec_graph.specs.Cycles.{IsWellFormed}
use Rattle.laws_settings.specs.Readings.{KeepsDefaults}
use Rattle.hda_files.specs.declared.machine.Machine.{Machine}
use Rattle.hda_files.specs.Machines.{Reads}
use Rattle.hda_controller.specs.Openings.{codecs_in}
use Rattle.driver_bring_up.specs.Addresses.{most_codecs}
use Rattle.heard_lists.specs.Listings.{graphs_in}

-- some bytes of a codec file read as this machine
abbrev pub IsRead : Machine → Type 0
IsRead machine = (bytes : List ℕ) × Reads bytes (Ok machine)

-- all its graphs are well-formed, it has four codecs at most, and each begins with its pins' configuration defaults;
-- the FIFO has 8 to 4,096 bytes
pub record IsWhole (machine : Machine) : Type 0 where
  pub well_formed : All IsWellFormed (graphs_in machine.codecs)
  pub few : length machine.codecs ≤ most_codecs
  pub defaults : All KeepsDefaults (codecs_in machine.codecs)
  pub some_fifo : 8 ≤ machine.fifo
  pub small_fifo : machine.fifo ≤ 4096
