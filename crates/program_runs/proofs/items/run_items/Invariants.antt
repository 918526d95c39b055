use Rattle.std.proofs.Common.{ℕ, List, ◌≤◌, ◌≡◌, ◌+◌, length, take}
use Rattle.program_runs.specs.Lines.{lines_in}
use Rattle.wav_reader.specs.Fills.{IsBeside}
use Rattle.program_runs.specs.Feeding.{shelves_of}
use Rattle.program_runs.specs.Going.{Ran, stand_of}
use Rattle.program_runs.proofs.items.run_items.Given as goal

-- the first of them were run
abbrev pub invariant-loop-item : goal.invariant-loop-item
invariant-loop-item g l = record {
  ran : Ran (g.T.Setter.means l.fn.driver.setter) l.fn.driver.bring_up.agenda.format l.fn.driver.play
      (take l.item-index l.items) (stand_of l.fn.driver.bring_up l.fn.driver.writer l.fn.driver.supply (shelves_of (g.S.Shelf.told l.fn.shelf) (g.S.Shelf.faults l.fn.shelf) (g.S.Shelf.empties l.fn.shelf) (g.S.Shelf.given l.fn.shelf)) l.fn.cut l.fn.rig)
      (stand_of l.driver.bring_up l.driver.writer l.driver.supply (shelves_of (g.S.Shelf.told l.shelf) (g.S.Shelf.faults l.shelf) (g.S.Shelf.empties l.shelf) (g.S.Shelf.given l.shelf)) l.cut l.rig);
  told : g.S.Shelf.told l.shelf ≡ g.S.Shelf.told l.fn.shelf;
  asked : (other : List ℕ) → IsBeside l.fn.driver.supply.source other → g.S.Shelf.asked l.shelf other ≡ g.S.Shelf.asked l.fn.shelf other;
  later : (other : List ℕ) → g.S.Shelf.faults l.fn.shelf other ≤ g.S.Shelf.faults l.shelf other;
  empties_later : (other : List ℕ) → g.S.Shelf.empties l.fn.shelf other ≤ g.S.Shelf.empties l.shelf other;
  geometry : l.driver.writer.geometry ≡ l.fn.driver.writer.geometry;
  setter : l.driver.setter ≡ l.fn.driver.setter;
  play : l.driver.play ≡ l.fn.driver.play;
  runs : l.driver.runs ≡ l.fn.driver.runs;
  calls : l.driver.calls ≡ l.fn.driver.calls + length (lines_in (take l.item-index l.items));
}
