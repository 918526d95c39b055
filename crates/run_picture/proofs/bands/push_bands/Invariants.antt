use Rattle.std.proofs.Common.{◌≡◌, ◌++◌, drop, take}
use Rattle.run_picture.specs.Bands.{bands_from}
use Rattle.run_picture.proofs.bands.push_bands.Given as goal

-- the bands so far, and those of the pins that are left
abbrev pub invariant-loop-place : goal.invariant-loop-place
invariant-loop-place l =
    l.initial.shapes ++ bands_from l.columns 0 (take 16 l.pins)
    ≡ l.shapes ++ bands_from l.columns l.place (drop l.place (take 16 l.pins))
