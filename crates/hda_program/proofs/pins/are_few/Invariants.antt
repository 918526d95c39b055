use Rattle.std.proofs.Common.{◌≡◌, ◌+◌, take}
use Rattle.hda_program.specs.Pins.{most_pins, pins_among}
use Rattle.hda_program.proofs.pins.are_few.Given as goal

-- what is left is what the codecs so far leave
abbrev pub invariant-loop-codec : goal.invariant-loop-codec
invariant-loop-codec l = l.left + pins_among l.kind (take l.codec-index l.codecs) ≡ most_pins
