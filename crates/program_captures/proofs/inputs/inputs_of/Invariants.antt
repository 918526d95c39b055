use Rattle.std.proofs.Common.{take}
use Rattle.program_captures.specs.Finding.{IsFound}
use Rattle.program_captures.proofs.inputs.inputs_of.Given as goal

-- what was found among the codecs so far
abbrev pub invariant-loop-codec : goal.invariant-loop-codec
invariant-loop-codec l = IsFound l.format (take l.codec-index l.codecs) l.found l.plans.items
