use Rattle.std.proofs.Common.{take}
use Rattle.program_runs.specs.Outputs.{HavePlansOf}
use Rattle.hda_program.proofs.plans.plans_of.Given as goal

-- the codecs so far have their plans
abbrev pub invariant-loop-codec : goal.invariant-loop-codec
invariant-loop-codec l = HavePlansOf l.kind l.format (take l.codec-index l.codecs) l.plans.items
