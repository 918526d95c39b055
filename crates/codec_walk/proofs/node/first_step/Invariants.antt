use Rattle.std.proofs.Common.{◌≡◌, drop}
use Rattle.codec_walk.specs.Steps.{first_step}
use Rattle.codec_walk.proofs.node.first_step.Given as goal

-- the words that are left have the first step of all
abbrev pub invariant-loop-word : goal.invariant-loop-word
invariant-loop-word l = first_step l.node (drop l.word-index l.words) ≡ first_step l.node l.words
