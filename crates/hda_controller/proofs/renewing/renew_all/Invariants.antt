use Rattle.std.proofs.Common.{◌≡◌, take}
use Rattle.hda_controller.specs.Renewing.{all_renewed}
use Rattle.hda_controller.proofs.renewing.renew_all.Given as goal

-- the signals of the codecs before the place are worked out
abbrev pub invariant-loop-place : goal.invariant-loop-place
invariant-loop-place l = l.kept ≡ all_renewed l.fn.kind l.fn.tag l.fn.word (take l.place l.fn.codecs) l.fn.kept
