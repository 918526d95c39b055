use Rattle.std.proofs.Common.{All}
use Rattle.hda_files.specs.Machines.{IsSoundCodec}
use Rattle.hda_files.proofs.JudgeLemmas.{AreJudgedTo}
use Rattle.hda_files.proofs.machine.judge_codecs.Given as goal

-- the codecs below the address are read
abbrev pub invariant-loop-address : goal.invariant-loop-address
invariant-loop-address l = record {
  judged : AreJudgedTo l.tables l.address l.codecs;
  sound : All IsSoundCodec l.codecs;
}
