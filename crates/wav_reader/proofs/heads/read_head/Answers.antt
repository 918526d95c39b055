use Rattle.std.proofs.Common.{sym, ◌∙◌}
use Rattle.wav_reader.proofs.HeadLemmas.{head_of-other, head_of-riff}
use Rattle.wav_reader.proofs.heads.read_head.Goals as goal

pub returns-then-not-is_riff-clause-head : goal.returns-then-not-is_riff-clause-head
returns-then-not-is_riff-clause-head c = sym (head_of-other c.args.bytes.now (sym c.is_riff.ensures ∙ c.if-not-is_riff.true))

pub returns-clause-head : goal.returns-clause-head
returns-clause-head c = c.find_sound.ensures.head ∙ sym (head_of-riff c.args.bytes.now (sym c.is_riff.ensures ∙ c.if-not-is_riff.false))
