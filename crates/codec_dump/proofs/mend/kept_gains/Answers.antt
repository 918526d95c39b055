use Rattle.std.proofs.Common.{◌++◌, List, sym, ap, ◌∙◌, append_assoc, append-nil, arith}
use Rattle.dump_reader.specs.declared.facts.Gain.{Gain}
use Rattle.codec_dump.proofs.MendLemmas.{kept_step, kept_end}
use Rattle.codec_dump.proofs.mend.kept_gains.Goals as goal

pub loop-place-preserved : goal.loop-place-preserved
loop-place-preserved c =
    let before : List Gain = c.loop-place.kept.items in
    let place = c.loop-place.place in
    rw (c.in_ok-push_kept.ensures, c.stays_at.ensures, append_assoc) (ap (λ gains. before ++ gains) (sym (kept_step c.args.group c.args.list.now c.args.gains.now place _ (omega arith))) ∙ c.loop-place.invariant)

pub returns : goal.returns
returns c =
    let kept : List Gain = c.loop-place.kept.items in
    let place = c.loop-place.place in
    c.from_vec.ensures ∙ sym (append-nil kept) ∙ ap (λ gains. kept ++ gains) (sym (kept_end c.args.group c.args.list.now c.args.gains.now place (omega arith))) ∙ c.loop-place.invariant
