use Rattle.std.proofs.Common.{append_assoc, refl}
use Rattle.std.proofs.lemmas.List.{length_push}
use Rattle.std.proofs.lemmas.Slice.Zip.{zip_turn, zip_end}
use Rattle.capture_report.proofs.InputParts.{inputs-more, inputs-all}
use Rattle.capture_report.proofs.inputs.push_inputs.Goals as goal

pub loop-codec-preserved : goal.loop-codec-preserved
loop-codec-preserved c =
    let t = zip_turn c.args.codecs.now c.args.plans.now c.loop-codec.yielded c.into_iter-codec-iterator.result c.loop-codec.codec-iterator c.next.new.self c.next.result (cc) (cc) c.loop-codec.yielded_by (c.in-Some.codec, c.in-Some.plan) c.in-Some.is c.next.ensures.steps in
    let lines = inputs-more c.args.codecs.now c.args.plans.now _ c.in-Some.codec.now c.in-Some.plan.now t.0 t.1 t.2 t.3 in
    rw (length_push, lines, c.in_ok-push_plan.ensures, c.loop-codec.invariant, c.raw.ensures.value) (simp append_assoc)

pub returns : goal.returns
returns c =
    let e = zip_end c.args.codecs.now c.args.plans.now c.loop-codec.yielded c.into_iter-codec-iterator.result c.loop-codec.codec-iterator c.next.new.self c.next.result (cc) (cc) c.loop-codec.yielded_by c.in-None.is c.next.ensures.steps in
    let all = inputs-all c.args.codecs.now c.args.plans.now _ e in
    rw (c.loop-codec.invariant, all) refl
