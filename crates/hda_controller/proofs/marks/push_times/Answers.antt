use Rattle.std.proofs.Common.{◌++◌, [], ◌∷◌, List, Bool, replicate, sym, ap, ◌∙◌, arith}
use Rattle.std.proofs.lemmas.List.{append_assoc, append-nil, replicate_more}
use Rattle.hda_controller.proofs.marks.push_times.Goals as goal

pub loop-pushed-init : goal.loop-pushed-init
loop-pushed-init c = record { items = sym (append-nil c.args.marks.now.items); long = omega arith; capacity = omega arith }

pub loop-pushed-preserved : goal.loop-pushed-preserved
loop-pushed-preserved c =
    let pushed = c.loop-pushed._pushed in
    let put = c.push_within_capacity.ensures in
    record {
      items = (
          put.items
          ∙ ap (λ (front : List Bool). front ++ c.args.mark ∷ []) c.loop-pushed.invariant.items
          ∙ append_assoc c.args.marks.now.items (replicate pushed c.args.mark) (c.args.mark ∷ [])
          ∙ ap (λ (back : List Bool). c.args.marks.now.items ++ back) (replicate_more pushed c.args.mark));
      long = omega (arith, put.length, c.loop-pushed.invariant.long);
      capacity = omega (arith, put.capacity, c.loop-pushed.invariant.capacity);
    }
