use Rattle.std.proofs.Common.{◌++◌, get_or, sym, ap, ◌∙◌, append-nil, append_assoc, arith}
use Rattle.driver_progress.specs.declared.jack.Jack.{Jack}
use Rattle.std.specs.Prelude.{List}
use Rattle.driver_bring_up.specs.Listed.{told, row_jacks}
use Rattle.driver_bring_up.proofs.Steps.{row_none, row_more}
use Rattle.driver_bring_up.proofs.listing.list_row.Goals as goal

pub loop-tag-init : goal.loop-tag-init
loop-tag-init c = (
  sym (ap (λ (jacks : List Jack). c.args.listed.now.items ++ jacks) (row_none c.args.codec c.args.row.now) ∙ append-nil _),
  omega arith,
  omega arith,
)

pub loop-tag-preserved : goal.loop-tag-preserved
loop-tag-preserved c = (
  c.list_jack.ensures.items
      ∙ (ap (λ (jacks : List Jack). jacks ++ told (record { codec = c.args.codec; tag = c.loop-tag.tag; times = get_or c.args.row.now c.loop-tag.tag 0 })) c.loop-tag.invariant.0
      ∙ (append_assoc c.args.listed.now.items (row_jacks c.args.codec c.args.row.now c.loop-tag.tag) _
      ∙ ap (λ (jacks : List Jack). c.args.listed.now.items ++ jacks) (sym (row_more c.args.codec c.args.row.now c.loop-tag.tag)))),
  omega (arith, c.list_jack.ensures.length, c.loop-tag.invariant.1),
  omega (arith, c.list_jack.ensures.capacity, c.loop-tag.invariant.2),
)
