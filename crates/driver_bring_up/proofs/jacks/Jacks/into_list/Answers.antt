use Rattle.std.proofs.Common.{◌≡◌, ◌++◌, ℕ, List, [], length, sym, ap, subst, ◌∙◌, arith}
use Rattle.driver_progress.specs.declared.jack.Jack.{Jack}
use Rattle.driver_bring_up.specs.Jacks.{row_of, Counts}
use Rattle.driver_bring_up.specs.Listed.{row_jacks, all_jacks}
use Rattle.driver_bring_up.proofs.AllJacks.{all_counted}
use Rattle.driver_bring_up.proofs.Steps.{all_none, all_more}
use Rattle.driver_bring_up.proofs.jacks.Jacks.into_list.Goals as goal

pub loop-codec-init : goal.loop-codec-init
loop-codec-init c = (c.args.self.empty ∙ sym (all_none c.args.self.times), omega (arith, c.args.self.none), c.args.self.room)

pub loop-codec-preserved : goal.loop-codec-preserved
loop-codec-preserved c =
    let row : List ℕ = row_of c.args.self.times c.loop-codec.codec in
    let wide : length row ≡ 64 = c.args.self.tags c.loop-codec.codec [] (omega (arith, c.args.self.codecs, c.loop-codec-test.true)) in (
      c.list_row.ensures.items
          ∙ (ap (λ (tags : ℕ). c.loop-codec.listed.items ++ row_jacks c.loop-codec.codec row tags) wide
          ∙ (ap (λ (jacks : List Jack). jacks ++ row_jacks c.loop-codec.codec row 64) c.loop-codec.invariant.0
          ∙ sym (all_more c.args.self.times c.loop-codec.codec))),
      omega (arith, c.list_row.ensures.length, c.loop-codec.invariant.1, wide),
      omega (arith, c.list_row.ensures.capacity, c.loop-codec.invariant.2),
    )

pub returns : goal.returns
returns c = λ events counts of_pins.
    let sixteen : c.loop-codec.codec ≡ 16 = omega (arith, c.loop-codec-test.false) in
    subst (λ (jacks : List Jack). Counts events jacks) (sym (c.loop-codec.invariant.0 ∙ ap (λ (codecs : ℕ). all_jacks c.args.self.times codecs) sixteen))
    (all_counted c.args.self.times events counts.times of_pins)
