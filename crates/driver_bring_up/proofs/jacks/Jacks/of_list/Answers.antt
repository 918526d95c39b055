use Rattle.std.proofs.Common.{◌≡◌, ◌+◌, ◌∙◌, List, length, take, get_or, sym, ap, arith}
use Rattle.std.proofs.Math.Seq.{take-length}
use Rattle.std.proofs.lemmas.List.Sums.{sum_by_more, sum_by_more_le}
use Rattle.driver_progress.specs.declared.jack.Jack.{Jack}
use Rattle.driver_bring_up.specs.Jacks.{CanAdd, times_at}
use Rattle.driver_bring_up.proofs.ListTimes.{sum_all, sum_at, counts_at, counts_all, all_low}
use Rattle.driver_bring_up.proofs.jacks.Jacks.of_list.Goals as goal

pub loop-jack-preserved : goal.loop-jack-preserved
loop-jack-preserved c = λ low few.
    let list = c.args.list.now in
    let index = c.loop-jack.jack-index in
    let none : Jack = record { codec = 0; tag = 0; times = 0 } in
    let jack = get_or list index none in
    let is = c.loop-jack.invariant low few in
    let below = low index none c.loop-jack-test.true in
    let within = sum_by_more_le (λ (jack : Jack). jack.times) list index none c.loop-jack-test.true in
    let can : CanAdd c.loop-jack.jacks.taken jack = record { codec = below.0; tag = below.1; few = omega (arith, within, few, is.0) } in (
      c.add.ensures.taken can ∙ ap (λ n. n + jack.times) is.0 ∙ sym (sum_by_more (λ (jack : Jack). jack.times) list index none c.loop-jack-test.true),
      λ codec tag. c.add.ensures.counters can codec tag ∙ ap (λ n. n + times_at codec tag jack) (is.1 codec tag) ∙ sym (sum_by_more (times_at codec tag) list index none c.loop-jack-test.true),
    )

pub returns : goal.returns
returns c = λ events counts of_pins few.
    let list = c.args.list.now in
    let all : c.loop-jack.jack-index ≡ length list = omega (arith, c.loop-jack-test.false) in
    let whole : take c.loop-jack.jack-index list ≡ list = ap (λ n. take n list) all ∙ take-length list in
    let sum = counts_all events list counts in
    let is = c.loop-jack.invariant (all_low events list of_pins counts) (omega (arith, sum, few)) in record {
      times = λ codec tag low_codec low_tag. is.1 codec tag ∙ ap (λ (jacks : List Jack). sum_at codec tag jacks) whole ∙ counts_at events list codec tag counts;
      taken = is.0 ∙ ap sum_all whole ∙ sum;
    }
