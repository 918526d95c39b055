use Rattle.std.proofs.Common.{◌≡◌, ◌+◌, sym, ap, ◌∙◌, arith}
use Rattle.codec_graph.specs.declared.controls.Control.TheVariants.{Select, InLeft, InRight}
use Rattle.codec_graph.specs.Settings.{plain_controls}
use Rattle.codec_graph.specs.Openings.{opened_so_far}
use Rattle.codec_graph.proofs.Ascending.{keys_up_to, keys_up_to-none, keys_up_to-all, opens_last, opened-next, plain_at, left_at, right_at}
use Rattle.codec_graph.proofs.settings.Settings.open_node.Goals as goal

pub loop-control-init : goal.loop-control-init
loop-control-init c = record {
  opened = c.requires ∙ ap (opened_so_far c.args.codec.now) (sym (keys_up_to-none c.args.nid));
  each = λ h. h;
}

pub open-requires : goal.open-requires
unfolding plain_controls
open-requires c =
    opens_last c.args.codec.now c.loop-control.self c.args.nid c.loop-control.control-index _ Select (omega arith) (plain_at c.loop-control.control-index Select (omega arith)) c.loop-control.invariant.opened

pub loop-control-preserved : goal.loop-control-preserved
unfolding plain_controls
loop-control-preserved c = record {
  opened =
      opened-next c.args.codec.now c.loop-control.self _ c.args.nid c.loop-control.control-index _ Select (omega arith) (plain_at c.loop-control.control-index Select (omega arith)) c.in_ok-open.ensures.value c.loop-control.invariant.opened;
  each = λ h. c.in_ok-open.ensures.each (c.loop-control.invariant.each h);
}

pub loop-place-init : goal.loop-place-init
loop-place-init c =
    let all : c.loop-control.control-index ≡ 11 + 0 = omega arith in
    record {
      opened = c.loop-control.invariant.opened ∙ ap (λ n. opened_so_far c.args.codec.now (keys_up_to c.args.nid n)) all;
      each = c.loop-control.invariant.each;
    }

pub open-requires-in-loop-place : goal.open-requires-in-loop-place
open-requires-in-loop-place c =
    opens_last c.args.codec.now c.loop-place.self c.args.nid (11 + c.loop-place.place) (InLeft c.loop-place.place) Select (omega arith) (left_at c.loop-place.place Select (omega arith)) c.loop-place.invariant.opened

pub loop-place-preserved : goal.loop-place-preserved
loop-place-preserved c =
    let more : 11 + c.loop-place.place + 1 ≡ 11 + (c.loop-place.place + 1) = omega arith in
    record {
      opened =
          opened-next c.args.codec.now c.loop-place.self _ c.args.nid (11 + c.loop-place.place) (InLeft c.loop-place.place) Select (omega arith) (left_at c.loop-place.place Select (omega arith)) c.in_ok-open-2.ensures.value c.loop-place.invariant.opened
          ∙ ap (λ n. opened_so_far c.args.codec.now (keys_up_to c.args.nid n)) more;
      each = λ h. c.in_ok-open-2.ensures.each (c.loop-place.invariant.each h);
    }

pub loop-place-2-init : goal.loop-place-2-init
loop-place-2-init c =
    let all : 11 + c.loop-place.place ≡ 27 + 0 = omega arith in
    record {
      opened = c.loop-place.invariant.opened ∙ ap (λ n. opened_so_far c.args.codec.now (keys_up_to c.args.nid n)) all;
      each = c.loop-place.invariant.each;
    }

pub open-requires-in-loop-place-2 : goal.open-requires-in-loop-place-2
open-requires-in-loop-place-2 c =
    opens_last c.args.codec.now c.loop-place-2.self c.args.nid (27 + c.loop-place-2.place) (InRight c.loop-place-2.place) Select (omega arith) (right_at c.loop-place-2.place Select (omega arith)) c.loop-place-2.invariant.opened

pub loop-place-2-preserved : goal.loop-place-2-preserved
loop-place-2-preserved c =
    let more : 27 + c.loop-place-2.place + 1 ≡ 27 + (c.loop-place-2.place + 1) = omega arith in
    record {
      opened =
          opened-next c.args.codec.now c.loop-place-2.self _ c.args.nid (27 + c.loop-place-2.place) (InRight c.loop-place-2.place) Select (omega arith) (right_at c.loop-place-2.place Select (omega arith)) c.in_ok-open-3.ensures.value c.loop-place-2.invariant.opened
          ∙ ap (λ n. opened_so_far c.args.codec.now (keys_up_to c.args.nid n)) more;
      each = λ h. c.in_ok-open-3.ensures.each (c.loop-place-2.invariant.each h);
    }

pub returns-clause-value : goal.returns-clause-value
returns-clause-value c =
    c.loop-place-2.invariant.opened
    ∙ ap (opened_so_far c.args.codec.now) (keys_up_to-all c.args.nid (27 + c.loop-place-2.place) (omega arith))
