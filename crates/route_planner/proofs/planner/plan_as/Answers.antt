use Rattle.std.proofs.Common.{ℕ, List, get_or, subst, sym}
use Rattle.codec_graph.specs.declared.raw.RawCodec.{RawCodec}
use Rattle.codec_graph.specs.Cycles.{HasSoundTables}
use Rattle.route_planner.specs.declared.routes.PinPlan.{PinPlan}
use Rattle.codec_graph.specs.Order.{IsOrderAs}
use Rattle.route_planner.specs.Found.{IsEntry}
use Rattle.route_planner.specs.Plans.{IsPlanAs}
use Rattle.route_planner.proofs.OneWay.{no_blocked}
use Rattle.route_planner.proofs.OnlyPlan.{only_plan, admissible_routes}
use Rattle.route_planner.proofs.Bounds.{IsBounded-from_sound}
use Rattle.route_planner.proofs.Entries.{AreEntries, AreEntries-none, AreEntries-more, IsPlan-all}
use Rattle.route_planner.proofs.planner.plan_as.Goals as goal

pub pin_plan-requires : goal.pin_plan-requires
pin_plan-requires c = IsBounded-from_sound c.raw-codec.result.now (subst (λ (codec : RawCodec). HasSoundTables codec) (sym c.raw-codec.ensures.value) c.raw-codec.ensures.well_formed.tables)

pub loop-pin-init : goal.loop-pin-init
loop-pin-init c = rw c.new-pins.ensures (AreEntries-none c.args.kind c.raw-codec.result.now c.args.format c.deref-pin-items.result.now)

pub loop-pin-preserved : goal.loop-pin-preserved
loop-pin-preserved c =
    let entry = subst (λ (earlier : List PinPlan). IsEntry c.args.kind c.raw-codec.result.now c.args.format earlier (get_or c.deref-pin-items.result.now c.loop-pin.pin-index 0) c.in_ok-pin_plan.field-0) c.as_slice.ensures c.in_ok-pin_plan.ensures in
    rw c.in_ok-push.ensures.ok (AreEntries-more c.args.kind c.raw-codec.result.now c.args.format c.deref-pin-items.result.now c.loop-pin.pin-index c.loop-pin.pins c.in_ok-pin_plan.field-0 c.loop-pin-test.true c.loop-pin.invariant entry)

right : (c : goal.After-drop-ordered-2) → IsPlanAs c.args.kind c.args.graph.now c.args.format record { pins = c.loop-pin.pins }
right c =
    let order : IsOrderAs c.args.kind c.args.graph.now c.deref-pin-items.result.now = subst (λ (pins : List ℕ). IsOrderAs c.args.kind c.args.graph.now pins) (sym c.deref-pin-items.ensures.value) c.in_ok-ordered.ensures in
    let are : AreEntries c.args.kind c.args.graph.now c.args.format c.deref-pin-items.result.now c.loop-pin.pin-index c.loop-pin.pins = subst (λ (codec : RawCodec). AreEntries c.args.kind codec c.args.format c.deref-pin-items.result.now c.loop-pin.pin-index c.loop-pin.pins) c.raw-codec.ensures.value c.loop-pin.invariant in
    IsPlan-all c.args.kind c.args.graph.now c.args.format c.deref-pin-items.result.now c.loop-pin.pin-index c.loop-pin.pins order c.loop-pin-test.false are

pub returns-clause-plan : goal.returns-clause-plan
returns-clause-plan c = right c

pub returns-clause-admissible : goal.returns-clause-admissible
returns-clause-admissible c = admissible_routes c.args.kind c.args.graph.now c.args.format record { pins = c.loop-pin.pins } (right c)

pub returns-clause-only : goal.returns-clause-only
returns-clause-only c = only_plan c.args.kind c.args.graph.now c.args.format record { pins = c.loop-pin.pins } (right c)

pub returns-clause-unblocked : goal.returns-clause-unblocked
returns-clause-unblocked c = λ two. no_blocked c.args.kind c.args.graph.now c.args.format record { pins = c.loop-pin.pins } (IsBounded-from_sound c.args.graph.now c.raw-codec.ensures.well_formed.tables) two (right c)
