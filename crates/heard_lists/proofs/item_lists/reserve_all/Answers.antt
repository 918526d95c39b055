use Rattle.std.proofs.Common.{◌≡◌, ◌≤◌, get_or, sym, subst, ap, ◌∙◌, arith}
use Rattle.std.proofs.Math.Seq.{map-set_same}
use Rattle.std.proofs.lemmas.List.{get_or_default}
use Rattle.heard_lists.specs.Pieces.{PinSignals, without_room}
use Rattle.heard_lists.proofs.Rooms.{room-more, room-kept}
use Rattle.heard_lists.proofs.item_lists.reserve_all.Goals as goal

pub loop-list-preserved : goal.loop-list-preserved
loop-list-preserved c =
    let reserved = c.in_ok-reserve.ensures.ok in
    let pin : PinSignals = get_or c.loop-list.lists c.loop-list.list-index c.list-item.result in
    let same : get_or c.loop-list.lists c.loop-list.list-index c.reserve.new.self ≡ pin =
    get_or_default c.loop-list.lists c.loop-list.list-index c.reserve.new.self c.list-item.result (omega arith) in (
      map-set_same without_room c.loop-list.lists c.loop-list.list-index c.reserve.new.self c.list-item.result (ap without_room reserved)
          ∙ c.loop-list.invariant.0,
      room-more c.loop-list.lists c.loop-list.list-index c.args.signals c.reserve.new.self (omega arith) (rw reserved omega arith) c.loop-list.invariant.1,
      λ more holds. room-kept c.loop-list.lists c.loop-list.list-index more c.reserve.new.self (omega arith)
          (subst (λ (l : PinSignals). l.room ≤ c.reserve.new.self.room) (sym same) (subst (λ (l : PinSignals). pin.room ≤ l.room) (sym reserved) (omega arith)))
          (c.loop-list.invariant.2 more holds),
    )

pub returns-in_err-reserve-clause-kept : goal.returns-in_err-reserve-clause-kept
returns-in_err-reserve-clause-kept c more holds =
    let unchanged = c.in_err-reserve.ensures.err in
    let pin : PinSignals = get_or c.loop-list.lists c.loop-list.list-index c.list-item.result in
    let same : get_or c.loop-list.lists c.loop-list.list-index c.reserve.new.self ≡ pin =
    get_or_default c.loop-list.lists c.loop-list.list-index c.reserve.new.self c.list-item.result (omega arith) in
    room-kept c.loop-list.lists c.loop-list.list-index more c.reserve.new.self (omega arith)
    (subst (λ (l : PinSignals). l.room ≤ c.reserve.new.self.room) (sym same) (subst (λ (l : PinSignals). pin.room ≤ l.room) (sym unchanged) (omega arith)))
    (c.loop-list.invariant.2 more holds)

pub returns-clause-kept : goal.returns-clause-kept
returns-clause-kept c = c.loop-list.invariant.2
