use Rattle.std.proofs.Common.{◌≡◌, ◌+◌, ◌-◌, ℕ, List, length, map, get_or, take, [], ◌∷◌, ◌++◌, sym, subst, ◌∙◌, arith}
use Rattle.std.proofs.lemmas.List.{take_more, take_all}
use Rattle.codec_sound.specs.declared.signals.Signal.{Signal}
use Rattle.heard_lists.specs.declared.pieces.Piece.{Piece}
use Rattle.heard_lists.specs.Pieces.{PinSignals, TookIn, GoesOn, signalled}
use Rattle.heard_lists.proofs.Taken.{took-begun, took-longer}
use Rattle.heard_lists.proofs.item_lists.take_in.Goals as goal

pub returns-clause-took : goal.returns-clause-took
returns-clause-took g c =
    subst (λ (pins : List PinSignals). TookIn (g.S.Sounds.signal_of c.args.sounds.now) c.args.format c.args.blocks c.args.holes c.args.lists.now pins c.args.pieces.now.items c.push_within_capacity.new.items.items)
    (sym c.add_signals.ensures)
    (subst (TookIn (g.S.Sounds.signal_of c.args.sounds.now) c.args.format c.args.blocks c.args.holes c.args.lists.now (map (signalled (g.S.Sounds.signal_of c.args.sounds.now)) c.args.lists.now) c.args.pieces.now.items)
    (sym c.push_within_capacity.ensures.items)
    (took-begun (g.S.Sounds.signal_of c.args.sounds.now) c.args.format c.args.blocks c.args.lists.now c.args.pieces.now.items c.args.holes c.requires.pairs))

pub returns-then-goes_on-clause-took : goal.returns-then-goes_on-clause-took
returns-then-goes_on-clause-took g c =
    let signal : ℕ → ℕ → Signal = g.S.Sounds.signal_of c.args.sounds.now in
    let pieces : List Piece = c.args.pieces.now.items in
    let pins : List PinSignals = c.args.lists.now in
    let on : GoesOn pins pieces c.args.holes signal c.args.format =
    subst (λ (p : List Piece). GoesOn pins p c.args.holes signal c.args.format) c.as_slice.ensures.value (c.goes_on.ensures c.if-goes_on.true) in
    let none : c.args.holes ≡ 0 = on.whole in
    let some = on.some in
    let n : ℕ = length pieces - 1 in
    let end : n + 1 ≡ length pieces = omega (arith, some) in
    let d : Piece = record { holes = 0; format = c.args.format; blocks = 0 } in
    let split : pieces ≡ take n pieces ++ get_or pieces n d ∷ [] =
    sym (take_all (n + 1) pieces (omega (arith, end))) ∙ take_more pieces n d (omega (arith, some)) in
    subst (λ (h : ℕ). TookIn signal c.args.format c.args.blocks h pins pins pieces c.lengthen.new.pieces.items) (sym none)
    (subst (TookIn signal c.args.format c.args.blocks 0 pins pins pieces) (sym (c.lengthen.ensures.items (take n pieces) (get_or pieces n d) split))
    (took-longer signal c.args.format c.args.blocks pins pieces (take n pieces) (get_or pieces n d) split
    (subst (λ (h : ℕ). GoesOn pins pieces h signal c.args.format) none on)))
