use Rattle.std.proofs.Common.{◌≡◌, ℕ, set, get_or, ap, ◌∙◌, arith}
use Rattle.std.proofs.lemmas.List.{get_or_default}
use Rattle.std.proofs.lemmas.List.Edits.{map_over_more}
use Rattle.codec_sound.specs.declared.signals.Signal.{Signal}
use Rattle.heard_lists.specs.Pieces.{PinSignals, with_signal, signalled}
use Rattle.heard_lists.proofs.item_lists.add_signals.Goals as goal

pub loop-list-preserved : goal.loop-list-preserved
loop-list-preserved g c =
    let signal : ℕ → ℕ → Signal = g.S.Sounds.signal_of c.args.sounds.now in
    let pin : PinSignals = get_or c.loop-list.lists c.loop-list.list-index c.list-item.result in
    let heard : c.signal-signal.result ≡ signal pin.codec pin.pin =
    c.signal-signal.ensures ∙ (ap (λ (address : ℕ). signal address c.pin.result) c.codec.ensures ∙ ap (signal pin.codec) c.pin.ensures) in
    ap (λ (l : PinSignals). set c.loop-list.lists c.loop-list.list-index l)
    (c.push.ensures ∙ ap (λ (s : Signal). with_signal s pin) heard)
    ∙ map_over_more (signalled signal) c.args.lists.now c.loop-list.lists c.loop-list.list-index
    pin (omega arith) c.loop-list.invariant (get_or_default c.loop-list.lists c.loop-list.list-index _ _ (omega arith))
