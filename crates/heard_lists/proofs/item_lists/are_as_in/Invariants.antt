use Rattle.std.proofs.Common.{◌≡◌, ◌<◌, ℕ, get_or}
use Rattle.codec_sound.specs.declared.signals.Signal.TheVariants.{Silence}
use Rattle.heard_lists.specs.Pieces.{PinSignals}
use Rattle.heard_lists.proofs.item_lists.are_as_in.Given as goal

abbrev pub invariant-loop-list : goal.invariant-loop-list
invariant-loop-list g l =
    (k : ℕ) (d : PinSignals) → k < l.list-index
    → get_or (get_or l.lists k d).signals l.piece Silence ≡ g.S.Sounds.signal_of l.sounds (get_or l.lists k d).codec (get_or l.lists k d).pin
