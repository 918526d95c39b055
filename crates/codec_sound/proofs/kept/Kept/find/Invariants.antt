use Rattle.std.proofs.Common.{◌≡◌, ℕ, ◌<◌, get_or}
use Rattle.codec_sound.specs.Keeping.{kept_pins}
use Rattle.codec_sound.proofs.kept.Kept.find.Given as goal

-- none of the pins so far is the one that is asked for
abbrev pub invariant-loop-kept : goal.invariant-loop-kept
invariant-loop-kept l = (k : ℕ) → k < l.kept-index → get_or (kept_pins l.kept-items) k l.pin ≡ l.pin → ⊥
