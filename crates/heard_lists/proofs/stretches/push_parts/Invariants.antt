use Rattle.std.proofs.Common.{◌≡◌, ◌++◌}
use Rattle.std.specs.List.{flat_map}
use Rattle.stream_format.specs.Layouts.{layout}
use Rattle.codec_sound.specs.declared.signals.Signal.TheVariants.{Pair}
use Rattle.heard_lists.specs.Listings.{items_before}
use Rattle.heard_lists.specs.Stretches.{sound_bytes}
use Rattle.heard_lists.proofs.stretches.push_parts.Given as goal

-- the pair's bytes of the blocks so far were appended
abbrev pub invariant-loop-place : goal.invariant-loop-place
invariant-loop-place l =
    l.sound.items ≡ l.initial.sound.items ++ flat_map (sound_bytes l.fn.format.bits)
    (items_before (layout l.fn.format) (Pair l.pair) l.bytes l.place)
