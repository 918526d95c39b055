-- What the store of a run of bytes came to: bytes that go to one buffer, one after the other. The mirror of `Bytes`.
use Rattle.std.specs.Prelude.{◌≡◌, ◌≤◌, true, false, ℕ}
use Rattle.world_streams.specs.Lists.{is_good}
use Rattle.world_streams.specs.Output.{next_of}
use Rattle.world_streams.specs.Input.{Emptying, holds_byte, some_fills, some_jams}
use Rattle.stream_fetch.specs.declared.fetch.storing.Portion.{Portion}
use Rattle.stream_fetch.specs.declared.fetch.storing.Portion.TheVariants.{Empty, Jammed, Went}

-- it says whether a byte was held, whether the buffer can be used, and whether the bytes end one with IOC
abbrev pub IsPortion : (base last : ℕ) → Emptying → Portion → Type 0
IsPortion base last held Empty = holds_byte held.state ≡ false
IsPortion base last held Jammed = (holds_byte held.state ≡ true)
    × (is_good held.memory (next_of held.memory base held.state) ≡ false)
IsPortion base last held (Went count ends) = (some_fills count base last held ≡ ends)
    × (some_jams count base last held ≡ false)

-- how many bytes went
abbrev pub gone_in : Portion → ℕ
gone_in Empty = 0
gone_in Jammed = 0
gone_in (Went count ends) = count

-- where some went, at most so many
abbrev pub IsWithin : ℕ → Portion → Type 0
IsWithin most Empty = Unit {0}
IsWithin most Jammed = Unit {0}
IsWithin most (Went count ends) = (1 ≤ count) × (count ≤ most)
