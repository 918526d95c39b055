-- A list of items as stretches of one kind, each as long as can be, and the bytes of its sound. This project's own.
use Rattle.std.specs.Prelude.{◌≡◌, ℕ, ℤ, ◌+◌, ◌==◌, Bool, true, false, List, [], ◌∷◌, ◌++◌, if◌then◌else◌}
use Rattle.std.specs.List.{flat_map}
use Rattle.std.specs.Int.{bytes_low_first, cast_unsigned, w32}
use Rattle.stream_format.specs.declared.format.Bits.{Bits}
use Rattle.stream_format.specs.Cadence.{container_bytes}
use Rattle.heard_frames.specs.declared.heard.Heard.{Heard}
use Rattle.heard_frames.specs.declared.heard.Heard.TheVariants as heard
use Rattle.codec_sound.specs.declared.signals.Signal.{Signal}
use Rattle.codec_sound.specs.declared.signals.Signal.TheVariants as signal
use Rattle.heard_lists.specs.declared.stretches.Kind.{Kind}
use Rattle.heard_lists.specs.declared.stretches.Kind.TheVariants as kind
use Rattle.heard_lists.specs.declared.stretches.Stretch.{Stretch}

-- ---- stretches

-- the kind of an item
abbrev pub kind_of : Heard → Kind
kind_of (heard.Sound left right) = kind.Sound
kind_of heard.Quiet = kind.Quiet
kind_of heard.Hole = kind.Hole
kind_of heard.Altered = kind.Altered

-- two kinds are the same
abbrev pub is_same : Kind → Kind → Bool
is_same kind.Sound kind.Sound = true
is_same kind.Quiet kind.Quiet = true
is_same kind.Hole kind.Hole = true
is_same kind.Altered kind.Altered = true
is_same _ _ = false

-- an item of a kind before stretches: it makes the first of them longer where that is of its kind
abbrev pub with_first : Kind → List Stretch → List Stretch
with_first kind [] = record { kind = kind; items = 1 } ∷ []
with_first kind (next ∷ more) =
    if is_same kind next.kind then record next { items = next.items + 1 } ∷ more
    else record { kind = kind; items = 1 } ∷ next ∷ more

-- the stretches of a list
unfoldable pub stretches_of : List Heard → List Stretch
stretches_of [] = []
stretches_of (item ∷ items) = with_first (kind_of item) (stretches_of items)

-- ---- sound

-- a sample: the bytes of its container, in two's complement and lowest byte first
abbrev pub sample_bytes : Bits → ℤ → List ℕ
sample_bytes bits sample = bytes_low_first 0 (container_bytes bits) (cast_unsigned w32 sample)

-- an item's samples: left, then right
abbrev pub sound_bytes : Bits → Heard → List ℕ
sound_bytes bits (heard.Sound left right) = sample_bytes bits left ++ sample_bytes bits right
sound_bytes bits heard.Quiet = []
sound_bytes bits heard.Hole = []
sound_bytes bits heard.Altered = []

-- ---- what private functions promise one another

-- the kind of what a pin with this signal hears of blocks
abbrev pub kind_heard : Signal → Kind
kind_heard signal.Silence = kind.Quiet
kind_heard (signal.Pair pair) = kind.Sound
kind_heard signal.Altered = kind.Altered

-- a stretch behind others, of which the last gets longer where it is of the same kind
abbrev pub with_last : Stretch → List Stretch → List Stretch
with_last more [] = more ∷ []
with_last more (last ∷ []) =
    if is_same last.kind more.kind then record last { items = last.items + more.items } ∷ [] else last ∷ more ∷ []
with_last more (first ∷ next ∷ stretches) = first ∷ with_last more (next ∷ stretches)

-- so many items of a kind behind stretches
abbrev pub stretched : Kind → ℕ → List Stretch → List Stretch
stretched kind items stretches =
    if items == 0 then stretches else with_last (record { kind = kind; items = items }) stretches

-- the front of a list was put as these stretches and bytes of its sound, and this is left of it
pub record PutSoFar (bits : Bits) (whole left : List Heard) (stretches : List Stretch) (sound : List ℕ) : Type 0 where
  pub front : List Heard
  pub cut : front ++ left ≡ whole
  pub stretches_are : stretches ≡ stretches_of front
  pub sound_is : sound ≡ flat_map (sound_bytes bits) front
