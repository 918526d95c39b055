-- What words put into the control of a pin. Pin control: High Definition Audio 1.0a, 7.3.3.13. The rest is this
-- project's own.
use Rattle.std.specs.Prelude.{ℕ, List, [], ◌∷◌, Option, None, Some, bit_and}
use Rattle.codec_graph.specs.VerbMeaning.{pin_bits}
use Rattle.verb_codes.specs.Verbs.{reading_of}
use Rattle.heard_frames.specs.Marks.{control_for}

-- a pin's control after a number was put there, of which the bits of the control are kept, or none
abbrev pub control_with : Option ℕ → (before : ℕ) → ℕ
control_with None before = before
control_with (Some control) before = bit_and control pin_bits

-- the later of two numbers, if there are two
abbrev pub later_of : Option ℕ → Option ℕ → Option ℕ
later_of first None = first
later_of first (Some control) = Some control

-- the number that the last of some words puts that puts any
abbrev pub last_control : (pin : ℕ) → List ℕ → Option ℕ
last_control pin [] = None
last_control pin (word ∷ words) = later_of (control_for pin (reading_of word)) (last_control pin words)
