-- What a write keeps of the marks of blocks that came.
use Rattle.std.proofs.Common.{◌≡◌, ◌==◌, ℕ, min, Bool, true, false, List, [], ◌∷◌, length, if◌then◌else◌, refl, sym, ap, ◌∙◌, arith}
use Rattle.std.proofs.lemmas.Bool.{eqb-true}
use Rattle.hda_registers.specs.declared.shapes.Width.{Width}
use Rattle.hda_registers.specs.Access.{effects_of, rose, written}
use Rattle.hda_world.specs.Worlds.{World}
use Rattle.hda_world.specs.Events.{after_write, counted_anew_if, reset_if, registers_written, settled_came}
use Rattle.device_core.specs.Captures.{most_came}

-- a write keeps what came where RUN does not rise, and drops it where it does
write_came : (world : World) (at : ℕ) (width : Width) (value : ℕ) → (after_write at width value world).came ≡ settled_came world.registers.input (written world.registers at width value).input world.came
write_came world at width value = by_effects (effects_of world.registers at width value).reset (effects_of world.registers at width value).left_reset
  where
    by_effects : (reset left : Bool) → (counted_anew_if left (reset_if reset (registers_written (written world.registers at width value) world))).came
        ≡ settled_came world.registers.input (written world.registers at width value).input world.came
    by_effects true true = refl
    by_effects true false = refl
    by_effects false true = refl
    by_effects false false = refl

no_items : (marks : List Bool) → length marks ≡ 0 → marks ≡ []
no_items [] none = refl
no_items (mark ∷ marks) none = absurd (omega (arith, none))

counted_none : (marks : List Bool) (count : ℕ) → count ≡ min (length marks) most_came → count ≡ 0 → marks ≡ []
counted_none marks count is none = no_items marks (omega (arith, is, none))

kept_marks : (zero : Bool) (marks : List Bool) → (zero ≡ true → marks ≡ []) → (if zero then [] else marks) ≡ marks
kept_marks true marks none = sym (none refl)
kept_marks false marks none = refl

settled_marks : (rises : Bool) (marks left : List Bool) (count : ℕ) → count ≡ min (length (if rises then [] else marks)) most_came → left ≡ (if count == 0 then [] else marks)
    → (if rises then [] else marks) ≡ left
settled_marks true marks left count is kept =
    let none : count ≡ 0 = is in
    sym (kept ∙ ap (λ (n : ℕ). if n == 0 then [] else marks) none)
settled_marks false marks left count is kept =
    sym (kept ∙ kept_marks (count == 0) marks (λ zero. counted_none marks count is (eqb-true count 0 zero)))

pub marks_written : (world : World) (at : ℕ) (width : Width) (value : ℕ) (marks left : List Bool) (count : ℕ) → world.came ≡ marks
    → count ≡ min (length (after_write at width value world).came) most_came → left ≡ (if count == 0 then [] else marks)
    → (after_write at width value world).came ≡ left
marks_written world at width value marks left count is counts kept =
    let rises : Bool = rose world.registers.input (written world.registers at width value).input in
    let came : (after_write at width value world).came ≡ (if rises then [] else marks) = write_came world at width value ∙ ap (λ (front : List Bool). if rises then [] else front) is in
    came ∙ settled_marks rises marks left count (counts ∙ ap (λ (list : List Bool). min (length list) most_came) came) kept
