use Rattle.std.proofs.Common.{◌≡◌, ℕ, ◌<◌, ◌%◌, Bool, true, false, not, nat_eq, if◌then◌else◌, refl, sym, ap, ◌∙◌, subst, arith}
use Rattle.std.proofs.Math.Nat.{mod-lt}
use Rattle.stream_format.specs.declared.format.Rate.{Rate}
use Rattle.stream_format.specs.declared.format.Rate.TheVariants.{R8, R16, R44, R48, R96, R192}
use Rattle.stream_format.specs.Cadence.{blocks_of, cadence_44}
use Rattle.stream_format.proofs.Cycles.{one_of_3, one_of_6, due-is, gaps}
use Rattle.std.specs.List.{list_any}
use Rattle.stream_format.proofs.format.Format.blocks.Goals as goal

at_rate : (rate known : Rate) (frame blocks : ℕ) → rate ≡ known → blocks ≡ blocks_of known frame → blocks ≡ blocks_of rate frame
at_rate rate known frame blocks is h = subst (λ r. blocks ≡ blocks_of r frame) (sym is) h

constant : (frame : ℕ) → frame % 1 ≡ 0
constant frame = let small : frame % 1 < 1 = mod-lt frame (omega arith) in omega (arith, small)

at_8 : (frame : ℕ) → (if nat_eq (frame % 6) 0 then 1 else 0) ≡ blocks_of R8 frame
unfolding blocks_of
at_8 frame = one_of_6 (frame % 6) (mod-lt frame (omega arith))

at_16 : (frame : ℕ) → (if nat_eq (frame % 3) 0 then 1 else 0) ≡ blocks_of R16 frame
unfolding blocks_of
at_16 frame = one_of_3 (frame % 3) (mod-lt frame (omega arith))

at_44 : (frame : ℕ) → (if list_any (λ y. nat_eq y (frame % 160)) gaps then 0 else 1) ≡ blocks_of R44 frame
unfolding blocks_of cadence_44
at_44 frame = due-is (frame % 160) (mod-lt frame (omega arith))

turned : (found : Bool) → let once : ℕ = if not found then 1 else 0 in once ≡ (if found then 0 else 1)
turned true = refl
turned false = refl

at_48 : (frame : ℕ) → 1 ≡ blocks_of R48 frame
unfolding blocks_of
at_48 frame = rw (constant frame) refl

at_96 : (frame : ℕ) → 2 ≡ blocks_of R96 frame
unfolding blocks_of
at_96 frame = rw (constant frame) refl

at_192 : (frame : ℕ) → 4 ≡ blocks_of R192 frame
unfolding blocks_of
at_192 frame = rw (constant frame) refl

pub returns-in-R8 : goal.returns-in-R8
returns-in-R8 c = at_rate _ R8 _ _ c.in-R8.is (c.one_if.ensures ∙ at_8 _)

pub returns-in-R16 : goal.returns-in-R16
returns-in-R16 c = at_rate _ R16 _ _ c.in-R16.is (c.one_if-in-R16.ensures ∙ at_16 _)

pub returns-in-R44 : goal.returns-in-R44
returns-in-R44 c = at_rate _ R44 _ _ c.in-R44.is (c.one_if-in-R44.ensures ∙ (turned _ ∙ (ap (λ found. if found then 0 else 1) c.contains.ensures.value ∙ at_44 _)))

pub returns-in-R48 : goal.returns-in-R48
returns-in-R48 c = at_rate _ R48 _ _ c.in-R48.is (at_48 _)

pub returns-in-R96 : goal.returns-in-R96
returns-in-R96 c = at_rate _ R96 _ _ c.in-R96.is (at_96 _)

pub returns-in-R192 : goal.returns-in-R192
returns-in-R192 c = at_rate _ R192 _ _ c.in-R192.is (at_192 _)
