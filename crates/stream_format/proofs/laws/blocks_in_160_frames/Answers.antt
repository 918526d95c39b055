use Rattle.std.proofs.Common.{◌≡◌, ℕ, ◌+◌, slice_index, refl, ap, ◌∙◌}
use Rattle.std.specs.List.{range_with_len}
use Rattle.std.proofs.lemmas.List.Sums.{sum-map}
use Rattle.std.proofs.Math.Nat.{add-mod_right}
use Rattle.stream_format.specs.declared.format.Rate.TheVariants.{R44}
use Rattle.stream_format.specs.Cadence.{blocks_of, cadence_44}
use Rattle.stream_format.proofs.Cycles.{over, over-turns}
use Rattle.stream_format.proofs.laws.blocks_in_160_frames.Goals as goal

again : (k : ℕ) → blocks_of R44 (k + 160) ≡ blocks_of R44 k
unfolding blocks_of cadence_44
again k = ap (slice_index cadence_44) (add-mod_right k 160)

first_160 : over (blocks_of R44) 0 160 ≡ 147
unfolding blocks_of cadence_44
first_160 = refl

pub returns : goal.returns
returns c from = sum-map (blocks_of R44) (range_with_len from 160) ∙ (over-turns (blocks_of R44) 160 again from ∙ first_160)
