-- One link frame more.
use Rattle.std.proofs.Common.{◌≡◌, ℕ, suc, fold, ap}
use Rattle.stream_format.specs.declared.format.Format.{Format}
use Rattle.run_picture.specs.declared.meter.Meter.{Meter}
use Rattle.run_picture.specs.Meters.{passed}
use Rattle.run_picture.specs.Moments.{frame_moments, frames_passed}

-- the frames that are left begin with the next one
pub meter_left : (format : Format) (left rest : ℕ) (meter : Meter) → left ≡ suc rest
    → frames_passed format left meter ≡ frames_passed format rest (passed format meter)
meter_left format left rest meter e = ap (λ n. frames_passed format n meter) e

pub notes_left : {N : Type 0} (noted : N → Meter → N) (format : Format) (left rest : ℕ) (notes : N) (meter : Meter)
    → left ≡ suc rest
    → fold noted notes (frame_moments format left meter)
    ≡ fold noted (noted notes (passed format meter)) (frame_moments format rest (passed format meter))
notes_left noted format left rest notes meter e = ap (λ n. fold noted notes (frame_moments format n meter)) e
