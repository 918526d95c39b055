use Rattle.std.proofs.Common.{◌≡◌, ◌≤◌, ◌+◌, ◌/◌, ◌%◌, ◌^◌, ℕ, Bool, true, false, if◌then◌else◌, arith}
use Rattle.world_rings.proofs.laws.sources_are_read_back.Goals as goal

codec_by : (codec : ℕ) (unsolicited : Bool) → codec ≤ 14 → (codec + (if unsolicited then 16 else 0)) % 2 ^ 4 ≡ codec
codec_by codec true small = omega arith
codec_by codec false small = omega arith

mark_by : (codec : ℕ) (unsolicited : Bool) → codec ≤ 14 → (codec + (if unsolicited then 16 else 0)) / 2 ^ 4 ≡ (if unsolicited then 1 else 0)
mark_by codec true small = omega arith
mark_by codec false small = omega arith

pub returns-clause-codec : goal.returns-clause-codec
returns-clause-codec c = λ response small. codec_by response.codec response.unsolicited small

pub returns-clause-mark : goal.returns-clause-mark
returns-clause-mark c = λ response small. mark_by response.codec response.unsolicited small
