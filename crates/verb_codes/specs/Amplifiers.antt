-- The payloads of the amplifier verbs. High Definition Audio 1.0a, 7.3.3.7.
use Rattle.std.specs.Prelude.{◌<◌, ◌+◌, ◌*◌, ◌^◌, ℕ, Bool, if◌then◌else◌}
use Rattle.verb_codes.specs.declared.amplifiers.AmpSetting.{AmpSetting}
use Rattle.verb_codes.specs.declared.amplifiers.AmpSide.{AmpSide}
use Rattle.verb_codes.specs.Words.{bits_of, has_bit}

-- what a bit is worth in a payload
abbrev pub worth : Bool → ℕ → ℕ
worth set at = if set then 2 ^ at else 0

-- a payload of SetAmp: 15 output, 14 input, 13 left, 12 right, 11:8 the input's place, 7 mute, 6:0 gain
abbrev pub setting_of : ℕ → AmpSetting
setting_of payload = record {
  output = has_bit payload 15;
  input = has_bit payload 14;
  left = has_bit payload 13;
  right = has_bit payload 12;
  place = bits_of payload 8 4;
  mute = has_bit payload 7;
  gain = bits_of payload 0 7;
}

abbrev pub setting_payload : AmpSetting → ℕ
setting_payload s =
    worth s.output 15 + worth s.input 14 + worth s.left 13 + worth s.right 12 + s.place * 2 ^ 8 + worth s.mute
    7 + s.gain

-- the place has four bits and the gain seven
pub record IsSettingInRange (s : AmpSetting) : Type 0 where
  pub place : s.place < 2 ^ 4
  pub gain : s.gain < 2 ^ 7

-- a payload of GetAmp: 15 output, else input; 13 left, else right; 3:0 the input's place
abbrev pub side_of : ℕ → AmpSide
side_of payload = record { output = has_bit payload 15; left = has_bit payload 13; place = bits_of payload 0 4 }

abbrev pub side_payload : AmpSide → ℕ
side_payload s = worth s.output 15 + worth s.left 13 + s.place
