-- Settings that differ in the controls of pins alone. Pin control: High Definition Audio 1.0a, 7.3.3.13. The rest is
-- this project's own.
use Rattle.std.specs.Prelude.{◌≡◌, ◌≢◌, ℕ, Bool, true, Option, None, Some}
use Rattle.codec_graph.specs.declared.controls.Control.{Control}
use Rattle.codec_graph.specs.declared.controls.Control.TheVariants.{Pin}
use Rattle.codec_graph.specs.Settings.{Entries, setting_of}
use Rattle.verb_codes.specs.Words.{has_bit}

-- all other controls of all nodes are set to the same
pub record AgreeBesidePins (old new : Entries) : Type 0 where
  pub same : (nid : ℕ) (control : Control) → control ≢ Pin → setting_of new nid control ≡ setting_of old nid control

-- out enable, bit 6 of a pin's control
abbrev pub is_enabled : Entries → (pin : ℕ) → Bool
is_enabled settings pin = has_bit (setting_of settings pin Pin) 6

-- whether a pin is on after the last number that was put into its control, and before any it is
abbrev pub is_on : Option ℕ → Bool
is_on None = true
is_on (Some control) = has_bit control 6
