-- Which pins of which codecs are switched. This project's own.
use Rattle.std.specs.Prelude.{ℕ, ◌==◌, ◌&&◌, Bool, List}
use Rattle.std.specs.List.{list_any}
use Rattle.codec_graph.specs.declared.raw.RawCodec.{RawCodec}
use Rattle.route_planner.specs.declared.routes.Plan.{Plan}
use Rattle.jack_rules.specs.declared.pins.SpeakerPin.{SpeakerPin}
use Rattle.jack_rules.specs.JackPins.{speakers_of}

abbrev pub is_pin_at : (address pin : ℕ) → SpeakerPin → Bool
is_pin_at address pin speaker = speaker.codec == address && speaker.pin == pin

-- whether a pin of the codec at an address is one of the speakers of codecs with these graphs and plans
abbrev pub is_switched : List RawCodec → List Plan → (address pin : ℕ) → Bool
is_switched graphs plans address pin = list_any (is_pin_at address pin) (speakers_of graphs plans)
