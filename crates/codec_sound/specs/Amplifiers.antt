-- What a signal is after an amplifier. Amplifiers and the words that set them: High Definition Audio 1.0a, 7.3.3.7 and
-- 7.3.4.10. That a gain other than 0 dB is not followed but marked is this project's own.
use Rattle.std.specs.Prelude.{ℕ, Bool, ◌==◌, ◌&&◌, not, nat_lt, if◌then◌else◌}
use Rattle.codec_graph.specs.declared.raw.RawNode.{RawNode}
use Rattle.codec_graph.specs.declared.raw.RawCodec.{RawCodec}
use Rattle.codec_graph.specs.declared.controls.Control.TheVariants.{OutLeft, OutRight, InLeft, InRight}
use Rattle.verb_codes.specs.Words.{has_bit, bits_of}
use Rattle.codec_graph.specs.Widget.{most_amplified, has_input_amplifier, has_output_amplifier, input_amplifier_word}
use Rattle.codec_graph.specs.Widget.{output_amplifier_word, amplifier_offset}
use Rattle.codec_graph.specs.Settings.{Entries, setting_of}
use Rattle.codec_sound.specs.declared.signals.Signal.{Signal}
use Rattle.codec_sound.specs.declared.signals.Signal.TheVariants.{Silence, Pair, Altered}

-- a signal that something changes: where there is one it is altered
abbrev pub changed : Signal → Signal
changed Silence = Silence
changed (Pair pair) = Altered
changed Altered = Altered

abbrev pub changed_if : Bool → Signal → Signal
changed_if changes signal = if changes then changed signal else signal

-- a side's setting: bit 7 mutes it, bits 6:0 are its gain
abbrev pub is_muted : ℕ → Bool
is_muted setting = has_bit setting 7

-- the side is not muted, and its gain is the amplifier's 0 dB step
abbrev pub is_neutral : (offset setting : ℕ) → Bool
is_neutral offset setting = not (is_muted setting) && (bits_of setting 0 7 == offset)

-- a signal after an amplifier with this 0 dB step, whose sides are set so: nothing passes two muted sides, and two
-- sides at 0 dB change nothing
abbrev pub amplified : (offset left right : ℕ) → Signal → Signal
amplified offset left right signal =
    if is_muted left && is_muted right
    then Silence
    else changed_if (not (is_neutral offset left && is_neutral offset right)) signal

-- a signal after the widget's output amplifier, if it has one
abbrev pub after_output : RawCodec → Entries → ℕ → RawNode → Signal → Signal
after_output codec settings nid node signal =
    if has_output_amplifier node
    then amplified (amplifier_offset (output_amplifier_word codec node)) (setting_of settings nid OutLeft)
    (setting_of settings nid OutRight) signal
    else signal

-- a signal after the amplifier of one input: the sixteen first ones have one each
abbrev pub after_amplified_input : RawCodec → Entries → ℕ → RawNode → ℕ → Signal → Signal
after_amplified_input codec settings nid node place signal =
    if nat_lt place most_amplified
    then amplified (amplifier_offset (input_amplifier_word codec node)) (setting_of settings nid (InLeft place))
    (setting_of settings nid (InRight place)) signal
    else changed signal

-- a signal after the widget's input amplifier at this place of the connection list, if the widget has input amplifiers
abbrev pub after_input : RawCodec → Entries → ℕ → RawNode → ℕ → Signal → Signal
after_input codec settings nid node place signal =
    if has_input_amplifier node then after_amplified_input codec settings nid node place signal else signal
