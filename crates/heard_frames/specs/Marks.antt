-- At which items of its heard list a pin was switched off and on: a mark for each command that set its control while the
-- output stream ran. This project's own, over the pin control of High Definition Audio 1.0a, 7.3.3.13.
use Rattle.std.specs.Prelude.{ℕ, ◌==◌, ◌&&◌, Bool, true, false, not, nat_le, List, [], ◌∷◌, length, filter, take, fold}
use Rattle.std.specs.Prelude.{Option, Some, None, if◌then◌else◌}
use Rattle.std.specs.List.{flat_map}
use Rattle.verb_codes.specs.declared.verbs.Command.{Command}
use Rattle.verb_codes.specs.declared.verbs.Verb.{Verb}
use Rattle.verb_codes.specs.declared.verbs.Verb.TheVariants.{SetPin}
use Rattle.verb_codes.specs.Verbs.{reading_of}
use Rattle.verb_codes.specs.Words.{has_bit}
use Rattle.codec_graph.specs.declared.pin_kind.PinKind.{PinKind}
use Rattle.codec_sound.specs.declared.signals.Signal.{Signal}
use Rattle.codec_sound.specs.declared.signals.Signal.TheVariants.{Silence}
use Rattle.hda_world.specs.Worlds.{TakenCommand, CarriedFrame}
use Rattle.heard_frames.specs.declared.heard.Heard.{Heard}
use Rattle.heard_frames.specs.declared.heard.Heard.TheVariants.{Sound, Quiet, Hole, Altered}
use Rattle.heard_frames.specs.declared.mark.Mark.{Mark}
use Rattle.heard_frames.specs.HeardLists.{heard_as}

-- ---- holes

abbrev pub is_hole : Heard → Bool
is_hole Hole = true
is_hole Quiet = false
is_hole Altered = false
is_hole (Sound left right) = false

abbrev pub without_holes : List Heard → List Heard
without_holes list = filter (λ item. not (is_hole item)) list

-- ---- what a command puts into a pin's control

abbrev pub control_in : Verb → Option ℕ
control_in (SetPin control) = Some control
control_in _ = None

abbrev pub control_by : Option Command → Option ℕ
control_by None = None
control_by (Some command) = control_in command.verb

-- into that of this pin
abbrev pub control_for : (pin : ℕ) → Option Command → Option ℕ
control_for pin None = None
control_for pin (Some command) = if command.nid == pin then control_in command.verb else None

-- ---- the marks of a pin

-- where the pin's list has so many items that are no holes: out enable, bit 6, is whether it is on
abbrev pub marks_put : (at : ℕ) → Option ℕ → List Mark
marks_put at None = []
marks_put at (Some control) = record { at = at; on = has_bit control 6 } ∷ []

-- of a command that a codec took then: none but where the stream ran, the codec is the pin's, and the word reads as one
-- that sets the pin's control
abbrev pub marks_by : (at address pin : ℕ) → TakenCommand → List Mark
marks_by at address pin command =
    if command.running && command.codec.graph.address == address then marks_put at
    (control_for pin (reading_of command.word)) else []

-- how many items that are no holes a pin of the kind heard of the first so many link frames
abbrev pub heard_before : PinKind → (address pin : ℕ) → List CarriedFrame → (count : ℕ) → ℕ
heard_before kind address pin frames count = length (without_holes (heard_as kind address pin (take count frames)))

abbrev pub command_marks : PinKind → (address pin : ℕ) → List CarriedFrame → TakenCommand → List Mark
command_marks kind address pin frames command =
    marks_by (heard_before kind address pin frames command.carried) address pin command

-- of all commands that codecs took, oldest first, by the link frames that carried the stream
abbrev pub marks_of_as : PinKind → (address pin : ℕ) → List TakenCommand → List CarriedFrame → List Mark
marks_of_as kind address pin commands frames = flat_map (command_marks kind address pin frames) commands

-- ---- what they mean

-- whether the pin is on at an item, holes not counted: by the last mark at that item or before it, and before any it is
abbrev pub is_on_at : List Mark → (place : ℕ) → Bool
is_on_at marks place = fold (λ was mark. if nat_le mark.at place then mark.on else was) true marks

-- the pin's signal where it is on, and silence where it is off
abbrev pub switched_signals : Signal → List Mark → (place : ℕ) → Signal
switched_signals signal marks place = if is_on_at marks place then signal else Silence
