-- What is heard of a driver that switched speakers and was closed. This project's own.
use Rattle.std.specs.Prelude.{◌≡◌, ◌≤◌, ◌/◌, ℕ, Bool, false, List, [], length, All, Some}
use Rattle.codec_graph.specs.declared.pin_kind.PinKind.{PinKind}
use Rattle.codec_graph.specs.CodecStates.{CodecState}
use Rattle.codec_sound.specs.declared.signals.Signal.TheVariants.{Pair, Silence}
use Rattle.stream_format.specs.declared.format.Format.{Format}
use Rattle.stream_format.specs.Words.{format_word}
use Rattle.stream_format.specs.Layouts.{layout}
use Rattle.heard_frames.specs.HeardLists.{block_size, heard_as, signal_with_as}
use Rattle.heard_frames.specs.Marks.{without_holes, marks_of_as, switched_signals}
use Rattle.hda_world.specs.Worlds.{TakenCommand, CarriedFrame, codec_at}
use Rattle.period_writer.specs.declared.course.Ran.TheVariants as ran
use Rattle.period_writer.specs.Runs.{Tally}
use Rattle.period_writer.specs.Lines.{line_of}
use Rattle.laws_hearing.specs.Plays.{IsSilent}
use Rattle.laws_hearing.specs.BySignals.{PlaysSwitched, AreBySignals}

-- what pins of codecs heard, as pins of each kind, of what link frames carried, where these codecs then took commands
-- that switch: one to which a pair came heard the line where it was on by its marks, and nothing where it was off. One
-- that is no speaker has no marks, and heard nothing where nothing came to it
pub record HearSwitched (is_speaker : (address pin : ℕ) → Bool) (codecs : List CodecState) (format : Format)
    (pcm : List ℕ) (given_up : Bool) (tally : Tally) (commands : List TakenCommand) (carried : List CarriedFrame)
    : Type 0 where
  pub plays : (kind : PinKind) (address pin pair : ℕ)
      → signal_with_as kind (codec_at address codecs) 1 (format_word format) (Some (layout format)) pin ≡ Pair pair
      → PlaysSwitched given_up tally.course.ran (layout format) (Pair pair)
      (marks_of_as kind address pin commands carried) (line_of tally pcm) tally.course.sure
      (heard_as kind address pin carried)
  pub made : (kind : PinKind) (address pin pair : ℕ)
      → signal_with_as kind (codec_at address codecs) 1 (format_word format) (Some (layout format)) pin ≡ Pair pair
      → AreBySignals (switched_signals (Pair pair) (marks_of_as kind address pin commands carried))
      (heard_as kind address pin carried)
  -- once the line has drained, as many blocks as end at or below where the link stood at the last run, past all sound
  pub all_sent : given_up ≡ false → tally.course.ran ≡ ran.Drained → (kind : PinKind) (address pin pair : ℕ)
      → signal_with_as kind (codec_at address codecs) 1 (format_word format) (Some (layout format)) pin ≡ Pair pair
      → tally.course.at / block_size (layout format) ≤ length (without_holes (heard_as kind address pin carried))
  pub unmarked : (kind : PinKind) (address pin : ℕ) → is_speaker address pin ≡ false
      → marks_of_as kind address pin commands carried ≡ []
  pub silent : (kind : PinKind) (address pin : ℕ) → is_speaker address pin ≡ false
      → signal_with_as kind (codec_at address codecs) 1 (format_word format) (Some (layout format)) pin ≡ Silence
      → All IsSilent (heard_as kind address pin carried)
