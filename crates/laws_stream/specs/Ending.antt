-- What is heard of a driver that was closed. This project's own.
use Rattle.std.specs.Prelude.{◌≡◌, ◌≤◌, ◌/◌, ℕ, List, length, All, Some}
use Rattle.codec_graph.specs.CodecStates.{CodecState}
use Rattle.stream_format.specs.declared.format.Format.{Format}
use Rattle.stream_format.specs.Words.{format_word}
use Rattle.stream_format.specs.Layouts.{layout}
use Rattle.codec_graph.specs.declared.pin_kind.PinKind.{PinKind}
use Rattle.codec_sound.specs.declared.signals.Signal.TheVariants.{Pair, Silence}
use Rattle.heard_frames.specs.HeardLists.{block_size, heard_as, signal_with_as}
use Rattle.hda_world.specs.Worlds.{CarriedFrame, codec_at}
use Rattle.period_writer.specs.declared.course.Ran.TheVariants as ran
use Rattle.period_writer.specs.Runs.{Tally}
use Rattle.period_writer.specs.Lines.{line_of}
use Rattle.laws_hearing.specs.Plays.{Plays, WasSent, IsSilent, without_holes}

-- what pins of these codecs heard, as pins of each kind, of what link frames carried: one to which a pair comes heard
-- the line, one to which nothing comes heard nothing
pub record HearTheLine (codecs : List CodecState) (format : Format) (pcm : List ℕ) (tally : Tally)
    (carried : List CarriedFrame) : Type 0 where
  pub plays : (kind : PinKind) (address pin pair : ℕ)
      → signal_with_as kind (codec_at address codecs) 1 (format_word format) (Some (layout format)) pin ≡ Pair pair
      → Plays tally.course.ran (layout format) pair (line_of tally pcm) tally.course.sure
      (heard_as kind address pin carried)
  -- once the line has drained, as many blocks as end at or below where the link stood at the last run, past all sound
  pub all_sent : tally.course.ran ≡ ran.Drained → (kind : PinKind) (address pin pair : ℕ)
      → signal_with_as kind (codec_at address codecs) 1 (format_word format) (Some (layout format)) pin ≡ Pair pair
      → tally.course.at / block_size (layout format) ≤ length (without_holes (heard_as kind address pin carried))
  pub sent_alone : (kind : PinKind) (address pin pair : ℕ)
      → signal_with_as kind (codec_at address codecs) 1 (format_word format) (Some (layout format)) pin ≡ Pair pair
      → All WasSent (heard_as kind address pin carried)
  pub silent : (kind : PinKind) (address pin : ℕ)
      → signal_with_as kind (codec_at address codecs) 1 (format_word format) (Some (layout format)) pin ≡ Silence
      → All IsSilent (heard_as kind address pin carried)
