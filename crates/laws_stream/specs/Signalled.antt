-- What is heard of a driver that was closed, by the signals of each pin along the link frames. This project's own.
use Rattle.std.specs.Prelude.{◌≡◌, ◌≤◌, ◌/◌, ℕ, Bool, false, List, length}
use Rattle.stream_format.specs.declared.format.Format.{Format}
use Rattle.stream_format.specs.Layouts.{layout}
use Rattle.codec_graph.specs.declared.pin_kind.PinKind.{PinKind}
use Rattle.codec_sound.specs.declared.signals.Signal.{Signal}
use Rattle.heard_frames.specs.HeardLists.{block_size, heard_as}
use Rattle.heard_frames.specs.Marks.{without_holes}
use Rattle.hda_world.specs.Worlds.{CarriedFrame}
use Rattle.period_writer.specs.declared.course.Ran.TheVariants as ran
use Rattle.period_writer.specs.Runs.{Tally}
use Rattle.period_writer.specs.Lines.{line_of}
use Rattle.laws_hearing.specs.BySignals.{PlaysBy, AreBySignals, IsSignalAlong}

-- what each pin heard, as a pin of each kind, of what link frames carried, for each signals that it has along them: the
-- line by these signals, each item as its signal makes it
pub record HearBySignals (given_up : Bool) (format : Format) (pcm : List ℕ) (tally : Tally)
    (carried : List CarriedFrame) : Type 0 where
  pub plays : (kind : PinKind) (address pin : ℕ) (signals : ℕ → Signal)
      → IsSignalAlong kind address pin signals carried
      → PlaysBy given_up tally.course.ran (layout format) signals (line_of tally pcm) tally.course.sure
      (heard_as kind address pin carried)
  pub made : (kind : PinKind) (address pin : ℕ) (signals : ℕ → Signal)
      → IsSignalAlong kind address pin signals carried → AreBySignals signals (heard_as kind address pin carried)
  -- once the line has drained, as many blocks as end at or below where the link stood at the last run, past all sound
  pub all_sent : given_up ≡ false → tally.course.ran ≡ ran.Drained
      → (kind : PinKind) (address pin : ℕ) (signals : ℕ → Signal) → IsSignalAlong kind address pin signals carried
      → tally.course.at / block_size (layout format) ≤ length (without_holes (heard_as kind address pin carried))
