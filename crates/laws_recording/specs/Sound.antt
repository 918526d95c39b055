-- That what was recorded is the sound that the input pins are given. This project's own, over High Definition Audio
-- 1.0a, 5.4 and 7.3.3.11.
use Rattle.std.specs.Prelude.{◌≡◌, ℕ, Some}
use Rattle.codec_sound.specs.declared.in_heard.InHeard.TheVariants.{Pin}
use Rattle.stream_format.specs.declared.format.Format.{Format}
use Rattle.stream_format.specs.Cadence.{block_bytes}
use Rattle.stream_format.specs.Words.{format_word}
use Rattle.hda_world.specs.Worlds.{World}
use Rattle.hda_world.specs.Arriving.{listened}
use Rattle.hda_world.specs.Streaming.{HasFetchedAll, taken_sound}
use Rattle.hda_capture.specs.Recorders.{RecorderState}
use Rattle.laws_recording.specs.Recording.{AreFirstOf}

-- the one converter of all codecs that takes a stream with tag 1 in the format hears this pin, and CORB's engine has no
-- command to fetch that could change it
pub record HearsGiven (format : Format) (nid : ℕ) (world : World) : Type 0 where
  pub fetched : HasFetchedAll world
  pub listens : listened 1 (format_word format) world.codecs ≡ Some (Pin nid)

-- what the input stream took is the blocks of the given sound of which `came` says so, each once and in order
abbrev pub TookGiven : Format → World → Type 0
TookGiven format world = world.input.entered ≡ taken_sound (block_bytes format) world.given world.came

-- what was recorded is the first bytes of these
abbrev pub RecordsGiven : RecorderState → World → Type 0
RecordsGiven recorder world =
    AreFirstOf (taken_sound (block_bytes recorder.geometry.format) world.given world.came) recorder.bytes
