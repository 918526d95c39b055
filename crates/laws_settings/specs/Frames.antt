-- What link frames found of codecs, by the commands that these took before. This project's own, over the commands of
-- High Definition Audio 1.0a, 7.3, and its link frames, 5.3.
use Rattle.std.specs.Prelude.{◌≡◌, ◌≤◌, ℕ, List, length, map, filter, drop, slice_get, nat_le, All, Some}
use Rattle.codec_graph.specs.CodecStates.{CodecState}
use Rattle.hda_world.specs.Worlds.{World, TakenCommand, CarriedFrame}
use Rattle.laws_settings.specs.Histories.{settings_since}

-- of some commands those that were taken before the link frame of this place, counted from 0
abbrev pub taken_before : (place : ℕ) → List TakenCommand → List TakenCommand
taken_before place commands = filter (λ (one : TakenCommand). nat_le one.carried place) commands

-- a link frame found codecs with the graphs of these and the settings that came of them by the words of these commands
pub record IsFrameAfter (start : List CodecState) (commands : List TakenCommand) (frame : CarriedFrame) : Type 0 where
  pub graphs : map (λ (codec : CodecState). codec.graph) frame.codecs
      ≡ map (λ (codec : CodecState). codec.graph) start
  pub settings : map (λ (codec : CodecState). codec.settings) frame.codecs ≡ map (settings_since commands) start

-- all commands and all link frames, where the codecs were these when so many commands had been taken and so many link
-- frames had passed: each later frame found them as the commands made them that were taken before it, and no later
-- command has fewer frames than those or more than passed
pub record RemembersFramesBy (start : List CodecState) (from frames : ℕ) (commands : List TakenCommand)
    (carried : List CarriedFrame) : Type 0 where
  pub begun : frames ≤ length carried
  pub within : All (λ (one : TakenCommand). one.carried ≤ length carried) (drop from commands)
  pub since : All (λ (one : TakenCommand). frames ≤ one.carried) (drop from commands)
  pub found : (place : ℕ) (frame : CarriedFrame) → frames ≤ place → slice_get carried place ≡ Some frame
      → IsFrameAfter start (taken_before place (drop from commands)) frame

abbrev pub RemembersFrames : List CodecState → (from frames : ℕ) → World → Type 0
RemembersFrames start from frames world = RemembersFramesBy start from frames world.commands world.carried
