-- Words that switch speakers off and on, and the commands of a history that do nothing else. This project's own, over
-- the pin control of High Definition Audio 1.0a, 7.3.3.13.
use Rattle.std.specs.Prelude.{◌≡◌, ◌≤◌, ◌⊎◌, ℕ, Bool, true, false, length, take, drop, All, Some, None}
use Rattle.verb_codes.specs.declared.verbs.Command.{Command}
use Rattle.verb_codes.specs.declared.verbs.Verb.TheVariants.{SetPin}
use Rattle.verb_codes.specs.Verbs.{reading_of}
use Rattle.hda_world.specs.Worlds.{World, TakenCommand}
use Rattle.heard_frames.specs.Marks.{control_for}
use Rattle.laws_settings.specs.Histories.{words_of}
use Rattle.laws_settings.specs.Readings.{IsReading}

-- a word only asks: it changes no setting, and sets the control of no pin
pub record OnlyAsks (word : ℕ) : Type 0 where
  pub reading : IsReading word
  pub none : (pin : ℕ) → control_for pin (reading_of word) ≡ None

-- a word puts 0 or 40h, out enable alone, into the control of a speaker: a pin of the codec with an address
pub record SetsSpeaker (is_speaker : (address pin : ℕ) → Bool) (word : ℕ) : Type 0 where
  pub command : Command
  pub reads : reading_of word ≡ Some command
  pub speaker : is_speaker command.codec command.nid ≡ true
  pub either : (command.verb ≡ SetPin 0) ⊎ (command.verb ≡ SetPin 0x40)

abbrev pub IsSwitchWord : ((address pin : ℕ) → Bool) → (word : ℕ) → Type 0
IsSwitchWord is_speaker word = OnlyAsks word ⊎ SetsSpeaker is_speaker word

-- of all commands that codecs took, the first so many were taken while the output stream did not run, and the later
-- ones switch speakers, each of them while it ran or after all link frames
pub record AreSwitching (is_speaker : (address pin : ℕ) → Bool) (from : ℕ) (world : World) : Type 0 where
  pub before : All (λ (one : TakenCommand). one.running ≡ false) (take from world.commands)
  pub words : All (IsSwitchWord is_speaker) (words_of (drop from world.commands))
  pub during : All (λ (one : TakenCommand). (one.running ≡ true) ⊎ (length world.carried ≤ one.carried))
      (drop from world.commands)
