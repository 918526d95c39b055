-- What proofs of the layers above cite.

-- a world remembers its own codecs
pub use Rattle.laws_settings.proofs.Remembering.{remembers_itself}
-- and goes on remembering over steps of the device
pub use Rattle.laws_settings.proofs.Remembering.{steps_remember}
-- and over all events
pub use Rattle.laws_settings.proofs.Remembering.{events_remember}
-- what is found at an address is what came of the codec that was found there
pub use Rattle.laws_settings.proofs.Remembering.{found_by}
-- the word of a command in range reads as that
pub use Rattle.laws_settings.proofs.Words.{reading_of-complete}
-- settings after words, and then others
pub use Rattle.laws_settings.proofs.Words.{settings_by-append}
-- the words to an address among commands, and then others
pub use Rattle.laws_settings.proofs.Words.{words_to-append}
-- settings after one command more
pub use Rattle.laws_settings.proofs.Words.{settings_since-push}
-- words that only ask leave settings as they are
pub use Rattle.laws_settings.proofs.Readings.{readings_keep}
-- and those to one address are among all that only ask
pub use Rattle.laws_settings.proofs.Readings.{readings_to}
-- and the codecs of a world
pub use Rattle.laws_settings.proofs.Readings.{only_asked}
-- an answer that came before anything was set is a reply
pub use Rattle.laws_settings.proofs.Readings.{reply_to, reply_after}
-- the commands of a walk are in range
pub use Rattle.laws_settings.proofs.Asking.{walk_in_range}
-- and their words only ask
pub use Rattle.laws_settings.proofs.Asking.{walk_reads}
-- the words of commands do what the commands do
pub use Rattle.laws_settings.proofs.SettingUp.{by_words}
-- those of the set-up verbs set a codec up
pub use Rattle.laws_settings.proofs.SettingUp.{set_up_by}
-- and a codec of the world that took them
pub use Rattle.laws_settings.proofs.SettingUp.{codec_set_up}
-- also after words that only ask
pub use Rattle.laws_settings.proofs.SettingUp.{after_readings}
-- so they set the codec of the world that took them
pub use Rattle.laws_settings.proofs.SettingUp.{codec_set}
-- one that the set-up verbs set is set up
pub use Rattle.laws_settings.proofs.SettingUp.{set_up_at}
-- the commands of a walk go to its codec
pub use Rattle.laws_settings.proofs.Asking.{walk_goes}
-- walks over several graphs only ask
pub use Rattle.laws_settings.proofs.Asking.{walks_read}
-- a word names the codec of the command that it reads as, and that of the command that it is the word of
pub use Rattle.laws_settings.proofs.Addressed.{reading_names, word_names}
-- of the words of commands those of the commands to a codec name it
pub use Rattle.laws_settings.proofs.Addressed.{words_naming-words}
-- of the commands of graphs those of the graphs at an address go there
pub use Rattle.laws_settings.proofs.Addressed.{commands_to-graphs}
-- the words that went to a codec are those that name it
pub use Rattle.laws_settings.proofs.Addressed.{words_to-naming}
-- after the walks over all graphs and commands of each, a codec has the settings that its own make
pub use Rattle.laws_settings.proofs.WholeHistories.{takes_its_own}
-- what link frames found of codecs is remembered from the world itself on
pub use Rattle.laws_settings.proofs.FrameRemembering.{remembers_its_frames}
-- over steps of the device
pub use Rattle.laws_settings.proofs.FrameRemembering.{steps_remember_frames}
-- and over all events
pub use Rattle.laws_settings.proofs.FrameRemembering.{events_remember_frames}
-- of commands that were all taken before a link frame all were taken before it
pub use Rattle.laws_settings.proofs.FrameRemembering.{all_before}
-- a pin's control after a word, and after some words
pub use Rattle.laws_settings.proofs.LastControl.{reading_sets, words_set, last_stands}
-- what a number leaves that is put elsewhere, and what it makes of its own control
pub use Rattle.laws_settings.proofs.LastControl.{other_key, put_elsewhere, put_here}
-- what is found at an address among codecs came of what was found there
pub use Rattle.laws_settings.proofs.Codecs.{AreGraphs, AreSettings, found_taken}
-- what a codec makes of a reading
pub use Rattle.laws_settings.proofs.Words.{made_of}
