use Rattle.laws_settings.proofs.SettingUp.{by_words, after_readings, codec_set, set_up_by, codec_set_up}
use Rattle.laws_settings.proofs.laws.verbs_set_up.Goals as goal

pub returns-clause-commands : goal.returns-clause-commands
returns-clause-commands c = by_words

pub returns-clause-readings : goal.returns-clause-readings
returns-clause-readings c = after_readings

pub returns-clause-set : goal.returns-clause-set
returns-clause-set c = codec_set

pub returns-clause-words : goal.returns-clause-words
returns-clause-words c = λ graph plan format tag settings readings well is low some few of all.
    set_up_by graph plan format tag well is low some few settings readings of all

pub returns-clause-codec : goal.returns-clause-codec
returns-clause-codec c = codec_set_up
