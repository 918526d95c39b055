use Rattle.laws_settings.proofs.SettingUp.{set_up_at}
use Rattle.laws_settings.proofs.WholeHistories.{takes_its_own}
use Rattle.laws_settings.proofs.laws.each_codec_takes_its_own.Goals as goal

pub returns-clause-settings : goal.returns-clause-settings
returns-clause-settings c = takes_its_own

pub returns-clause-set_up : goal.returns-clause-set_up
returns-clause-set_up c = set_up_at
