use Rattle.laws_settings.proofs.Readings.{readings_keep, only_asked}
use Rattle.laws_settings.proofs.Asking.{walk_in_range, walk_reads, walks_read}
use Rattle.laws_settings.proofs.laws.readings_leave_settings.Goals as goal

pub returns-clause-words : goal.returns-clause-words
returns-clause-words c = readings_keep

pub returns-clause-codecs : goal.returns-clause-codecs
returns-clause-codecs c = only_asked

pub returns-clause-in_range : goal.returns-clause-in_range
returns-clause-in_range c = walk_in_range

pub returns-clause-walk : goal.returns-clause-walk
returns-clause-walk c = walk_reads

pub returns-clause-walks : goal.returns-clause-walks
returns-clause-walks c = walks_read
