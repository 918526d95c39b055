use Rattle.capture_report.proofs.OverrunLaws.{each_is_maximal, all_are_told, they_ascend}
use Rattle.capture_report.proofs.laws.overruns_are_maximal.Goals as goal

pub returns-clause-maximal : goal.returns-clause-maximal
returns-clause-maximal c = each_is_maximal

pub returns-clause-all : goal.returns-clause-all
returns-clause-all c = all_are_told

pub returns-clause-ascend : goal.returns-clause-ascend
returns-clause-ascend c = they_ascend
