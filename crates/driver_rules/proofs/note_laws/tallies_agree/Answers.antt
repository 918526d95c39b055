use Rattle.driver_rules.proofs.Tallies.{tally_begins, tally_goes_on, tally_at_end}
use Rattle.driver_rules.proofs.note_laws.tallies_agree.Goals as goal

pub returns-clause-begins : goal.returns-clause-begins
returns-clause-begins g c rules tally task = tally_begins rules tally task

pub returns-clause-goes_on : goal.returns-clause-goes_on
returns-clause-goes_on g c rules tally task lines state events old new takes_up = tally_goes_on rules tally task takes_up lines state events old new

pub returns-clause-stretches : goal.returns-clause-stretches
returns-clause-stretches g c rules tally task lines state telling takes_up = tally_at_end rules tally task takes_up lines state telling
