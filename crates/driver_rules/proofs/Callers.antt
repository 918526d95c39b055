-- What proofs of the layers above cite. Each is said of rules that keep whatever type.

-- the trail beside the rules is progress' own
pub use Rattle.driver_rules.proofs.Onwards.{trail_is}
-- over events in a row
pub use Rattle.driver_rules.proofs.Onwards.{onward_append, onward_both}
-- over events that went on, over steps of the device, and over steps and then an event
pub use Rattle.driver_rules.proofs.Onwards.{onward_went, conforms_onward_went, steps_leave_onward, steps_conform_onward}
pub use Rattle.driver_rules.proofs.Onwards.{onward_access, conforms_onward_access}
-- rules that wait after some events waited before them
pub use Rattle.driver_rules.proofs.Waiting.{waited}
-- they wait over steps, and over a stretch that is no line's in `Ready`
pub use Rattle.driver_rules.proofs.Waiting.{waits_steps, waits_stretch}
-- while they wait what is progress goes by the rules: at any moment, between two stretches, and at the end
pub use Rattle.driver_rules.proofs.Waiting.{waits_conforms, rest_waits, progress_waits}
-- what is at rest by the rules goes by them to the end
pub use Rattle.driver_rules.proofs.Waiting.{rest_onward}
-- the first stretch of a line in `Ready` begins the rules
pub use Rattle.driver_rules.proofs.Going.{rules_turn}
-- each later stretch goes by them: where it begins, over its accesses, and where it ends
pub use Rattle.driver_rules.proofs.Going.{rules_open, rules_row, rules_close}
-- between two stretches the device may make steps
pub use Rattle.driver_rules.proofs.Going.{rest_steps}
-- whether the command that they ask was answered: where a stretch begins and ends, over plain accesses, over a poll, over
-- a submission, and over steps
pub use Rattle.driver_rules.proofs.Noting.{begins_noted, ends_noted, plain_noted, polls_noted, submits_noted, steps_noted}
-- a tally that they take up as progress does is the trail's: where they begin, from then on, and at the end
pub use Rattle.driver_rules.proofs.Tallies.{tally_begins, tally_goes_on, tally_at_end}
