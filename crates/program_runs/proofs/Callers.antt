-- What the proofs of other crates cite.
-- the made machine has one candidate pin
pub use Rattle.program_runs.proofs.Routes.{candidate_is, outcome_is}
-- what holds of each machine that a codec file describes holds of it
pub use Rattle.program_runs.proofs.Machines.{whole}
-- the lines of items, and how many there are
pub use Rattle.program_runs.proofs.Goes.{lines_both, FollowBoth, FollowsLine}
pub use Rattle.program_runs.proofs.Counting.{count_both, one_line, count_more, count_within, items_times, items_more, count_times, times_within, part_lines, part_counts, part_is, few_lines}
-- the events of a run between its marks, and of one without steps
pub use Rattle.program_runs.proofs.Events.{Run, run_of}
pub use Rattle.program_runs.proofs.Ran.{stretched_from, on_ok, if_ok}
pub use Rattle.program_runs.proofs.Closes.{IsWithoutSteps, TakesAccesses}
-- a short journal
pub use Rattle.program_runs.proofs.LinkFrames.{short_before, not_wrapped, never_wrapped, follows_frames}
-- in which phases runs end
pub use Rattle.program_runs.proofs.Phases.{is_failed, trail_well, ended_well, ends, plays_too}
-- what is there alone is the same
pub use Rattle.program_runs.proofs.Gone.{some_same}
pub use Rattle.program_runs.proofs.WalkedIn.{walked_in}
