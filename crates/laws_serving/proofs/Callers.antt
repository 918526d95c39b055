-- What proofs of the layers above cite.

-- a write beside GCTL writes the registers and nothing else, and leaves the count of link frames
pub use Rattle.laws_serving.proofs.Worlds.{write_is, event_time, event_frames_stay, step_out, IsTimed, IsBeside, timed_row}
-- no step takes back a link frame, and events let no more pass than theirs
pub use Rattle.laws_serving.proofs.Counting.{step_grows, steps_count, events_count, call_frames, timed_steps}
-- accesses by what they ask
pub use Rattle.laws_serving.proofs.Requests.{IsAccess, Reads, reads_first, Makes, writes_first, InTwo, in_two, none_asked}
-- accesses one after another, between which streams move
pub use Rattle.laws_serving.proofs.Rows.{CalmRow, kept_row, row_split, IsCalm, row_of, within_call, calm_call, accesses_are}
pub use Rattle.laws_serving.proofs.Engines.{AtFirst, at_first}
-- how far progress comes over a call
pub use Rattle.laws_serving.proofs.Notes.{gets, asks_none, trail_made, IsNoted}
pub use Rattle.laws_serving.proofs.Asking.{leads_so, plainly_led, IsReady}
pub use Rattle.laws_serving.proofs.Quiet.{IsNoRise}
-- a journal by its rounds
pub use Rattle.laws_serving.proofs.Laid.{RanRound, round_in, round_events, rest_events, rest_is, alone_is, stretch_is, ends_there, world_called, IsCalled}
pub use Rattle.laws_serving.proofs.Whole.{Laws, Onward, IsLeft, IsNext, IsLast, next_round, last_round, line_in, state_over, world_after}
pub use Rattle.laws_serving.proofs.Over.{IsLaidRun, laid_run, come_up}
-- calls that play
pub use Rattle.laws_serving.proofs.Playing.{going, IsFirst, IsLater, HasStartedSound, HasPlayedOn, IsInTime, first_run, later_run, last_run}
pub use Rattle.laws_serving.proofs.Sounding.{IsPrompt, SoundServed, served_later, ArePrompt, prompt_later, next_frames, PlaysOn, IsOver, frames_so, played_on, later_in_time, all_sent, first_served}
