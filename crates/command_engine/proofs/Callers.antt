-- What proofs of the layers above cite.

-- fewer responses than RIRB has entries stand each in an entry of its own: what the lemmas below take
pub use Rattle.command_engine.proofs.Batches.{EachStands}
-- and they do
pub use Rattle.command_engine.proofs.Tells.{responses_apart}
-- every move of the device keeps how the engine stands
pub use Rattle.command_engine.proofs.Keeping.{keeps_standing}
-- and so do steps in a row
pub use Rattle.command_engine.proofs.Keeping.{steps_keep_standing}
-- with a fact of RINTFL, the memory and the responses that were written beside it
pub use Rattle.command_engine.proofs.Holding.{Holding, keeps_holding}
-- an event beside the engine keeps it
pub use Rattle.command_engine.proofs.Beside.{event_keeps}
-- and so do events in a row
pub use Rattle.command_engine.proofs.Beside.{events_keep}
-- one that leaves memory and the input stream keeps it whether that stream runs or not
pub use Rattle.command_engine.proofs.Beside.{event_beside_input_keeps}
-- and so do several
pub use Rattle.command_engine.proofs.Beside.{events_beside_input_keep}
-- an input stream that does not run stays so, and apart
pub use Rattle.command_engine.proofs.Beside.{stopped_events, stopped_beside}
pub use Rattle.command_engine.proofs.Apart.{stopped_apart}
-- a write of a register beside GCTL and the input's descriptor leaves it apart
pub use Rattle.command_engine.proofs.Apart.{write_apart}
-- and so do a write of its status, and one after which it does not run
pub use Rattle.command_engine.proofs.Apart.{status_apart, stopped_write}
-- and each move of it
pub use Rattle.command_engine.proofs.Apart.{apart_moves}
-- a start brings it about
pub use Rattle.command_engine.proofs.StartTellings.{start_leaves}
-- while the world is quiet, events that touch neither GCTL nor the rings' registers leave it so
pub use Rattle.command_engine.proofs.Quiet.{quiet_steps, quiet_events}
-- and a start possible, once it is
pub use Rattle.command_engine.proofs.Quiet.{can_start_steps, can_start_events}
-- a reset quiets the world
pub use Rattle.command_engine.proofs.Quiet.{reset_quiet}
-- and once CRST is 1 a start is possible
pub use Rattle.command_engine.proofs.Quiet.{risen_can_start, reset_can_start}
-- a submission leads on
pub use Rattle.command_engine.proofs.SubmitTellings.{submit_leaves}
-- the engine stands where the command's word was written to CORB
pub use Rattle.command_engine.proofs.SubmitTellings.{stored_stands}
-- and so does a poll
pub use Rattle.command_engine.proofs.PollTellings.{poll_leaves}
-- where nothing happens, no access is made
pub use Rattle.command_engine.proofs.Readings.{made_none}
-- the graph that is found at an address has it, and that of the codec that is found is found
pub use Rattle.command_engine.proofs.Codecs.{graph_address, graph_there}
-- codecs take commands with settings of their graphs
pub use Rattle.command_engine.proofs.Settled.{settled_after}
-- and then an answer is whole
pub use Rattle.command_engine.proofs.Settled.{answered_whole}
-- the registers after a write of GCTL whose CRST is 0, and after one whose CRST is 1
pub use Rattle.command_engine.proofs.Quiet.{reset_registers, risen_registers, control-written}
-- which of them is a reset
pub use Rattle.command_engine.proofs.Quiet.{resets, no_reset}
-- what all codecs have and the changed one, all have after the change
pub use Rattle.command_engine.proofs.Codecs.{changed_all}
-- a sum over the codecs changes by the changed one
pub use Rattle.command_engine.proofs.Codecs.{changed_sum}
-- where no codec is asked, none takes a command
pub use Rattle.command_engine.proofs.SubmitTellings.{none_gained}
-- a write of CRST takes the controller out of reset
pub use Rattle.command_engine.proofs.Quiet.{leaves_reset}
-- a write that clears the flag of responses
pub use Rattle.command_engine.proofs.PollWorlds.{write-response_flag}
-- solicited responses of two rows
pub use Rattle.command_engine.proofs.Coming.{count-append}
