-- What proofs of the layers above cite.

-- steps in a row are those of the front and then those of the back
pub use Rattle.hda_world.proofs.Stepping.{after_steps-append}
-- what every move keeps, a step keeps
pub use Rattle.hda_world.proofs.Stepping.{kept_step}
-- and steps in a row keep
pub use Rattle.hda_world.proofs.Stepping.{kept_steps}
-- what single responses, ticks and discoveries keep, whole moves keep
pub use Rattle.hda_world.proofs.Singly.{kept_singly}
-- events in a row are those of the front and then those of the back
pub use Rattle.hda_world.proofs.Telling.{after-append}
-- and are honest where both are
pub use Rattle.hda_world.proofs.Telling.{AreHonest-append}
-- the world that is told now is what the events since made of the one before
pub use Rattle.hda_world.proofs.Telling.{world_of-went}
-- nothing went on
pub use Rattle.hda_world.proofs.Telling.{went_none}
-- some events and then others went on
pub use Rattle.hda_world.proofs.Telling.{went_both}
-- the journal grew, and grew again
pub use Rattle.hda_world.proofs.Telling.{grew_both}
-- over an access the journal grew
pub use Rattle.hda_world.proofs.Telling.{grew_access}
-- one relation of what is told and then another
pub use Rattle.hda_world.proofs.Telling.{told_both}
-- two relations of the same
pub use Rattle.hda_world.proofs.Telling.{told_pair}
-- a relation of what is told that leads to another
pub use Rattle.hda_world.proofs.Telling.{told_map}
-- an access before which the device made no step
pub use Rattle.hda_world.proofs.Telling.{world_of-access}
-- a step before an access is one of the steps before it
pub use Rattle.hda_world.proofs.Telling.{accessed_after}
-- a row of accesses and then another
pub use Rattle.hda_world.proofs.Rows.{makes_both}
-- one access is a row
pub use Rattle.hda_world.proofs.Rows.{row_one}
-- an access and then a row
pub use Rattle.hda_world.proofs.Rows.{row_more}
-- a row and then a row, as told
pub use Rattle.hda_world.proofs.Rows.{row_both}
-- over a row the journal grew
pub use Rattle.hda_world.proofs.Rows.{grew_row}
-- the rows together, for a function's tactics
pub use Rattle.hda_world.proofs.Rows.{rows}
-- what every move keeps and the access leads on, through an access
pub use Rattle.hda_world.proofs.Accessing.{accessed_then}
-- the world after steps and then an event, which is honest there
pub use Rattle.hda_world.proofs.Accessing.{after-stepped, honest-stepped}
-- what steps leave alone
pub use Rattle.hda_world.proofs.Leaving.{steps_leave}
-- what a write of a register leaves of the codecs and the histories
pub use Rattle.hda_world.proofs.Leaving.{access_leaves}
-- it leaves the memory
pub use Rattle.hda_world.proofs.Leaving.{write_memory}
-- it writes the registers
pub use Rattle.hda_world.proofs.Leaving.{write_registers}
-- a write that resets
pub use Rattle.hda_world.proofs.Leaving.{reset_write}
-- a write that neither resets nor ends the reset
pub use Rattle.hda_world.proofs.Leaving.{plain_write}
-- a write by which CRST rises
pub use Rattle.hda_world.proofs.Leaving.{rising_write}
-- a write beside GCTL and the rings' registers changes the registers alone
pub use Rattle.hda_world.proofs.Leaving.{beside_write}
-- and leaves the rings'
pub use Rattle.hda_world.proofs.Leaving.{beside_rings}
-- a change of one codec leaves the others
pub use Rattle.hda_world.proofs.Leaving.{found_apart}
-- and the graphs, where it keeps its own
pub use Rattle.hda_world.proofs.Leaving.{graphs-with_codec}
-- a step leaves the codecs that it does not name
pub use Rattle.hda_world.proofs.Others.{step_leaves_others}
-- and so do steps in turn
pub use Rattle.hda_world.proofs.Others.{steps_leave_others}
-- how far the driver has read is kept
pub use Rattle.hda_world.proofs.Unread.{keeps_reading}
-- that the codecs are discovered is kept
pub use Rattle.hda_world.proofs.Discovery.{keeps_discovery}
-- what a frame keeps, from what its tick, its discovery and its stream keep
pub use Rattle.hda_world.proofs.Stepping.{frames_after}
-- a link frame keeps the controller out of reset
pub use Rattle.hda_world.proofs.Stepping.{passed_out}
-- a relation of the output stream alone
pub use Rattle.hda_world.proofs.Streaming.{OfOutput}
-- is kept where the stream's moves keep it
pub use Rattle.hda_world.proofs.Streaming.{stream_kept}
-- that the output stream's FIFO is never overrun or empty is kept
pub use Rattle.hda_world.proofs.Streaming.{keeps_fifo}
-- LPIB is the bytes sent modulo CBL
pub use Rattle.hda_world.proofs.Streaming.{keeps_position}
-- FIFORDY is kept
pub use Rattle.hda_world.proofs.Streaming.{keeps_ready}
-- what was sent is what was fetched
pub use Rattle.hda_world.proofs.Streaming.{keeps_sent}
-- a stream that does not run stays
pub use Rattle.hda_world.proofs.Streaming.{steps_leave_stopped}
-- a step that names no stream leaves them
pub use Rattle.hda_world.proofs.Streaming.{step_leaves_streams}
-- and so do steps in turn
pub use Rattle.hda_world.proofs.Streaming.{steps_leave_streams}
-- a write beside GCTL and the descriptors leaves both streams
pub use Rattle.hda_world.proofs.Writing.{beside_streams}
-- and so does one beside the descriptors after which CRST is 1
pub use Rattle.hda_world.proofs.Writing.{streams_out}
-- a write keeps what the FIFO holds
pub use Rattle.hda_world.proofs.Writing.{write_keeps_fifo}
-- the streams' states after a write
pub use Rattle.hda_world.proofs.Writing.{write_states}
-- a write keeps LPIB the bytes sent modulo CBL
pub use Rattle.hda_world.proofs.Settling.{write_keeps_position}
-- and FIFORDY what it says
pub use Rattle.hda_world.proofs.Settling.{write_keeps_ready}
-- the order of the sound begins where RUN rises, and is kept else
pub use Rattle.hda_world.proofs.Settling.{write_begins_order, write_keeps_order}
-- the events that were told while accesses were made
pub use Rattle.hda_world.proofs.Moments.{Weaving, woven}
-- what accesses lead to and what holds at each moment meanwhile
pub use Rattle.hda_world.proofs.Moments.{Lead, lead_none, lead_more, lead_both, lead_some, lead_from, lead_to}
-- what a link frame moves of the controller's part
pub use Rattle.hda_world.proofs.Passing.{passed_global}
-- relations that are kept together
pub use Rattle.hda_world.proofs.Passing.{kept_both}
-- the codec that is found at an address has it, and what all codecs have; where none is found, a change there changes nothing
pub use Rattle.hda_world.proofs.Found.{is_address, found_address, found_all, absent}
-- a weaving of a row that goes on is one of its front and one of its back
pub use Rattle.hda_world.proofs.Moments.{woven_split}
-- no responses change nothing
pub use Rattle.hda_world.proofs.Stepping.{responded_none}
-- streams stay where nothing happens
pub use Rattle.hda_world.proofs.Streaming.{streams_same}
-- steps as events lead where the steps lead
pub use Rattle.hda_world.proofs.Telling.{steps_after}
-- what all events of a row have, all of its front have
pub use Rattle.hda_world.proofs.Telling.{events_front}
-- and all of its back
pub use Rattle.hda_world.proofs.Telling.{events_back}
-- a relation of the link frames alone is kept where one more keeps it
pub use Rattle.hda_world.proofs.Passing.{kept_frames}
-- and one of the codecs alone where their moves keep it
pub use Rattle.hda_world.proofs.Passing.{kept_codecs}
-- a change of a codec's settings leaves the addresses
pub use Rattle.hda_world.proofs.Discovery.{addresses-with_codec}
-- what is no answer stays where answers are cleared
pub use Rattle.hda_world.proofs.Leaving.{map-cleared}
-- what holds at each event of two journals in a row
pub use Rattle.hda_world.proofs.Moments.{AtEach-append}
-- link frames out of reset count themselves
pub use Rattle.hda_world.proofs.Discovery.{frames_count}
-- an honest journal is honest at its back
pub use Rattle.hda_world.proofs.Moments.{AreHonest-back}
-- and at its front
pub use Rattle.hda_world.proofs.Moments.{AreHonest-front}
-- streams that stay and stay again stay
pub use Rattle.hda_world.proofs.Streaming.{streams_both}
-- a descriptor settles into itself
pub use Rattle.hda_world.proofs.Writing.{settled_same}
-- what all moves of the input stream keep is kept by each
pub use Rattle.hda_world.proofs.Inputs.{by_moves}
-- and what holds where it does not run
pub use Rattle.hda_world.proofs.Inputs.{by_stopped}
-- one change of a descriptor and then another
pub use Rattle.hda_world.proofs.Inputs.{descriptor_both}
-- a word is the same where its four bytes are
pub use Rattle.hda_world.proofs.Buffers.{same_word}
-- which buffers an input stream names after a change, and that its list still lies apart from them
pub use Rattle.hda_world.proofs.Buffers.{ListStays, NamesNoMore, names_stay, names_took, names_stored, outside_still, place_before, apart_still, apart_stored, apart_took}
-- a byte that is stored lies in a buffer that is named
pub use Rattle.hda_world.proofs.Buffers.{byte_outside}
-- a write beside GCTL and the input's descriptor leaves the input stream
pub use Rattle.hda_world.proofs.Writing.{input_stays}
-- and one of its status changes its status bits alone
pub use Rattle.hda_world.proofs.Writing.{input_status}
-- where RUN of the input stream rises its list lies apart from the buffers, if it lies outside them
pub use Rattle.hda_world.proofs.TakenWrites.{write_begins_list}
