-- What proofs of the layers above cite.

-- a fetch of a stream that runs and can be used, as a whole
pub use Rattle.world_streams.proofs.Whole.{whole, fetched_whole, fetch-whole}
-- a fetch leaves what was sent, and the frames
pub use Rattle.world_streams.proofs.Whole.{left-came, frame-came}
-- what a fetch does to a stream that can't be used
pub use Rattle.world_streams.proofs.Whole.{fetch-unusable}
-- and to one that does not run
pub use Rattle.world_streams.proofs.Whole.{fetch-stopped}
-- a format's frames come again after 480
pub use Rattle.world_streams.proofs.Formats.{blocks-cycle}
-- a word that has a format has a block of some bytes
pub use Rattle.world_streams.proofs.Formats.{some_block}
-- and a frame of some
pub use Rattle.world_streams.proofs.Formats.{some_most}
-- when the next byte of a list comes
pub use Rattle.world_streams.proofs.Coming.{can, cannot_full, cannot_bad, come, not_come}
-- what stays where none comes
pub use Rattle.world_streams.proofs.Coming.{stays, none_completes, none_breaks}
-- what a fetch comes to at a list entry that can't be used, and after a byte
pub use Rattle.world_streams.proofs.Coming.{breaks_now, breaks_later, completes_or, came_on}
-- no frame has more than 128 bytes
pub use Rattle.world_streams.proofs.Formats.{few_bytes}
-- what a stream that runs before and after a write shows stays
pub use Rattle.world_streams.proofs.Writing.{write_plays, same_play}
-- FIFORDY of the output stream stays over a write or is reset
pub use Rattle.world_streams.proofs.Writing.{write_ready}
-- and that of the input stream
pub use Rattle.world_streams.proofs.Writing.{write_ready_input}
-- an empty FIFO is not ready
pub use Rattle.world_streams.proofs.Writing.{not_ready}
-- a link frame has four blocks at most
pub use Rattle.world_streams.proofs.Formats.{few_blocks}
-- ---- an input stream

-- each block that came has a mark, and those with a mark are what entered
pub use Rattle.world_streams.proofs.Blocks.{marks-length, entered-marks}
-- what entered grows, and never past the FIFO's size
pub use Rattle.world_streams.proofs.Blocks.{entered-within, entered-longer}
-- of blocks of one size those that are taken come first, and where one does not fit none does
pub use Rattle.world_streams.proofs.Blocks.{HasSize, marks-front, none-fit, none-enter}
-- what the FIFO holds once blocks came, and their marks, by what it held
pub use Rattle.world_streams.proofs.Blocks.{entered-held, marks-held}
-- what a link frame does to a stream that does not run, to one that can't be used, and to any other one
pub use Rattle.world_streams.proofs.Blocks.{move-stopped, move-unusable, move-took}
-- a sound without bytes is silence
pub use Rattle.world_streams.proofs.Blocks.{given-none}
-- each block of a sound has the size
pub use Rattle.world_streams.proofs.Blocks.{given-size, given-sizes}
-- when the oldest byte of a FIFO goes
pub use Rattle.world_streams.proofs.Going.{goes, stays_empty, stays_jammed, gone, not_gone}
-- what stays where none goes
pub use Rattle.world_streams.proofs.Going.{remains, none_fills, none_jams}
-- what a fetch comes to at a list entry that can't be used, and after a byte
pub use Rattle.world_streams.proofs.Going.{jams_now, jams_later, fills_or, went_on}
-- what a FIFO that is emptied keeps
pub use Rattle.world_streams.proofs.Stored.{went-rest}
-- what a move of a fetch comes to
pub use Rattle.world_streams.proofs.Stored.{broken_off, finds_good, store-cases}
-- a fetch in two parts
pub use Rattle.world_streams.proofs.Stored.{store-add}
-- a fetch of a stream that does not run, and of one that can't be used
pub use Rattle.world_streams.proofs.Stored.{store-stopped, store-unusable}
-- a fetch keeps the size of memory, what entered, the frames, and that no more leaves than entered
pub use Rattle.world_streams.proofs.Stored.{store-length, store-entered, store-frame, store-behind}
-- the byte lies in its buffer, and after it the place is one of the list's again
pub use Rattle.world_streams.proofs.Stored.{byte-in-buffer, place-in-use, place-listed}
-- a fetch of a stream that runs and can be used, as a whole
pub use Rattle.world_streams.proofs.Stored.{emptying, stored_whole, store-whole}
