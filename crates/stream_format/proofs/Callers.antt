-- What proofs of the layers above cite.

-- no frame has more blocks than the most of its rate
pub use Rattle.stream_format.proofs.Bounds.{bounded}
-- nor more bytes than the most of its format
pub use Rattle.stream_format.proofs.Bounds.{most-bounds}
-- the word of a format is read as that format
pub use Rattle.stream_format.proofs.ReadBack.{read_back}
-- formats of one layout are one
pub use Rattle.stream_format.proofs.OneFormat.{one_format}
-- a format word has 16 bits
pub use Rattle.stream_format.proofs.Sizes.{word_small}
-- a block has a byte
pub use Rattle.stream_format.proofs.Sizes.{some_block}
-- and so has the longest frame
pub use Rattle.stream_format.proofs.Sizes.{some_most}
