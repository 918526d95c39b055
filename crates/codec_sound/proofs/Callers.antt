-- What proofs of the layers above cite.

-- the signals of a well-formed graph's nodes fit the step, and nothing else does
pub use Rattle.codec_sound.proofs.Outputs.{out-gives, out-only}
-- so do those of any sources
pub use Rattle.codec_sound.proofs.Outputs.{out-gives-from, out-only-from}
-- what a node gives depends on what its listed nodes give alone, also of any sources
pub use Rattle.codec_sound.proofs.Agreeing.{gives-agree, gives-agree-from}
-- signals that are worked out anew are those of the moment, for the same pins
pub use Rattle.codec_sound.proofs.Renewing.{AreKept-renewed, AreKept-with_signals, pins_of_renewed, kept_pins-with_signals}
-- both channels of a pair are among the stream's
pub use Rattle.codec_sound.proofs.Pairs.{among-signal_of}
-- signals are renewed alike by functions that agree
pub use Rattle.codec_sound.proofs.Renewing.{renewed-agree}
