-- What the proofs of other crates cite.
-- what is meant by words: a text alone for a cause, a run, or a capture
pub use Rattle.hda_program.proofs.Cases.{Case, WordsCase, ran, recorded, said, cases}
-- an answer to a request of the words is meant by them, and other names are none of its files
pub use Rattle.hda_program.proofs.WalkLemmas.{other_name, request_meant}
-- a text that was written, or its front
pub use Rattle.hda_program.proofs.WriteLemmas.{has_written}
-- no capture is meant by a sound of three files
pub use Rattle.hda_program.proofs.PlayCases.{play_captures_nothing}
