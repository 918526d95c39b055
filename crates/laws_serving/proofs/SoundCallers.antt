-- What proofs of the layers above cite.

-- whole blocks, and a line that has a whole sound as far as it reaches
pub use Rattle.laws_serving.proofs.Full.{IsWhole, AreWhole, IsFull, BeginsLate}
-- whether the stream runs between its rise and its stop
pub use Rattle.laws_serving.proofs.Moments.{IsNoStop, runs_at, by_accesses}
-- events beside the sound
pub use Rattle.laws_serving.proofs.Rolling.{IsBesideSound, StreamLaws, Rolls}
pub use Rattle.laws_serving.proofs.Setting.{IsStore, appends_store, store_beside}
pub use Rattle.laws_serving.proofs.Fed.{others_beside, asked_beside}
-- calls while the stream plays
pub use Rattle.laws_serving.proofs.Fed.{FindsLink}
pub use Rattle.laws_serving.proofs.FedRounds.{Ground, AreGenerous, IsFed, LooksAt, CallFeeds, call_feeds, fed_on, drains, clock_beside}
-- the first call that plays
pub use Rattle.laws_serving.proofs.First.{IsBehind, RiseLaws, FitsRegisters, FedBehind, begins_fed}
-- the numbers of a ring and of its format
pub use Rattle.laws_serving.proofs.Rings.{ground_of, fits_of}
-- a journal up to a round, and on from it
pub use Rattle.laws_serving.proofs.Ending.{round_body, rest_splits, body_leads, behind_on, behind_first}
