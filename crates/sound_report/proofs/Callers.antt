-- What the proofs of other crates cite.
-- texts that go out page after page, and their ends
pub use Rattle.sound_report.proofs.PageLemmas.{all_taken, front_taken, line_more, lines_left, no_memory, no_sink, on_err}
