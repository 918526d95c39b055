-- What a run of a recorder comes to, put together.
use Rattle.std.proofs.Common.{◌≡◌, ◌/◌, ◌∙◌, ℕ, List, [], ◌∷◌, Option, length, take, map, append_assoc, subst, if◌then◌else◌}
use Rattle.std.specs.List.{range_with_len, flat_map}
use Rattle.hda_registers.specs.declared.shapes.Width.TheVariants.{Four}
use Rattle.hda_registers.specs.declared.places.TheConstants.{WALCLK}
use Rattle.hda_world.specs.Events.{Event, Read}
use Rattle.hda_world.specs.Tellings.{Telling, Accessed, Between, Makes}
use Rattle.hda_world.proofs.Callers.{row_one, row_more, row_both}
use Rattle.period_writer.specs.Rings.{period_bytes}
use Rattle.period_writer.specs.Places.{touched}
use Rattle.hda_capture.specs.declared.course.Recorded.{Recorded}
use Rattle.hda_capture.specs.declared.registers.TheConstants.{POSITION}
use Rattle.hda_capture.specs.declared.turns.Turn.{Turn}
use Rattle.hda_capture.specs.Recordings.{facts_of, tally_after, is_record_late}
use Rattle.hda_capture.specs.Reading.{ReadsLine, line_reads, piece_size}
use Rattle.hda_capture.specs.Turns.{IsTurn}
use Rattle.hda_capture.specs.Recorders.{RecorderState, tally_of, measures_of, periods_of}
use Rattle.hda_capture.specs.Calls.{ReadsTurn, RecordsRun, stop_accesses}
use Rattle.hda_capture.proofs.RecordCourses.{bytes_kept}

-- up to its stop
pub turn_so : (old new : RecorderState) (turn : Turn) (answer : Recorded) (to : ℕ) (recorded : List ℕ) (t0 t1 t2 : Option Telling) → IsTurn (measures_of old) old.course turn → length old.bytes ≡ old.course.read
    → ReadsLine (period_bytes old.geometry.period) (periods_of old) old.course.read turn.upto old.bytes recorded t0 t1 → Between (λ old new. Accessed old new (Read WALCLK Four to)) t1 t2
    → tally_of new ≡ tally_after (measures_of old) (tally_of old) (facts_of turn.from turn.lpib to) → answer ≡ new.course.recorded
    → new.bytes ≡ (if is_record_late (measures_of old) old.course to then take old.course.read recorded else recorded) → ReadsTurn old turn.from turn.lpib answer new t0 t2
turn_so old new turn answer to recorded t0 t1 t2 is long reads last after answers bytes = record {
  to = to;
  pieces = reads.pieces;
  sizes = subst (λ (upto : ℕ). map length reads.pieces ≡ map (piece_size (period_bytes old.geometry.period) old.course.read upto) (range_with_len (old.course.read / period_bytes old.geometry.period) (touched (period_bytes old.geometry.period) old.course.read upto))) is.upto reads.sizes;
  made = row_both reads.made (row_one last);
  tally_is = after;
  answer_is = answers;
  bytes_is = bytes ∙ bytes_kept (is_record_late (measures_of old) old.course to) old.course.read old.bytes (flat_map (λ (piece : List ℕ). piece) reads.pieces) recorded long reads.bytes_is;
}

-- with the clock and LPIB before and the stop after it
pub run_so : (old new : RecorderState) (from lpib : ℕ) (answer : Recorded) (t0 t1 t2 t3 t4 : Option Telling) → Between (λ old new. Accessed old new (Read WALCLK Four from)) t0 t1 → Between (λ old new. Accessed old new (Read POSITION Four lpib)) t1 t2
    → ReadsTurn old from lpib answer new t2 t3 → Between (Makes (stop_accesses answer)) t3 t4 → RecordsRun old answer new t0 t4
run_so old new from lpib answer t0 t1 t2 t3 t4 first second turn stop = record {
  from = from;
  lpib = lpib;
  to = turn.to;
  pieces = turn.pieces;
  sizes = turn.sizes;
  made = row_more first (row_more second (subst (λ (events : List Event). Between (Makes events) t2 t4)
      (append_assoc (line_reads (period_bytes old.geometry.period) (periods_of old) old.course.read turn.pieces) (Read WALCLK Four turn.to ∷ []) (stop_accesses answer)) (row_both turn.made stop)));
  tally_is = turn.tally_is;
  answer_is = turn.answer_is;
  bytes_is = turn.bytes_is;
}
