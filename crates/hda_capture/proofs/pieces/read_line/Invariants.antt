use Rattle.std.proofs.Common.{◌≡◌, ◌≤◌, ◌+◌, ◌/◌, length, vec_len, vec_capacity}
use Rattle.period_writer.specs.Blocks.{addresses_of}
use Rattle.period_writer.proofs.Callers.{done}
use Rattle.hda_capture.specs.Reading.{ReadsPieces}
use Rattle.hda_capture.proofs.pieces.read_line.Given as goal

abbrev pub invariant-loop-step : goal.invariant-loop-step
invariant-loop-step g l = record {
  reads : ReadsPieces l.bytes (addresses_of l.periods) l.stretch.from l.stretch.to l.step l.initial.recorded.items l.recorded.items (g.P.Platform.told l.initial.platform) (g.P.Platform.told l.platform);
  length_is : vec_len l.recorded ≡ vec_len l.initial.recorded + done l.bytes l.stretch.from l.stretch.to l.step;
  capacity : vec_capacity l.initial.recorded ≤ vec_capacity l.recorded;
  bytes_is : l.bytes ≡ length l.initial.buffer;
  first : l.first ≡ l.stretch.from / l.bytes;
  fixed : g.P.Platform.fixed l.platform ≡ g.P.Platform.fixed l.initial.platform;
  accesses : g.P.Platform.spare_accesses l.platform + l.step ≡ g.P.Platform.spare_accesses l.initial.platform;
  spare : g.P.Platform.spare_bytes l.platform + done l.bytes l.stretch.from l.stretch.to l.step ≡ g.P.Platform.spare_bytes l.initial.platform;
}
