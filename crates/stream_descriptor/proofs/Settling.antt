-- What a write of a register leaves of a stream.
use Rattle.std.proofs.Common.{◌≡◌, ℕ, sym, ap, subst, ◌∙◌}
use Rattle.hda_registers.specs.declared.shapes.Width.{Width}
use Rattle.hda_registers.specs.Fields.{Fields, is_running, stream_of}
use Rattle.hda_registers.specs.Access.{written}
use Rattle.world_streams.specs.Streams.{SamePlay, StreamState}
use Rattle.world_streams.proofs.Callers.{write_plays}
use Rattle.stream_descriptor.specs.Running.{Counts, Playing, StandsForBy, StoodForBy}

-- a stream that stood for its state before a write
pub stood_written : {counts : Counts} (playing : Playing) (before new : Fields) (at : ℕ) (width : Width) (value : ℕ) (state : StreamState) → StandsForBy counts playing before state
    → stream_of new playing.index ≡ stream_of (written before at width value) playing.index → new.shape ≡ before.shape
    → StoodForBy counts playing new (stream_of before playing.index) state
stood_written playing before new at width value state stands here shape = record {
  capacity = stands.capacity ∙ sym (ap (λ s. s.fifo) shape);
  stopped = stands.stopped;
  running = stands.running;
  plays = λ ran on. subst (SamePlay (stream_of before playing.index)) (sym here) (write_plays playing.index before at width value ran (ap is_running (sym here) ∙ on));
}
