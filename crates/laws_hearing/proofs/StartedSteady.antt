-- A stream that was just set going is steady.
use Rattle.std.proofs.Common.{◌≡◌, ℕ, List, [], length, drop, refl, sym, ap, subst, arith}
use Rattle.std.specs.Prelude.{All}
use Rattle.std.proofs.lemmas.List.{drop_all}
use Rattle.stream_format.specs.Words.{format_word}
use Rattle.stream_format.specs.Layouts.{layout}
use Rattle.world_streams.specs.Streams.{StreamState, begun}
use Rattle.hda_world.specs.Worlds.{World, CarriedFrame}
use Rattle.hda_world.specs.Streaming.{AreSent, HasSent, carried_bytes}
use Rattle.heard_frames.specs.HeardLists.{block_size}
use Rattle.period_writer.specs.Runs.{Tally}
use Rattle.period_writer.specs.Standing.{Ring}
use Rattle.period_writer.specs.Owning.{IsPlaying}
use Rattle.laws_hearing.specs.Steady.{IsSteadyFrame, Steady}

pub all_none : (P : CarriedFrame → Type 0) (frames : List CarriedFrame) → frames ≡ [] → All P frames
all_none P frames none = subst (All P) (sym none) (λ k d lt. absurd (omega (arith, lt)))

pub steady_at_first : (ring : Ring) (pcm : List ℕ) (tally : Tally) (world : World) → IsPlaying ring pcm tally world → world.registers.global.corb_read_pointer ≡ world.registers.global.corb_write_pointer
    → Steady world.codecs 1 (format_word ring.geometry.format) (block_size (layout ring.geometry.format)) (length world.carried) world
steady_at_first ring pcm tally world playing idle = record {
  settings = refl;
  idle = idle;
  tag_is = playing.stands.set.tag;
  word_is = playing.stands.set.format_is;
  begun = omega arith;
  frames = all_none (IsSteadyFrame world.codecs 1 (format_word ring.geometry.format) (block_size (layout ring.geometry.format))) (drop (length world.carried) world.carried)
      (drop_all (length world.carried) world.carried (omega arith));
}

pub sent_at_first : (world : World) → world.output ≡ begun → HasSent (length world.carried) world
sent_at_first world anew =
    subst (λ (state : StreamState). AreSent (length world.carried) state.frame state.left state.entered world.carried) (sym anew)
    (record { frames = omega arith; behind = omega arith; bytes = ap carried_bytes (drop_all (length world.carried) world.carried (omega arith)) })
