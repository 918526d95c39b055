-- Steps in which no codec takes a command.
use Rattle.std.proofs.Common.{◌≡◌, ◌&&◌, ℕ, zero, suc, Bool, true, false, nat_lt, List, [], ◌∷◌, length, if◌then◌else◌, refl, ◌∙◌}
use Rattle.codec_graph.specs.declared.waiting.Waiting.{Waiting}
use Rattle.hda_registers.specs.Fields.{is_out_of_reset}
use Rattle.world_rings.specs.declared.response.TheConstants.{MOST_WAITING}
use Rattle.world_streams.specs.Output.{frame_of}
use Rattle.hda_world.specs.Worlds.{World, codec_at, output_of}
use Rattle.hda_world.specs.Steps.{answer_step, sent_first, waiting_of, lose_step, lost, fetch_step, output_fetched, input_stored, times, frame_step, input_framed, output_framed, passed}

answer_first : (world : World) (address : ℕ) (waiting : List Waiting) → (sent_first address waiting world).commands ≡ world.commands
answer_first world address [] = refl
answer_first world address (item ∷ rest) = refl

answer_when : (world : World) (address : ℕ) (can : Bool) → (if can then sent_first address (waiting_of (codec_at address world.codecs)) world else world).commands ≡ world.commands
answer_when world address true = answer_first world address (waiting_of (codec_at address world.codecs))
answer_when world address false = refl

pub answer_takes : (address : ℕ) (world : World) → (answer_step address world).commands ≡ world.commands
answer_takes address world = answer_when world address (is_out_of_reset world.registers.global && nat_lt (length world.waiting) MOST_WAITING)

lose_when : (world : World) (address : ℕ) (out : Bool) → (if out then lost address world else world).commands ≡ world.commands
lose_when world address true = refl
lose_when world address false = refl

pub lose_takes : (address : ℕ) (world : World) → (lose_step address world).commands ≡ world.commands
lose_takes address world = lose_when world address (is_out_of_reset world.registers.global)

fetch_when : (world : World) (most : ℕ) (fetches stores : Bool) → (if fetches then output_fetched most world else (if stores then input_stored most world else world)).commands ≡ world.commands
fetch_when world most true stores = refl
fetch_when world most false true = refl
fetch_when world most false false = refl

pub fetch_takes : (stream most : ℕ) (world : World) → (fetch_step stream most world).commands ≡ world.commands
fetch_takes stream most world = fetch_when world most _ _

frame_when : (world : World) (out : Bool) → (if out then input_framed (output_framed (frame_of (output_of world)) (passed world)) else world).commands ≡ world.commands
frame_when world true = refl
frame_when world false = refl

frame_takes : (world : World) → (frame_step world).commands ≡ world.commands
frame_takes world = frame_when world (is_out_of_reset world.registers.global)

pub frames_take : (count : ℕ) (world : World) → (times count frame_step world).commands ≡ world.commands
frames_take zero world = refl
frames_take (suc count) world = frames_take count (frame_step world) ∙ frame_takes world
