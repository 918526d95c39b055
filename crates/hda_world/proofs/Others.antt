-- A step leaves the codecs alone that it does not name.
use Rattle.std.proofs.Common.{◌≡◌, ◌≢◌, ℕ, zero, suc, Bool, true, false, List, [], ◌∷◌, if◌then◌else◌, ◌&&◌, ◌==◌, nat_lt, length, Option, Some, None, refl, ◌∙◌}
use Rattle.codec_graph.specs.declared.waiting.Waiting.{Waiting}
use Rattle.codec_graph.specs.CodecStates.{taken, plugged, without_first, without_answer}
use Rattle.hda_registers.specs.Fields.{is_out_of_reset}
use Rattle.world_rings.specs.Engines.{next_word}
use Rattle.world_rings.specs.declared.response.TheConstants.{MOST_WAITING}
use Rattle.world_steps.specs.declared.Step.{Step}
use Rattle.world_steps.specs.declared.Step.TheVariants as step
use Rattle.codec_graph.proofs.Callers.{graph-plugged}
use Rattle.world_streams.specs.Output.{frame_of}
use Rattle.hda_world.specs.Worlds.{World, codec_at, output_of}
use Rattle.hda_world.specs.Steps.{address_of, handed, handed_next, is_busy, sent_first, waiting_of, lost, passed, output_framed, input_framed, output_fetched, input_stored, frame_step, times, after_step, after_steps}
use Rattle.hda_world.specs.Leaving.{AddressesOther, NamesOthers, NameOthers}
use Rattle.hda_world.proofs.Leaving.{found_apart}

module _ (address : ℕ) where
  either : (test : Bool) (new old : World) → codec_at address new.codecs ≡ codec_at address old.codecs
      → codec_at address (if test then new else old).codecs ≡ codec_at address old.codecs
  either true new old same = same
  either false new old same = refl

  either_not : (test : Bool) (new old : World) → codec_at address new.codecs ≡ codec_at address old.codecs
      → codec_at address (if test then old else new).codecs ≡ codec_at address old.codecs
  either_not true new old same = refl
  either_not false new old same = same

  either_of : (test : Bool) (one other old : World) → codec_at address one.codecs ≡ codec_at address old.codecs → codec_at address other.codecs ≡ codec_at address old.codecs
      → codec_at address (if test then one else other).codecs ≡ codec_at address old.codecs
  either_of true one other old first second = first
  either_of false one other old first second = second

  corb_leaves : (next : Option ℕ) (world : World) → AddressesOther next address → codec_at address (handed_next next world).codecs ≡ codec_at address world.codecs
  corb_leaves None world apart = refl
  corb_leaves (Some word) world apart =
      either_not (is_busy (codec_at (address_of word) world.codecs)) (handed word world) world
      (found_apart (address_of word) address (λ codec. taken codec word) (λ codec. refl) apart world.codecs)

  sent_leaves : (items : List Waiting) (codec : ℕ) (world : World) → address ≢ codec → codec_at address (sent_first codec items world).codecs ≡ codec_at address world.codecs
  sent_leaves [] codec world apart = refl
  sent_leaves (item ∷ items) codec world apart = found_apart codec address without_first (λ codec. refl) apart world.codecs

  frame_leaves : (world : World) → codec_at address (frame_step world).codecs ≡ codec_at address world.codecs
  frame_leaves world = either (is_out_of_reset world.registers.global) (input_framed (output_framed (frame_of (output_of world)) (passed world))) world refl

  frames_leave : (frames : ℕ) (world : World) → codec_at address (times frames frame_step world).codecs ≡ codec_at address world.codecs
  frames_leave zero world = refl
  frames_leave (suc frames) world = frames_leave frames (frame_step world) ∙ frame_leaves world

pub step_leaves_others : (step : Step) (world : World) (address : ℕ) → NamesOthers step world address
    → codec_at address (after_step step world).codecs ≡ codec_at address world.codecs
step_leaves_others step.Corb world address others = corb_leaves address (next_word world.registers world.memory) world others
step_leaves_others (step.Answer codec) world address others =
    either address (is_out_of_reset world.registers.global && nat_lt (length world.waiting) MOST_WAITING) _ world (sent_leaves address (waiting_of (codec_at codec world.codecs)) codec world others)
step_leaves_others (step.Lose codec) world address others =
    either address (is_out_of_reset world.registers.global) (lost codec world) world (found_apart codec address without_answer (λ codec. refl) others world.codecs)
step_leaves_others step.Rirb world address others = refl
step_leaves_others (step.Fetch stream most) world address others =
    either_of address (is_out_of_reset world.registers.global && stream == 1) (output_fetched most world) _ world refl
    (either address (is_out_of_reset world.registers.global && stream == 0) (input_stored most world) world refl)
step_leaves_others (step.Link frames) world address others = frames_leave address frames world
step_leaves_others (step.Plug codec nid) world address others = found_apart codec address (λ codec. plugged codec nid true) (graph-plugged nid true) others world.codecs
step_leaves_others (step.Unplug codec nid) world address others = found_apart codec address (λ codec. plugged codec nid false) (graph-plugged nid false) others world.codecs

pub steps_leave_others : (steps : List Step) (world : World) (address : ℕ) → NameOthers steps world address
    → codec_at address (after_steps steps world).codecs ≡ codec_at address world.codecs
steps_leave_others [] world address others = refl
steps_leave_others (step ∷ steps) world address others =
    steps_leave_others steps (after_step step world) address others.1 ∙ step_leaves_others step world address others.0
