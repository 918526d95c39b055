-- That the codecs are discovered is kept by every move of the device.
use Rattle.std.proofs.Common.{◌≡◌, ◌<◌, ◌≤◌, ◌+◌, ◌^◌, ◌==◌, ℕ, zero, suc, Bool, true, false, bit_or, List, [], ◌∷◌, if◌then◌else◌, refl, sym, ap, subst, ◌∙◌, arith, rules, tests, lit<, lit≤}
use Rattle.std.specs.Int.{bit_at}
use Rattle.std.proofs.lemmas.Nat.Bits.{bit_at_or, bit_at-lt, bit_at-pow_same}
use Rattle.std.proofs.lemmas.List.Elements.{All-nil, All-cons, All-head, All-tail}
use Rattle.codec_graph.specs.CodecStates.{CodecState, plugged}
use Rattle.hda_registers.specs.declared.shapes.Raise.TheVariants as event
use Rattle.hda_registers.specs.Fields.{Fields, is_out_of_reset}
use Rattle.hda_registers.specs.Moves.{framed, raised}
use Rattle.world_steps.specs.declared.Step.{Step}
use Rattle.hda_world.specs.declared.step.TheConstants.{FRAMES_TO_DISCOVERY}
use Rattle.world_streams.specs.Output.{frame_of}
use Rattle.hda_world.specs.Worlds.{World, with_codec, output_of}
use Rattle.world_steps.specs.declared.Step.TheVariants as step
use Rattle.codec_graph.proofs.Callers.{graph-plugged}
use Rattle.world_rings.proofs.Callers.{status_responded}
use Rattle.hda_world.specs.Steps.{discovered, passed, output_framed, input_framed, frame_step, times, after_step, after_steps}
use Rattle.hda_world.specs.Kept.{Kept}
use Rattle.hda_world.specs.Discovery.{addresses_of, AreSet, IsDiscovered}
use Rattle.hda_world.proofs.Inputs.{by_moves}
use Rattle.hda_world.proofs.Stepping.{kept_step, kept_steps, frames_after, passed_out}

-- a bit that is 1 stays so, and the codec's own becomes 1
bit_stays : (status bit address : ℕ) → bit_at status bit ≡ 1 → bit_at (bit_or status (2 ^ address)) bit ≡ 1
bit_stays status bit address is =
    let small = bit_at-lt (2 ^ address) bit in
    bit_at_or status (2 ^ address) bit ∙ omega arith

bit_comes : (status address : ℕ) → bit_at (bit_or status (2 ^ address)) address ≡ 1
bit_comes status address =
    let small = bit_at-lt status address in
    let own = bit_at-pow_same address in
    bit_at_or status (2 ^ address) address ∙ omega arith

abbrev IsSet : ℕ → ℕ → Type 0
IsSet status address = bit_at status address ≡ 1

all_stay : (status address : ℕ) (addresses : List ℕ) → AreSet status addresses → AreSet (bit_or status (2 ^ address)) addresses
all_stay status address [] are = All-nil _
all_stay status address (first ∷ rest) are =
    All-cons (IsSet (bit_or status (2 ^ address))) first rest (bit_stays status first address (All-head (IsSet status) first rest are)) (all_stay status address rest (All-tail (IsSet status) first rest are))

one_stays : (codecs : List CodecState) (fields : Fields) (address : ℕ) → IsSet fields.global.state_status address → IsSet (discovered codecs fields).global.state_status address
one_stays [] fields address is = is
one_stays (codec ∷ codecs) fields address is =
    one_stays codecs (raised fields (event.Codec codec.graph.address)) address (bit_stays fields.global.state_status address codec.graph.address is)

all_come : (codecs : List CodecState) (fields : Fields) → AreSet (discovered codecs fields).global.state_status (addresses_of codecs)
all_come [] fields = All-nil _
all_come (codec ∷ codecs) fields =
    let next = raised fields (event.Codec codec.graph.address) in
    All-cons (IsSet (discovered codecs next).global.state_status) codec.graph.address (addresses_of codecs)
    (one_stays codecs next codec.graph.address (bit_comes fields.global.state_status codec.graph.address)) (all_come codecs next)

at_most : (frames : ℕ) → (frames + 1 == FRAMES_TO_DISCOVERY) ≡ false → FRAMES_TO_DISCOVERY ≤ frames + 1 → FRAMES_TO_DISCOVERY ≤ frames
at_most frames other late = search (rules, tests)

frame_by : (now : Bool) (world : World) → (world.frames + 1 == FRAMES_TO_DISCOVERY) ≡ now → IsDiscovered world → FRAMES_TO_DISCOVERY ≤ world.frames + 1
    → AreSet (if now then discovered world.codecs (framed world.registers) else framed world.registers).global.state_status (addresses_of world.codecs)
frame_by true world is holds late = all_come world.codecs (framed world.registers)
frame_by false world is holds late = holds (at_most world.frames is late)

pub addresses-with_codec : (address : ℕ) (change : CodecState → CodecState) → ((codec : CodecState) → (change codec).graph ≡ codec.graph) → (codecs : List CodecState) → addresses_of (with_codec address change codecs) ≡ addresses_of codecs
addresses-with_codec address change keeps [] = refl
addresses-with_codec address change keeps (codec ∷ codecs) =
    let first : (named : Bool) → (if named then change codec else codec).graph.address ≡ codec.graph.address = λ named. elim named as (λ b. (if b then change codec else codec).graph.address ≡ codec.graph.address) [ true ↦ ap (λ graph. graph.address) (keeps codec) | false ↦ refl ] in
    ap (λ (at : ℕ). at ∷ addresses_of (with_codec address change codecs)) (first _) ∙ ap (λ (rest : List ℕ). codec.graph.address ∷ rest) (addresses-with_codec address change keeps codecs)

changed : (world : World) (address : ℕ) (change : CodecState → CodecState) → ((codec : CodecState) → (change codec).graph ≡ codec.graph) → IsDiscovered world
    → FRAMES_TO_DISCOVERY ≤ world.frames → AreSet world.registers.global.state_status (addresses_of (with_codec address change world.codecs))
changed world address change keeps holds late = subst (AreSet world.registers.global.state_status) (sym (addresses-with_codec address change keeps world.codecs)) (holds late)

pub keeps_discovery : Kept IsDiscovered
keeps_discovery = record {
  codecs = record {
    hands = λ world holds can free. changed world _ _ (λ codec. refl) holds;
    sends = λ world address item rest holds out room are. changed world _ _ (λ codec. refl) holds;
    loses = λ world address holds out. changed world _ _ (λ codec. refl) holds;
    plugs = λ world address nid present holds. changed world address (λ codec. plugged codec nid present) (graph-plugged nid present) holds;
  };
  responds = λ world response rest holds can are late.
      subst (λ (status : ℕ). AreSet status (addresses_of world.codecs)) (sym (status_responded (response ∷ rest) world.registers)) (holds late);
  bytes = record {
    comes = λ world holds can room good is. holds;
    ends = λ world holds can room good is. holds;
    breaks = λ world holds can room bad. holds;
    refuses = λ world holds must. holds;
  };
  input = by_moves IsDiscovered (λ world change holds moves. holds);
  passes = λ world holds out still late. frame_by _ world refl holds late;
  frames = frames_after IsDiscovered (λ world holds out late. frame_by _ world refl holds late) (record {
    gaps = λ world holds can none. holds;
    sends = λ world holds can some enough. holds;
    misses = λ world holds can short. holds;
    stops = λ world holds must. holds;
  });
}

pub steps_keep_discovery : (steps : List Step) (world : World) → IsDiscovered world → IsDiscovered (after_steps steps world)
steps_keep_discovery steps world holds = kept_steps IsDiscovered keeps_discovery steps world holds

-- ---- when the codecs are discovered

out_frame : (world : World) → is_out_of_reset world.registers.global ≡ true → frame_step world ≡ input_framed (output_framed (frame_of (output_of world)) (passed world))
out_frame world out = ap (λ (out : Bool). if out then input_framed (output_framed (frame_of (output_of world)) (passed world)) else world) out

still_out : (world : World) → is_out_of_reset world.registers.global ≡ true → is_out_of_reset (frame_step world).registers.global ≡ true
still_out world out = ap (λ (after : World). is_out_of_reset after.registers.global) (out_frame world out) ∙ passed_out world out

pub frames_count : (n : ℕ) (world : World) → is_out_of_reset world.registers.global ≡ true → (times n frame_step world).frames ≡ world.frames + n
frames_count zero world out = omega arith
frames_count (suc n) world out =
    let one : (frame_step world).frames ≡ world.frames + 1 = ap (λ (after : World). after.frames) (out_frame world out) in
    frames_count n (frame_step world) (still_out world out) ∙ omega arith

codecs_stay : (n : ℕ) (world : World) → is_out_of_reset world.registers.global ≡ true → (times n frame_step world).codecs ≡ world.codecs
codecs_stay zero world out = refl
codecs_stay (suc n) world out = codecs_stay n (frame_step world) (still_out world out) ∙ ap (λ (after : World). after.codecs) (out_frame world out)

not_now : (now : Bool) (codecs : List CodecState) (fields : Fields) → now ≡ false → (if now then discovered codecs fields else fields).global.state_status ≡ fields.global.state_status
not_now now codecs fields is = rw is refl

not_this : (n m : ℕ) → n < m → (n == m) ≡ false
not_this n m below = search (rules, tests)

status_stays : (n : ℕ) (world : World) → is_out_of_reset world.registers.global ≡ true → world.frames + n < FRAMES_TO_DISCOVERY
    → (times n frame_step world).registers.global.state_status ≡ world.registers.global.state_status
status_stays zero world out early = refl
status_stays (suc n) world out early =
    let one : (frame_step world).frames ≡ world.frames + 1 = ap (λ (after : World). after.frames) (out_frame world out) in
    status_stays n (frame_step world) (still_out world out) (omega (arith, one))
    ∙ ap (λ (after : World). after.registers.global.state_status) (out_frame world out)
    ∙ not_now (world.frames + 1 == FRAMES_TO_DISCOVERY) world.codecs (framed world.registers) (not_this (world.frames + 1) FRAMES_TO_DISCOVERY (omega arith))

pub discovered_in_time : (world : World) → is_out_of_reset world.registers.global ≡ true → world.frames ≡ 0
    → AreSet (after_step (step.Link 25) world).registers.global.state_status (addresses_of world.codecs)
discovered_in_time world out fresh =
    let late : FRAMES_TO_DISCOVERY ≤ (times 25 frame_step world).frames = rw (frames_count 25 world out, fresh) (lit≤ tt) in
    subst (λ (codecs : List CodecState). AreSet (times 25 frame_step world).registers.global.state_status (addresses_of codecs)) (codecs_stay 25 world out)
    (kept_step IsDiscovered keeps_discovery (step.Link 25) world (λ already. absurd (omega (arith, fresh))) late)

pub not_discovered_before : (world : World) → is_out_of_reset world.registers.global ≡ true → world.frames ≡ 0
    → (after_step (step.Link 24) world).registers.global.state_status ≡ world.registers.global.state_status
not_discovered_before world out fresh = status_stays 24 world out (rw fresh (lit< tt))
