-- The wall clock and the state change status over moves of the device.
use Rattle.std.proofs.Common.{map, ◌≡◌, ◌<◌, ◌≤◌, ◌⊎◌, ◌+◌, ◌*◌, ◌/◌, ◌%◌, ◌^◌, ◌==◌, ℕ, Bool, true, false, List, [], ◌∷◌, ◌++◌, if◌then◌else◌, ◌≢◌, append_assoc, refl, sym, ap, subst, ◌∙◌, inl, inr, arith, rules}
use Rattle.std.specs.Prelude.{Contains, bit_or}
use Rattle.std.proofs.Math.Nat.{mod-add-div, add-mul-mod_self_left}
use Rattle.std.proofs.lemmas.Bool.{cases_lt}
use Rattle.std.proofs.lemmas.Nat.Bits.{bit_at_or, bit_at-pow_other}
use Rattle.std.proofs.lemmas.List.Elements.{Contains-append_right}
use Rattle.codec_graph.specs.declared.raw.RawCodec.{RawCodec}
use Rattle.codec_graph.specs.CodecStates.{CodecState, plugged}
use Rattle.hda_registers.specs.declared.shapes.Raise.TheVariants as event
use Rattle.hda_registers.specs.Fields.{Fields, is_out_of_reset}
use Rattle.hda_registers.specs.Moves.{framed, raised}
use Rattle.codec_graph.proofs.Callers.{graph-plugged}
use Rattle.world_rings.specs.declared.response.Response.{Response}
use Rattle.world_rings.specs.Entries.{after_response, after_responses}
use Rattle.world_rings.proofs.Callers.{status_responded}
use Rattle.hda_world.specs.declared.step.TheConstants.{FRAMES_TO_DISCOVERY}
use Rattle.hda_world.specs.Worlds.{World, with_codec}
use Rattle.hda_world.specs.Steps.{discovered, passed}
use Rattle.hda_world.specs.Kept.{Kept}
use Rattle.hda_world.specs.Discovery.{addresses_of}
use Rattle.hda_world.proofs.Callers.{frames_after, passed_global, graphs-with_codec, addresses-with_codec, by_moves}
use Rattle.driver_progress.specs.Beginning.{AreOnly, HasOnly, KeepsTime}

-- addresses are those of the graphs
of_graphs : (codecs : List CodecState) → addresses_of codecs ≡ map (λ (graph : RawCodec). graph.address) (map (λ (codec : CodecState). codec.graph) codecs)
of_graphs [] = refl
of_graphs (codec ∷ codecs) = ap (λ (addresses : List ℕ). codec.graph.address ∷ addresses) (of_graphs codecs)

clock_after : (responses : List Response) (fields : Fields) → (after_responses fields responses).global.wall_clock ≡ fields.global.wall_clock
clock_after [] fields = refl
clock_after (response ∷ responses) fields = clock_after responses (after_response fields)

tick_on : (modulus ticks more : ℕ) → (ticks % modulus + more) % modulus ≡ (ticks + more) % modulus
tick_on modulus ticks more =
    let whole = mod-add-div ticks modulus in
    sym (add-mul-mod_self_left (ticks % modulus + more) modulus (ticks / modulus))
    ∙ ap (λ (n : ℕ). n % modulus) (let same : ticks % modulus + more + modulus * (ticks / modulus) ≡ ticks + more = omega (arith, whole) in same)

next_tick : (frames : ℕ) → (500 * frames % 2 ^ 32 + 500) % 2 ^ 32 ≡ 500 * (frames + 1) % 2 ^ 32
next_tick frames = tick_on (2 ^ 32) (500 * frames) 500 ∙ ap (λ (n : ℕ). n % 2 ^ 32) (let same : 500 * frames + 500 ≡ 500 * (frames + 1) = omega arith in same)

clock_framed : (world : World) → is_out_of_reset world.registers.global ≡ true → (passed world).registers.global.wall_clock ≡ (world.registers.global.wall_clock + 500) % 2 ^ 32
clock_framed world out =
    ap (λ global. global.wall_clock) (passed_global world)
    ∙ ap (λ (out : Bool). if out then (world.registers.global.wall_clock + 500) % 2 ^ 32 else world.registers.global.wall_clock) out

time_passes : (world : World) → KeepsTime world → is_out_of_reset world.registers.global ≡ true → KeepsTime (passed world)
time_passes world holds out = clock_framed world out ∙ ap (λ (clock : ℕ). (clock + 500) % 2 ^ 32) holds ∙ next_tick world.frames

pub keeps_time : Kept KeepsTime
keeps_time = record {
  codecs = record {
    hands = λ world holds can free. holds;
    sends = λ world address item rest holds out room are. holds;
    loses = λ world address holds out. holds;
    plugs = λ world address nid present holds. holds;
  };
  responds = λ world response rest holds can are. clock_after (response ∷ rest) world.registers ∙ holds;
  bytes = record {
    comes = λ world holds can room good is. holds;
    ends = λ world holds can room good is. holds;
    breaks = λ world holds can room bad. holds;
    refuses = λ world holds must. holds;
  };
  input = by_moves KeepsTime (λ world change holds moves. holds);
  passes = λ world holds out still. time_passes world holds out;
  frames = frames_after KeepsTime time_passes (record {
    gaps = λ world holds can none. holds;
    sends = λ world holds can some enough. holds;
    misses = λ world holds can short. holds;
    stops = λ world holds must. holds;
  });
}

-- ---- which bits of the state change status are 1

only_more : (status address : ℕ) (addresses : List ℕ) → Contains addresses address → AreOnly status addresses → AreOnly (bit_or status (2 ^ address)) addresses
only_more status address addresses there only bit is = by (cases_lt bit address) (cases_lt address bit)
  where
    apart : bit ≢ address → Contains addresses bit
    apart other =
        let none = bit_at-pow_other address bit other in
        let joined = bit_at_or status (2 ^ address) bit in
        only bit (omega (arith, none, joined, is))

    by : (bit < address) ⊎ (address ≤ bit) → (address < bit) ⊎ (bit ≤ address) → Contains addresses bit
    by (inl below) two = apart (omega (arith, below))
    by (inr above) (inl over) = apart (omega (arith, over))
    by (inr above) (inr under) = subst (Contains addresses) (let same : address ≡ bit = omega (arith, above, under) in same) there

only_discovered : (codecs : List CodecState) (before addresses : List ℕ) (fields : Fields) → addresses ≡ before ++ addresses_of codecs → AreOnly fields.global.state_status addresses
    → AreOnly (discovered codecs fields).global.state_status addresses
only_discovered [] before addresses fields are only = only
only_discovered (codec ∷ codecs) before addresses fields are only =
    let address = codec.graph.address in
    let there : Contains addresses address = subst (λ (all : List ℕ). Contains all address) (sym are) (Contains-append_right before (address ∷ addresses_of codecs) address (0, search rules, refl)) in
    only_discovered codecs (before ++ address ∷ []) addresses (raised fields (event.Codec address)) (are ∙ sym (append_assoc before (address ∷ []) (addresses_of codecs)))
    (only_more fields.global.state_status address addresses there only)

only_if : (now : Bool) (codecs : List CodecState) (fields : Fields) → AreOnly fields.global.state_status (addresses_of codecs)
    → AreOnly (if now then discovered codecs fields else fields).global.state_status (addresses_of codecs)
only_if true codecs fields only = only_discovered codecs [] (addresses_of codecs) fields refl only
only_if false codecs fields only = only

only_passes : (world : World) → HasOnly world → is_out_of_reset world.registers.global ≡ true → HasOnly (passed world)
only_passes world holds out = only_if (world.frames + 1 == FRAMES_TO_DISCOVERY) world.codecs (framed world.registers) holds

only_changed : (world : World) (address : ℕ) (change : CodecState → CodecState) → ((codec : CodecState) → (change codec).graph ≡ codec.graph) → HasOnly world
    → AreOnly world.registers.global.state_status (addresses_of (with_codec address change world.codecs))
only_changed world address change keeps holds = subst (AreOnly world.registers.global.state_status) (sym (addresses-with_codec address change keeps world.codecs)) holds

pub keeps_only : Kept HasOnly
keeps_only = record {
  codecs = record {
    hands = λ world holds can free. only_changed world _ _ (λ codec. refl) holds;
    sends = λ world address item rest holds out room are. only_changed world _ _ (λ codec. refl) holds;
    loses = λ world address holds out. only_changed world _ _ (λ codec. refl) holds;
    plugs = λ world address nid present holds. only_changed world address (λ codec. plugged codec nid present) (graph-plugged nid present) holds;
  };
  responds = λ world response rest holds can are. subst (λ (status : ℕ). AreOnly status (addresses_of world.codecs)) (sym (status_responded (response ∷ rest) world.registers)) holds;
  bytes = record {
    comes = λ world holds can room good is. holds;
    ends = λ world holds can room good is. holds;
    breaks = λ world holds can room bad. holds;
    refuses = λ world holds must. holds;
  };
  input = by_moves HasOnly (λ world change holds moves. holds);
  passes = λ world holds out still. only_passes world holds out;
  frames = frames_after HasOnly only_passes (record {
    gaps = λ world holds can none. holds;
    sends = λ world holds can some enough. holds;
    misses = λ world holds can short. holds;
    stops = λ world holds must. holds;
  });
}

-- ---- in reset the clock stands still

-- the controller is in reset, and its clock is 0
pub record IsHeld (world : World) : Type 0 where
  pub held : world.registers.global.controller_reset ≡ 0
  pub clock : world.registers.global.wall_clock ≡ 0

reset_after : (responses : List Response) (fields : Fields) → (after_responses fields responses).global.controller_reset ≡ fields.global.controller_reset
reset_after [] fields = refl
reset_after (response ∷ responses) fields = reset_after responses (after_response fields)

not_held : (world : World) → IsHeld world → is_out_of_reset world.registers.global ≡ true → ⊥
not_held world holds out = let still : (0 == 1) ≡ true = ap (λ (reset : ℕ). reset == 1) (sym holds.held) ∙ out in cc

abbrev same_held : (old new : World) → Type 0
same_held old new = (new.registers.global.controller_reset ≡ old.registers.global.controller_reset) × (new.registers.global.wall_clock ≡ old.registers.global.wall_clock)

held_on : (old new : World) → same_held old new → IsHeld old → IsHeld new
held_on old new same holds = record { held = same.0 ∙ holds.held; clock = same.1 ∙ holds.clock }

pub keeps_held : Kept IsHeld
keeps_held = record {
  codecs = record {
    hands = λ world holds can free. held_on world _ (refl, refl) holds;
    sends = λ world address item rest holds out room are. held_on world _ (refl, refl) holds;
    loses = λ world address holds out. held_on world _ (refl, refl) holds;
    plugs = λ world address nid present holds. held_on world _ (refl, refl) holds;
  };
  responds = λ world response rest holds can are. held_on world _ (reset_after (response ∷ rest) world.registers, clock_after (response ∷ rest) world.registers) holds;
  bytes = record {
    comes = λ world holds can room good is. absurd (not_held world holds can.out);
    ends = λ world holds can room good is. absurd (not_held world holds can.out);
    breaks = λ world holds can room bad. absurd (not_held world holds can.out);
    refuses = λ world holds must. absurd (not_held world holds must.out);
  };
  input = by_moves IsHeld (λ world change holds moves. held_on world _ (refl, refl) holds);
  passes = λ world holds out still. absurd (not_held world holds out);
  frames = record {
    gaps = λ world holds can none. absurd (not_held world holds can.out);
    sends = λ world holds can some enough. absurd (not_held world holds can.out);
    misses = λ world holds can short. absurd (not_held world holds can.out);
    stops = λ world holds must. absurd (not_held world holds must.out);
  };
}
