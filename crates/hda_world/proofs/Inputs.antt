-- What the moves of the input stream change.
use Rattle.std.proofs.Common.{◌≡◌, ◌⊎◌, ℕ, ◌==◌, Bool, true, false, List, [], ◌∷◌, ◌++◌, append-nil, refl, sym, ap, ◌∙◌, inl, inr}
use Rattle.std.proofs.lemmas.Bool.{false≢true}
use Rattle.hda_registers.specs.Fields.{Descriptor, is_out_of_reset, is_running, list_address}
use Rattle.world_rings.proofs.Callers.{stored_outside}
use Rattle.world_streams.specs.Streams.{Stream, broke}
use Rattle.world_streams.specs.Input.{frame_took, marks_of, memory_with, byte_stored, byte_place, oldest_byte}
use Rattle.hda_world.specs.Worlds.{World, input_of}
use Rattle.hda_world.specs.Arriving.{arriving}
use Rattle.hda_world.specs.Kept.{KeptByInput, KeptByMoves, input_broke}
use Rattle.hda_world.specs.Leaving.{DescriptorStays, WentOn}

not_both : {A : Type 0} (test : Bool) → test ≡ false → test ≡ true → A
not_both test off on = absurd (false≢true (sym off ∙ on))

-- ---- the descriptor

broke_stays : (stream : Stream) → is_running stream.descriptor ≡ true → DescriptorStays stream.descriptor (broke stream).descriptor
broke_stays stream runs = record { only = refl; run = inr (refl, refl); still = λ still. not_both (is_running stream.descriptor) still runs }

byte_stays : (memory : List ℕ) (stream : Stream) → is_running stream.descriptor ≡ true → DescriptorStays stream.descriptor (byte_stored memory stream).descriptor
byte_stays memory stream runs = record { only = refl; run = inl refl; still = λ still. not_both (is_running stream.descriptor) still runs }

took_stays : (fifo : ℕ) (blocks : List (List ℕ)) (stream : Stream) → is_running stream.descriptor ≡ true → DescriptorStays stream.descriptor (frame_took fifo blocks stream).descriptor
took_stays fifo [] stream runs = record { only = refl; run = inl refl; still = λ still. refl }
took_stays fifo (block ∷ blocks) stream runs = record { only = refl; run = inl refl; still = λ still. not_both (is_running stream.descriptor) still runs }

-- one change and then another of a descriptor
run_both : (first second third : Descriptor) → (second.run ≡ first.run) ⊎ ((second.run ≡ 0) × (second.descriptor_error ≡ 1))
    → (third.run ≡ second.run) ⊎ ((third.run ≡ 0) × (third.descriptor_error ≡ 1)) → (is_running second ≡ false → third ≡ second)
    → (third.run ≡ first.run) ⊎ ((third.run ≡ 0) × (third.descriptor_error ≡ 1))
run_both first second third one (inr broken) still = inr broken
run_both first second third (inl kept) (inl same) still = inl (same ∙ kept)
run_both first second third (inr broken) (inl same) still =
    let stays = still (ap (λ (run : ℕ). run == 1) broken.0) in
    inr (same ∙ broken.0, ap (λ (d : Descriptor). d.descriptor_error) stays ∙ broken.1)

pub descriptor_both : (first second third : Descriptor) → DescriptorStays first second → DescriptorStays second third → DescriptorStays first third
descriptor_both first second third one other = record {
  only = other.only ∙ ap (λ (d : Descriptor). record d {
    run = third.run;
    completion = third.completion;
    fifo_error = third.fifo_error;
    descriptor_error = third.descriptor_error;
    fifo_ready = third.fifo_ready;
    link_position = third.link_position;
  }) one.only;
  run = run_both first second third one.run other.run other.still;
  still = λ still. let same = one.still still in other.still (ap is_running same ∙ still) ∙ same;
}

-- ---- relations that are kept

same_came : (came : List Bool) → WentOn came came
same_came came = ([], sym (append-nil came))

-- one that every move of the input stream keeps
module _ (Holds : World → Type 0) (moves : KeptByMoves Holds) where
  breaks : (world : World) → Holds world → is_out_of_reset world.registers.global ≡ true → is_running world.registers.input ≡ true → Holds (input_broke world)
  breaks world holds out runs = moves world (record { memory = world.memory; stream = broke (input_of world); came = world.came }) holds
      (record { out = out; runs = runs; size = refl; descriptor = broke_stays (input_of world) runs; came = same_came world.came })

  pub by_moves : KeptByInput Holds
  by_moves = record {
    stores = λ world holds can some good. moves world (record {
      memory = memory_with world.memory (list_address world.registers.input) world.input;
      stream = byte_stored world.memory (input_of world);
      came = world.came;
    }) holds (record {
      out = can.out;
      runs = can.runs;
      size = (stored_outside (byte_place world.memory (list_address world.registers.input) world.input) (oldest_byte world.input ∷ []) world.memory).0;
      descriptor = byte_stays world.memory (input_of world) can.runs;
      came = same_came world.came;
    });
    jams = λ world holds can some bad. breaks world holds can.out can.runs;
    takes = λ world holds can. moves world (record {
      memory = world.memory;
      stream = frame_took world.registers.shape.fifo (arriving world) (input_of world);
      came = world.came ++ marks_of world.registers.shape.fifo (arriving world) (input_of world);
    }) holds (record {
      out = can.out;
      runs = can.runs;
      size = refl;
      descriptor = took_stays world.registers.shape.fifo (arriving world) (input_of world) can.runs;
      came = (marks_of world.registers.shape.fifo (arriving world) (input_of world), refl);
    });
    refuses = λ world holds must. breaks world holds must.out must.runs;
  }

-- one in which the input stream does not run
pub by_stopped : (Holds : World → Type 0) → ((world : World) → Holds world → is_running world.registers.input ≡ false) → KeptByInput Holds
by_stopped Holds stopped = record {
  stores = λ world holds can some good. not_both (is_running world.registers.input) (stopped world holds) can.runs;
  jams = λ world holds can some bad. not_both (is_running world.registers.input) (stopped world holds) can.runs;
  takes = λ world holds can. not_both (is_running world.registers.input) (stopped world holds) can.runs;
  refuses = λ world holds must. not_both (is_running world.registers.input) (stopped world holds) must.runs;
}
