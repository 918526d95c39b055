-- What the reads of a start lead to.
use Rattle.std.proofs.Common.{◌≡◌, ℕ, ◌++◌, Option, Some, None, refl, sym, subst}
use Rattle.hda_world.specs.Tellings.{Telling, Between, Makes}
use Rattle.hda_world.proofs.Callers.{row_both}
use Rattle.command_engine.specs.declared.ring_places.RingPlaces.{RingPlaces}
use Rattle.command_engine.specs.Starting.{StartReads, codecs_in, rings_found, codecs_if, rings_if, first_reads, settings_if, corb_accesses, rirb_accesses, Starts}

-- the rings can't be set going
pub starts_not : (corb rirb status corb_size rirb_size : ℕ) (rings : RingPlaces) (old new : Option Telling) → rings_found status corb_size rirb_size ≡ None
    → Between (Makes (first_reads status corb_size rirb_size)) old new → Starts corb rirb rings 0 rings old new
starts_not corb rirb status corb_size rirb_size rings old new none made =
    let reads : StartReads = record { status = status; corb_size = corb_size; rirb_size = rirb_size; pointer_reset = 0; pointer_ready = 0 } in
    record {
      reads = reads;
      made = subst (λ (found : Option RingPlaces). Between (Makes (first_reads status corb_size rirb_size ++ settings_if found corb rirb reads)) old new) (sym none) made;
      answer_is = subst (λ (found : Option RingPlaces). 0 ≡ codecs_if found status) (sym none) refl;
      rings_are = subst (λ (found : Option RingPlaces). rings ≡ rings_if found rings) (sym none) refl;
    }

-- they were set going
pub starts_so : (corb rirb status corb_size rirb_size pointer_reset pointer_ready : ℕ) (rings begun : RingPlaces) (old middle next new : Option Telling) → rings_found status corb_size rirb_size ≡ Some begun
    → Between (Makes (first_reads status corb_size rirb_size)) old middle → Between (Makes (corb_accesses corb status pointer_reset pointer_ready)) middle next
    → Between (Makes (rirb_accesses rirb begun.rirb)) next new → Starts corb rirb rings (codecs_in status) begun old new
starts_so corb rirb status corb_size rirb_size pointer_reset pointer_ready rings begun old middle next new some first second third =
    let reads : StartReads = record { status = status; corb_size = corb_size; rirb_size = rirb_size; pointer_reset = pointer_reset; pointer_ready = pointer_ready } in
    record {
      reads = reads;
      made = subst (λ (found : Option RingPlaces). Between (Makes (first_reads status corb_size rirb_size ++ settings_if found corb rirb reads)) old new) (sym some) (row_both first (row_both second third));
      answer_is = subst (λ (found : Option RingPlaces). codecs_in status ≡ codecs_if found status) (sym some) refl;
      rings_are = subst (λ (found : Option RingPlaces). begun ≡ rings_if found rings) (sym some) refl;
    }
