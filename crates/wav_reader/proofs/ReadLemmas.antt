-- What a read of a file's sound answers.
use Rattle.std.proofs.Common.{◌≡◌, ◌≤◌, ◌<◌, ℕ, ◌+◌, List, ◌++◌, length, take, Option, Some, None, Result, Err, subst, sym, ap, ◌∙◌, length-append, arith}
use Rattle.std.proofs.lemmas.List.{take-append-le}
use Rattle.circular_buffer.specs.Buffer.{Buffer, buffer}
use Rattle.hda_outside.specs.declared.pieces.Cut.{Cut}
use Rattle.hda_outside.specs.declared.pieces.Cut.TheVariants.{Short}
use Rattle.hda_outside.specs.Pieces.{HoldsFront}
use Rattle.hda_outside.specs.Shelf.{Files}
use Rattle.wav_reader.specs.Shelves.{HasFile}
use Rattle.wav_reader.specs.Heads.{Head, EndsWithin, IsRingFormat}
use Rattle.wav_reader.specs.Readers.{place_of, total}
use Rattle.wav_reader.proofs.PlaceLemmas.{place_before}

-- a byte of the sound stands in the file
pub place_inside : (file : List ℕ) (head : Head) (at : ℕ) → IsRingFormat head.mono head.format → EndsWithin file head → at < total head
    → place_of head at + 1 ≤ length file
place_inside file head at form within inside =
    let before = place_before head at form inside in
    omega (arith, before, within)

-- more put last leaves the first ones
pub kept_more : (old held part : List ℕ) → take (length old) held ≡ old → length old ≤ length held → take (length old) (held ++ part) ≡ old
kept_more old held part kept long = take-append-le (length old) held part long ∙ kept

-- the answer of a cut piece
abbrev pub failed : Cut → Result Unit Cut
failed cut = Err cut

pub short_cut : (found : Option Cut) (cut : Cut) (place : ℕ) → found ≡ Some cut → failed cut ≡ failed (Short place) → found ≡ Some (Short place)
short_cut found cut place is same = let inner : cut ≡ Short place = cc in is ∙ ap Some inner

pub short_err : (found : Option Cut) (cut : Cut) (place : ℕ) → found ≡ Some cut → found ≡ Some (Short place) → failed cut ≡ failed (Short place)
short_err found cut place is same = let inner : cut ≡ Short place = cc in ap failed inner

pub front_at : (file buffer : List ℕ) (at at' count count' : ℕ) → at ≡ at' → count ≡ count' → HoldsFront file at buffer count → HoldsFront file at' buffer count'
front_at file buffer at at' count count' place same front =
    subst (λ (at : ℕ). HoldsFront file at buffer count') place (subst (λ (count : ℕ). HoldsFront file at buffer count) same front)

-- more was put last, behind what was gained before
pub record IsStepped (old new : Buffer ℕ) (gained : ℕ) : Type 0 where
  pub capacity : new.capacity ≡ old.capacity
  pub kept : take (length old.items) new.items ≡ old.items
  pub long : length new.items ≡ length old.items + gained

pub stepped : (old held new : Buffer ℕ) (part : List ℕ) (before more : ℕ) → held.capacity ≡ old.capacity
    → take (length old.items) held.items ≡ old.items → length held.items ≡ length old.items + before
    → new ≡ buffer (held.items ++ part) held.capacity → length part ≡ more → IsStepped old new (before + more)
stepped old held new part before more capacity kept long put size =
    rw put
    (record {
      capacity = capacity;
      kept = kept_more old.items held.items part kept (omega (arith, long));
      long = omega (arith, long, size, length-append held.items part);
    })

-- a shelf that tells the file goes on telling it
pub still_has : (before after : Option Files) (name : List ℕ) (head : Head) (file : List ℕ) → after ≡ before → HasFile before name head file → HasFile after name head file
still_has before after name head file same has = subst (λ (told : Option Files). HasFile told name head file) (sym same) has

-- a piece that was cut
pub some_cut : (cut : Cut) → Some cut ≡ None → ⊥
some_cut cut same = cc
