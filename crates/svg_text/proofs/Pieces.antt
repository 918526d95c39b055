-- Pieces that are appended one after another.
use Rattle.std.proofs.Common.{◌≡◌, ◌∙◌, ℕ, ◌+◌, ◌<◌, List, ◌++◌, append_assoc, ap, sym, take, drop, get_or, length, Option, arith, length-append}
use Rattle.std.specs.List.{flat_map}
use Rattle.std.proofs.lemmas.List.{take-append-le}
use Rattle.std.proofs.Math.Seq.{take-append_seam}
use Rattle.hda_outside.specs.Sink.{taken_with, TookFront}
use Rattle.sound_report.specs.Pages.{TookAllBut}
use Rattle.sound_report.proofs.Callers.{lines_left}

pub pieces_4 : (out a b c d : List ℕ) → (((out ++ a) ++ b) ++ c) ++ d ≡ out ++ (((a ++ b) ++ c) ++ d)
pieces_4 out a b c d = simp append_assoc

pub pieces_5 : (out a b c d e : List ℕ) → ((((out ++ a) ++ b) ++ c) ++ d) ++ e ≡ out ++ ((((a ++ b) ++ c) ++ d) ++ e)
pieces_5 out a b c d e = simp append_assoc

pub pieces_6 : (out a b c d e f : List ℕ) → (((((out ++ a) ++ b) ++ c) ++ d) ++ e) ++ f ≡ out ++ (((((a ++ b) ++ c) ++ d) ++ e) ++ f)
pieces_6 out a b c d e f = simp append_assoc

pub pieces_7 : (out a b c d e f g : List ℕ) → ((((((out ++ a) ++ b) ++ c) ++ d) ++ e) ++ f) ++ g ≡ out ++ ((((((a ++ b) ++ c) ++ d) ++ e) ++ f) ++ g)
pieces_7 out a b c d e f g = simp append_assoc

-- the texts of items from one on, at an item under a name of its own
pub left_at : {X : Type 0} (text : X → List ℕ) (items : List X) (i : ℕ) (item : X) → i < length items → item ≡ get_or items i item
    → flat_map text (drop i items) ≡ text item ++ flat_map text (drop (i + 1) items)
left_at text items i item within is =
    lines_left text items i item within ∙ ap (λ x. text x ++ flat_map text (drop (i + 1) items)) (sym is)

-- a front of the first bytes is a front of all
pub front_longer : (before now : Option (List ℕ)) (xs ys : List ℕ) → TookFront before now xs → TookFront before now (xs ++ ys)
front_longer before now xs ys took =
    record {
      count = took.count;
      within = omega (arith, took.within, length-append xs ys);
      front = took.front ∙ ap (taken_with before) (sym (take-append-le took.count xs ys took.within));
    }

-- what was taken up to some rest is a front
pub front_of_rest : {before now : Option (List ℕ)} {bytes rest : List ℕ} → TookAllBut before now bytes rest → TookFront before now bytes
front_of_rest {before = before} {now} {bytes} {rest} took =
    record {
      count = length took.gone;
      within = (let l = ap length took.cut in omega (arith, l, length-append took.gone rest));
      front =
          took.front
          ∙ ap (taken_with before) (sym (take-append_seam took.gone rest) ∙ ap (λ b. take (length took.gone) b) took.cut);
    }
