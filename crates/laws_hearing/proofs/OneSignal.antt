-- What it means where a pin has one signal all along.
use Rattle.std.proofs.Common.{◌≡◌, ◌<◌, ℕ, suc, true, false, List, [], ◌∷◌, length, get_or, refl, arith}
use Rattle.std.specs.Prelude.{All}
use Rattle.std.proofs.lemmas.List.Elements.{All-cons, All-nil}
use Rattle.stream_format.specs.Layouts.{Layout}
use Rattle.codec_sound.specs.declared.signals.Signal.{Signal}
use Rattle.codec_sound.specs.declared.signals.Signal.TheVariants as signal
use Rattle.heard_frames.specs.declared.heard.Heard.{Heard}
use Rattle.heard_frames.specs.declared.heard.Heard.TheVariants.{Sound, Quiet, Hole, Altered}
use Rattle.heard_frames.specs.Marks.{without_holes}
use Rattle.period_writer.specs.declared.course.Ran.{Ran}
use Rattle.period_writer.specs.declared.course.Ran.TheVariants as ran
use Rattle.std.proofs.Common.{◌++◌, replicate}
use Rattle.laws_hearing.specs.Plays.{Plays, WasSent, IsSilent}
use Rattle.laws_hearing.specs.BySignals.{PlaysBy, is_made_by, AreBySignals}
use Rattle.laws_hearing.proofs.Playing.{front_of_pair}

-- ---- each item

module _ (made : Signal) (P : Heard → Type 0) (hole : P Hole) (each : (item : Heard) → is_made_by made item ≡ true → P item) where
  abbrev AreMade : List Heard → Type 0
  AreMade kept = (place : ℕ) → place < length kept → is_made_by made (get_or kept place Hole) ≡ true

  rest_made : (item : Heard) (kept : List Heard) → AreMade (item ∷ kept) → AreMade kept
  rest_made item kept are = λ place within. are (suc place) (omega (arith, within))

  first_made : (item : Heard) (kept : List Heard) → AreMade (item ∷ kept) → P item
  first_made item kept are = each item (are 0 (omega arith))

  pub all_made : (list : List Heard) → AreBySignals (λ place. made) list → All P list
  all_made [] are = All-nil P
  all_made (Hole ∷ list) are = All-cons P Hole list hole (all_made list are)
  all_made (Quiet ∷ list) are = All-cons P Quiet list (first_made Quiet (without_holes list) are) (all_made list (rest_made Quiet (without_holes list) are))
  all_made (Altered ∷ list) are = All-cons P Altered list (first_made Altered (without_holes list) are) (all_made list (rest_made Altered (without_holes list) are))
  all_made (Sound left right ∷ list) are = All-cons P (Sound left right) list (first_made (Sound left right) (without_holes list) are) (all_made list (rest_made (Sound left right) (without_holes list) are))

sent_item : (pair : ℕ) (item : Heard) → is_made_by (signal.Pair pair) item ≡ true → WasSent item
sent_item pair (Sound left right) is = refl
sent_item pair Quiet is = cc
sent_item pair Hole is = cc
sent_item pair Altered is = cc

silent_item : (item : Heard) → is_made_by signal.Silence item ≡ true → IsSilent item
silent_item Quiet is = refl
silent_item (Sound left right) is = cc
silent_item Hole is = cc
silent_item Altered is = cc

pub pairs_were_sent : (pair : ℕ) (list : List Heard) → AreBySignals (λ place. signal.Pair pair) list → All WasSent list
pairs_were_sent pair list are = all_made (signal.Pair pair) WasSent refl (sent_item pair) list are

pub silences_are_silent : (list : List Heard) → AreBySignals (λ place. signal.Silence) list → All IsSilent list
silences_are_silent list are = all_made signal.Silence IsSilent refl silent_item list are

-- ---- the line

pub pair_plays : (ended : Ran) (layout : Layout) (pair : ℕ) (line : List ℕ) (reach : ℕ) (list : List Heard) → PlaysBy false ended layout (λ place. signal.Pair pair) line reach list → Plays ended layout pair line reach list
pair_plays ran.Playing layout pair line reach list plays = front_of_pair layout pair line list plays
pair_plays ran.Drained layout pair line reach list plays = (plays.0, front_of_pair layout pair (line ++ replicate plays.0 0) list plays.1)
pair_plays (ran.Late from to limit) layout pair line reach list plays = plays
