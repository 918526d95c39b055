-- What holds of a codec stays so, whatever happens to it.
use Rattle.std.proofs.Common.{◌≡◌, ◌≤◌, ◌+◌, ◌&&◌, ℕ, Bool, true, false, cond, not, List, [], ◌∷◌, ◌++◌, length, drop, Option, Some, None, refl, sym, ap, ◌∙◌, arith}
use Rattle.std.specs.Prelude.{nat_lt}
use Rattle.std.proofs.lemmas.Bool.{true≢false, and_parts, ltb-true, eq-eqb}
use Rattle.std.proofs.lemmas.List.{length-set}
use Rattle.std.proofs.lemmas.List.Sums.{sum_by-append, sum_by-cons}
use Rattle.codec_graph.specs.declared.raw.RawNode.{RawNode}
use Rattle.codec_graph.specs.declared.waiting.Waiting.{Waiting}
use Rattle.codec_graph.specs.declared.waiting.Waiting.TheVariants.{Answer, Unsolicited}
use Rattle.codec_graph.specs.Widget.{node_at, is_pin}
use Rattle.codec_graph.specs.Settings.{setting_of, IsSettingsOf}
use Rattle.codec_graph.specs.declared.controls.Control.TheVariants.{Unsol}
use Rattle.codec_graph.specs.CodecStates.{CodecState, is_answer, answers, unsolicited, is_full, answer_to, reading_settings, taken, is_told, response_of, pin_plugged, node_plugged, plugged, without_first, drop_answer, without_answer, cleared, IsSound}
use Rattle.codec_graph.proofs.Writes.{IsSettingsOf-after}
use Rattle.verb_codes.specs.declared.verbs.Command.{Command}
use Rattle.verb_codes.specs.Verbs.{reading_of}
use Rattle.verb_codes.proofs.Callers.{reading_of-sound}

-- an item that comes last is counted
pub answers-push : (waiting : List Waiting) (item : Waiting) → answers (waiting ++ item ∷ []) ≡ answers waiting + cond (is_answer item) 1 0
answers-push waiting item =
    sum_by-append (λ i. cond (is_answer i) 1 0) waiting (item ∷ []) ∙ ap (λ n. answers waiting + n) (omega arith)

pub unsolicited-push : (waiting : List Waiting) (item : Waiting) → unsolicited (waiting ++ item ∷ []) ≡ unsolicited waiting + cond (not (is_answer item)) 1 0
unsolicited-push waiting item =
    sum_by-append (λ i. cond (not (is_answer i)) 1 0) waiting (item ∷ []) ∙ ap (λ n. unsolicited waiting + n) (omega arith)

-- so is one that comes first
pub answers-cons : (item : Waiting) (waiting : List Waiting) → answers (item ∷ waiting) ≡ cond (is_answer item) 1 0 + answers waiting
answers-cons item waiting = sum_by-cons (λ i. cond (is_answer i) 1 0) item waiting

pub unsolicited-cons : (item : Waiting) (waiting : List Waiting) → unsolicited (item ∷ waiting) ≡ cond (not (is_answer item)) 1 0 + unsolicited waiting
unsolicited-cons item waiting = sum_by-cons (λ i. cond (not (is_answer i)) 1 0) item waiting

-- an item is an answer or unsolicited
pub all-counted : (waiting : List Waiting) → answers waiting + unsolicited waiting ≡ length waiting
all-counted [] = refl
all-counted (Answer word ∷ waiting) =
    omega (arith, all-counted waiting, answers-cons (Answer word) waiting, unsolicited-cons (Answer word) waiting)
all-counted (Unsolicited word ∷ waiting) =
    omega (arith, all-counted waiting, answers-cons (Unsolicited word) waiting, unsolicited-cons (Unsolicited word) waiting)

pub answers-drop : (waiting : List Waiting) → answers (drop 1 waiting) ≤ answers waiting
answers-drop [] = omega arith
answers-drop (item ∷ waiting) = let e = answers-cons item waiting in rw e (omega arith)

pub unsolicited-drop : (waiting : List Waiting) → unsolicited (drop 1 waiting) ≤ unsolicited waiting
unsolicited-drop [] = omega arith
unsolicited-drop (item ∷ waiting) = let e = unsolicited-cons item waiting in rw e (omega arith)

pub answers-drop_answer : (waiting : List Waiting) → answers (drop_answer waiting) ≤ answers waiting
answers-drop_answer [] = omega arith
answers-drop_answer (Answer word ∷ waiting) = let e = answers-cons (Answer word) waiting in rw e (omega arith)
answers-drop_answer (Unsolicited word ∷ waiting) =
    let e = answers-cons (Unsolicited word) waiting in
    let f = answers-cons (Unsolicited word) (drop_answer waiting) in
    let rest = answers-drop_answer waiting in
    rw (e, f) (omega arith)

pub unsolicited-drop_answer : (waiting : List Waiting) → unsolicited (drop_answer waiting) ≡ unsolicited waiting
unsolicited-drop_answer [] = refl
unsolicited-drop_answer (Answer word ∷ waiting) = sym (unsolicited-cons (Answer word) waiting ∙ omega arith)
unsolicited-drop_answer (Unsolicited word ∷ waiting) =
    unsolicited-cons (Unsolicited word) (drop_answer waiting)
    ∙ ap (λ n. 1 + n) (unsolicited-drop_answer waiting)
    ∙ sym (unsolicited-cons (Unsolicited word) waiting)

pub settings-reading : (codec : CodecState) (word : ℕ) → IsSettingsOf codec.graph codec.settings → IsSettingsOf codec.graph (reading_settings codec (reading_of word))
settings-reading codec word of_graph = by (reading_of word) refl
  where
    by : (o : Option Command) → reading_of word ≡ o → IsSettingsOf codec.graph (reading_settings codec o)
    by None e = of_graph
    by (Some command) e = IsSettingsOf-after codec.graph codec.settings command of_graph (reading_of-sound word command e).0.verb

pub IsSound-taken : (codec : CodecState) (word : ℕ) → IsSound codec → is_full codec ≡ false → IsSound (taken codec word)
IsSound-taken codec word sound unfilled =
    let more = answers-push codec.waiting (Answer (answer_to codec word)) in
    let same = unsolicited-push codec.waiting (Answer (answer_to codec word)) in
    let room : answers codec.waiting ≡ 64 → ⊥ = λ e. true≢false (sym (eq-eqb (answers codec.waiting) 64 e) ∙ unfilled) in
    record {
      well_formed = sound.well_formed;
      settings = settings-reading codec word sound.settings;
      present = sound.present;
      answers_fit = omega (arith, sound.answers_fit);
      unsolicited_fit = omega (arith, sound.unsolicited_fit);
    }

pin_sound : (codec : CodecState) (nid : ℕ) (present : Bool) (node : RawNode) → IsSound codec → IsSound (pin_plugged codec nid present node)
pin_sound codec nid present node sound = record {
  well_formed = sound.well_formed;
  settings = sound.settings;
  present = length-set codec.present nid present ∙ sound.present;
  answers_fit = fewer (is_told codec nid present node);
  unsolicited_fit = few (is_told codec nid present node) refl;
}
  where
    fewer : (b : Bool) → answers (cond b (codec.waiting ++ response_of (setting_of codec.settings nid Unsol) ∷ []) codec.waiting) ≤ 64
    fewer true = let more = answers-push codec.waiting (response_of (setting_of codec.settings nid Unsol)) in omega (arith, sound.answers_fit)
    fewer false = sound.answers_fit

    last : (a b : Bool) → (a && b) ≡ true → b ≡ true
    last a b e = (and_parts a b e).1

    few : (b : Bool) → is_told codec nid present node ≡ b → unsolicited (cond b (codec.waiting ++ response_of (setting_of codec.settings nid Unsol) ∷ []) codec.waiting) ≤ 64
    few true e =
        let more = unsolicited-push codec.waiting (response_of (setting_of codec.settings nid Unsol)) in
        omega (arith, ltb-true (unsolicited codec.waiting) 64 (last _ (nat_lt (unsolicited codec.waiting) 64) e))
    few false e = sound.unsolicited_fit

pub IsSound-plugged : (codec : CodecState) (nid : ℕ) (present : Bool) → IsSound codec → IsSound (plugged codec nid present)
IsSound-plugged codec nid present sound = by (node_at codec.graph nid)
  where
    if_pin : (node : RawNode) (b : Bool) → IsSound (cond b (pin_plugged codec nid present node) codec)
    if_pin node true = pin_sound codec nid present node sound
    if_pin node false = sound

    by : (o : Option RawNode) → IsSound (node_plugged codec nid present o)
    by None = sound
    by (Some node) = if_pin node (is_pin node)

pub IsSound-without_first : (codec : CodecState) → IsSound codec → IsSound (without_first codec)
IsSound-without_first codec sound = record {
  well_formed = sound.well_formed;
  settings = sound.settings;
  present = sound.present;
  answers_fit = omega (arith, answers-drop codec.waiting, sound.answers_fit);
  unsolicited_fit = omega (arith, unsolicited-drop codec.waiting, sound.unsolicited_fit);
}

pub IsSound-without_answer : (codec : CodecState) → IsSound codec → IsSound (without_answer codec)
IsSound-without_answer codec sound = record {
  well_formed = sound.well_formed;
  settings = sound.settings;
  present = sound.present;
  answers_fit = omega (arith, answers-drop_answer codec.waiting, sound.answers_fit);
  unsolicited_fit = omega (arith, unsolicited-drop_answer codec.waiting, sound.unsolicited_fit);
}

pub IsSound-cleared : (codec : CodecState) → IsSound codec → IsSound (cleared codec)
IsSound-cleared codec sound = record {
  well_formed = sound.well_formed;
  settings = sound.settings;
  present = sound.present;
  answers_fit = omega arith;
  unsolicited_fit = omega arith;
}
