-- What an opened node lets pass.
use Rattle.std.proofs.Common.{◌≡◌, ◌≢◌, ◌<◌, ◌≤◌, ◌+◌, ◌/◌, ◌%◌, ◌^◌, ◌==◌, ◌&&◌, not, ℕ, zero, suc, Bool, true, false, cond, List, [], ◌∷◌, length, Some, refl, sym, ap, ◌∙◌, arith, lit<}
use Rattle.std.specs.Prelude.{slice_get, nat_lt, nat_le, min}
use Rattle.std.proofs.lemmas.Bool.{and_parts, leb-true, eq-eqb, lt-ltb, true≢false}
use Rattle.std.proofs.lemmas.Bool.Decides.{nat_tests}
use Rattle.std.proofs.lemmas.Nat.{mod_below}
use Rattle.std.proofs.lemmas.Option.{none-some}
use Rattle.codec_graph.specs.declared.raw.RawNode.{RawNode}
use Rattle.codec_graph.specs.declared.raw.RawCodec.{RawCodec}
use Rattle.codec_graph.specs.declared.controls.Control.TheVariants as control
use Rattle.codec_graph.specs.Widget.{is_mixer, is_selector, is_stereo, has_input_amplifier, has_output_amplifier, input_amplifier_word, output_amplifier_word, amplifier_offset, amplifier_steps, can_mute, most_amplified}
use Rattle.codec_graph.specs.Settings.{Entries, setting_of}
use Rattle.codec_graph.specs.VerbMeaning.{kept_amplifier}
use Rattle.verb_codes.specs.Words.{has_bit, bits_of}
use Rattle.codec_graph.specs.declared.pin_kind.PinKind.{PinKind}
use Rattle.codec_graph.specs.declared.pin_kind.PinKind.TheVariants.{Analog, Digital}
use Rattle.route_planner.specs.Paths.{can_be_left, can_be_left_as, passes_digital}
use Rattle.codec_sound.specs.declared.signals.Signal.{Signal}
use Rattle.codec_sound.specs.declared.signals.Signal.TheVariants.{Silence, Pair, Altered}
use Rattle.codec_sound.specs.declared.streams.LinkStream.{LinkStream}
use Rattle.codec_sound.specs.Amplifiers.{changed_if, is_muted, is_neutral, amplified, after_output, after_input}
use Rattle.codec_sound.specs.Signals.{is_off, sum_of, mixed, mixed_as, made, given}
use Rattle.setup_verbs.specs.VerbList.{input_setting, output_setting}
use Rattle.setup_verbs.proofs.Wanted.{input_wanted, output_wanted}

-- ---- amplifiers

bit_off : (n : ℕ) → n < 128 → has_bit n 7 ≡ false
bit_off n small = let z : n / 2 ^ 7 % 2 ^ 1 ≡ 0 = omega arith in rw z refl

low_bits : (n : ℕ) → n < 128 → (bits_of n 0 7 == n) ≡ true
low_bits n small = let z : n / 2 ^ 0 % 2 ^ 7 ≡ n = omega arith in eq-eqb _ _ z

-- two sides at the 0 dB step change nothing
neutral : (offset left right : ℕ) (s : Signal) → offset < 128 → left ≡ offset → right ≡ offset → amplified offset left right s ≡ s
neutral offset left right s small l r =
    ap (λ x. amplified offset x right s) l ∙ ap (λ x. amplified offset offset x s) r
    ∙ by (has_bit offset 7) (bits_of offset 0 7 == offset) (bit_off offset small) (low_bits offset small)
  where
    by : (b c : Bool) → b ≡ false → c ≡ true → cond (b && b) Silence (changed_if (not ((not b && c) && (not b && c))) s) ≡ s
    by true c e f = cc
    by false true e f = refl
    by false false e f = cc

muted : (offset left right : ℕ) (s : Signal) → is_muted left ≡ true → is_muted right ≡ true → amplified offset left right s ≡ Silence
muted offset left right s l r = by (is_muted left) (is_muted right) l r
  where
    by : (b c : Bool) → b ≡ true → c ≡ true → cond (b && c) Silence (changed_if (not (is_neutral offset left && is_neutral offset right)) s) ≡ Silence
    by true true e f = refl
    by true false e f = cc
    by false c e f = cc

-- what an amplifier keeps of its 0 dB step, and of a mute
pub kept_pass : (word place : ℕ) → amplifier_offset word ≤ amplifier_steps word → kept_amplifier word (input_setting place false (amplifier_offset word)) ≡ amplifier_offset word
kept_pass word place fits = least (amplifier_offset word) (amplifier_steps word) fits
  where
    least : (m n : ℕ) → m ≤ n → min m n + 0 ≡ m
    least m n h = omega arith

pub kept_output : (word : ℕ) → amplifier_offset word ≤ amplifier_steps word → kept_amplifier word (output_setting (amplifier_offset word)) ≡ amplifier_offset word
kept_output word fits = least (amplifier_offset word) (amplifier_steps word) fits
  where
    least : (m n : ℕ) → m ≤ n → min m n + 0 ≡ m
    least m n h = omega arith

pub kept_mute : (word place : ℕ) → can_mute word ≡ true → is_muted (kept_amplifier word (input_setting place true 0)) ≡ true
kept_mute word place can = by (can_mute word) (amplifier_steps word) can
  where
    by : (b : Bool) (n : ℕ) → b ≡ true → is_muted (min 0 n + cond b 128 0) ≡ true
    by true n e = let z : min 0 n + 128 ≡ 128 = omega arith in rw z refl
    by false n e = cc

offset_small : (word : ℕ) → amplifier_offset word < 128
offset_small word = mod_below (word / 2 ^ 0) (2 ^ 7) (lit< tt)

-- the output passes
pub output_passes : (codec : RawCodec) (settings : Entries) (nid : ℕ) (node : RawNode) (s : Signal) → amplifier_offset (output_amplifier_word codec node) ≤ amplifier_steps (output_amplifier_word codec node)
    → (has_output_amplifier node ≡ true → setting_of settings nid control.OutLeft ≡ output_wanted codec node) → (has_output_amplifier node ≡ true → setting_of settings nid control.OutRight ≡ output_wanted codec node)
    → after_output codec settings nid node s ≡ s
output_passes codec settings nid node s fits left right = by (has_output_amplifier node) refl
  where
    by : (b : Bool) → has_output_amplifier node ≡ b → cond b (amplified (amplifier_offset (output_amplifier_word codec node)) (setting_of settings nid control.OutLeft) (setting_of settings nid control.OutRight) s) s ≡ s
    by true e = neutral (amplifier_offset (output_amplifier_word codec node)) (setting_of settings nid control.OutLeft) (setting_of settings nid control.OutRight) s (offset_small (output_amplifier_word codec node)) (left e ∙ kept_output (output_amplifier_word codec node) fits) (right e ∙ kept_output (output_amplifier_word codec node) fits)
    by false e = refl

-- an input that the routes take passes
pub input_passes : (codec : RawCodec) (settings : Entries) (nid : ℕ) (node : RawNode) (index place : ℕ) (s : Signal) → amplifier_offset (input_amplifier_word codec node) ≤ amplifier_steps (input_amplifier_word codec node) → place ≡ index
    → (has_input_amplifier node ≡ true → place < 16)
    → (has_input_amplifier node ≡ true → setting_of settings nid (control.InLeft place) ≡ input_wanted codec node index place) → (has_input_amplifier node ≡ true → setting_of settings nid (control.InRight place) ≡ input_wanted codec node index place)
    → after_input codec settings nid node place s ≡ s
input_passes codec settings nid node index place s fits same low left right = by (has_input_amplifier node) refl
  where
    wanted : input_wanted codec node index place ≡ amplifier_offset (input_amplifier_word codec node)
    wanted = rw (eq-eqb place index same) (kept_pass (input_amplifier_word codec node) place fits)

    amp : Signal
    amp = amplified (amplifier_offset (input_amplifier_word codec node)) (setting_of settings nid (control.InLeft place)) (setting_of settings nid (control.InRight place)) s

    by : (b : Bool) → has_input_amplifier node ≡ b → cond b (cond (nat_lt place most_amplified) (amplified (amplifier_offset (input_amplifier_word codec node)) (setting_of settings nid (control.InLeft place)) (setting_of settings nid (control.InRight place)) s) (changed_if true s)) s ≡ s
    by true e = rw (lt-ltb place 16 (low e)) (neutral (amplifier_offset (input_amplifier_word codec node)) (setting_of settings nid (control.InLeft place)) (setting_of settings nid (control.InRight place)) s (offset_small (input_amplifier_word codec node)) (left e ∙ wanted) (right e ∙ wanted))
    by false e = refl

-- a muted input gives nothing
pub input_muted : (codec : RawCodec) (settings : Entries) (nid : ℕ) (node : RawNode) (place : ℕ) (s : Signal) → has_input_amplifier node ≡ true → place < 16
    → is_muted (setting_of settings nid (control.InLeft place)) ≡ true → is_muted (setting_of settings nid (control.InRight place)) ≡ true → after_input codec settings nid node place s ≡ Silence
input_muted codec settings nid node place s has low left right = by (has_input_amplifier node) (nat_lt place most_amplified) has (lt-ltb place 16 low)
  where
    by : (b c : Bool) → b ≡ true → c ≡ true → cond b (cond c (amplified (amplifier_offset (input_amplifier_word codec node)) (setting_of settings nid (control.InLeft place)) (setting_of settings nid (control.InRight place)) s) (changed_if true s)) s ≡ Silence
    by true true e f = muted (amplifier_offset (input_amplifier_word codec node)) (setting_of settings nid (control.InLeft place)) (setting_of settings nid (control.InRight place)) s left right
    by true false e f = cc
    by false c e f = cc

-- ---- mixers

sum-silence : (s : Signal) → sum_of s Silence ≡ s
sum-silence Silence = refl
sum-silence (Pair pair) = refl
sum-silence Altered = refl

mixed_silent : (codec : RawCodec) (settings : Entries) (out : ℕ → Signal) (nid : ℕ) (node : RawNode) (place : ℕ) (list : List ℕ) → ((j : ℕ) (s : Signal) → place ≤ j → j < place + length list → after_input codec settings nid node j s ≡ Silence)
    → mixed codec settings out nid node place list ≡ Silence
mixed_silent codec settings out nid node place [] h = refl
mixed_silent codec settings out nid node place (from ∷ list) h =
    ap (λ s. sum_of s (mixed codec settings out nid node (place + 1) list)) (h place (out from) (omega arith) (omega arith))
    ∙ mixed_silent codec settings out nid node (place + 1) list (λ j s low high. h j s (omega arith) (omega arith))

pub mixed_one : (codec : RawCodec) (settings : Entries) (out : ℕ → Signal) (nid : ℕ) (node : RawNode) (place index : ℕ) (list : List ℕ) (k from : ℕ) → slice_get list k ≡ Some from → place + k ≡ index
    → ((s : Signal) → after_input codec settings nid node index s ≡ s) → ((j : ℕ) (s : Signal) → place ≤ j → j < place + length list → j ≢ index → after_input codec settings nid node j s ≡ Silence)
    → mixed codec settings out nid node place list ≡ out from
mixed_one codec settings out nid node place index [] k from there at passes others = absurd (none-some from there)
mixed_one codec settings out nid node place index (x ∷ list) zero from there at passes others =
    let same : x ≡ from = cc in
    let here : place ≡ index = omega arith in
    ap (λ s. sum_of (after_input codec settings nid node place (out x)) s) (mixed_silent codec settings out nid node (place + 1) list (λ j s low high. others j s (omega arith) (omega arith) (λ e. absurd (omega arith))))
    ∙ sum-silence (after_input codec settings nid node place (out x))
    ∙ ap (λ p. after_input codec settings nid node p (out x)) here
    ∙ passes (out x) ∙ ap out same
mixed_one codec settings out nid node place index (x ∷ list) (suc k) from there at passes others =
    ap (λ s. sum_of s (mixed codec settings out nid node (place + 1) list)) (others place (out x) (omega arith) (omega arith) (λ e. absurd (omega arith)))
    ∙ mixed_one codec settings out nid node (place + 1) index list k from there (omega arith) passes (λ j s low high ne. others j s (omega arith) (omega arith) ne)

-- ---- what an opened node makes

-- a digital route passes no mixer, and no selector with an input amplifier
abbrev pub IsUnmixed : PinKind → RawNode → Type 0
IsUnmixed Analog node = Unit {0}
IsUnmixed Digital node = (is_mixer node ≡ false) × ((is_selector node && has_input_amplifier node) ≡ false)

-- a mixer of a route is analog
pub mixed_is : (kind : PinKind) (codec : RawCodec) (settings : Entries) (out : ℕ → Signal) (nid : ℕ) (node : RawNode) → IsUnmixed kind node → is_mixer node ≡ true
    → mixed_as kind codec settings out nid node ≡ changed_if (not (is_stereo node)) (mixed codec settings out nid node 0 node.list)
mixed_is Analog codec settings out nid node unmixed is = refl
mixed_is Digital codec settings out nid node unmixed is = absurd (true≢false (sym is ∙ unmixed.0))

pub made_cases : (n : ℕ) (stereo : Bool) (C M S : Signal) → (n ≡ 2 → stereo ≡ true → cond (n == 0) C (cond (n == 2) (changed_if (not stereo) M) (cond (n == 3) (changed_if (not stereo) S) Silence)) ≡ M)
made_cases n stereo C M S e f = rw (e, f) refl

pub selector_case : (n : ℕ) (stereo : Bool) (C M S : Signal) → n ≡ 3 → stereo ≡ true → cond (n == 0) C (cond (n == 2) M (cond (n == 3) (changed_if (not stereo) S) Silence)) ≡ S
selector_case n stereo C M S e f = rw (e, f) refl

pub converter_case : (n : ℕ) (C X : Signal) → n ≡ 0 → cond (n == 0) C X ≡ C
converter_case n C X e = rw e refl

-- a node that is on gives what it makes through an output that passes
pub given_on : (kind : PinKind) (codec : RawCodec) (settings : Entries) (stream : LinkStream) (out : ℕ → Signal) (nid : ℕ) (node : RawNode) (s : Signal) → is_off codec settings nid node ≡ false → after_output codec settings nid node (made kind codec settings stream out nid node) ≡ s → given kind codec settings stream out nid node ≡ s
given_on kind codec settings stream out nid node s on e = by (is_off codec settings nid node) on
  where
    by : (b : Bool) → b ≡ false → cond b Silence (after_output codec settings nid node (made kind codec settings stream out nid node)) ≡ s
    by true h = cc
    by false h = e

-- the amplifier of the index can be reached, and a mixer with a choice can mute
pub record IsLeft (kind : PinKind) (codec : RawCodec) (index : ℕ) (node : RawNode) : Type 0 where
  pub mixes : is_mixer node ≡ true → 2 ≤ length node.list → (has_input_amplifier node ≡ true) × (can_mute (input_amplifier_word codec node) ≡ true)
  pub selects : is_selector node ≡ true → has_input_amplifier node ≡ true → index < 16
  pub unmixed : IsUnmixed kind node

not_both : (a b : Bool) → a ≡ true → b ≡ true → (a && b) ≡ false → ⊥
not_both true true x y e = cc
not_both true false x y e = cc
not_both false b x y e = cc

no_longer : (b : Bool) → not b ≡ true → b ≡ false
no_longer true e = cc
no_longer false e = refl

left_analog : (codec : RawCodec) (index : ℕ) (node : RawNode) → can_be_left codec index node ≡ true → IsLeft Analog codec index node
left_analog codec index node e =
    let parts = and_parts _ _ e in
    record {
      mixes = λ is long. and_parts _ _ (first (is_mixer node) (nat_le 2 (length node.list)) _ is (long_test (length node.list) long) parts.0);
      selects = λ is has. let z = leb-true index 15 (first (is_selector node) (has_input_amplifier node) _ is has parts.1) in omega arith;
      unmixed = tt;
    }
  where
    first : (a b c : Bool) → a ≡ true → b ≡ true → cond (a && b) c true ≡ true → c ≡ true
    first true true c x y h = h
    first true false c x y h = cc
    first false b c x y h = cc

    long_test : (n : ℕ) → 2 ≤ n → nat_le 2 n ≡ true
    long_test n h = grind (arith, nat_tests)

left_digital : (codec : RawCodec) (index : ℕ) (node : RawNode) → passes_digital node ≡ true → IsLeft Digital codec index node
left_digital codec index node e =
    let parts = and_parts (not (is_mixer node)) (not (is_selector node && has_input_amplifier node)) e in
    let unmixed = no_longer (is_mixer node) parts.0 in
    let unamplified = no_longer (is_selector node && has_input_amplifier node) parts.1 in
    record {
      mixes = λ is long. absurd (true≢false (sym is ∙ unmixed));
      selects = λ is has. absurd (not_both (is_selector node) (has_input_amplifier node) is has unamplified);
      unmixed = (unmixed, unamplified);
    }

pub left_from : (kind : PinKind) (codec : RawCodec) (index : ℕ) (node : RawNode) → can_be_left_as kind codec index node ≡ true → IsLeft kind codec index node
left_from Analog codec index node e = left_analog codec index node e
left_from Digital codec index node e = left_digital codec index node e
