-- What digital pins hear of converters that are not enabled, of mixers, and as mono or analog pins.
use Rattle.std.proofs.Common.{◌≡◌, ◌⊎◌, ◌==◌, ◌&&◌, ◌||◌, ℕ, Bool, true, false, cond, not, refl, inl, inr}
use Rattle.std.proofs.lemmas.Bool.{eqb-true}
use Rattle.codec_graph.specs.declared.raw.RawNode.{RawNode}
use Rattle.codec_graph.specs.declared.raw.RawCodec.{RawCodec}
use Rattle.codec_graph.specs.Widget.{is_mixer, is_stereo}
use Rattle.codec_graph.specs.Settings.{Entries}
use Rattle.verb_codes.specs.Words.{bits_of}
use Rattle.codec_graph.specs.declared.pin_kind.PinKind.TheVariants.{Digital}
use Rattle.codec_sound.specs.declared.signals.Signal.{Signal}
use Rattle.codec_sound.specs.declared.signals.Signal.TheVariants.{Silence, Pair, Altered}
use Rattle.codec_sound.specs.declared.streams.LinkStream.{LinkStream}
use Rattle.codec_sound.specs.Amplifiers.{changed_if, after_output}
use Rattle.codec_sound.specs.Signals.{takes, is_enabled, is_foreign, converts_otherwise, channel_at, pair_from, converted, made, is_silent_pin, comes_from, selected, pin_hears}

pub converted_disabled : (settings : Entries) (stream : LinkStream) (nid : ℕ) (node : RawNode) → is_enabled settings nid ≡ false → converted Digital settings stream nid node ≡ Silence
converted_disabled settings stream nid node off = by (takes settings stream nid) (is_enabled settings nid) off
  where
    by : (b c : Bool) → c ≡ false → cond (b && c) (cond (converts_otherwise Digital settings stream nid node) Altered (pair_from stream (channel_at settings nid))) Silence ≡ Silence
    by true false e = refl
    by false false e = refl
    by b true e = cc

pub made_mixer : (codec : RawCodec) (settings : Entries) (stream : LinkStream) (given : ℕ → Signal) (nid : ℕ) (node : RawNode) → is_mixer node ≡ true → made Digital codec settings stream given nid node ≡ Silence
made_mixer codec settings stream given nid node is = by (bits_of node.caps 20 4) _ _ (eqb-true (bits_of node.caps 20 4) 2 is)
  where
    by : (n : ℕ) (C X : Signal) → n ≡ 2 → cond (n == 0) C (cond (n == 2) Silence X) ≡ Silence
    by n C X e = rw e refl

pub pin_foreign : (codec : RawCodec) (settings : Entries) (given : ℕ → Signal) (nid : ℕ) (node : RawNode) → (not (is_stereo node) || is_foreign Digital node) ≡ true
    → (pin_hears Digital codec settings given nid node ≡ Silence) ⊎ (pin_hears Digital codec settings given nid node ≡ Altered)
pin_foreign codec settings given nid node other = by (is_silent_pin codec settings nid node) (not (is_stereo node) || is_foreign Digital node) (after_output codec settings nid node (comes_from given (selected settings nid node))) other
  where
    by : (b c : Bool) (s : Signal) → c ≡ true → (cond b Silence (changed_if c s) ≡ Silence) ⊎ (cond b Silence (changed_if c s) ≡ Altered)
    by true c s e = inl refl
    by false true Silence e = inl refl
    by false true (Pair pair) e = inr refl
    by false true Altered e = inr refl
    by false false s e = cc
