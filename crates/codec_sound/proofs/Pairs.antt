-- Both channels of each pair are among the stream's.
use Rattle.std.proofs.Common.{◌≡◌, ◌≢◌, ℕ, ◌+◌, ◌*◌, ◌/◌, ◌%◌, ◌<◌, Bool, true, false, cond, ◌==◌, ◌&&◌, ◌||◌, not, Option, Some, None, refl, arith}
use Rattle.std.specs.Prelude.{nat_lt}
use Rattle.std.proofs.lemmas.Bool.Decides.{nat_tests}
use Rattle.std.proofs.lemmas.Bool.{or_parts}
use Rattle.codec_graph.specs.declared.raw.RawNode.{RawNode}
use Rattle.codec_graph.specs.declared.raw.RawCodec.{RawCodec}
use Rattle.codec_graph.specs.Widget.{node_at, is_pin, is_stereo}
use Rattle.codec_graph.specs.Settings.{Entries}
use Rattle.codec_graph.specs.declared.pin_kind.PinKind.{PinKind}
use Rattle.codec_sound.specs.declared.signals.Signal.{Signal}
use Rattle.codec_sound.specs.declared.signals.Signal.TheVariants.{Silence, Pair, Altered}
use Rattle.codec_sound.specs.declared.streams.LinkStream.{LinkStream}
use Rattle.codec_sound.specs.declared.sources.Sources.TheVariants.{Converters}
use Rattle.codec_sound.specs.Amplifiers.{after_output}
use Rattle.codec_sound.specs.Signals.{IsAmong, takes_as, is_foreign, converts_otherwise, channel_at, pair_from, converted, selected, out_as, is_silent_pin, comes_from, hears, signal_as}
use Rattle.codec_sound.proofs.Carrying.{Carries, carries-chosen, carries-cond, carries-changed_if, carries-after_output, carries-out}

-- a pair that is among so many channels
abbrev BothAmong : ℕ → ℕ → Type 0
BothAmong n pair = 2 * pair + 1 < n

to-among : (n : ℕ) (s : Signal) → Carries (BothAmong n) s → IsAmong n s
to-among n Silence h = tt
to-among n (Pair pair) h = h
to-among n Altered h = tt

-- an even channel below an even number has its neighbour below it too
pair_fits : (n channel : ℕ) → n % 2 ≡ 0 → (channel % 2 == 1) ≡ false → channel < n → 2 * (channel / 2) + 1 < n
pair_fits n channel even odd below = let other : channel % 2 ≢ 1 = grind (arith, nat_tests) in omega (arith, other)

among-pair_from : (stream : LinkStream) (channel : ℕ) (lower : Bool) → stream.channels % 2 ≡ 0 → nat_lt channel stream.channels ≡ lower → ((channel % 2 == 1) && lower) ≡ false → Carries (BothAmong stream.channels) (cond lower (Pair (channel / 2)) Silence)
among-pair_from stream channel false even is e = tt
among-pair_from stream channel true even is e = pair_fits stream.channels channel even (left (channel % 2 == 1) e) (below is) where
  left : (b : Bool) → (b && true) ≡ false → b ≡ false
  left true e' = e'
  left false e' = refl

  below : nat_lt channel stream.channels ≡ true → channel < stream.channels
  below h = grind (arith, nat_tests)

among-converted : (kind : PinKind) (settings : Entries) (stream : LinkStream) (nid : ℕ) (node : RawNode) → stream.channels % 2 ≡ 0 → Carries (BothAmong stream.channels) (converted kind settings stream nid node)
among-converted kind settings stream nid node even =
    carries-cond (BothAmong stream.channels) (takes_as kind settings stream nid) _ Silence
    (carries-chosen (BothAmong stream.channels) (converts_otherwise kind settings stream nid node) Altered (pair_from stream (channel_at settings nid)) (λ otherwise. tt) (λ plain.
    among-pair_from stream (channel_at settings nid) (nat_lt (channel_at settings nid) stream.channels) even refl ((or_parts _ ((channel_at settings nid % 2 == 1) && nat_lt (channel_at settings nid) stream.channels) plain).1)))
    tt

among-out : (kind : PinKind) (codec : RawCodec) (settings : Entries) (stream : LinkStream) (nid : ℕ) → stream.channels % 2 ≡ 0 → Carries (BothAmong stream.channels) (out_as kind codec settings stream nid)
among-out kind codec settings stream nid even =
    carries-out (BothAmong stream.channels) (Converters kind stream) codec settings (λ nid' node there on source. among-converted kind settings stream nid' node even) nid

among-comes_from : (P : ℕ → Type 0) (f : ℕ → Signal) (o : Option ℕ) → ((to : ℕ) → Carries P (f to)) → Carries P (comes_from f o)
among-comes_from P f None all = tt
among-comes_from P f (Some from) all = all from

among-hears : (P : ℕ → Type 0) (kind : PinKind) (codec : RawCodec) (settings : Entries) (f : ℕ → Signal) (nid : ℕ) (o : Option RawNode) → ((to : ℕ) → Carries P (f to)) → Carries P (hears kind codec settings f nid o)
among-hears P kind codec settings f nid None all = tt
among-hears P kind codec settings f nid (Some node) all =
    carries-cond P (is_pin node) _ Silence
    (carries-cond P (is_silent_pin codec settings nid node) Silence _ tt
    (carries-changed_if P (not (is_stereo node) || is_foreign kind node) (after_output codec settings nid node (comes_from f (selected settings nid node)))
    (carries-after_output P codec settings nid node (comes_from f (selected settings nid node)) (among-comes_from P f (selected settings nid node) all))))
    tt

-- so are those of the pair that a pin hears
pub among-signal_of : (kind : PinKind) (codec : RawCodec) (settings : Entries) (stream : LinkStream) (pin : ℕ) → stream.channels % 2 ≡ 0 → IsAmong stream.channels (signal_as kind codec settings stream pin)
among-signal_of kind codec settings stream pin even =
    to-among stream.channels (signal_as kind codec settings stream pin)
    (among-hears (BothAmong stream.channels) kind codec settings (out_as kind codec settings stream) pin (node_at codec pin) (λ to. among-out kind codec settings stream to even))
