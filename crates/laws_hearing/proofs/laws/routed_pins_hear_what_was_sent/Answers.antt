use Rattle.std.proofs.Common.{refl}
use Rattle.codec_sound.specs.declared.signals.Signal.TheVariants.{Pair}
use Rattle.laws_hearing.specs.Plays.{WasSent}
use Rattle.laws_hearing.proofs.LineHeard.{each_heard}
use Rattle.laws_hearing.proofs.laws.routed_pins_hear_what_was_sent.Goals as goal

pub returns : goal.returns
returns c = λ kind codecs tag word layout from world address pin pair known steady is. each_heard kind codecs tag word layout known from world steady address pin (Pair pair) is WasSent refl (λ block. refl)
