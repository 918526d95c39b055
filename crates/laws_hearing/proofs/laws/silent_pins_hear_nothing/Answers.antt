use Rattle.std.proofs.Common.{refl}
use Rattle.codec_sound.specs.declared.signals.Signal.TheVariants.{Silence}
use Rattle.laws_hearing.specs.Plays.{IsSilent}
use Rattle.laws_hearing.proofs.LineHeard.{each_heard}
use Rattle.laws_hearing.proofs.laws.silent_pins_hear_nothing.Goals as goal

pub returns : goal.returns
returns c = λ kind codecs tag word layout from world address pin known steady is. each_heard kind codecs tag word layout known from world steady address pin Silence is IsSilent refl (λ block. refl)
