-- The parameters of nodes by their numbers. High Definition Audio 1.0a, 7.3.4.
use Rattle.std.specs.Prelude.{ℕ, ◌==◌, List, [], ◌∷◌, Option, find}
use Rattle.verb_codes.specs.declared.parameters.Parameter.{Parameter}
use Rattle.verb_codes.specs.declared.parameters.Parameter.TheVariants.{Vendor, Revision, Nodes, GroupType}
use Rattle.verb_codes.specs.declared.parameters.Parameter.TheVariants.{WidgetCapabilities, PcmSizesAndRates}
use Rattle.verb_codes.specs.declared.parameters.Parameter.TheVariants.{StreamFormats, PinCapabilities, InputAmplifier}
use Rattle.verb_codes.specs.declared.parameters.Parameter.TheVariants.{ListLength, PowerStates, OutputAmplifier}

abbrev pub number_of : Parameter → ℕ
-- Vendor ID (7.3.4.1)
number_of Vendor = 0x00
-- Revision ID (7.3.4.2)
number_of Revision = 0x02
-- Subordinate Node Count (7.3.4.3)
number_of Nodes = 0x04
-- Function Group Type (7.3.4.4)
number_of GroupType = 0x05
-- Audio Widget Capabilities (7.3.4.6)
number_of WidgetCapabilities = 0x09
-- Supported PCM Size, Rates (7.3.4.7)
number_of PcmSizesAndRates = 0x0A
-- Supported Stream Formats (7.3.4.8)
number_of StreamFormats = 0x0B
-- Pin Capabilities (7.3.4.9)
number_of PinCapabilities = 0x0C
-- Amplifier Capabilities, of the input amplifier (7.3.4.10)
number_of InputAmplifier = 0x0D
-- Connection List Length (7.3.4.11)
number_of ListLength = 0x0E
-- Supported Power States (7.3.4.12)
number_of PowerStates = 0x0F
-- Amplifier Capabilities, of the output amplifier (7.3.4.10)
number_of OutputAmplifier = 0x12

abbrev pub parameters : List Parameter
parameters =
    Vendor ∷ Revision ∷ Nodes ∷ GroupType ∷ WidgetCapabilities ∷ PcmSizesAndRates ∷ StreamFormats ∷ PinCapabilities
    ∷ InputAmplifier ∷ ListLength ∷ PowerStates ∷ OutputAmplifier ∷ []

-- the parameter of this number, if it is one of those above
abbrev pub parameter_of : ℕ → Option Parameter
parameter_of number = find (λ p. number_of p == number) parameters
