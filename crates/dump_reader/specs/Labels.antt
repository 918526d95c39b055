-- What the lines of a dump begin with, behind their spaces. The words are those that Linux prints.
use Rattle.std.specs.Prelude.{ℕ, List, [], ◌∷◌, codes, Option, length, drop}
use Rattle.std.specs.List.{find}
use Rattle.dump_reader.specs.declared.labels.Label.{Label}
use Rattle.dump_reader.specs.declared.labels.Label.TheVariants.{FunctionType}
use Rattle.dump_reader.specs.declared.labels.Label.TheVariants.{Codec, Address, GroupType, ModemType, Vendor}
use Rattle.dump_reader.specs.declared.labels.Label.TheVariants.{Subsystem, Revision, NoModem, Modem, DefaultPcm}
use Rattle.dump_reader.specs.declared.labels.Label.TheVariants.{DefaultAmpIn, DefaultAmpOut, GroupState, Gpio, GpioPin}
use Rattle.dump_reader.specs.declared.labels.Label.TheVariants.{Node, Control, ControlAmplifier, Device, Devices}
use Rattle.dump_reader.specs.declared.labels.Label.TheVariants.{DeviceEntry, AmpIn, GainsIn, AmpOut, GainOut, Pcm}
use Rattle.dump_reader.specs.declared.labels.Label.TheVariants.{Rates, Bits, Formats, NotAvailable, Converter}
use Rattle.dump_reader.specs.declared.labels.Label.TheVariants.{SdiSelect, Digital, DigitalCategory, CodingType}
use Rattle.dump_reader.specs.declared.labels.Label.TheVariants.{PinCaps, VrefCaps, Eapd, PinDefault, PinPlace}
use Rattle.dump_reader.specs.declared.labels.Label.TheVariants.{PinAssociation, PinMisc, PinControl, VolumeKnob}
use Rattle.dump_reader.specs.declared.labels.Label.TheVariants.{Unsolicited, PowerStates, Power, Delay, Connection}
use Rattle.dump_reader.specs.declared.labels.Label.TheVariants.{DriverConnection, Processing, Coefficient}
use Rattle.dump_reader.specs.Cuts.{begins_with, unindented}

unfoldable pub label_text : Label → List ℕ
label_text Codec = codes "Codec:"
label_text Address = codes "Address:"
label_text GroupType = codes "AFG Function Id:"
label_text FunctionType = codes "Function Id:"
label_text ModemType = codes "MFG Function Id:"
label_text Vendor = codes "Vendor Id:"
label_text Subsystem = codes "Subsystem Id:"
label_text Revision = codes "Revision Id:"
label_text NoModem = codes "No Modem Function Group"
label_text Modem = codes "Modem Function Group:"
label_text DefaultPcm = codes "Default PCM:"
label_text DefaultAmpIn = codes "Default Amp-In caps:"
label_text DefaultAmpOut = codes "Default Amp-Out caps:"
label_text GroupState = codes "State of AFG node"
label_text Gpio = codes "GPIO:"
label_text GpioPin = codes "IO["
label_text Node = codes "Node"
label_text Control = codes "Control:"
label_text ControlAmplifier = codes "ControlAmp:"
label_text Device = codes "Device:"
label_text Devices = codes "Devices:"
label_text DeviceEntry = codes "Dev "
label_text AmpIn = codes "Amp-In caps:"
label_text GainsIn = codes "Amp-In vals:"
label_text AmpOut = codes "Amp-Out caps:"
label_text GainOut = codes "Amp-Out vals:"
label_text Pcm = codes "PCM:"
label_text Rates = codes "rates"
label_text Bits = codes "bits"
label_text Formats = codes "formats"
label_text NotAvailable = codes "N/A"
label_text Converter = codes "Converter:"
label_text SdiSelect = codes "SDI-Select:"
label_text Digital = codes "Digital:"
label_text DigitalCategory = codes "Digital category:"
label_text CodingType = codes "IEC Coding Type:"
label_text PinCaps = codes "Pincap"
label_text VrefCaps = codes "Vref caps:"
label_text Eapd = codes "EAPD"
label_text PinDefault = codes "Pin Default"
label_text PinPlace = codes "Conn ="
label_text PinAssociation = codes "DefAssociation ="
label_text PinMisc = codes "Misc ="
label_text PinControl = codes "Pin-ctls:"
label_text VolumeKnob = codes "Volume-Knob:"
label_text Unsolicited = codes "Unsolicited:"
label_text PowerStates = codes "Power states:"
label_text Power = codes "Power:"
label_text Delay = codes "Delay:"
label_text Connection = codes "Connection:"
label_text DriverConnection = codes "In-driver Connection:"
label_text Processing = codes "Processing caps:"
label_text Coefficient = codes "Coeff"

-- all labels; a line has the first with which it begins
unfoldable pub labels : List Label
labels =
    Codec ∷ Address ∷ GroupType ∷ FunctionType ∷ ModemType ∷ Vendor ∷ Subsystem ∷ Revision ∷ NoModem ∷ Modem ∷
    DefaultPcm ∷
    DefaultAmpIn ∷ DefaultAmpOut ∷ GroupState ∷ Gpio ∷ GpioPin ∷ Node ∷ Control ∷ ControlAmplifier ∷ Device ∷
    Devices ∷ DeviceEntry ∷ AmpIn ∷ GainsIn ∷ AmpOut ∷ GainOut ∷ Pcm ∷ Rates ∷ Bits ∷ Formats ∷ NotAvailable ∷
    Converter ∷ SdiSelect ∷ Digital ∷ DigitalCategory ∷ CodingType ∷ PinCaps ∷ VrefCaps ∷ Eapd ∷ PinDefault ∷
    PinPlace ∷ PinAssociation ∷ PinMisc ∷ PinControl ∷ VolumeKnob ∷ Unsolicited ∷ PowerStates ∷ Power ∷ Delay ∷
    Connection ∷ DriverConnection ∷ Processing ∷ Coefficient ∷ []

-- the label of a line, if it has one
abbrev pub label_of : List ℕ → Option Label
label_of line = find (λ label. begins_with (label_text label) (unindented line)) labels

-- what stands on a line behind its label
abbrev pub behind : Label → List ℕ → List ℕ
behind label line = drop (length (label_text label)) (unindented line)
