-- What the lines of a dump say: the facts of its codecs, or the first line that can't be taken. Linux' own form, old
-- and new. This project's own reading.
--   Codec: NAME               a codec begins; then its own facts, those of its function group, and its widgets
--   Node 0x02 [..] wcaps 0x1  a widget begins, whose identifier follows the one before; then its facts
-- A line without a label is passed over, and so are empty lines.
use Rattle.std.specs.Prelude.{ℕ, ◌+◌, ◌*◌, ◌==◌, Bool, true, false, ◌&&◌, ◌||◌, List, [], ◌∷◌, ◌++◌, length}
use Rattle.std.specs.Prelude.{nat_le}
use Rattle.std.specs.Prelude.{Option, Some, None, Result, Ok, Err, if◌then◌else◌, codes, is_some, slice_get}
use Rattle.std.specs.List.{list_all}
use Rattle.std.specs.Str.Lines.{lines}
use Rattle.dump_reader.specs.declared.labels.Label.{Label}
use Rattle.dump_reader.specs.declared.labels.Label.TheVariants as label
use Rattle.dump_reader.specs.declared.facts.NodeFacts.{NodeFacts}
use Rattle.dump_reader.specs.declared.facts.CodecFacts.{CodecFacts}
use Rattle.dump_reader.specs.declared.wait.Wait.{Wait}
use Rattle.dump_reader.specs.declared.wait.Wait.TheVariants as wait
use Rattle.dump_reader.specs.declared.reading.Reading.{Reading}
use Rattle.dump_reader.specs.declared.fault.ReadFault.{ReadFault}
use Rattle.dump_reader.specs.declared.fault.ReadFault.TheVariants.{Line, Modem}
use Rattle.dump_reader.specs.Numbers.{◌>>=◌, within, numbers, number_at, most_word, has_word}
use Rattle.dump_reader.specs.Cuts.{unindented}
use Rattle.dump_reader.specs.Labels.{label_of, behind}
use Rattle.dump_reader.specs.Facts.{plain_facts, plain_codec, once, once_given, noted, with_other}
use Rattle.dump_reader.specs.Operands.{word_of, byte_of, nid_of, amplifier_or_none, gains_in, stream_of, unsolicited_in}
use Rattle.dump_reader.specs.Operands.{digital_in, power_states_in, state_in, pin_caps_in, star_in, list_of}

-- a line has printable bytes and tabs alone
abbrev pub is_plain_byte : ℕ → Bool
is_plain_byte b = (nat_le 32 b && nat_le b 126) || (b == 9)

abbrev pub is_plain : List ℕ → Bool
is_plain line = list_all is_plain_byte line

-- a fact that a line has whole
abbrev pub alone : Option NodeFacts → Option (NodeFacts × Wait)
alone found = do
  facts ← found
  Some (facts, wait.Nothing)

-- what the next line has to be, behind a line with this label: `Default PCM:` and `PCM:` have all on their line in old
-- kernels, else rates, bits and formats follow, or `N/A`
abbrev pub wait_for_pcm : List ℕ → Wait
wait_for_pcm text = if has_word text (codes "N/A") then wait.Nothing else wait.Rates

-- the PCM line of an old kernel: `rates 0x560, bits 0x0e, types 0x1`
abbrev pub pcm_of : List ℕ → NodeFacts → Option NodeFacts
pcm_of fields facts = do
  rates ← number_at fields 0 0 65535
  bits ← number_at fields 1 0 65535
  formats ← number_at fields 2 0 most_word
  pcm ← once facts.pcm (bits * 65536 + rates)
  Some (record facts { pcm = pcm; formats = Some formats })

abbrev pub pcm_fact : List ℕ → List ℕ → NodeFacts → Option (NodeFacts × Wait)
pcm_fact text fields facts = if length fields == 0 then Some (facts, wait_for_pcm text)
    else alone (pcm_of fields facts)

-- the line of a connection list follows, where there are connections
abbrev pub list_fact : ℕ → List ℕ → NodeFacts → Option (NodeFacts × Wait)
list_fact line fields facts = do
  count ← number_at fields 0 0 127
  list ← once facts.list []
  Some (
    record facts { list = list; lines = record facts.lines { list = line } },
    (if count == 0 then wait.Nothing else wait.List count),
  )

abbrev pub passed_fact : List ℕ → NodeFacts → Option (NodeFacts × Wait)
passed_fact fields facts = do
  count ← number_at fields 0 0 most_word
  Some (facts, (if count == 0 then wait.Nothing else wait.Passed))

abbrev pub amp_in_fact : ℕ → List ℕ → NodeFacts → Option NodeFacts
amp_in_fact line fields facts = do
  word ← amplifier_or_none fields
  held ← once_given facts.amp_in word
  Some (record facts { amp_in = held; lines = record facts.lines { amp_in = line } })

abbrev pub amp_out_fact : ℕ → List ℕ → NodeFacts → Option NodeFacts
amp_out_fact line fields facts = do
  word ← amplifier_or_none fields
  held ← once_given facts.amp_out word
  Some (record facts { amp_out = held; lines = record facts.lines { amp_out = line } })

abbrev pub gains_in_fact : List ℕ → NodeFacts → Option NodeFacts
gains_in_fact text facts = do
  gains ← gains_in text
  held ← once facts.gains_in gains
  Some (record facts { gains_in = held })

-- of an output amplifier the first pair of brackets counts
abbrev pub gain_out_fact : List ℕ → NodeFacts → Option NodeFacts
gain_out_fact text facts = do
  gains ← gains_in text
  held ← once_given facts.gain_out (slice_get gains 0)
  Some (record facts { gain_out = held })

abbrev pub stream_fact : List ℕ → NodeFacts → Option NodeFacts
stream_fact fields facts = do
  stream ← stream_of fields
  held ← once facts.stream stream
  Some (record facts { stream = held })

abbrev pub digital_fact : List ℕ → NodeFacts → Option NodeFacts
digital_fact text facts = do
  held ← once facts.digital (digital_in text)
  Some (record facts { digital = held })

abbrev pub pin_caps_fact : List ℕ → NodeFacts → Option NodeFacts
pin_caps_fact text facts = do
  found ← pin_caps_in text
  held ← once facts.pin_caps found.0
  Some (record facts { pin_caps = held; is_old_pin_caps = found.1 })

abbrev pub default_fact : List ℕ → NodeFacts → Option NodeFacts
default_fact fields facts = do
  word ← word_of fields
  held ← once facts.default word
  Some (record facts { default = held })

abbrev pub control_fact : List ℕ → NodeFacts → Option NodeFacts
control_fact fields facts = do
  byte ← byte_of fields
  held ← once facts.control byte
  Some (record facts { control = held })

abbrev pub eapd_fact : List ℕ → NodeFacts → Option NodeFacts
eapd_fact fields facts = do
  byte ← byte_of fields
  held ← once facts.eapd byte
  Some (record facts { eapd = held })

abbrev pub unsol_fact : List ℕ → NodeFacts → Option NodeFacts
unsol_fact text facts = do
  byte ← unsolicited_in text
  held ← once facts.unsol byte
  Some (record facts { unsol = held })

abbrev pub power_fact : List ℕ → NodeFacts → Option NodeFacts
power_fact text facts = do
  held ← once facts.power (power_states_in text)
  Some (record facts { power = held })

-- another state than D0 to D3 has no key
abbrev pub state_fact_of : Option ℕ → NodeFacts → Option NodeFacts
state_fact_of None facts = Some (noted label.Power facts)
state_fact_of (Some state) facts = do
  held ← once facts.power_state state
  Some (record facts { power_state = held })

abbrev pub state_fact : List ℕ → NodeFacts → Option NodeFacts
state_fact text facts = state_fact_of (state_in text) facts

-- what a line of this label, with this text and these numbers behind it, says of the function group or of a widget
unfoldable pub node_fact : ℕ → Label → List ℕ → List ℕ → NodeFacts → Option (NodeFacts × Wait)
node_fact line label.Pcm text fields facts = pcm_fact text fields facts
node_fact line label.AmpIn text fields facts = alone (amp_in_fact line fields facts)
node_fact line label.AmpOut text fields facts = alone (amp_out_fact line fields facts)
node_fact line label.PowerStates text fields facts = alone (power_fact text facts)
node_fact line label.Power text fields facts = alone (state_fact text facts)
node_fact line label.GainsIn text fields facts = alone (gains_in_fact text facts)
node_fact line label.GainOut text fields facts = alone (gain_out_fact text facts)
node_fact line label.Converter text fields facts = alone (stream_fact fields facts)
node_fact line label.Digital text fields facts = alone (digital_fact text facts)
node_fact line label.PinCaps text fields facts = alone (pin_caps_fact text facts)
node_fact line label.PinDefault text fields facts = alone (default_fact fields facts)
node_fact line label.PinControl text fields facts = alone (control_fact fields facts)
node_fact line label.Eapd text fields facts = alone (eapd_fact fields facts)
node_fact line label.Unsolicited text fields facts = alone (unsol_fact text facts)
node_fact line label.Connection text fields facts = list_fact line fields facts
node_fact line label.DriverConnection text fields facts = passed_fact fields facts
-- these say again what another line says
node_fact line label.VrefCaps text fields facts = Some (facts, wait.Nothing)
node_fact line label.PinPlace text fields facts = Some (facts, wait.Nothing)
node_fact line label.PinAssociation text fields facts = Some (facts, wait.Nothing)
node_fact line label.PinMisc text fields facts = Some (facts, wait.Nothing)
node_fact line label.NoModem text fields facts = Some (facts, wait.Nothing)
node_fact line label.GpioPin text fields facts = Some (facts, wait.Nothing)
node_fact line label.DeviceEntry text fields facts = Some (facts, wait.Nothing)
node_fact line label.ControlAmplifier text fields facts = Some (facts, wait.Nothing)
node_fact line label.Coefficient text fields facts = Some (facts, wait.Nothing)
-- these have no key
node_fact line label.Subsystem text fields facts = alone (Some (noted label.Subsystem facts))
node_fact line label.ModemType text fields facts = alone (Some (noted label.ModemType facts))
node_fact line label.Modem text fields facts = alone (Some (noted label.Modem facts))
node_fact line label.Gpio text fields facts = alone (Some (noted label.Gpio facts))
node_fact line label.Control text fields facts = alone (Some (noted label.Control facts))
node_fact line label.Device text fields facts = alone (Some (noted label.Device facts))
node_fact line label.Devices text fields facts = alone (Some (noted label.Devices facts))
node_fact line label.SdiSelect text fields facts = alone (Some (noted label.SdiSelect facts))
node_fact line label.DigitalCategory text fields facts = alone (Some (noted label.DigitalCategory facts))
node_fact line label.CodingType text fields facts = alone (Some (noted label.CodingType facts))
node_fact line label.VolumeKnob text fields facts = alone (Some (noted label.VolumeKnob facts))
node_fact line label.Delay text fields facts = alone (Some (noted label.Delay facts))
node_fact line label.Processing text fields facts = alone (Some (noted label.Processing facts))
-- these stand elsewhere
node_fact line _ text fields facts = None

-- as what a line of the function group is read: its PCM words and amplifiers have labels of their own, and it has no
-- facts of a widget
abbrev pub group_label : Label → Option Label
group_label label.DefaultPcm = Some label.Pcm
group_label label.DefaultAmpIn = Some label.AmpIn
group_label label.DefaultAmpOut = Some label.AmpOut
group_label label.Pcm = None
group_label label.AmpIn = None
group_label label.AmpOut = None
group_label label.GainsIn = None
group_label label.GainOut = None
group_label label.Converter = None
group_label label.Digital = None
group_label label.PinCaps = None
group_label label.PinDefault = None
group_label label.PinControl = None
group_label label.Eapd = None
group_label label.Unsolicited = None
group_label label.Connection = None
group_label label.DriverConnection = None
group_label other = Some other

-- a line of the function group or of a widget where nothing is awaited; an empty one says nothing
abbrev pub free_line : Bool → ℕ → Option Label → List ℕ → NodeFacts → Option (NodeFacts × Wait)
free_line is_group number None line facts =
    Some ((if length (unindented line) == 0 then facts else with_other number facts), wait.Nothing)
free_line true number (Some at) line facts = do
  own ← group_label at
  node_fact number own (behind at line) (numbers (behind at line)) facts
free_line false number (Some at) line facts = node_fact number at (behind at line)
    (numbers (behind at line)) facts

-- the lines of PCM words in their order: `rates [0x560]: ..`, `bits [0xe]: ..`, `formats [0x1]: ..`, or `N/A`
abbrev pub awaited_line : Wait → Option Label → List ℕ → NodeFacts → Option (NodeFacts × Wait)
awaited_line wait.Rates (Some label.Rates) line facts = do
  rates ← number_at (numbers (behind label.Rates line)) 0 0 65535
  Some (facts, wait.Bits rates)
awaited_line wait.Rates (Some label.NotAvailable) line facts = Some (facts, wait.Nothing)
awaited_line (wait.Bits rates) (Some label.Bits) line facts = do
  bits ← number_at (numbers (behind label.Bits line)) 0 0 65535
  pcm ← once facts.pcm (bits * 65536 + rates)
  Some (record facts { pcm = pcm }, wait.Formats)
awaited_line wait.Formats (Some label.Formats) line facts = do
  formats ← word_of (numbers (behind label.Formats line))
  held ← once facts.formats formats
  Some (record facts { formats = held }, wait.Nothing)
awaited_line _ _ line facts = None

-- the line of a connection list: `0x0c* 0x0e`
abbrev pub selected : Option ℕ → Option (Option ℕ)
selected None = Some None
selected (Some place) = do
  small ← within 0 126 place
  Some (Some small)

abbrev pub list_line : ℕ → List ℕ → NodeFacts → Option (NodeFacts × Wait)
list_line count line facts = do
  list ← list_of count (numbers line)
  select ← selected (star_in line)
  Some (record facts { list = Some list; select = select }, wait.Nothing)

-- what a line says of the function group or of a widget, by what is awaited
abbrev pub fact_on : Wait → Bool → ℕ → List ℕ → NodeFacts → Option (NodeFacts × Wait)
fact_on wait.Nothing is_group number line facts = free_line is_group number (label_of line) line facts
fact_on wait.Passed is_group number line facts = Some (facts, wait.Nothing)
fact_on (wait.List count) is_group number line facts = list_line count line facts
fact_on wait.Rates is_group number line facts = awaited_line wait.Rates (label_of line) line facts
fact_on (wait.Bits rates) is_group number line facts = awaited_line (wait.Bits rates) (label_of line) line facts
fact_on wait.Formats is_group number line facts = awaited_line wait.Formats (label_of line) line facts

abbrev pub node_line : ℕ → List ℕ → Reading → NodeFacts → Option Reading
node_line number line reading node = do
  found ← fact_on reading.wait false number line node
  Some (record reading { node = Some found.0; wait = found.1 })

abbrev pub group_line : ℕ → List ℕ → Reading → CodecFacts → Option Reading
group_line number line reading codec = do
  found ← fact_on reading.wait true number line codec.group
  Some (record reading { codec = Some (record codec { group = found.0 }); wait = found.1 })

-- a line of the widget that began last, or of the function group where none began, or an empty line before all codecs
abbrev pub table_line : ℕ → List ℕ → Reading → Option CodecFacts → Option NodeFacts → Option Reading
table_line number line reading codec (Some node) = node_line number line reading node
table_line number line reading (Some codec) None = group_line number line reading codec
table_line number line reading None None = if length (unindented line) == 0 then Some reading else None

-- the codec's own facts
abbrev pub address_fact : List ℕ → CodecFacts → Option CodecFacts
address_fact fields codec = do
  address ← number_at fields 0 0 14
  held ← once codec.address address
  Some (record codec { address = held })

abbrev pub vendor_fact : List ℕ → CodecFacts → Option CodecFacts
vendor_fact fields codec = do
  word ← word_of fields
  held ← once codec.vendor word
  Some (record codec { vendor = held })

abbrev pub revision_fact : List ℕ → CodecFacts → Option CodecFacts
revision_fact fields codec = do
  word ← word_of fields
  held ← once codec.revision word
  Some (record codec { revision = held })

abbrev pub type_fact : List ℕ → CodecFacts → Option CodecFacts
type_fact fields codec = do
  word ← word_of fields
  held ← once codec.group_type word
  Some (record codec { group_type = held })

abbrev pub group_fact : List ℕ → CodecFacts → Option CodecFacts
group_fact fields codec = do
  nid ← nid_of fields
  held ← once codec.group_nid nid
  Some (record codec { group_nid = held })

-- a modem is noted as what has no key
abbrev pub modem_fact : Label → CodecFacts → Option CodecFacts
modem_fact at codec = Some (record codec { is_modem = true; group = noted at codec.group })

-- the type of one of the function groups: an audio group's, which is 1, or else a modem's
abbrev pub function_fact : List ℕ → CodecFacts → Option CodecFacts
function_fact fields codec = do
  word ← word_of fields
  if word == 1 then type_fact fields codec else modem_fact label.FunctionType codec

-- whether a line of this label says something of the codec itself
abbrev pub is_own : Label → Bool
is_own label.Address = true
is_own label.Vendor = true
is_own label.Revision = true
is_own label.GroupType = true
is_own label.FunctionType = true
is_own label.GroupState = true
is_own label.ModemType = true
is_own label.Modem = true
is_own _ = false

-- what it says; the two labels that are left are a modem's
abbrev pub codec_fact : Label → List ℕ → CodecFacts → Option CodecFacts
codec_fact label.Address fields codec = address_fact fields codec
codec_fact label.Vendor fields codec = vendor_fact fields codec
codec_fact label.Revision fields codec = revision_fact fields codec
codec_fact label.GroupType fields codec = type_fact fields codec
codec_fact label.FunctionType fields codec = function_fact fields codec
codec_fact label.GroupState fields codec = group_fact fields codec
codec_fact at fields codec = modem_fact at codec

-- the codec with the widget that began last
abbrev pub with_node : CodecFacts → Option NodeFacts → CodecFacts
with_node codec None = codec
with_node codec (Some node) = record codec { nodes = codec.nodes ++ node ∷ [] }

-- the line of the first modem's codec that was left out
abbrev pub or_line : Option ℕ → ℕ → Option ℕ
or_line None line = Some line
or_line (Some first) line = Some first

-- the modem's codec that begins on this line is left out
abbrev pub left_out : Reading → ℕ → Reading
left_out reading line = record reading { modem = or_line reading.modem line; codec = None; node = None }

-- A codec ends: it has a widget, or it is a modem's and left out.
abbrev pub filed : Reading → CodecFacts → Option Reading
filed reading codec = if length codec.nodes == 0 then
    (if codec.is_modem then Some (left_out reading codec.line) else None)
    else Some (record reading { codecs = reading.codecs ++ codec ∷ []; codec = None; node = None })

abbrev pub closed_with : Reading → Option CodecFacts → Option Reading
closed_with reading None = Some reading
closed_with reading (Some codec) = filed reading (with_node codec reading.node)

abbrev pub closed : Reading → Option Reading
closed reading = closed_with reading reading.codec

-- a codec begins
abbrev pub codec_begun : ℕ → List ℕ → Reading → Option Reading
codec_begun number text reading = do
  before ← closed reading
  Some (record before { codec = Some (plain_codec number (unindented text)) })

-- whether a node identifier may come behind a widget: it follows that widget's
abbrev pub follows : Option NodeFacts → ℕ → Bool
follows None nid = true
follows (Some node) nid = nid == node.nid + 1

-- whether a widget of this identifier may begin: the codec's address and vendor stand before it
abbrev pub may_begin : CodecFacts → Option NodeFacts → ℕ → Bool
may_begin codec node nid = (is_some codec.address && is_some codec.vendor) && follows node nid

-- a widget begins behind the one that began last
abbrev pub begun : Reading → CodecFacts → NodeFacts → Reading
begun reading codec node = record reading { codec = Some (with_node codec reading.node); node = Some node }

abbrev pub node_with_words : ℕ → List ℕ → Reading → CodecFacts → Option Reading
node_with_words number fields reading codec = do
  nid ← nid_of fields
  caps ← number_at fields 1 0 most_word
  if may_begin codec reading.node nid then Some (begun reading codec (plain_facts number nid caps)) else None

abbrev pub node_begun : ℕ → List ℕ → Reading → Option CodecFacts → Option Reading
node_begun number text reading None = None
node_begun number text reading (Some codec) = node_with_words number (numbers text) reading codec

-- a line of the codec itself, before its widgets
abbrev pub own_line : Label → List ℕ → Reading → Option CodecFacts → Option Reading
own_line at line reading None = None
own_line at line reading (Some codec) = do
  after ← codec_fact at (numbers (behind at line)) codec
  Some (record reading { codec = Some after })

-- whether lines of the codec itself may stand here: a codec began, and no widget of it
abbrev pub is_at_head : Option CodecFacts → Option NodeFacts → Bool
is_at_head (Some codec) None = true
is_at_head _ _ = false

-- a line where nothing is awaited: a codec or a widget begins, or it is one of the codec itself or of a table
abbrev pub head_line : ℕ → Label → List ℕ → Reading → Option Reading
head_line number at line reading = if is_own at && is_at_head reading.codec reading.node
    then own_line at line reading reading.codec
    else table_line number line reading reading.codec reading.node

abbrev pub labelled_line : ℕ → Label → List ℕ → Reading → Option Reading
labelled_line number label.Codec line reading = codec_begun number (behind label.Codec line) reading
labelled_line number label.Node line reading = node_begun number (behind label.Node line) reading reading.codec
labelled_line number at line reading = head_line number at line reading

abbrev pub unawaited_line : ℕ → Option Label → List ℕ → Reading → Option Reading
unawaited_line number (Some at) line reading = labelled_line number at line reading
unawaited_line number None line reading = table_line number line reading reading.codec reading.node

abbrev pub line_by : Wait → ℕ → List ℕ → Reading → Option Reading
line_by wait.Nothing number line reading = unawaited_line number (label_of line) line reading
line_by _ number line reading = table_line number line reading reading.codec reading.node

-- what was read, with one line more, if it can be taken
unfoldable pub with_line : ℕ → List ℕ → Reading → Option Reading
with_line number line reading = if is_plain line then line_by reading.wait number line reading else None

-- before the first line
abbrev pub nothing_read : Reading
nothing_read = record { codecs = []; modem = None; codec = None; node = None; wait = wait.Nothing }

-- why there is no codec at the end, behind which this is the number of a further line
abbrev pub no_codec : ℕ → Option ℕ → ReadFault
no_codec number None = Line number
no_codec number (Some modem) = Modem modem

-- the codecs at the end
abbrev pub codecs_read : ℕ → List CodecFacts → Option ℕ → Result (List CodecFacts) ReadFault
codecs_read number codecs modem = if length codecs == 0 then Err (no_codec number modem) else Ok codecs

abbrev pub all_read : ℕ → Option Reading → Result (List CodecFacts) ReadFault
all_read number None = Err (Line number)
all_read number (Some reading) = codecs_read number reading.codecs reading.modem

abbrev pub ended_by : Wait → ℕ → Reading → Result (List CodecFacts) ReadFault
ended_by wait.Nothing number reading = all_read number (closed reading)
ended_by _ number reading = Err (Line number)

abbrev pub ended : ℕ → Reading → Result (List CodecFacts) ReadFault
ended number reading = ended_by reading.wait number reading

abbrev pub behind_line : ℕ → Option Reading → (Reading → Result (List CodecFacts) ReadFault)
    → Result (List CodecFacts) ReadFault
behind_line number None rest = Err (Line number)
behind_line number (Some reading) rest = rest reading

-- what lines mean that are numbered from `number` on: the first that can't be taken, or that the text ends too early
abbrev pub read_from : ℕ → Reading → List (List ℕ) → Result (List CodecFacts) ReadFault
read_from number reading [] = ended number reading
read_from number reading (line ∷ rest) =
    behind_line number (with_line number line reading) (λ more. read_from (number + 1) more rest)

-- what a dump says of its codecs with an audio function group, in order
unfoldable pub facts_of : List ℕ → Result (List CodecFacts) ReadFault
facts_of bytes = read_from 1 nothing_read (lines bytes)
