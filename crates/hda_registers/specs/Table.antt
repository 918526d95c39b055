-- The table of the registers: where each group of bits stands and what a write does to it. High Definition Audio 1.0a,
-- 3.3. Places without a group here read 0 and ignore writes, this project's own; so GSTS, CORBUBASE, CORBSTS, RIRBUBASE
-- and the BDPU of the descriptors have none. What a register does beyond its name, place and width is this project's
-- own.
use Rattle.std.specs.Prelude.{ℕ, ◌==◌, if◌then◌else◌}
use Rattle.hda_registers.specs.declared.shapes.RingSize.{RingSize}
use Rattle.hda_registers.specs.declared.shapes.RingSize.TheVariants.{Two, Sixteen, Full}
use Rattle.hda_registers.specs.declared.shapes.Shape.{Shape}
use Rattle.hda_registers.specs.declared.places.TheConstants.{GCAP, VMIN, VMAJ, OUTPAY, INPAY, GCTL, WAKEEN, STATESTS}
use Rattle.hda_registers.specs.declared.places.TheConstants.{INTCTL, INTSTS, WALCLK, CORBLBASE, CORBWP, CORBRP, CORBCTL}
use Rattle.hda_registers.specs.declared.places.TheConstants.{CORBSIZE, RIRBLBASE, RIRBWP, RINTCNT, RIRBCTL, RIRBSTS}
use Rattle.hda_registers.specs.declared.places.TheConstants.{RIRBSIZE, SDCTL, SDSTS, SDLPIB, SDCBL, SDLVI, SDFIFOS}
use Rattle.hda_registers.specs.declared.places.TheConstants.{SDFMT, SDBDPL}
use Rattle.hda_registers.specs.Fields.{entries_of}

-- what a write does to the bits of a group
pub data Rule : Type 0 where
  -- nothing
  ReadOnly : Rule
  -- they are kept
  ReadWrite : Rule
  -- they are kept modulo a number
  ReadWriteModulo : (size : ℕ) → Rule
  -- those that are written 1 become 0
  ClearedByOne : Rule
  -- all become 0 where this bit of the register is written 1
  ZeroedBy : (bit : ℕ) → Rule

-- a group of bits: the place of its register, its lowest bit there, how many bits it has, and its rule
pub record Row : Type 0 where
  pub place : ℕ
  pub low : ℕ
  pub bits : ℕ
  pub rule : Rule

abbrev row : ℕ → ℕ → ℕ → Rule → Row
row place low bits rule = record { place = place; low = low; bits = bits; rule = rule }

-- the groups below the descriptors
pub data GlobalGroup : Type 0 where
  Capabilities : GlobalGroup
  MinorVersion : GlobalGroup
  MajorVersion : GlobalGroup
  OutputPayload : GlobalGroup
  InputPayload : GlobalGroup
  ControllerReset : GlobalGroup
  Unsolicited : GlobalGroup
  WakeEnable : GlobalGroup
  StateStatus : GlobalGroup
  InputInterrupt : GlobalGroup
  OutputInterrupt : GlobalGroup
  ControllerInterrupt : GlobalGroup
  GlobalInterrupt : GlobalGroup
  InterruptStatus : GlobalGroup
  WallClock : GlobalGroup
  CorbBase : GlobalGroup
  CorbWritePointer : GlobalGroup
  CorbReadPointer : GlobalGroup
  CorbPointerReset : GlobalGroup
  CorbErrorInterrupt : GlobalGroup
  CorbRun : GlobalGroup
  CorbSize : GlobalGroup
  RirbBase : GlobalGroup
  RirbWritePointer : GlobalGroup
  ResponseCount : GlobalGroup
  ResponseInterrupt : GlobalGroup
  RirbRun : GlobalGroup
  RirbOverrunInterrupt : GlobalGroup
  ResponseFlag : GlobalGroup
  RirbSize : GlobalGroup

abbrev pub global_row : Shape → GlobalGroup → Row
global_row shape Capabilities = row GCAP 0 16 ReadOnly  -- GCAP, 3.3.2
global_row shape MinorVersion = row VMIN 0 8 ReadOnly  -- VMIN, 3.3.3
global_row shape MajorVersion = row VMAJ 0 8 ReadOnly  -- VMAJ, 3.3.4
global_row shape OutputPayload = row OUTPAY 0 16 ReadOnly  -- OUTPAY, 3.3.5
global_row shape InputPayload = row INPAY 0 16 ReadOnly  -- INPAY, 3.3.6
global_row shape ControllerReset = row GCTL 0 1 ReadWrite  -- GCTL CRST, 3.3.7
global_row shape Unsolicited = row GCTL 8 1 ReadWrite  -- GCTL UNSOL, 3.3.7
global_row shape WakeEnable = row WAKEEN 0 15 ReadWrite  -- WAKEEN, 3.3.8
global_row shape StateStatus = row STATESTS 0 15 ClearedByOne  -- STATESTS, 3.3.9
global_row shape InputInterrupt = row INTCTL 0 1 ReadWrite  -- INTCTL SIE of descriptor 0, 3.3.14
global_row shape OutputInterrupt = row INTCTL 1 1 ReadWrite  -- INTCTL SIE of descriptor 1, 3.3.14
global_row shape ControllerInterrupt = row INTCTL 30 1 ReadWrite  -- INTCTL CIE, 3.3.14
global_row shape GlobalInterrupt = row INTCTL 31 1 ReadWrite  -- INTCTL GIE, 3.3.14
global_row shape InterruptStatus = row INTSTS 0 32 ReadOnly  -- INTSTS, 3.3.15
global_row shape WallClock = row WALCLK 0 32 ReadOnly  -- WALCLK, 3.3.16
global_row shape CorbBase = row CORBLBASE 7 25 ReadWrite  -- CORBLBASE, 3.3.18
global_row shape CorbWritePointer = row CORBWP 0 8 (ReadWriteModulo (entries_of shape.corb))  -- CORBWP, 3.3.20
global_row shape CorbReadPointer = row CORBRP 0 8 (ZeroedBy 15)  -- CORBRP, 3.3.21
global_row shape CorbPointerReset = row CORBRP 15 1 ReadWrite  -- CORBRP CORBRPRST, 3.3.21
global_row shape CorbErrorInterrupt = row CORBCTL 0 1 ReadWrite  -- CORBCTL CMEIE, 3.3.22
global_row shape CorbRun = row CORBCTL 1 1 ReadWrite  -- CORBCTL CORBRUN, 3.3.22
global_row shape CorbSize = row CORBSIZE 0 8 ReadOnly  -- CORBSIZE, 3.3.24
global_row shape RirbBase = row RIRBLBASE 7 25 ReadWrite  -- RIRBLBASE, 3.3.25
global_row shape RirbWritePointer = row RIRBWP 0 8 (ZeroedBy 15)  -- RIRBWP, 3.3.27
global_row shape ResponseCount = row RINTCNT 0 8 ReadWrite  -- RINTCNT, 3.3.28
global_row shape ResponseInterrupt = row RIRBCTL 0 1 ReadWrite  -- RIRBCTL RINTCTL, 3.3.29
global_row shape RirbRun = row RIRBCTL 1 1 ReadWrite  -- RIRBCTL RIRBDMAEN, 3.3.29
global_row shape RirbOverrunInterrupt = row RIRBCTL 2 1 ReadWrite  -- RIRBCTL RIRBOIC, 3.3.29
global_row shape ResponseFlag = row RIRBSTS 0 1 ClearedByOne  -- RIRBSTS RINTFL, 3.3.30
global_row shape RirbSize = row RIRBSIZE 0 8 ReadOnly  -- RIRBSIZE, 3.3.31

-- the groups of a stream descriptor, at places from its first byte on
pub data StreamGroup : Type 0 where
  StreamReset : StreamGroup
  Run : StreamGroup
  CompletionInterrupt : StreamGroup
  FifoInterrupt : StreamGroup
  DescriptorInterrupt : StreamGroup
  Tag : StreamGroup
  Completion : StreamGroup
  FifoError : StreamGroup
  DescriptorError : StreamGroup
  FifoReady : StreamGroup
  Position : StreamGroup
  Length : StreamGroup
  LastIndex : StreamGroup
  FifoSize : StreamGroup
  Format : StreamGroup
  ListBase : StreamGroup

-- kept, but not while the stream runs
abbrev kept_at_rest : ℕ → Rule
kept_at_rest run = if run == 1 then ReadOnly else ReadWrite

abbrev pub stream_row : ℕ → StreamGroup → Row
stream_row run StreamReset = row SDCTL 0 1 ReadWrite  -- SDCTL SRST, 3.3.35
stream_row run Run = row SDCTL 1 1 ReadWrite  -- SDCTL RUN, 3.3.35
stream_row run CompletionInterrupt = row SDCTL 2 1 ReadWrite  -- SDCTL IOCE, 3.3.35
stream_row run FifoInterrupt = row SDCTL 3 1 ReadWrite  -- SDCTL FEIE, 3.3.35
stream_row run DescriptorInterrupt = row SDCTL 4 1 ReadWrite  -- SDCTL DEIE, 3.3.35
stream_row run Tag = row SDCTL 20 4 ReadWrite  -- SDCTL STRM, 3.3.35
stream_row run Completion = row SDSTS 2 1 ClearedByOne  -- SDSTS BCIS, 3.3.36
stream_row run FifoError = row SDSTS 3 1 ClearedByOne  -- SDSTS FIFOE, 3.3.36
stream_row run DescriptorError = row SDSTS 4 1 ClearedByOne  -- SDSTS DESE, 3.3.36
stream_row run FifoReady = row SDSTS 5 1 ReadOnly  -- SDSTS FIFORDY, 3.3.36
stream_row run Position = row SDLPIB 0 32 ReadOnly  -- SDLPIB, 3.3.37
stream_row run Length = row SDCBL 0 32 (kept_at_rest run)  -- SDCBL, 3.3.38
stream_row run LastIndex = row SDLVI 0 8 (kept_at_rest run)  -- SDLVI, 3.3.39
stream_row run FifoSize = row SDFIFOS 0 16 ReadOnly  -- SDFIFOS, 3.3.40
stream_row run Format = row SDFMT 0 16 (kept_at_rest run)  -- SDFMT, 3.3.41
stream_row run ListBase = row SDBDPL 7 25 (kept_at_rest run)  -- SDBDPL (BDLPL), 3.3.42

-- what CORBSIZE and RIRBSIZE read: the size in bits 1:0 and, as bits 6:4, that it is the only one
abbrev pub size_code : RingSize → ℕ
size_code Two = 0x10
size_code Sixteen = 0x21
size_code Full = 0x42
