-- That what is on its way to the engine belongs to its outstanding command: at most one answer comes, and it is the
-- answer of that command by the codec as it was when it took it. This project's own, over the rings of High Definition
-- Audio 1.0a, 4.4.
use Rattle.std.specs.Prelude.{◌≡◌, ◌≤◌, ◌<◌, ◌⊎◌, ℕ, ◌+◌, ◌-◌, ◌*◌, ◌%◌, ◌==◌, true, false, not, List, [], ◌∷◌, length}
use Rattle.std.specs.Prelude.{map, drop, All, count_by, sum_by, slice_get, slice_index, Option, None, Some}
use Rattle.std.specs.List.{find}
use Rattle.codec_graph.specs.declared.raw.RawCodec.{RawCodec}
use Rattle.codec_graph.specs.declared.waiting.Waiting.{Waiting}
use Rattle.codec_graph.specs.declared.waiting.Waiting.TheVariants.{Answer, Unsolicited}
use Rattle.codec_graph.specs.CodecStates.{CodecState, answers, answer_to}
use Rattle.hda_registers.specs.declared.shapes.RingSize.{RingSize}
use Rattle.hda_registers.specs.Fields.{Fields, entries_of}
use Rattle.world_rings.specs.declared.response.Response.{Response}
use Rattle.world_rings.specs.declared.entries.TheConstants.{COMMAND_BYTES, RESPONSE_BYTES}
use Rattle.world_rings.specs.Memory.{word_at}
use Rattle.world_rings.specs.Entries.{next_place, response_bytes}
use Rattle.world_streams.specs.Streams.{Stream}
use Rattle.hda_world.specs.Worlds.{World, TakenCommand, input_of}
use Rattle.hda_world.specs.Steps.{address_of}
use Rattle.hda_world.specs.Unread.{IsReadTo}
use Rattle.hda_registers.specs.Laws.{IsBesideRings}
use Rattle.hda_world.specs.Events.{Event, Stepped, Begin, End, Read, Write, DmaRead, DmaWrite, happens}
use Rattle.command_engine.specs.declared.ring_places.RingPlaces.{RingPlaces}
use Rattle.command_engine.specs.declared.answers.Outstanding.{Outstanding}
use Rattle.command_engine.specs.Blocks.{corb_bytes, rirb_bytes, are_apart}
use Rattle.command_engine.specs.Sizes.{half_of}
use Rattle.command_engine.specs.Apart.{IsApartBy, StaysApart}

-- ---- the registers of both rings

pub record RingPart : Type 0 where
  pub controller_reset : ℕ
  pub corb_size : RingSize
  pub corb_base : ℕ
  pub corb_write_pointer : ℕ
  pub corb_read_pointer : ℕ
  pub rirb_size : RingSize
  pub rirb_base : ℕ
  pub rirb_write_pointer : ℕ
  pub response_count : ℕ
  pub response_flag : ℕ

abbrev pub part_of : Fields → RingPart
part_of fields = record {
  controller_reset = fields.global.controller_reset;
  corb_size = fields.shape.corb;
  corb_base = fields.global.corb_base;
  corb_write_pointer = fields.global.corb_write_pointer;
  corb_read_pointer = fields.global.corb_read_pointer;
  rirb_size = fields.shape.rirb;
  rirb_base = fields.global.rirb_base;
  rirb_write_pointer = fields.global.rirb_write_pointer;
  response_count = fields.global.response_count;
  response_flag = fields.global.response_flag;
}

-- the controller is out of reset, both rings lie in these blocks, and CORB's write pointer and RINTCNT are as the
-- engine set them
pub record HasRings (corb rirb : ℕ) (rings : RingPlaces) (part : RingPart) : Type 0 where
  pub out : (part.controller_reset == 1) ≡ true
  pub corb_size : part.corb_size ≡ rings.corb
  pub rirb_size : part.rirb_size ≡ rings.rirb
  pub corb_at : 128 * part.corb_base ≡ corb
  pub rirb_at : 128 * part.rirb_base ≡ rirb
  pub submitted : part.corb_write_pointer ≡ rings.submitted
  pub served : part.response_count ≡ half_of rings.rirb
  pub submitted_within : rings.submitted < entries_of rings.corb
  pub read_within : rings.read < entries_of rings.rirb

-- both blocks lie in the region, apart from one another
pub record HasBlocks (corb rirb region : ℕ) : Type 0 where
  pub corb_inside : corb + corb_bytes ≤ region
  pub rirb_inside : rirb + rirb_bytes ≤ region
  pub apart : are_apart corb rirb ≡ true

-- codecs stand by address, each once, and none is above 14
abbrev pub AscendFrom : ℕ → List RawCodec → Type 0
AscendFrom from [] = Unit {0}
AscendFrom from (graph ∷ graphs) = (from ≤ graph.address) × (graph.address ≤ 14) × AscendFrom (graph.address + 1) graphs

abbrev pub graphs_in : List CodecState → List RawCodec
graphs_in codecs = map (λ (codec : CodecState). codec.graph) codecs

abbrev pub AscendByAddress : List CodecState → Type 0
AscendByAddress codecs = AscendFrom 0 (graphs_in codecs)

-- the graph with this address, if there is one
abbrev pub graph_at : ℕ → List RawCodec → Option RawCodec
graph_at address graphs = find (λ (graph : RawCodec). graph.address == address) graphs

-- ---- what was taken of the outstanding command

-- the commands that codecs took since it was submitted: none, or the one
abbrev pub AreOf : Option Outstanding → List TakenCommand → Type 0
AreOf outstanding [] = Unit {0}
AreOf None (taken ∷ more) = ⊥
AreOf (Some command) (taken ∷ more) = (taken.word ≡ command.word) × (more ≡ [])

-- the codec that took a command is the one of the address that the word names, among these graphs
abbrev pub IsOfCodec : List RawCodec → TakenCommand → Type 0
IsOfCodec graphs taken = graph_at (address_of taken.word) graphs ≡ Some taken.codec.graph

abbrev pub AreOfCodecs : List CodecState → List TakenCommand → Type 0
AreOfCodecs codecs gained = All (IsOfCodec (graphs_in codecs)) gained

abbrev pub IsWordOf : Option Outstanding → ℕ → Type 0
IsWordOf None word = ⊥
IsWordOf (Some command) word = word ≡ command.word

-- CORB's engine fetched all commands
pub record AllFetched (outstanding : Option Outstanding) (part : RingPart) (gained : List TakenCommand) : Type 0 where
  pub pointers : part.corb_read_pointer ≡ part.corb_write_pointer
  pub taken : AreOf outstanding gained

-- or the outstanding one is the next that it fetches, and no codec took a command since it was submitted
pub record IsNext (outstanding : Option Outstanding) (part : RingPart) (word : ℕ) (gained : List TakenCommand) : Type 0
  where
    pub pointers : next_place part.corb_read_pointer (entries_of part.corb_size) ≡ part.corb_write_pointer
    pub is : IsWordOf outstanding word
    pub none : gained ≡ []

abbrev pub IsFetching : Option Outstanding → RingPart → ℕ → List TakenCommand → Type 0
IsFetching outstanding part word gained = AllFetched outstanding part gained ⊎ IsNext outstanding part word gained

-- ---- what comes of it

-- the answer to a command that was taken, by the codec as it was then
pub record IsAnswerTo (taken : TakenCommand) (address value : ℕ) : Type 0 where
  pub codec : address ≡ address_of taken.word
  pub answer : value ≡ answer_to taken.codec taken.word

-- an answer that may come: of the first command that was taken, if one was
abbrev pub CanCome : List TakenCommand → ℕ → ℕ → Type 0
CanCome [] address value = ⊥
CanCome (taken ∷ more) address value = IsAnswerTo taken address value

pub record ResponseCanCome (gained : List TakenCommand) (response : Response) : Type 0 where
  pub address : response.codec ≤ 14
  pub answer : response.unsolicited ≡ false → CanCome gained response.codec response.answer

abbrev pub ItemCanCome : List TakenCommand → ℕ → Waiting → Type 0
ItemCanCome gained address (Answer value) = CanCome gained address value
ItemCanCome gained address (Unsolicited value) = Unit {0}

abbrev pub CodecCanSend : List TakenCommand → CodecState → Type 0
CodecCanSend gained codec = All (ItemCanCome gained codec.graph.address) codec.waiting

-- how many responses are answers to commands, and how many answers wait at codecs
abbrev pub solicited : List Response → ℕ
solicited responses = count_by (λ (response : Response). not response.unsolicited) responses

abbrev pub waiting_answers : List CodecState → ℕ
waiting_answers codecs = sum_by (λ (codec : CodecState). answers codec.waiting) codecs

-- what is on its way from codecs to the engine: what waits at codecs, what waits in the controller, and what stands
-- unread in RIRB
pub record IsOnItsWay (gained : List TakenCommand) (unread waiting : List Response) (codecs : List CodecState) : Type 0
  where
    pub in_ring : All (ResponseCanCome gained) unread
    pub in_controller : All (ResponseCanCome gained) waiting
    pub at_codecs : All (CodecCanSend gained) codecs
    -- at most as many answers as commands were taken
    pub few : solicited unread + (solicited waiting + waiting_answers codecs) ≤ length gained

-- responses that were not read stand in RIRB, the first in the entry after the one that was read last
abbrev pub AreStanding : (rirb size place : ℕ) → List ℕ → List Response → Type 0
AreStanding rirb size place memory unread =
    (index : ℕ) (response : Response) (byte : ℕ) → slice_get unread index ≡ Some response → byte < RESPONSE_BYTES
    → slice_index memory (rirb + RESPONSE_BYTES * ((place + (index + 1)) % size) + byte) ≡ slice_index
    (response_bytes response) byte

-- how the engine stands to the world: its blocks lie at these addresses, codecs had taken `from` commands before the
-- outstanding one was submitted, it read the first `read` of all responses that were written, and what the input stream
-- stores lies apart from it
pub record StandsBy (from read corb rirb : ℕ) (rings : RingPlaces) (part : RingPart) (memory : List ℕ)
    (codecs : List CodecState) (waiting : List Response) (commands : List TakenCommand) (written : List Response)
    (input : Stream) : Type 0 where
  pub has_rings : HasRings corb rirb rings part
  pub blocks : HasBlocks corb rirb (length memory)
  pub ascend : AscendByAddress codecs
  pub reading : IsReadTo read (length written) part.response_flag (entries_of part.rirb_size)
  pub flag : part.response_flag ≤ 1
  pub few : length written ≤ read + half_of rings.rirb
  pub pointer : part.rirb_write_pointer ≡ (rings.read + (length written - read)) % entries_of rings.rirb
  pub standing : AreStanding rirb (entries_of rings.rirb) rings.read memory (drop read written)
  pub from_within : from ≤ length commands
  pub fetching : IsFetching rings.outstanding part (word_at memory (corb + COMMAND_BYTES * rings.submitted))
      (drop from commands)
  pub taken_by : AreOfCodecs codecs (drop from commands)
  pub on_its_way : IsOnItsWay (drop from commands) (drop read written) waiting codecs
  pub apart : IsApartBy corb rirb memory input

abbrev pub Stands : (from read corb rirb : ℕ) → RingPlaces → World → Type 0
Stands from read corb rirb rings world =
    StandsBy from read corb rirb rings (part_of world.registers) world.memory world.codecs world.waiting world.commands
    world.written (input_of world)

-- ---- what else happens between the engine's calls

-- none of so many bytes from this address on is one of the block's
abbrev pub IsBesideBlock : (block size at bytes : ℕ) → Type 0
IsBesideBlock block size at bytes = (at + bytes ≤ block) ⊎ (block + size ≤ at)

-- an event that is none of the engine's: a step of the device, a mark, a read, a write of a register that is neither
-- GCTL nor one of CORB or RIRB, or a write of memory beside both blocks
abbrev pub IsBeside : ℕ → ℕ → Event → Type 0
IsBeside corb rirb (Stepped step) = Unit {0}
IsBeside corb rirb Begin = Unit {0}
IsBeside corb rirb End = Unit {0}
IsBeside corb rirb (Read at width value) = Unit {0}
IsBeside corb rirb (Write at width value) = IsBesideRings at
IsBeside corb rirb (DmaRead at bytes) = Unit {0}
IsBeside corb rirb (DmaWrite at bytes) = IsBesideBlock corb corb_bytes at (length bytes)
    × IsBesideBlock rirb rirb_bytes at (length bytes)

-- several are, and after each of them the input stream still lies apart
abbrev pub AreBeside : ℕ → ℕ → List Event → World → Type 0
AreBeside corb rirb [] world = Unit {0}
AreBeside corb rirb (event ∷ events) world = IsBeside corb rirb event × StaysApart corb rirb event world
    × AreBeside corb rirb events (happens world event)
