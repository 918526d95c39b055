-- That the answers of jacks decide which speakers are on, read off a journal alone: the words that are written into
-- CORB and the entries that are read of RIRB. Commands and responses: High Definition Audio 1.0a, 4.4; pin sense:
-- 7.3.3.15; pin widget control: 7.3.3.13. The rule is this project's own.
use Rattle.std.specs.Prelude.{◌≡◌, ℕ, ◌+◌, ◌==◌, ◌&&◌, not, nat_le, Bool, true, false, List, [], ◌∷◌, map}
use Rattle.std.specs.Prelude.{Option, None, Some, if◌then◌else◌, find}
use Rattle.std.specs.Option.{option_map}
use Rattle.codec_graph.specs.declared.raw.RawCodec.{RawCodec}
use Rattle.route_planner.specs.declared.routes.Plan.{Plan}
use Rattle.verb_codes.specs.declared.verbs.Command.{Command}
use Rattle.verb_codes.specs.declared.verbs.Verb.{Verb}
use Rattle.verb_codes.specs.declared.verbs.Verb.TheVariants.{SetPin, GetSense}
use Rattle.verb_codes.specs.Verbs.{reading_of}
use Rattle.verb_codes.specs.Words.{has_bit}
use Rattle.world_rings.specs.declared.response.Response.{Response}
use Rattle.world_rings.specs.Memory.{word_at}
use Rattle.hda_world.specs.Events.{Event, Stepped, Begin, End, Read, Write, DmaRead, DmaWrite}
use Rattle.command_engine.specs.Blocks.{corb_bytes, rirb_bytes}
use Rattle.command_engine.specs.Entries.{response_in}
use Rattle.jack_rules.specs.declared.pins.JackPin.{JackPin}
use Rattle.jack_rules.specs.declared.pins.JackState.{JackState}
use Rattle.jack_rules.specs.declared.pins.SpeakerPin.{SpeakerPin}
use Rattle.jack_rules.specs.JackPins.{jacks_of, speakers_of}
use Rattle.jack_rules.specs.Switching.{SwitchingState, jack_opened, sensed, presence_at}
use Rattle.jack_rules.specs.Switching.{is_wanted, control_of}
use Rattle.laws_switching.specs.Speakers.{is_pin_at}

-- what is known of jacks by a journal: what something was plugged into when each was asked last, and which jack the
-- last command asks whose answer was not read, if it asks one
pub record Senses : Type 0 where
  pub jacks : List JackState
  pub asked : Option JackPin

abbrev pub senses_opened : List RawCodec → List Plan → Senses
senses_opened graphs plans = record { jacks = map jack_opened (jacks_of graphs plans); asked = None }

-- what the rules keep of jacks is what the journal says of them, but for which are to be asked
abbrev pub presence_of : JackState → JackState
presence_of state = record state { to_ask = true }

abbrev pub place_of : JackPin → ℕ × ℕ
place_of jack = (jack.codec, jack.pin)

pub record KnowsJacks (senses : Senses) (switching : SwitchingState) : Type 0 where
  pub jacks : map presence_of switching.jacks ≡ senses.jacks
  pub asked : option_map place_of switching.asking ≡ option_map place_of senses.asked

-- ---- commands

-- the jack that a pin of a codec is, if it is one
abbrev pub is_jack_at : (codec pin : ℕ) → JackPin → Bool
is_jack_at codec pin jack = jack.codec == codec && jack.pin == pin

abbrev pub jack_among : List JackState → (codec pin : ℕ) → Option JackPin
jack_among jacks codec pin = find (is_jack_at codec pin) (map (λ (state : JackState). state.jack) jacks)

-- which jack a command asks
abbrev pub asked_in : List JackState → (codec nid : ℕ) → Verb → Option JackPin
asked_in jacks codec nid GetSense = jack_among jacks codec nid
asked_in jacks codec nid _ = None

abbrev pub asked_by : List JackState → Option Command → Option JackPin
asked_by jacks None = None
asked_by jacks (Some command) = asked_in jacks command.codec command.nid command.verb

-- ---- answers

abbrev pub is_answer_of : JackPin → Response → Bool
is_answer_of jack response = not response.unsolicited && response.codec == jack.codec

abbrev pub answered_if : Senses → Option JackPin → Response → Senses
answered_if senses None response = senses
answered_if senses (Some jack) response =
    if is_answer_of jack response
    then record { jacks = map (sensed jack (has_bit response.answer presence_at)) senses.jacks; asked = None }
    else senses

-- ---- what they decide

-- a number that is put into a speaker's control is 0 where something is plugged into some jack of its codec and
-- association, else 40h
abbrev pub IsDecidedFor : List JackState → (codec nid control : ℕ) → Option SpeakerPin → Type 0
IsDecidedFor jacks codec nid control None = Unit {0}
IsDecidedFor jacks codec nid control (Some speaker) = control ≡ control_of (is_wanted jacks speaker)

abbrev pub IsDecidedIn : List SpeakerPin → List JackState → (codec nid : ℕ) → Verb → Type 0
IsDecidedIn speakers jacks codec nid (SetPin control) =
    IsDecidedFor jacks codec nid control (find (is_pin_at codec nid) speakers)
IsDecidedIn speakers jacks codec nid _ = Unit {0}

abbrev pub IsDecidedBy : List SpeakerPin → List JackState → Option Command → Type 0
IsDecidedBy speakers jacks None = Unit {0}
IsDecidedBy speakers jacks (Some command) = IsDecidedIn speakers jacks command.codec command.nid command.verb

-- ---- events

-- whether an address lies in a block
abbrev pub is_in : (block size at : ℕ) → Bool
is_in block size at = nat_le block at && nat_le (at + 1) (block + size)

module _ (corb rirb : ℕ) where
  -- after an event: a write into CORB may ask a jack, and a read of RIRB may answer
  abbrev pub senses_noted : Senses → Event → Senses
  senses_noted senses (DmaWrite at bytes) =
      if is_in corb corb_bytes at
      then record senses { asked = asked_by senses.jacks (reading_of (word_at bytes 0)) }
      else senses
  senses_noted senses (DmaRead at bytes) =
      if is_in rirb rirb_bytes at then answered_if senses senses.asked (response_in bytes) else senses
  senses_noted senses (Stepped step) = senses
  senses_noted senses Begin = senses
  senses_noted senses End = senses
  senses_noted senses (Read at width value) = senses
  senses_noted senses (Write at width value) = senses

  -- ---- a journal

  abbrev pub IsDecidedAt : List SpeakerPin → Senses → Event → Type 0
  IsDecidedAt speakers senses (DmaWrite at bytes) =
      is_in corb corb_bytes at ≡ true → IsDecidedBy speakers senses.jacks (reading_of (word_at bytes 0))
  IsDecidedAt speakers senses (DmaRead at bytes) = Unit {0}
  IsDecidedAt speakers senses (Stepped step) = Unit {0}
  IsDecidedAt speakers senses Begin = Unit {0}
  IsDecidedAt speakers senses End = Unit {0}
  IsDecidedAt speakers senses (Read at width value) = Unit {0}
  IsDecidedAt speakers senses (Write at width value) = Unit {0}

  abbrev pub senses_after : List Event → Senses → Senses
  senses_after [] senses = senses
  senses_after (event ∷ events) senses = senses_after events (senses_noted senses event)

  abbrev pub AreDecided : List SpeakerPin → List Event → Senses → Type 0
  AreDecided speakers [] senses = Unit {0}
  AreDecided speakers (event ∷ events) senses =
      IsDecidedAt speakers senses event × AreDecided speakers events (senses_noted senses event)

  -- each SetPin of a speaker that events from the turn on write into CORB carries what the sense answers among them
  -- before it decide
  abbrev pub SensesDecide : List RawCodec → List Plan → List Event → Type 0
  SensesDecide graphs plans events = AreDecided (speakers_of graphs plans) events (senses_opened graphs plans)

  -- ---- events beside both rings

  -- what an event writes of memory lies outside CORB, and what it reads outside RIRB
  abbrev pub IsBesideSenses : Event → Type 0
  IsBesideSenses (DmaWrite at bytes) = is_in corb corb_bytes at ≡ false
  IsBesideSenses (DmaRead at bytes) = is_in rirb rirb_bytes at ≡ false
  IsBesideSenses (Stepped step) = Unit {0}
  IsBesideSenses Begin = Unit {0}
  IsBesideSenses End = Unit {0}
  IsBesideSenses (Read at width value) = Unit {0}
  IsBesideSenses (Write at width value) = Unit {0}
