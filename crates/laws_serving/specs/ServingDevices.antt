-- A device that serves its driver's rings: both engines run, nothing is lost and nothing comes unasked, so that each
-- command is answered. This project's own, over the rings of High Definition Audio 1.0a, 4.4.
use Rattle.std.specs.Prelude.{◌≡◌, ◌≤◌, ◌<◌, ◌⊎◌, ℕ, ◌+◌, Bool, true, false, List, [], ◌∷◌, length, drop, All, Option}
use Rattle.std.specs.Prelude.{Some, None}
use Rattle.std.specs.Option.{is_some}
use Rattle.codec_graph.specs.CodecStates.{CodecState, answers}
use Rattle.hda_registers.specs.Fields.{Global, entries_of}
use Rattle.world_rings.specs.Entries.{next_place}
use Rattle.world_rings.specs.declared.response.Response.{Response}
use Rattle.world_steps.specs.declared.Step.{Step}
use Rattle.world_steps.specs.declared.Step.TheVariants as step
use Rattle.hda_world.specs.Worlds.{World, TakenCommand, codec_at}
use Rattle.hda_world.specs.Steps.{address_of}
use Rattle.command_engine.specs.declared.answers.Outstanding.{Outstanding}
use Rattle.command_engine.specs.declared.ring_places.RingPlaces.{RingPlaces}
use Rattle.command_engine.specs.Fetchings.{Stands, solicited, waiting_answers}

-- ---- steps

-- whether a step neither loses an answer nor has a codec tell something unasked
abbrev pub keeps_answers : Step → Bool
keeps_answers step.Corb = true
keeps_answers (step.Answer codec) = true
keeps_answers (step.Lose codec) = false
keeps_answers step.Rirb = true
keeps_answers (step.Fetch stream most) = true
keeps_answers (step.Link frames) = true
keeps_answers (step.Plug codec nid) = false
keeps_answers (step.Unplug codec nid) = false

abbrev pub KeepAnswers : List Step → Type 0
KeepAnswers [] = Unit {0}
KeepAnswers (step ∷ steps) = (keeps_answers step ≡ true) × KeepAnswers steps

-- some steps stand in this order among others
abbrev pub ComeInOrder : List Step → List Step → Type 0
ComeInOrder [] steps = Unit {0}
ComeInOrder (wanted ∷ later) [] = ⊥
ComeInOrder (wanted ∷ later) (step ∷ steps) = ((step ≡ wanted) × ComeInOrder later steps)
    ⊎ ComeInOrder (wanted ∷ later) steps

-- the way of a command and of its answer: CORB's engine hands it to the codec, the codec answers, and RIRB's engine
-- writes the answer
abbrev pub round_trip : ℕ → List Step
round_trip codec = step.Corb ∷ step.Answer codec ∷ step.Rirb ∷ []

-- ---- the device

-- all that waits at a codec are answers to commands
abbrev pub HasAnswersAlone : CodecState → Type 0
HasAnswersAlone codec = answers codec.waiting ≡ length codec.waiting

-- both engines run, nothing waits or is unread that came unasked, of each command that was taken since the first so
-- many the answer is on its way, and while RINTFL is 1 some response is unread
pub record ServesBy (from read : ℕ) (global : Global) (codecs : List CodecState) (waiting : List Response)
    (commands : List TakenCommand) (written : List Response) : Type 0 where
  pub corb_runs : global.corb_run ≡ 1
  pub no_reset : global.corb_pointer_reset ≡ 0
  pub rirb_runs : global.rirb_run ≡ 1
  pub flag : global.response_flag ≡ 1 → read < length written
  pub asked : All HasAnswersAlone codecs
  pub all_asked : solicited waiting ≡ length waiting
  pub read_asked : solicited (drop read written) ≡ length (drop read written)
  pub none_lost : solicited (drop read written) + (solicited waiting + waiting_answers codecs)
      ≡ length (drop from commands)

abbrev pub Serves : (from read : ℕ) → World → Type 0
Serves from read world = ServesBy from read world.registers.global world.codecs world.waiting world.commands
    world.written

-- the engine stands to a world whose device serves its rings
pub record StandsServed (from read corb rirb : ℕ) (rings : RingPlaces) (world : World) : Type 0 where
  pub stands : Stands from read corb rirb rings world
  pub serves : Serves from read world

-- ---- how far the outstanding command has come

-- how many commands were taken since the first so many, and how many answers stand unread in RIRB
abbrev pub taken_since : (from : ℕ) → World → ℕ
taken_since from world = length (drop from world.commands)

abbrev pub unread_answers : (read : ℕ) → World → ℕ
unread_answers read world = solicited (drop read world.written)

-- it was taken, or it is the next that CORB's engine fetches
abbrev pub IsComing : (from : ℕ) → World → Type 0
IsComing from world =
    (1 ≤ taken_since from world)
    ⊎ (next_place world.registers.global.corb_read_pointer (entries_of world.registers.shape.corb)
    ≡ world.registers.global.corb_write_pointer)

-- the codec that it names is on the link
abbrev pub HasItsCodec : Option Outstanding → List CodecState → Type 0
HasItsCodec None codecs = Unit {0}
HasItsCodec (Some command) codecs = is_some (codec_at (address_of command.word) codecs) ≡ true

-- the codec that is asked is the one that the word names
abbrev pub NamesItsCodec : Option Outstanding → Type 0
NamesItsCodec None = Unit {0}
NamesItsCodec (Some command) = address_of command.word ≡ command.codec
