-- Codecs with settings of their graphs keep such, and take commands with such.
use Rattle.std.proofs.Common.{◌≡◌, ◌≤◌, ◌<◌, ◌^◌, ◌==◌, ℕ, Bool, true, false, List, [], ◌∷◌, ◌++◌, length, map, drop, Option, None, Some, refl, sym, subst, ◌∙◌, arith, lit<, if◌then◌else◌, length-append}
use Rattle.std.specs.Prelude.{All}
use Rattle.std.proofs.Math.Nat.{mod-eq_of_lt}
use Rattle.std.proofs.lemmas.List.{drop-append-le, drop_all}
use Rattle.std.proofs.lemmas.List.Elements.{All-cons, All-head, All-tail, All-nil, All-append}
use Rattle.verb_codes.specs.declared.verbs.Command.{Command}
use Rattle.verb_codes.specs.Verbs.{reading_of}
use Rattle.codec_graph.specs.declared.raw.RawNode.{RawNode}
use Rattle.codec_graph.specs.Widget.{node_at, is_pin}
use Rattle.codec_graph.specs.CodecStates.{CodecState, taken, plugged, node_plugged, pin_plugged, without_first, without_answer, cleared, reading_answer, answer_to}
use Rattle.codec_graph.proofs.Callers.{settings-reading}
use Rattle.codec_graph.proofs.Callers.{answer_of-narrow}
use Rattle.hda_registers.specs.declared.shapes.Width.{Width}
use Rattle.hda_registers.specs.Access.{written, effects_of}
use Rattle.hda_registers.specs.Fields.{is_running}
use Rattle.world_rings.specs.Entries.{next_command}
use Rattle.hda_world.specs.Worlds.{World, TakenCommand, codec_at, with_codec}
use Rattle.hda_world.specs.Steps.{address_of, taking}
use Rattle.hda_world.specs.Events.{Event, Stepped, Begin, End, Read, Write, DmaRead, DmaWrite, reset_if, counted_anew_if, registers_written, after_write, happens, after}
use Rattle.hda_world.specs.Kept.{Kept}
use Rattle.hda_world.proofs.Callers.{kept_steps, found_all, kept_codecs}
use Rattle.command_engine.specs.declared.answers.Outstanding.{Outstanding}
use Rattle.command_engine.specs.Belonging.{IsSettled, TookSettled, IsAnswered}

-- ---- codecs

all_with : (address : ℕ) (change : CodecState → CodecState) (codecs : List CodecState) → ((codec : CodecState) → IsSettled codec → IsSettled (change codec)) → All IsSettled codecs → All IsSettled (with_codec address change codecs)
all_with address change [] keeps all = All-nil IsSettled
all_with address change (codec ∷ codecs) keeps all =
    All-cons IsSettled _ (with_codec address change codecs) (by (codec.graph.address == address)) (all_with address change codecs keeps (All-tail IsSettled codec codecs all))
  where
    by : (b : Bool) → IsSettled (if b then change codec else codec)
    by true = keeps codec (All-head IsSettled codec codecs all)
    by false = All-head IsSettled codec codecs all

all_cleared : (codecs : List CodecState) → All IsSettled codecs → All IsSettled (map cleared codecs)
all_cleared [] all = All-nil IsSettled
all_cleared (codec ∷ codecs) all =
    let first = All-head IsSettled codec codecs all in
    All-cons IsSettled (cleared codec) (map cleared codecs) (record { well_formed = first.well_formed; settings = first.settings }) (all_cleared codecs (All-tail IsSettled codec codecs all))

settled_taken : (codec : CodecState) (word : ℕ) → IsSettled codec → IsSettled (taken codec word)
settled_taken codec word is = record { well_formed = is.well_formed; settings = settings-reading codec word is.settings }

settled_plugged : (codec : CodecState) (nid : ℕ) (present : Bool) → IsSettled codec → IsSettled (plugged codec nid present)
settled_plugged codec nid present is = by (node_at codec.graph nid)
  where
    pin : (node : RawNode) (b : Bool) → IsSettled (if b then pin_plugged codec nid present node else codec)
    pin node true = record { well_formed = is.well_formed; settings = is.settings }
    pin node false = is

    by : (node : Option RawNode) → IsSettled (node_plugged codec nid present node)
    by None = is
    by (Some node) = pin node (is_pin node)

-- ---- the world

-- the codecs, and those that took the commands since the first so many
pub record SettledBy (from : ℕ) (codecs : List CodecState) (commands : List TakenCommand) : Type 0 where
  pub codecs_are : All IsSettled codecs
  pub within : from ≤ length commands
  pub takers_are : All TookSettled (drop from commands)

abbrev pub Settled : ℕ → World → Type 0
Settled from world = SettledBy from world.codecs world.commands

module _ (from : ℕ) where
  taker : (address word carried : ℕ) (running : Bool) (codecs : List CodecState) (found : Option CodecState) → codec_at address codecs ≡ found → All IsSettled codecs → All TookSettled (taking word found running carried)
  taker address word carried running codecs None there all = All-nil TookSettled
  taker address word carried running codecs (Some codec) there all =
      let one : TakenCommand = record { word = word; codec = codec; running = running; carried = carried } in
      All-cons TookSettled one [] (found_all IsSettled address codecs codec there all) (All-nil TookSettled)

  hands : (address word carried : ℕ) (running : Bool) (codecs : List CodecState) (commands : List TakenCommand) → SettledBy from codecs commands
      → SettledBy from (with_codec address (λ codec. taken codec word) codecs) (commands ++ taking word (codec_at address codecs) running carried)
  hands address word carried running codecs commands is =
      let more = taking word (codec_at address codecs) running carried in
      let within = is.within in
      let long = length-append commands more in
      record {
        codecs_are = all_with address (λ codec. taken codec word) codecs (λ codec settled. settled_taken codec word settled) is.codecs_are;
        within = omega arith;
        takers_are = subst (All TookSettled) (sym (drop-append-le from commands more is.within))
            (All-append TookSettled (drop from commands) more is.takers_are (taker address word carried running codecs (codec_at address codecs) refl is.codecs_are));
      }

  changes : (address : ℕ) (change : CodecState → CodecState) (codecs : List CodecState) (commands : List TakenCommand) → ((codec : CodecState) → IsSettled codec → IsSettled (change codec)) → SettledBy from codecs commands
      → SettledBy from (with_codec address change codecs) commands
  changes address change codecs commands keeps is = record { codecs_are = all_with address change codecs keeps is.codecs_are; within = is.within; takers_are = is.takers_are }

  keeps_settled : Kept (Settled from)
  keeps_settled = kept_codecs (SettledBy from) (record {
    hands = λ world holds can free.
        (let word = next_command world.registers world.memory in hands (address_of word) word (length world.carried) (is_running world.registers.output) world.codecs world.commands holds);
    sends = λ world address item rest holds out room are.
        changes address without_first world.codecs world.commands (λ codec is. record { well_formed = is.well_formed; settings = is.settings }) holds;
    loses = λ world address holds out. changes address without_answer world.codecs world.commands (λ codec is. record { well_formed = is.well_formed; settings = is.settings }) holds;
    plugs = λ world address nid present holds. changes address (λ codec. plugged codec nid present) world.codecs world.commands (λ codec is. settled_plugged codec nid present is) holds;
  })

  reset_settled : (reset : Bool) (world : World) → Settled from world → Settled from (reset_if reset world)
  reset_settled true world is = record { codecs_are = all_cleared world.codecs is.codecs_are; within = is.within; takers_are = is.takers_are }
  reset_settled false world is = is

  counted_settled : (anew : Bool) (world : World) → Settled from world → Settled from (counted_anew_if anew world)
  counted_settled true world is = is
  counted_settled false world is = is

  written_settled : (world : World) (at value : ℕ) (width : Width) → Settled from world → Settled from (after_write at width value world)
  written_settled world at value width is =
      let new = registers_written (written world.registers at width value) world in
      counted_settled (effects_of world.registers at width value).left_reset (reset_if (effects_of world.registers at width value).reset new)
      (reset_settled (effects_of world.registers at width value).reset new is)

  event_settled : (event : Event) (world : World) → Settled from world → Settled from (happens world event)
  event_settled (Stepped step) world is = kept_steps (Settled from) keeps_settled (step ∷ []) world is
  event_settled Begin world is = is
  event_settled End world is = is
  event_settled (Read at width value) world is = is
  event_settled (Write at width value) world is = written_settled world at value width is
  event_settled (DmaRead at bytes) world is = is
  event_settled (DmaWrite at bytes) world is = is

  events_settled : (events : List Event) (world : World) → Settled from world → Settled from (after events world)
  events_settled [] world is = is
  events_settled (event ∷ events) world is = events_settled events (happens world event) (event_settled event world is)

pub settled_after : (events : List Event) (world : World) → All IsSettled world.codecs → All IsSettled (after events world).codecs × All TookSettled (drop (length world.commands) (after events world).commands)
settled_after events world all =
    let none : drop (length world.commands) world.commands ≡ [] = drop_all (length world.commands) world.commands (omega arith) in
    let is = events_settled (length world.commands) events world (record { codecs_are = all; within = omega arith; takers_are = subst (All TookSettled) (sym none) (All-nil TookSettled) }) in
    (is.codecs_are, is.takers_are)

-- ---- an answer

narrow : (codec : CodecState) (word : ℕ) → IsSettled codec → answer_to codec word < 2 ^ 32
narrow codec word is = by (reading_of word)
  where
    by : (command : Option Command) → reading_answer codec command < 2 ^ 32
    by None = lit< tt
    by (Some command) = answer_of-narrow codec.graph codec.settings codec.present command is.well_formed is.settings

pub answered_whole : (from : ℕ) (command : Outstanding) (codecs : List CodecState) (commands : List TakenCommand) (value : ℕ) → All TookSettled (drop from commands) → (is : IsAnswered from command codecs commands value)
    → value ≡ answer_to is.taken.codec is.taken.word
answered_whole from command codecs commands value all is =
    is.answer ∙ mod-eq_of_lt (narrow is.taken.codec is.taken.word (All-head TookSettled is.taken [] (subst (All TookSettled) is.only all)))
