-- The marks of a command that CORB's engine hands on.
use Rattle.std.proofs.Common.{◌≡◌, ◌≤◌, ◌+◌, ◌-◌, ◌==◌, ◌&&◌, ◌/◌, ◌^◌, ℕ, Bool, true, false, cond, nat_lt, List, [], ◌∷◌, ◌++◌, length, map, get_or, Option, Some, None, if◌then◌else◌, refl, sym, ap, subst, ◌∙◌, arith, rules, tests}
use Rattle.std.specs.Prelude.{All, IfSome, is_some}
use Rattle.std.specs.Option.{option_map}
use Rattle.std.specs.List.{position_or_len}
use Rattle.std.proofs.lemmas.Bool.{ltb-false}
use Rattle.std.proofs.lemmas.Bool.Decides.{nat_tests}
use Rattle.std.proofs.lemmas.List.{append-nil}
use Rattle.std.proofs.lemmas.List.Elements.{All-nil, All-cons, All-map}
use Rattle.std.proofs.lemmas.List.Folds.{find_at}
use Rattle.std.proofs.lemmas.Option.{slice_get_past}
use Rattle.codec_graph.specs.CodecStates.{CodecState, is_full}
use Rattle.verb_codes.specs.declared.verbs.Command.{Command}
use Rattle.verb_codes.specs.declared.verbs.Verb.{Verb}
use Rattle.verb_codes.specs.Verbs.{reading_of}
use Rattle.verb_codes.specs.Words.{has_bit}
use Rattle.hda_registers.specs.Fields.{Fields, is_running}
use Rattle.world_rings.specs.Engines.{next_word}
use Rattle.hda_world.specs.Worlds.{World, TakenCommand, codec_at}
use Rattle.hda_world.specs.Steps.{address_of, taking, is_busy, handed, handed_next, corb_step}
use Rattle.device_core.specs.declared.codecs.Handed.{Handed}
use Rattle.device_core.specs.Codecs.{place_of, taken_by, taken_there, handed_by, handed_now}
use Rattle.heard_frames.specs.declared.mark.Mark.{Mark}
use Rattle.heard_frames.specs.Marks.{without_holes, control_in, control_by, control_for, marks_put}
use Rattle.heard_lists.specs.Listings.{Listing, with_mark, marked}
use Rattle.heard_lists.proofs.Callers.{marked-none, same-lists, same-each}
use Rattle.codec_graph.specs.declared.pin_kind.PinKind.{PinKind}
use Rattle.device_core.specs.Devices.{DeviceState, IsWorld}
use Rattle.heard_frames.specs.HeardLists.{heard_as}
use Rattle.heard_lists.specs.Listings.{HasMarkRoom, grown_as, with_items}
use Rattle.heard_lists.proofs.Callers.{grown-none}
use Rattle.hda_controller.specs.Hearing.{FramesHeardAs, GrewAs}
use Rattle.hda_controller.proofs.Growth.{corb_carries}
use Rattle.hda_controller.specs.Commands.{marked_put, marked_read, marked_handed}

-- ---- which codec takes it

module _ (word : ℕ) (codecs : List CodecState) where
  abbrev named : CodecState → Bool
  named codec = codec.graph.address == address_of word

  abbrev first : ℕ
  first = position_or_len named codecs

  taker_by : (within : Bool) → nat_lt first (length codecs) ≡ within → taken_there (cond within (Some first) None) codecs word ≡ taken_by (codec_at (address_of word) codecs) first word
  taker_by true is = ap (λ (o : Option CodecState). taken_by o first word) (sym (find_at named codecs))
  taker_by false is = ap (λ (o : Option CodecState). taken_by o first word) (sym (find_at named codecs ∙ slice_get_past codecs first (ltb-false first (length codecs) is)))

  -- the codec of its address
  taker : taken_there (place_of (address_of word) codecs) codecs word ≡ taken_by (codec_at (address_of word) codecs) first word
  taker = taker_by (nat_lt first (length codecs)) refl

named_by : (address : ℕ) (codec : CodecState) (rest : Option CodecState) (named : Bool) → (codec.graph.address == address) ≡ named → IfSome rest (λ c. c.graph.address ≡ address)
    → IfSome (if named then Some codec else rest) (λ c. c.graph.address ≡ address)
named_by address codec rest true is later = search (rules, tests)
named_by address codec rest false is later = later

named_there : (address : ℕ) (codecs : List CodecState) → IfSome (codec_at address codecs) (λ c. c.graph.address ≡ address)
named_there address [] = tt
named_there address (codec ∷ codecs) = named_by address codec (codec_at address codecs) (codec.graph.address == address) refl (named_there address codecs)

-- ---- its reading

read_by : (codec nid : ℕ) (fits : Bool) (verb : Option Verb) → IfSome (if fits then option_map (λ v. record { codec = codec; nid = nid; verb = v }) verb else None) (λ (command : Command). command.codec ≡ codec)
read_by codec nid true None = tt
read_by codec nid true (Some verb) = refl
read_by codec nid false verb = tt

-- names the codec of its address
read_named : (word : ℕ) → IfSome (reading_of word) (λ (command : Command). command.codec ≡ address_of word)
unfolding reading_of
read_named word = read_by (word / 2 ^ 28) _ _ _

-- ---- its marks

-- of a list, by the reading of the word
abbrev with_read : Option Command → (address : ℕ) → Listing → Listing
with_read read address listing = record listing {
  marks = listing.marks ++ ((if address == listing.codec then marks_put (length (without_holes listing.list)) (control_for listing.pin read) else []) ++ []);
  mark_room = listing.mark_room - (0 + (if is_some (control_by read) then 1 else 0));
}

-- none
unmarked : (listing : Listing) (marks : List Mark) → marks ≡ [] → record listing { marks = listing.marks ++ (marks ++ []); mark_room = listing.mark_room - 0 } ≡ listing
unmarked listing marks none =
    ap (λ (its : List Mark). record listing { marks = listing.marks ++ (its ++ []); mark_room = listing.mark_room - 0 }) none
    ∙ (ap (λ (its : List Mark). record listing { marks = its; mark_room = listing.mark_room - 0 }) (append-nil listing.marks)
    ∙ ap (λ (room : ℕ). record listing { mark_room = room }) (whole listing.mark_room))
  where
    whole : (room : ℕ) → room - 0 ≡ room
    whole room = omega arith

no_marks : (here : Bool) (at : ℕ) → (if here then marks_put at None else []) ≡ []
no_marks true at = refl
no_marks false at = refl

other_marks : (here there : Bool) (at : ℕ) → (if here then marks_put at (if there then None else None) else []) ≡ []
other_marks true true at = refl
other_marks true false at = refl
other_marks false there at = refl

-- one
one_mark : (here there : Bool) (at control : ℕ) (other : Bool) → (here && there) ≡ other
    → (if here then marks_put at (if there then Some control else None) else []) ++ [] ≡ (if other then record { at = at; on = has_bit control 6 } ∷ [] else [])
one_mark true true at control other is = ap (λ (b : Bool). if b then record { at = at; on = has_bit control 6 } ∷ [] else []) is
one_mark true false at control other is = ap (λ (b : Bool). if b then record { at = at; on = has_bit control 6 } ∷ [] else []) is
one_mark false there at control other is = ap (λ (b : Bool). if b then record { at = at; on = has_bit control 6 } ∷ [] else []) is

turned : (a b : ℕ) → (a == b) ≡ (b == a)
turned a b = grind (arith, nat_tests)

with_put : (command : Command) (control : Option ℕ) → control_in command.verb ≡ control → (address : ℕ) → command.codec ≡ address → (lists : List Listing)
    → map (λ (listing : Listing). record listing {
      marks = listing.marks ++ ((if address == listing.codec then marks_put (length (without_holes listing.list)) (if command.nid == listing.pin then control else None) else []) ++ []);
      mark_room = listing.mark_room - (0 + (if is_some control then 1 else 0));
    }) lists ≡ marked_put command.codec command.nid control lists
with_put command None is address named lists =
    same-each _ lists (λ listing. unmarked listing _ (other_marks (address == listing.codec) (command.nid == listing.pin) (length (without_holes listing.list))))
with_put command (Some control) is address named lists =
    same-lists _ (with_mark command.codec command.nid (has_bit control 6)) lists (λ k d within.
    let listing : Listing = get_or lists k d in
    ap (λ (its : List Mark). record listing { marks = listing.marks ++ its; mark_room = listing.mark_room - 1 })
    (one_mark (address == listing.codec) (command.nid == listing.pin) (length (without_holes listing.list)) control (listing.codec == command.codec && listing.pin == command.nid)
    (ap (λ (b : Bool). b && (command.nid == listing.pin)) (ap (λ (a : ℕ). a == listing.codec) (sym named) ∙ turned command.codec listing.codec)
    ∙ ap (λ (b : Bool). (listing.codec == command.codec) && b) (turned command.nid listing.pin))))

read_marks : (read : Option Command) (address : ℕ) → IfSome read (λ command. command.codec ≡ address) → (lists : List Listing) → map (with_read read address) lists ≡ marked_read read lists
read_marks None address named lists = same-each _ lists (λ listing. unmarked listing _ (no_marks (address == listing.codec) (length (without_holes listing.list))))
read_marks (Some command) address named lists = with_put command (control_in command.verb) refl address named lists

if_same : (o : Option Command) (a b : ℕ) → a ≡ b → IfSome o (λ command. command.codec ≡ a) → IfSome o (λ command. command.codec ≡ b)
if_same None a b same is = tt
if_same (Some command) a b same is = is ∙ same

-- a command that the codec of its address took
command_marks : (word : ℕ) (codec : CodecState) (count : ℕ) (running : Bool) → codec.graph.address ≡ address_of word → (lists : List Listing)
    → marked (record { word = word; codec = codec; running = running; carried = count } ∷ []) lists ≡ (if running then marked_read (reading_of word) lists else lists)
command_marks word codec count true same lists =
    read_marks (reading_of word) codec.graph.address (if_same (reading_of word) (address_of word) codec.graph.address (sym same) (read_named word)) lists
command_marks word codec count false same lists = same-each _ lists (λ listing. unmarked listing [] refl)

-- ---- CORB's engine

-- what a step of it takes, and what the lists gain
pub record Took (before after : World) (handed : Option Handed) : Type 0 where
  pub taken : List TakenCommand
  pub commands : after.commands ≡ before.commands ++ taken
  pub moments : All (λ command. command.carried ≡ length before.carried) taken
  pub marks : (lists : List Listing) → marked taken lists ≡ (if is_running before.registers.output then marked_handed handed lists else lists)

none_marked : (running : Bool) (lists : List Listing) → marked [] lists ≡ (if running then lists else lists)
none_marked true lists = marked-none lists
none_marked false lists = marked-none lists

took_none : (before after : World) → after.commands ≡ before.commands → Took before after None
took_none before after same = record {
  taken = [];
  commands = same ∙ sym (append-nil before.commands);
  moments = All-nil (λ command. command.carried ≡ length before.carried);
  marks = none_marked (is_running before.registers.output);
}

module _ (world : World) (word place : ℕ) where
  took_full : (codec : CodecState) → codec.graph.address ≡ address_of word → (after : World) (full : Bool)
      → after.commands ≡ (if full then world.commands else world.commands ++ taking word (Some codec) (is_running world.registers.output) (length world.carried))
      → Took world after (if full then None else Some (record { place = place; word = word }))
  took_full codec named after true is = took_none world after is
  took_full codec named after false is = record {
    taken = taking word (Some codec) (is_running world.registers.output) (length world.carried);
    commands = is;
    moments = All-cons (λ (command : TakenCommand). command.carried ≡ length world.carried) _ [] refl (All-nil (λ (command : TakenCommand). command.carried ≡ length world.carried));
    marks = command_marks word codec (length world.carried) (is_running world.registers.output) named;
  }

  took_codec : (o : Option CodecState) → IfSome o (λ codec. codec.graph.address ≡ address_of word) → (after : World)
      → after.commands ≡ (if is_busy o then world.commands else world.commands ++ taking word o (is_running world.registers.output) (length world.carried))
      → Took world after (taken_by o place word)
  took_codec None named after is = took_none world after (is ∙ append-nil world.commands)
  took_codec (Some codec) named after is = took_full codec named after (is_full codec) is

  busy_commands : (busy : Bool) → (if busy then world else handed word world).commands
      ≡ (if busy then world.commands else world.commands ++ taking word (codec_at (address_of word) world.codecs) (is_running world.registers.output) (length world.carried))
  busy_commands true = refl
  busy_commands false = refl

took_next : (world : World) (next : Option ℕ) → Took world (handed_next next world) (handed_by next world.codecs)
took_next world None = took_none world world refl
took_next world (Some word) =
    subst (Took world (handed_next (Some word) world)) (sym (taker word world.codecs))
    (took_codec world word (position_or_len (λ (codec : CodecState). codec.graph.address == address_of word) world.codecs) (codec_at (address_of word) world.codecs)
    (named_there (address_of word) world.codecs) (handed_next (Some word) world)
    (busy_commands world word 0 (is_busy (codec_at (address_of word) world.codecs))))

pub took_corb : (world : World) → Took world (corb_step world) (handed_now world.registers world.memory world.codecs)
took_corb world = took_next world (next_word world.registers world.memory)

-- the lists after a step of it
pub grew_take : (kind : PinKind) (memory : List ℕ) (device : DeviceState) (world : World) (runs : Bool) (handed : Option Handed) (old new : List Listing) → IsWorld memory device world
    → runs ≡ is_running device.registers.output → handed ≡ handed_now device.registers memory device.codecs → new ≡ (if runs then marked_handed handed old else old) → GrewAs kind world (corb_step world) old new
grew_take kind memory device world runs handed old new is running hands lists =
    let took = took_corb world in
    let runs_there : runs ≡ is_running world.registers.output = running ∙ ap (λ (fields : Fields). is_running fields.output) (sym is.registers_are) in
    let hands_there : handed ≡ handed_now world.registers world.memory world.codecs =
    hands
    ∙ (ap (λ (fields : Fields). handed_now fields memory device.codecs) (sym is.registers_are)
    ∙ (ap (λ (bytes : List ℕ). handed_now world.registers bytes device.codecs) (sym is.memory_is)
    ∙ ap (handed_now world.registers world.memory) (sym is.codecs_are))) in
    record {
      added = [];
      carried = corb_carries world ∙ sym (append-nil world.carried);
      taken = took.taken;
      commands = took.commands;
      moments = took.moments;
      lists =
          lists
          ∙ (ap (λ (on : Bool). if on then marked_handed handed old else old) runs_there
          ∙ (ap (λ (o : Option Handed). if is_running world.registers.output then marked_handed o old else old) hands_there
          ∙ (sym (took.marks old) ∙ sym (grown-none kind (marked took.taken old)))));
    }

-- and where no command was taken
pub grew_untaken : (kind : PinKind) (before after : World) (old new : List Listing) → after.commands ≡ before.commands → FramesHeardAs kind before after old new → GrewAs kind before after old new
grew_untaken kind before after old new stays heard = record {
  added = heard.added;
  carried = heard.carried;
  taken = [];
  commands = stays ∙ sym (append-nil before.commands);
  moments = All-nil (λ command. command.carried ≡ length before.carried);
  lists = heard.lists ∙ ap (grown_as kind heard.added) (sym (marked-none old));
}

-- link frames leave marks and their room alone
pub marks_kept : (kind : PinKind) (before after : World) (old new : List Listing) (more : ℕ) → FramesHeardAs kind before after old new → HasMarkRoom more old → HasMarkRoom more new
marks_kept kind before after old new more heard has =
    subst (HasMarkRoom more) (sym heard.lists)
    (All-map (λ (listing : Listing). more ≤ listing.mark_room) (λ (listing : Listing). with_items (heard_as kind listing.codec listing.pin heard.added) listing) old has)
