-- What codecs took is remembered over every event.
use Rattle.std.proofs.Common.{◌≡◌, ◌≤◌, ◌<◌, ℕ, zero, suc, Bool, List, [], ◌∷◌, ◌++◌, length, map, take, drop, Option, None, Some, refl, sym, ap, subst, ◌∙◌, ◌⊎◌, inl, inr, append-nil, arith, length-append}
use Rattle.std.specs.Prelude.{slice_get}
use Rattle.std.proofs.lemmas.Bool.{cases_lt}
use Rattle.std.proofs.lemmas.List.{drop-append-le, drop_all, take-append-le}
use Rattle.std.proofs.lemmas.Option.{slice_get_within}
use Rattle.std.proofs.Math.Seq.{take-append_seam}
use Rattle.codec_graph.specs.CodecStates.{CodecState, taken, plugged, without_first, without_answer}
use Rattle.hda_registers.specs.declared.shapes.Width.{Width}
use Rattle.hda_registers.specs.Fields.{is_running}
use Rattle.world_rings.specs.Entries.{next_command}
use Rattle.world_steps.specs.declared.Step.{Step}
use Rattle.codec_graph.proofs.Callers.{graph-plugged, settings-plugged}
use Rattle.hda_world.specs.Worlds.{World, TakenCommand, codec_at, with_codec}
use Rattle.hda_world.specs.Steps.{address_of, taking, after_steps}
use Rattle.hda_world.specs.Events.{Event, Stepped, Begin, End, Read, Write, DmaRead, DmaWrite, after_write, happens, after}
use Rattle.hda_world.specs.Kept.{Kept}
use Rattle.hda_world.proofs.Callers.{kept_steps, access_leaves, graphs-with_codec, found_address, absent, kept_codecs}
use Rattle.laws_settings.specs.Histories.{settings_since, FoundTaken, WasTaken, WereTaken, RemembersBy, Remembers}
use Rattle.laws_settings.proofs.Codecs.{part-with_codec, found_taken, all_handed}

-- ---- the last of some commands

pub get_front : {X : Type 0} (xs ys : List X) (place : ℕ) → place < length xs → slice_get (xs ++ ys) place ≡ slice_get xs place
get_front {X} [] ys place there = absurd (omega (arith, there))
get_front {X} (x ∷ xs) ys zero there = refl
get_front {X} (x ∷ xs) ys (suc place) there = get_front xs ys place (omega (arith, there))

pub get_seam : {X : Type 0} (xs : List X) (x : X) → slice_get (xs ++ x ∷ []) (length xs) ≡ Some x
get_seam {X} [] x = refl
get_seam {X} (y ∷ xs) x = get_seam xs x

-- after one command more, each was taken as it was
were_taken-push : (start : List CodecState) (commands : List TakenCommand) (one : TakenCommand) → WereTaken start commands → WasTaken start commands one
    → WereTaken start (commands ++ one ∷ [])
were_taken-push start commands one were was place last there = by (cases_lt place (length commands))
  where
    by : (place < length commands) ⊎ (length commands ≤ place) → WasTaken start (take place (commands ++ one ∷ [])) last
    by (inl low) =
        subst (λ (before : List TakenCommand). WasTaken start before last) (sym (take-append-le place commands (one ∷ []) (omega (arith, low))))
        (were place last (sym (get_front commands (one ∷ []) place low) ∙ there))
    by (inr high) =
        let below : place < length (commands ++ one ∷ []) = slice_get_within (commands ++ one ∷ []) place last there in
        let long = length-append commands (one ∷ []) in
        let at_end : length commands ≡ place = omega (arith, below, high, long) in
        let found : slice_get (commands ++ one ∷ []) (length commands) ≡ Some last = ap (slice_get (commands ++ one ∷ [])) at_end ∙ there in
        let seam = get_seam commands one in
        let same : one ≡ last = cc in
        subst (λ (n : ℕ). WasTaken start (take n (commands ++ one ∷ [])) last) at_end
        (subst (λ (before : List TakenCommand). WasTaken start before last) (sym (take-append_seam commands (one ∷ [])))
        (subst (λ (c : TakenCommand). WasTaken start commands c) same was))

-- ---- the world

module _ (start : List CodecState) (from : ℕ) where
  was_taken : (commands : List TakenCommand) (one : TakenCommand) (found : Option CodecState) → codec_at (address_of one.word) start ≡ found
      → one.codec.graph.address ≡ address_of one.word → FoundTaken commands found (Some one.codec) → WasTaken start commands one
  was_taken commands one None there named is = absurd is
  was_taken commands one (Some first) there named is = record { first = first; there = there; named = named; codec = is }

  -- a codec of this address takes the word
  handed_to : (codecs : List CodecState) (commands : List TakenCommand) (one : TakenCommand) → codec_at (address_of one.word) codecs ≡ Some one.codec
      → RemembersBy start from codecs commands
      → RemembersBy start from (with_codec (address_of one.word) (λ codec. taken codec one.word) codecs) (commands ++ one ∷ [])
  handed_to codecs commands one there is =
      let named = found_address (address_of one.word) codecs one.codec there in
      let within = is.within in
      let long = length-append commands (one ∷ []) in
      let since = drop from commands in
      let found = found_taken since (address_of one.word) start codecs is.graphs is.settings in
      let was = was_taken since one (codec_at (address_of one.word) start) refl named (subst (FoundTaken since (codec_at (address_of one.word) start)) there found) in
      let goes : drop from (commands ++ one ∷ []) ≡ since ++ one ∷ [] = drop-append-le from commands (one ∷ []) is.within in
      record {
        within = omega (arith, within, long);
        graphs = graphs-with_codec (address_of one.word) (λ codec. taken codec one.word) (λ codec. refl) codecs ∙ is.graphs;
        settings = all_handed since (address_of one.word) one named start codecs is.graphs is.settings
            ∙ ap (λ (more : List TakenCommand). map (settings_since more) start) (sym goes);
        taken = subst (WereTaken start) (sym goes) (were_taken-push start since one is.taken was);
      }

  -- or none has the address
  handed : (word carried : ℕ) (running : Bool) (codecs : List CodecState) (commands : List TakenCommand) (found : Option CodecState) → codec_at (address_of word) codecs ≡ found
      → RemembersBy start from codecs commands
      → RemembersBy start from (with_codec (address_of word) (λ codec. taken codec word) codecs) (commands ++ taking word found running carried)
  handed word carried running codecs commands None there is =
      subst (λ (same : List CodecState). RemembersBy start from same (commands ++ [])) (sym (absent (address_of word) (λ codec. taken codec word) codecs there))
      (subst (RemembersBy start from codecs) (sym (append-nil commands)) is)
  handed word carried running codecs commands (Some codec) there is =
      handed_to codecs commands (record { word = word; codec = codec; running = running; carried = carried }) there is

  -- a change that keeps graph and settings
  changed : (address : ℕ) (change : CodecState → CodecState) (codecs : List CodecState) (commands : List TakenCommand) → ((codec : CodecState) → (change codec).graph ≡ codec.graph)
      → ((codec : CodecState) → (change codec).settings ≡ codec.settings) → RemembersBy start from codecs commands → RemembersBy start from (with_codec address change codecs) commands
  changed address change codecs commands graph settings is = record {
    within = is.within;
    graphs = graphs-with_codec address change graph codecs ∙ is.graphs;
    settings = part-with_codec (λ (codec : CodecState). codec.settings) address change settings codecs ∙ is.settings;
    taken = is.taken;
  }

  pub keeps_remembering : Kept (Remembers start from)
  keeps_remembering = kept_codecs (RemembersBy start from) (record {
    hands = λ world holds can free. (
        let word = next_command world.registers world.memory in
        handed word (length world.carried) (is_running world.registers.output) world.codecs world.commands (codec_at (address_of word) world.codecs) refl holds);
    sends = λ world address item rest holds out room are. changed address without_first world.codecs world.commands (λ codec. refl) (λ codec. refl) holds;
    loses = λ world address holds out. changed address without_answer world.codecs world.commands (λ codec. refl) (λ codec. refl) holds;
    plugs = λ world address nid present holds.
        changed address (λ codec. plugged codec nid present) world.codecs world.commands (graph-plugged nid present) (settings-plugged nid present) holds;
  })

  pub steps_remember : (steps : List Step) (world : World) → Remembers start from world → Remembers start from (after_steps steps world)
  steps_remember steps world is = kept_steps (Remembers start from) keeps_remembering steps world is

  written : (world : World) (at value : ℕ) (width : Width) → Remembers start from world → Remembers start from (after_write at width value world)
  written world at value width is =
      let leaves = access_leaves world at value width in
      subst (RemembersBy start from (after_write at width value world).codecs) (sym leaves.commands)
      (record { within = is.within; graphs = leaves.graphs ∙ is.graphs; settings = leaves.settings ∙ is.settings; taken = is.taken })

  pub event_remembers : (event : Event) (world : World) → Remembers start from world → Remembers start from (happens world event)
  event_remembers (Stepped step) world is = steps_remember (step ∷ []) world is
  event_remembers Begin world is = is
  event_remembers End world is = is
  event_remembers (Read at width value) world is = is
  event_remembers (Write at width value) world is = written world at value width is
  event_remembers (DmaRead at bytes) world is = is
  event_remembers (DmaWrite at bytes) world is = is

  pub events_remember : (events : List Event) (world : World) → Remembers start from world → Remembers start from (after events world)
  events_remember [] world is = is
  events_remember (event ∷ events) world is = events_remember events (happens world event) (event_remembers event world is)

  -- what is found at an address
  pub found_by : (world : World) (address : ℕ) → Remembers start from world → FoundTaken (drop from world.commands) (codec_at address start) (codec_at address world.codecs)
  found_by world address is = found_taken (drop from world.commands) address start world.codecs is.graphs is.settings

-- a world remembers its own codecs
pub remembers_itself : (world : World) → Remembers world.codecs (length world.commands) world
remembers_itself world =
    let none : drop (length world.commands) world.commands ≡ [] = drop_all (length world.commands) world.commands (omega arith) in
    record {
      within = omega arith;
      graphs = refl;
      settings = ap (λ (since : List TakenCommand). map (settings_since since) world.codecs) (sym none);
      taken = subst (WereTaken world.codecs) (sym none) (λ place one there. cc);
    }
