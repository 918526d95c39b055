-- A command that the switch rules choose is what the journal decides, and the jack that it asks is the one that the journal
-- has asked.
use Rattle.std.proofs.Common.{◌≡◌, ◌≤◌, ◌<◌, ◌==◌, ◌&&◌, ◌||◌, ◌+◌, ◌*◌, ◌^◌, ℕ, Bool, true, false, if◌then◌else◌, List, [], ◌∷◌, map, Option, None, Some, refl, sym, ap, subst, ◌∙◌, arith, rules, tests}
use Rattle.std.proofs.lemmas.Bool.{false≢true}
use Rattle.std.specs.Prelude.{All, not, nat_le}
use Rattle.std.specs.List.{find, list_any}
use Rattle.std.specs.Option.{option_map}
use Rattle.std.proofs.lemmas.List.Elements.{All-append, All-cons, All-head, All-nil, All-tail}
use Rattle.byteorder.specs.Endian.{little_bytes}
use Rattle.byteorder.specs.Numbers.{little_from-bytes}
use Rattle.verb_codes.specs.declared.verbs.Command.{Command}
use Rattle.verb_codes.specs.Verbs.{reading_of}
use Rattle.codec_graph.specs.declared.raw.RawCodec.{RawCodec}
use Rattle.codec_graph.specs.declared.raw.RawNode.{RawNode}
use Rattle.codec_graph.specs.Candidates.{association}
use Rattle.codec_graph.specs.Widget.{node_at}
use Rattle.route_planner.specs.declared.routes.Outcome.{Outcome}
use Rattle.route_planner.specs.declared.routes.Outcome.TheVariants.{Route, Blocked, NoPath}
use Rattle.route_planner.specs.declared.routes.PinPlan.{PinPlan}
use Rattle.route_planner.specs.declared.routes.Plan.{Plan}
use Rattle.hda_registers.specs.Fields.{entries_of}
use Rattle.world_rings.specs.Memory.{word_at}
use Rattle.world_rings.specs.declared.entries.TheConstants.{COMMAND_BYTES}
use Rattle.hda_world.specs.Events.{DmaWrite}
use Rattle.command_engine.specs.Blocks.{corb_bytes}
use Rattle.command_engine.specs.Fetchings.{AscendFrom, graph_at}
use Rattle.command_engine.specs.declared.ring_places.RingPlaces.{RingPlaces}
use Rattle.command_engine.specs.Submitting.{command_place, submit_accesses}
use Rattle.jack_rules.specs.declared.pins.JackPin.{JackPin}
use Rattle.jack_rules.specs.declared.pins.JackState.{JackState}
use Rattle.jack_rules.specs.declared.pins.SpeakerPin.{SpeakerPin}
use Rattle.jack_rules.specs.declared.pins.SpeakerState.{SpeakerState}
use Rattle.jack_rules.specs.JackPins.{is_speaker_node, speaker_of, speaker_at, speaker_if, put_first, speakers_from, speakers_among, speakers_of, jacks_of}
use Rattle.jack_rules.specs.Switching.{SwitchingState, silences, is_wanted, is_wrong, control_of, pin_command, sense_command, is_to_ask, asked_now, ask_first, choice_by_jack, choice_by_speaker, next_choice}
use Rattle.laws_switching.specs.Speakers.{is_pin_at}
use Rattle.laws_switching.specs.Senses.{Senses, KnowsJacks, presence_of, place_of, is_jack_at, jack_among, asked_by, IsDecidedFor, IsDecidedBy, is_in, senses_noted, senses_after, AreDecided}
use Rattle.laws_switching.proofs.TurnedSetUp.{same_number, differ, some_jack}
use Rattle.laws_switching.proofs.SensesTold.{le_true, both_true, size_some, size_few}

-- ---- speakers of one place are alike

-- the association of a pin of the codec at an address
abbrev association_in : Option RawNode → ℕ
association_in None = 0
association_in (Some node) = association node

abbrev association_by : Option RawCodec → (pin : ℕ) → ℕ
association_by None pin = 0
association_by (Some codec) pin = association_in (node_at codec pin)

record IsAsIn (from : ℕ) (graphs : List RawCodec) (speaker : SpeakerPin) : Type 0 where
  pub above : from ≤ speaker.codec
  pub association_is : speaker.association ≡ association_by (graph_at speaker.codec graphs) speaker.pin

node_alike : (codec : RawCodec) (pin : ℕ) (node : Option RawNode) (speaker : SpeakerPin) → node_at codec pin ≡ node → speaker_of codec pin node ≡ Some speaker
    → (speaker.codec ≡ codec.address) × (speaker.association ≡ association_in (node_at codec speaker.pin))
node_alike codec pin None speaker at is = cc
node_alike codec pin (Some node) speaker at is = by (is_speaker_node node) is
  where
    made : SpeakerPin
    made = record { codec = codec.address; pin = pin; association = association node }

    by : (test : Bool) → (if test then Some made else None) ≡ Some speaker → (speaker.codec ≡ codec.address) × (speaker.association ≡ association_in (node_at codec speaker.pin))
    by true is =
        let same : made ≡ speaker = cc in
        subst (λ (speaker : SpeakerPin). (speaker.codec ≡ codec.address) × (speaker.association ≡ association_in (node_at codec speaker.pin))) same
        (refl, sym (ap (λ (node : Option RawNode). association_in node) at))
    by false is = cc

entry_alike : (codec : RawCodec) (pin : ℕ) (outcome : Outcome) (speaker : SpeakerPin) → speaker_at codec pin outcome ≡ Some speaker → (speaker.codec ≡ codec.address) × (speaker.association ≡ association_in (node_at codec speaker.pin))
entry_alike codec pin (Route route) speaker is = node_alike codec pin (node_at codec pin) speaker refl is
entry_alike codec pin Blocked speaker is = cc
entry_alike codec pin NoPath speaker is = cc

found_here : (codec : RawCodec) (graphs : List RawCodec) (address : ℕ) → address ≡ codec.address → graph_at address (codec ∷ graphs) ≡ Some codec
found_here codec graphs address same = by (codec.address == address) refl
  where
    by : (here : Bool) → (codec.address == address) ≡ here → (if here then Some codec else graph_at address graphs) ≡ Some codec
    by true is = refl
    by false is = absurd (false≢true (sym is ∙ search (rules, tests, same)))

found_later : (codec : RawCodec) (graphs : List RawCodec) (address : ℕ) → codec.address < address → graph_at address (codec ∷ graphs) ≡ graph_at address graphs
found_later codec graphs address above =
    ap (λ (here : Bool). if here then Some codec else graph_at address graphs) (differ codec.address address (λ same. omega (arith, same, above)))

put_all : (P : SpeakerPin → Type 0) (found : Option SpeakerPin) (rest : List SpeakerPin) → ((speaker : SpeakerPin) → found ≡ Some speaker → P speaker) → All P rest → All P (put_first found rest)
put_all P None rest each all = all
put_all P (Some speaker) rest each all = All-cons P speaker rest (each speaker refl) all

module _ (jacks : List JackPin) where
  from_alike : (from : ℕ) (codec : RawCodec) (graphs : List RawCodec) (entries : List PinPlan) → from ≤ codec.address → All (IsAsIn from (codec ∷ graphs)) (speakers_from jacks codec entries)
  from_alike from codec graphs [] low = All-nil (IsAsIn from (codec ∷ graphs))
  from_alike from codec graphs (entry ∷ entries) low =
      put_all (IsAsIn from (codec ∷ graphs)) (speaker_if jacks (speaker_at codec entry.pin entry.outcome)) (speakers_from jacks codec entries)
      (λ speaker is.
      (let alike = entry_alike codec entry.pin entry.outcome speaker (some_jack jacks (speaker_at codec entry.pin entry.outcome) speaker is) in record {
        above = subst (λ (address : ℕ). from ≤ address) (sym alike.0) low;
        association_is = alike.1 ∙ sym (ap (λ (found : Option RawCodec). association_by found speaker.pin) (found_here codec graphs speaker.codec alike.0));
      }))
      (from_alike from codec graphs entries low)

  behind : (from : ℕ) (codec : RawCodec) (graphs : List RawCodec) → from ≤ codec.address → (speaker : SpeakerPin) → IsAsIn (codec.address + 1) graphs speaker → IsAsIn from (codec ∷ graphs) speaker
  behind from codec graphs low speaker is =
      let above : codec.address + 1 ≤ speaker.codec = is.above in record {
        above = omega (arith, low, above);
        association_is = is.association_is ∙ sym (ap (λ (found : Option RawCodec). association_by found speaker.pin) (found_later codec graphs speaker.codec (omega (arith, above))));
      }

  all_behind : (from : ℕ) (codec : RawCodec) (graphs : List RawCodec) → from ≤ codec.address → (speakers : List SpeakerPin) → All (IsAsIn (codec.address + 1) graphs) speakers → All (IsAsIn from (codec ∷ graphs)) speakers
  all_behind from codec graphs low [] all = All-nil (IsAsIn from (codec ∷ graphs))
  all_behind from codec graphs low (speaker ∷ speakers) all =
      All-cons (IsAsIn from (codec ∷ graphs)) speaker speakers (behind from codec graphs low speaker (All-head (IsAsIn (codec.address + 1) graphs) speaker speakers all))
      (all_behind from codec graphs low speakers (All-tail (IsAsIn (codec.address + 1) graphs) speaker speakers all))

  all_alike : (from : ℕ) (graphs : List RawCodec) (plans : List Plan) → AscendFrom from graphs → All (IsAsIn from graphs) (speakers_among jacks graphs plans)
  all_alike from [] plans ascend = All-nil (IsAsIn from [])
  all_alike from (codec ∷ graphs) [] ascend = All-nil (IsAsIn from (codec ∷ graphs))
  all_alike from (codec ∷ graphs) (plan ∷ plans) ascend =
      All-append (IsAsIn from (codec ∷ graphs)) (speakers_from jacks codec plan.pins) (speakers_among jacks graphs plans)
      (from_alike from codec graphs plan.pins ascend.0)
      (all_behind from codec graphs ascend.0 (speakers_among jacks graphs plans) (all_alike (codec.address + 1) graphs plans ascend.2))

-- ---- what is found

pub found_has : {X : Type 0} (P : X → Type 0) (test : X → Bool) (list : List X) (value : X) → All P list → find test list ≡ Some value → P value × (test value ≡ true)
found_has P test [] value all is = cc
found_has {X} P test (first ∷ list) value all is = by (test first) refl is (λ is. found_has P test list value (All-tail P first list all) is)
  where
    by : (here : Bool) → test first ≡ here → (if here then Some first else find test list) ≡ Some value → (find test list ≡ Some value → P value × (test value ≡ true)) → P value × (test value ≡ true)
    by true here is later = let same : first ≡ value = cc in subst (λ (value : X). P value × (test value ≡ true)) same (All-head P first list all, here)
    by false here is later = later is

pub states_all : (P : SpeakerPin → Type 0) (states : List SpeakerState) → All P (map (λ (state : SpeakerState). state.speaker) states) → All (λ (state : SpeakerState). P state.speaker) states
states_all P [] all = All-nil (λ (state : SpeakerState). P state.speaker)
states_all P (state ∷ states) all =
    All-cons (λ (state : SpeakerState). P state.speaker) state states (All-head P state.speaker (map (λ (state : SpeakerState). state.speaker) states) all)
    (states_all P states (All-tail P state.speaker (map (λ (state : SpeakerState). state.speaker) states) all))

pub both_of : (first second : Bool) → (first && second) ≡ true → (first ≡ true) × (second ≡ true)
both_of true second is = (refl, is)
both_of false second is = absurd (false≢true is)

-- ---- what is wanted

any_silences : (one other : SpeakerPin) → one.codec ≡ other.codec → one.association ≡ other.association → (jacks : List JackState) → list_any (silences one) jacks ≡ list_any (silences other) (map presence_of jacks)
any_silences one other codec association [] = refl
any_silences one other codec association (state ∷ jacks) =
    ap (λ (address : ℕ). (state.present && state.jack.codec == address && state.jack.association == one.association) || list_any (silences one) jacks) codec
    ∙ ap (λ (association : ℕ). (state.present && state.jack.codec == other.codec && state.jack.association == association) || list_any (silences one) jacks) association
    ∙ ap (λ (rest : Bool). silences other (presence_of state) || rest) (any_silences one other codec association jacks)

wanted_alike : (one other : SpeakerPin) → one.codec ≡ other.codec → one.association ≡ other.association → (jacks : List JackState) → is_wanted jacks one ≡ is_wanted (map presence_of jacks) other
wanted_alike one other codec association jacks = ap not (any_silences one other codec association jacks)

-- ---- which jack is asked

asked_same : (jacks : List JackState) → map presence_of (ask_first jacks) ≡ map presence_of jacks
asked_same [] = refl
asked_same (state ∷ jacks) = by (is_to_ask state) (asked_same jacks)
  where
    by : (here : Bool) → map presence_of (ask_first jacks) ≡ map presence_of jacks → map presence_of (if here then asked_now state ∷ jacks else state ∷ ask_first jacks) ≡ map presence_of (state ∷ jacks)
    by true later = refl
    by false later = ap (λ (rest : List JackState). presence_of state ∷ rest) later

jack_itself : (jack : JackPin) → is_jack_at jack.codec jack.pin jack ≡ true
jack_itself jack = both_true (jack.codec == jack.codec) (jack.pin == jack.pin) (search (rules, tests)) (search (rules, tests))

jack_found : (jacks : List JackState) (asked : JackState) → find is_to_ask jacks ≡ Some asked → option_map place_of (jack_among (map presence_of jacks) asked.jack.codec asked.jack.pin) ≡ Some (place_of asked.jack)
jack_found [] asked is = cc
jack_found (state ∷ jacks) asked is = by (is_jack_at asked.jack.codec asked.jack.pin state.jack) refl (is_to_ask state) refl is (λ is. jack_found jacks asked is)
  where
    Found : Option JackPin → Type 0
    Found found = option_map place_of found ≡ Some (place_of asked.jack)

    by : (here : Bool) → is_jack_at asked.jack.codec asked.jack.pin state.jack ≡ here → (asks : Bool) → is_to_ask state ≡ asks → (if asks then Some state else find is_to_ask jacks) ≡ Some asked
        → (find is_to_ask jacks ≡ Some asked → option_map place_of (jack_among (map presence_of jacks) asked.jack.codec asked.jack.pin) ≡ Some (place_of asked.jack))
        → option_map place_of (if here then Some state.jack else jack_among (map presence_of jacks) asked.jack.codec asked.jack.pin) ≡ Some (place_of asked.jack)
    by true here asks to_ask is later =
        let both = both_of (state.jack.codec == asked.jack.codec) (state.jack.pin == asked.jack.pin) here in
        let codec : state.jack.codec ≡ asked.jack.codec = same_number state.jack.codec asked.jack.codec both.0 in
        let pin : state.jack.pin ≡ asked.jack.pin = same_number state.jack.pin asked.jack.pin both.1 in
        ap (λ (codec : ℕ). Some (codec, state.jack.pin)) codec ∙ ap (λ (pin : ℕ). Some (asked.jack.codec, pin)) pin
    by false here true to_ask is later =
        let same : state ≡ asked = cc in
        absurd (false≢true (sym here ∙ subst (λ (asked : JackState). is_jack_at asked.jack.codec asked.jack.pin state.jack ≡ true) same (jack_itself state.jack)))
    by false here false to_ask is later = later is

-- ---- a choice

module _ (graphs : List RawCodec) (plans : List Plan) (senses : Senses) (switching : SwitchingState) (ascend : AscendFrom 0 graphs) (knows : KnowsJacks senses switching)
    (pins : map (λ (state : SpeakerState). state.speaker) switching.speakers ≡ speakers_of graphs plans) where
  abbrev Told : (command : Command) → SwitchingState → Type 0
  Told command next = IsDecidedBy (speakers_of graphs plans) senses.jacks (Some command) × KnowsJacks (record { jacks = senses.jacks; asked = asked_by senses.jacks (Some command) }) next

  alike : All (IsAsIn 0 graphs) (speakers_of graphs plans)
  alike = all_alike (jacks_of graphs plans) 0 graphs plans ascend

  -- any speaker of the same place is wanted alike
  decided_for : (state : SpeakerState) → IsAsIn 0 graphs state.speaker → (found : Option SpeakerPin) → find (is_pin_at state.speaker.codec state.speaker.pin) (speakers_of graphs plans) ≡ found
      → IsDecidedFor senses.jacks state.speaker.codec state.speaker.pin (control_of (is_wanted switching.jacks state.speaker)) found
  decided_for state is None at = tt
  decided_for state is (Some other) at =
      let has = found_has (IsAsIn 0 graphs) (is_pin_at state.speaker.codec state.speaker.pin) (speakers_of graphs plans) other alike at in
      let both = both_of (other.codec == state.speaker.codec) (other.pin == state.speaker.pin) has.1 in
      let codec : state.speaker.codec ≡ other.codec = sym (same_number other.codec state.speaker.codec both.0) in
      let pin : state.speaker.pin ≡ other.pin = sym (same_number other.pin state.speaker.pin both.1) in
      let association : state.speaker.association ≡ other.association =
      is.association_is ∙ ap (λ (codec : ℕ). association_by (graph_at codec graphs) state.speaker.pin) codec ∙ ap (λ (pin : ℕ). association_by (graph_at other.codec graphs) pin) pin ∙ sym has.0.association_is in
      ap (λ (on : Bool). control_of on) (wanted_alike state.speaker other codec association switching.jacks ∙ ap (λ (jacks : List JackState). is_wanted jacks other) knows.jacks)

  by_jack : (command : Command) (found : Option JackState) → find is_to_ask switching.jacks ≡ found → (choice_by_jack switching found).command ≡ Some command → Told command (choice_by_jack switching found).next
  by_jack command None at is = cc
  by_jack command (Some state) at is =
      let same : sense_command state.jack ≡ command = cc in
      subst (λ (command : Command). Told command (choice_by_jack switching (Some state)).next) same (
        tt,
        record {
          jacks = asked_same switching.jacks ∙ knows.jacks;
          asked = sym (ap (λ (jacks : List JackState). option_map place_of (jack_among jacks state.jack.codec state.jack.pin)) (sym knows.jacks) ∙ jack_found switching.jacks state at);
        },
      )

  by_speaker : (command : Command) (found : Option SpeakerState) → find (is_wrong switching.jacks) switching.speakers ≡ found → (choice_by_speaker switching found).command ≡ Some command → Told command (choice_by_speaker switching found).next
  by_speaker command None at is = by_jack command (find is_to_ask switching.jacks) refl is
  by_speaker command (Some state) at is =
      let same : pin_command switching.jacks state.speaker ≡ command = cc in
      let has = found_has (λ (state : SpeakerState). IsAsIn 0 graphs state.speaker) (is_wrong switching.jacks) switching.speakers state (states_all (IsAsIn 0 graphs) switching.speakers (subst (All (IsAsIn 0 graphs)) (sym pins) alike)) at in
      subst (λ (command : Command). Told command (choice_by_speaker switching (Some state)).next) same (
        decided_for state has.0 (find (is_pin_at state.speaker.codec state.speaker.pin) (speakers_of graphs plans)) refl,
        record { jacks = knows.jacks; asked = refl },
      )

  choice_told : (command : Command) → (next_choice switching).command ≡ Some command → Told command (next_choice switching).next
  choice_told command is = by_speaker command (find (is_wrong switching.jacks) switching.speakers) refl is

  -- ---- its submission

  word_reads : (word : ℕ) → word < 2 ^ 32 → word_at (little_bytes 4 word) 0 ≡ word
  word_reads word small = little_from-bytes 4 0 word [] ∙ omega (arith, small)

  place_inside : (corb : ℕ) (rings : RingPlaces) → is_in corb corb_bytes (corb + COMMAND_BYTES * command_place rings) ≡ true
  place_inside corb rings =
      let some = size_some rings.corb in
      let few = size_few rings.corb in
      let below : command_place rings < entries_of rings.corb = search (arith, some) in
      both_true (nat_le corb (corb + COMMAND_BYTES * command_place rings)) (nat_le (corb + COMMAND_BYTES * command_place rings + 1) (corb + corb_bytes))
      (le_true corb (corb + COMMAND_BYTES * command_place rings) (omega arith))
      (le_true (corb + COMMAND_BYTES * command_place rings + 1) (corb + corb_bytes) (omega (arith, below, few)))

  pub choice_tells : (corb rirb : ℕ) (rings : RingPlaces) (command : Command) (word : ℕ) → (next_choice switching).command ≡ Some command → reading_of word ≡ Some command → word < 2 ^ 32
      → KnowsJacks (senses_after corb rirb (submit_accesses corb rings word) senses) (next_choice switching).next × AreDecided corb rirb (speakers_of graphs plans) (submit_accesses corb rings word) senses
  choice_tells corb rirb rings command word is reads small =
      let read : reading_of (word_at (little_bytes 4 word) 0) ≡ Some command = ap reading_of (word_reads word small) ∙ reads in
      let told = choice_told command is in
      let after : Bool → Option Command → Senses = λ inside read. if inside then record { jacks = senses.jacks; asked = asked_by senses.jacks read } else senses in
      let same : after true (Some command) ≡ senses_noted corb rirb senses (DmaWrite (corb + COMMAND_BYTES * command_place rings) (little_bytes 4 word)) =
      sym (ap (λ (inside : Bool). after inside (reading_of (word_at (little_bytes 4 word) 0))) (place_inside corb rings) ∙ ap (λ (read : Option Command). after true read) read) in (
        subst (λ (senses : Senses). KnowsJacks senses (next_choice switching).next) same told.1,
        ((λ inside. subst (λ (read : Option Command). IsDecidedBy (speakers_of graphs plans) senses.jacks read) (sym read) told.0), (tt, tt)),
      )
