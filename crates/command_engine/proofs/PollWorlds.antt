-- What a poll leaves of a told world.
use Rattle.std.proofs.Common.{◌≡◌, ◌<◌, ◌≤◌, ◌+◌, ◌*◌, ◌%◌, ◌^◌, ◌&&◌, ◌==◌, not, ℕ, Bool, true, false, cond, List, [], ◌∷◌, ◌++◌, length, map, drop, slice_get, Option, None, Some, refl, sym, ap, subst, ◌∙◌, inl, inr, arith, rules, tests, lit≤, if◌then◌else◌}
use Rattle.std.specs.Prelude.{All}
use Rattle.std.specs.List.{find}
use Rattle.std.specs.Option.{option_map}
use Rattle.std.proofs.Math.Nat.{mod-eq_of_lt}
use Rattle.std.proofs.lemmas.List.{drop_all}
use Rattle.std.proofs.lemmas.List.Elements.{All-cons, All-head, All-tail, All-nil}
use Rattle.std.proofs.lemmas.List.Sums.{sum_by-cons}
use Rattle.codec_graph.specs.declared.waiting.Waiting.{Waiting}
use Rattle.codec_graph.specs.declared.waiting.Waiting.TheVariants.{Answer, Unsolicited}
use Rattle.codec_graph.specs.CodecStates.{CodecState, answers}
use Rattle.codec_graph.proofs.Callers.{answers-cons}
use Rattle.hda_registers.specs.declared.shapes.Width.TheVariants.{One}
use Rattle.hda_registers.specs.Fields.{Fields, entries_of, is_out_of_reset}
use Rattle.hda_registers.specs.Access.{written, placed, global_written}
use Rattle.hda_registers.proofs.Callers.{some_entries}
use Rattle.world_rings.specs.declared.response.Response.{Response}
use Rattle.world_rings.specs.Memory.{word_at}
use Rattle.hda_world.specs.Worlds.{World, TakenCommand, input_of}
use Rattle.hda_world.specs.Steps.{address_of}
use Rattle.hda_world.specs.Events as happens
use Rattle.hda_world.specs.Tellings.{Telling, MakesBy}
use Rattle.command_engine.specs.declared.ring_places.RingPlaces.{RingPlaces}
use Rattle.command_engine.specs.declared.answers.Outstanding.{Outstanding}
use Rattle.command_engine.specs.Entries.{is_from, answers_it, answer_among}
use Rattle.command_engine.specs.Polling.{asked_of, still_outstanding}
use Rattle.command_engine.specs.Fetchings.{RingPart, part_of, HasRings, AreOf, IsOfCodec, AreOfCodecs, graph_at, graphs_in, IsFetching, CanCome, ResponseCanCome, ItemCanCome, CodecCanSend, solicited, waiting_answers, IsOnItsWay, StandsBy, Stands}
use Rattle.command_engine.specs.Belonging.{as_held, Belongs, from_after}
use Rattle.command_engine.proofs.Codecs.{graph_address}

-- ---- the answer among what was read

-- the first response that passes is one of them, and not unasked
found_first : (gained : List TakenCommand) (asked : Option ℕ) (responses : List Response) (value : ℕ) → All (ResponseCanCome gained) responses
    → answer_among asked (map as_held responses) ≡ Some value → (address : ℕ) × (answer : ℕ) × CanCome gained address answer × (value ≡ answer % 2 ^ 32) × (1 ≤ solicited responses) × (is_from asked address ≡ true)
found_first gained asked [] value can e = cc
found_first gained asked (response ∷ responses) value can e =
    by (λ e. found_first gained asked responses value (All-tail (ResponseCanCome gained) response responses can) e) response.unsolicited (is_from asked response.codec) refl refl e
  where
    more : solicited (response ∷ responses) ≡ cond (not response.unsolicited) 1 0 + solicited responses
    more = sum_by-cons (λ (response : Response). cond (not response.unsolicited) 1 0) response responses

    counted : (told : Bool) → response.unsolicited ≡ told → solicited (response ∷ responses) ≡ cond (not told) 1 0 + solicited responses
    counted told is = more ∙ ap (λ (b : Bool). cond (not b) 1 0 + solicited responses) is

    by : (answer_among asked (map as_held responses) ≡ Some value → (address : ℕ) × (answer : ℕ) × CanCome gained address answer × (value ≡ answer % 2 ^ 32) × (1 ≤ solicited responses) × (is_from asked address ≡ true))
        → (told mine : Bool) → response.unsolicited ≡ told → is_from asked response.codec ≡ mine
        → option_map (λ (r : Response). r.answer) (if not told && mine then Some (as_held response) else find (answers_it asked) (map as_held responses)) ≡ Some value
        → (address : ℕ) × (answer : ℕ) × CanCome gained address answer × (value ≡ answer % 2 ^ 32) × (1 ≤ solicited (response ∷ responses)) × (is_from asked address ≡ true)
    by later true mine is asks e =
        let rest = later e in
        let some = rest.4 in
        let count = counted true is in
        (rest.0, rest.1, rest.2, rest.3, omega arith, rest.5)
    by later false false is asks e =
        let rest = later e in
        let some = rest.4 in
        let count = counted false is in
        (rest.0, rest.1, rest.2, rest.3, omega arith, rest.5)
    by later false true is asks e =
        let same : response.answer % 2 ^ 32 ≡ value = cc in
        let count = counted false is in
        (response.codec, response.answer, (All-head (ResponseCanCome gained) response responses can).answer is, sym same, omega arith, asks)

pub split_row : (first second : List happens.Event) (old new : Telling) → MakesBy (first ++ second) old new → (middle : Telling) × MakesBy first old middle × MakesBy second middle new
split_row [] second old new made = (old, refl, made)
split_row (event ∷ first) second old new made =
    let rest = split_row first second made.0 new made.2 in
    (rest.0, (made.0, made.1, rest.1), rest.2)

-- RINTFL is cleared
pub write-response_flag : (f : Fields) → is_out_of_reset f.global ≡ true → f.global.response_flag ≡ 1 → written f 0x5D One 1 ≡ record f { global = record f.global { response_flag = 0 } }
unfolding written placed global_written
write-response_flag f out set = rw (out, set) refl

-- ---- where no answer is left, none can come

none_responses : (gained : List TakenCommand) (responses : List Response) → All (ResponseCanCome gained) responses → solicited responses ≤ 0 → All (ResponseCanCome []) responses
none_responses gained [] can none = All-nil (ResponseCanCome [])
none_responses gained (response ∷ responses) can none =
    by response.unsolicited refl (λ less. none_responses gained responses (All-tail (ResponseCanCome gained) response responses can) less)
  where
    by : (told : Bool) → response.unsolicited ≡ told → (solicited responses ≤ 0 → All (ResponseCanCome []) responses) → All (ResponseCanCome []) (response ∷ responses)
    by true is later =
        let count = sum_by-cons (λ (response : Response). cond (not response.unsolicited) 1 0) response responses in
        All-cons (ResponseCanCome []) response responses (record { address = (All-head (ResponseCanCome gained) response responses can).address; answer = λ no_mark. let z : true ≡ false = sym is ∙ no_mark in cc }) (later (omega arith))
    by false is later =
        let count : solicited (response ∷ responses) ≡ 1 + solicited responses = sum_by-cons (λ (response : Response). cond (not response.unsolicited) 1 0) response responses ∙ ap (λ (b : Bool). cond (not b) 1 0 + solicited responses) is in
        absurd (omega arith)

none_items : (gained : List TakenCommand) (address : ℕ) (items : List Waiting) → All (ItemCanCome gained address) items → answers items ≤ 0 → All (ItemCanCome [] address) items
none_items gained address [] can none = All-nil (ItemCanCome [] address)
none_items gained address (Answer value ∷ items) can none = let count = answers-cons (Answer value) items in absurd (omega arith)
none_items gained address (Unsolicited value ∷ items) can none =
    let count = answers-cons (Unsolicited value) items in
    All-cons (ItemCanCome [] address) (Unsolicited value) items tt (none_items gained address items (All-tail (ItemCanCome gained address) (Unsolicited value) items can) (omega arith))

none_codecs : (gained : List TakenCommand) (codecs : List CodecState) → All (CodecCanSend gained) codecs → waiting_answers codecs ≤ 0 → All (CodecCanSend []) codecs
none_codecs gained [] can none = All-nil (CodecCanSend [])
none_codecs gained (codec ∷ codecs) can none =
    let count = sum_by-cons (λ (codec : CodecState). answers codec.waiting) codec codecs in
    All-cons (CodecCanSend []) codec codecs (none_items gained codec.graph.address codec.waiting (All-head (CodecCanSend gained) codec codecs can) (omega arith))
    (none_codecs gained codecs (All-tail (CodecCanSend gained) codec codecs can) (omega arith))

-- ---- the engine after a poll

is_asked : (address asked : ℕ) → (address == asked) ≡ true → address ≡ asked
is_asked address asked is = search (rules, tests)

module _ (from read corb rirb : ℕ) (rings : RingPlaces) (world : World) (holds : Stands from read corb rirb rings world) (place : ℕ) (below : place < entries_of rings.rirb) (at : world.registers.global.rirb_write_pointer ≡ place) where
  abbrev cleared_part : RingPart
  cleared_part = record (part_of world.registers) { response_flag = 0 }

  cleared_has : (outstanding : Option Outstanding) → HasRings corb rirb (record rings { read = place; outstanding = outstanding }) cleared_part
  cleared_has outstanding = let has = holds.has_rings in record {
    out = has.out;
    corb_size = has.corb_size;
    rirb_size = has.rirb_size;
    corb_at = has.corb_at;
    rirb_at = has.rirb_at;
    submitted = has.submitted;
    served = has.served;
    submitted_within = has.submitted_within;
    read_within = below;
  }

  none_unread : drop (length world.written) world.written ≡ []
  none_unread = drop_all (length world.written) world.written (omega arith)

  cleared_stands : (from' : ℕ) (outstanding : Option Outstanding) → from' ≤ length world.commands
      → IsFetching outstanding cleared_part (word_at world.memory (corb + 4 * rings.submitted)) (drop from' world.commands)
      → AreOfCodecs world.codecs (drop from' world.commands)
      → IsOnItsWay (drop from' world.commands) [] world.waiting world.codecs
      → StandsBy from' (length world.written) corb rirb (record rings { read = place; outstanding = outstanding }) cleared_part world.memory world.codecs world.waiting world.commands world.written (input_of world)
  cleared_stands from' outstanding within fetching theirs way =
      let some = some_entries world.registers.shape.rirb in
      record {
        has_rings = cleared_has outstanding;
        blocks = holds.blocks;
        ascend = holds.ascend;
        reading = record { all = λ clear. refl; within = omega arith; few = omega arith };
        flag = lit≤ tt;
        few = omega arith;
        pointer = at ∙ sym (mod-eq_of_lt below) ∙ ap (λ (n : ℕ). n % entries_of rings.rirb) (omega arith);
        standing = λ index response byte is small.
            let past : slice_get (drop (length world.written) world.written) index ≡ None = ap (λ (unread : List Response). slice_get unread index) none_unread in
            let z : None ≡ Some response = sym past ∙ is in
            cc;
        from_within = within;
        fetching = fetching;
        taken_by = theirs;
        on_its_way = subst (λ (unread : List Response). IsOnItsWay (drop from' world.commands) unread world.waiting world.codecs) (sym none_unread) way;
        apart = holds.apart;
      }

  -- nothing was found: the command stays outstanding
  unfound : StandsBy from (length world.written) corb rirb (record rings { read = place; outstanding = rings.outstanding }) cleared_part world.memory world.codecs world.waiting world.commands world.written (input_of world)
  unfound =
      let way = holds.on_its_way in
      let few = way.few in
      cleared_stands from rings.outstanding holds.from_within (same_fetching holds.fetching) holds.taken_by
      (record { in_ring = All-nil (ResponseCanCome (drop from world.commands)); in_controller = way.in_controller; at_codecs = way.at_codecs; few = omega arith })
    where
      same_fetching : IsFetching rings.outstanding (part_of world.registers) (word_at world.memory (corb + 4 * rings.submitted)) (drop from world.commands)
          → IsFetching rings.outstanding cleared_part (word_at world.memory (corb + 4 * rings.submitted)) (drop from world.commands)
      same_fetching (inl all) = inl (record { pointers = all.pointers; taken = all.taken })
      same_fetching (inr next) = inr (record { pointers = next.pointers; is = next.is; none = next.none })

  -- the answer was found: it is that of the outstanding command, and nothing more comes
  answered : (value address answer : ℕ) → is_from (asked_of rings.outstanding) address ≡ true → CanCome (drop from world.commands) address answer → value ≡ answer % 2 ^ 32 → 1 ≤ solicited (drop read world.written)
      → Belongs from rings.outstanding world.codecs world.commands (Some value)
      × StandsBy (length world.commands) (length world.written) corb rirb (record rings { read = place; outstanding = None }) cleared_part world.memory world.codecs world.waiting world.commands world.written (input_of world)
  answered value address answer asks can is some = by (drop from world.commands) refl can holds.fetching
    where
      nothing : drop (length world.commands) world.commands ≡ []
      nothing = drop_all (length world.commands) world.commands (omega arith)

      after : (pointers : world.registers.global.corb_read_pointer ≡ world.registers.global.corb_write_pointer) → length (drop from world.commands) ≤ 1
          → StandsBy (length world.commands) (length world.written) corb rirb (record rings { read = place; outstanding = None }) cleared_part world.memory world.codecs world.waiting world.commands world.written (input_of world)
      after pointers one =
          let way = holds.on_its_way in
          let few = way.few in
          let left : solicited world.waiting + waiting_answers world.codecs ≤ 0 = omega arith in
          cleared_stands (length world.commands) None (omega arith)
          (inl (record { pointers = pointers; taken = subst (AreOf None) (sym nothing) tt }))
          (subst (AreOfCodecs world.codecs) (sym nothing) (All-nil (IsOfCodec (graphs_in world.codecs))))
          (subst (λ (gained : List TakenCommand). IsOnItsWay gained [] world.waiting world.codecs) (sym nothing)
          (record {
            in_ring = All-nil (ResponseCanCome []);
            in_controller = none_responses (drop from world.commands) world.waiting way.in_controller (omega arith);
            at_codecs = none_codecs (drop from world.commands) world.codecs way.at_codecs (omega arith);
            few = omega arith;
          }))

      belongs : (outstanding : Option Outstanding) (taken : TakenCommand) (more : List TakenCommand) → drop from world.commands ≡ taken ∷ more → is_from (asked_of outstanding) address ≡ true → IsOfCodec (graphs_in world.codecs) taken → CanCome (taken ∷ more) address answer → AreOf outstanding (taken ∷ more)
          → Belongs from outstanding world.codecs world.commands (Some value) × (more ≡ [])
      belongs None taken more gained asks theirs can are = absurd are
      belongs (Some command) taken more gained asks theirs can are =
          let named : address_of taken.word ≡ command.codec = sym can.codec ∙ is_asked address command.codec asks in (
            record {
              taken = taken;
              address = graph_address (address_of taken.word) (graphs_in world.codecs) taken.codec.graph theirs ∙ named;
              graph = subst (λ (at : ℕ). graph_at at (graphs_in world.codecs) ≡ Some taken.codec.graph) named theirs;
              only = gained ∙ ap (λ (rest : List TakenCommand). taken ∷ rest) are.1;
              word = are.0;
              answer = is ∙ ap (λ (n : ℕ). n % 2 ^ 32) can.answer;
            },
            are.1,
          )

      by : (gained : List TakenCommand) → drop from world.commands ≡ gained → CanCome gained address answer
          → IsFetching rings.outstanding (part_of world.registers) (word_at world.memory (corb + 4 * rings.submitted)) (drop from world.commands)
          → Belongs from rings.outstanding world.codecs world.commands (Some value)
          × StandsBy (length world.commands) (length world.written) corb rirb (record rings { read = place; outstanding = None }) cleared_part world.memory world.codecs world.waiting world.commands world.written (input_of world)
      by [] gained can fetching = absurd can
      by (taken ∷ more) gained can (inr next) = let z : taken ∷ more ≡ [] = sym gained ∙ next.none in cc
      by (taken ∷ more) gained can (inl all) =
          let both = belongs rings.outstanding taken more gained asks (All-head (IsOfCodec (graphs_in world.codecs)) taken more (subst (AreOfCodecs world.codecs) gained holds.taken_by)) can (subst (AreOf rings.outstanding) gained all.taken) in
          let long : length (drop from world.commands) ≡ 1 = ap length gained ∙ ap (λ (rest : List TakenCommand). length (taken ∷ rest)) both.1 in
          (both.0, after all.pointers (omega arith))

  -- whatever was found
  pub after_poll : (found : Option ℕ) → found ≡ answer_among (asked_of rings.outstanding) (map as_held (drop read world.written))
      → Belongs from rings.outstanding world.codecs world.commands found
      × StandsBy (from_after found from world.commands) (length world.written) corb rirb (record rings { read = place; outstanding = still_outstanding rings.outstanding found }) cleared_part world.memory world.codecs world.waiting world.commands world.written (input_of world)
  after_poll None is = (tt, unfound)
  after_poll (Some value) is =
      let first = found_first (drop from world.commands) (asked_of rings.outstanding) (drop read world.written) value holds.on_its_way.in_ring (sym is) in
      answered value first.0 first.1 first.5 first.2 first.3 first.4
