-- Every move of the device keeps how the engine stands.
use Rattle.std.proofs.Common.{◌≡◌, ◌<◌, ◌≤◌, ◌+◌, ◌-◌, ◌*◌, ◌%◌, ◌==◌, ℕ, Bool, true, false, List, [], ◌∷◌, ◌++◌, length, drop, Option, None, Some, refl, sym, ap, subst, ◌∙◌, inl, inr, arith, rules, tests, lit≤, length-append, append-nil, if◌then◌else◌}
use Rattle.std.specs.Prelude.{All}
use Rattle.std.proofs.Math.Nat.{mod-lt, mod-eq_of_lt}
use Rattle.std.proofs.Math.Seq.{drop-append_seam}
use Rattle.std.proofs.lemmas.List.{drop-append-le, drop_all}
use Rattle.std.proofs.lemmas.List.Elements.{All-cons, All-nil}
use Rattle.codec_graph.specs.declared.raw.RawCodec.{RawCodec}
use Rattle.codec_graph.specs.declared.waiting.Waiting.{Waiting}
use Rattle.codec_graph.specs.CodecStates.{CodecState, taken, plugged, without_first, without_answer}
use Rattle.hda_registers.specs.declared.shapes.RingSize.{RingSize}
use Rattle.hda_registers.specs.declared.shapes.Raise.TheVariants as event
use Rattle.hda_registers.specs.Fields.{Fields, Descriptor, entries_of, rirb_address, list_address, is_running}
use Rattle.hda_registers.specs.Moves.{framed, raised}
use Rattle.world_rings.specs.declared.response.Response.{Response}
use Rattle.world_rings.specs.Memory.{word_at}
use Rattle.world_rings.specs.Entries.{next_place, next_command, after_responses, responses_stored}
use Rattle.world_rings.specs.Engines.{can_fetch, can_respond, batch}
use Rattle.world_streams.specs.Streams.{Stream, broke}
use Rattle.world_streams.specs.Input.{holds_byte, byte_place, oldest_byte, byte_stored, frame_took}
use Rattle.world_steps.specs.declared.Step.{Step}
use Rattle.hda_registers.proofs.Callers.{some_entries, few_entries}
use Rattle.codec_graph.proofs.Callers.{graph-plugged}
use Rattle.world_rings.proofs.Callers.{flag_clear, batch_first, responses_registers}
use Rattle.hda_world.specs.declared.step.TheConstants.{FRAMES_TO_DISCOVERY}
use Rattle.hda_world.specs.Worlds.{World, TakenCommand, codec_at, with_codec, input_of}
use Rattle.hda_world.specs.Arriving.{arriving}
use Rattle.hda_world.specs.Steps.{address_of, taking, waiting_of, handed, responses_of, responded, discovered, passed, after_steps}
use Rattle.hda_world.specs.Kept.{Kept, KeptByInput, CanTake, goes_well, byte_went}
use Rattle.hda_world.specs.Unread.{IsReadTo}
use Rattle.hda_world.proofs.Callers.{graphs-with_codec, keeps_reading, frames_after, kept_steps, absent}
use Rattle.command_engine.specs.declared.ring_places.RingPlaces.{RingPlaces}
use Rattle.command_engine.specs.declared.answers.Outstanding.{Outstanding}
use Rattle.command_engine.specs.Blocks.{are_apart}
use Rattle.command_engine.specs.Apart.{IsApartBy}
use Rattle.command_engine.specs.Fetchings.{RingPart, part_of, HasRings, AscendFrom, AscendByAddress, AreOf, IsWordOf, IsOfCodec, AreOfCodecs, graphs_in, IsFetching, IsOnItsWay, AreStanding, StandsBy, Stands}
use Rattle.command_engine.proofs.Codecs.{graph_there}
use Rattle.command_engine.proofs.Coming.{coming_taken, coming_sent, coming_lost, coming_plugged, coming_responded}
use Rattle.command_engine.proofs.Batches.{EachStands, half_small, part_after, pointer_after, batch_short, size_stored, outside_block, word_stays, standing_written}
use Rattle.command_engine.proofs.Apart.{rirb_written, apart_moves, byte_beside, with_apart}
use Rattle.command_engine.proofs.Pieces.{piece_beside}

-- ---- codecs stay by address

pub ascend_with : (address : ℕ) (change : CodecState → CodecState) → ((codec : CodecState) → (change codec).graph ≡ codec.graph) → (codecs : List CodecState) → AscendByAddress codecs → AscendByAddress (with_codec address change codecs)
ascend_with address change keeps codecs ascend = subst (AscendFrom 0) (sym (graphs-with_codec address change keeps codecs)) ascend

-- and so do the commands that they took stay theirs
taken_with : (address : ℕ) (change : CodecState → CodecState) → ((codec : CodecState) → (change codec).graph ≡ codec.graph) → (codecs : List CodecState) (gained : List TakenCommand) → AreOfCodecs codecs gained → AreOfCodecs (with_codec address change codecs) gained
taken_with address change keeps codecs gained all = subst (λ (graphs : List RawCodec). All (IsOfCodec graphs) gained) (sym (graphs-with_codec address change keeps codecs)) all

-- ---- a link frame leaves the rings' registers

part-discovered : (codecs : List CodecState) (old fields : Fields) → part_of (record old { global = (discovered codecs fields).global }) ≡ part_of (record old { global = fields.global })
part-discovered [] old fields = refl
part-discovered (codec ∷ codecs) old fields = part-discovered codecs old (raised fields (event.Codec codec.graph.address))

part-frame : (now : Bool) (codecs : List CodecState) (old fields : Fields) → part_of (record old { global = (if now then discovered codecs fields else fields).global }) ≡ part_of (record old { global = fields.global })
part-frame true codecs old fields = part-discovered codecs old fields
part-frame false codecs old fields = refl

pub part-passed : (world : World) → part_of (passed world).registers ≡ part_of world.registers
part-passed world = part-frame (world.frames + 1 == FRAMES_TO_DISCOVERY) world.codecs world.registers (framed world.registers)

-- the pointers that the device moves are none of what the engine set
moved_rings : (corb rirb corb_read rirb_write flag : ℕ) (rings : RingPlaces) (part : RingPart) → HasRings corb rirb rings part
    → HasRings corb rirb rings (record part { corb_read_pointer = corb_read; rirb_write_pointer = rirb_write; response_flag = flag })
moved_rings corb rirb corb_read rirb_write flag rings part has = record {
  out = has.out;
  corb_size = has.corb_size;
  rirb_size = has.rirb_size;
  corb_at = has.corb_at;
  rirb_at = has.rirb_at;
  submitted = has.submitted;
  served = has.served;
  submitted_within = has.submitted_within;
  read_within = has.read_within;
}

module _ (from read corb rirb : ℕ) (rings : RingPlaces) where
  -- CORB's engine fetches where not all is fetched
  fetch_some : (fields : Fields) → can_fetch fields ≡ true → fields.global.corb_read_pointer ≡ fields.global.corb_write_pointer → ⊥
  fetch_some fields can same = search (rules, tests)

  handed_to : (found : Option CodecState) (world : World) (word carried : ℕ) (running : Bool) → codec_at (address_of word) world.codecs ≡ found → IsWordOf rings.outstanding word
      → drop from world.commands ≡ [] → from ≤ length world.commands → AscendByAddress world.codecs → IsOnItsWay (drop from world.commands) (drop read world.written) world.waiting world.codecs
      → AreOf rings.outstanding (drop from (world.commands ++ taking word found running carried))
      × IsOnItsWay (drop from (world.commands ++ taking word found running carried)) (drop read world.written) world.waiting (with_codec (address_of word) (λ codec. taken codec word) world.codecs)
      × AreOfCodecs world.codecs (drop from (world.commands ++ taking word found running carried))
  handed_to None world word carried running there is none within ascend way =
      let same = append-nil world.commands in
      let gained : drop from (world.commands ++ []) ≡ [] = ap (drop from) same ∙ none in (
        subst (AreOf rings.outstanding) (sym gained) tt,
        subst (λ (cs : List CodecState). IsOnItsWay (drop from (world.commands ++ [])) (drop read world.written) world.waiting cs) (sym (absent (address_of word) (λ codec. taken codec word) world.codecs there))
            (subst (λ (commands : List TakenCommand). IsOnItsWay (drop from commands) (drop read world.written) world.waiting world.codecs) (sym same) way),
        subst (AreOfCodecs world.codecs) (sym gained) (All-nil (IsOfCodec (graphs_in world.codecs))),
      )
  handed_to (Some codec) world word carried running there is none within ascend way =
      let one : TakenCommand = record { word = word; codec = codec; running = running; carried = carried } in
      let gained : drop from (world.commands ++ one ∷ []) ≡ one ∷ [] = drop-append-le from world.commands (one ∷ []) within ∙ ap (λ (first : List TakenCommand). first ++ one ∷ []) none in (
        subst (AreOf rings.outstanding) (sym gained) (of_one rings.outstanding one is),
        subst (λ (gained : List TakenCommand). IsOnItsWay gained (drop read world.written) world.waiting (with_codec (address_of word) (λ codec. taken codec word) world.codecs)) (sym gained)
            (coming_taken word carried running (drop read world.written) world.waiting world.codecs codec ascend there (subst (λ (gained : List TakenCommand). IsOnItsWay gained (drop read world.written) world.waiting world.codecs) none way)),
        subst (AreOfCodecs world.codecs) (sym gained) (All-cons (IsOfCodec (graphs_in world.codecs)) one [] (graph_there (address_of word) world.codecs codec there) (All-nil (IsOfCodec (graphs_in world.codecs)))),
      )
    where
      of_one : (outstanding : Option Outstanding) (one : TakenCommand) → IsWordOf outstanding one.word → AreOf outstanding (one ∷ [])
      of_one None one is = absurd is
      of_one (Some command) one is = (is, refl)

  within_more : (commands more : List TakenCommand) → from ≤ length commands → from ≤ length (commands ++ more)
  within_more commands more within = let e = length-append commands more in omega arith

  -- the word that is fetched is the one that was submitted
  fetched_word : (world : World) → HasRings corb rirb rings (part_of world.registers) → next_place world.registers.global.corb_read_pointer (entries_of world.registers.shape.corb) ≡ world.registers.global.corb_write_pointer
      → next_command world.registers world.memory ≡ word_at world.memory (corb + 4 * rings.submitted)
  fetched_word world has next =
      let at = has.corb_at in
      let place : next_place world.registers.global.corb_read_pointer (entries_of world.registers.shape.corb) ≡ rings.submitted = next ∙ has.submitted in
      ap (λ (place : ℕ). word_at world.memory (128 * world.registers.global.corb_base + 4 * place)) place ∙ ap (λ (base : ℕ). word_at world.memory (base + 4 * rings.submitted)) at

  hands : (world : World) → Stands from read corb rirb rings world → can_fetch world.registers ≡ true → Stands from read corb rirb rings (handed (next_command world.registers world.memory) world)
  hands world holds can = by holds.fetching
    where
      by : IsFetching rings.outstanding (part_of world.registers) (word_at world.memory (corb + 4 * rings.submitted)) (drop from world.commands) → Stands from read corb rirb rings (handed (next_command world.registers world.memory) world)
      by (inl all) = absurd (fetch_some world.registers can all.pointers)
      by (inr next) =
          let word = next_command world.registers world.memory in
          let is = subst (IsWordOf rings.outstanding) (sym (fetched_word world holds.has_rings next.pointers)) next.is in
          let both = handed_to (codec_at (address_of word) world.codecs) world word (length world.carried) (is_running world.registers.output) refl is next.none holds.from_within holds.ascend holds.on_its_way in
          record {
            has_rings = moved_rings corb rirb (next_place world.registers.global.corb_read_pointer (entries_of world.registers.shape.corb)) world.registers.global.rirb_write_pointer world.registers.global.response_flag rings (part_of world.registers) holds.has_rings;
            blocks = holds.blocks;
            ascend = ascend_with (address_of word) (λ codec. taken codec word) (λ codec. refl) world.codecs holds.ascend;
            reading = holds.reading;
            flag = holds.flag;
            few = holds.few;
            pointer = holds.pointer;
            standing = holds.standing;
            from_within = within_more world.commands (taking word (codec_at (address_of word) world.codecs) (is_running world.registers.output) (length world.carried)) holds.from_within;
            fetching = inl (record { pointers = next.pointers; taken = both.0 });
            taken_by = taken_with (address_of word) (λ codec. taken codec word) (λ codec. refl) world.codecs (drop from (world.commands ++ taking word (codec_at (address_of word) world.codecs) (is_running world.registers.output) (length world.carried))) both.2;
            on_its_way = both.1;
            apart = holds.apart;
          }

  -- ---- what waits at codecs

  sends : (world : World) (address : ℕ) (item : Waiting) (rest : List Waiting) → Stands from read corb rirb rings world → waiting_of (codec_at address world.codecs) ≡ item ∷ rest
      → StandsBy from read corb rirb rings (part_of world.registers) world.memory (with_codec address without_first world.codecs) (world.waiting ++ responses_of world.registers address item) world.commands world.written (input_of world)
  sends world address item rest holds are = record {
    has_rings = holds.has_rings;
    blocks = holds.blocks;
    ascend = ascend_with address without_first (λ codec. refl) world.codecs holds.ascend;
    reading = holds.reading;
    flag = holds.flag;
    few = holds.few;
    pointer = holds.pointer;
    standing = holds.standing;
    from_within = holds.from_within;
    fetching = holds.fetching;
    taken_by = taken_with address without_first (λ codec. refl) world.codecs (drop from world.commands) holds.taken_by;
    on_its_way = coming_sent (drop from world.commands) world.registers address item rest (drop read world.written) world.waiting world.codecs holds.ascend are holds.on_its_way;
    apart = holds.apart;
  }

  loses : (world : World) (address : ℕ) → Stands from read corb rirb rings world
      → StandsBy from read corb rirb rings (part_of world.registers) world.memory (with_codec address without_answer world.codecs) world.waiting world.commands world.written (input_of world)
  loses world address holds = record {
    has_rings = holds.has_rings;
    blocks = holds.blocks;
    ascend = ascend_with address without_answer (λ codec. refl) world.codecs holds.ascend;
    reading = holds.reading;
    flag = holds.flag;
    few = holds.few;
    pointer = holds.pointer;
    standing = holds.standing;
    from_within = holds.from_within;
    fetching = holds.fetching;
    taken_by = taken_with address without_answer (λ codec. refl) world.codecs (drop from world.commands) holds.taken_by;
    on_its_way = coming_lost (drop from world.commands) address (drop read world.written) world.waiting world.codecs holds.ascend holds.on_its_way;
    apart = holds.apart;
  }

  plugs : (world : World) (address nid : ℕ) (present : Bool) → Stands from read corb rirb rings world
      → StandsBy from read corb rirb rings (part_of world.registers) world.memory (with_codec address (λ codec. plugged codec nid present) world.codecs) world.waiting world.commands world.written (input_of world)
  plugs world address nid present holds = record {
    has_rings = holds.has_rings;
    blocks = holds.blocks;
    ascend = ascend_with address (λ codec. plugged codec nid present) (graph-plugged nid present) world.codecs holds.ascend;
    reading = holds.reading;
    flag = holds.flag;
    few = holds.few;
    pointer = holds.pointer;
    standing = holds.standing;
    from_within = holds.from_within;
    fetching = holds.fetching;
    taken_by = taken_with address (λ codec. plugged codec nid present) (graph-plugged nid present) world.codecs (drop from world.commands) holds.taken_by;
    on_its_way = coming_plugged (drop from world.commands) address nid present (drop read world.written) world.waiting world.codecs holds.ascend holds.on_its_way;
    apart = holds.apart;
  }

  -- ---- RIRB's engine writes a batch

  fetching_stays : (part : RingPart) (word word' pointer flag : ℕ) (gained : List TakenCommand) → word' ≡ word → IsFetching rings.outstanding part word gained
      → IsFetching rings.outstanding (record part { rirb_write_pointer = pointer; response_flag = flag }) word' gained
  fetching_stays part word word' pointer flag gained same (inl all) = inl (record { pointers = all.pointers; taken = all.taken })
  fetching_stays part word word' pointer flag gained same (inr next) =
      inr (record { pointers = next.pointers; is = subst (IsWordOf rings.outstanding) (sym same) next.is; none = next.none })

  wrote : EachStands → (world : World) (responses : List Response) → Stands from read corb rirb rings world → can_respond world.registers ≡ true → batch world.registers world.waiting ≡ responses
      → IsReadTo read (length (world.written ++ responses)) 1 (entries_of world.registers.shape.rirb)
      → StandsBy from read corb rirb rings
      (record (part_of world.registers) { rirb_write_pointer = (world.registers.global.rirb_write_pointer + length responses) % entries_of world.registers.shape.rirb; response_flag = 1 })
      (responses_stored world.registers world.memory responses) world.codecs (drop (length responses) world.waiting) world.commands (world.written ++ responses) (input_of world)
  wrote stands world responses holds can are reading =
      let fields = world.registers in
      let has = holds.has_rings in
      let size : entries_of fields.shape.rirb ≡ entries_of rings.rirb = ap entries_of has.rirb_size in
      let base : rirb_address fields ≡ rirb = has.rirb_at in
      let all : length world.written ≡ read = holds.reading.all (flag_clear fields can) in
      let within = has.read_within in
      let at : fields.global.rirb_write_pointer ≡ rings.read =
      holds.pointer ∙ ap (λ (n : ℕ). (rings.read + (n - read)) % entries_of rings.rirb) all ∙ ap (λ (n : ℕ). n % entries_of rings.rirb) (omega arith) ∙ mod-eq_of_lt within in
      let short = batch_short fields rings.rirb world.waiting responses can are has.served in
      let half = half_small rings.rirb in
      let long = length-append world.written responses in
      let unread : drop read (world.written ++ responses) ≡ responses = ap (λ (n : ℕ). drop n (world.written ++ responses)) (sym all) ∙ drop-append_seam world.written responses in
      let none : drop read world.written ≡ [] = drop_all read world.written (omega arith) in
      let blocks = holds.blocks in
      let inside = blocks.rirb_inside in
      let few = few_entries fields.shape.rirb in
      let sized = size_stored responses fields world.memory in
      let standing = standing_written stands responses fields world.memory rings.read (omega arith) (omega arith) at in
      let way = coming_responded (drop from world.commands) (drop read world.written) responses (drop (length responses) world.waiting) world.codecs
      (subst (λ (waiting : List Response). IsOnItsWay (drop from world.commands) (drop read world.written) waiting world.codecs) (sym (batch_first fields world.waiting responses can are)) holds.on_its_way) in
      let apart : are_apart corb (rirb_address fields) ≡ true = subst (λ (at : ℕ). are_apart corb at ≡ true) (sym base) blocks.apart in
      let submitted = has.submitted_within in
      let corb_few = few_entries rings.corb in
      record {
        has_rings = moved_rings corb rirb fields.global.corb_read_pointer ((fields.global.rirb_write_pointer + length responses) % entries_of fields.shape.rirb) 1 rings (part_of fields) has;
        blocks = record { corb_inside = subst (λ (n : ℕ). corb + 1024 ≤ n) (sym sized) blocks.corb_inside; rirb_inside = subst (λ (n : ℕ). rirb + 2048 ≤ n) (sym sized) blocks.rirb_inside; apart = blocks.apart };
        ascend = holds.ascend;
        reading = reading;
        flag = lit≤ tt;
        few = omega arith;
        pointer = ap (λ (at : ℕ). (at + length responses) % entries_of fields.shape.rirb) at ∙ ap (λ (n : ℕ). (rings.read + length responses) % n) size ∙ ap (λ (n : ℕ). (rings.read + n) % entries_of rings.rirb) (omega arith);
        standing = subst (λ (unread : List Response). AreStanding rirb (entries_of rings.rirb) rings.read (responses_stored fields world.memory responses) unread) (sym unread)
            (subst (λ (base : ℕ). AreStanding base (entries_of rings.rirb) rings.read (responses_stored fields world.memory responses) responses) base
            (subst (λ (size : ℕ). AreStanding (rirb_address fields) size rings.read (responses_stored fields world.memory responses) responses) size standing));
        from_within = holds.from_within;
        fetching = fetching_stays (part_of fields) (word_at world.memory (corb + 4 * rings.submitted)) (word_at (responses_stored fields world.memory responses) (corb + 4 * rings.submitted)) _ 1 (drop from world.commands)
            (word_stays responses fields world.memory corb rings.submitted apart (omega arith)) holds.fetching;
        taken_by = holds.taken_by;
        on_its_way = subst (λ (unread : List Response). IsOnItsWay (drop from world.commands) unread (drop (length responses) world.waiting) world.codecs) (ap (λ (first : List Response). first ++ responses) none ∙ sym unread) way;
        apart = rirb_written corb rirb world.memory (responses_stored fields world.memory responses) (input_of world) (outside_block responses fields world.memory rirb base) holds.apart;
      }

  responds : EachStands → (world : World) (response : Response) (rest : List Response) → Stands from read corb rirb rings world → can_respond world.registers ≡ true
      → batch world.registers world.waiting ≡ response ∷ rest → Stands from read corb rirb rings (responded (response ∷ rest) world)
  responds stands world response rest holds can are =
      let fields = world.registers in
      let has = holds.has_rings in
      let within = has.read_within in
      let size : entries_of fields.shape.rirb ≡ entries_of rings.rirb = ap entries_of has.rirb_size in
      let inside : fields.global.rirb_write_pointer < entries_of fields.shape.rirb = let lt = mod-lt (rings.read + (length world.written - read)) (some_entries rings.rirb) in let at = holds.pointer in omega arith in
      let part : part_of (raised (after_responses fields (response ∷ rest)) event.Response) ≡ record (part_of fields) { rirb_write_pointer = (fields.global.rirb_write_pointer + length (response ∷ rest)) % entries_of fields.shape.rirb; response_flag = 1 } =
      ap (λ (part : RingPart). record part { response_flag = 1 }) (part_after (response ∷ rest) fields)
      ∙ ap (λ (pointer : ℕ). record (part_of fields) { rirb_write_pointer = pointer; response_flag = 1 }) (pointer_after (response ∷ rest) fields inside) in
      let reading = (keeps_reading read).responds world response rest holds.reading can are in
      let shape : (after_responses fields (response ∷ rest)).shape.rirb ≡ fields.shape.rirb = ap (λ (part : RingPart). part.rirb_size) (part_after (response ∷ rest) fields) in
      let input : (after_responses fields (response ∷ rest)).input ≡ fields.input = ap (λ (f : Fields). f.input) (responses_registers (response ∷ rest) fields) in
      subst (λ (descriptor : Descriptor). StandsBy from read corb rirb rings (part_of (raised (after_responses fields (response ∷ rest)) event.Response)) (responses_stored fields world.memory (response ∷ rest)) world.codecs (drop (length (response ∷ rest)) world.waiting) world.commands
      (world.written ++ response ∷ rest) (record { descriptor = descriptor; state = world.input })) (sym input)
      (subst (λ (part : RingPart). StandsBy from read corb rirb rings part (responses_stored fields world.memory (response ∷ rest)) world.codecs (drop (length (response ∷ rest)) world.waiting) world.commands (world.written ++ response ∷ rest) (input_of world)) (sym part)
      (wrote stands world (response ∷ rest) holds can are (subst (λ (s : RingSize). IsReadTo read (length (world.written ++ response ∷ rest)) 1 (entries_of s)) shape reading)))

  -- ---- a link frame passes

  passes : (world : World) → Stands from read corb rirb rings world → Stands from read corb rirb rings (passed world)
  passes world holds =
      let same = part-passed world in
      subst (λ (part : RingPart). StandsBy from read corb rirb rings part world.memory world.codecs world.waiting world.commands world.written (input_of world)) (sym same) holds

  -- ---- the input stream moves

  -- a byte that is stored lies beside both blocks
  stores : (world : World) → Stands from read corb rirb rings world → CanTake world → holds_byte world.input ≡ true → goes_well world ≡ true → Stands from read corb rirb rings (byte_went world)
  stores world holds can some good =
      let is = holds.apart can.runs in
      piece_beside from read corb rirb rings world (byte_place world.memory (list_address world.registers.input) world.input) (oldest_byte world.input ∷ []) (byte_stored world.memory (input_of world))
      (byte_beside corb 1024 world.memory (input_of world) is.list good is.beside_corb) (byte_beside rirb 2048 world.memory (input_of world) is.list good is.beside_rirb)
      ((apart_moves corb rirb).stores world holds.apart can some good) holds

  moves : (world : World) (input : Stream) → Stands from read corb rirb rings world → IsApartBy corb rirb world.memory input
      → StandsBy from read corb rirb rings (part_of world.registers) world.memory world.codecs world.waiting world.commands world.written input
  moves world input holds apart = with_apart from read corb rirb rings (part_of world.registers) world.memory world.codecs world.waiting world.commands world.written (input_of world) input apart holds

  input_moves : KeptByInput (Stands from read corb rirb rings)
  input_moves = record {
    stores = stores;
    jams = λ world holds can some bad. moves world (broke (input_of world)) holds ((apart_moves corb rirb).jams world holds.apart can some bad);
    takes = λ world holds can. moves world (frame_took world.registers.shape.fifo (arriving world) (input_of world)) holds ((apart_moves corb rirb).takes world holds.apart can);
    refuses = λ world holds must. moves world (broke (input_of world)) holds ((apart_moves corb rirb).refuses world holds.apart must);
  }

  -- every move keeps how the engine stands
  pub keeps_standing : EachStands → Kept (Stands from read corb rirb rings)
  keeps_standing stands = record {
    codecs = record {
      hands = λ world holds can free. hands world holds can;
      sends = λ world address item rest holds out room are. sends world address item rest holds are;
      loses = λ world address holds out. loses world address holds;
      plugs = λ world address nid present holds. plugs world address nid present holds;
    };
    responds = λ world response rest holds can are. responds stands world response rest holds can are;
    bytes = record {
      comes = λ world holds can room good is. holds;
      ends = λ world holds can room good is. holds;
      breaks = λ world holds can room bad. holds;
      refuses = λ world holds must. holds;
    };
    input = input_moves;
    passes = λ world holds out still. passes world holds;
    frames = frames_after (Stands from read corb rirb rings) (λ world holds out. passes world holds) (record {
      gaps = λ world holds can none. holds;
      sends = λ world holds can some enough. holds;
      misses = λ world holds can short. holds;
      stops = λ world holds must. holds;
    });
  }

  pub steps_keep_standing : EachStands → (steps : List Step) (world : World) → Stands from read corb rirb rings world → Stands from read corb rirb rings (after_steps steps world)
  steps_keep_standing stands steps world holds = kept_steps (Stands from read corb rirb rings) (keeps_standing stands) steps world holds
