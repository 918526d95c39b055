use Rattle.std.proofs.Common.{◌+◌, ◌≡◌, ◌≢◌, ◌-◌, ◌*◌, ◌/◌, ℕ, true, false, length, take, string_bytes, ap, ◌∙◌, refl, arith}
use Rattle.std.specs.Result.{is_err}
use Rattle.circular_buffer.specs.Buffer.{buffer}
use Rattle.wav_reader.specs.Heads.{IsRingFormat}
use Rattle.wav_reader.specs.Opening.{head_in_file, total_of}
use Rattle.wav_reader.specs.Supplies.{block_of}
use Rattle.wav_reader.specs.Wavs.{ring_bytes}
use Rattle.wav_reader.proofs.CountLemmas.{whole-less}
use Rattle.wav_reader.proofs.PlaceLemmas.{block_some}
use Rattle.wav_reader.proofs.StreamLemmas.{blocks_in, wanted_by, not_cut_by, not_full_by, source_with, same_source, full_by, filled_by, cut_by, cut_filled_by, next_front, seen_with, begins_by, begins_cut, frames_by, whole_grown, slots_whole, slots_sum, in_same_frame, whole_blocks, same_frames, same_block}
use Rattle.wav_reader.proofs.streams.Stream.fill.Goals as goal

pub returns-else-is_err-clause-fills : goal.returns-else-is_err-clause-fills
returns-else-is_err-clause-fills g c =
    let stream = c.args.self.now in
    let name = string_bytes c.args.self.now.file.name in
    let said = head_in_file c.args.self.now.file.head in
    let total = total_of c.args.self.now.file.head in
    let held = c.args.self.now.held in
    let taken = c.args.self.now.taken in
    let grown = c.read_next-read.ensures.reads.grown in
    let rest = total_of c.args.self.now.file.head - c.args.self.now.taken in
    let wanted = wanted_by c.args.self.now.is_cut (length held.items) held.capacity rest c.left.result c.capacity.result c.min-most.result c.len.result c.left.ensures.value
    c.capacity.ensures.capacity c.len.ensures.len c.min-most.ensures c.if-count-eq0.false in
    let uncut = wanted.uncut in
    let count = wanted.count_is in
    let wants = wanted.wants in
    let within = c.requires.is_stream.within in
    let format = c.args.self.now.file.head.format in
    let form : IsRingFormat said.mono said.format = record { even = format.even; some = format.some; few = format.few; doubled = c.args.self.now.file.head.doubled } in
    let block = block_of said in
    let many = c.min-most.result - c.len.result in
    let blocks = c.requires.is_stream.blocks in
    let fine : is_err c.read_next-read.result ≡ false = cc (c.is_err.ensures.value, c.if-is_err.false) in
    record {
      full = full_by name said total taken (c.min-most.result - c.len.result) held c.read_next-read.new.held c.args.self.now.is_cut c.read_next-read.result uncut count grown;
      cut = not_cut_by (source_with name said held) (seen_with name said total held taken c.args.self.now.is_cut) (seen_with name said total c.read_next-read.new.held taken c.args.self.now.is_cut) c.read_next-read.result fine;
      taken = refl;
      source_is = same_source name said (c.min-most.result - c.len.result) held c.read_next-read.new.held c.read_next-read.result grown;
      filled = λ _. filled_by name said total taken (c.min-most.result - c.len.result) held c.read_next-read.new.held c.args.self.now.is_cut c.read_next-read.result uncut grown;
      idle = λ none. absurd (let none' = none in let nothing = c.if-count-eq0.false in nothing (wants ∙ none));
      given = (let given = c.read_next-read.ensures.reads.given in omega (arith, given, wants));
      given_rises = c.read_next-read.ensures.reads.given_rises;
      failed = c.read_next-read.ensures.reads.failed;
      short = λ place same. (let short = c.read_next-read.ensures.reads.short place same in (short.0.early, short.1));
      begins = begins_by (c.min-most.result - c.len.result) held c.read_next-read.new.held c.read_next-read.result grown;
      frames = λ taken_blocks held_blocks.
          (let whole = whole_blocks block c.args.self.now.file.head.frames taken held.capacity (length held.items) many count taken_blocks held_blocks blocks in
          frames_by said held c.read_next-read.new.held form c.read_next-read.new.held.items _ _ c.read_next-read.result refl
          (whole_grown block many held c.read_next-read.new.held c.read_next-read.result grown whole)
          (c.read_next-read.ensures.given (slots_sum said form taken (length held.items) taken_blocks held_blocks) (slots_whole said form many whole)));
      short_at = λ taken_blocks place same. (c.read_next-read.ensures.reads.short place same).0;
      not_short = c.read_next-read.ensures.reads.not_short;
      reads = c.read_next-read.ensures.reads.reads;
      never_short = c.read_next-read.ensures.reads.never_short;
    }

pub returns-then-is_err-clause-fills : goal.returns-then-is_err-clause-fills
returns-then-is_err-clause-fills g c =
    let stream = c.args.self.now in
    let name = string_bytes c.args.self.now.file.name in
    let said = head_in_file c.args.self.now.file.head in
    let total = total_of c.args.self.now.file.head in
    let held = c.args.self.now.held in
    let taken = c.args.self.now.taken in
    let grown = c.read_next-read.ensures.reads.grown in
    let rest = total_of c.args.self.now.file.head - c.args.self.now.taken in
    let wanted = wanted_by c.args.self.now.is_cut (length held.items) held.capacity rest c.left.result c.capacity.result c.min-most.result c.len.result c.left.ensures.value
    c.capacity.ensures.capacity c.len.ensures.len c.min-most.ensures c.if-count-eq0.false in
    let uncut = wanted.uncut in
    let count = wanted.count_is in
    let wants = wanted.wants in
    let within = c.requires.is_stream.within in
    let format = c.args.self.now.file.head.format in
    let form : IsRingFormat said.mono said.format = record { even = format.even; some = format.some; few = format.few; doubled = c.args.self.now.file.head.doubled } in
    let block = block_of said in
    let many = c.min-most.result - c.len.result in
    let blocks = c.requires.is_stream.blocks in
    let bad : is_err c.read_next-read.result ≡ true = cc (c.is_err.ensures.value, c.if-is_err.true) in
    let some = block_some said form in
    let items = c.read_next-read.new.held.items in
    let cut : c.truncate_back.new.self ≡ buffer (blocks_in block c.read_next-read.new.held.items) c.read_next-read.new.held.capacity =
    c.truncate_back.ensures
    ∙ ap (λ (n : ℕ). buffer (take (n / c.block_len-block.result * c.block_len-block.result) items) c.read_next-read.new.held.capacity) c.len-then-is_err.ensures.len
    ∙ ap (λ (n : ℕ). buffer (take (length c.read_next-read.new.held.items / n * n) items) c.read_next-read.new.held.capacity) c.block_len-block.ensures.value in
    let some' : (c.min-most.result - c.len.result) ≢ 0 = c.if-count-eq0.false in
    rw cut
    (record {
      full = not_full_by (source_with name said held) (seen_with name said total held taken c.args.self.now.is_cut) (seen_with name said total (buffer (blocks_in block items) c.read_next-read.new.held.capacity) taken true) c.read_next-read.result bad;
      cut = cut_by name said total taken (c.min-most.result - c.len.result) held c.read_next-read.new.held c.args.self.now.is_cut c.read_next-read.result uncut some count grown;
      taken = refl;
      source_is = same_source name said (c.min-most.result - c.len.result) held c.read_next-read.new.held c.read_next-read.result grown;
      filled = λ whole. cut_filled_by name said total taken (c.min-most.result - c.len.result) held c.read_next-read.new.held c.args.self.now.is_cut c.read_next-read.result uncut some grown (omega (arith, count, within, some')) whole;
      idle = λ none. absurd (let nothing = c.if-count-eq0.false in nothing (wants ∙ none));
      given = (let given = c.read_next-read.ensures.reads.given in omega (arith, given, wants));
      given_rises = c.read_next-read.ensures.reads.given_rises;
      failed = c.read_next-read.ensures.reads.failed;
      short = λ place same. (let short = c.read_next-read.ensures.reads.short place same in (short.0.early, short.1));
      begins = begins_cut (c.min-most.result - c.len.result) (length c.read_next-read.new.held.items / block * block) held c.read_next-read.new.held c.read_next-read.result
          (whole-less (length c.read_next-read.new.held.items) block) grown;
      frames = λ taken_blocks held_blocks.
          (let whole = whole_blocks block c.args.self.now.file.head.frames taken held.capacity (length held.items) many count taken_blocks held_blocks blocks in
          frames_by said held c.read_next-read.new.held form (blocks_in block items) _ _ c.read_next-read.result
          (same_frames block (length held.items) items some grown.least held_blocks)
          (whole_grown block many held c.read_next-read.new.held c.read_next-read.result grown whole)
          (c.read_next-read.ensures.given (slots_sum said form taken (length held.items) taken_blocks held_blocks) (slots_whole said form many whole)));
      short_at = λ taken_blocks place same.
          in_same_frame said (c.args.self.now.taken + length c.read_next-read.new.held.items) (c.args.self.now.taken + length (blocks_in block items)) place
          (same_block block c.args.self.now.taken items some taken_blocks) (c.read_next-read.ensures.reads.short place same).0;
      not_short = c.read_next-read.ensures.reads.not_short;
      reads = λ file is before. next_front block (ring_bytes file said) taken items (c.read_next-read.ensures.reads.reads file is before);
      never_short = c.read_next-read.ensures.reads.never_short;
    })
