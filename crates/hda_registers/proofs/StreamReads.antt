-- What a read of a word of a stream descriptor sees, from the word as it stands there.
use Rattle.std.proofs.Common.{◌≡◌, ◌≢◌, ℕ, false, ◌==◌, ◌/◌, [], ◌∷◌, refl, ◌∙◌}
use Rattle.std.specs.Prelude.{bit_and}
use Rattle.hda_registers.specs.declared.accesses.Access.{Access}
use Rattle.hda_registers.specs.declared.shapes.Shape.{Shape}
use Rattle.hda_registers.specs.Fields.{Descriptor}
use Rattle.hda_registers.specs.Table.{StreamGroup, StreamReset, Run, CompletionInterrupt, FifoInterrupt, DescriptorInterrupt, Tag, Completion, FifoError, DescriptorError, FifoReady, Position, Length, LastIndex, FifoSize, Format, ListBase, stream_row}
use Rattle.hda_registers.specs.Access.{part, stream_shown, stream_groups_in, stream_groups}
use Rattle.hda_registers.proofs.Groups.{at_word, other}
use Rattle.hda_registers.proofs.Reading.{shown-value, all_parts, named_parts, nothing, none_pass}

pub stream_word_0 : (shape : Shape) (g : Descriptor) (a : Access) → a.word ≡ 0 → (word : ℕ) → g.stream_reset ≡ part 0 1 word → g.run ≡ part 1 1 word → g.completion_interrupt ≡ part 2 1 word → g.fifo_interrupt ≡ part 3 1 word → g.descriptor_interrupt ≡ part 4 1 word → g.tag ≡ part 20 4 word → g.completion ≡ part 26 1 word → g.fifo_error ≡ part 27 1 word → g.descriptor_error ≡ part 28 1 word → g.fifo_ready ≡ part 29 1 word
    → bit_and word 0x3CF0001F ≡ word → stream_shown shape g a ≡ bit_and word a.covered
unfolding stream_shown stream_groups_in
stream_word_0 shape g a e word h0 h1 h2 h3 h4 h5 h6 h7 h8 h9 named =
    at_word (λ a. stream_shown shape g a ≡ bit_and word a.covered) a 0 e
    (rw (shown-value a (stream_row g.run StreamReset) (g.stream_reset) word h0, shown-value a (stream_row g.run Run) (g.run) word h1, shown-value a (stream_row g.run CompletionInterrupt) (g.completion_interrupt) word h2, shown-value a (stream_row g.run FifoInterrupt) (g.fifo_interrupt) word h3, shown-value a (stream_row g.run DescriptorInterrupt) (g.descriptor_interrupt) word h4, shown-value a (stream_row g.run Tag) (g.tag) word h5, shown-value a (stream_row g.run Completion) (g.completion) word h6, shown-value a (stream_row g.run FifoError) (g.fifo_error) word h7, shown-value a (stream_row g.run DescriptorError) (g.descriptor_error) word h8, shown-value a (stream_row g.run FifoReady) (g.fifo_ready) word h9) (all_parts ((0, 1) ∷ (1, 1) ∷ (2, 1) ∷ (3, 1) ∷ (4, 1) ∷ (20, 4) ∷ (26, 1) ∷ (27, 1) ∷ (28, 1) ∷ (29, 1) ∷ []) word a.covered refl ∙ named_parts word a.covered 0x3CF0001F named))

pub stream_word_1 : (shape : Shape) (g : Descriptor) (a : Access) → a.word ≡ 1 → (word : ℕ) → g.link_position ≡ part 0 32 word
    → bit_and word 0xFFFFFFFF ≡ word → stream_shown shape g a ≡ bit_and word a.covered
unfolding stream_shown stream_groups_in
stream_word_1 shape g a e word h0 named =
    at_word (λ a. stream_shown shape g a ≡ bit_and word a.covered) a 1 e
    (rw (shown-value a (stream_row g.run Position) (g.link_position) word h0) (all_parts ((0, 32) ∷ []) word a.covered refl ∙ named_parts word a.covered 0xFFFFFFFF named))

pub stream_word_2 : (shape : Shape) (g : Descriptor) (a : Access) → a.word ≡ 2 → (word : ℕ) → g.buffer_length ≡ part 0 32 word
    → bit_and word 0xFFFFFFFF ≡ word → stream_shown shape g a ≡ bit_and word a.covered
unfolding stream_shown stream_groups_in
stream_word_2 shape g a e word h0 named =
    at_word (λ a. stream_shown shape g a ≡ bit_and word a.covered) a 2 e
    (rw (shown-value a (stream_row g.run Length) (g.buffer_length) word h0) (all_parts ((0, 32) ∷ []) word a.covered refl ∙ named_parts word a.covered 0xFFFFFFFF named))

pub stream_word_3 : (shape : Shape) (g : Descriptor) (a : Access) → a.word ≡ 3 → (word : ℕ) → g.last_index ≡ part 0 8 word
    → bit_and word 0xFF ≡ word → stream_shown shape g a ≡ bit_and word a.covered
unfolding stream_shown stream_groups_in
stream_word_3 shape g a e word h0 named =
    at_word (λ a. stream_shown shape g a ≡ bit_and word a.covered) a 3 e
    (rw (shown-value a (stream_row g.run LastIndex) (g.last_index) word h0) (all_parts ((0, 8) ∷ []) word a.covered refl ∙ named_parts word a.covered 0xFF named))

pub stream_word_4 : (shape : Shape) (g : Descriptor) (a : Access) → a.word ≡ 4 → (word : ℕ) → shape.fifo ≡ part 0 16 word → g.format ≡ part 16 16 word
    → bit_and word 0xFFFFFFFF ≡ word → stream_shown shape g a ≡ bit_and word a.covered
unfolding stream_shown stream_groups_in
stream_word_4 shape g a e word h0 h1 named =
    at_word (λ a. stream_shown shape g a ≡ bit_and word a.covered) a 4 e
    (rw (shown-value a (stream_row g.run FifoSize) (shape.fifo) word h0, shown-value a (stream_row g.run Format) (g.format) word h1) (all_parts ((0, 16) ∷ (16, 16) ∷ []) word a.covered refl ∙ named_parts word a.covered 0xFFFFFFFF named))

pub stream_word_6 : (shape : Shape) (g : Descriptor) (a : Access) → a.word ≡ 6 → (word : ℕ) → g.list_base ≡ part 7 25 word
    → bit_and word 0xFFFFFF80 ≡ word → stream_shown shape g a ≡ bit_and word a.covered
unfolding stream_shown stream_groups_in
stream_word_6 shape g a e word h0 named =
    at_word (λ a. stream_shown shape g a ≡ bit_and word a.covered) a 6 e
    (rw (shown-value a (stream_row g.run ListBase) (g.list_base) word h0) (all_parts ((7, 25) ∷ []) word a.covered refl ∙ named_parts word a.covered 0xFFFFFF80 named))

stream-elsewhere : (word : ℕ) → word ≢ 0 → word ≢ 1 → word ≢ 2 → word ≢ 3 → word ≢ 4 → word ≢ 6
    → (group : StreamGroup) → ((stream_row 0 group).place / 4 == word) ≡ false
stream-elsewhere word n0 n1 n2 n3 n4 n6 StreamReset = other 0 word n0
stream-elsewhere word n0 n1 n2 n3 n4 n6 Run = other 0 word n0
stream-elsewhere word n0 n1 n2 n3 n4 n6 CompletionInterrupt = other 0 word n0
stream-elsewhere word n0 n1 n2 n3 n4 n6 FifoInterrupt = other 0 word n0
stream-elsewhere word n0 n1 n2 n3 n4 n6 DescriptorInterrupt = other 0 word n0
stream-elsewhere word n0 n1 n2 n3 n4 n6 Tag = other 0 word n0
stream-elsewhere word n0 n1 n2 n3 n4 n6 Completion = other 0 word n0
stream-elsewhere word n0 n1 n2 n3 n4 n6 FifoError = other 0 word n0
stream-elsewhere word n0 n1 n2 n3 n4 n6 DescriptorError = other 0 word n0
stream-elsewhere word n0 n1 n2 n3 n4 n6 FifoReady = other 0 word n0
stream-elsewhere word n0 n1 n2 n3 n4 n6 Position = other 1 word n1
stream-elsewhere word n0 n1 n2 n3 n4 n6 Length = other 2 word n2
stream-elsewhere word n0 n1 n2 n3 n4 n6 LastIndex = other 3 word n3
stream-elsewhere word n0 n1 n2 n3 n4 n6 FifoSize = other 4 word n4
stream-elsewhere word n0 n1 n2 n3 n4 n6 Format = other 4 word n4
stream-elsewhere word n0 n1 n2 n3 n4 n6 ListBase = other 6 word n6

stream-no_groups : (word : ℕ) → word ≢ 0 → word ≢ 1 → word ≢ 2 → word ≢ 3 → word ≢ 4 → word ≢ 6 → stream_groups_in word ≡ []
unfolding stream_groups_in
stream-no_groups word n0 n1 n2 n3 n4 n6 =
    none_pass (λ (group : StreamGroup). (stream_row 0 group).place / 4 == word) (stream-elsewhere word n0 n1 n2 n3 n4 n6) stream_groups

pub stream_word_other : (shape : Shape) (g : Descriptor) (a : Access)
    → a.word ≢ 0 → a.word ≢ 1 → a.word ≢ 2 → a.word ≢ 3 → a.word ≢ 4 → a.word ≢ 6
    → stream_shown shape g a ≡ bit_and 0 a.covered
unfolding stream_shown
stream_word_other shape g a n0 n1 n2 n3 n4 n6 =
    rw (stream-no_groups a.word n0 n1 n2 n3 n4 n6) (nothing a.covered)
