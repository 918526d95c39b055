-- What a read of a word of the controller sees, from the word as it stands there.
use Rattle.std.proofs.Common.{◌≡◌, ◌≢◌, ℕ, false, ◌==◌, ◌/◌, [], ◌∷◌, refl, ◌∙◌}
use Rattle.std.specs.Prelude.{bit_and}
use Rattle.hda_registers.specs.declared.accesses.Access.{Access}
use Rattle.hda_registers.specs.declared.shapes.Shape.{Shape}
use Rattle.hda_registers.specs.Fields.{Global}
use Rattle.hda_registers.specs.Table.{GlobalGroup, Capabilities, MinorVersion, MajorVersion, OutputPayload, InputPayload, ControllerReset, Unsolicited, WakeEnable, StateStatus, InputInterrupt, OutputInterrupt, ControllerInterrupt, GlobalInterrupt, InterruptStatus, WallClock, CorbBase, CorbWritePointer, CorbReadPointer, CorbPointerReset, CorbErrorInterrupt, CorbRun, CorbSize, RirbBase, RirbWritePointer, ResponseCount, ResponseInterrupt, RirbRun, RirbOverrunInterrupt, ResponseFlag, RirbSize, global_row, size_code}
use Rattle.hda_registers.specs.Access.{part, global_shown, global_groups_in, global_groups}
use Rattle.hda_registers.proofs.Groups.{at_word, other}
use Rattle.hda_registers.proofs.Reading.{shown-value, all_parts, named_parts, nothing, none_pass}

pub global_word_0 : (shape : Shape) (g : Global) (status : ℕ) (a : Access) → a.word ≡ 0 → (word : ℕ) → 0x1100 ≡ part 0 16 word → 0 ≡ part 16 8 word → 1 ≡ part 24 8 word
    → bit_and word 0xFFFFFFFF ≡ word → global_shown shape g status a ≡ bit_and word a.covered
unfolding global_shown global_groups_in
global_word_0 shape g status a e word h0 h1 h2 named =
    at_word (λ a. global_shown shape g status a ≡ bit_and word a.covered) a 0 e
    (rw (shown-value a (global_row shape Capabilities) 0x1100 word h0, shown-value a (global_row shape MinorVersion) 0 word h1, shown-value a (global_row shape MajorVersion) 1 word h2) (all_parts ((0, 16) ∷ (16, 8) ∷ (24, 8) ∷ []) word a.covered refl ∙ named_parts word a.covered 0xFFFFFFFF named))

pub global_word_1 : (shape : Shape) (g : Global) (status : ℕ) (a : Access) → a.word ≡ 1 → (word : ℕ) → 0x3C ≡ part 0 16 word → 0x1D ≡ part 16 16 word
    → bit_and word 0xFFFFFFFF ≡ word → global_shown shape g status a ≡ bit_and word a.covered
unfolding global_shown global_groups_in
global_word_1 shape g status a e word h0 h1 named =
    at_word (λ a. global_shown shape g status a ≡ bit_and word a.covered) a 1 e
    (rw (shown-value a (global_row shape OutputPayload) 0x3C word h0, shown-value a (global_row shape InputPayload) 0x1D word h1) (all_parts ((0, 16) ∷ (16, 16) ∷ []) word a.covered refl ∙ named_parts word a.covered 0xFFFFFFFF named))

pub global_word_2 : (shape : Shape) (g : Global) (status : ℕ) (a : Access) → a.word ≡ 2 → (word : ℕ) → g.controller_reset ≡ part 0 1 word → g.unsolicited ≡ part 8 1 word
    → bit_and word 0x101 ≡ word → global_shown shape g status a ≡ bit_and word a.covered
unfolding global_shown global_groups_in
global_word_2 shape g status a e word h0 h1 named =
    at_word (λ a. global_shown shape g status a ≡ bit_and word a.covered) a 2 e
    (rw (shown-value a (global_row shape ControllerReset) (g.controller_reset) word h0, shown-value a (global_row shape Unsolicited) (g.unsolicited) word h1) (all_parts ((0, 1) ∷ (8, 1) ∷ []) word a.covered refl ∙ named_parts word a.covered 0x101 named))

pub global_word_3 : (shape : Shape) (g : Global) (status : ℕ) (a : Access) → a.word ≡ 3 → (word : ℕ) → g.wake_enable ≡ part 0 15 word → g.state_status ≡ part 16 15 word
    → bit_and word 0x7FFF7FFF ≡ word → global_shown shape g status a ≡ bit_and word a.covered
unfolding global_shown global_groups_in
global_word_3 shape g status a e word h0 h1 named =
    at_word (λ a. global_shown shape g status a ≡ bit_and word a.covered) a 3 e
    (rw (shown-value a (global_row shape WakeEnable) (g.wake_enable) word h0, shown-value a (global_row shape StateStatus) (g.state_status) word h1) (all_parts ((0, 15) ∷ (16, 15) ∷ []) word a.covered refl ∙ named_parts word a.covered 0x7FFF7FFF named))

pub global_word_8 : (shape : Shape) (g : Global) (status : ℕ) (a : Access) → a.word ≡ 8 → (word : ℕ) → g.input_interrupt ≡ part 0 1 word → g.output_interrupt ≡ part 1 1 word → g.controller_interrupt ≡ part 30 1 word → g.global_interrupt ≡ part 31 1 word
    → bit_and word 0xC0000003 ≡ word → global_shown shape g status a ≡ bit_and word a.covered
unfolding global_shown global_groups_in
global_word_8 shape g status a e word h0 h1 h2 h3 named =
    at_word (λ a. global_shown shape g status a ≡ bit_and word a.covered) a 8 e
    (rw (shown-value a (global_row shape InputInterrupt) (g.input_interrupt) word h0, shown-value a (global_row shape OutputInterrupt) (g.output_interrupt) word h1, shown-value a (global_row shape ControllerInterrupt) (g.controller_interrupt) word h2, shown-value a (global_row shape GlobalInterrupt) (g.global_interrupt) word h3) (all_parts ((0, 1) ∷ (1, 1) ∷ (30, 1) ∷ (31, 1) ∷ []) word a.covered refl ∙ named_parts word a.covered 0xC0000003 named))

pub global_word_9 : (shape : Shape) (g : Global) (status : ℕ) (a : Access) → a.word ≡ 9 → (word : ℕ) → status ≡ part 0 32 word
    → bit_and word 0xFFFFFFFF ≡ word → global_shown shape g status a ≡ bit_and word a.covered
unfolding global_shown global_groups_in
global_word_9 shape g status a e word h0 named =
    at_word (λ a. global_shown shape g status a ≡ bit_and word a.covered) a 9 e
    (rw (shown-value a (global_row shape InterruptStatus) status word h0) (all_parts ((0, 32) ∷ []) word a.covered refl ∙ named_parts word a.covered 0xFFFFFFFF named))

pub global_word_12 : (shape : Shape) (g : Global) (status : ℕ) (a : Access) → a.word ≡ 12 → (word : ℕ) → g.wall_clock ≡ part 0 32 word
    → bit_and word 0xFFFFFFFF ≡ word → global_shown shape g status a ≡ bit_and word a.covered
unfolding global_shown global_groups_in
global_word_12 shape g status a e word h0 named =
    at_word (λ a. global_shown shape g status a ≡ bit_and word a.covered) a 12 e
    (rw (shown-value a (global_row shape WallClock) (g.wall_clock) word h0) (all_parts ((0, 32) ∷ []) word a.covered refl ∙ named_parts word a.covered 0xFFFFFFFF named))

pub global_word_16 : (shape : Shape) (g : Global) (status : ℕ) (a : Access) → a.word ≡ 16 → (word : ℕ) → g.corb_base ≡ part 7 25 word
    → bit_and word 0xFFFFFF80 ≡ word → global_shown shape g status a ≡ bit_and word a.covered
unfolding global_shown global_groups_in
global_word_16 shape g status a e word h0 named =
    at_word (λ a. global_shown shape g status a ≡ bit_and word a.covered) a 16 e
    (rw (shown-value a (global_row shape CorbBase) (g.corb_base) word h0) (all_parts ((7, 25) ∷ []) word a.covered refl ∙ named_parts word a.covered 0xFFFFFF80 named))

pub global_word_18 : (shape : Shape) (g : Global) (status : ℕ) (a : Access) → a.word ≡ 18 → (word : ℕ) → g.corb_write_pointer ≡ part 0 8 word → g.corb_read_pointer ≡ part 16 8 word → g.corb_pointer_reset ≡ part 31 1 word
    → bit_and word 0x80FF00FF ≡ word → global_shown shape g status a ≡ bit_and word a.covered
unfolding global_shown global_groups_in
global_word_18 shape g status a e word h0 h1 h2 named =
    at_word (λ a. global_shown shape g status a ≡ bit_and word a.covered) a 18 e
    (rw (shown-value a (global_row shape CorbWritePointer) (g.corb_write_pointer) word h0, shown-value a (global_row shape CorbReadPointer) (g.corb_read_pointer) word h1, shown-value a (global_row shape CorbPointerReset) (g.corb_pointer_reset) word h2) (all_parts ((0, 8) ∷ (16, 8) ∷ (31, 1) ∷ []) word a.covered refl ∙ named_parts word a.covered 0x80FF00FF named))

pub global_word_19 : (shape : Shape) (g : Global) (status : ℕ) (a : Access) → a.word ≡ 19 → (word : ℕ) → g.corb_error_interrupt ≡ part 0 1 word → g.corb_run ≡ part 1 1 word → size_code shape.corb ≡ part 16 8 word
    → bit_and word 0xFF0003 ≡ word → global_shown shape g status a ≡ bit_and word a.covered
unfolding global_shown global_groups_in
global_word_19 shape g status a e word h0 h1 h2 named =
    at_word (λ a. global_shown shape g status a ≡ bit_and word a.covered) a 19 e
    (rw (shown-value a (global_row shape CorbErrorInterrupt) (g.corb_error_interrupt) word h0, shown-value a (global_row shape CorbRun) (g.corb_run) word h1, shown-value a (global_row shape CorbSize) (size_code shape.corb) word h2) (all_parts ((0, 1) ∷ (1, 1) ∷ (16, 8) ∷ []) word a.covered refl ∙ named_parts word a.covered 0xFF0003 named))

pub global_word_20 : (shape : Shape) (g : Global) (status : ℕ) (a : Access) → a.word ≡ 20 → (word : ℕ) → g.rirb_base ≡ part 7 25 word
    → bit_and word 0xFFFFFF80 ≡ word → global_shown shape g status a ≡ bit_and word a.covered
unfolding global_shown global_groups_in
global_word_20 shape g status a e word h0 named =
    at_word (λ a. global_shown shape g status a ≡ bit_and word a.covered) a 20 e
    (rw (shown-value a (global_row shape RirbBase) (g.rirb_base) word h0) (all_parts ((7, 25) ∷ []) word a.covered refl ∙ named_parts word a.covered 0xFFFFFF80 named))

pub global_word_22 : (shape : Shape) (g : Global) (status : ℕ) (a : Access) → a.word ≡ 22 → (word : ℕ) → g.rirb_write_pointer ≡ part 0 8 word → g.response_count ≡ part 16 8 word
    → bit_and word 0xFF00FF ≡ word → global_shown shape g status a ≡ bit_and word a.covered
unfolding global_shown global_groups_in
global_word_22 shape g status a e word h0 h1 named =
    at_word (λ a. global_shown shape g status a ≡ bit_and word a.covered) a 22 e
    (rw (shown-value a (global_row shape RirbWritePointer) (g.rirb_write_pointer) word h0, shown-value a (global_row shape ResponseCount) (g.response_count) word h1) (all_parts ((0, 8) ∷ (16, 8) ∷ []) word a.covered refl ∙ named_parts word a.covered 0xFF00FF named))

pub global_word_23 : (shape : Shape) (g : Global) (status : ℕ) (a : Access) → a.word ≡ 23 → (word : ℕ) → g.response_interrupt ≡ part 0 1 word → g.rirb_run ≡ part 1 1 word → g.rirb_overrun_interrupt ≡ part 2 1 word → g.response_flag ≡ part 8 1 word → size_code shape.rirb ≡ part 16 8 word
    → bit_and word 0xFF0107 ≡ word → global_shown shape g status a ≡ bit_and word a.covered
unfolding global_shown global_groups_in
global_word_23 shape g status a e word h0 h1 h2 h3 h4 named =
    at_word (λ a. global_shown shape g status a ≡ bit_and word a.covered) a 23 e
    (rw (shown-value a (global_row shape ResponseInterrupt) (g.response_interrupt) word h0, shown-value a (global_row shape RirbRun) (g.rirb_run) word h1, shown-value a (global_row shape RirbOverrunInterrupt) (g.rirb_overrun_interrupt) word h2, shown-value a (global_row shape ResponseFlag) (g.response_flag) word h3, shown-value a (global_row shape RirbSize) (size_code shape.rirb) word h4) (all_parts ((0, 1) ∷ (1, 1) ∷ (2, 1) ∷ (8, 1) ∷ (16, 8) ∷ []) word a.covered refl ∙ named_parts word a.covered 0xFF0107 named))

global-elsewhere : (shape : Shape) (word : ℕ) → word ≢ 0 → word ≢ 1 → word ≢ 2 → word ≢ 3 → word ≢ 8 → word ≢ 9 → word ≢ 12 → word ≢ 16 → word ≢ 18 → word ≢ 19 → word ≢ 20 → word ≢ 22 → word ≢ 23
    → (group : GlobalGroup) → ((global_row shape group).place / 4 == word) ≡ false
global-elsewhere shape word n0 n1 n2 n3 n8 n9 n12 n16 n18 n19 n20 n22 n23 Capabilities = other 0 word n0
global-elsewhere shape word n0 n1 n2 n3 n8 n9 n12 n16 n18 n19 n20 n22 n23 MinorVersion = other 0 word n0
global-elsewhere shape word n0 n1 n2 n3 n8 n9 n12 n16 n18 n19 n20 n22 n23 MajorVersion = other 0 word n0
global-elsewhere shape word n0 n1 n2 n3 n8 n9 n12 n16 n18 n19 n20 n22 n23 OutputPayload = other 1 word n1
global-elsewhere shape word n0 n1 n2 n3 n8 n9 n12 n16 n18 n19 n20 n22 n23 InputPayload = other 1 word n1
global-elsewhere shape word n0 n1 n2 n3 n8 n9 n12 n16 n18 n19 n20 n22 n23 ControllerReset = other 2 word n2
global-elsewhere shape word n0 n1 n2 n3 n8 n9 n12 n16 n18 n19 n20 n22 n23 Unsolicited = other 2 word n2
global-elsewhere shape word n0 n1 n2 n3 n8 n9 n12 n16 n18 n19 n20 n22 n23 WakeEnable = other 3 word n3
global-elsewhere shape word n0 n1 n2 n3 n8 n9 n12 n16 n18 n19 n20 n22 n23 StateStatus = other 3 word n3
global-elsewhere shape word n0 n1 n2 n3 n8 n9 n12 n16 n18 n19 n20 n22 n23 InputInterrupt = other 8 word n8
global-elsewhere shape word n0 n1 n2 n3 n8 n9 n12 n16 n18 n19 n20 n22 n23 OutputInterrupt = other 8 word n8
global-elsewhere shape word n0 n1 n2 n3 n8 n9 n12 n16 n18 n19 n20 n22 n23 ControllerInterrupt = other 8 word n8
global-elsewhere shape word n0 n1 n2 n3 n8 n9 n12 n16 n18 n19 n20 n22 n23 GlobalInterrupt = other 8 word n8
global-elsewhere shape word n0 n1 n2 n3 n8 n9 n12 n16 n18 n19 n20 n22 n23 InterruptStatus = other 9 word n9
global-elsewhere shape word n0 n1 n2 n3 n8 n9 n12 n16 n18 n19 n20 n22 n23 WallClock = other 12 word n12
global-elsewhere shape word n0 n1 n2 n3 n8 n9 n12 n16 n18 n19 n20 n22 n23 CorbBase = other 16 word n16
global-elsewhere shape word n0 n1 n2 n3 n8 n9 n12 n16 n18 n19 n20 n22 n23 CorbWritePointer = other 18 word n18
global-elsewhere shape word n0 n1 n2 n3 n8 n9 n12 n16 n18 n19 n20 n22 n23 CorbReadPointer = other 18 word n18
global-elsewhere shape word n0 n1 n2 n3 n8 n9 n12 n16 n18 n19 n20 n22 n23 CorbPointerReset = other 18 word n18
global-elsewhere shape word n0 n1 n2 n3 n8 n9 n12 n16 n18 n19 n20 n22 n23 CorbErrorInterrupt = other 19 word n19
global-elsewhere shape word n0 n1 n2 n3 n8 n9 n12 n16 n18 n19 n20 n22 n23 CorbRun = other 19 word n19
global-elsewhere shape word n0 n1 n2 n3 n8 n9 n12 n16 n18 n19 n20 n22 n23 CorbSize = other 19 word n19
global-elsewhere shape word n0 n1 n2 n3 n8 n9 n12 n16 n18 n19 n20 n22 n23 RirbBase = other 20 word n20
global-elsewhere shape word n0 n1 n2 n3 n8 n9 n12 n16 n18 n19 n20 n22 n23 RirbWritePointer = other 22 word n22
global-elsewhere shape word n0 n1 n2 n3 n8 n9 n12 n16 n18 n19 n20 n22 n23 ResponseCount = other 22 word n22
global-elsewhere shape word n0 n1 n2 n3 n8 n9 n12 n16 n18 n19 n20 n22 n23 ResponseInterrupt = other 23 word n23
global-elsewhere shape word n0 n1 n2 n3 n8 n9 n12 n16 n18 n19 n20 n22 n23 RirbRun = other 23 word n23
global-elsewhere shape word n0 n1 n2 n3 n8 n9 n12 n16 n18 n19 n20 n22 n23 RirbOverrunInterrupt = other 23 word n23
global-elsewhere shape word n0 n1 n2 n3 n8 n9 n12 n16 n18 n19 n20 n22 n23 ResponseFlag = other 23 word n23
global-elsewhere shape word n0 n1 n2 n3 n8 n9 n12 n16 n18 n19 n20 n22 n23 RirbSize = other 23 word n23

global-no_groups : (shape : Shape) (word : ℕ) → word ≢ 0 → word ≢ 1 → word ≢ 2 → word ≢ 3 → word ≢ 8 → word ≢ 9 → word ≢ 12 → word ≢ 16 → word ≢ 18 → word ≢ 19 → word ≢ 20 → word ≢ 22 → word ≢ 23 → global_groups_in shape word ≡ []
unfolding global_groups_in
global-no_groups shape word n0 n1 n2 n3 n8 n9 n12 n16 n18 n19 n20 n22 n23 =
    none_pass (λ (group : GlobalGroup). (global_row shape group).place / 4 == word) (global-elsewhere shape word n0 n1 n2 n3 n8 n9 n12 n16 n18 n19 n20 n22 n23) global_groups

pub global_word_other : (shape : Shape) (g : Global) (status : ℕ) (a : Access)
    → a.word ≢ 0 → a.word ≢ 1 → a.word ≢ 2 → a.word ≢ 3 → a.word ≢ 8 → a.word ≢ 9 → a.word ≢ 12 → a.word ≢ 16 → a.word ≢ 18 → a.word ≢ 19 → a.word ≢ 20 → a.word ≢ 22 → a.word ≢ 23
    → global_shown shape g status a ≡ bit_and 0 a.covered
unfolding global_shown
global_word_other shape g status a n0 n1 n2 n3 n8 n9 n12 n16 n18 n19 n20 n22 n23 =
    rw (global-no_groups shape a.word n0 n1 n2 n3 n8 n9 n12 n16 n18 n19 n20 n22 n23) (nothing a.covered)
