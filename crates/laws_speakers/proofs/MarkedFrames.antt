-- Along link frames the signal of a pin goes by its marks.
use Rattle.std.proofs.Common.{◌≡◌, ◌≤◌, ◌<◌, ◌+◌, ◌==◌, ◌&&◌, ◌⊎◌, inl, inr, not, ℕ, zero, suc, Bool, true, false, List, [], ◌∷◌, ◌++◌, length, take, drop, get_or, Option, None, Some, refl, sym, ap, ap₂, subst, ◌∙◌, arith, length-append, take-append-drop, if◌then◌else◌}
use Rattle.std.specs.Prelude.{All, fold, nat_le, slice_get, filter}
use Rattle.std.proofs.lemmas.Bool.{eqb-true, leb-true, leb-false, le-leb, true≢false}
use Rattle.std.proofs.lemmas.Bool.Decides.{nat_tests}
use Rattle.std.proofs.lemmas.Grind.{flat_map-append, fold-append}
use Rattle.std.proofs.lemmas.List.Elements.{All-cons, All-head, All-nil, All-tail, filter-append}
use Rattle.std.proofs.lemmas.Option.{slice_get_within, slice_get-get_or, get_or_from_slice_get}
use Rattle.verb_codes.specs.declared.verbs.Verb.{Verb}
use Rattle.verb_codes.specs.Verbs.{reading_of}
use Rattle.verb_codes.specs.Words.{has_bit}
use Rattle.codec_graph.specs.declared.raw.RawCodec.{RawCodec}
use Rattle.codec_graph.specs.declared.pin_kind.PinKind.{PinKind}
use Rattle.codec_graph.specs.Cycles.{IsWellFormed}
use Rattle.codec_graph.specs.Settings.{Entries, IsSettingsOf}
use Rattle.codec_graph.specs.CodecStates.{CodecState}
use Rattle.stream_format.specs.Layouts.{Layout, layout_of}
use Rattle.hda_world.specs.Worlds.{World, TakenCommand, CarriedFrame, codec_at}
use Rattle.hda_world.specs.Steps.{address_of}
use Rattle.hda_world.proofs.Callers.{found_address}
use Rattle.codec_sound.specs.declared.signals.Signal.{Signal}
use Rattle.codec_sound.specs.declared.signals.Signal.TheVariants.{Silence, Pair}
use Rattle.codec_sound.specs.Signals.{signal_as}
use Rattle.heard_frames.specs.declared.heard.Heard.{Heard}
use Rattle.heard_frames.specs.declared.mark.Mark.{Mark}
use Rattle.heard_frames.specs.HeardLists.{signal_with_as, signal_in_as, frame_items_as, heard_as}
use Rattle.heard_frames.specs.Marks.{is_hole, without_holes, control_in, control_for, marks_put, heard_before, command_marks, marks_of_as, is_on_at, switched_signals}
use Rattle.laws_settings.specs.Histories.{words_of, words_to, settings_since, FoundTaken, WereTaken, Remembers}
use Rattle.laws_settings.specs.Frames.{taken_before, RemembersFrames}
use Rattle.laws_settings.specs.PinControls.{later_of, last_control}
use Rattle.laws_settings.proofs.Callers.{found_taken, reading_names}
use Rattle.laws_hearing.specs.BySignals.{IsSignalAlong}
use Rattle.laws_hearing.specs.Streams.{IsStreamFrame, Streams}
use Rattle.laws_speakers.specs.Pins.{is_on}
use Rattle.laws_speakers.specs.SwitchWords.{IsSwitchWord, AreSwitching}
use Rattle.laws_speakers.proofs.SwitchedPins.{puts_some, pair_hears, others_hear}

-- ---- the state of a pin by marks

abbrev pub stepped : ℕ → Bool → Mark → Bool
stepped place was mark = if nat_le mark.at place then mark.on else was

-- by a number that was put, or none
abbrev pub on_by : Option ℕ → Bool → Bool
on_by None was = was
on_by (Some value) was = has_bit value 6

on_both : (first later : Option ℕ) (was : Bool) → on_by (later_of first later) was ≡ on_by later (on_by first was)
on_both first None was = refl
on_both first (Some value) was = refl

pub on_from_true : (last : Option ℕ) → on_by last true ≡ is_on last
on_from_true None = refl
on_from_true (Some value) = refl

-- ---- how many items were heard before a link frame

module _ (kind : PinKind) (address pin : ℕ) where
  before_next : (frame : CarriedFrame) (frames : List CarriedFrame) (count : ℕ)
      → heard_before kind address pin (frame ∷ frames) (suc count) ≡ length (without_holes (frame_items_as kind address pin frame)) + heard_before kind address pin frames count
  before_next frame frames count =
      ap length (filter-append (λ (item : Heard). not (is_hole item)) (frame_items_as kind address pin frame) (heard_as kind address pin (take count frames)))
      ∙ length-append (without_holes (frame_items_as kind address pin frame)) (without_holes (heard_as kind address pin (take count frames)))

  before_more : (frames : List CarriedFrame) (few many : ℕ) → few ≤ many → heard_before kind address pin frames few ≤ heard_before kind address pin frames many
  before_more frames zero many le = omega arith
  before_more [] (suc few) zero le = absurd (omega (arith, le))
  before_more [] (suc few) (suc many) le = omega arith
  before_more (frame ∷ frames) (suc few) zero le = absurd (omega (arith, le))
  before_more (frame ∷ frames) (suc few) (suc many) le =
      let rest = before_more frames few many (omega (arith, le)) in
      let one = before_next frame frames few in
      let other = before_next frame frames many in
      omega (arith, rest, one, other)

  -- ---- the marks, against the last word before a link frame

  module _ (frames : List CarriedFrame) (count place : ℕ) (low : heard_before kind address pin frames count ≤ place) (high : place < heard_before kind address pin frames (count + 1)) where
    -- a mark stands at or below the item exactly where its command was taken before the frame
    mark_by : (put : Option ℕ) (carried : ℕ) (was : Bool) (before : Bool) → nat_le carried count ≡ before
        → fold (stepped place) was (marks_put (heard_before kind address pin frames carried) put) ≡ on_by (if before then put else None) was
    mark_by None carried was true is = refl
    mark_by None carried was false is = refl
    mark_by (Some value) carried was true is =
        let within : carried ≤ count = leb-true carried count is in
        let few = before_more frames carried count within in
        let test : nat_le (heard_before kind address pin frames carried) place ≡ true = le-leb _ _ (omega (arith, few, low)) in
        rw test refl
    mark_by (Some value) carried was false is =
        let past : count < carried = leb-false carried count is in
        let many = before_more frames (count + 1) carried (omega (arith, past)) in
        let test : nat_le (heard_before kind address pin frames carried) place ≡ false = grind (arith, nat_tests) in
        rw test refl

    abbrev Fits : TakenCommand → Type 0
    Fits one = (one.running ≡ true) ⊎ (length frames ≤ one.carried)

    -- what one command does to the words that went to the codec before the frame
    abbrev put_before : TakenCommand → (here before : Bool) → Option ℕ
    put_before one here before = if before then (if here then control_for pin (reading_of one.word) else None) else None

    words_more : (one : TakenCommand) (commands : List TakenCommand) (here before : Bool) → (one.codec.graph.address == address) ≡ here → nat_le one.carried count ≡ before
        → last_control pin (words_to address (taken_before count (one ∷ commands))) ≡ later_of (put_before one here before) (last_control pin (words_to address (taken_before count commands)))
    words_more one commands true true at is = rw (is, at) refl
    words_more one commands false true at is = rw (is, at) (none_first (last_control pin (words_to address (taken_before count commands)))) where
      none_first : (later : Option ℕ) → later ≡ later_of None later
      none_first None = refl
      none_first (Some value) = refl
    words_more one commands here false at is = rw is (none_first (last_control pin (words_to address (taken_before count commands)))) where
      none_first : (later : Option ℕ) → later ≡ later_of None later
      none_first None = refl
      none_first (Some value) = refl

    one_marks : (one : TakenCommand) (was runs here before : Bool) → one.running ≡ runs → (one.codec.graph.address == address) ≡ here → nat_le one.carried count ≡ before → Fits one → count < length frames
        → fold (stepped place) was (command_marks kind address pin frames one) ≡ on_by (put_before one here before) was
    one_marks one was true true before runs at is fits within =
        ap (λ (b : Bool). fold (stepped place) was (if b && one.codec.graph.address == address then marks_put (heard_before kind address pin frames one.carried) (control_for pin (reading_of one.word)) else [])) runs
        ∙ ap (λ (b : Bool). fold (stepped place) was (if b then marks_put (heard_before kind address pin frames one.carried) (control_for pin (reading_of one.word)) else [])) at
        ∙ mark_by (control_for pin (reading_of one.word)) one.carried was before is
    one_marks one was true false before runs at is fits within =
        ap (λ (b : Bool). fold (stepped place) was (if b && one.codec.graph.address == address then marks_put (heard_before kind address pin frames one.carried) (control_for pin (reading_of one.word)) else [])) runs
        ∙ ap (λ (b : Bool). fold (stepped place) was (if b then marks_put (heard_before kind address pin frames one.carried) (control_for pin (reading_of one.word)) else [])) at
        ∙ unput before
      where
        unput : (before : Bool) → was ≡ on_by (put_before one false before) was
        unput true = refl
        unput false = refl
    one_marks one was false here false runs at is fits within =
        ap (λ (b : Bool). fold (stepped place) was (if b && one.codec.graph.address == address then marks_put (heard_before kind address pin frames one.carried) (control_for pin (reading_of one.word)) else [])) runs
    one_marks one was false here true runs at is fits within = absurd (late fits)
      where
        late : (one.running ≡ true) ⊎ (length frames ≤ one.carried) → ⊥
        late (inl on) = true≢false (sym on ∙ runs)
        late (inr past) = let before : one.carried ≤ count = leb-true one.carried count is in omega (arith, past, before, within)

    marks_state : (commands : List TakenCommand) (was : Bool) → All Fits commands → count < length frames
        → fold (stepped place) was (marks_of_as kind address pin commands frames) ≡ on_by (last_control pin (words_to address (taken_before count commands))) was
    marks_state [] was all within = refl
    marks_state (one ∷ commands) was all within =
        let here = one.codec.graph.address == address in
        let before = nat_le one.carried count in
        let rest = last_control pin (words_to address (taken_before count commands)) in
        fold-append (stepped place) was (command_marks kind address pin frames one) (marks_of_as kind address pin commands frames)
        ∙ ap (λ (b : Bool). fold (stepped place) b (marks_of_as kind address pin commands frames))
        (one_marks one was one.running (one.codec.graph.address == address) (nat_le one.carried count) refl refl refl (All-head Fits one commands all) within)
        ∙ marks_state commands (on_by (put_before one (one.codec.graph.address == address) (nat_le one.carried count)) was) (All-tail Fits one commands all) within
        ∙ sym (on_both (put_before one (one.codec.graph.address == address) (nat_le one.carried count)) (last_control pin (words_to address (taken_before count commands))) was)
        ∙ ap (λ (o : Option ℕ). on_by o was) (sym (words_more one commands (one.codec.graph.address == address) (nat_le one.carried count) refl refl))

  -- commands that were taken while the stream did not run have no marks
  pub unmarked : (frames : List CarriedFrame) (commands : List TakenCommand) → All (λ (one : TakenCommand). one.running ≡ false) commands → marks_of_as kind address pin commands frames ≡ []
  unmarked frames [] all = refl
  unmarked frames (one ∷ commands) all =
      ap (λ (b : Bool). (if b && one.codec.graph.address == address then marks_put (heard_before kind address pin frames one.carried) (control_for pin (reading_of one.word)) else []) ++ marks_of_as kind address pin commands frames)
      (All-head (λ (one : TakenCommand). one.running ≡ false) one commands all)
      ∙ unmarked frames commands (All-tail (λ (one : TakenCommand). one.running ≡ false) one commands all)

  -- so those of all are those of the later ones
  pub marks_since : (frames : List CarriedFrame) (from : ℕ) (commands : List TakenCommand) → All (λ (one : TakenCommand). one.running ≡ false) (take from commands)
      → marks_of_as kind address pin commands frames ≡ marks_of_as kind address pin (drop from commands) frames
  marks_since frames from commands all =
      ap (λ (c : List TakenCommand). marks_of_as kind address pin c frames) (sym (take-append-drop from commands))
      ∙ flat_map-append (command_marks kind address pin frames) (take from commands) (drop from commands)
      ∙ ap (λ (l : List Mark). l ++ marks_of_as kind address pin (drop from commands) frames) (unmarked frames (take from commands) all)

-- ---- words that went to a codec

-- each command's word names the codec that took it
abbrev pub IsNamed : TakenCommand → Type 0
IsNamed one = one.codec.graph.address ≡ address_of one.word

pub all_named : (start : List CodecState) (commands : List TakenCommand) → WereTaken start commands → All IsNamed commands
all_named start commands were = λ place other within. (were place (get_or commands place other) (slice_get-get_or commands place other within)).named

module _ (is_speaker : ℕ → ℕ → Bool) where
  abbrev Switches : TakenCommand → Type 0
  Switches one = IsSwitchWord is_speaker one.word

  pub each_switches : (commands : List TakenCommand) → All (IsSwitchWord is_speaker) (words_of commands) → All Switches commands
  each_switches [] all = All-nil Switches
  each_switches (one ∷ commands) all =
      All-cons Switches one commands (All-head (IsSwitchWord is_speaker) one.word (words_of commands) all) (each_switches commands (All-tail (IsSwitchWord is_speaker) one.word (words_of commands) all))

  -- those of all are those of the ones before a frame
  pub before_all_have : (P : TakenCommand → Type 0) (count : ℕ) (commands : List TakenCommand) → All P commands → All P (taken_before count commands)
  before_all_have P count [] all = All-nil P
  before_all_have P count (one ∷ commands) all = by (nat_le one.carried count) (before_all_have P count commands (All-tail P one commands all)) where
    by : (before : Bool) → All P (taken_before count commands) → All P (if before then one ∷ taken_before count commands else taken_before count commands)
    by true rest = All-cons P one (taken_before count commands) (All-head P one commands all) rest
    by false rest = rest

  pub words_switch : (address : ℕ) (commands : List TakenCommand) → All Switches commands → All (IsSwitchWord is_speaker) (words_to address commands)
  words_switch address [] all = All-nil (IsSwitchWord is_speaker)
  words_switch address (one ∷ commands) all = by (one.codec.graph.address == address) (words_switch address commands (All-tail Switches one commands all)) where
    by : (here : Bool) → All (IsSwitchWord is_speaker) (words_to address commands)
        → All (IsSwitchWord is_speaker) (words_of (if here then one ∷ filter (λ (one : TakenCommand). one.codec.graph.address == address) commands else filter (λ (one : TakenCommand). one.codec.graph.address == address) commands))
    by true rest = All-cons (IsSwitchWord is_speaker) one.word (words_to address commands) (All-head Switches one commands all) rest
    by false rest = rest

  -- a word to a codec puts nothing for a pin that is no speaker
  module _ (address pin : ℕ) (none : is_speaker address pin ≡ false) where
    not_put : (nid value : ℕ) (codec : ℕ) (here : Bool) → (nid == pin) ≡ here → codec ≡ address → is_speaker codec nid ≡ true → (if here then Some value else None) ≡ None
    not_put nid value codec true is at speaks =
        absurd (true≢false (sym speaks ∙ ap (λ (c : ℕ). is_speaker c nid) at ∙ ap (is_speaker address) (eqb-true nid pin is) ∙ none))
    not_put nid value codec false is at speaks = refl

    word_puts_none : (word : ℕ) → IsSwitchWord is_speaker word → address_of word ≡ address → control_for pin (reading_of word) ≡ None
    word_puts_none word (inl asks) at = asks.none pin
    word_puts_none word (inr sets) at =
        let put = puts_some is_speaker word sets in
        ap (control_for pin) sets.reads
        ∙ ap (λ (v : Verb). if sets.command.nid == pin then control_in v else None) put.1
        ∙ not_put sets.command.nid put.0 sets.command.codec (sets.command.nid == pin) refl (sym (reading_names word sets.command sets.reads) ∙ at) sets.speaker

    none_of : (first later : Option ℕ) → first ≡ None → later ≡ None → later_of first later ≡ None
    none_of first None a b = a
    none_of first (Some value) a b = b

    pub none_last : (commands : List TakenCommand) → All Switches commands → All IsNamed commands → last_control pin (words_to address commands) ≡ None
    none_last [] all named = refl
    none_last (one ∷ commands) all named =
        by (one.codec.graph.address == address) refl (none_last commands (All-tail Switches one commands all) (All-tail IsNamed one commands named)) where
          by : (here : Bool) → (one.codec.graph.address == address) ≡ here → last_control pin (words_to address commands) ≡ None
              → last_control pin (words_of (if here then one ∷ filter (λ (one : TakenCommand). one.codec.graph.address == address) commands else filter (λ (one : TakenCommand). one.codec.graph.address == address) commands)) ≡ None
          by true is rest =
              none_of (control_for pin (reading_of one.word)) (last_control pin (words_to address commands))
              (word_puts_none one.word (All-head Switches one commands all) (sym (All-head IsNamed one commands named) ∙ eqb-true one.codec.graph.address address is)) rest
          by false is rest = rest

    -- the same where it is said of the words that went to the codec
    pub none_in : (commands : List TakenCommand) → All (IsSwitchWord is_speaker) (words_to address commands) → All IsNamed commands → last_control pin (words_to address commands) ≡ None
    none_in [] all named = refl
    none_in (one ∷ commands) all named = by (one.codec.graph.address == address) refl (λ rest. none_in commands rest (All-tail IsNamed one commands named)) all where
      by : (here : Bool) → (one.codec.graph.address == address) ≡ here → (All (IsSwitchWord is_speaker) (words_to address commands) → last_control pin (words_to address commands) ≡ None)
          → All (IsSwitchWord is_speaker) (words_of (if here then one ∷ filter (λ (one : TakenCommand). one.codec.graph.address == address) commands else filter (λ (one : TakenCommand). one.codec.graph.address == address) commands))
          → last_control pin (words_of (if here then one ∷ filter (λ (one : TakenCommand). one.codec.graph.address == address) commands else filter (λ (one : TakenCommand). one.codec.graph.address == address) commands)) ≡ None
      by true is rest all =
          none_of (control_for pin (reading_of one.word)) (last_control pin (words_to address commands))
          (word_puts_none one.word (All-head (IsSwitchWord is_speaker) one.word (words_to address commands) all) (sym (All-head IsNamed one commands named) ∙ eqb-true one.codec.graph.address address is))
          (rest (All-tail (IsSwitchWord is_speaker) one.word (words_to address commands) all))
      by false is rest all = rest all

    pub no_marks : (kind : PinKind) (frames : List CarriedFrame) (commands : List TakenCommand) → All Switches commands → All IsNamed commands → marks_of_as kind address pin commands frames ≡ []
    no_marks kind frames [] all named = refl
    no_marks kind frames (one ∷ commands) all named =
        ap₂ (λ (a b : List Mark). a ++ b) (by one.running (one.codec.graph.address == address) refl) (no_marks kind frames commands (All-tail Switches one commands all) (All-tail IsNamed one commands named)) where
          by : (runs here : Bool) → (one.codec.graph.address == address) ≡ here
              → (if runs && here then marks_put (heard_before kind address pin frames one.carried) (control_for pin (reading_of one.word)) else []) ≡ []
          by true true is =
              ap (marks_put (heard_before kind address pin frames one.carried))
              (word_puts_none one.word (All-head Switches one commands all) (sym (All-head IsNamed one commands named) ∙ eqb-true one.codec.graph.address address is))
          by true false is = refl
          by false here is = refl

-- ---- the signal of a link frame

-- codecs that came of others by commands have the signals of the settings that these make
found_signal : (kind : PinKind) (commands : List TakenCommand) (first : CodecState) (found : Option CodecState) (tag word pin : ℕ) (layout : Layout) → FoundTaken commands (Some first) found
    → signal_with_as kind found tag word (Some layout) pin ≡ signal_as kind first.graph (settings_since commands first) (record { tag = tag; word = word; channels = layout.channels }) pin
found_signal kind commands first None tag word pin layout is = absurd is
found_signal kind commands first (Some now) tag word pin layout is =
    ap₂ (λ (graph : RawCodec) (settings : Entries). signal_as kind graph settings (record { tag = tag; word = word; channels = layout.channels }) pin) is.graph is.settings

no_codec : (kind : PinKind) (commands : List TakenCommand) (found : Option CodecState) (tag word pin : ℕ) (layout : Layout) → FoundTaken commands None found → signal_with_as kind found tag word (Some layout) pin ≡ Silence
no_codec kind commands None tag word pin layout is = refl
no_codec kind commands (Some now) tag word pin layout is = absurd is

stream_signal : (kind : PinKind) (address pin tag word block : ℕ) (layout : Layout) (frame : CarriedFrame) → layout_of word ≡ Some layout → IsStreamFrame tag word block frame
    → signal_in_as kind address pin frame ≡ signal_with_as kind (codec_at address frame.codecs) tag word (Some layout) pin
stream_signal kind address pin tag word block layout frame known is =
    ap (λ (l : Option Layout). signal_with_as kind (codec_at address frame.codecs) frame.tag frame.format l pin) (ap layout_of is.word_is ∙ known)
    ∙ ap (λ (t : ℕ). signal_with_as kind (codec_at address frame.codecs) t frame.format (Some layout) pin) is.tag_is
    ∙ ap (λ (w : ℕ). signal_with_as kind (codec_at address frame.codecs) tag w (Some layout) pin) is.word_is

module _ (is_speaker : ℕ → ℕ → Bool) (kind : PinKind) (start : List CodecState) (from : ℕ) (world : World) (tag word block : ℕ) (layout : Layout) (known : layout_of word ≡ Some layout)
    (is : Remembers start from world) (by : RemembersFrames start from 0 world) (switching : AreSwitching is_speaker from world) (streams : Streams tag word block 0 world) where
  abbrev since : List TakenCommand
  since = drop from world.commands

  switches : All (λ (one : TakenCommand). IsSwitchWord is_speaker one.word) (drop from world.commands)
  switches = each_switches is_speaker (drop from world.commands) switching.words

  named : All IsNamed (drop from world.commands)
  named = all_named start (drop from world.commands) is.taken

  frame_found : (count : ℕ) (frame : CarriedFrame) → slice_get world.carried count ≡ Some frame → (address : ℕ)
      → FoundTaken (taken_before count (drop from world.commands)) (codec_at address start) (codec_at address frame.codecs)
  frame_found count frame there address =
      let after = by.found count frame (omega arith) there in
      found_taken (taken_before count (drop from world.commands)) address start frame.codecs after.graphs after.settings

  frame_streams : (count : ℕ) (frame : CarriedFrame) → slice_get world.carried count ≡ Some frame → IsStreamFrame tag word block frame
  frame_streams count frame there =
      subst (IsStreamFrame tag word block) (get_or_from_slice_get world.carried count frame frame there) (streams.frames count frame (slice_get_within world.carried count frame there))

  -- ---- a pin that is no speaker

  module _ (address pin : ℕ) (signal : Signal) (none : is_speaker address pin ≡ false) (heard : signal_with_as kind (codec_at address start) tag word (Some layout) pin ≡ signal) where
    other_by : (count : ℕ) (frame : CarriedFrame) → slice_get world.carried count ≡ Some frame → (found : Option CodecState) → codec_at address start ≡ found
        → FoundTaken (taken_before count (drop from world.commands)) found (codec_at address frame.codecs) → signal_with_as kind found tag word (Some layout) pin ≡ signal
        → signal_with_as kind (codec_at address frame.codecs) tag word (Some layout) pin ≡ signal
    other_by count frame there None at taken was = no_codec kind (taken_before count (drop from world.commands)) (codec_at address frame.codecs) tag word pin layout taken ∙ was
    other_by count frame there (Some first) at taken was =
        let same : first.graph.address ≡ address = found_address address start first at in
        let all = before_all_have is_speaker (λ (one : TakenCommand). IsSwitchWord is_speaker one.word) count (drop from world.commands) switches in
        let names = before_all_have is_speaker IsNamed count (drop from world.commands) named in
        let last : last_control pin (words_to first.graph.address (taken_before count (drop from world.commands))) ≡ None =
        ap (λ (a : ℕ). last_control pin (words_to a (taken_before count (drop from world.commands)))) same ∙ none_last is_speaker address pin none (taken_before count (drop from world.commands)) all names in
        found_signal kind (taken_before count (drop from world.commands)) first (codec_at address frame.codecs) tag word pin layout taken
        ∙ others_hear is_speaker first.graph kind first.settings (record { tag = tag; word = word; channels = layout.channels }) (words_to first.graph.address (taken_before count (drop from world.commands))) pin
        (words_switch is_speaker first.graph.address (taken_before count (drop from world.commands)) all) last
        ∙ was

    pub others_along : IsSignalAlong kind address pin (λ place. signal) world.carried
    others_along count frame there place low high =
        stream_signal kind address pin tag word block layout frame known (frame_streams count frame there)
        ∙ other_by count frame there (codec_at address start) refl (frame_found count frame there address) heard

  -- ---- a pin that heard a pair

  module _ (first : CodecState) (pin pair : ℕ) (at : codec_at first.graph.address start ≡ Some first) (well : IsWellFormed first.graph) (of : IsSettingsOf first.graph first.settings)
      (heard : signal_with_as kind (Some first) tag word (Some layout) pin ≡ Pair pair) where
    abbrev address : ℕ
    address = first.graph.address

    on_there : (count : ℕ) (frame : CarriedFrame) → slice_get world.carried count ≡ Some frame → (place : ℕ) → heard_before kind address pin world.carried count ≤ place → place < heard_before kind address pin world.carried (count + 1)
        → is_on_at (marks_of_as kind address pin world.commands world.carried) place ≡ is_on (last_control pin (words_to address (taken_before count (drop from world.commands))))
    on_there count frame there place low high =
        ap (λ (marks : List Mark). fold (stepped place) true marks) (marks_since kind address pin world.carried from world.commands switching.before)
        ∙ marks_state kind address pin world.carried count place low high (drop from world.commands) true switching.during (slice_get_within world.carried count frame there)
        ∙ on_from_true (last_control pin (words_to address (taken_before count (drop from world.commands))))

    pub pair_along : IsSignalAlong kind first.graph.address pin (switched_signals (Pair pair) (marks_of_as kind first.graph.address pin world.commands world.carried)) world.carried
    pair_along count frame there place low high =
        let before = taken_before count (drop from world.commands) in
        let all = before_all_have is_speaker (λ (one : TakenCommand). IsSwitchWord is_speaker one.word) count (drop from world.commands) switches in
        let taken = subst (λ (found : Option CodecState). FoundTaken (taken_before count (drop from world.commands)) found (codec_at address frame.codecs)) at (frame_found count frame there address) in
        stream_signal kind address pin tag word block layout frame known (frame_streams count frame there)
        ∙ found_signal kind (taken_before count (drop from world.commands)) first (codec_at address frame.codecs) tag word pin layout taken
        ∙ pair_hears is_speaker first.graph kind first.settings (record { tag = tag; word = word; channels = layout.channels }) (words_to address (taken_before count (drop from world.commands))) pin
        (words_switch is_speaker address (taken_before count (drop from world.commands)) all) pair well of heard
        ∙ ap (λ (on : Bool). if on then Pair pair else Silence) (sym (on_there count frame there place low high))
