-- What is on its way, over each move of the device.
use Rattle.std.proofs.Common.{◌≡◌, ◌≤◌, ◌+◌, ℕ, Bool, true, false, cond, not, List, [], ◌∷◌, ◌++◌, map, drop, Option, None, Some, refl, sym, ap, subst, arith, if◌then◌else◌}
use Rattle.std.specs.Prelude.{All, slice_index_or}
use Rattle.std.proofs.lemmas.List.Elements.{All-cons, All-head, All-tail, All-nil, All-push, All-append, All-drop}
use Rattle.std.proofs.lemmas.List.Sums.{sum_by-append}
use Rattle.codec_graph.specs.declared.waiting.Waiting.{Waiting}
use Rattle.codec_graph.specs.declared.waiting.Waiting.TheVariants.{Answer, Unsolicited}
use Rattle.codec_graph.specs.CodecStates.{CodecState, answers, answer_to, taken, without_first, without_answer, drop_answer, plugged, node_plugged, pin_plugged, is_told, response_of}
use Rattle.codec_graph.specs.declared.raw.RawNode.{RawNode}
use Rattle.codec_graph.specs.declared.controls.Control.TheVariants.{Unsol}
use Rattle.codec_graph.specs.Widget.{node_at, is_pin}
use Rattle.codec_graph.specs.Settings.{setting_of}
use Rattle.codec_graph.proofs.Callers.{answers-push, answers-cons, answers-drop_answer}
use Rattle.hda_registers.specs.Fields.{Fields}
use Rattle.world_rings.specs.declared.response.Response.{Response}
use Rattle.hda_world.specs.Worlds.{TakenCommand, codec_at, with_codec}
use Rattle.hda_world.specs.Steps.{address_of, responses_of, waiting_of}
use Rattle.command_engine.specs.Fetchings.{AscendFrom, AscendByAddress, IsAnswerTo, ResponseCanCome, ItemCanCome, CodecCanSend, solicited, IsOnItsWay}
use Rattle.hda_world.proofs.Callers.{found_address, found_all, absent}
use Rattle.command_engine.proofs.Codecs.{changed_all, changed_sum}

-- ---- a command is taken: before, nothing comes; then its answer does

weak_response : (gained : List TakenCommand) (response : Response) → ResponseCanCome [] response → ResponseCanCome gained response
weak_response gained response can = record { address = can.address; answer = λ is. absurd (can.answer is) }

weak_item : (gained : List TakenCommand) (address : ℕ) (item : Waiting) → ItemCanCome [] address item → ItemCanCome gained address item
weak_item gained address (Answer value) can = absurd can
weak_item gained address (Unsolicited value) can = tt

weak_codec : (gained : List TakenCommand) (codec : CodecState) → CodecCanSend [] codec → CodecCanSend gained codec
weak_codec gained codec can = λ k d within. weak_item gained codec.graph.address (slice_index_or codec.waiting k d) (can k d within)

abbrev taking_of : ℕ → CodecState → Bool → ℕ → TakenCommand
taking_of word codec running carried = record { word = word; codec = codec; running = running; carried = carried }

can_taken : (gained : TakenCommand) (codec : CodecState) (word : ℕ) → CodecCanSend (gained ∷ []) codec → IsAnswerTo gained codec.graph.address (answer_to codec word) → CodecCanSend (gained ∷ []) (taken codec word)
can_taken gained codec word can is = All-push (ItemCanCome (gained ∷ []) codec.graph.address) codec.waiting (Answer (answer_to codec word)) can is

pub coming_taken : (word carried : ℕ) (running : Bool) (unread waiting : List Response) (codecs : List CodecState) (codec : CodecState) → AscendByAddress codecs
    → codec_at (address_of word) codecs ≡ Some codec → IsOnItsWay [] unread waiting codecs
    → IsOnItsWay (taking_of word codec running carried ∷ []) unread waiting (with_codec (address_of word) (λ codec. taken codec word) codecs)
coming_taken word carried running unread waiting codecs codec ascend there way =
    let gained = taking_of word codec running carried in
    let answer : IsAnswerTo gained codec.graph.address (answer_to codec word) = record { codec = found_address (address_of word) codecs codec there; answer = refl } in
    let weak : All (CodecCanSend (gained ∷ [])) codecs = λ k d within. weak_codec (gained ∷ []) (slice_index_or codecs k d) (way.at_codecs k d within) in
    let sum = changed_sum (λ (codec : CodecState). answers codec.waiting) (address_of word) 0 (λ codec. taken codec word) codecs codec ascend there in
    let push = answers-push codec.waiting (Answer (answer_to codec word)) in
    let few = way.few in
    record {
      in_ring = λ k d within. weak_response (gained ∷ []) (slice_index_or unread k d) (way.in_ring k d within);
      in_controller = λ k d within. weak_response (gained ∷ []) (slice_index_or waiting k d) (way.in_controller k d within);
      at_codecs = changed_all (CodecCanSend (gained ∷ [])) (address_of word) 0 (λ codec. taken codec word) codecs codec ascend there weak
          (can_taken gained codec word (found_all (CodecCanSend (gained ∷ [])) (address_of word) codecs codec there weak) answer);
      few = omega arith;
    }

-- ---- a codec sends its first item

pub count-append : (first second : List Response) → solicited (first ++ second) ≡ solicited first + solicited second
count-append first second = sum_by-append (λ (response : Response). cond (not response.unsolicited) 1 0) first second

one_response : (gained : List TakenCommand) (fields : Fields) (address : ℕ) (item : Waiting) → address ≤ 14 → ItemCanCome gained address item → All (ResponseCanCome gained) (responses_of fields address item)
one_response gained fields address (Answer value) small can = All-cons (ResponseCanCome gained) _ [] (record { address = small; answer = λ is. can }) (All-nil (ResponseCanCome gained))
one_response gained fields address (Unsolicited value) small can = by _
  where
    by : (b : Bool) → All (ResponseCanCome gained) (if b then record { codec = address; answer = value; unsolicited = true } ∷ [] else [])
    by true = All-cons (ResponseCanCome gained) _ [] (record { address = small; answer = λ is. cc }) (All-nil (ResponseCanCome gained))
    by false = All-nil (ResponseCanCome gained)

one_count : (fields : Fields) (address : ℕ) (item : Waiting) (rest : List Waiting) → solicited (responses_of fields address item) + answers rest ≤ answers (item ∷ rest)
one_count fields address (Answer value) rest = let e = answers-cons (Answer value) rest in omega arith
one_count fields address (Unsolicited value) rest = by _
  where
    by : (b : Bool) → solicited (if b then record { codec = address; answer = value; unsolicited = true } ∷ [] else []) + answers rest ≤ answers (Unsolicited value ∷ rest)
    by true = let e = answers-cons (Unsolicited value) rest in omega arith
    by false = let e = answers-cons (Unsolicited value) rest in omega arith

sent_by : (gained : List TakenCommand) (fields : Fields) (address : ℕ) (item : Waiting) (rest : List Waiting) (unread waiting : List Response) (codecs : List CodecState) (codec : CodecState)
    → AscendByAddress codecs → codec.graph.address ≤ 14 → codec_at address codecs ≡ Some codec → codec.waiting ≡ item ∷ rest → IsOnItsWay gained unread waiting codecs
    → IsOnItsWay gained unread (waiting ++ responses_of fields address item) (with_codec address without_first codecs)
sent_by gained fields address item rest unread waiting codecs codec ascend small there are way =
    let at = found_address address codecs codec there in
    let send = found_all (CodecCanSend gained) address codecs codec there way.at_codecs in
    let send_items : All (ItemCanCome gained codec.graph.address) (item ∷ rest) = subst (λ (items : List Waiting). All (ItemCanCome gained codec.graph.address) items) are send in
    let can : ItemCanCome gained address item = subst (λ (a : ℕ). ItemCanCome gained a item) at (All-head (ItemCanCome gained codec.graph.address) item rest send_items) in
    let sum = changed_sum (λ (codec : CodecState). answers codec.waiting) address 0 without_first codecs codec ascend there in
    let had : answers codec.waiting ≡ answers (item ∷ rest) = ap answers are in
    let has : answers (drop 1 codec.waiting) ≡ answers rest = ap (λ (items : List Waiting). answers (drop 1 items)) are in
    let one = one_count fields address item rest in
    let more = count-append waiting (responses_of fields address item) in
    let few = way.few in
    record {
      in_ring = way.in_ring;
      in_controller = All-append (ResponseCanCome gained) waiting (responses_of fields address item) way.in_controller (one_response gained fields address item (subst (λ (a : ℕ). a ≤ 14) at small) can);
      at_codecs = changed_all (CodecCanSend gained) address 0 without_first codecs codec ascend there way.at_codecs (All-drop (ItemCanCome gained codec.graph.address) 1 codec.waiting send);
      few = omega arith;
    }

ascend_all : (from : ℕ) (codecs : List CodecState) → AscendFrom from (map (λ (codec : CodecState). codec.graph) codecs) → All (λ (codec : CodecState). codec.graph.address ≤ 14) codecs
ascend_all from [] ascend = All-nil (λ (codec : CodecState). codec.graph.address ≤ 14)
ascend_all from (codec ∷ codecs) ascend = All-cons (λ (codec : CodecState). codec.graph.address ≤ 14) codec codecs ascend.1 (ascend_all (codec.graph.address + 1) codecs ascend.2)

pub coming_sent : (gained : List TakenCommand) (fields : Fields) (address : ℕ) (item : Waiting) (rest : List Waiting) (unread waiting : List Response) (codecs : List CodecState)
    → AscendByAddress codecs → waiting_of (codec_at address codecs) ≡ item ∷ rest → IsOnItsWay gained unread waiting codecs
    → IsOnItsWay gained unread (waiting ++ responses_of fields address item) (with_codec address without_first codecs)
coming_sent gained fields address item rest unread waiting codecs ascend are way = by (codec_at address codecs) refl are
  where
    by : (found : Option CodecState) → codec_at address codecs ≡ found → waiting_of found ≡ item ∷ rest
        → IsOnItsWay gained unread (waiting ++ responses_of fields address item) (with_codec address without_first codecs)
    by None there are = cc
    by (Some codec) there are =
        sent_by gained fields address item rest unread waiting codecs codec ascend (found_all (λ (codec : CodecState). codec.graph.address ≤ 14) address codecs codec there (ascend_all 0 codecs ascend)) there are way

-- ---- a change of a codec after which it sends no more answers, and none that it did not

pub coming_changed : (gained : List TakenCommand) (address : ℕ) (change : CodecState → CodecState) (unread waiting : List Response) (codecs : List CodecState) → AscendByAddress codecs
    → ((codec : CodecState) → CodecCanSend gained codec → CodecCanSend gained (change codec)) → ((codec : CodecState) → answers (change codec).waiting ≤ answers codec.waiting)
    → IsOnItsWay gained unread waiting codecs → IsOnItsWay gained unread waiting (with_codec address change codecs)
coming_changed gained address change unread waiting codecs ascend keeps fewer way = by (codec_at address codecs) refl
  where
    by : (found : Option CodecState) → codec_at address codecs ≡ found → IsOnItsWay gained unread waiting (with_codec address change codecs)
    by None there = subst (λ (cs : List CodecState). IsOnItsWay gained unread waiting cs) (sym (absent address change codecs there)) way
    by (Some codec) there =
        let sum = changed_sum (λ (codec : CodecState). answers codec.waiting) address 0 change codecs codec ascend there in
        let less = fewer codec in
        let few = way.few in
        record {
          in_ring = way.in_ring;
          in_controller = way.in_controller;
          at_codecs = changed_all (CodecCanSend gained) address 0 change codecs codec ascend there way.at_codecs (keeps codec (found_all (CodecCanSend gained) address codecs codec there way.at_codecs));
          few = omega arith;
        }

all_left : (P : Waiting → Type 0) (items : List Waiting) → All P items → All P (drop_answer items)
all_left P [] all = All-nil P
all_left P (Answer value ∷ items) all = All-tail P (Answer value) items all
all_left P (Unsolicited value ∷ items) all = All-cons P (Unsolicited value) (drop_answer items) (All-head P (Unsolicited value) items all) (all_left P items (All-tail P (Unsolicited value) items all))

pub coming_lost : (gained : List TakenCommand) (address : ℕ) (unread waiting : List Response) (codecs : List CodecState) → AscendByAddress codecs
    → IsOnItsWay gained unread waiting codecs → IsOnItsWay gained unread waiting (with_codec address without_answer codecs)
coming_lost gained address unread waiting codecs ascend way =
    coming_changed gained address without_answer unread waiting codecs ascend (λ codec can. all_left (ItemCanCome gained codec.graph.address) codec.waiting can) (λ codec. answers-drop_answer codec.waiting) way

-- ---- something is plugged in or out

plugged_can : (gained : List TakenCommand) (codec : CodecState) (nid : ℕ) (present : Bool) → CodecCanSend gained codec → CodecCanSend gained (plugged codec nid present)
plugged_can gained codec nid present can = by (node_at codec.graph nid)
  where
    told : (b : Bool) (control : ℕ) → All (ItemCanCome gained codec.graph.address) (if b then codec.waiting ++ response_of control ∷ [] else codec.waiting)
    told true control = All-push (ItemCanCome gained codec.graph.address) codec.waiting (response_of control) can tt
    told false control = can

    pin : (node : RawNode) (b : Bool) → CodecCanSend gained (if b then pin_plugged codec nid present node else codec)
    pin node true = told (is_told codec nid present node) (setting_of codec.settings nid Unsol)
    pin node false = can

    by : (node : Option RawNode) → CodecCanSend gained (node_plugged codec nid present node)
    by None = can
    by (Some node) = pin node (is_pin node)

plugged_fewer : (codec : CodecState) (nid : ℕ) (present : Bool) → answers (plugged codec nid present).waiting ≤ answers codec.waiting
plugged_fewer codec nid present = by (node_at codec.graph nid)
  where
    told : (b : Bool) (control : ℕ) → answers (if b then codec.waiting ++ response_of control ∷ [] else codec.waiting) ≤ answers codec.waiting
    told true control = let e = answers-push codec.waiting (response_of control) in omega arith
    told false control = omega arith

    pin : (node : RawNode) (b : Bool) → answers (if b then pin_plugged codec nid present node else codec).waiting ≤ answers codec.waiting
    pin node true = told (is_told codec nid present node) (setting_of codec.settings nid Unsol)
    pin node false = omega arith

    by : (node : Option RawNode) → answers (node_plugged codec nid present node).waiting ≤ answers codec.waiting
    by None = omega arith
    by (Some node) = pin node (is_pin node)

pub coming_plugged : (gained : List TakenCommand) (address nid : ℕ) (present : Bool) (unread waiting : List Response) (codecs : List CodecState) → AscendByAddress codecs
    → IsOnItsWay gained unread waiting codecs → IsOnItsWay gained unread waiting (with_codec address (λ codec. plugged codec nid present) codecs)
coming_plugged gained address nid present unread waiting codecs ascend way =
    coming_changed gained address (λ codec. plugged codec nid present) unread waiting codecs ascend (λ codec can. plugged_can gained codec nid present can) (λ codec. plugged_fewer codec nid present) way

-- ---- RIRB's engine writes the first that wait

first_all : (P : Response → Type 0) (first rest : List Response) → All P (first ++ rest) → All P first
first_all P [] rest all = All-nil P
first_all P (response ∷ first) rest all = All-cons P response first (All-head P response (first ++ rest) all) (first_all P first rest (All-tail P response (first ++ rest) all))

rest_all : (P : Response → Type 0) (first rest : List Response) → All P (first ++ rest) → All P rest
rest_all P [] rest all = all
rest_all P (response ∷ first) rest all = rest_all P first rest (All-tail P response (first ++ rest) all)

pub coming_responded : (gained : List TakenCommand) (unread responses rest : List Response) (codecs : List CodecState)
    → IsOnItsWay gained unread (responses ++ rest) codecs → IsOnItsWay gained (unread ++ responses) rest codecs
coming_responded gained unread responses rest codecs way =
    let before = count-append responses rest in
    let after = count-append unread responses in
    let few = way.few in
    record {
      in_ring = All-append (ResponseCanCome gained) unread responses way.in_ring (first_all (ResponseCanCome gained) responses rest way.in_controller);
      in_controller = rest_all (ResponseCanCome gained) responses rest way.in_controller;
      at_codecs = way.at_codecs;
      few = omega arith;
    }
