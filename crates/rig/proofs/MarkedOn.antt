-- The marks of pins, event by event.
use Rattle.std.proofs.Common.{◌≡◌, ◌≤◌, ◌<◌, ◌+◌, ℕ, List, [], ◌∷◌, ◌++◌, length, map, get_or, refl, sym, ap, subst, ◌∙◌, arith, length-append}
use Rattle.std.specs.Prelude.{All}
use Rattle.std.specs.List.{AllByRecursion, flat_map}
use Rattle.std.proofs.Math.Seq.{take-append_seam}
use Rattle.std.proofs.lemmas.List.{get_or-map, length-map}
use Rattle.std.proofs.lemmas.List.Elements.{All-append, All-map, recursion_from_All}
use Rattle.codec_graph.specs.declared.pin_kind.PinKind.{PinKind}
use Rattle.hda_world.specs.Worlds.{World, TakenCommand, CarriedFrame}
use Rattle.heard_frames.specs.declared.heard.Heard.{Heard}
use Rattle.heard_frames.specs.declared.mark.Mark.{Mark}
use Rattle.heard_frames.specs.HeardLists.{heard_as}
use Rattle.heard_frames.specs.Marks.{without_holes, marks_by, heard_before, command_marks, marks_of_as}
use Rattle.heard_frames.proofs.Callers.{marks-append}
use Rattle.heard_lists.specs.Listings.{Listing, with_items, with_marks, marked, marks_out}
use Rattle.hda_controller.specs.Hearing.{GrewAs}
use Rattle.rig.specs.Replays.{AreHeardInAs, AreMarkedInAs, HavePassed}
use Rattle.rig.specs.Recordings.{IsMarkedIn}

-- ---- commands that were taken at one moment

module _ (kind : PinKind) (address pin : ℕ) (frames : List CarriedFrame) where
  taken_marks : (at : ℕ) (taken : List TakenCommand) → AllByRecursion (λ command. heard_before kind address pin frames command.carried ≡ at) taken
      → flat_map (marks_by at address pin) taken ≡ marks_of_as kind address pin taken frames
  taken_marks at [] is = refl
  taken_marks at (command ∷ taken) is =
      ap (λ (place : ℕ). marks_by place address pin command ++ flat_map (marks_by at address pin) taken) (sym is.0)
      ∙ ap (λ (rest : List Mark). command_marks kind address pin frames command ++ rest) (taken_marks at taken is.1)

-- the marks of a pin after what was taken and carried
one_marked : (kind : PinKind) (before later : World) (taken : List TakenCommand) (added : List CarriedFrame) (listing : Listing)
    → later.commands ≡ before.commands ++ taken → later.carried ≡ before.carried ++ added → All (λ command. command.carried ≡ length before.carried) taken → HavePassed before
    → listing.list ≡ heard_as kind listing.codec listing.pin before.carried → listing.marks ≡ marks_of_as kind listing.codec listing.pin before.commands before.carried
    → listing.marks ++ flat_map (marks_by (length (without_holes listing.list)) listing.codec listing.pin) taken ≡ marks_of_as kind listing.codec listing.pin later.commands later.carried
one_marked kind before later taken added listing commands carried moments passed heard were =
    let address : ℕ = listing.codec in
    let pin : ℕ = listing.pin in
    let at : ℕ = length (without_holes listing.list) in
    let frames : List CarriedFrame = before.carried ++ added in
    let then_heard : heard_before kind address pin frames (length before.carried) ≡ at =
    ap (λ (first : List CarriedFrame). length (without_holes (heard_as kind address pin first))) (take-append_seam before.carried added)
    ∙ ap (λ (list : List Heard). length (without_holes list)) (sym heard) in
    let each : All (λ (command : TakenCommand). heard_before kind address pin frames command.carried ≡ at) taken =
    λ k d within. ap (heard_before kind address pin frames) (moments k d within) ∙ then_heard in
    ap (λ (first : List Mark). first ++ flat_map (marks_by at address pin) taken) were
    ∙ (ap (λ (last : List Mark). marks_of_as kind address pin before.commands before.carried ++ last)
    (taken_marks kind address pin frames at taken (recursion_from_All _ taken each))
    ∙ (sym (marks-append kind address pin before.carried added before.commands taken passed)
    ∙ (ap (λ (all : List TakenCommand). marks_of_as kind address pin all frames) (sym commands)
    ∙ ap (marks_of_as kind address pin later.commands) (sym carried))))

-- no command was taken after more frames than passed
passed_on : (before later : World) (taken : List TakenCommand) (added : List CarriedFrame) → later.commands ≡ before.commands ++ taken → later.carried ≡ before.carried ++ added
    → All (λ command. command.carried ≡ length before.carried) taken → HavePassed before → HavePassed later
passed_on before later taken added commands carried moments passed =
    let more : length later.carried ≡ length before.carried + length added = ap length carried ∙ length-append before.carried added in
    subst (All (λ (command : TakenCommand). command.carried ≤ length later.carried)) (sym commands)
    (All-append (λ (command : TakenCommand). command.carried ≤ length later.carried) before.commands taken
    (λ k d within. let was = passed k d within in omega (arith, was, more))
    (λ k d within. let now = moments k d within in omega (arith, now, more)))

-- ---- worlds in turn

pub marks_go_on : (kind : PinKind) (before later : World) (old new : List Listing) → GrewAs kind before later old new → AreHeardInAs kind before old → IsMarkedIn kind before old → IsMarkedIn kind later new
marks_go_on kind before later old new grew heard were = record {
  marks = subst (AreMarkedInAs kind later) (sym grew.lists)
      (All-map (λ (listing : Listing). listing.marks ≡ marks_of_as kind listing.codec listing.pin later.commands later.carried)
      (λ (listing : Listing). with_items (heard_as kind listing.codec listing.pin grew.added) listing) (marked grew.taken old)
      (All-map (λ (listing : Listing). listing.marks ≡ marks_of_as kind listing.codec listing.pin later.commands later.carried) (with_marks grew.taken) old
      (λ k d within.
      one_marked kind before later grew.taken grew.added (get_or old k d) grew.commands grew.carried grew.moments were.passed (heard k d within) (were.marks k d within))));
  passed = passed_on before later grew.taken grew.added grew.commands grew.carried grew.moments were.passed;
}

pub marks_stay : (kind : PinKind) (before later : World) (lists : List Listing) → later.commands ≡ before.commands → later.carried ≡ before.carried → IsMarkedIn kind before lists → IsMarkedIn kind later lists
marks_stay kind before later lists commands carried were = record {
  marks = λ k d within.
      were.marks k d within
      ∙ (ap (λ (all : List TakenCommand). marks_of_as kind (get_or lists k d).codec (get_or lists k d).pin all before.carried) (sym commands)
      ∙ ap (marks_of_as kind (get_or lists k d).codec (get_or lists k d).pin later.commands) (sym carried));
  passed =
      subst (λ (all : List TakenCommand). All (λ command. command.carried ≤ length later.carried) all) (sym commands)
      (subst (λ (frames : List CarriedFrame). All (λ command. command.carried ≤ length frames) before.commands) (sym carried) were.passed);
}

pub none_marked : (kind : PinKind) (start : World) (lists : List Listing) → All (λ (listing : Listing). listing.marks ≡ []) lists → start.commands ≡ [] → IsMarkedIn kind start lists
none_marked kind start lists unmarked none = record {
  marks = λ k d within. unmarked k d within ∙ ap (λ (all : List TakenCommand). marks_of_as kind (get_or lists k d).codec (get_or lists k d).pin all start.carried) (sym none);
  passed = subst (λ (all : List TakenCommand). All (λ command. command.carried ≤ length start.carried) all) (sym none) (λ k d within. absurd (omega (arith, within)));
}

-- where room was made
pub marks_reserved : (kind : PinKind) (world : World) (old new : List Listing) → map marks_out new ≡ map marks_out old → IsMarkedIn kind world old → IsMarkedIn kind world new
marks_reserved kind world old new same were = record {
  marks = λ k d within.
      let long : length new ≡ length old = sym (length-map new marks_out) ∙ (ap length same ∙ length-map old marks_out) in
      let inside : k < length old = omega (arith, long, within) in
      let is : marks_out (get_or new k d) ≡ marks_out (get_or old k d) =
      sym (get_or-map marks_out new k d (marks_out d) within)
      ∙ (ap (λ (all : List ((ℕ × ℕ) × List Mark)). get_or all k (marks_out d)) same ∙ get_or-map marks_out old k d (marks_out d) inside) in
      ap (λ (one : (ℕ × ℕ) × List Mark). one.1) is
      ∙ (were.marks k d inside
      ∙ ap (λ (one : (ℕ × ℕ) × List Mark). marks_of_as kind one.0.0 one.0.1 world.commands world.carried) (sym is));
  passed = were.passed;
}
