-- The marks of a pin over histories that go on.
use Rattle.std.proofs.Common.{◌≡◌, ◌≤◌, ℕ, List, [], ◌∷◌, ◌++◌, length, take, refl, sym, ap, ◌∙◌}
use Rattle.std.specs.Prelude.{All}
use Rattle.std.specs.List.{AllByRecursion}
use Rattle.std.proofs.lemmas.Grind.{flat_map-append}
use Rattle.std.proofs.lemmas.List.{take-append-le}
use Rattle.std.proofs.lemmas.List.Elements.{recursion_from_All}
use Rattle.codec_graph.specs.declared.pin_kind.PinKind.{PinKind}
use Rattle.hda_world.specs.Worlds.{TakenCommand, CarriedFrame}
use Rattle.heard_frames.specs.declared.heard.Heard.{Heard}
use Rattle.heard_frames.specs.declared.mark.Mark.{Mark}
use Rattle.heard_frames.specs.HeardLists.{heard_as}
use Rattle.heard_frames.specs.Marks.{without_holes, marks_by, heard_before, command_marks, marks_of_as}

module _ (kind : PinKind) (address pin : ℕ) (frames added : List CarriedFrame) where
  -- what was heard before a frame that had passed stays
  pub before-more : (count : ℕ) → count ≤ length frames → heard_before kind address pin (frames ++ added) count ≡ heard_before kind address pin frames count
  before-more count within = ap (λ (first : List CarriedFrame). length (without_holes (heard_as kind address pin first))) (take-append-le count frames added within)

  command-more : (command : TakenCommand) → command.carried ≤ length frames → command_marks kind address pin (frames ++ added) command ≡ command_marks kind address pin frames command
  command-more command within = ap (λ (at : ℕ). marks_by at address pin command) (before-more command.carried within)

  each-more : (commands : List TakenCommand) → AllByRecursion (λ command. command.carried ≤ length frames) commands → marks_of_as kind address pin commands (frames ++ added) ≡ marks_of_as kind address pin commands frames
  each-more [] within = refl
  each-more (command ∷ commands) within =
      ap (λ (first : List Mark). first ++ marks_of_as kind address pin commands (frames ++ added)) (command-more command within.0)
      ∙ ap (λ (rest : List Mark). command_marks kind address pin frames command ++ rest) (each-more commands within.1)

  -- link frames more change no mark
  pub marks-frames : (commands : List TakenCommand) → All (λ command. command.carried ≤ length frames) commands → marks_of_as kind address pin commands (frames ++ added) ≡ marks_of_as kind address pin commands frames
  marks-frames commands within = each-more commands (recursion_from_All _ commands within)

  -- later commands put theirs last
  pub marks-append : (before later : List TakenCommand) → All (λ command. command.carried ≤ length frames) before
      → marks_of_as kind address pin (before ++ later) (frames ++ added) ≡ marks_of_as kind address pin before frames ++ marks_of_as kind address pin later (frames ++ added)
  marks-append before later within =
      flat_map-append (command_marks kind address pin (frames ++ added)) before later
      ∙ ap (λ (first : List Mark). first ++ marks_of_as kind address pin later (frames ++ added)) (marks-frames before within)
