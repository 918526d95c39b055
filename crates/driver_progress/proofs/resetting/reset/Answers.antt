use Rattle.std.proofs.Common.{ℕ, Some, None, if◌then◌else◌, ap, ◌∙◌, Bool}
use Rattle.std.specs.Option.{is_some}
use Rattle.std.proofs.Common.{Option}
use Rattle.hda_world.specs.Tellings.{Telling, Makes}
use Rattle.hda_world.proofs.Callers.{told_map}
use Rattle.driver_progress.specs.Beginning.{LeadsToSettling, LeavesUntaken}
use Rattle.driver_progress.specs.Resetting.{reset_accesses}
use Rattle.driver_progress.proofs.ResetWorlds.{reset_told}
use Rattle.driver_progress.proofs.UntakenRows.{reset_untaken}
use Rattle.driver_progress.proofs.resetting.reset.Goals as goal

pub returns-clause-tells : goal.returns-clause-tells
returns-clause-tells g c =
    let resets = c.make_reset.ensures.resets in
    told_map {Before = Makes (reset_accesses resets.in_reset resets.control resets.clock)} {After = LeadsToSettling c.make_reset.result} (λ (old : Telling) (new : Telling) makes corb rirb can.
    let told = reset_told corb rirb resets.in_reset resets.control resets.clock old new makes can in
    (told.0, ap (λ (answer : Option ℕ). is_some answer) resets.answer_is ∙ ap (λ (out : Bool). is_some (if out then Some resets.clock else None)) told.1)) resets.made

pub returns-clause-untaken : goal.returns-clause-untaken
returns-clause-untaken g c =
    let resets = c.make_reset.ensures.resets in
    told_map {After = LeavesUntaken} (λ (old : Telling) (new : Telling) makes. reset_untaken resets.in_reset resets.control resets.clock old new makes) resets.made
