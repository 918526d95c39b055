use Rattle.std.proofs.Common.{ℕ, List, [], refl, sym, subst}
use Rattle.std.proofs.lemmas.Grind.{merely}
use Rattle.hda_controller.specs.Controllers.{StandsFor}
use Rattle.rig.specs.Replays.{start_of}
use Rattle.rig.proofs.Where.{honest_same, where_given, where_marked, where_same, where_started}
use Rattle.rig.proofs.recording.Recording.new.Goals as goal

pub invariant_of-result : goal.invariant_of-result
invariant_of-result c =
    let none = c.new-2.ensures in
    let marks = c.new.ensures.items in
    let stands : StandsFor c.in_ok-zeroed.field-0.items c.in_ok-controller.controller (start_of 4194304 c.args.machine) =
    subst (λ (bytes : List ℕ). StandsFor bytes c.in_ok-controller.controller (start_of 4194304 c.args.machine)) (sym c.in_ok-zeroed.ensures.items) (c.in_ok-controller.ensures.stands _) in
    record {
      whole = c.in_ok-zeroed.ensures.length;
      honest = honest_same _ [] _ none tt;
      stands = merely (where_given _ 4194304 c.args.machine [] _ _ _ _ _ _ (sym stands.captured.given_is)
          (where_marked _ _ _ _ _ _ _ _ marks (where_same _ _ [] _ _ _ _ _ none (where_started _ _ _ _ _ stands c.in_ok-controller.ensures.kind (c.in_ok-controller.ensures.lists _ c.in_ok-heard.ensures.pins) c.in_ok-heard.ensures.empty c.in_ok-heard.ensures.unmarked refl refl refl))));
      pins = merely c.in_ok-heard.ensures.pins;
    }

pub returns-clause-sound : goal.returns-clause-sound
returns-clause-sound c = sym (c.in_ok-controller.ensures.stands []).captured.given_is
