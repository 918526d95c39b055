use Rattle.std.proofs.Common.{◌+◌, ℕ, List, refl, sym, ap, subst, ◌∙◌, length, arith}
use Rattle.std.proofs.Props.{props}
use Rattle.std.proofs.Math.Logic.{∥∥₁_map, ∥∥₁_map₂, ∥∥₁_elim}
use Rattle.hda_world.specs.Worlds.{World}
use Rattle.hda_world.specs.Steps.{after_step}
use Rattle.hda_controller.specs.Controllers.{StandsFor}
use Rattle.hda_controller.specs.Hearing.{GrewAs}
use Rattle.rig.proofs.Rooming.{room_noted, step_asked, step_switches}
use Rattle.rig.proofs.Opened.{fewer_bytes}
use Rattle.rig.proofs.Where.{honest_more, honest_given, where_given, where_stepped, listed_stepped, whole_write}
use Rattle.rig.proofs.recording.Recording.step.Goals as goal

pub step-requires-clause-lists : goal.step-requires-clause-lists
step-requires-clause-lists c = ∥∥₁_elim c.args.self.now.stands (Prim.hlevel props) (λ was. was.known)

pub invariant_of-self : goal.invariant_of-self
invariant_of-self c =
    let memory = whole_write c.step.new.memory c.args.self.now.memory.items c.step.new.memory c.args.self.now.memory.len refl
    (c.step.auto.memory ∙ ap length c.as_mut_slice.ensures.value) (omega (arith, c.args.self.now.memory.ok.0)) in
    let stands : (world : World) → StandsFor c.args.self.now.memory.items c.args.self.now.controller world → StandsFor c.step.new.memory c.step.new.self (after_step c.args.step.now world) =
    λ world stood. c.step.ensures.stands world (subst (λ (bytes : List ℕ). StandsFor bytes c.args.self.now.controller world) (sym c.as_mut_slice.ensures.value) stood) in
    let grew : (world : World) → StandsFor c.args.self.now.memory.items c.args.self.now.controller world → GrewAs c.args.self.now.controller.kind world (after_step c.args.step.now world) c.args.self.now.heard c.step.new.heard =
    λ world stood. c.step.ensures.heard world (subst (λ (bytes : List ℕ). StandsFor bytes c.args.self.now.controller world) (sym c.as_mut_slice.ensures.value) stood) in
    record {
      whole = ap length memory ∙ (c.step.auto.memory ∙ (ap length c.as_mut_slice.ensures.value ∙ c.args.self.now.whole));
      honest = honest_given 4194304 c.args.self.now.machine c.args.self.now.controller.device.input.given _ _ c.step.ensures.given (honest_more _ _ _ _ c.args.self.now.honest c.note_step.ensures.events tt);
      stands = ∥∥₁_map c.args.self.now.stands (λ was.
          where_given _ 4194304 c.args.self.now.machine c.args.self.now.controller.device.input.given _ _ _ _ _ _ c.step.ensures.given
          (where_stepped _ _ _ _ _ _ _ _ c.args.step.now _ c.step.new.self c.step.new.heard c.step.new.came.items was c.note_step.ensures.events
          (λ world stood. subst (λ (bytes : List ℕ). StandsFor bytes c.step.new.self (after_step c.args.step.now world)) (sym memory) (stands world stood)) grew c.step.ensures.lists c.step.ensures.kind
          (λ world stood. c.step.ensures.came world (subst (λ (bytes : List ℕ). StandsFor bytes c.args.self.now.controller world) (sym c.as_mut_slice.ensures.value) stood))));
      pins = ∥∥₁_map₂ c.args.self.now.stands c.args.self.now.pins (λ was are. listed_stepped _ _ _ _ _ _ _ (grew _ was.stands) are);
    }

pub returns-clause-room : goal.returns-clause-room
returns-clause-room c entries bytes items room = room_noted entries bytes items _ 0 _ _ _ _ _ _ c.note_step.ensures.used (c.step.ensures.room items) (step_switches c.args.step.now entries _ _ c.step.ensures.mark_room) (c.step.ensures.space items) (fewer_bytes (1 + entries) bytes (0 + bytes) _ _ _ _ (omega arith) room)

pub step-requires-clause-mark_room : goal.step-requires-clause-mark_room
step-requires-clause-mark_room c = step_asked c.args.step.now _ c.requires.switches_fit
