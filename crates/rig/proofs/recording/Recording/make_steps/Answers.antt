use Rattle.std.proofs.Common.{◌≡◌, ◌+◌, ℕ, List, length, get_or, take, map, refl, subst, ◌∙◌, arith}
use Rattle.std.proofs.lemmas.List.Sums.{sum_by_more, sum_by_more_le}
use Rattle.world_steps.specs.declared.Step.{Step}
use Rattle.world_steps.specs.declared.Step.TheVariants as step
use Rattle.hda_world.specs.Events.{Stepped}
use Rattle.hda_world.specs.Tellings.{Went}
use Rattle.hda_world.proofs.Callers.{went_none}
use Rattle.hda_controller.specs.Hearing.{most_items}
use Rattle.rig.specs.Recordings.{HasRoomFor, items_for}
use Rattle.rig.specs.Rigs.{told_of}
use Rattle.rig.proofs.Rooming.{turn_room, turn_asked, start_room}
use Rattle.rig.proofs.Turns.{step_told, all_taken}
use Rattle.rig.proofs.recording.Recording.make_steps.Goals as goal

pub loop-step-init : goal.loop-step-init
loop-step-init c = record { told = went_none _; machine = refl; kind = refl; sound = refl; room = λ entries bytes items. start_room entries bytes items _ _ _ }

pub step-requires : goal.step-requires
step-requires c =
    let i = c.loop-step.step-index in
    turn_asked (length c.args.steps.now) i 1 (items_for c.args.steps.now) (items_for (take i c.args.steps.now)) (most_items (get_or c.args.steps.now i step.Corb)) _ _ _ _ _ _
    c.loop-step.invariant.room (omega (arith, c.loop-step-test.true)) (sum_by_more_le most_items c.args.steps.now i step.Corb c.loop-step-test.true) c.requires

pub loop-step-preserved : goal.loop-step-preserved
loop-step-preserved c =
    let i = c.loop-step.step-index in
    record {
      told = step_told _ _ _ c.args.steps.now i step.Corb c.loop-step-test.true c.loop-step.invariant.told c.step.ensures.told;
      machine = c.step.ensures.machine ∙ c.loop-step.invariant.machine;
      kind = c.step.ensures.kind ∙ c.loop-step.invariant.kind;
      sound = c.step.ensures.sound ∙ c.loop-step.invariant.sound;
      room = turn_room i 1 (i + 1) (items_for (take i c.args.steps.now)) (most_items (get_or c.args.steps.now i step.Corb)) (items_for (take (i + 1) c.args.steps.now)) _ _ _ _ _ _ _ _ _
          c.loop-step.invariant.room c.step.ensures.room refl (sum_by_more most_items c.args.steps.now i step.Corb c.loop-step-test.true);
    }

pub returns : goal.returns
returns c =
    let i = c.loop-step.step-index in
    let end : i ≡ length c.args.steps.now = omega (arith, c.loop-step.auto.step-index-end, c.loop-step-test.false) in
    let all : take i c.args.steps.now ≡ c.args.steps.now = all_taken c.args.steps.now i end in
    record {
      told = subst (λ (steps : List Step). Went (told_of c.args.self.now) (told_of c.loop-step.self) (map Stepped steps)) all c.loop-step.invariant.told;
      machine = c.loop-step.invariant.machine;
      kind = c.loop-step.invariant.kind;
      sound = c.loop-step.invariant.sound;
      room = subst (λ (steps : List Step). (entries bytes items : ℕ) → HasRoomFor (length c.args.steps.now + entries) bytes (items_for steps + items) c.args.self.now.journal c.args.self.now.heard c.args.self.now.came
          → HasRoomFor entries bytes items c.loop-step.self.journal c.loop-step.self.heard c.loop-step.self.came) all
          (subst (λ (n : ℕ). (entries bytes items : ℕ) → HasRoomFor (n + entries) bytes (items_for (take i c.args.steps.now) + items) c.args.self.now.journal c.args.self.now.heard c.args.self.now.came
          → HasRoomFor entries bytes items c.loop-step.self.journal c.loop-step.self.heard c.loop-step.self.came) end c.loop-step.invariant.room);
    }
