use Rattle.std.proofs.Common.{◌≡◌, ◌≤◌, ◌+◌, vec_len, vec_capacity, refl, sym, subst}
use Rattle.world_steps.specs.declared.Step.{Step}
use Rattle.world_steps.specs.declared.Step.TheVariants as step
use Rattle.hda_world.specs.Steps.{after_step}
use Rattle.hda_controller.specs.Controllers.{StandsFor}
use Rattle.hda_controller.specs.Hearing.{CameAs, GrewAs, most_items}
use Rattle.hda_controller.proofs.Growth.{grew_still, came_still, corb_brings, answer_carries, answer_brings, lose_carries, lose_brings, fetch_carries, fetch_brings}
use Rattle.hda_controller.proofs.CommandMarks.{grew_untaken}
use Rattle.hda_controller.proofs.Untaken.{answer_takes, lose_takes, fetch_takes, frames_take}
use Rattle.hda_controller.proofs.controller.Controller.make.Goals as goal

pub returns-in-Corb-clause-stands : goal.returns-in-Corb-clause-stands
returns-in-Corb-clause-stands c world is =
    subst (λ (s : Step). StandsFor c.args.memory.now c.take.new.self (after_step s world)) (sym c.in-Corb.is) (c.take.ensures.stands world is)

pub returns-in-Corb-clause-heard : goal.returns-in-Corb-clause-heard
returns-in-Corb-clause-heard c world is =
    subst (λ (s : Step). GrewAs c.args.self.now.kind world (after_step s world) c.args.heard.now c.take.new.heard) (sym c.in-Corb.is) (c.take.ensures.heard world is)

pub returns-in-Answer-clause-stands : goal.returns-in-Answer-clause-stands
returns-in-Answer-clause-stands c world is =
    subst (λ (s : Step). StandsFor c.args.memory.now c.answer.new.self (after_step s world)) (sym c.in-Answer.is) (c.answer.ensures.stands c.args.memory.now world is)

pub returns-in-Answer-clause-heard : goal.returns-in-Answer-clause-heard
returns-in-Answer-clause-heard c world is =
    grew_untaken c.args.self.now.kind world (after_step c.args.step.now world) c.args.heard.now c.args.heard.now
    (subst (λ (s : Step). (after_step s world).commands ≡ world.commands) (sym c.in-Answer.is) (answer_takes c.in-Answer.codec world))
    (grew_still c.args.self.now.kind world (after_step c.args.step.now world) c.args.heard.now (subst (λ (s : Step). (after_step s world).carried ≡ world.carried) (sym c.in-Answer.is) (answer_carries c.in-Answer.codec world)))

pub returns-in-Lose-clause-stands : goal.returns-in-Lose-clause-stands
returns-in-Lose-clause-stands c world is =
    subst (λ (s : Step). StandsFor c.args.memory.now c.lose.new.self (after_step s world)) (sym c.in-Lose.is) (c.lose.ensures.stands c.args.memory.now world is)

pub returns-in-Lose-clause-heard : goal.returns-in-Lose-clause-heard
returns-in-Lose-clause-heard c world is =
    grew_untaken c.args.self.now.kind world (after_step c.args.step.now world) c.args.heard.now c.args.heard.now
    (subst (λ (s : Step). (after_step s world).commands ≡ world.commands) (sym c.in-Lose.is) (lose_takes c.in-Lose.codec world))
    (grew_still c.args.self.now.kind world (after_step c.args.step.now world) c.args.heard.now (subst (λ (s : Step). (after_step s world).carried ≡ world.carried) (sym c.in-Lose.is) (lose_carries c.in-Lose.codec world)))

pub returns-in-Rirb-clause-stands : goal.returns-in-Rirb-clause-stands
returns-in-Rirb-clause-stands c world is =
    subst (λ (s : Step). StandsFor c.rirb.new.memory c.rirb.new.self (after_step s world)) (sym c.in-Rirb.is) (c.rirb.ensures.stands world is)

pub returns-in-Rirb-clause-heard : goal.returns-in-Rirb-clause-heard
returns-in-Rirb-clause-heard c world is =
    grew_untaken c.args.self.now.kind world (after_step c.args.step.now world) c.args.heard.now c.args.heard.now
    (subst (λ (s : Step). (after_step s world).commands ≡ world.commands) (sym c.in-Rirb.is) refl)
    (grew_still c.args.self.now.kind world (after_step c.args.step.now world) c.args.heard.now (subst (λ (s : Step). (after_step s world).carried ≡ world.carried) (sym c.in-Rirb.is) refl))

pub returns-in-Fetch-clause-stands : goal.returns-in-Fetch-clause-stands
returns-in-Fetch-clause-stands c world is =
    subst (λ (s : Step). StandsFor c.fetch.new.memory c.fetch.new.self (after_step s world)) (sym c.in-Fetch.is) (c.fetch.ensures.stands world is)

pub returns-in-Fetch-clause-heard : goal.returns-in-Fetch-clause-heard
returns-in-Fetch-clause-heard c world is =
    grew_untaken c.args.self.now.kind world (after_step c.args.step.now world) c.args.heard.now c.args.heard.now
    (subst (λ (s : Step). (after_step s world).commands ≡ world.commands) (sym c.in-Fetch.is) (fetch_takes c.in-Fetch.stream c.in-Fetch.most world))
    (grew_still c.args.self.now.kind world (after_step c.args.step.now world) c.args.heard.now (subst (λ (s : Step). (after_step s world).carried ≡ world.carried) (sym c.in-Fetch.is) (fetch_carries c.in-Fetch.stream c.in-Fetch.most world)))

pub returns-in-Plug-clause-stands : goal.returns-in-Plug-clause-stands
returns-in-Plug-clause-stands c world is =
    subst (λ (s : Step). StandsFor c.args.memory.now c.plug.new.self (after_step s world)) (sym c.in-Plug.is) (c.plug.ensures.stands c.args.memory.now world is)

pub returns-in-Plug-clause-heard : goal.returns-in-Plug-clause-heard
returns-in-Plug-clause-heard c world is =
    grew_untaken c.args.self.now.kind world (after_step c.args.step.now world) c.args.heard.now c.args.heard.now
    (subst (λ (s : Step). (after_step s world).commands ≡ world.commands) (sym c.in-Plug.is) refl)
    (grew_still c.args.self.now.kind world (after_step c.args.step.now world) c.args.heard.now (subst (λ (s : Step). (after_step s world).carried ≡ world.carried) (sym c.in-Plug.is) refl))

pub returns-in-Unplug-clause-stands : goal.returns-in-Unplug-clause-stands
returns-in-Unplug-clause-stands c world is =
    subst (λ (s : Step). StandsFor c.args.memory.now c.plug-in-Unplug.new.self (after_step s world)) (sym c.in-Unplug.is) (c.plug-in-Unplug.ensures.stands c.args.memory.now world is)

pub returns-in-Unplug-clause-heard : goal.returns-in-Unplug-clause-heard
returns-in-Unplug-clause-heard c world is =
    grew_untaken c.args.self.now.kind world (after_step c.args.step.now world) c.args.heard.now c.args.heard.now
    (subst (λ (s : Step). (after_step s world).commands ≡ world.commands) (sym c.in-Unplug.is) refl)
    (grew_still c.args.self.now.kind world (after_step c.args.step.now world) c.args.heard.now (subst (λ (s : Step). (after_step s world).carried ≡ world.carried) (sym c.in-Unplug.is) refl))

pub returns-in-Link-clause-stands : goal.returns-in-Link-clause-stands
returns-in-Link-clause-stands c world is =
    subst (λ (s : Step). StandsFor c.args.memory.now c.link.new.self (after_step s world)) (sym c.in-Link.is) (c.link.ensures.stands c.args.memory.now world is)

pub returns-in-Link-clause-heard : goal.returns-in-Link-clause-heard
returns-in-Link-clause-heard c world is =
    subst (λ (s : Step). GrewAs c.args.self.now.kind world (after_step s world) c.args.heard.now c.link.new.heard) (sym c.in-Link.is)
    (grew_untaken c.args.self.now.kind world (after_step (step.Link c.in-Link.frames) world) c.args.heard.now c.link.new.heard (frames_take c.in-Link.frames world) (c.link.ensures.heard c.args.memory.now world is))

pub returns-in-Corb-clause-came : goal.returns-in-Corb-clause-came
returns-in-Corb-clause-came c world is = came_still world (after_step c.args.step.now world) c.args.came.now.items (subst (λ (s : Step). (after_step s world).came ≡ world.came) (sym c.in-Corb.is) (corb_brings world))

pub returns-in-Answer-clause-came : goal.returns-in-Answer-clause-came
returns-in-Answer-clause-came c world is = came_still world (after_step c.args.step.now world) c.args.came.now.items (subst (λ (s : Step). (after_step s world).came ≡ world.came) (sym c.in-Answer.is) (answer_brings c.in-Answer.codec world))

pub returns-in-Lose-clause-came : goal.returns-in-Lose-clause-came
returns-in-Lose-clause-came c world is = came_still world (after_step c.args.step.now world) c.args.came.now.items (subst (λ (s : Step). (after_step s world).came ≡ world.came) (sym c.in-Lose.is) (lose_brings c.in-Lose.codec world))

pub returns-in-Rirb-clause-came : goal.returns-in-Rirb-clause-came
returns-in-Rirb-clause-came c world is = came_still world (after_step c.args.step.now world) c.args.came.now.items (subst (λ (s : Step). (after_step s world).came ≡ world.came) (sym c.in-Rirb.is) refl)

pub returns-in-Fetch-clause-came : goal.returns-in-Fetch-clause-came
returns-in-Fetch-clause-came c world is = came_still world (after_step c.args.step.now world) c.args.came.now.items (subst (λ (s : Step). (after_step s world).came ≡ world.came) (sym c.in-Fetch.is) (fetch_brings c.in-Fetch.stream c.in-Fetch.most world))

pub returns-in-Plug-clause-came : goal.returns-in-Plug-clause-came
returns-in-Plug-clause-came c world is = came_still world (after_step c.args.step.now world) c.args.came.now.items (subst (λ (s : Step). (after_step s world).came ≡ world.came) (sym c.in-Plug.is) refl)

pub returns-in-Unplug-clause-came : goal.returns-in-Unplug-clause-came
returns-in-Unplug-clause-came c world is = came_still world (after_step c.args.step.now world) c.args.came.now.items (subst (λ (s : Step). (after_step s world).came ≡ world.came) (sym c.in-Unplug.is) refl)

pub returns-in-Link-clause-came : goal.returns-in-Link-clause-came
returns-in-Link-clause-came c world is =
    subst (λ (s : Step). CameAs world (after_step s world) c.args.came.now.items c.link.new.came.items) (sym c.in-Link.is) (c.link.ensures.came c.args.memory.now world is)

pub returns-in-Link-clause-space : goal.returns-in-Link-clause-space
returns-in-Link-clause-space c more fits =
    c.link.ensures.space more (subst (λ (s : Step). vec_len c.args.came.now + (most_items s + more) ≤ vec_capacity c.args.came.now) c.in-Link.is fits)
