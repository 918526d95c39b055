use Rattle.hda_model.specs.Keeping.{seen}
use Rattle.hda_model.proofs.Standing.{opened, some_opened}
use Rattle.hda_model.proofs.model.DeviceModel.of_machine.Goals as goal

pub invariant_of-result : goal.invariant_of-result
invariant_of-result c =
    let machine = c.args.machine.now in
    let controller = c.in_ok-controller.controller in
    let lists = c.in_ok-heard.heard in
    let marks = c.new-3.result.items in
    record {
      kind = c.in_ok-controller.ensures.kind;
      known = c.in_ok-controller.ensures.lists lists c.in_ok-heard.ensures.pins;
      stands =
          some_opened machine (seen controller lists marks)
          (opened machine controller lists marks c.in_ok-controller.ensures.stands c.in_ok-heard.ensures.pins c.in_ok-heard.ensures.empty c.new-3.ensures.items);
    }

pub returns : goal.returns
returns c =
    opened c.args.machine.now c.in_ok-controller.controller c.in_ok-heard.heard c.new-3.result.items
    c.in_ok-controller.ensures.stands c.in_ok-heard.ensures.pins c.in_ok-heard.ensures.empty c.new-3.ensures.items
