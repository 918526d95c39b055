use Rattle.std.proofs.Common.{refl, ap, ◌∙◌}
use Rattle.hda_registers.specs.Fields.{is_running, stream_of}
use Rattle.stream_descriptor.specs.Running.{Playing, sent_bytes}
use Rattle.stream_descriptor.proofs.Filling.{started}
use Rattle.stream_descriptor.proofs.stream.Stream.start.Goals as goal

pub returns-clause-stands : goal.returns-clause-stands
returns-clause-stands c = λ runs capacity.
    started sent_bytes refl c.self.inside.index c.start.new.self c.args.regs.now c.show_start.new.regs c.start.ensures.stands
    (c.start.ensures.capacity ∙ (ap (λ (p : Playing). p.fetch.capacity) c.self.view_is ∙ capacity))
    (ap (λ (p : Playing). is_running (stream_of c.args.regs.now p.index)) c.self.view_is ∙ runs) c.show_start.ensures

pub returns-clause-counted : goal.returns-clause-counted
returns-clause-counted c = λ counts none runs capacity.
    started counts none c.self.inside.index c.start.new.self c.args.regs.now c.show_start.new.regs c.start.ensures.stands
    (c.start.ensures.capacity ∙ (ap (λ (p : Playing). p.fetch.capacity) c.self.view_is ∙ capacity))
    (ap (λ (p : Playing). is_running (stream_of c.args.regs.now p.index)) c.self.view_is ∙ runs) c.show_start.ensures
