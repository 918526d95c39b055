use Rattle.std.proofs.Common.{◌≡◌, ℕ, suc, ◌-◌, sym, ap, subst, ◌∙◌, arith}
use Rattle.std.specs.Option.{option_map}
use Rattle.stream_format.specs.Layouts.{layout}
use Rattle.hda_registers.specs.Fields.{stream_of}
use Rattle.stream_descriptor.specs.Running.{LeadsTo, fetched_at}
use Rattle.stream_descriptor.proofs.Placing.{leads_nowhere}
use Rattle.stream_descriptor.proofs.Filling.{still_fetched, none_fetched, no_format, broke_fetched}
use Rattle.stream_descriptor.proofs.stream.Stream.fetch.Goals as goal

pub returns-then-most-eq0-clause-leads : goal.returns-then-most-eq0-clause-leads
returns-then-most-eq0-clause-leads c = λ state stands.
    subst (λ (most : ℕ). LeadsTo c.args.self.now c.args.regs.now c.args.regs.now (fetched_at c.args.self.now.index most c.args.memory.now c.args.regs.now state)) (sym c.if-most-eq0.true)
    (subst (LeadsTo c.args.self.now c.args.regs.now c.args.regs.now) (sym (none_fetched c.args.self.now.index c.args.memory.now c.args.regs.now state)) (leads_nowhere c.args.self.now c.args.regs.now state stands))

pub returns-then-not-is_playing-clause-leads : goal.returns-then-not-is_playing-clause-leads
returns-then-not-is_playing-clause-leads c = λ state stands.
    subst (LeadsTo c.args.self.now c.args.regs.now c.args.regs.now)
    (sym (still_fetched c.args.self.now.index c.args.most c.args.memory.now c.args.regs.now state (sym c.is_playing.ensures ∙ c.if-not-is_playing.true)))
    (leads_nowhere c.args.self.now c.args.regs.now state stands)

some_more : (most : ℕ) → (most ≡ 0 → ⊥) → suc (most - 1) ≡ most
some_more most some = omega (arith, some)

pub returns-in-None-clause-leads : goal.returns-in-None-clause-leads
returns-in-None-clause-leads c = λ state stands.
    subst (λ (most : ℕ). LeadsTo c.break_off.new.self c.args.regs.now c.break_off.new.regs (fetched_at c.args.self.now.index most c.args.memory.now c.args.regs.now state)) (some_more c.args.most c.if-most-eq0.false)
    (broke_fetched c.args.self.now c.break_off.new.self (c.args.most - 1) c.args.memory.now c.args.regs.now c.break_off.new.regs state stands (sym c.is_playing.ensures ∙ c.if-not-is_playing.false)
    (no_format (stream_of c.args.regs.now c.args.self.now.index) (ap (option_map layout) (sym c.in-None.is) ∙ c.usable_format.ensures)) c.break_off.ensures.index c.break_off.ensures.capacity c.break_off.ensures.empty c.break_off.ensures.registers)
