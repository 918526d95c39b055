use Rattle.std.proofs.Common.{◌≤◌, inl, inr, refl, arith, below_more}
use Rattle.std.proofs.lemmas.Bool.{cases_lt}
use Rattle.codec_graph.specs.Cycles.{IsOnCycle}
use Rattle.codec_graph.proofs.Tables.{counted_by}
use Rattle.codec_graph.proofs.Reaching.{no_cycle_past}
use Rattle.codec_graph.proofs.cycles.check_cycles.Goals as goal

pub returns-then-is_on_cycle-clause-cycle : goal.returns-then-is_on_cycle-clause-cycle
returns-then-is_on_cycle-clause-cycle c =
    (c.if-is_on_cycle.ensures.0 refl, λ other cycle. elim (cases_lt other c.loop-nid.nid) as (λ _. c.loop-nid.nid ≤ other) [ inl lt ↦ absurd (c.loop-nid.invariant other lt cycle) | inr ge ↦ ge ])

pub loop-nid-preserved : goal.loop-nid-preserved
loop-nid-preserved c =
    below_more (λ other. IsOnCycle c.args.codec.now other → ⊥) _ c.loop-nid.invariant (λ cycle. let e = c.if-is_on_cycle.ensures.1 cycle in cc)

pub returns-clause-acyclic : goal.returns-clause-acyclic
returns-clause-acyclic c = λ nid cycle. elim (cases_lt nid 128) as (λ _. ⊥) [
  | inl lt ↦ c.loop-nid.invariant nid (omega (arith, lt)) cycle
  | inr ge ↦ no_cycle_past c.args.codec.now (counted_by c.args.codec.now c.requires) nid ge cycle
]

pub returns-then-are_safe-clause-acyclic : goal.returns-then-are_safe-clause-acyclic
returns-then-are_safe-clause-acyclic c = λ nid cycle. elim (cases_lt nid 128) as (λ _. ⊥) [
  | inl lt ↦ c.if-are_safe.ensures refl nid lt cycle
  | inr ge ↦ no_cycle_past c.args.codec.now (counted_by c.args.codec.now c.requires) nid ge cycle
]
