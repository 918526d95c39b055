use Rattle.std.proofs.Common.{inl, inr, [], false, arith}
use Rattle.std.proofs.lemmas.List.{length-replicate, length-set}
use Rattle.codec_graph.specs.Cycles.{Reaches}
use Rattle.codec_graph.specs.Marks.{IsMarked}
use Rattle.codec_graph.proofs.Reaching.{reaches_on, kept_along, unmarked_count-set, marked-set, not_marked}
use Rattle.codec_graph.proofs.cycles.reached_from.Goals as goal

pub loop-next-init : goal.loop-next-init
loop-next-init c = record {
  long = rw c.no_marks-followed.ensures (length-replicate 256 false);
  reached = λ nid m. elim (c.mark.ensures.only nid m) as (λ _. Reaches c.args.codec.now c.args.start nid) [
    | inl old ↦ absurd (not_marked nid (rw c.no_marks-found.ensures at old))
    | inr listed ↦ ([], rw c.inner_list.ensures at listed)
  ];
  first = λ nid k. c.mark.ensures.listed nid (rw c.inner_list.ensures k);
  followed = λ node nid m k. absurd (not_marked node (rw c.no_marks-followed.ensures at m));
}

pub loop-next-smaller : goal.loop-next-smaller
loop-next-smaller c = unmarked_count-set c.loop-next.followed c.from.result (omega (arith, c.loop-next.invariant.long)) (rw c.from.ensures c.in-Some.ensures.open.1)

pub loop-next-preserved : goal.loop-next-preserved
loop-next-preserved c = record {
  long = rw length-set c.loop-next.invariant.long;
  reached = λ nid m. elim (c.mark-in-Some.ensures.only nid m) as (λ _. Reaches c.args.codec.now c.args.start nid) [
    | inl old ↦ c.loop-next.invariant.reached nid old
    | inr listed ↦ reaches_on c.args.codec.now c.args.start c.in-Some.next nid (c.loop-next.invariant.reached c.in-Some.next c.in-Some.ensures.open.0) (rw c.inner_list-in-Some.ensures at listed)
  ];
  first = λ nid k. c.mark-in-Some.ensures.kept nid (c.loop-next.invariant.first nid k);
  followed = λ node nid m k. elim (marked-set c.loop-next.followed c.from.result node m) as (λ _. IsMarked c.mark-in-Some.new.marks nid) [
    | inl same ↦ c.mark-in-Some.ensures.listed nid (rw (c.inner_list-in-Some.ensures, ← c.from.ensures, ← same) k)
    | inr old ↦ c.mark-in-Some.ensures.kept nid (c.loop-next.invariant.followed node nid old k)
  ];
}

pub returns : goal.returns
returns c = λ nid. (c.loop-next.invariant.reached nid, λ way. kept_along (IsMarked c.loop-next.found) c.args.codec.now (λ node to m k. c.loop-next.invariant.followed node to (c.in_default.ensures.none node m) k) c.args.start way.0 nid c.loop-next.invariant.first way.1)
