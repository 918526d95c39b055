use Rattle.std.proofs.Common.{◌≡◌, ◌<◌, ◌≤◌, ◌+◌, length, set, None, inl, inr, sym, ap, ◌∙◌, arith, below_more}
use Rattle.std.specs.Prelude.{slice_get}
use Rattle.std.specs.Option.{option_and_then}
use Rattle.std.proofs.lemmas.Bool.{cases_lt}
use Rattle.std.proofs.lemmas.List.Edits.{map_over_more}
use Rattle.std.proofs.lemmas.List.{set-get_or}
use Rattle.codec_graph.specs.declared.raw.RawNode.{RawNode}
use Rattle.codec_graph.specs.Listed.{list_fault, listed_node}
use Rattle.codec_graph.proofs.Maps.{all_changed}
use Rattle.codec_graph.proofs.ReadableLists.{fault_past, fault_here}
use Rattle.codec_graph.proofs.listed.expand_nodes.Goals as goal

pub returns-in_err-fault-clause-front : goal.returns-in_err-fault-clause-front
returns-in_err-fault-clause-front c =
    let same = c.in_err-fault.ensures.err in (
      c.loop-place.place,
      ap (λ (node : RawNode). set c.loop-place.nodes c.loop-place.place node) same
          ∙ set-get_or c.loop-place.nodes c.loop-place.place c.index-nodes-place.result
          ∙ c.loop-place.invariant.value,
    )

pub returns-in-Some-clause-found : goal.returns-in-Some-clause-found
returns-in-Some-clause-found c =
    let within : c.loop-place.place < length c.args.nodes.now = omega arith in (
      within,
      record {
        here =
            fault_here c.args.nodes.now c.loop-place.nodes c.loop-place.place c.loop-place.invariant.value c.index-nodes-place.result within
            ∙ sym c.in_ok-fault.ensures.fault
            ∙ c.in-Some.is;
        before = c.loop-place.invariant.clean;
      },
    )

pub returns-in-Some-clause-front : goal.returns-in-Some-clause-front
returns-in-Some-clause-front c =
    let turn = map_over_more listed_node c.args.nodes.now c.loop-place.nodes c.loop-place.place c.index-nodes-place.result (omega arith) c.loop-place.invariant.value c.index-nodes-place.is in (
      c.loop-place.place + 1,
      ap (λ (node : RawNode). set c.loop-place.nodes c.loop-place.place node) (c.in_ok-fault.ensures.list ∙ ap listed_node (sym c.index-nodes-place.is))
          ∙ turn,
    )

pub loop-place-preserved : goal.loop-place-preserved
loop-place-preserved c =
    let turn = map_over_more listed_node c.args.nodes.now c.loop-place.nodes c.loop-place.place c.index-nodes-place.result (omega arith) c.loop-place.invariant.value c.index-nodes-place.is in
    record {
      value =
          ap (λ (node : RawNode). set c.loop-place.nodes c.loop-place.place node) (c.in_ok-fault.ensures.list ∙ ap listed_node (sym c.index-nodes-place.is))
          ∙ turn;
      clean =
          below_more (λ k. option_and_then list_fault (slice_get c.args.nodes.now k) ≡ None) c.loop-place.place c.loop-place.invariant.clean
          (fault_here c.args.nodes.now c.loop-place.nodes c.loop-place.place c.loop-place.invariant.value c.index-nodes-place.result (omega arith)
          ∙ sym c.in_ok-fault.ensures.fault
          ∙ c.in_default.is);
    }

pub returns-clause-found : goal.returns-clause-found
returns-clause-found c =
    let past : length c.args.nodes.now ≤ c.loop-place.place = omega arith in (
      c.loop-place.invariant.value ∙ all_changed listed_node c.args.nodes.now c.loop-place.place past,
      λ place. elim (cases_lt place c.loop-place.place) as (λ _. option_and_then list_fault (slice_get c.args.nodes.now place) ≡ None) [
        | inl lt ↦ c.loop-place.invariant.clean place lt
        | inr ge ↦ fault_past c.args.nodes.now place (omega arith)
      ],
    )

pub returns-clause-front : goal.returns-clause-front
returns-clause-front c = (c.loop-place.place, c.loop-place.invariant.value)
