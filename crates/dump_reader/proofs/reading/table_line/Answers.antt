use Rattle.std.proofs.Common.{◌≡◌, ℕ, List, Option, Some, None, IfOk, sym, ap, subst, ◌∙◌}
use Rattle.dump_reader.specs.declared.facts.NodeFacts.{NodeFacts}
use Rattle.dump_reader.specs.declared.facts.CodecFacts.{CodecFacts}
use Rattle.dump_reader.specs.declared.reading.Reading.{Reading}
use Rattle.dump_reader.specs.Reading.{group_line, table_line}
use Rattle.dump_reader.proofs.reading.table_line.Goals as goal

-- where no widget began, a line of the function group leaves none
grouped : (number : ℕ) (line : List ℕ) (r : Reading) (codec : CodecFacts) (q : Option CodecFacts) (n : Option NodeFacts) → n ≡ None → r.node ≡ None → r.codec ≡ Some codec → group_line number line (record r { codec = q; node = n }) codec ≡ table_line number line r r.codec r.node
grouped number line r codec q n taken none some =
    let by_node : Option NodeFacts → Option Reading = λ m. group_line number line (record r { codec = q; node = m }) codec in
    let by_codec : Option CodecFacts → Option Reading = λ held. table_line number line r held None in
    let by_both : Option NodeFacts → Option Reading = λ m. table_line number line r r.codec m in
    ap by_node (taken ∙ sym none) ∙ ap by_codec (sym some) ∙ ap by_both (sym none)

pub returns-in-Some-take : goal.returns-in-Some-take
returns-in-Some-take c =
    let none : c.args.reading.node ≡ None = sym c.take.ensures.value ∙ c.in_default.is in
    let some : c.args.reading.codec ≡ Some c.in-Some-take.codec = sym c.take-2.ensures.value ∙ c.in-Some-take.is in
    subst (λ (x : Option Reading). IfOk c.group_line.result (λ after. after ≡ x)) (grouped c.args.number c.args.line.now c.args.reading c.in-Some-take.codec c.take-2.new.self c.take.new.self c.take.ensures.after none some) c.group_line.ensures
