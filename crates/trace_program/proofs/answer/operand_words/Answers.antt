use Rattle.std.proofs.Common.{◌≡◌, ◌∙◌, ◌-◌, drop, length, take, string_bytes, sym, arith, length-drop}
use Rattle.std.proofs.lemmas.List.{take_all}
use Rattle.trace_program.proofs.WordLemmas.{operands_plain, operands_raw}
use Rattle.trace_program.proofs.answer.operand_words.Goals as goal

pub returns-then-is_raw : goal.returns-then-is_raw
returns-then-is_raw c =
    let words = c.args.words.now in
    let whole : take (length words - 1) (drop 1 words) ≡ drop 1 words = take_all (length words - 1) (drop 1 words) (omega (arith, length-drop 1 words)) in
    rw whole (operands_raw string_bytes c.args.words.now (sym c.is_raw.ensures ∙ c.if-is_raw.true))

pub returns-else-is_raw : goal.returns-else-is_raw
returns-else-is_raw c = operands_plain string_bytes c.args.words.now (sym c.is_raw.ensures ∙ c.if-is_raw.false)
