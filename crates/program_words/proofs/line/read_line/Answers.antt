use Rattle.std.proofs.Common.{◌≡◌, ◌∙◌, true, map, drop, ap, rules, sym, string_bytes, List, ℕ, length, Some, eq-eqb, arith}
use Rattle.std.proofs.lemmas.List.{length-map}
use Rattle.std.proofs.lemmas.Grind.{common_steps}
use Rattle.std.specs.Borrow.{Bor}
use Rattle.program_words.specs.Lines.{CommandLine}
use Rattle.program_words.specs.Words.{has_single}
use Rattle.program_words.specs.Tables.{grammar_of}
use Rattle.program_words.specs.ClapCommand.{operands_id, values_found}
use Rattle.program_words.proofs.LineLemmas.{line_is, no_numbers, single_no_line, words_after}
use Rattle.program_words.proofs.line.read_line.Goals as goal

pub returns-then-has_single_hyphen-clause-err : goal.returns-then-has_single_hyphen-clause-err
returns-then-has_single_hyphen-clause-err c =
    let after : map string_bytes _ ≡ drop 1 (map string_bytes c.args.words.now) = words_after string_bytes c.args.words.now in
    let single : has_single (drop 1 (map string_bytes c.args.words.now)) ≡ true = cc (ap has_single after) in
    λ _. single_no_line (grammar_of c.args.row.now) (drop 1 (map string_bytes c.args.words.now)) single

pub returns-in_err-numbers-clause-err : goal.returns-in_err-numbers-clause-err
returns-in_err-numbers-clause-err c = λ e.
    no_numbers (grammar_of c.args.row.now) (drop 1 (map string_bytes c.args.words.now)) c.in_ok-matches.matches c.in_ok-matches.ensures.ok (c.in_err-numbers.ensures.err (first_of (cc, search rules, grind (arith, common_steps))))

pub returns-clause-ok : goal.returns-clause-ok
returns-clause-ok c =
    let found : map (λ (w : Bor (List ℕ)). w.now) c.in_ok-operands.operands.items ≡ values_found c.in_ok-matches.matches operands_id = c.in_ok-operands.ensures.found in
    let count : length c.in_ok-operands.operands.items ≡ c.args.row.now.operands = c.in_ok-operands.ensures.count in
    let same_count : length (values_found c.in_ok-matches.matches operands_id) ≡ c.args.row.now.operands = ap length (sym found) ∙ (simp length-map count) in
    line_is (grammar_of c.args.row.now) (drop 1 (map string_bytes c.args.words.now)) c.in_ok-matches.matches c.in_ok-numbers.numbers.items c.in_ok-matches.ensures.ok
    (eq-eqb _ _ same_count) c.in_ok-numbers.ensures.ok
    ∙ ap (λ (operands : List (List ℕ)). let line : CommandLine = record { operands = operands; numbers = c.in_ok-numbers.numbers.items } in Some line) (sym found)
