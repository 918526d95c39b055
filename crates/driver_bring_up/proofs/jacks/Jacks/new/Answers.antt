use Rattle.std.proofs.Common.{◌≡◌, ℕ, List, length, subst, sym, All, replicate, ◌∙◌, ap, arith}
use Rattle.std.proofs.lemmas.List.{length-replicate}
use Rattle.std.proofs.lemmas.List.Elements.{All-replicate}
use Rattle.driver_bring_up.specs.Jacks.{counter_of}
use Rattle.driver_bring_up.proofs.Counting.{blank_counter}
use Rattle.driver_bring_up.proofs.jacks.Jacks.new.Goals as goal

blank : (rows : List (List ℕ)) → rows ≡ replicate 16 (replicate 64 0) → (codec tag : ℕ) → counter_of rows codec tag ≡ 0
blank rows is codec tag = ap (λ (rows : List (List ℕ)). counter_of rows codec tag) is ∙ blank_counter 16 64 codec tag

blank_tags : List ℕ
blank_tags = replicate 64 0

pub invariant_of-result-clause-codecs : goal.invariant_of-result-clause-codecs
unfolding blank_tags
invariant_of-result-clause-codecs c = ap (λ (rows : List (List ℕ)). length rows) c.no_times.ensures ∙ length-replicate 16 blank_tags

pub invariant_of-result-clause-tags : goal.invariant_of-result-clause-tags
unfolding blank_tags
invariant_of-result-clause-tags c = subst (λ (rows : List (List ℕ)). All (λ (row : List ℕ). length row ≡ 64) rows) (sym c.no_times.ensures)
    (All-replicate (λ (row : List ℕ). length row ≡ 64) 16 blank_tags (length-replicate {A = ℕ} 64 0))

pub invariant_of-result-clause-few : goal.invariant_of-result-clause-few
invariant_of-result-clause-few c = λ codec tag. omega (arith, blank c.no_times.result c.no_times.ensures codec tag)
