-- The candidate pins of a codec have one order.
use Rattle.std.proofs.Common.{◌≡◌, ◌==◌, ◌&&◌, ◌||◌, ◌⊎◌, ℕ, Bool, true, List, [], ◌∷◌, ◌++◌, get_or, refl, sym, subst, ◌∙◌, inl, inr, suc, arith}
use Rattle.std.specs.Prelude.{AllPairs, Contains, nat_lt}
use Rattle.std.proofs.lemmas.Bool.Decides.{nat_tests}
use Rattle.std.proofs.lemmas.List.Elements.{Contains-append_right, Contains-append_cases}
use Rattle.codec_graph.specs.declared.raw.RawCodec.{RawCodec}
use Rattle.codec_graph.specs.Widget.{node_at}
use Rattle.codec_graph.specs.declared.pin_kind.PinKind.{PinKind}
use Rattle.codec_graph.specs.Order.{association_of, sequence_of, comes_before, IsOrderAs}

abbrev before : ℕ → ℕ → ℕ → ℕ → ℕ → ℕ → Bool
before a b s t m n = nat_lt a b || (a == b && (nat_lt s t || (s == t && nat_lt m n)))

not_both : (a b s t m n : ℕ) → before a b s t m n ≡ true → before b a t s n m ≡ true → ⊥
not_both a b s t m n one other = grind (arith, nat_tests)

pub asymmetric : (codec : RawCodec) (pin other : ℕ) → comes_before codec pin other ≡ true → comes_before codec other pin ≡ true → ⊥
asymmetric codec pin other =
    not_both (association_of (node_at codec pin)) (association_of (node_at codec other)) (sequence_of (node_at codec pin)) (sequence_of (node_at codec other)) pin other

head_first : (R : ℕ → ℕ → Type 0) (x : ℕ) (xs : List ℕ) → AllPairs R (x ∷ xs) → (z : ℕ) → Contains xs z → R x z
head_first R x xs pairs z has = subst (λ (n : ℕ). R x n) has.2 (pairs 0 (suc has.0) z (omega arith) (omega (arith, has.1)))

tail_pairs : (R : ℕ → ℕ → Type 0) (x : ℕ) (xs : List ℕ) → AllPairs R (x ∷ xs) → AllPairs R xs
tail_pairs R x xs pairs i j d less within = pairs (suc i) (suc j) d (omega arith) (omega arith)

cases_cons : (x : ℕ) (xs : List ℕ) (z : ℕ) → Contains (x ∷ xs) z → (x ≡ z) ⊎ Contains xs z
cases_cons x xs z has =
    elim (Contains-append_cases (x ∷ []) xs z has) [
      | inl here ↦ let first : here.0 ≡ 0 = omega (arith, here.1) in inl (subst (λ (k : ℕ). get_or (x ∷ []) k z ≡ z) first here.2)
      | inr later ↦ inr later
    ]

in_head : (x : ℕ) (xs : List ℕ) → Contains (x ∷ xs) x
in_head x xs = (0, omega arith, refl)

in_tail : (x : ℕ) (xs : List ℕ) (z : ℕ) → Contains xs z → Contains (x ∷ xs) z
in_tail x xs z has = Contains-append_right (x ∷ []) xs z has

-- two lists with the same elements, each ascending, are one
same_list : (R : ℕ → ℕ → Type 0) → ((x y : ℕ) → R x y → R y x → ⊥) → (xs ys : List ℕ) → AllPairs R xs → AllPairs R ys → ((z : ℕ) → Contains xs z → Contains ys z) → ((z : ℕ) → Contains ys z → Contains xs z) → xs ≡ ys
same_list R asym [] [] up_x up_y there back = refl
same_list R asym [] (y ∷ ys) up_x up_y there back = let has = back y (in_head y ys) in absurd (omega (arith, has.1))
same_list R asym (x ∷ xs) [] up_x up_y there back = let has = there x (in_head x xs) in absurd (omega (arith, has.1))
same_list R asym (x ∷ xs) (y ∷ ys) up_x up_y there back =
    let same : x ≡ y = elim (cases_cons y ys x (there x (in_head x xs))) [
      | inl e ↦ sym e
      | inr in_ys ↦ elim (cases_cons x xs y (back y (in_head y ys))) [
        | inl e ↦ e
        | inr in_xs ↦ absurd (asym x y (head_first R x xs up_x y in_xs) (head_first R y ys up_y x in_ys))
      ]
    ]
    in
    let never_x : (z : ℕ) → Contains xs z → x ≡ z → ⊥ = λ z has e. let r = head_first R x xs up_x z has in let twin = subst (λ (n : ℕ). R x n) (sym e) r in asym x x twin twin in
    let never_y : (z : ℕ) → Contains ys z → y ≡ z → ⊥ = λ z has e. let r = head_first R y ys up_y z has in let twin = subst (λ (n : ℕ). R y n) (sym e) r in asym y y twin twin in
    let rest : xs ≡ ys = same_list R asym xs ys (tail_pairs R x xs up_x) (tail_pairs R y ys up_y)
    (λ z has. elim (cases_cons y ys z (there z (in_tail x xs z has))) [ inl e ↦ absurd (never_x z has (same ∙ e)) | inr h ↦ h ])
    (λ z has. elim (cases_cons x xs z (back z (in_tail y ys z has))) [ inl e ↦ absurd (never_y z has (sym same ∙ e)) | inr h ↦ h ])
    in
    cc

pub same_order : (kind : PinKind) (codec : RawCodec) (xs ys : List ℕ) → IsOrderAs kind codec xs → IsOrderAs kind codec ys → xs ≡ ys
same_order kind codec xs ys one other =
    same_list (λ pin other. comes_before codec pin other ≡ true) (asymmetric codec) xs ys one.ascending other.ascending (λ z has. (other.exactly z).1 ((one.exactly z).0 has)) (λ z has. (one.exactly z).1 ((other.exactly z).0 has))
