-- Ways that are cut, joined or changed for others, over any connections.
use Rattle.std.proofs.Common.{◌≡◌, ◌<◌, ◌⊎◌, ℕ, Bool, true, List, [], ◌∷◌, ◌++◌, take, drop, length, get_or, Option, Some, refl, sym, ap, subst, ◌∙◌, inl, inr, zero, suc, arith}
use Rattle.std.specs.Prelude.{Contains}
use Rattle.std.proofs.lemmas.List.{length-append, length-take, length-drop}
use Rattle.route_planner.specs.declared.routes.Hop.{Hop}
use Rattle.route_planner.specs.Ways.{IsWay, IsWayOut}

-- the rest of a way from one of its nodes on
drop_way : (inner : ℕ → Bool) (next : ℕ → ℕ → Option ℕ) (end : ℕ → Bool) (hops : List Hop) (k : ℕ) (d : Hop) (from to : ℕ) → k < length hops → IsWay inner next end from hops to → IsWay inner next end (get_or hops k d).nid (drop k hops) to
drop_way inner next end [] k d from to within way = absurd (omega arith)
drop_way inner next end (hop ∷ hops) zero d from to within way = subst (λ (n : ℕ). IsWay inner next end n (hop ∷ hops) to) (sym way.1.0) way
drop_way inner next end (hop ∷ hops) (suc k) d from to within way = drop_way inner next end hops k d way.1.1.0 to (omega arith) way.1.1.2

-- the first hops of a way, and then another way from the node that they reach
join_way : (inner : ℕ → Bool) (next : ℕ → ℕ → Option ℕ) (end : ℕ → Bool) (hops : List Hop) (k : ℕ) (d : Hop) (others : List Hop) (from to other : ℕ) → k < length hops → IsWay inner next end from hops to → IsWay inner next end (get_or hops k d).nid others other → IsWay inner next end from (take k hops ++ others) other
join_way inner next end [] k d others from to other within way rest = absurd (omega arith)
join_way inner next end (hop ∷ hops) zero d others from to other within way rest = subst (λ (n : ℕ). IsWay inner next end n others other) way.1.0 rest
join_way inner next end (hop ∷ hops) (suc k) d others from to other within way rest =
    (way.0, (way.1.0, (way.1.1.0, way.1.1.1, join_way inner next end hops k d others way.1.1.0 to other (omega arith) way.1.1.2 rest)))

out_of_way : (inner : ℕ → Bool) (next : ℕ → ℕ → Option ℕ) (end : ℕ → Bool) (from : ℕ) (hops : List Hop) (to : ℕ) → IsWay inner next end from hops to → 0 < length hops → IsWayOut inner next end from hops to
out_of_way inner next end from [] to way some = absurd (omega arith)
out_of_way inner next end from (hop ∷ hops) to way some = way.1

pub drop_way_out : (inner : ℕ → Bool) (next : ℕ → ℕ → Option ℕ) (end : ℕ → Bool) (hops : List Hop) (k : ℕ) (d : Hop) (from to : ℕ) → k < length hops → inner (get_or hops k d).nid ≡ true → IsWayOut inner next end from hops to → IsWay inner next end (get_or hops k d).nid (drop k hops) to
drop_way_out inner next end [] k d from to within is way = absurd way
drop_way_out inner next end (hop ∷ hops) zero d from to within is way = (is, subst (λ (n : ℕ). IsWayOut inner next end n (hop ∷ hops) to) (sym way.0) way)
drop_way_out inner next end (hop ∷ hops) (suc k) d from to within is way = drop_way inner next end hops k d way.1.0 to (omega arith) way.1.2

join_way_out : (inner : ℕ → Bool) (next : ℕ → ℕ → Option ℕ) (end : ℕ → Bool) (hops : List Hop) (k : ℕ) (d : Hop) (others : List Hop) (from to other : ℕ) → k < length hops → 0 < length others → IsWayOut inner next end from hops to → IsWay inner next end (get_or hops k d).nid others other → IsWayOut inner next end from (take k hops ++ others) other
join_way_out inner next end [] k d others from to other within some way rest = absurd way
join_way_out inner next end (hop ∷ hops) zero d others from to other within some way rest =
    out_of_way inner next end from others other (subst (λ (n : ℕ). IsWay inner next end n others other) way.0 rest) some
join_way_out inner next end (hop ∷ hops) (suc k) d others from to other within some way rest =
    (way.0, (way.1.0, way.1.1, join_way inner next end hops k d others way.1.0 to other (omega arith) way.1.2 rest))

-- a way that meets a node twice can leave out what is between
pub cut_way_out : (inner : ℕ → Bool) (next : ℕ → ℕ → Option ℕ) (end : ℕ → Bool) (hops : List Hop) (j k : ℕ) (d : Hop) (from to : ℕ) → j < k → k < length hops → (get_or hops j d).nid ≡ (get_or hops k d).nid → inner (get_or hops k d).nid ≡ true → IsWayOut inner next end from hops to → IsWayOut inner next end from (take j hops ++ drop k hops) to × (length (take j hops ++ drop k hops) < length hops)
cut_way_out inner next end hops j k d from to less within same is way =
    let rest = drop_way_out inner next end hops k d from to within is way in
    let there = subst (λ (n : ℕ). IsWay inner next end n (drop k hops) to) (sym same) rest in
    (join_way_out inner next end hops j d (drop k hops) from to to (omega arith) (omega (arith, length-drop k hops)) way there, omega (arith, length-append (take j hops) (drop k hops), length-take j hops, length-drop k hops))

-- a way along some connections is one along others that have those of its hops
pub other_way : (inner : ℕ → Bool) (next other : ℕ → ℕ → Option ℕ) (end goal : ℕ → Bool) → ((nid : ℕ) → end nid ≡ true → goal nid ≡ true) → (hops : List Hop) (from to : ℕ) → ((hop : Hop) → Contains hops hop → (n : ℕ) → next hop.nid hop.index ≡ Some n → other hop.nid hop.index ≡ Some n) → IsWay inner next end from hops to → IsWay inner other goal from hops to
other_way inner next other end goal ends [] from to same way = (way.0, ends to way.1)
other_way inner next other end goal ends (hop ∷ hops) from to same way =
    let here : next hop.nid hop.index ≡ Some way.1.1.0 = ap (λ (n : ℕ). next n hop.index) way.1.0 ∙ way.1.1.1 in
    let there : other from hop.index ≡ Some way.1.1.0 = ap (λ (n : ℕ). other n hop.index) (sym way.1.0) ∙ same hop (0, omega arith, refl) way.1.1.0 here in
    (way.0, (way.1.0, (way.1.1.0, there, other_way inner next other end goal ends hops way.1.1.0 to (λ twin has. same twin (suc has.0, omega (arith, has.1), has.2)) way.1.1.2)))

-- where each node either has the same connections or a way of its own, there is a way
change_way : (inner : ℕ → Bool) (next other : ℕ → ℕ → Option ℕ) (end goal : ℕ → Bool) → ((nid : ℕ) → end nid ≡ true → goal nid ≡ true) → ((nid : ℕ) → inner nid ≡ true → ((index n : ℕ) → next nid index ≡ Some n → other nid index ≡ Some n) ⊎ ((hops : List Hop) × (to : ℕ) × IsWay inner other goal nid hops to)) → (hops : List Hop) (from to : ℕ) → IsWay inner next end from hops to → (others : List Hop) × (there : ℕ) × IsWay inner other goal from others there
change_way inner next other end goal ends each [] from to way = ([], to, (way.0, ends to way.1))
change_way inner next other end goal ends each (hop ∷ hops) from to way =
    elim (each from way.0) [
      | inl same ↦
          let rest = change_way inner next other end goal ends each hops way.1.1.0 to way.1.1.2 in
          (hop ∷ rest.0, rest.1, (way.0, (way.1.0, (way.1.1.0, same hop.index way.1.1.0 way.1.1.1, rest.2))))
      | inr own ↦ own
    ]

pub change_way_out : (inner : ℕ → Bool) (next other : ℕ → ℕ → Option ℕ) (end goal : ℕ → Bool) → ((nid : ℕ) → end nid ≡ true → goal nid ≡ true) → ((nid : ℕ) → inner nid ≡ true → ((index n : ℕ) → next nid index ≡ Some n → other nid index ≡ Some n) ⊎ ((hops : List Hop) × (to : ℕ) × IsWay inner other goal nid hops to)) → (hops : List Hop) (from to : ℕ) → ((index n : ℕ) → next from index ≡ Some n → other from index ≡ Some n) → IsWayOut inner next end from hops to → (others : List Hop) × (there : ℕ) × IsWayOut inner other goal from others there
change_way_out inner next other end goal ends each [] from to start way = absurd way
change_way_out inner next other end goal ends each (hop ∷ hops) from to start way =
    let rest = change_way inner next other end goal ends each hops way.1.0 to way.1.2 in
    (hop ∷ rest.0, rest.1, (way.0, (way.1.0, start hop.index way.1.0 way.1.1, rest.2)))

-- the same for a way out
pub other_way_out : (inner : ℕ → Bool) (next other : ℕ → ℕ → Option ℕ) (end goal : ℕ → Bool) → ((nid : ℕ) → end nid ≡ true → goal nid ≡ true) → (hops : List Hop) (from to : ℕ) → ((hop : Hop) → Contains hops hop → (n : ℕ) → next hop.nid hop.index ≡ Some n → other hop.nid hop.index ≡ Some n) → IsWayOut inner next end from hops to → IsWayOut inner other goal from hops to
other_way_out inner next other end goal ends [] from to same way = absurd way
other_way_out inner next other end goal ends (hop ∷ hops) from to same way =
    let here : next hop.nid hop.index ≡ Some way.1.0 = ap (λ (n : ℕ). next n hop.index) way.0 ∙ way.1.1 in
    let there : other from hop.index ≡ Some way.1.0 = ap (λ (n : ℕ). other n hop.index) (sym way.0) ∙ same hop (0, omega arith, refl) way.1.0 here in
    (way.0, (way.1.0, there, other_way inner next other end goal ends hops way.1.0 to (λ twin has. same twin (suc has.0, omega (arith, has.1), has.2)) way.1.2))
