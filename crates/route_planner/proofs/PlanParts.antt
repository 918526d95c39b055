-- Parts of a plan: the outcome at a place, and the rest of a path from a place on.
use Rattle.std.proofs.Common.{◌≡◌, ◌<◌, ◌≤◌, ℕ, List, [], ◌∷◌, ◌++◌, take, drop, length, get_or, zero, suc, subst, append_assoc, append-nil, arith}
use Rattle.codec_graph.specs.declared.raw.RawCodec.{RawCodec}
use Rattle.stream_format.specs.declared.format.Format.{Format}
use Rattle.codec_graph.specs.declared.pin_kind.PinKind.{PinKind}
use Rattle.route_planner.specs.declared.routes.Hop.{Hop}
use Rattle.route_planner.specs.declared.routes.PinPlan.{PinPlan}
use Rattle.route_planner.specs.Paths.{connection, LeadsTo}
use Rattle.route_planner.specs.Plans.{IsOutcomeAs, HaveOutcomesAs}
use Rattle.route_planner.proofs.Bridge.{match_some}

pub outcome_at : (kind : PinKind) (codec : RawCodec) (format : Format) (earlier entries : List PinPlan) (k : ℕ) (d : PinPlan) → HaveOutcomesAs kind codec format earlier entries → k < length entries
    → IsOutcomeAs kind codec format (earlier ++ take k entries) (get_or entries k d).pair (get_or entries k d).pin (get_or entries k d).outcome
outcome_at kind codec format earlier [] k d have within = absurd (omega arith)
outcome_at kind codec format earlier (entry ∷ entries) zero d have within = rw append-nil have.0
outcome_at kind codec format earlier (entry ∷ entries) (suc k) d have within =
    let rest = outcome_at kind codec format (earlier ++ entry ∷ []) entries k d have.1 (omega arith) in
    let same : (earlier ++ entry ∷ []) ++ take k entries ≡ earlier ++ (entry ∷ take k entries) = append_assoc earlier (entry ∷ []) (take k entries) in
    let node = get_or entries k d in
    subst (λ before. IsOutcomeAs kind codec format before node.pair node.pin node.outcome) same rest

pub leads_from : (codec : RawCodec) (hops : List Hop) (from to k : ℕ) → LeadsTo codec from hops to → k ≤ length hops → (through : ℕ) × LeadsTo codec through (drop k hops) to
leads_from codec hops from to zero leads within = (from, leads)
leads_from codec [] from to (suc k) leads within = absurd (omega arith)
leads_from codec (hop ∷ hops) from to (suc k) leads within =
    let next = match_some (connection codec from hop.index) (λ n. LeadsTo codec n hops to) leads.1 in
    leads_from codec hops next.0 to k next.2 (omega arith)
