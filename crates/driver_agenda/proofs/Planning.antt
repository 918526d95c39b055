-- Plans and verbs of graphs, one graph more at a time.
use Rattle.std.proofs.Common.{◌≡◌, ◌<◌, ℕ, suc, zero, List, [], ◌∷◌, ◌++◌, take, length, get_or, refl, sym, ap, ◌∙◌, append_assoc, append-nil, arith}
use Rattle.verb_codes.specs.declared.verbs.Command.{Command}
use Rattle.codec_graph.specs.declared.raw.RawCodec.{RawCodec}
use Rattle.route_planner.specs.declared.routes.Plan.{Plan}
use Rattle.driver_agenda.specs.Planned.{ArePlansBy, verbs_for}

pub plans_push : (P : RawCodec → Plan → Type 0) (graphs : List RawCodec) (plans : List Plan) (graph : RawCodec) (plan : Plan) → ArePlansBy P graphs plans → P graph plan → ArePlansBy P (graphs ++ graph ∷ []) (plans ++ plan ∷ [])
plans_push P [] [] graph plan are is = (is, tt)
plans_push P [] (other ∷ plans) graph plan are is = absurd are
plans_push P (first ∷ graphs) [] graph plan are is = absurd are
plans_push P (first ∷ graphs) (other ∷ plans) graph plan are is = (are.0, plans_push P graphs plans graph plan are.1 is)

pub plans_long : (P : RawCodec → Plan → Type 0) (graphs : List RawCodec) (plans : List Plan) → ArePlansBy P graphs plans → length plans ≡ length graphs
plans_long P [] [] are = refl
plans_long P [] (other ∷ plans) are = absurd are
plans_long P (first ∷ graphs) [] are = absurd are
plans_long P (first ∷ graphs) (other ∷ plans) are = ap suc (plans_long P graphs plans are.1)

pub plans_at : (P : RawCodec → Plan → Type 0) (graphs : List RawCodec) (plans : List Plan) (i : ℕ) (g : RawCodec) (p : Plan) → ArePlansBy P graphs plans → i < length graphs → P (get_or graphs i g) (get_or plans i p)
plans_at P [] [] i g p are lt = absurd (omega (arith, lt))
plans_at P [] (other ∷ plans) i g p are lt = absurd are
plans_at P (first ∷ graphs) [] i g p are lt = absurd are
plans_at P (first ∷ graphs) (other ∷ plans) zero g p are lt = are.0
plans_at P (first ∷ graphs) (other ∷ plans) (suc i) g p are lt = plans_at P graphs plans i g p are.1 (omega (arith, lt))

-- the verbs of one graph more
pub verbs_more : (f : RawCodec → Plan → List Command) (graphs : List RawCodec) (plans : List Plan) (i : ℕ) (g : RawCodec) (p : Plan) → i < length graphs → length plans ≡ length graphs
    → verbs_for f (take (suc i) graphs) (take (suc i) plans) ≡ verbs_for f (take i graphs) (take i plans) ++ f (get_or graphs i g) (get_or plans i p)
verbs_more f [] plans i g p lt long = absurd (omega (arith, lt))
verbs_more f (graph ∷ graphs) [] i g p lt long = absurd (omega (arith, long))
verbs_more f (graph ∷ graphs) (plan ∷ plans) zero g p lt long = append-nil (f graph plan)
verbs_more f (graph ∷ graphs) (plan ∷ plans) (suc i) g p lt long =
    ap (λ rest. f graph plan ++ rest) (verbs_more f graphs plans i g p (omega (arith, lt)) (omega (arith, long)))
    ∙ sym (append_assoc (f graph plan) (verbs_for f (take i graphs) (take i plans)) (f (get_or graphs i g) (get_or plans i p)))
