-- Formats that say the same are one.
use Rattle.std.proofs.Common.{◌≡◌, ◌≤◌, ◌%◌, ap, subst, ◌∙◌}
use Rattle.std.proofs.Props.{props}
use Rattle.stream_format.specs.declared.format.Format.{Format}
use Rattle.stream_format.specs.Layouts.{Layout, layout}

made : (l : Layout) → l.channels % 2 ≡ 0 → 2 ≤ l.channels → l.channels ≤ 8 → Format
made l even some few = record { rate = l.rate; bits = l.bits; channels = l.channels; even = even; some = some; few = few }

made_once : (l : Layout) (e even : l.channels % 2 ≡ 0) (s some : 2 ≤ l.channels) (f few : l.channels ≤ 8) → made l e s f ≡ made l even some few
made_once l e even s some f few =
    let even_is : e ≡ even = (let p : IsProp (l.channels % 2 ≡ 0) = hlevel props in p e even) in
    let some_is : s ≡ some = (let p : IsProp (2 ≤ l.channels) = hlevel props in p s some) in
    let few_is : f ≡ few = (let p : IsProp (l.channels ≤ 8) = hlevel props in p f few) in
    ap (λ (x : l.channels % 2 ≡ 0). made l x s f) even_is ∙ (ap (λ (x : 2 ≤ l.channels). made l even x f) some_is ∙ ap (λ (x : l.channels ≤ 8). made l even some x) few_is)

format_as : (format : Format) (l : Layout) → layout format ≡ l → (even : l.channels % 2 ≡ 0) (some : 2 ≤ l.channels) (few : l.channels ≤ 8) → format ≡ made l even some few
unfolding made
format_as format l same =
    subst (λ (l : Layout). (even : l.channels % 2 ≡ 0) (some : 2 ≤ l.channels) (few : l.channels ≤ 8) → format ≡ made l even some few) same
    (λ even some few. made_once (layout format) format.even even format.some some format.few few)

pub one_format : (one other : Format) → layout other ≡ layout one → other ≡ one
unfolding made
one_format one other same = format_as other (layout one) same one.even one.some one.few
