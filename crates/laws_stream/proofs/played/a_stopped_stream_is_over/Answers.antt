use Rattle.std.proofs.Common.{[], ◌∷◌, ◌++◌, map}
use Rattle.std.proofs.lemmas.List.Elements.{All-append, All-cons, All-nil}
use Rattle.hda_world.specs.Events.{Stepped, End}
use Rattle.laws_stream.proofs.Rows.{all_map}
use Rattle.laws_stream.proofs.Over.{IsNoAccess, over_stays}
use Rattle.laws_stream.proofs.played.a_stopped_stream_is_over.Goals as goal

pub returns-clause-steps : goal.returns-clause-steps
returns-clause-steps c = λ steps old new went was. over_stays old new (map Stepped steps) went (all_map IsNoAccess Stepped (λ step. tt {0}) steps) was

pub returns-clause-end : goal.returns-clause-end
returns-clause-end c = λ old new accessed was.
    over_stays old new (map Stepped accessed.steps ++ End ∷ []) accessed.went
    (All-append IsNoAccess (map Stepped accessed.steps) (End ∷ []) (all_map IsNoAccess Stepped (λ step. tt {0}) accessed.steps) (All-cons IsNoAccess End [] (tt {0}) (All-nil IsNoAccess)))
    was
