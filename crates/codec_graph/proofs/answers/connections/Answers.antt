use Rattle.std.proofs.Common.{◌<◌, ◌^◌, Bool, List, ℕ, sym, ap, subst, ◌∙◌}
use Rattle.std.specs.Prelude.{All}
use Rattle.std.specs.Option.{option_copied}
use Rattle.verb_codes.specs.Lists.{entry_width}
use Rattle.codec_graph.proofs.Narrow.{readable_at}
use Rattle.codec_graph.proofs.answers.connections.Goals as goal

pub list_word_short-requires : goal.list_word_short-requires
list_word_short-requires c =
    let node = c.in-Some.node.now in
    let list = readable_at c.args.codec.now c.args.nid node c.requires (sym c.node.ensures ∙ ap option_copied c.in-Some.is) in
    subst (λ (entries : List ℕ). All (λ entry. entry < 2 ^ 8) entries) (sym c.as_slice-in-Some-2.ensures)
    (subst (λ (long : Bool). All (λ entry. entry < 2 ^ entry_width long) node.entries) c.if-node.false list.fit)
