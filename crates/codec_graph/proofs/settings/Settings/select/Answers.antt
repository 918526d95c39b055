use Rattle.std.proofs.Common.{◌≡◌, [], cond, true, sym, ap, ◌∙◌, arith}
use Rattle.std.specs.Prelude.{nat_lt}
use Rattle.std.proofs.lemmas.Bool.{lt-ltb}
use Rattle.codec_graph.specs.declared.controls.Control.TheVariants.{Select}
use Rattle.codec_graph.specs.Settings.{key, put, put_all}
use Rattle.codec_graph.specs.Widget.{node_at}
use Rattle.codec_graph.specs.VerbMeaning.{written, node_connections}
use Rattle.codec_graph.proofs.Writes.{put_all_written}
use Rattle.codec_graph.proofs.settings.Settings.select.Goals as goal

pub returns-then-from-connections : goal.returns-then-from-connections
returns-then-from-connections c =
    let there : nat_lt c.args.place (node_connections (node_at c.args.codec.now c.args.nid)) ≡ true = lt-ltb _ _ (omega arith) in
    c.put.ensures
    ∙ ap (λ n. put c.args.self.now (key c.args.nid Select) n) c.from-then-from-connections.ensures
    ∙ sym (put_all_written c.args.codec.now c.args.self.now c.args.nid Select c.args.place c.requires.well_formed c.requires.keys)
    ∙ ap (λ b. put_all c.args.self.now (cond b (written c.args.codec.now c.args.nid Select c.args.place) [])) (sym there)
