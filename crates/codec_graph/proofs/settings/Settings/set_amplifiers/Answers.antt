use Rattle.std.proofs.Common.{ap, ◌∙◌}
use Rattle.codec_graph.specs.Settings.{put_all}
use Rattle.codec_graph.specs.VerbMeaning.{kept_amplifier, node_output_word}
use Rattle.codec_graph.specs.Widget.{node_at}
use Rattle.codec_graph.proofs.Writes.{sides_with, sides-put}
use Rattle.codec_graph.proofs.settings.Settings.set_amplifiers.Goals as goal

pub returns : goal.returns
returns c =
    let setting = c.args.setting in
    let output = c.kept_amplifier-output.ensures ∙ ap (λ word. kept_amplifier word setting) c.amplifier_words-output.ensures.output in
    let input = c.kept_amplifier-input.ensures ∙ ap (λ word. kept_amplifier word setting) c.amplifier_words-output.ensures.input in
    sides-put c.args.codec.now c.args.self.now c.put_side.new.self c.put_side-2.new.self c.put_side-3.new.self c.put_side-4.new.self c.args.nid setting _ _ c.requires.well_formed c.requires.keys c.put_side.ensures c.put_side-2.ensures c.put_side-3.ensures c.put_side-4.ensures
    ∙ ap (λ n. put_all c.args.self.now (sides_with c.args.codec.now c.args.nid setting n c.kept_amplifier-input.result)) output
    ∙ ap (λ n. put_all c.args.self.now (sides_with c.args.codec.now c.args.nid setting (kept_amplifier (node_output_word c.args.codec.now (node_at c.args.codec.now c.args.nid)) setting) n)) input
