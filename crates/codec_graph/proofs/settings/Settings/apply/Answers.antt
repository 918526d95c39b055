use Rattle.std.proofs.Common.{◌≡◌, subst, sym, ap, ◌∙◌}
use Rattle.codec_graph.specs.Settings.{Entries, setting_at, put_all, IsSettingsOf}
use Rattle.codec_graph.specs.VerbMeaning.{verb_writes, writes_of, after}
use Rattle.codec_graph.specs.declared.raw.RawCodec.{RawCodec}
use Rattle.std.specs.Map.{keys_of}
use Rattle.codec_graph.proofs.Unchanged.{keys-after, setting_at-after, after-nothing}
use Rattle.codec_graph.proofs.Writes.{IsSettingsOf-after}
use Rattle.codec_graph.proofs.settings.Settings.apply.Goals as goal

applied : (c : goal.After-apply_verb) → c.apply_verb.new.self ≡ after c.args.graph.now c.args.self.now c.args.verb.now
unfolding after writes_of
applied c =
    c.apply_verb.ensures
    ∙ ap (λ (codec : RawCodec). put_all c.args.self.now (verb_writes codec c.args.self.now c.args.verb.now.nid c.args.verb.now.verb)) c.raw.ensures.value

pub returns-clause-value : goal.returns-clause-value
returns-clause-value c = applied c

pub returns-clause-of_graph : goal.returns-clause-of_graph
returns-clause-of_graph c =
    subst (λ (settings : Entries). IsSettingsOf c.args.graph.now settings) (sym (applied c)) (IsSettingsOf-after c.args.graph.now c.args.self.now c.args.verb.now c.requires.settings c.requires.verb)

pub returns-clause-keys : goal.returns-clause-keys
returns-clause-keys c =
    ap (λ (settings : Entries). keys_of settings) (applied c) ∙ keys-after c.args.graph.now c.args.self.now c.args.verb.now

pub returns-clause-others : goal.returns-clause-others
returns-clause-others c =
    λ nid control none. ap (λ (settings : Entries). setting_at settings nid control) (applied c) ∙ setting_at-after c.args.graph.now c.args.self.now c.args.verb.now nid control none

pub returns-clause-nothing : goal.returns-clause-nothing
returns-clause-nothing c = λ none. applied c ∙ after-nothing c.args.graph.now c.args.self.now c.args.verb.now none
