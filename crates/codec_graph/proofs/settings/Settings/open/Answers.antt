use Rattle.std.proofs.Common.{ℕ, ◌≡◌, [], ◌∷◌, ◌++◌, cond, sym, ap, subst, ◌∙◌, arith}
use Rattle.std.specs.Prelude.{All}
use Rattle.std.specs.BTreeMap.{insert_entry}
use Rattle.std.proofs.lemmas.List.Elements.{All-nil, All-cons, All-append}
use Rattle.codec_graph.specs.declared.controls.ControlKey.{ControlKey}
use Rattle.codec_graph.specs.Settings.{Entries, key, key_cmp, opening_value, opened, IsSetting}
use Rattle.codec_graph.proofs.Openings.{IsSetting-opening}
use Rattle.codec_graph.proofs.Ascending.{insert_last}
use Rattle.codec_graph.proofs.settings.Settings.open.Goals as goal

inserted : (c : goal.In_ok-insert) → c.insert.new.self.entries ≡ c.args.self.now ++ (key c.args.nid c.args.control, opening_value c.args.codec.now c.args.nid c.args.control) ∷ []
unfolding key_cmp
inserted c =
    c.in_ok-insert.ensures.entries
    ∙ ap (λ (entries : Entries). insert_entry key_cmp entries (key c.args.nid c.args.control) c.opening_value-value.result) c.self.view_is
    ∙ ap (λ value. insert_entry key_cmp c.args.self.now (key c.args.nid c.args.control) value) c.opening_value-value.ensures
    ∙ insert_last c.args.self.now (key c.args.nid c.args.control) (opening_value c.args.codec.now c.args.nid c.args.control) c.requires

pub returns-in_ok-insert-clause-value : goal.returns-in_ok-insert-clause-value
returns-in_ok-insert-clause-value c =
    inserted c ∙ ap (λ b. c.args.self.now ++ opened c.args.codec.now (cond b (key c.args.nid c.args.control ∷ []) [])) (sym (sym c.has_control.ensures ∙ c.if-has_control.true))

pub returns-in_ok-insert-clause-each : goal.returns-in_ok-insert-clause-each
returns-in_ok-insert-clause-each c =
    let entry : ControlKey × ℕ = (key c.args.nid c.args.control, opening_value c.args.codec.now c.args.nid c.args.control) in
    let is : IsSetting entry = IsSetting-opening c.args.codec.now c.args.nid c.args.control (omega (arith, c.opening_value-value.ensures)) in
    λ each. subst (λ (entries : Entries). All IsSetting entries) (sym (inserted c)) (All-append IsSetting c.args.self.now (entry ∷ []) each (All-cons IsSetting entry [] is (All-nil IsSetting)))
