use Rattle.std.proofs.Common.{sym, ap, ◌∙◌}
use Rattle.codec_graph.specs.Settings.{key, key_cmp, put, setting_at}
use Rattle.codec_graph.proofs.Maps.{set_value-absent}
use Rattle.codec_graph.proofs.settings.Settings.put.Goals as goal
use Rattle.codec_graph.proofs.settings.Settings.put.Goals.{in-Some, in_default}

pub returns : goal.returns
unfolding key_cmp
returns c = elim c.match-get_mut.branch [
  | in-Some w ↦
      ap (λ s. s.map.entries) w.self-inside-is
      ∙ (c.get_mut.follows.holds c.args.value).0
      ∙ ap (λ entries. put entries (key c.args.nid c.args.control) c.args.value) c.self.view_is
  | in_default w ↦
      let absent = ap (λ entries. setting_at entries c.args.nid c.args.control) (sym c.self.view_is) ∙ sym w.in_default.ensures.value in
      ap (λ s. s.map.entries) w.self-inside-is
      ∙ ap (λ m. m.entries) c.get_mut.follows.holds-at-none
      ∙ c.self.view_is
      ∙ sym (set_value-absent _ _ c.args.value absent)
]
