use Rattle.std.proofs.Common.{◌-◌, ◌∙◌, ℕ, ap}
use Rattle.stream_format.specs.Words.{format_word}
use Rattle.hda_world.proofs.Callers.{row_one, row_more}
use Rattle.hda_capture.proofs.Told.{set_as}
use Rattle.hda_capture.proofs.starting.set_stream.Goals as goal

pub returns-clause-made : goal.returns-clause-made
returns-clause-made g c =
    set_as c.args.list c.ring.result _ c.from.result _ c.from-2.result _ _ _ c.ring.ensures (c.from.ensures ∙ ap (λ (n : ℕ). n - 1) c.periods.ensures)
    (c.from-2.ensures ∙ c.word.ensures ∙ ap format_word c.format.ensures)
    (row_more c.write.ensures.told (row_more c.write-2.ensures.told (row_more c.write-3.ensures.told (row_more c.write-4.ensures.told (row_more c.write-5.ensures.told (row_more c.write-6.ensures.told (row_one c.write-7.ensures.told)))))))
