use Rattle.std.proofs.Common.{◌+◌, ◌++◌, ℕ, List, drop, get_or, rules, refl, sym, subst, arith}
use Rattle.sound_report.specs.Pages.{TookAllBut}
use Rattle.sound_report.specs.StretchTexts.{stretches_text}
use Rattle.heard_lists.specs.declared.stretches.Kind.TheVariants as kind
use Rattle.heard_lists.specs.declared.stretches.Stretch.{Stretch}
use Rattle.sound_report.proofs.PageLemmas.{line_more, no_sink, all_lines}
use Rattle.sound_report.proofs.HeardText.{text-left, text-none}
use Rattle.sound_report.proofs.pins.write_heard.Goals as goal

-- what is read past the end
abbrev none : Stretch
none = record { kind = kind.Sound; items = 0 }

pub returns-in_err-write_stretch-clause-text : goal.returns-in_err-write_stretch-clause-text
returns-in_err-write_stretch-clause-text g c =
    no_sink c.from_residual.result _ c.loop-place.page.items _ _ _ c.from_residual.ensures.0 c.loop-place.invariant.text
    (text-left c.args.bits c.args.stretches.now c.loop-place.place (get_or c.args.stretches.now c.loop-place.place none) none c.loop-place.rest.now c.samples_len-len.result
    (let test = c.loop-place-test.true in omega (arith, test)) refl c.samples_len-len.ensures) refl c.in_err-write_stretch.ensures.text

pub loop-place-preserved : goal.loop-place-preserved
loop-place-preserved g c =
    record {
      text =
          subst
          (λ (left : List ℕ). TookAllBut (g.K.Sink.taken c.args.out.now) (g.K.Sink.taken c.write_stretch.new.out) (c.args.page.now.items ++ stretches_text c.args.bits c.args.stretches.now c.args.samples.now) (c.write_stretch.new.page.items ++ stretches_text c.args.bits (drop (c.loop-place.place + 1) c.args.stretches.now) left))
          (sym c.after-rest.ensures)
          (line_more c.loop-place.page.items _ _ _ c.loop-place.invariant.text
          (text-left c.args.bits c.args.stretches.now c.loop-place.place (get_or c.args.stretches.now c.loop-place.place none) none c.loop-place.rest.now c.samples_len-len.result
          (let test = c.loop-place-test.true in omega (arith, test)) refl c.samples_len-len.ensures) refl c.in_ok-write_stretch.ensures.text);
      pieces = search rules;
      later = search rules;
    }

pub returns-clause-text : goal.returns-clause-text
returns-clause-text g c =
    all_lines c.loop-place.page.items (text-none c.args.bits c.args.stretches.now c.loop-place.place c.loop-place.rest.now (omega arith)) c.loop-place.invariant.text
