use Rattle.std.proofs.Common.{◌≡◌, ◌<◌, ◌^◌, take, refl, sym, subst, ◌∙◌, arith}
use Rattle.std.specs.Prelude.{All}
use Rattle.std.proofs.lemmas.Bool.{true≢false}
use Rattle.std.proofs.lemmas.List.{take_all}
use Rattle.std.proofs.lemmas.List.Elements.{All-more, All-get_or}
use Rattle.verb_codes.specs.Lists.{entry_width}
use Rattle.codec_graph.proofs.readable.all_fit.Goals as goal

pub loop-entry-preserved : goal.loop-entry-preserved
loop-entry-preserved c =
    All-more (λ entry. entry < 2 ^ entry_width c.args.long) c.args.entries.now c.loop-entry.entry-index 0 (omega arith) c.loop-entry.invariant (c.fits.ensures.0 c.if-not-fits.false)

pub returns : goal.returns
returns c =
    let all : take c.loop-entry.entry-index c.args.entries.now ≡ c.args.entries.now = take_all c.loop-entry.entry-index c.args.entries.now (omega arith) in
    ((λ t. subst (All (λ entry. entry < 2 ^ entry_width c.args.long)) all c.loop-entry.invariant), (λ h. refl))

pub returns-then-not-fits : goal.returns-then-not-fits
returns-then-not-fits c = (
  (λ e. absurd (true≢false (sym e))),
  (λ all. sym c.if-not-fits.true ∙ c.fits.ensures.1 (All-get_or (λ entry. entry < 2 ^ entry_width c.args.long) c.args.entries.now c.loop-entry.entry-index 0 (omega arith) all)),
)
