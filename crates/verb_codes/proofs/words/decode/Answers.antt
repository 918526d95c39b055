use Rattle.std.proofs.Common.{◌≡◌, Some, refl, arith, ap, sym, ◌∙◌}
use Rattle.verb_codes.specs.Verbs.{reading_of, command_with}
use Rattle.verb_codes.proofs.Commands.{reading_of-parts, reading_of-exact, command_with-outside, command_with-none, command_with-some}
use Rattle.verb_codes.proofs.words.decode.Goals as goal

pub returns-then-codec-gt-LAST_CODEC-clause-reading : goal.returns-then-codec-gt-LAST_CODEC-clause-reading
returns-then-codec-gt-LAST_CODEC-clause-reading c =
    sym (reading_of-parts c.args.word c.bits_of-codec.result c.bits_of-nid.result _ (omega arith) c.bits_of-codec.ensures.value c.bits_of-nid.ensures.value refl
    ∙ command_with-outside _ _ _ c.then-codec-gt-LAST_CODEC.either)

unread : (c : goal.After-from_residual) → c.from_residual.result ≡ reading_of c.args.word
unread c =
    c.from_residual.ensures
    ∙ sym (reading_of-parts c.args.word c.bits_of-codec.result c.bits_of-nid.result c.bits_of.result (omega arith) c.bits_of-codec.ensures.value c.bits_of-nid.ensures.value c.bits_of.ensures.value
    ∙ ap (command_with c.bits_of-codec.result c.bits_of-nid.result) (sym c.verb_of.ensures ∙ c.in_err-verb.was)
    ∙ command_with-none c.bits_of-codec.result c.bits_of-nid.result)

pub returns-in_err-verb-clause-reading : goal.returns-in_err-verb-clause-reading
returns-in_err-verb-clause-reading c = unread c

pub returns-in_err-verb-clause-exact : goal.returns-in_err-verb-clause-exact
returns-in_err-verb-clause-exact c = reading_of-exact c.args.word c.from_residual.result (unread c)

read : (c : goal.In_ok-verb) → Some (record { codec = c.bits_of-codec.result; nid = c.bits_of-nid.result; verb = c.in_ok-verb.verb }) ≡ reading_of c.args.word
read c =
    sym (reading_of-parts c.args.word c.bits_of-codec.result c.bits_of-nid.result c.bits_of.result (omega arith) c.bits_of-codec.ensures.value c.bits_of-nid.ensures.value c.bits_of.ensures.value
    ∙ ap (command_with c.bits_of-codec.result c.bits_of-nid.result) (sym c.verb_of.ensures ∙ c.in_ok-verb.was)
    ∙ command_with-some c.bits_of-codec.result c.bits_of-nid.result c.in_ok-verb.verb (omega arith) (omega arith))

pub returns-clause-reading : goal.returns-clause-reading
returns-clause-reading c = read c

pub returns-clause-exact : goal.returns-clause-exact
returns-clause-exact c = reading_of-exact c.args.word _ (read c)
