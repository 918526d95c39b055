use Rattle.std.proofs.Common.{◌≡◌, arith, ap, ◌∙◌}
use Rattle.verb_codes.specs.Verbs.{word_of, reading_of}
use Rattle.verb_codes.proofs.Commands.{reading_of-complete}
use Rattle.verb_codes.proofs.words.encode.Goals as goal

pub returns-clause-read_back : goal.returns-clause-read_back
returns-clause-read_back c =
    let word : c.joined.result ≡ word_of c.args.command.now = omega arith in
    ap reading_of word ∙ reading_of-complete c.args.command.now c.requires
