use Rattle.std.proofs.Common.{◌≡◌, map, drop, rules, subst, string_bytes, Some}
use Rattle.program_words.specs.Asked.{grammar_named}
use Rattle.program_words.specs.Commands.{CommandGrammar, capture_grammar, make_grammar, play_grammar, route_grammar, spdif_grammar, walk_grammar}
use Rattle.program_words.specs.Lines.{command_line_of}
use Rattle.program_words.specs.Seen.{line_seen}
use Rattle.program_words.specs.Tables.{grammar_of}
use Rattle.program_words.proofs.LineLemmas.{capture_line, command_apart, command_capture, command_make, command_play, command_route, command_spdif, command_walk, named_command, make_line, play_line, route_line, spdif_line, walk_line}
use Rattle.program_words.proofs.request.read_words.Goals as goal

pub read_line-requires : goal.read_line-requires
read_line-requires c =
    let named : grammar_named c.as_str.result.now ≡ Some (grammar_of c.in_ok-row.row) = first_of (cc, search rules) in
    record { apart = command_apart (grammar_of c.in_ok-row.row) (named_command c.as_str.result.now (grammar_of c.in_ok-row.row) named); named = search rules }

-- the line is one of `route`
pub route_of-requires : goal.route_of-requires
route_of-requires c =
    let named : grammar_named c.as_str.result.now ≡ Some (grammar_of c.in_ok-row.row) = first_of (cc, search rules) in
    let is : grammar_of c.in_ok-row.row ≡ route_grammar =
    command_route (grammar_of c.in_ok-row.row) c.in-Route.is (named_command c.as_str.result.now (grammar_of c.in_ok-row.row) named) in
    let line : command_line_of route_grammar (drop 1 (map string_bytes c.args.words.now)) ≡ Some (line_seen c.in_ok-line.line) =
    subst (λ (g : CommandGrammar). command_line_of g (drop 1 (map string_bytes c.args.words.now)) ≡ Some (line_seen c.in_ok-line.line)) is c.in_ok-line.ensures.ok in
    route_line (drop 1 (map string_bytes c.args.words.now)) (line_seen c.in_ok-line.line) line

-- the line is one of `walk`
pub walk_of-requires : goal.walk_of-requires
walk_of-requires c =
    let named : grammar_named c.as_str.result.now ≡ Some (grammar_of c.in_ok-row.row) = first_of (cc, search rules) in
    let is : grammar_of c.in_ok-row.row ≡ walk_grammar =
    command_walk (grammar_of c.in_ok-row.row) c.in-Walk.is (named_command c.as_str.result.now (grammar_of c.in_ok-row.row) named) in
    let line : command_line_of walk_grammar (drop 1 (map string_bytes c.args.words.now)) ≡ Some (line_seen c.in_ok-line.line) =
    subst (λ (g : CommandGrammar). command_line_of g (drop 1 (map string_bytes c.args.words.now)) ≡ Some (line_seen c.in_ok-line.line)) is c.in_ok-line.ensures.ok in
    walk_line (drop 1 (map string_bytes c.args.words.now)) (line_seen c.in_ok-line.line) line

-- the line is one of `play`
pub play_of-requires : goal.play_of-requires
play_of-requires c =
    let named : grammar_named c.as_str.result.now ≡ Some (grammar_of c.in_ok-row.row) = first_of (cc, search rules) in
    let is : grammar_of c.in_ok-row.row ≡ play_grammar =
    command_play (grammar_of c.in_ok-row.row) c.in-Play.is (named_command c.as_str.result.now (grammar_of c.in_ok-row.row) named) in
    let line : command_line_of play_grammar (drop 1 (map string_bytes c.args.words.now)) ≡ Some (line_seen c.in_ok-line.line) =
    subst (λ (g : CommandGrammar). command_line_of g (drop 1 (map string_bytes c.args.words.now)) ≡ Some (line_seen c.in_ok-line.line)) is c.in_ok-line.ensures.ok in
    play_line (drop 1 (map string_bytes c.args.words.now)) (line_seen c.in_ok-line.line) line

-- the line is one of `make`
pub make_of-requires : goal.make_of-requires
make_of-requires c =
    let named : grammar_named c.as_str.result.now ≡ Some (grammar_of c.in_ok-row.row) = first_of (cc, search rules) in
    let is : grammar_of c.in_ok-row.row ≡ make_grammar =
    command_make (grammar_of c.in_ok-row.row) c.in-Make.is (named_command c.as_str.result.now (grammar_of c.in_ok-row.row) named) in
    let line : command_line_of make_grammar (drop 1 (map string_bytes c.args.words.now)) ≡ Some (line_seen c.in_ok-line.line) =
    subst (λ (g : CommandGrammar). command_line_of g (drop 1 (map string_bytes c.args.words.now)) ≡ Some (line_seen c.in_ok-line.line)) is c.in_ok-line.ensures.ok in
    make_line (drop 1 (map string_bytes c.args.words.now)) (line_seen c.in_ok-line.line) line

-- the line is one of `spdif`
pub spdif_of-requires : goal.spdif_of-requires
spdif_of-requires c =
    let named : grammar_named c.as_str.result.now ≡ Some (grammar_of c.in_ok-row.row) = first_of (cc, search rules) in
    let is : grammar_of c.in_ok-row.row ≡ spdif_grammar =
    command_spdif (grammar_of c.in_ok-row.row) c.in-Spdif.is (named_command c.as_str.result.now (grammar_of c.in_ok-row.row) named) in
    let line : command_line_of spdif_grammar (drop 1 (map string_bytes c.args.words.now)) ≡ Some (line_seen c.in_ok-line.line) =
    subst (λ (g : CommandGrammar). command_line_of g (drop 1 (map string_bytes c.args.words.now)) ≡ Some (line_seen c.in_ok-line.line)) is c.in_ok-line.ensures.ok in
    spdif_line (drop 1 (map string_bytes c.args.words.now)) (line_seen c.in_ok-line.line) line

-- the line is one of `capture`
pub capture_of-requires : goal.capture_of-requires
capture_of-requires c =
    let named : grammar_named c.as_str.result.now ≡ Some (grammar_of c.in_ok-row.row) = first_of (cc, search rules) in
    let is : grammar_of c.in_ok-row.row ≡ capture_grammar =
    command_capture (grammar_of c.in_ok-row.row) c.in-Capture.is (named_command c.as_str.result.now (grammar_of c.in_ok-row.row) named) in
    let line : command_line_of capture_grammar (drop 1 (map string_bytes c.args.words.now)) ≡ Some (line_seen c.in_ok-line.line) =
    subst (λ (g : CommandGrammar). command_line_of g (drop 1 (map string_bytes c.args.words.now)) ≡ Some (line_seen c.in_ok-line.line)) is c.in_ok-line.ensures.ok in
    capture_line (drop 1 (map string_bytes c.args.words.now)) (line_seen c.in_ok-line.line) line
