use Rattle.std.proofs.Common.{arith, sym, subst}
use Rattle.std.specs.Prelude.{All, ◌<◌, ◌^◌, ℕ, List}
use Rattle.codec_graph.proofs.ReadableLists.{listed_narrow}
use Rattle.std.proofs.lemmas.List.Elements.{All-nil}
use Rattle.codec_graph.proofs.raw.RawNode.normalise.Goals as goal

pub returns-else-not-has_list-clause-words : goal.returns-else-not-has_list-clause-words
returns-else-not-has_list-clause-words c = record {
  caps = omega arith;
  pcm = omega arith;
  formats = omega arith;
  pin_caps = omega arith;
  amp_in = omega arith;
  amp_out = omega arith;
  power = omega arith;
  default = omega arith;
  listed = listed_narrow c.args.self.now c.requires;
}

pub returns-then-not-has_list-clause-words : goal.returns-then-not-has_list-clause-words
returns-then-not-has_list-clause-words c = record {
  caps = omega arith;
  pcm = omega arith;
  formats = omega arith;
  pin_caps = omega arith;
  amp_in = omega arith;
  amp_out = omega arith;
  power = omega arith;
  default = omega arith;
  listed = subst (λ (xs : List ℕ). All (λ nid. nid < 2 ^ 8) xs) (sym c.clear-then-not-has_list.ensures) (All-nil (λ nid. nid < 2 ^ 8));
}
