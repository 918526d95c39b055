use Rattle.std.proofs.Common.{◌≡◌, ◌≢◌, ◌==◌, ℕ, List, [], ◌∷◌, length, map, get_or, refl, ap, sym, subst, ◌∙◌, arith}
use Rattle.std.proofs.lemmas.Bool.{true≢false}
use Rattle.std.specs.Prelude.{Contains}
use Rattle.codec_graph.specs.declared.raw.RawCodec.{RawCodec}
use Rattle.hda_files.specs.declared.machine.CodecFile.{CodecFile}
use Rattle.hda_tests.proofs.controllers.first_address.Goals as goal

first_there : (codecs : List CodecFile) (file : CodecFile) → length codecs ≢ 0 → file ≡ get_or codecs 0 file
    → Contains (map (λ codec. codec.graph.address) codecs) file.graph.address
first_there [] file some is = absurd (some refl)
first_there (codec ∷ codecs) file some is = (0, omega arith, sym (ap (λ (f : CodecFile). f.graph.address) is))

pub returns : goal.returns
returns c =
    let codecs : List CodecFile = c.args.machine.now.codecs in
    let same : c.as_slice-codecs.result.now ≡ codecs = c.as_slice-codecs.ensures in
    subst (Contains (map (λ codec. codec.graph.address) codecs))
    (ap (λ (graph : RawCodec). graph.address) (ap (λ (f : CodecFile). f.graph) c.index-codecs-0.is ∙ sym c.raw.ensures.value))
    (first_there codecs c.index-codecs-0.result
    (λ none. true≢false (sym (sym c.if-is_empty.false ∙ (c.is_empty.ensures ∙ ap (λ (n : ℕ). n == 0) (ap length same ∙ none)))))
    (c.index-codecs-0.is ∙ ap (λ (xs : List CodecFile). get_or xs 0 c.index-codecs-0.result) same))
