-- Lists of commands, joined.
use Rattle.std.proofs.Common.{◌≡◌, ◌+◌, ℕ, List, [], ◌∷◌, ◌++◌, map, append_assoc, add-one, zero-add, sym, ap, ◌∙◌}
use Rattle.std.specs.List.{range_with_len}
use Rattle.std.proofs.lemmas.List.{map-append}
use Rattle.std.proofs.lemmas.List.FromFn.{map-range_with_len_more}
use Rattle.codec_graph.specs.declared.raw.RawCodec.{RawCodec}
use Rattle.verb_codes.specs.declared.verbs.Command.{Command}
use Rattle.verb_codes.specs.declared.verbs.Verb.{Verb}
use Rattle.setup_verbs.specs.VerbList.{command_to, commands_to, to_below, to_all}

pub five_lists : (first : Command) (none v0 v1 v2 v3 v4 s1 s2 s3 s4 : List Command) → none ≡ [] → v0 ≡ none ++ first ∷ [] → v1 ≡ v0 ++ s1 → v2 ≡ v1 ++ s2 → v3 ≡ v2 ++ s3 → v4 ≡ v3 ++ s4
    → v4 ≡ first ∷ (s1 ++ (s2 ++ (s3 ++ s4)))
five_lists first none v0 v1 v2 v3 v4 s1 s2 s3 s4 e f a b c d =
    let all : v4 ≡ (((([] ++ first ∷ []) ++ s1) ++ s2) ++ s3) ++ s4 = cc in
    all ∙ simp append_assoc

-- one step more
pub step_more : (start here there : List Command) (step : ℕ → List Command) (nid : ℕ) → here ≡ start ++ to_below step nid → there ≡ here ++ step nid → there ≡ start ++ to_below step (nid + 1)
step_more start here there step nid e f =
    rw (add-one nid) (f ∙ ap (λ (l : List Command). l ++ step nid) e ∙ append_assoc start (to_below step nid) (step nid))

pub all_below : (start here : List Command) (step : ℕ → List Command) (nid : ℕ) → nid ≡ 128 → here ≡ start ++ to_below step nid → here ≡ start ++ to_all step
unfolding to_all
all_below start here step nid last e = e ∙ ap (λ n. start ++ to_below step n) last

-- one input more
pub inputs_more : (start here there : List Command) (codec : RawCodec) (nid : ℕ) (f : ℕ → Verb) (verb : Verb) (place : ℕ) → here ≡ start ++ commands_to codec nid (map f (range_with_len 0 place)) → there ≡ here ++ commands_to codec nid (verb ∷ []) → verb ≡ f place
    → there ≡ start ++ commands_to codec nid (map f (range_with_len 0 (place + 1)))
inputs_more start here there codec nid f verb place e g is =
    g ∙ ap (λ (l : List Command). l ++ commands_to codec nid (verb ∷ [])) e
    ∙ append_assoc start (commands_to codec nid (map f (range_with_len 0 place))) (commands_to codec nid (verb ∷ []))
    ∙ ap (λ (l : List Command). start ++ l) (sym (map-append (command_to codec nid) (map f (range_with_len 0 place)) (verb ∷ [])))
    ∙ ap (λ (v : Verb). start ++ commands_to codec nid (map f (range_with_len 0 place) ++ v ∷ [])) is
    ∙ ap (λ (l : List Verb). start ++ commands_to codec nid l) (sym (map-range_with_len_more f 0 place place (zero-add place)))
