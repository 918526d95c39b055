-- Which settings a command leaves as they were.
use Rattle.std.proofs.Common.{◌≡◌, ℕ, Bool, true, false, cond, [], ◌∷◌, Option, Some, None, refl, sym, ap, ◌∙◌}
use Rattle.std.specs.Option.{option_map}
use Rattle.std.specs.BTreeMap.{is_at}
use Rattle.std.specs.Map.{keys_of, lookup}
use Rattle.std.proofs.lemmas.Bool.{true≢false}
use Rattle.std.proofs.lemmas.Option.{none-some}
use Rattle.codec_graph.specs.declared.raw.RawCodec.{RawCodec}
use Rattle.codec_graph.specs.declared.controls.Control.{Control}
use Rattle.codec_graph.specs.declared.controls.ControlKey.{ControlKey}
use Rattle.codec_graph.specs.Settings.{Entries, key, key_cmp, setting_at, put, put_all}
use Rattle.codec_graph.specs.VerbMeaning.{writes_of, after}
use Rattle.codec_graph.proofs.Openings.{same_key}
use Rattle.codec_graph.proofs.Controlled.{here}
use Rattle.codec_graph.proofs.Writes.{keys-put_all}
use Rattle.verb_codes.specs.declared.verbs.Command.{Command}

-- what a look-up finds after a number was put
pub lookup-put : (q at : ControlKey) (value : ℕ) (entries : Entries) → lookup (is_at (key_cmp q)) (put entries at value) ≡ cond (is_at (key_cmp q) at) (option_map (λ _. value) (lookup (is_at (key_cmp q)) entries)) (lookup (is_at (key_cmp q)) entries)
lookup-put q at value [] = by (is_at (key_cmp q) at)
  where
    by : (b : Bool) → ◌≡◌ {A = Option ℕ} None (cond b None None)
    by true = refl
    by false = refl
lookup-put q at value (entry ∷ entries) =
    by (is_at (key_cmp at) entry.0) (is_at (key_cmp q) entry.0) (is_at (key_cmp q) at) refl refl refl (lookup-put q at value entries)
  where
    by : (b t u : Bool) → is_at (key_cmp at) entry.0 ≡ b → is_at (key_cmp q) entry.0 ≡ t → is_at (key_cmp q) at ≡ u → lookup (is_at (key_cmp q)) (put entries at value) ≡ cond u (option_map (λ _. value) (lookup (is_at (key_cmp q)) entries)) (lookup (is_at (key_cmp q)) entries) → lookup (is_at (key_cmp q)) (cond b ((entry.0, value) ∷ entries) (entry ∷ put entries at value)) ≡ cond u (option_map (λ _. value) (cond t (Some entry.1) (lookup (is_at (key_cmp q)) entries))) (cond t (Some entry.1) (lookup (is_at (key_cmp q)) entries))
    by true true true e f g rest = ap (λ t. cond t (Some value) (lookup (is_at (key_cmp q)) entries)) f
    by true true false e f g rest = absurd (true≢false (sym f ∙ ap (λ k. is_at (key_cmp q) k) (sym (same_key at entry.0 e)) ∙ g))
    by true false true e f g rest = absurd (true≢false (sym g ∙ ap (λ k. is_at (key_cmp q) k) (same_key at entry.0 e) ∙ f))
    by true false false e f g rest = ap (λ t. cond t (Some value) (lookup (is_at (key_cmp q)) entries)) f
    by false true true e f g rest =
        absurd (true≢false (sym (here at) ∙ ap (λ k. is_at (key_cmp at) k) (sym (same_key q at g) ∙ same_key q entry.0 f) ∙ e))
    by false true false e f g rest = ap (λ t. cond t (Some entry.1) (lookup (is_at (key_cmp q)) (put entries at value))) f
    by false false true e f g rest = ap (λ t. cond t (Some entry.1) (lookup (is_at (key_cmp q)) (put entries at value))) f ∙ rest
    by false false false e f g rest = ap (λ t. cond t (Some entry.1) (lookup (is_at (key_cmp q)) (put entries at value))) f ∙ rest

-- a control that is not among some writes keeps its setting
pub setting_at-put_all : (settings writes : Entries) (nid : ℕ) (control : Control) → setting_at writes nid control ≡ None → setting_at (put_all settings writes) nid control ≡ setting_at settings nid control
setting_at-put_all settings [] nid control e = refl
setting_at-put_all settings (write ∷ writes) nid control e =
    by (is_at (key_cmp (key nid control)) write.0) refl e (setting_at-put_all (put settings write.0 write.1) writes nid control)
  where
    by : (b : Bool) → is_at (key_cmp (key nid control)) write.0 ≡ b → cond b (Some write.1) (setting_at writes nid control) ≡ None → (setting_at writes nid control ≡ None → setting_at (put_all (put settings write.0 write.1) writes) nid control ≡ setting_at (put settings write.0 write.1) nid control) → setting_at (put_all (put settings write.0 write.1) writes) nid control ≡ setting_at settings nid control
    by true f none rest = absurd (none-some write.1 (sym none))
    by false f none rest =
        rest none
        ∙ lookup-put (key nid control) write.0 write.1 settings
        ∙ ap (λ b. cond b (option_map (λ _. write.1) (setting_at settings nid control)) (setting_at settings nid control)) f

pub setting_at-after : (codec : RawCodec) (settings : Entries) (command : Command) (nid : ℕ) (control : Control) → setting_at (writes_of codec settings command) nid control ≡ None → setting_at (after codec settings command) nid control ≡ setting_at settings nid control
unfolding after
setting_at-after codec settings command nid control e = setting_at-put_all settings (writes_of codec settings command) nid control e

-- a command that writes nothing changes nothing
pub after-nothing : (codec : RawCodec) (settings : Entries) (command : Command) → writes_of codec settings command ≡ [] → after codec settings command ≡ settings
unfolding after
after-nothing codec settings command e = ap (λ (writes : Entries). put_all settings writes) e

-- a command adds no control and takes none away
pub keys-after : (codec : RawCodec) (settings : Entries) (command : Command) → keys_of (after codec settings command) ≡ keys_of settings
unfolding after
keys-after codec settings command = keys-put_all settings (writes_of codec settings command)
