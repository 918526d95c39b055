-- Entries that are added to settings and changed in them.
use Rattle.std.proofs.Common.{◌≡◌, ◌<◌, ◌^◌, ℕ, Bool, true, false, cond, [], ◌∷◌, Option, Some, None, refl, sym, ap, subst, lit<, Less, Equal, Greater}
use Rattle.std.specs.Prelude.{All, unwrap_or}
use Rattle.std.specs.declared.cmp.Ordering.{Ordering}
use Rattle.std.specs.Ordering.{is_eq}
use Rattle.std.specs.BTreeMap.{is_at}
use Rattle.std.proofs.lemmas.List.Elements.{All-cons, All-head, All-tail}
use Rattle.codec_graph.specs.declared.raw.RawNode.{RawNode}
use Rattle.codec_graph.specs.declared.raw.RawCodec.{RawCodec}
use Rattle.codec_graph.specs.declared.controls.Control.{Control}
use Rattle.codec_graph.specs.declared.controls.Control.TheVariants.{Power}
use Rattle.codec_graph.specs.declared.controls.ControlKey.{ControlKey}
use Rattle.codec_graph.specs.Widget.{node_at}
use Rattle.codec_graph.specs.Settings.{Entries, key, key_cmp, put, node_opening, opening_value, setting_at, setting_of, IsSetting}
use Rattle.codec_graph.proofs.KeyOrder.{key_cmp-exact}

-- an opening value that fits 32 bits is a setting
pub IsSetting-opening : (codec : RawCodec) (nid : ℕ) (control : Control) → opening_value codec nid control < 2 ^ 32 → IsSetting (key nid control, opening_value codec nid control)
IsSetting-opening codec nid control fits = record {
  narrow = fits;
  state = λ e. subst (λ (c : Control). opening_value codec nid c < 4) (sym e) (off (node_at codec nid));
}
  where
    off : (node : Option RawNode) → node_opening codec node Power < 4
    off None = lit< tt
    off (Some node) = lit< tt

is_eq-equal : (o : Ordering) → is_eq o ≡ true → o ≡ Equal
is_eq-equal Equal e = refl
is_eq-equal Less e = cc
is_eq-equal Greater e = cc

-- a key that passes another's test is that key
pub same_key : (at k : ControlKey) → is_at (key_cmp at) k ≡ true → at ≡ k
same_key at k e = key_cmp-exact at k (is_eq-equal (key_cmp at k) e)

moved : (at k : ControlKey) (value : ℕ) → at ≡ k → IsSetting (at, value) → IsSetting (k, value)
moved at k value e is = subst (λ (q : ControlKey). IsSetting (q, value)) e is

pub each-put : (entries : Entries) (at : ControlKey) (value : ℕ) → All IsSetting entries → IsSetting (at, value) → All IsSetting (put entries at value)
each-put [] at value each is = each
each-put (entry ∷ entries) at value each is =
    by (is_at (key_cmp at) entry.0) refl (each-put entries at value (All-tail IsSetting entry entries each) is)
  where
    by : (b : Bool) → is_at (key_cmp at) entry.0 ≡ b → All IsSetting (put entries at value) → All IsSetting (cond b ((entry.0, value) ∷ entries) (entry ∷ put entries at value))
    by true e rest = All-cons IsSetting (entry.0, value) entries (moved at entry.0 value (same_key at entry.0 e) is) (All-tail IsSetting entry entries each)
    by false e rest = All-cons IsSetting entry _ (All-head IsSetting entry entries each) rest

-- a power state in settings is below 4
pub power_below : (settings : Entries) (nid : ℕ) → All IsSetting settings → setting_of settings nid Power < 4
power_below [] nid each = lit< tt
power_below (entry ∷ settings) nid each =
    by (is_at (key_cmp (key nid Power)) entry.0) refl (power_below settings nid (All-tail IsSetting entry settings each))
  where
    by : (b : Bool) → is_at (key_cmp (key nid Power)) entry.0 ≡ b → setting_of settings nid Power < 4 → unwrap_or (cond b (Some entry.1) (setting_at settings nid Power)) 0 < 4
    by true e rest = (All-head IsSetting entry settings each).state (ap (λ k. k.control) (sym (same_key (key nid Power) entry.0 e)))
    by false e rest = rest
