-- The order of the keys of settings tells all keys apart.
use Rattle.std.proofs.Common.{◌≡◌, refl, sym, ap, Less, Equal, Greater, nat_cmp}
use Rattle.std.specs.declared.cmp.Ordering.{Ordering}
use Rattle.std.specs.Ordering.{ordering_then, is_eq}
use Rattle.std.specs.Cmp.{IsTotalOrder}
use Rattle.std.proofs.lemmas.Bool.{true≢false}
use Rattle.std.proofs.lemmas.Map.Lookups.{CmpEqualImpliesEq, exact_unsigned}
use Rattle.codec_graph.specs.declared.controls.ControlKey.{ControlKey}
use Rattle.codec_graph.specs.declared.controls.Control.{Control}
use Rattle.codec_graph.specs.declared.controls.Control.TheVariants.{Select, Power, Stream, Pin, Unsol, Eapd, Digital, Default, Format, OutLeft, OutRight, InLeft, InRight}
use Rattle.codec_graph.specs.contracts.controls.ControlOrd.TheImpl as control_order
use Rattle.codec_graph.specs.contracts.controls.ControlKeyOrd.TheImpl.Laws as laws
use Rattle.codec_graph.specs.Settings.{key_cmp}

pub key_cmp-total : IsTotalOrder key_cmp
unfolding key_cmp
key_cmp-total = laws.total-law

exact : (a b : Control) → control_order.ghosts.cmp a b ≡ Equal → a ≡ b
exact Select Select e = refl
exact Power Power e = refl
exact Stream Stream e = refl
exact Pin Pin e = refl
exact Unsol Unsol e = refl
exact Eapd Eapd e = refl
exact Digital Digital e = refl
exact Default Default e = refl
exact Format Format e = refl
exact OutLeft OutLeft e = refl
exact OutRight OutRight e = refl
exact (InLeft i) (InLeft j) e = ap InLeft (exact_unsigned i j e)
exact (InRight i) (InRight j) e = ap InRight (exact_unsigned i j e)
exact _ _ e = absurd (true≢false (sym (ap is_eq e)))

both : (o r : Ordering) → ordering_then o r ≡ Equal → (o ≡ Equal) × (r ≡ Equal)
both Equal r e = (refl, e)
both Less r e = absurd (true≢false (sym (ap is_eq e)))
both Greater r e = absurd (true≢false (sym (ap is_eq e)))

same : (a b : ControlKey) → a.nid ≡ b.nid → a.control ≡ b.control → a ≡ b
same a b n c = λ i. record { nid = n i; control = c i }

pub key_cmp-exact : CmpEqualImpliesEq key_cmp
unfolding key_cmp
key_cmp-exact a b e =
    let h = both (nat_cmp a.nid b.nid) (control_order.ghosts.cmp a.control b.control) e in
    same a b (exact_unsigned a.nid b.nid h.0) (exact a.control b.control h.1)
