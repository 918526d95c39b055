-- Connection lists of a codec without a list fault are readable.
use Rattle.std.proofs.Common.{◌≡◌, ◌<◌, ◌^◌, ℕ, false, List, [], ◌∷◌, map, filter, get_or, Option, None, Some, All, suc, inl, inr, refl, arith}
use Rattle.std.specs.List.{range_with_len}
use Rattle.std.proofs.lemmas.Bool.Decides.{eqb_tells}
use Rattle.std.proofs.lemmas.List.Elements.{All-nil, All-append, All-map}
use Rattle.verb_codes.specs.declared.entries.ListFault.{ListFault}
use Rattle.verb_codes.specs.Lists.{entry_width}
use Rattle.codec_graph.specs.Listed.{HasNoListFault, HasReadableList}
use Rattle.hda_files.specs.declared.node.NodeTable.{NodeTable}
use Rattle.hda_files.specs.declared.codec.CodecTable.{CodecTable}
use Rattle.hda_files.specs.Codecs.{vendor_widget, widget_at, is_outside, laid_out}
use Rattle.hda_files.specs.ListFaults.{list_fault_at}
use Rattle.hda_files.specs.Readers.{IsReadNode}
use Rattle.hda_files.proofs.TableBounds.{fault-small}

vendor-readable : HasReadableList vendor_widget
vendor-readable = record { few = omega arith; fit = All-nil (λ entry. entry < 2 ^ entry_width false); expanded = refl }

found-readable : (nodes : List NodeTable) (nid : ℕ) → All IsReadNode nodes → list_fault_at nodes nid ≡ None → HasReadableList (widget_at nodes nid)
found-readable [] nid read none = vendor-readable
found-readable (node ∷ nodes) nid read none =
    elim (eqb_tells node.nid nid) [
      | inl same ↦ rw same.0 ((read 0 node (omega arith)).readable (rw same.0 at none))
      | inr other ↦ rw other.0 (found-readable nodes nid (λ k d within. read (suc k) d (omega arith)) (rw other.0 at none))
    ]

no_fault-at : (nodes : List NodeTable) (nid : ℕ) (fault : Option ListFault) → All IsReadNode nodes → HasNoListFault (list_fault_at nodes) → list_fault_at nodes nid ≡ fault → list_fault_at nodes nid ≡ None
no_fault-at nodes nid None read none e = e
no_fault-at nodes nid (Some fault) read none e = none nid (fault-small nodes nid fault (λ k d within. (read k d within).small) e)

widget-readable : (nodes : List NodeTable) → All IsReadNode nodes → HasNoListFault (list_fault_at nodes) → (nid : ℕ) → HasReadableList (widget_at nodes nid)
widget-readable nodes read none nid = found-readable nodes nid read (no_fault-at nodes nid (list_fault_at nodes nid) read none refl)

pub laid_out-readable : (codec : CodecTable) → All IsReadNode codec.nodes → HasNoListFault (list_fault_at codec.nodes) → All HasReadableList (laid_out codec).nodes
laid_out-readable codec read none =
    let nodes = codec.nodes in
    let inside = range_with_len codec.words.first codec.words.count in
    let outside = filter (is_outside codec.words.first codec.words.count) nodes in
    let each = widget-readable nodes read none in
    All-append HasReadableList (map (widget_at nodes) inside) (map (λ node. widget_at nodes node.nid) outside)
    (All-map HasReadableList (widget_at nodes) inside (λ k d within. each (get_or inside k d)))
    (All-map HasReadableList (λ node. widget_at nodes node.nid) outside (λ k d within. each (get_or outside k d).nid))
