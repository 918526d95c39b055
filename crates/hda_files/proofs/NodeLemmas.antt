-- Tables read one after another.
use Rattle.std.proofs.Common.{◌≤◌, suc, max, fold, All, arith, ◌≡◌, ℕ, inl, inr, List, [], ◌∷◌, ◌++◌, Result, Ok}
use Rattle.toml.specs.Data.{Members}
use Rattle.hda_files.specs.declared.fault.FileFault.{FileFault}
use Rattle.hda_files.specs.declared.node.NodeTable.{NodeTable}
use Rattle.hda_files.specs.Values.{each_after}
use Rattle.hda_files.specs.Readers.{IsMeant, IsReadNode}

-- after a good table the others follow
pub each_after-good : {A : Type 0} (read_one : List A → Members → Result A FileFault) (earlier : List A) (table : Members) (tables : List Members) (one : A) → IsMeant (Ok one) (read_one earlier table)
    → each_after read_one earlier (table ∷ tables) ≡ each_after read_one (earlier ++ one ∷ []) tables
each_after-good read_one earlier table tables one (inl memory) = cc
each_after-good read_one earlier table tables one (inr meant) = rw (← meant)

-- the greatest of small node identifiers is small
pub greatest-bound : (nodes : List NodeTable) (greatest : ℕ) → greatest ≤ 127 → All IsReadNode nodes → fold (λ most node. max most node.nid) greatest nodes ≤ 127
greatest-bound [] greatest small bound = small
greatest-bound (node ∷ nodes) greatest small bound =
    let here : node.nid ≤ 127 = (bound 0 node (omega arith)).small in
    greatest-bound nodes (max greatest node.nid) (omega arith) (λ k d within. bound (suc k) d (omega arith))
