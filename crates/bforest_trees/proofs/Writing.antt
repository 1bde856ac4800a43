-- Writing a value where a path stands.
use Rattle.bforest_trees.proofs.Changed.{becomes, list-root, sizes-new, sizes-root}
use Rattle.bforest_trees.proofs.Spots.{computed, spot-on}
use Rattle.bforest_trees.specs.Forest.{Becomes, Forest, list_of}
use Rattle.bforest_trees.specs.Place.{IsWritten, OnSpot}
use Rattle.bforest_core.proofs.union.Written.{value-under, value-written}
use Rattle.bforest_core.proofs.walks.Standing.{on-at}
use Rattle.bforest_core.specs.Levels.{sizes_of as tree_sizes}
use Rattle.bforest_core.specs.Paths.{index_of, leaf_of, list_under}
use Rattle.bforest_core.specs.Table.{value_at, with_value_at}
use Rattle.bforest_core.specs.Trees.{IsUnion, tree_of}
use Rattle.bforest_core.specs.declared.path.Path.{Path}
use Rattle.bforest_nodes.specs.Entries.{value_at_place, with_value}
use Rattle.std.proofs.Common.{List, Option, Some, ap, length-set, refl, subst, sym, ◌∙◌, ◌≡◌, ℕ}

module _ {K X : Type 0} {m : ℕ} (f : Forest K X) (h : Option ℕ) (path : Path K X m) (at : OnSpot f h path) (union : IsUnion m f) where
  -- what a write through a path leaves
  pub written-at : (w : X) → IsWritten f (with_value_at f (leaf_of path) (index_of path) w) h path at.place w
  written-at w =
      let t = spot-on f path h at.place at.spot at.within in
      let n : ℕ = t.0 in
      let p : ℕ = at.place in
      let f' = with_value_at f (leaf_of path) (index_of path) w in
      let v = value-written union t.2 w in
      let es = list_under f n in
      subst (λ (z : Option ℕ). IsWritten f f' z path p w) (sym t.1)
      (record {
        becomes = subst (λ (l : List (K × X)). Becomes f (Some n) f' (Some n) (with_value l p w)) (sym (list-root f n t.2.root_is)) (becomes m f f' n n (with_value es p w) (tree_sizes (tree_of f.nodes n)) v.0);
        sizes = sizes-new m f f' n n (with_value es p w) (tree_sizes (tree_of f.nodes n)) v.0 ∙ sym (sizes-root f n t.2.root_is);
        slots = length-set _ _ _;
        free = refl;
        memory = refl;
        spot = on-at f' path v.1;
        computed = computed m f' (Some n) v.0.union;
      })

  -- the value of the entry where a path stands
  pub value-here : (v : X) → Some v ≡ value_at f.nodes (leaf_of path) (index_of path) → value_at_place (list_of f h) at.place ≡ Some v
  value-here v is =
      let t = spot-on f path h at.place at.spot at.within in
      ap (λ (z : Option ℕ). value_at_place (list_of f z) at.place) t.1 ∙ ap (λ (l : List (K × X)). value_at_place l at.place) (list-root f t.0 t.2.root_is)
      ∙ sym (is ∙ value-under union t.2)
