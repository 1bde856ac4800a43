-- The tree under a root, as one of a union of trees.
use Rattle.bforest_core.proofs.Words.{◌≡◌, ℕ, ◌≤◌, ◌<◌, IsTrue, List, ◌∷◌, ◌++◌, length, refl, ap, subst, arith, flat_map, flat_map-append, Table, flat, Tree}
use Rattle.bforest_core.proofs.Words.{IsFit, IsIn, count, Distinct, root_of, numbers_of, IsRooted, tree_of, is_root, IsForest, IsUnion}
use Rattle.bforest_core.proofs.{table.Tables.count-append, union.Forests.{every-append, once, root-counts, tree-back, tree-with, within-slots}}

module _ {K V : Type 0} where
  -- a tree of a table and its root, among the other trees
  pub record Rooted (most : ℕ) (table : Table K V) (root : ℕ) (tree : Tree K V) : Type 0 where
    pub before : List (Tree K V)
    pub after : List (Tree K V)
    pub forest : IsForest most table (before ++ tree ∷ after)
    pub fit : IsFit most tree
    pub inside : IsIn table.nodes tree
    pub some : 1 ≤ length (flat tree.leaves)
    pub low : length tree.above ≤ 16
    pub root_is : root_of tree ≡ root
    pub tree_is : tree_of table.nodes root ≡ tree
    pub apart : Distinct (numbers_of tree ++ table.chain)
    pub within : (number : ℕ) → 0 < count number (numbers_of tree) → number < length table.nodes

  -- the numbers of one tree are among those of all
  numbers_parts : (m : ℕ) (before : List (Tree K V)) (tree : _) (after : List (Tree K V)) → count m (numbers_of tree) ≤ count m (flat_map numbers_of (before ++ tree ∷ after))
  numbers_parts m before tree after = omega (arith, ap (count m) (flat_map-append numbers_of before (tree ∷ after)), count-append)

  -- a tree of the witness is under its root
  rooted_at : {most table : _} (root : ℕ) (before : List (Tree K V)) (tree : _) (after : List (Tree K V)) → root_of tree ≡ root → IsForest most table (before ++ tree ∷ after) → Rooted most table root tree
  rooted_at {most} {table} root before tree after is f = record {
    before = before;
    after = after;
    forest = f;
    fit = (every-append (IsFit most) before (tree ∷ after) f.fit).1.0;
    inside = (every-append (IsIn table.nodes) before (tree ∷ after) f.inside).1.0;
    some = (every-append (λ tree. 1 ≤ length (flat tree.leaves)) before (tree ∷ after) f.some).1.0;
    low = (every-append (λ tree. length tree.above ≤ 16) before (tree ∷ after) f.low).1.0;
    root_is = is;
    tree_is = (tree-back before tree after root f refl is).0;
    apart = λ m. omega (arith, once f m, numbers_parts m before tree after, count-append);
    within = λ m some. within-slots f m (omega (arith, some, numbers_parts m before tree after));
  }

  -- in a union of trees, the tree computed from a root is the tree under it
  pub rooted : (most table root : _) → IsUnion most table → IsTrue (is_root table.nodes root) → Rooted most table root (tree_of table.nodes root)
  rooted most table root union root_there =
      let r = tree-with _ _ ((root-counts union.1 root).0 root_there) in let s = rooted_at _ _ _ _ r.4 (subst (IsForest most table) r.3 union.1) in
      rw s.tree_is s

  -- the tree computed from a root is in the slots
  pub is-rooted : {most : ℕ} {table : Table K V} (root : ℕ) → IsUnion most table → IsTrue (is_root table.nodes root) → IsRooted most table.nodes root (tree_of table.nodes root)
  is-rooted root union is = let r = rooted _ _ _ union is in record { fit = r.fit; inside = r.inside; root_is = r.root_is; some = r.some; low = r.low }
