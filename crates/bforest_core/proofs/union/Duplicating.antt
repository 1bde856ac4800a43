-- A copy of the tree under a root, once as many nodes are free as it has.
use Rattle.bforest_core.proofs.Words.{◌≡◌, ℕ, ◌≤◌, IsTrue, [], length, sym, ap, subst, ◌∙◌, arith, Draws, GrowsFor, IsUnion, KeepsTrees, NodeOver, Table}
use Rattle.bforest_core.proofs.Words.{flat, free_count, is_root, node_count, numbers_of, reserved, root_of, sizes_of, tree_of}
use Rattle.bforest_core.proofs.union.{Account.nodes-count, Planting.planted-tree, Renaming.{Renamed, renamed-tree, tree_by}, Unions.{Rooted, rooted}}
use Rattle.bforest_core.proofs.walks.Standing.{under-root}
use Rattle.bforest_core.specs.{Change.{PlantsTree}, Copies.{Copies}}

module _ {K V : Type 0} {most : ℕ} {old mid : Table K V} (root : ℕ) {n : ℕ} (union : IsUnion most old) (is : IsTrue (is_root old.nodes root))
    (kept : IsUnion most mid × KeepsTrees old.nodes mid.nodes) (n_is : n ≡ node_count (sizes_of (tree_of old.nodes root))) where
  -- the root is one of the table in which nodes were reserved
  pub there : IsTrue (is_root mid.nodes root)
  there = (kept.1 root).0 ∙ is

  pub same : tree_of mid.nodes root ≡ tree_of old.nodes root
  same = (kept.1 root).1 is

  pub asks_rooted : Rooted most mid root (tree_of mid.nodes root)
  asks_rooted = rooted most mid root kept.0 there

  abbrev pub asks_under : NodeOver most mid.nodes (tree_of mid.nodes root).leaves root
  asks_under = under-root root kept.0 there

  -- as many nodes are free as the tree has
  pub asks_room : n ≤ free_count mid → length (numbers_of (tree_of mid.nodes root)) ≤ free_count mid
  asks_room room = omega (arith, room, n_is, nodes-count (tree_of mid.nodes root), ap (λ z. node_count (sizes_of z)) same)

  -- the copy is one more tree
  pub copied-tree : {new : Table K V} {copy : ℕ} → mid ≡ reserved old n mid.memory → GrowsFor n old mid → Copies mid new (numbers_of (tree_of mid.nodes root)) root copy →
      PlantsTree most old new copy (flat (tree_of old.nodes root).leaves) (sizes_of (tree_of old.nodes root))
  copied-tree {new} {copy} mid_is growth made = let r = asks_rooted in let tree = tree_of mid.nodes root in
      let ren : Renamed most new.nodes made.name tree = renamed-tree tree (record { fit = r.fit; inside = r.inside; some = r.some; low = r.low }) made.copies in
      let tree' = tree_by made.name tree in
      let drawn : Draws mid new [] (numbers_of tree') made.taken = rw ren.numbers_are made.draws in
      let memory : new.memory ≡ mid.memory = drawn.memory_is in
      let grows : GrowsFor n old new =
      record {
        grows = rw memory growth.grows;
        stays = λ enough. memory ∙ growth.stays enough;
        suffices = λ enough. memory ∙ growth.suffices enough;
        bounded = rw memory growth.bounded;
      } in
      let root_is : root_of tree' ≡ copy = ren.root_is ∙ ap made.name r.root_is ∙ made.copy_is in
      let sizes : sizes_of tree' ≡ sizes_of (tree_of old.nodes root) = ren.sizes_are ∙ ap sizes_of same in
      let list : flat tree'.leaves ≡ flat (tree_of old.nodes root).leaves = ren.list_is ∙ ap (λ z. flat z.leaves) same in
      let all = planted-tree most old n mid.memory tree' union (subst (λ z. Draws z new [] (numbers_of tree') made.taken) mid_is drawn) ren.planted (n_is ∙ ap node_count (sym sizes)) root_is grows in
      subst (λ z. PlantsTree most old new copy (flat (tree_of old.nodes root).leaves) z) sizes (subst (λ z. PlantsTree most old new copy z (sizes_of tree')) list all)
