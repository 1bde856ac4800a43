-- Replacing trees of a table by others, with nodes from or to the chain: all other roots keep their trees.
use Rattle.bforest_core.proofs.Words.{◌≡◌, ℕ, ◌+◌, ◌≤◌, ◌<◌, ◌↔◌, IsTrue, List, [], ◌∷◌, ◌++◌, map, length, slice_get, sym, ap, ◌∙◌, inl, inr, append_assoc}
use Rattle.bforest_core.proofs.Words.{arith, flat_map, map-append, flat_map-append, cases_lt, Content, IsFree, Table, flat, Tree, IsFit, IsIn, Distinct}
use Rattle.bforest_core.proofs.{Words.{count, root_of, numbers_of, slot, tree_of, is_root, Every, IsForest, Trades}, union.FreeSlots.free-same}
use Rattle.bforest_core.proofs.rows.Counts.{once_below, at-most-one}
use Rattle.bforest_core.proofs.union.Forests.{every-append, every-join, roots-once, root-counts, tree-with, tree-back}
use Rattle.bforest_core.proofs.table.Tables.{count-append, row-same, rows-same}

-- what holds of every element of a list holds of those before and after a part of it
every_outer : {X : Type 0} (P : X → Type 0) (before gone after : List X) → Every P (before ++ (gone ++ after)) → Every P before × Every P after
every_outer P before gone after e = let r = every-append P _ _ e in (r.0, (every-append P _ _ r.1).1)

every_put : {X : Type 0} (P : X → Type 0) (before come after : List X) → Every P before × Every P after → Every P come → Every P (before ++ (come ++ after))
every_put P before come after e c = every-join P _ _ e.0 (every-join P _ _ c e.1)

every-map : {X : Type 0} (P Q : X → Type 0) → ((x : X) → P x → Q x) → (xs : List X) → Every P xs → Every Q xs
every-map P Q f [] e = tt
every-map P Q f (x ∷ xs) e = (f x e.0, every-map P Q f xs e.1)

module _ {K V : Type 0} where
  -- a tree is in any slots that agree on its numbers
  pub tree-same : {old : List (Content K V)} (new : List (Content K V)) {tree : Tree K V} → ((m : ℕ) → 0 < count m (numbers_of tree) → slice_get new m ≡ slice_get old m) → IsIn old tree → IsIn new tree
  tree-same new same i = record {
    leaves_in = row-same _ _ _ _ (λ m some. same m (omega (arith, some, count-append))) i.leaves_in;
    rows_in = rows-same _ _ _ (λ m some. same m (omega (arith, some, count-append))) i.rows_in;
  }

  -- trees are in any slots that agree on their numbers
  pub trees-same : (old new : List (Content K V)) (trees : List (Tree K V)) → ((m : ℕ) → 0 < count m (flat_map numbers_of trees) → slice_get new m ≡ slice_get old m) → Every (IsIn old) trees → Every (IsIn new) trees
  trees-same old new [] same i = tt
  trees-same old new (tree ∷ trees) same i = (
    tree-same new (λ m some. same m (omega (arith, some, count-append))) i.0,
    trees-same old new trees (λ m some. same m (omega (arith, some, count-append))) i.1,
  )

  -- how often a number occurs in three parts of the trees and on the chain
  count_parts : (m : ℕ) (before some after : List (Tree K V)) (chain : _) →
      count m (flat_map numbers_of (before ++ (some ++ after)) ++ chain) ≡ count m (flat_map numbers_of before) + (count m (flat_map numbers_of some) + count m (flat_map numbers_of after)) + count m chain
  count_parts m before some after chain = let a = ap (λ z. count m (z ++ chain)) (flat_map-append numbers_of before (some ++ after)) in
      let b = count-append m (flat_map numbers_of before ++ flat_map numbers_of (some ++ after)) chain in
      let c = count-append m (flat_map numbers_of before) (flat_map numbers_of (some ++ after)) in
      let d = ap (count m) (flat_map-append numbers_of some after) ∙ count-append m (flat_map numbers_of some) (flat_map numbers_of after) in omega arith

  -- some numbers of the trees are replaced: with the chain, each occurs as often as before, and other slots
  -- stay
  pub record Traded (old new : Table K V) (gone come : List ℕ) : Type 0 where
    pub free : Every (λ number. IsFree (slot new.nodes number)) new.chain
    pub slots_are : length new.nodes ≡ length old.nodes
    pub nums : (m : ℕ) → count m come + count m new.chain ≡ count m gone + count m old.chain
    pub others : (m : ℕ) → count m gone + count m old.chain ≡ 0 → slice_get new.nodes m ≡ slice_get old.nodes m

  -- the numbers are traded where the chain loses its first ones, or gains others in front
  pub traded : {old new : Table K V} {gone come taken freed : List ℕ} (rest : List ℕ) → Every (λ number. IsFree (slot old.nodes number)) old.chain → Distinct (gone ++ old.chain) →
      old.chain ≡ taken ++ rest → new.chain ≡ freed ++ rest → Trades old new gone come taken freed → Traded old new gone come
  traded {old} {new} {taken = taken} {freed} rest free apart old_is new_is d = let c = λ (m : ℕ). ap (count m) old_is in
      let left = (every-append (λ number. IsFree (slot old.nodes number)) taken rest (rw (← old_is) free)).1 in
      let still = free-same old.nodes new.nodes rest (λ m here. d.others m (omega (arith, c m, apart m, count-append))) left in record {
        free = rw new_is (every-join _ _ _ d.freed_are still);
        slots_are = d.slots_are;
        nums = λ m. omega (arith, d.numbers_are m, c m, ap (count m) new_is, count-append);
        others = λ m none. d.others m (omega (arith, c m, count-append));
      }

  -- a fit tree that is not empty, at most 17 levels high and in these slots
  pub record IsPlanted (most : ℕ) (slots : List (Content K V)) (tree : Tree K V) : Type 0 where
    pub fit : IsFit most tree
    pub inside : IsIn slots tree
    pub some : 1 ≤ length (flat tree.leaves)
    pub low : length tree.above ≤ 16

  -- replacing trees of a forest by others that are in the new table
  pub exchange-trees : {most : ℕ} {old new : Table K V} (before gone come after : List (Tree K V)) → IsForest most old (before ++ (gone ++ after)) → Every
      (IsPlanted most new.nodes) come → Traded old new (flat_map numbers_of gone) (flat_map numbers_of come) → IsForest most new (before ++ (come ++ after))
  exchange-trees {old} {new} before gone come after f p t =
      let one : (m : ℕ) → count m (flat_map numbers_of before) + (count m (flat_map numbers_of gone) + count m (flat_map numbers_of after)) + count m old.chain ≤ 1 =
      λ m. omega (arith, f.account m, at-most-one, count_parts m before gone after old.chain) in
      let ins = every_outer _ _ _ _ f.inside in record {
        capacity = f.capacity;
        fit = every_put _ _ _ _ (every_outer _ _ _ _ f.fit) (every-map _ _ (λ tree q. q.fit) _ p);
        inside = every_put _ _ _ _ (
          trees-same _ _ _ (λ m here. t.others m (omega (arith, one m))) ins.0,
          trees-same _ _ _ (λ m here. t.others m (omega (arith, one m))) ins.1,
        ) (every-map _ _ (λ tree q. q.inside) _ p);
        some = every_put (λ tree. 1 ≤ length (flat tree.leaves)) _ _ _ (every_outer (λ tree. 1 ≤ length (flat tree.leaves)) _ _ _ f.some)
            (every-map _ _ (λ tree q. q.some) _ p);
        low = every_put (λ tree. length tree.above ≤ 16) _ _ _ (every_outer (λ tree. length tree.above ≤ 16) _ _ _ f.low) (every-map _ _ (λ tree q. q.low) _ p);
        free = t.free;
        account = λ m. omega (arith, count_parts m before come after new.chain, count_parts m before gone after old.chain, t.nums m) ∙ f.account m ∙ ap (once_below m) (sym t.slots_are);
      }

  -- how often a number is a root in three parts of the trees
  count_roots : (m : ℕ) (before some after : List (Tree K V)) → count m (map root_of (before ++ (some ++ after))) ≡ count m (map root_of before) + (count m (map root_of some) + count m (map root_of after))
  count_roots m before some after = let a = ap (count m) (map-append _ _ _) ∙ count-append m (map root_of before) (map root_of (some ++ after)) in
      let b = ap (count m) (map-append _ _ _) ∙ count-append m (map root_of some) (map root_of after) in omega arith

  -- a tree before or after the replaced ones is computed alike from each table that has it
  outer_tree : (most : ℕ) (before after : List (Tree K V)) (other : ℕ) → 0 < count other (map root_of before) + count other (map root_of after) → (tree : _) × ((table : _) (some : List (Tree K V)) → IsForest most table (before ++ (some ++ after)) → tree_of table.nodes other ≡ tree)
  outer_tree most before after other there = elim (cases_lt 0 (count other (map root_of before))) [
    | inl here ↦ (let r = tree-with _ _ here in (r.1, λ table some f. (tree-back r.0 r.1 (r.2 ++ (some ++ after)) other f (cc (append_assoc r.0 (r.1 ∷ r.2) (some ++ after))) r.4).0))
    | inr none ↦ (let r = tree-with after other (omega arith) in (
      r.1,
      λ table some f. (tree-back ((before ++ some) ++ r.0) r.1 r.2 other f (cc (append_assoc _ _ _)) r.4).0,
    ))
  ]

  -- every number that is no root of the replaced trees is a root as before, and keeps its tree
  pub others-keep : {most old new : _} (before gone come after : List (Tree K V)) → IsForest most old (before ++ (gone ++ after)) → IsForest most new (before ++ (come ++ after)) →
      (other : ℕ) → count other (map root_of gone) ≡ 0 → count other (map root_of come) ≡ 0 → (IsTrue (is_root new.nodes other) ↔ IsTrue (is_root old.nodes other)) × (IsTrue (is_root old.nodes other) → tree_of new.nodes other ≡ tree_of old.nodes other)
  others-keep {most} {old} {new} before gone come after f g other none none' =
      let cf = root-counts f other in let cg = root-counts g other in let a = count_roots other before gone after in
      let b = count_roots other before come after in (
        (λ root. cf.1 (omega arith), λ root. cg.1 (omega arith)),
        λ root. (let t = outer_tree most before after other (omega arith) in t.1 new come g ∙ sym (t.1 old gone f)),
      )

  -- a root of the replaced trees that none of the new ones has is not a root
  pub roots-gone : {most old new : _} (before gone come after : List (Tree K V)) → IsForest most old (before ++ (gone ++ after)) → IsForest most new (before ++ (come ++ after)) →
      (m : ℕ) → 0 < count m (map root_of gone) → count m (map root_of come) ≡ 0 → ¬ IsTrue (is_root new.nodes m)
  roots-gone {old} before gone come after f g m some none root =
      omega (arith, (root-counts g m).0 root, count_roots m before gone after, count_roots m before come after, some, roots-once old f m)
