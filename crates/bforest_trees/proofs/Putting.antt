-- What an insertion needs and leaves, where its key is present and where it is absent.
use Rattle.bforest_trees.proofs.Changed.{becomes, list-root, sizes-new, sizes-root, takes}
use Rattle.bforest_trees.specs.Forest.{Becomes, Forest, Takes, list_at, list_of, need_of, sizes_at, sizes_of as forest_sizes, sizes_with}
use Rattle.bforest_core.proofs.table.Allocating.{grows-not}
use Rattle.bforest_nodes.proofs.Found.{put-absent, put-present}
use Rattle.bforest_nodes.specs.Entries.{entry_for, is_present, place, put, value_for, with_value}
use Rattle.bforest_core.specs.Change.{Changes, TakesNodes}
use Rattle.bforest_core.specs.Levels.{flat, sizes_of}
use Rattle.bforest_core.specs.Sizes.{growth, need}
use Rattle.bforest_core.specs.Table.{slot_count}
use Rattle.bforest_core.specs.Trees.{is_root, tree_of}
use Rattle.std.proofs.Common.{IsTrue, List, None, Option, Some, ap, arith, false, if◌then◌else◌, insert, length, refl, subst, sym, true, ◌∙◌, ◌≡◌, ◌↔◌, ℕ}
use Rattle.std.specs.Option.{is_some, option_map}
use Rattle.std.specs.declared.cmp.Ordering.{Ordering}

module _ {K X : Type 0} (cmp : K → K → Ordering) (es : List (K × X)) (k : K) where
  -- a key with a value is present
  pub present-some : (v : X) → value_for cmp es k ≡ Some v → is_present cmp es k ≡ true
  present-some v h = go (entry_for cmp es k) h
    where
      go : (o : Option (K × X)) → option_map (λ e. e.1) o ≡ Some v → is_some o ≡ true
      go None h = absurd (cc)
      go (Some e) h = refl

  -- a key without a value is absent
  pub absent-none : value_for cmp es k ≡ None → is_present cmp es k ≡ false
  absent-none h = go (entry_for cmp es k) h
    where
      go : (o : Option (K × X)) → option_map (λ e. e.1) o ≡ None → is_some o ≡ false
      go None h = refl
      go (Some e) h = absurd (cc)

  -- a key for which a search found a value is present
  pub present-told : is_some (value_for cmp es k) ≡ true → is_present cmp es k ≡ true
  present-told h = go (entry_for cmp es k) h
    where
      go : (o : Option (K × X)) → is_some (option_map (λ e. e.1) o) ≡ true → is_some o ≡ true
      go None h = absurd (cc)
      go (Some e) h = refl

  -- a key for which a search found no value is absent
  pub absent-told : is_some (value_for cmp es k) ≡ false → is_present cmp es k ≡ false
  absent-told h = go (entry_for cmp es k) h
    where
      go : (o : Option (K × X)) → is_some (option_map (λ e. e.1) o) ≡ false → is_some o ≡ false
      go None h = refl
      go (Some e) h = absurd (cc)

-- the sizes stay where the key is present
pub sizes-kept : {K X : Type 0} (most : ℕ) (cmp : K → K → Ordering) (f : Forest K X) (h : Option ℕ) (k : K) → is_present cmp (list_of f h) k ≡ true → sizes_with most cmp f h k ≡ forest_sizes f h
sizes-kept most cmp f h k here = λ j. if here j then forest_sizes f h else growth most (place cmp (list_of f h) k) (forest_sizes f h)

module _ {K X : Type 0} (most : ℕ) (cmp : K → K → Ordering) (f f' : Forest K X) (n n' : ℕ) (k : K) (v : X) where
  -- what an insertion into the tree of a number leaves
  pub record IsPut : Type 0 where
    pub put : Becomes f (Some n) f' (Some n') (put cmp (list_at f n) k v)
    pub sizes : sizes_at f' n' ≡ sizes_with most cmp f (Some n) k
    pub same_root : (n' ≡ n) ↔ (length (sizes_with most cmp f (Some n) k) ≡ length (sizes_at f n))
    pub account : Takes (need_of most cmp f (Some n) k) f f'

module _ {K X : Type 0} (most : ℕ) (cmp : K → K → Ordering) (f : Forest K X) (n : ℕ) (k : K) (root : IsTrue (is_root f.nodes n)) where
  abbrev es : List (K × X)
  es = flat (tree_of f.nodes n).leaves

  abbrev ss : List (List ℕ)
  ss = sizes_of (tree_of f.nodes n)

  abbrev at : ℕ
  at = place cmp es k

  module _ (here : is_present cmp es k ≡ true) where
    -- no node is needed where the key is present
    pub need-present : need_of most cmp f (Some n) k ≡ 0
    need-present =
        (λ j. if is_present cmp (list-root f n root j) k then 0 else need most (place cmp (list-root f n root j) k) (sizes_at f n)) ∙ (λ j. if here j then 0 else need most at (sizes_at f n))

    -- the sizes stay where the key is present in the tree under a root
    pub sizes-present : sizes_with most cmp f (Some n) k ≡ ss
    sizes-present =
        (λ j. if is_present cmp (list-root f n root j) k then sizes-root f n root j else growth most (place cmp (list-root f n root j) k) (sizes-root f n root j)) ∙ (λ j. if here j then ss else growth most at ss)

    -- replacing the value of a present key inserts the entry
    pub put-here : (f' : Forest K X) (v : X) → Changes most f f' n n (with_value es at v) ss → slot_count f' ≡ slot_count f → f'.chain ≡ f.chain →
        f'.memory ≡ f.memory → IsPut most cmp f f' n n k v
    put-here f' v c slots chain memory = record {
      put = subst (λ (l : List (K × X)). Becomes f (Some n) f' (Some n) l) (sym (ap (λ (l : List (K × X)). put cmp l k v) (list-root f n root) ∙ put-present cmp es k v here)) (becomes most f f' n n (with_value es at v) ss c);
      sizes = sizes-new most f f' n n (with_value es at v) ss c ∙ sym sizes-present;
      same_root = (λ e. ap length (sizes-present ∙ sym (sizes-root f n root)), λ e. refl);
      account = subst (λ (d : ℕ). Takes d f f') (sym need-present) (record { slots = omega (arith, slots); free = omega (arith, ap length chain); memory = grows-not memory });
    }

  module _ (gone : is_present cmp es k ≡ false) where
    -- the need of an absent key is that of an insertion at its place
    pub need-absent : need_of most cmp f (Some n) k ≡ need most at ss
    need-absent =
        (λ j. if is_present cmp (list-root f n root j) k then 0 else need most (place cmp (list-root f n root j) k) (sizes-root f n root j)) ∙ (λ j. if gone j then 0 else need most at ss)

    -- the sizes with an absent key are the growth at its place
    pub sizes-absent : sizes_with most cmp f (Some n) k ≡ growth most at ss
    sizes-absent =
        (λ j. if is_present cmp (list-root f n root j) k then sizes-root f n root j else growth most (place cmp (list-root f n root j) k) (sizes-root f n root j)) ∙ (λ j. if gone j then ss else growth most at ss)

    -- inserting a new entry at the place of an absent key inserts the entry
    pub put-new : (f' : Forest K X) (n' : ℕ) (v : X) → Changes most f f' n n' (insert es at (k, v)) (growth most at ss) → TakesNodes (need most at ss) f f' → (n' ≡ n) ↔ (length (growth most at ss) ≡ length ss) → IsPut most cmp f f' n n' k v
    put-new f' n' v c t same = record {
      put = subst (λ (l : List (K × X)). Becomes f (Some n) f' (Some n') l) (sym (ap (λ (l : List (K × X)). put cmp l k v) (list-root f n root) ∙ put-absent cmp es k v gone)) (becomes most f f' n n' (insert es at (k, v)) (growth most at ss) c);
      sizes = sizes-new most f f' n n' (insert es at (k, v)) (growth most at ss) c ∙ sym sizes-absent;
      same_root = (λ e. ap length sizes-absent ∙ same.0 e ∙ sym (ap length (sizes-root f n root)), λ e. same.1 (sym (ap length sizes-absent) ∙ e ∙ ap length (sizes-root f n root)));
      account = subst (λ (d : ℕ). Takes d f f') (sym need-absent) (takes (need most at ss) f f' t);
    }
