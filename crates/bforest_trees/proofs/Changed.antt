-- The words of contracts in terms of those of a pool's calls.
use Rattle.bforest_trees.specs.Forest.{Becomes, Forest, IsLive, Keeps, Takes, list_at, list_of, sizes_at, sizes_of}
use Rattle.bforest_core.proofs.union.Unions.{rooted}
use Rattle.bforest_core.specs.Change.{Changes, KeepsTrees, TakesNodes}
use Rattle.bforest_core.specs.Levels.{flat, sizes_of as tree_sizes}
use Rattle.bforest_core.specs.Paths.{list_under}
use Rattle.bforest_core.specs.Trees.{IsUnion, is_root, tree_of}
use Rattle.bforest_nodes.specs.Entries.{IsIncreasing}
use Rattle.std.proofs.Common.{Bool, IsTrue, List, None, Option, Some, [], ap, arith, false, if◌then◌else◌, length, refl, subst, sym, true, ◌∙◌, ◌∷◌, ◌≡◌, ◌≢◌, ◌≤◌, ◌↔◌, ℕ}
use Rattle.std.specs.declared.cmp.Ordering.{Ordering}

module _ {K X : Type 0} where
  -- the list of a root is that of its tree
  pub list-root : (f : Forest K X) (n : ℕ) → IsTrue (is_root f.nodes n) → list_at f n ≡ flat (tree_of f.nodes n).leaves
  unfolding list_at
  list-root f n root = λ j. if root j then flat (tree_of f.nodes n).leaves else []

  -- the sizes of a root are those of its tree
  pub sizes-root : (f : Forest K X) (n : ℕ) → IsTrue (is_root f.nodes n) → sizes_at f n ≡ tree_sizes (tree_of f.nodes n)
  unfolding sizes_at
  sizes-root f n root = λ j. if root j then tree_sizes (tree_of f.nodes n) else []

  -- a number that is no root has the empty list
  pub list-none : (f : Forest K X) (n : ℕ) → ¬ IsTrue (is_root f.nodes n) → list_at f n ≡ []
  unfolding list_at
  list-none f n gone = go (is_root f.nodes n) gone
    where
      go : (b : Bool) → ¬ IsTrue b → (if b then flat (tree_of f.nodes n).leaves else []) ≡ []
      go true gone = absurd (gone refl)
      go false gone = refl

  -- a number that is no root has no sizes
  pub sizes-none : (f : Forest K X) (n : ℕ) → ¬ IsTrue (is_root f.nodes n) → sizes_at f n ≡ []
  unfolding sizes_at
  sizes-none f n gone = go (is_root f.nodes n) gone
    where
      go : (b : Bool) → ¬ IsTrue b → (if b then tree_sizes (tree_of f.nodes n) else []) ≡ []
      go true gone = absurd (gone refl)
      go false gone = refl

  -- a number whose list is not empty is a root
  pub live-root : (f : Forest K X) (n : ℕ) → list_at f n ≢ [] → IsTrue (is_root f.nodes n)
  unfolding list_at
  live-root f n live = go (is_root f.nodes n) live
    where
      go : (b : Bool) → (if b then flat (tree_of f.nodes n).leaves else []) ≢ [] → IsTrue b
      go true live = refl
      go false live = absurd (live refl)

  -- a live handle of no entry is empty
  pub live-empty : (f : Forest K X) (h : Option ℕ) → IsLive f h → list_of f h ≡ [] → h ≡ None
  live-empty f None live none = refl
  live-empty f (Some n) live none = absurd (live none)

  -- a list of at least one entry is not empty
  some_not_none : (es : List (K × X)) → 1 ≤ length es → es ≢ []
  some_not_none [] some e = omega (arith, some)
  some_not_none (x ∷ es) some e = cc

  -- the list of a root is not empty
  pub root-live : (most : ℕ) (f : Forest K X) (n : ℕ) → IsUnion most f → IsTrue (is_root f.nodes n) → list_at f n ≢ []
  root-live most f n union root e =
      some_not_none (flat (tree_of f.nodes n).leaves) (rooted most f n union root).some (sym (list-root f n root) ∙ e)

  -- the root, the list and the sizes of a number whose list is not empty
  pub record Seen (p f : Forest K X) (n : ℕ) : Type 0 where
    pub root : IsTrue (is_root p.nodes n)
    pub list : flat (tree_of p.nodes n).leaves ≡ list_at f n
    pub sizes : tree_sizes (tree_of p.nodes n) ≡ sizes_at f n

  pub seen : (p f : Forest K X) (n : ℕ) → p ≡ f → list_at f n ≢ [] → Seen p f n
  seen p f n is live =
      let r = live-root p n (subst (λ (z : Forest K X). list_at z n ≢ []) (sym is) live) in
      record { root = r; list = sym (list-root p n r) ∙ ap (λ z. list_at z n) is; sizes = sym (sizes-root p n r) ∙ ap (λ z. sizes_at z n) is }

  -- a number that keeps its tree, or has none before and after, keeps its list
  pub same_list : (f f' : Forest K X) (n : ℕ) → (IsTrue (is_root f'.nodes n) ↔ IsTrue (is_root f.nodes n)) × (IsTrue (is_root f.nodes n) → tree_of f'.nodes n ≡ tree_of f.nodes n) → list_at f' n ≡ list_at f n
  unfolding list_at
  same_list f f' n k = go (is_root f'.nodes n) (is_root f.nodes n) k.0 k.1
    where
      go : (b' b : Bool) → (IsTrue b' ↔ IsTrue b) → (IsTrue b → tree_of f'.nodes n ≡ tree_of f.nodes n) → (if b' then flat (tree_of f'.nodes n).leaves else []) ≡ (if b then flat (tree_of f.nodes n).leaves else [])
      go true true k t = ap (λ z. flat z.leaves) (t refl)
      go true false k t = absurd (let bad = k.0 refl in cc)
      go false true k t = absurd (let bad = k.1 refl in cc)
      go false false k t = refl

  pub same_sizes : (f f' : Forest K X) (n : ℕ) → (IsTrue (is_root f'.nodes n) ↔ IsTrue (is_root f.nodes n)) × (IsTrue (is_root f.nodes n) → tree_of f'.nodes n ≡ tree_of f.nodes n) → sizes_at f' n ≡ sizes_at f n
  unfolding sizes_at
  same_sizes f f' n k = go (is_root f'.nodes n) (is_root f.nodes n) k.0 k.1
    where
      go : (b' b : Bool) → (IsTrue b' ↔ IsTrue b) → (IsTrue b → tree_of f'.nodes n ≡ tree_of f.nodes n) → (if b' then tree_sizes (tree_of f'.nodes n) else []) ≡ (if b then tree_sizes (tree_of f.nodes n) else [])
      go true true k t = ap (λ z. tree_sizes z) (t refl)
      go true false k t = absurd (let bad = k.0 refl in cc)
      go false true k t = absurd (let bad = k.1 refl in cc)
      go false false k t = refl

  -- a tree that changed under a root, perhaps to another root, becomes this list
  pub becomes : (most : ℕ) (f f' : Forest K X) (r r' : ℕ) (es : List (K × X)) (ss : List (List ℕ)) → Changes most f f' r r' es ss → Becomes f (Some r) f' (Some r') es
  becomes most f f' r r' es ss c = record {
    live = root-live most f' r' c.union c.root_is;
    list = list-root f' r' c.root_is ∙ c.list_is;
    leaves = λ ne. list-none f' r (c.old_gone (λ (e : r ≡ r'). ne (ap Some (sym e))));
    fresh = λ ne. list-none f r' (c.new_came (λ (e : r ≡ r'). ne (ap Some (sym e))));
    leaves_sizes = λ ne. sizes-none f' r (c.old_gone (λ (e : r ≡ r'). ne (ap Some (sym e))));
    fresh_sizes = λ ne. sizes-none f r' (c.new_came (λ (e : r ≡ r'). ne (ap Some (sym e))));
    others = λ n ne ne'. same_list f f' n (c.others n (λ (e : n ≡ r). ne (ap Some e)) (λ (e : n ≡ r'). ne' (ap Some e)));
    others_sizes = λ n ne ne'. same_sizes f f' n (c.others n (λ (e : n ≡ r). ne (ap Some e)) (λ (e : n ≡ r'). ne' (ap Some e)));
    limit = c.limit_is;
  }

  -- a tree under a number that had none becomes the list of that number
  pub becomes-new : (most : ℕ) (f f' : Forest K X) (n : ℕ) (es : List (K × X)) (ss : List (List ℕ)) → ¬ IsTrue (is_root f.nodes n) → Changes most f f' n n es ss → Becomes f None f' (Some n) es
  becomes-new most f f' n es ss gone c = record {
    live = root-live most f' n c.union c.root_is;
    list = list-root f' n c.root_is ∙ c.list_is;
    leaves = λ ne. refl;
    fresh = λ ne. list-none f n gone;
    leaves_sizes = λ ne. refl;
    fresh_sizes = λ ne. sizes-none f n gone;
    others = λ m ne ne'. same_list f f' m (c.others m (λ (e : m ≡ n). ne' (ap Some e)) (λ (e : m ≡ n). ne' (ap Some e)));
    others_sizes = λ m ne ne'. same_sizes f f' m (c.others m (λ (e : m ≡ n). ne' (ap Some e)) (λ (e : m ≡ n). ne' (ap Some e)));
    limit = c.limit_is;
  }

  -- the sizes of a tree that changed
  pub sizes-new : (most : ℕ) (f f' : Forest K X) (r r' : ℕ) (es : List (K × X)) (ss : List (List ℕ)) → Changes most f f' r r' es ss → sizes_at f' r' ≡ ss
  sizes-new most f f' r r' es ss c = sizes-root f' r' c.root_is ∙ c.sizes_are

  -- where each tree is kept, each number keeps its list and sizes
  pub keeps : (f f' : Forest K X) → KeepsTrees f.nodes f'.nodes → f'.limit ≡ f.limit → Keeps f f'
  keeps f f' k l = record {
    lists = λ n. same_list f f' n ((λ t. sym (k n).0 ∙ t, λ t. (k n).0 ∙ t), (k n).1);
    sizes = λ n. same_sizes f f' n ((λ t. sym (k n).0 ∙ t, λ t. (k n).0 ∙ t), (k n).1);
    limit = l;
  }

  -- taking nodes from a table takes slots of a forest
  pub takes : (d : ℕ) (f f' : Forest K X) → TakesNodes d f f' → Takes d f f'
  takes d f f' t = record { slots = t.slots; free = t.free; memory = t.memory }

  -- the root, the list and the sizes of a live handle
  pub record SeenAs (p f : Forest K X) (h : Option ℕ) (n : ℕ) : Type 0 where
    pub root : IsTrue (is_root p.nodes n)
    pub list : flat (tree_of p.nodes n).leaves ≡ list_of f h
    pub sizes : tree_sizes (tree_of p.nodes n) ≡ sizes_of f h

  pub seen-as : {p f : Forest K X} {h : Option ℕ} {n : ℕ} → p ≡ f → h ≡ Some n → IsLive f h → SeenAs p f h n
  seen-as {h = None} is e live = absurd (cc)
  seen-as {p} {f} {h = Some m} {n} is e live =
      let same : m ≡ n = cc in
      let s = seen p f n is (subst (λ (z : ℕ). list_at f z ≢ []) same live) in
      record { root = s.root; list = s.list ∙ ap (λ z. list_at f z) (sym same); sizes = s.sizes ∙ ap (λ z. sizes_at f z) (sym same) }

  -- what a search under the root of a live handle asks
  pub seen-asks : {p f : Forest K X} {h : Option ℕ} {n : ℕ} (cmp : K → K → Ordering) → SeenAs p f h n → IsIncreasing cmp (list_of f h) → IsTrue (is_root p.nodes n) × IsIncreasing cmp (list_under p n)
  seen-asks cmp s increasing = (s.root, subst (IsIncreasing cmp) (sym s.list) increasing)

  -- what a search under a root with entries asks
  pub search-asks : {p f : Forest K X} (n : ℕ) (cmp : K → K → Ordering) → p ≡ f → list_at f n ≢ [] → IsIncreasing cmp (list_at f n) → IsTrue (is_root p.nodes n) × IsIncreasing cmp (list_under p n)
  search-asks {p} {f} n cmp is live increasing = let s = seen p f n is live in (s.root, subst (IsIncreasing cmp) (sym s.list) increasing)
