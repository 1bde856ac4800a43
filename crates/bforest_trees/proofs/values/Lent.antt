-- Lending the value of a key: where its entry lies, and what writing its value leaves.
use Rattle.bforest_core.proofs.union.Updating.{valued-here}
use Rattle.bforest_core.proofs.walks.LeafSearch.{some-mapped}
use Rattle.bforest_core.proofs.union.Written.{keys-written, place-used, place-value, place-written}
use Rattle.bforest_core.specs.Leaves.{LooksInLeaf}
use Rattle.bforest_core.specs.Levels.{LevelNode, flat, node}
use Rattle.bforest_core.specs.Place.{IsAt}
use Rattle.bforest_core.specs.Table.{IsEntryAt, IsUsed, value_at, with_value_at}
use Rattle.bforest_core.specs.Trees.{IsUnion, is_root, tree_of}
use Rattle.bforest_nodes.proofs.Found.{put-present, value_for-present}
use Rattle.bforest_nodes.specs.Entries.{IsIncreasing, is_present, place, put, value_at_place, value_for, with_value}
use Rattle.bforest_trees.proofs.Changed.{becomes, list-root, live-root, sizes-new, sizes-root}
use Rattle.bforest_trees.proofs.LookedUp.{found-put, others-put}
use Rattle.bforest_trees.specs.Forest.{Becomes, Forest, IsLive, list_at, list_of}
use Rattle.bforest_trees.specs.Written.{WritesFor, lies_at, lies_in, with_value_for}
use Rattle.std.proofs.Common.{Bool, IsTrue, List, None, Option, Some, [], ap, arith, false, if◌then◌else◌, length, length-append, length-set, nat_lt, refl, subst, sym, true, ◌+◌, ◌++◌, ◌-◌, ◌<◌, ◌∙◌, ◌∷◌, ◌≡◌, ◌≢◌, ◌≤◌, ℕ}
use Rattle.std.proofs.lemmas.Bool.{ltb-false, ltb-true}
use Rattle.std.specs.Cmp.{IsTotalOrder}
use Rattle.std.specs.List.Sorted.{IsStrictlySortedBy}
use Rattle.std.specs.Map.{keys_of}
use Rattle.std.specs.Option.{is_some}
use Rattle.std.specs.declared.cmp.Ordering.{Ordering}

module _ {K X : Type 0} where
  lies-behind : (before : List (LevelNode K X)) (number index : ℕ) (entries : List (K × X)) (after : List (LevelNode K X)) (p : ℕ) → index < length entries → p ≡ length (flat before) + index
      → lies_in (before ++ node number entries ∷ after) p ≡ (number, index)
  lies-behind [] number index entries after p within is = by (nat_lt p (length entries)) refl
    where
      by : (b : Bool) → nat_lt p (length entries) ≡ b → (if b then (number, p) else lies_in after (p - length entries)) ≡ (number, index)
      by true e = let same : p ≡ index = omega (arith, is) in ap (λ z. (number, z)) same
      by false e = absurd (omega (arith, is, within, ltb-false p (length entries) e))
  lies-behind (node m xs ∷ before) number index entries after p within is =
      by (nat_lt p (length xs)) refl (λ more. lies-behind before number index entries after (p - length xs) within (omega (arith, is, length-append xs (flat before))))
    where
      by : (b : Bool) → nat_lt p (length xs) ≡ b → (length xs ≤ p → lies_in (before ++ node number entries ∷ after) (p - length xs) ≡ (number, index))
          → (if b then (m, p) else lies_in (before ++ node number entries ∷ after) (p - length xs)) ≡ (number, index)
      by true e rest = absurd (omega (arith, is, length-append xs (flat before), ltb-true p (length xs) e))
      by false e rest = rest (omega (arith, ltb-false p (length xs) e))

  -- the entry at the place of a row where something stands lies in its node
  lies-at : {row : List (LevelNode K X)} {number index place : ℕ} → IsAt row number index place → lies_in row place ≡ (number, index)
  lies-at {place = place} at = rw at.row_is (lies-behind at.before _ _ at.entries at.after place at.within at.place_is)

-- the entry of the key k of h lies in this leaf, at this index there
pub record LiesFor {K X : Type 0} (cmp : K → K → Ordering) (f : Forest K X) (h : Option ℕ) (k : K) (leaf index : ℕ) : Type 0 where
  pub root : ℕ
  pub handle_is : h ≡ Some root
  pub at : IsAt (tree_of f.nodes root).leaves leaf index (place cmp (list_of f h) k)
  pub present : is_present cmp (list_of f h) k ≡ true

-- where a key has no value, nothing is written
pub with-value-nowhere : {K X : Type 0} (cmp : K → K → Ordering) (f : Forest K X) (h : Option ℕ) (k : K) → None ≡ value_for cmp (list_of f h) k → (w : X) → with_value_for cmp f h k w ≡ f
with-value-nowhere cmp f h k none w =
    let at = lies_at f h (place cmp (list_of f h) k) in
    let absent : is_present cmp (list_of f h) k ≡ false = sym (some-mapped (λ e. e.1) _) ∙ sym (ap is_some none) in
    λ j. if absent j then with_value_at f at.0 at.1 w else f

module _ {K X : Type 0} (cmp : K → K → Ordering) {f : Forest K X} {h : Option ℕ} {n : ℕ} {k : K} {leaf : ℕ} {path indices : List ℕ} {size : ℕ} {found : ℕ × Option X} where
  -- the leaf in which a search for a key ends was searched for it, and has a value
  pub lies-for : h ≡ Some n → list_at f n ≢ [] → LooksInLeaf cmp f n k leaf path indices size found → {v : X} → found.1 ≡ Some v → LiesFor cmp f h k leaf found.0
  lies-for handle_is live looked is =
      let list = list-root f n (live-root f n live) in
      let here = valued-here cmp (flat (tree_of f.nodes n).leaves) k (sym looked.value ∙ is) in
      rw handle_is (record {
        root = n;
        handle_is = refl;
        at = rw list (looked.present here);
        present = rw list here;
      })

  -- a key that the leaf of its place does not have has no value
  pub lies-nowhere : h ≡ Some n → list_at f n ≢ [] → LooksInLeaf cmp f n k leaf path indices size found → found.1 ≡ None → value_for cmp (list_of f h) k ≡ None
  lies-nowhere handle_is live looked is = rw (handle_is, list-root f n (live-root f n live)) (sym looked.value ∙ is)

module _ {K X : Type 0} (most : ℕ) {cmp : K → K → Ordering} {f : Forest K X} (union : IsUnion most f) {h : Option ℕ} (live : IsLive f h) {k : K} {leaf index : ℕ} (l : LiesFor cmp f h k leaf index) where
  open l use {root}

  live-there : list_at f root ≢ []
  live-there = subst (λ (z : Option ℕ). IsLive f z) l.handle_is live

  is : IsTrue (is_root f.nodes root)
  is = live-root f root live-there

  list : list_of f h ≡ flat (tree_of f.nodes root).leaves
  list = rw l.handle_is (list-root f root is)

  -- the leaf is used, and has an entry there
  pub used-there : IsUsed f leaf × IsEntryAt f.nodes leaf index
  used-there = place-used root union is l.at

  -- a value that is written there leaves a union of trees
  pub union-there : (w : X) → IsUnion most (with_value_at f leaf index w)
  union-there w = (place-written root union is l.at w).0.union

  -- the value there is the key's
  pub value-there : {v : X} → Some v ≡ value_at f.nodes leaf index → Some v ≡ value_for cmp (list_of f h) k
  value-there here = here ∙ place-value root union is l.at ∙ sym (value_for-present cmp (list_of f h) k l.present ∙ ap (λ es. value_at_place es (place cmp (list_of f h) k)) list)

  -- the forest with a value there has it at the key
  pub with-value-there : (w : X) → with_value_at f leaf index w ≡ with_value_for cmp f h k w
  with-value-there w =
      let lies : lies_at f h (place cmp (list_of f h) k) ≡ (leaf, index) = ap (λ z. lies_at f z (place cmp (list_of f h) k)) l.handle_is ∙ lies-at l.at in
      let at = lies_at f h (place cmp (list_of f h) k) in
      ap (λ z. with_value_at f z.0 z.1 w) (sym lies) ∙ sym (λ j. if l.present j then with_value_at f at.0 at.1 w else f)

  -- what a write there leaves
  pub writes-there : IsTotalOrder cmp → IsIncreasing cmp (list_of f h) → (w : X) → WritesFor cmp f h k w (with_value_for cmp f h k w)
  writes-there total up w =
      let es = list_of f h in
      let f' = with_value_at f leaf index w in
      let changes = (place-written root union is l.at w).0 in
      let same : with_value (flat (tree_of f.nodes root).leaves) (place cmp es k) w ≡ put cmp es k w = ap (λ z. with_value z (place cmp es k) w) (sym list) ∙ sym (put-present cmp es k w l.present) in
      let put : Becomes f h f' h (put cmp es k w) =
      subst (λ (z : Option ℕ). Becomes f z f' z (put cmp es k w)) (sym l.handle_is) (subst (Becomes f (Some root) f' (Some root)) same (becomes most f f' root root _ _ changes)) in
      let keys : keys_of (list_of f' h) ≡ keys_of es = ap keys_of (put.list ∙ put-present cmp es k w l.present) ∙ keys-written es (place cmp es k) w in
      subst (WritesFor cmp f h k w) (with-value-there w)
      (record {
        put = put;
        found = found-put total es up k w put.list;
        others = others-put total es up k w put.list;
        sizes = rw l.handle_is (sizes-new most f f' root root _ _ changes ∙ sym (sizes-root f root is));
        slots = length-set _ _ _;
        free = refl;
        memory = refl;
        live = put.live;
        increasing = λ order rises. subst (IsStrictlySortedBy order) (sym keys) rises;
      })
