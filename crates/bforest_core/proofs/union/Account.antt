-- The free nodes and the nodes of all trees add up to the slots.
use Rattle.bforest_core.proofs.Words.{◌≡◌, ℕ, zero, suc, ◌+◌, ◌<◌, ◌≢◌, if◌then◌else◌, nat_eq, Bool, true, false, List, [], ◌∷◌, ◌++◌, map, length, refl, sym}
use Rattle.bforest_core.proofs.Words.{ap, ◌∙◌, subst, inl, inr, length-append, append_assoc, arith, Row, Rows, flat_map, sum_by, and_parts, cases_lt}
use Rattle.bforest_core.proofs.Words.{false≢true, eqb_tells, sum_by-cons, Content, children_of, Table, node, sizes, numbers, sizes_of, Tree, count, root_of}
use Rattle.bforest_core.proofs.{Words.{numbers_of, is_used, tree_of, is_root, IsForest, IsUnion}, rows.Counts.{once_below, below-one, sum-same, upto}}
use Rattle.bforest_core.proofs.{rows.Counts.count-upto, union.Forests.{root-counts, roots-once, tree-back, used_within}, table.Tables.count-other}

-- the length of a list is a sum of ones
length-sum : (xs : _) → length xs ≡ sum_by (λ (n : ℕ). 1) xs
length-sum [] = refl
length-sum (x ∷ xs) = omega (arith, length-sum xs, sum_by-cons (λ n. 1) x xs)

pub length-same : (xs ys : _) → ((n : ℕ) → count n xs ≡ count n ys) → length xs ≡ length ys
length-same xs ys same = omega (arith, length-sum xs, length-sum ys, sum-same (λ n. 1) xs ys same)

length-upto : (n : ℕ) → length (upto n) ≡ n
length-upto zero = refl
length-upto (suc n) = omega (arith, length-append (upto n) (n ∷ []), length-upto n)

-- the numbers of a list that pass a test
abbrev kept : (ℕ → Bool) → List ℕ → List ℕ
kept p [] = []
kept p (x ∷ xs) = if p x then x ∷ kept p xs else kept p xs

-- a sum over the numbers that pass a test is a sum over all, in which the others count as 0
sum-kept : (p : ℕ → Bool) (f : ℕ → ℕ) (xs : _) → sum_by f (kept p xs) ≡ sum_by (λ n. if p n then f n else 0) xs
sum-kept p f [] = refl
sum-kept p f (x ∷ xs) = by (p x) refl (sum-kept p f xs)
  where
    by : (b : Bool) → p x ≡ b → sum_by f (kept p xs) ≡ sum_by (λ n. if p n then f n else 0) xs → sum_by f (kept p (x ∷ xs)) ≡ sum_by (λ n. if p n then f n else 0) (x ∷ xs)
    by true e ih = let k = ap (λ z. sum_by f (if z then x ∷ kept p xs else kept p xs)) e in let v = ap (λ z. if z then f x else 0) e in omega (arith, sum_by-cons (λ n. if p n then f n else 0) x xs, sum_by-cons f x (kept p xs))
    by false e ih = let k = ap (λ z. sum_by f (if z then x ∷ kept p xs else kept p xs)) e in let v = ap (λ z. if z then f x else 0) e in omega (arith, sum_by-cons (λ n. if p n then f n else 0) x xs)

-- a number that passes the test occurs as often among those kept, and no other occurs there
count-kept : (p : ℕ → Bool) (m xs : _) → count m (kept p xs) ≡ (if p m then count m xs else 0)
count-kept p m [] = elim (p m) as (λ (b : Bool). ◌≡◌ {A = ℕ} 0 (if b then 0 else 0)) [ true ↦ refl | false ↦ refl ]
count-kept p m (x ∷ xs) = elim (eqb_tells x m) [ inl w ↦ rw w.1 (here (p m) refl (count-kept p m xs)) | inr w ↦ there (p x) refl w.1 (count-kept p m xs) ]
  where
    here : (b : Bool) → p m ≡ b → count m (kept p xs) ≡ (if p m then count m xs else 0) → count m (kept p (m ∷ xs)) ≡ (if p m then count m (m ∷ xs) else 0)
    here true e ih = let k = ap (λ z. if z then count m xs else 0) e in rw e (omega arith)
    here false e ih = let k = ap (λ z. if z then count m xs else 0) e in rw e (omega arith)

    there : (b : Bool) → p x ≡ b → x ≢ m → count m (kept p xs) ≡ (if p m then count m xs else 0) → count m (kept p (x ∷ xs)) ≡ (if p m then count m (x ∷ xs) else 0)
    there true e ne ih = rw e (cc (count-other m x _ ne, count-other m x xs ne))
    there false e ne ih = rw e (cc (count-other m x xs ne))

module _ {K V : Type 0} where
  -- a root is the number of a slot
  root-within : (slots : List (Content K V)) (m : ℕ) → is_root slots m ≡ true → m < length slots
  unfolding is_root
  root-within slots m root = used_within slots m (and_parts (is_used _) (nat_eq (count m (flat_map children_of slots)) 0) root).0

  -- the number of nodes of the tree under a number
  abbrev pub nodes_under : List (Content K V) → ℕ → ℕ
  nodes_under slots root = length (numbers_of (tree_of slots root))

  trees-sum : {most table : _} (before trees : List (Tree K V)) → IsForest most table (before ++ trees) → length (flat_map numbers_of trees) ≡ sum_by (nodes_under table.nodes) (map root_of trees)
  trees-sum before [] f = refl
  trees-sum {most} {table} before (tree ∷ trees) f =
      let ih = trees-sum (before ++ tree ∷ []) trees (subst (IsForest most table) (sym (append_assoc before (tree ∷ []) trees)) f) in
      let back = ap (λ z. length (numbers_of z)) (tree-back before tree trees (root_of tree) f refl refl).0 in
      omega (arith, length-append (numbers_of tree) (flat_map numbers_of trees), sum_by-cons (nodes_under table.nodes) (root_of tree) (map root_of trees))

  -- the roots are the numbers of slots that pass the test
  roots-kept : {most : _} (table : Table K V) (trees : _) → IsForest most table trees → (m : ℕ) → count m (map root_of trees) ≡ count m (kept (is_root table.nodes) (upto (length table.nodes)))
  roots-kept table trees f m = cc (by _ refl, count-kept _ m _, count-upto m _)
    where
      by : (b : Bool) → is_root table.nodes m ≡ b → count m (map root_of trees) ≡ (if is_root table.nodes m then once_below m (length table.nodes) else 0)
      by true e = let k = ap (λ z. if z then once_below m (length table.nodes) else 0) e in omega (arith, roots-once table f m, (root-counts f m).0 e, below-one m _ (root-within _ m e))
      by false e = let k = ap (λ z. if z then once_below m (length table.nodes) else 0) e in
          elim (cases_lt 0 (count m (map root_of trees))) [ inl some ↦ absurd (false≢true (sym e ∙ (root-counts f m).1 some)) | inr past ↦ omega arith ]

  -- the slots are the free nodes and the nodes of the trees under all roots
  pub account : {most : ℕ} (table : Table K V) → IsUnion most table → length table.nodes ≡ length table.chain + sum_by (λ n. if is_root table.nodes n then length (numbers_of (tree_of table.nodes n)) else 0) (upto (length table.nodes))
  account table union = let trees = union.0 in let f = union.1 in
      let a = length-same (flat_map numbers_of trees ++ table.chain) (upto (length table.nodes)) (λ m. f.account m ∙ sym (count-upto m (length table.nodes))) in
      let b = trees-sum [] trees f in
      let c = sum-same (nodes_under table.nodes) (map root_of trees) (kept (is_root table.nodes) (upto (length table.nodes))) (roots-kept table trees f) in
      let d = sum-kept (is_root table.nodes) (nodes_under table.nodes) (upto (length table.nodes)) in
      omega (arith, length-append (flat_map numbers_of trees) table.chain, length-upto (length table.nodes))

row-count : {K X : Type 0} (row : Row K X) → length (numbers row) ≡ length (sizes row)
row-count [] = refl
row-count (node m es ∷ row) = ap suc (row-count row)

rows-count : {K : Type 0} (rows : Rows K) → length (flat_map numbers rows) ≡ sum_by length (map sizes rows)
rows-count [] = refl
rows-count (row ∷ rows) = omega (arith, length-append (numbers row) (flat_map numbers rows), row-count row, rows-count rows, sum_by-cons length (sizes row) (map sizes rows))

-- a tree has as many nodes as all its levels together
pub nodes-count : {K V : Type 0} (tree : Tree K V) → length (numbers_of tree) ≡ sum_by length (sizes_of tree)
nodes-count tree = omega (arith, length-append (numbers tree.leaves) (flat_map numbers tree.above), row-count tree.leaves, rows-count tree.above, sum_by-cons length (sizes tree.leaves) (map sizes tree.above))
