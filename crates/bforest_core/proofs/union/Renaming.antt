-- A tree whose nodes have other numbers.
use Rattle.bforest_core.proofs.Words.{◌≡◌, ℕ, ◌<◌, List, [], ◌∷◌, ◌++◌, map, length, refl, sym, ap, ◌∙◌, arith}
use Rattle.bforest_core.proofs.Words.{Heads, Row, Rows, node, flat, head_of, heads, sizes, numbers, FitRow, Stacked, Topped, Tree}
use Rattle.bforest_core.proofs.Words.{sizes_of, flat_map, map-append, length-map, Content, RowIn, RowsIn, count, entry_keys, entry_items, leaf_content}
use Rattle.bforest_core.proofs.Words.{inner_content, numbers_of, root_above, root_of, inl, inr, eqb_tells}
use Rattle.bforest_core.proofs.{table.Tables.{count-append, count-same, count-other}, rows.Counts.named-same, union.Exchange.IsPlanted}
use Rattle.bforest_core.specs.Copies.{AreCopied}

-- names that agree on a list give the same list
pub map-agree : (f g : ℕ → ℕ) (xs : List ℕ) → ((m : ℕ) → 0 < count m xs → f m ≡ g m) → map f xs ≡ map g xs
map-agree f g [] same = refl
map-agree f g (x ∷ xs) same = let a = same x (omega (arith, count-same x xs)) in let b = map-agree f g xs (λ m some. same m (omega arith)) in cc

-- a name of a number of a list is among those of the list
pub name-among : (f : ℕ → ℕ) (m : ℕ) (xs : List ℕ) → 0 < count m xs → 0 < count (f m) (map f xs)
name-among f m [] some = absurd (omega arith)
name-among f m (x ∷ xs) some = elim (eqb_tells x m) [
  | inl w ↦ rw w.1 (omega (arith, count-same (f m) (map f xs)))
  | inr w ↦ (let r = name-among f m xs (omega (arith, count-other m x xs w.1)) in omega arith)
]

singles : (f : ℕ → ℕ) (xs : List ℕ) → flat_map (λ m. f m ∷ []) xs ≡ map f xs
singles f [] = refl
singles f (x ∷ xs) = ap (λ z. f x ∷ z) (singles f xs)

-- lists with the same counts have names with the same counts
pub names-same : (f : ℕ → ℕ) (xs ys : List ℕ) → ((m : ℕ) → count m xs ≡ count m ys) → (k : ℕ) → count k (map f xs) ≡ count k (map f ys)
names-same f xs ys same k = ap (count k) (sym (singles f xs)) ∙ named-same (λ m. f m ∷ []) xs ys same k ∙ ap (count k) (singles f ys)

-- an entry of an inner node whose child has another number
abbrev pub named : {K : Type 0} → (ℕ → ℕ) → K × ℕ → K × ℕ
named f entry = (entry.0, f entry.1)

-- a row whose nodes have other numbers, and other entries
abbrev pub row_by : {K X : Type 0} → (ℕ → ℕ) → (List (K × X) → List (K × X)) → Row K X → Row K X
row_by f g [] = []
row_by f g (node m es ∷ row) = node (f m) (g es) ∷ row_by f g row

module _ {K X : Type 0} (f : ℕ → ℕ) (g : List (K × X) → List (K × X)) where
  numbers-by : (row : Row K X) → numbers (row_by f g row) ≡ map f (numbers row)
  numbers-by [] = refl
  numbers-by (node m es ∷ row) = ap (λ z. f m ∷ z) (numbers-by row)

  module _ (long : (es : List (K × X)) → length (g es) ≡ length es) where
    sizes-by : (row : Row K X) → sizes (row_by f g row) ≡ sizes row
    sizes-by [] = refl
    sizes-by (node m es ∷ row) = cc (long es, sizes-by row)

    fit-by : (half most : ℕ) (row : Row K X) → FitRow half most row → FitRow half most (row_by f g row)
    fit-by half most [] fit = tt
    fit-by half most (node m es ∷ []) fit = (omega (arith, long es, fit.0), omega (arith, long es, fit.1), tt)
    fit-by half most (node m es ∷ (node k fs ∷ row)) fit = (omega (arith, long es, fit.0), omega (arith, long es, fit.1), fit-by half most (node k fs ∷ row) fit.2)

  heads-by : ((m : ℕ) (es : List (K × X)) → head_of (f m) (g es) ≡ map (named f) (head_of m es)) → (row : Row K X) → heads (row_by f g row) ≡ map (named f) (heads row)
  heads-by one [] = refl
  heads-by one (node m es ∷ row) = cc (one m es, heads-by one row, map-append (named f) (head_of m es) (heads row))

head-leaf : {K X : Type 0} (f : ℕ → ℕ) (m : ℕ) (es : List (K × X)) → head_of (f m) es ≡ map (named f) (head_of m es)
head-leaf f m [] = refl
head-leaf f m (e ∷ es) = refl

module _ {K : Type 0} (f : ℕ → ℕ) where
  head-inner : (m : ℕ) (es : Heads K) → head_of (f m) (map (named f) es) ≡ map (named f) (head_of m es)
  head-inner m [] = refl
  head-inner m (e ∷ es) = refl

  long-inner : (es : Heads K) → length (map (named f) es) ≡ length es
  long-inner es = length-map es (named f)

  -- inner rows whose nodes have other numbers
  abbrev pub rows_by : Rows K → Rows K
  rows_by rows = map (row_by f (map (named f))) rows

  flat-inner : (row : Row K ℕ) → flat (row_by f (map (named f)) row) ≡ map (named f) (flat row)
  flat-inner [] = refl
  flat-inner (node m es ∷ row) = cc (flat-inner row, map-append (named f) es (flat row))

  keys-inner : (es : Heads K) → entry_keys (map (named f) es) ≡ entry_keys es
  keys-inner [] = refl
  keys-inner (e ∷ es) = ap (λ z. e.0 ∷ z) (keys-inner es)

  items-inner : (es : Heads K) → entry_items (map (named f) es) ≡ map f (entry_items es)
  items-inner [] = refl
  items-inner (e ∷ es) = ap (λ z. f e.1 ∷ z) (items-inner es)

  stacked-by : (list : Heads K) (rows : Rows K) → Stacked list rows → Stacked (map (named f) list) (rows_by rows)
  stacked-by list [] s = length-map list (named f) ∙ s
  stacked-by list (row ∷ rows) s = (
    flat-inner row ∙ ap (map (named f)) s.0,
    fit-by f (map (named f)) long-inner 4 8 row s.1,
    rw (heads-by f (map (named f)) head-inner row) (stacked-by (heads row) rows s.2),
  )

  topped-by : (list : Heads K) (rows : Rows K) → Topped list rows → Topped (map (named f) list) (rows_by rows)
  topped-by list [] t = tt
  topped-by list (row ∷ rows) t = (omega (arith, length-map list (named f), t.0), rw (heads-by f (map (named f)) head-inner row) (topped-by (heads row) rows t.1))

  root-by : (list : Heads K) (rows : Rows K) → Stacked list rows → root_above (map (named f) list) (rows_by rows) ≡ f (root_above list rows)
  root-by [] [] s = absurd (omega arith)
  root-by (x ∷ list) [] s = refl
  root-by list (row ∷ rows) s = ap (λ z. root_above z (rows_by rows)) (heads-by f (map (named f)) head-inner row) ∙ root-by (heads row) rows s.2

  row-sizes-by : (rows : Rows K) → map sizes (rows_by rows) ≡ map sizes rows
  row-sizes-by [] = refl
  row-sizes-by (row ∷ rows) = cc (sizes-by f (map (named f)) long-inner row, row-sizes-by rows)

  row-numbers-by : (rows : Rows K) → flat_map numbers (rows_by rows) ≡ map f (flat_map numbers rows)
  row-numbers-by [] = refl
  row-numbers-by (row ∷ rows) = cc (numbers-by f (map (named f)) row, row-numbers-by rows, map-append f (numbers row) (flat_map numbers rows))

-- the rows stay one another's entries, and keep their sizes
module _ {K V : Type 0} where
  flat-leaf : (f : ℕ → ℕ) (row : Row K V) → flat (row_by f (λ es. es) row) ≡ flat row
  flat-leaf f [] = refl
  flat-leaf f (node m es ∷ row) = ap (λ z. es ++ z) (flat-leaf f row)

  module _ {old new : List (Content K V)} {own : List ℕ} {f : ℕ → ℕ} (c : AreCopied old new own f) where
    leaves-in-by : (row : Row K V) → ((m : ℕ) → 0 < count m (numbers row) → 0 < count m own) → RowIn leaf_content old row → RowIn leaf_content new (row_by f (λ es. es) row)
    leaves-in-by [] own_all i = tt
    leaves-in-by (node m es ∷ row) own_all i = (
      c.copied m (leaf_content es) (own_all m (omega (arith, count-same m (numbers row)))) i.0,
      leaves-in-by row (λ k some. own_all k (omega arith)) i.1,
    )

    inner-in-by : (row : Row K ℕ) → ((m : ℕ) → 0 < count m (numbers row) → 0 < count m own) → RowIn inner_content old row → RowIn inner_content new (row_by f (map (named f)) row)
    inner-in-by [] own_all i = tt
    inner-in-by (node m es ∷ row) own_all i = (
      (let a = c.copied m (inner_content es) (own_all m (omega (arith, count-same m (numbers row)))) i.0 in rw (keys-inner f es, items-inner f es) a),
      inner-in-by row (λ k some. own_all k (omega arith)) i.1,
    )

    rows-in-by : (rows : Rows K) → ((m : ℕ) → 0 < count m (flat_map numbers rows) → 0 < count m own) → RowsIn old rows → RowsIn new (rows_by f rows)
    rows-in-by [] own_all i = tt
    rows-in-by (row ∷ rows) own_all i = (
      inner-in-by row (λ m some. own_all m (omega (arith, count-append))) i.0,
      rows-in-by rows (λ m some. own_all m (omega (arith, count-append))) i.1,
    )

  -- the tree whose nodes have other numbers
  abbrev pub tree_by : (ℕ → ℕ) → Tree K V → Tree K V
  tree_by f tree = record { leaves = row_by f (λ es. es) tree.leaves; above = rows_by f tree.above }

  -- what the copy of a tree is
  pub record Renamed (most : ℕ) (new : List (Content K V)) (f : ℕ → ℕ) (tree : Tree K V) : Type 0 where
    pub planted : IsPlanted most new (tree_by f tree)
    pub list_is : flat (tree_by f tree).leaves ≡ flat tree.leaves
    pub sizes_are : sizes_of (tree_by f tree) ≡ sizes_of tree
    pub root_is : root_of (tree_by f tree) ≡ f (root_of tree)
    pub numbers_are : numbers_of (tree_by f tree) ≡ map f (numbers_of tree)

  pub renamed-tree : {most : ℕ} {old new : List (Content K V)} {f : ℕ → ℕ} (tree : Tree K V) → IsPlanted most old tree → AreCopied old new (numbers_of tree) f → Renamed most new f tree
  renamed-tree {f = f} tree p c = let hs = heads-by f (λ es. es) (head-leaf f) tree.leaves in
      record {
        planted = record {
          fit = record {
            leaves_fit = fit-by f (λ es. es) (λ es. refl) _ _ tree.leaves p.fit.leaves_fit;
            stacked = rw hs (stacked-by f (heads tree.leaves) tree.above p.fit.stacked);
            topped = rw hs (topped-by f (heads tree.leaves) tree.above p.fit.topped);
          };
          inside = record {
            leaves_in = leaves-in-by c tree.leaves (λ m some. omega (arith, count-append)) p.inside.leaves_in;
            rows_in = rows-in-by c tree.above (λ m some. omega (arith, count-append)) p.inside.rows_in;
          };
          some = rw (flat-leaf f tree.leaves) p.some;
          low = rw (length-map tree.above (row_by f (map (named f)))) p.low;
        };
        list_is = flat-leaf f tree.leaves;
        sizes_are = cc (sizes-by f (λ es. es) (λ es. refl) tree.leaves, row-sizes-by f tree.above);
        root_is = ap (λ z. root_above z (rows_by f tree.above)) hs ∙ root-by f (heads tree.leaves) tree.above p.fit.stacked;
        numbers_are = cc (numbers-by f (λ es. es) tree.leaves, row-numbers-by f tree.above, map-append f (numbers tree.leaves) (flat_map numbers tree.above));
      }
