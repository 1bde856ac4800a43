-- The first child of a node is filled from the second, or merged into it: the answers of `fill_child`.
use Rattle.bforest_core.proofs.Words.{◌≡◌, ◌≢◌, ℕ, suc, ◌+◌, ◌*◌, ◌/◌, ◌≤◌, ◌<◌, List, [], ◌∷◌, ◌++◌, length, slice_get, Bool, Some, None, sym, ap, subst, ◌∙◌, arith}
use Rattle.bforest_core.proofs.Words.{length-append, append_assoc, Row, RowIn, Content, Inner, IsLeafCapacity, IsUsed, IsHalfFullAt, IsBalancedAt, Table, Frees, Every, Item}
use Rattle.bforest_core.proofs.Words.{content_at, most_at, count, entry_items, entry_keys, flat, heads, inner_content, node, numbers, refl, sizes, with_freed, with_node, without_child}
use Rattle.bforest_core.proofs.removal.Asked.{ChildAt, Counts, KeyAt, NodeAt, ReadsChild, ReadsKey, Writes, without_some}
use Rattle.bforest_core.proofs.removal.Balance.{AllRight, IsStored, Spread, all_right_at, kind_half, kind_stored, spread_at}
use Rattle.bforest_core.proofs.table.{Stored.{item_count, some_same}, Tables.{count-append, count-same, is_used, row-same}}
use Rattle.bforest_core.proofs.table.Trading.{Puts, frees-after, frees-one, puts, trades-apart, trades-none}
use Rattle.bforest_core.proofs.union.Filled.{filled-half, filled-merged, filled-one, filled-shared}
use Rattle.bforest_core.specs.{Detach.{FillsChild, HasChildren}, Sizes.filled}

-- no node of the row is empty
abbrev pub AllSome : {K X : Type 0} → Row K X → Type 0
AllSome row = Every (λ size. 1 ≤ size) (sizes row)

-- such a row has as many heads as nodes
pub heads-some : {K X : Type 0} (row : Row K X) → AllSome row → length (heads row) ≡ length (sizes row)
heads-some [] some = refl
heads-some (node n [] ∷ row) some = absurd (omega (arith, some.0))
heads-some (node n (e ∷ es) ∷ row) some = ap suc (heads-some row some.1)

-- the first two nodes of a row, and the first key of the second
record Two {K X : Type 0} (row : Row K X) (a b : ℕ) (key : K) : Type 0 where
  e : K × X
  es : List (K × X)
  f : K × X
  fs : List (K × X)
  more : Row K X
  row_is : row ≡ node a (e ∷ es) ∷ node b (f ∷ fs) ∷ more
  key_is : key ≡ f.0

two_of : {K X : Type 0} (row : Row K X) → AllSome row → 2 ≤ length (heads row) → (a : ℕ) × (b : ℕ) × (key : K) × Two row a b key
two_of [] some two = absurd (omega arith)
two_of (node a [] ∷ row) some two = absurd (omega (arith, some.0))
two_of (node a (e ∷ es) ∷ []) some two = absurd (omega arith)
two_of (node a (e ∷ es) ∷ (node b [] ∷ more)) some two = absurd (omega (arith, some.1.0))
two_of (node a (e ∷ es) ∷ (node b (f ∷ fs) ∷ more)) some two =
    (a, b, f.0, record { e = e; es = es; f = f; fs = fs; more = more; row_is = refl; key_is = refl })

module _ {K V : Type 0} {cap : ℕ} (capacity : IsLeafCapacity cap) (leaf : Bool) {t : Table K V} {number : ℕ} {row : Row K (Item V leaf)} (h : HasChildren (content_at leaf) t number row) where
  abbrev X : Type 0
  X = Item V leaf

  abbrev content : List (K × X) → Content K V
  content = content_at leaf

  abbrev most : ℕ
  most = most_at leaf cap

  s : IsStored content cap most
  s = kind_stored cap leaf

  two-most : 2 ≤ most
  two-most = let half = kind_half {n = cap} leaf (λ e. capacity) in omega (arith, half.two, half.hi)

  count-is : {m : ℕ} → Counts t number m → m ≡ length (heads row)
  count-is value = value (inner_content (heads row)) h.slot_is ∙ item_count (heads row)

  -- where filling changes no size, nothing is done
  stays : sizes row ≡ filled most (sizes row) → FillsChild content most t t number row
  stays same = record { row' = row; has = h; list_is = refl; sizes_are = same; freed = []; frees = trades-none t (number ∷ numbers row) }

  -- a node with one child stays
  pub stays-few : {m : ℕ} → Counts t number m → m < 2 → FillsChild (content_at leaf) (most_at leaf cap) t t number row
  stays-few value few = stays (sym (filled-one most (sizes row) (omega (arith, count-is value, heads-some row h.some, few))))

  module _ {m : ℕ} (value : Counts t number m) (many : 2 ≤ m) where
    first-two : (a : ℕ) × (b : ℕ) × (key : K) × Two row a b key
    first-two = two_of row h.some (omega (arith, count-is value))

    abbrev d : Two row first-two.0 first-two.1 first-two.2
    d = first-two.3

    slot-two : slice_get t.nodes number ≡ Some (inner_content ((d.e.0, first-two.0) ∷ (d.f.0, first-two.1) ∷ heads d.more))
    slot-two = h.slot_is ∙ ap (λ z. Some (inner_content (heads z))) d.row_is

    -- the first two children are read, and the key between them
    pub first-asks : ChildAt t number 0
    first-asks = (_, _, slot-two, omega arith)

    pub second-asks : ChildAt t number 1
    second-asks = (_, _, slot-two, omega arith)

    pub key-asks : KeyAt t number 0
    key-asks = (_, _, slot-two, omega arith)

    module _ {x : ℕ} (reads : ReadsChild t number 0 x) where
      first-is : first-two.0 ≡ x
      first-is = some_same (reads _ _ slot-two)

      slot-first : slice_get t.nodes x ≡ Some (content (d.e ∷ d.es))
      slot-first = rw (← first-is) (subst (RowIn content t.nodes) d.row_is h.inside).0

      -- the entries or children of the first are counted
      pub entries-asks : NodeAt t x
      entries-asks = (content (d.e ∷ d.es), slot-first, s.used (d.e ∷ d.es))

      module _ {n half : ℕ} (value' : Counts t x n) (half-is : half ≡ most_at leaf cap / 2) where
        -- a node that is more than half full stays
        pub stays-half : half < n → FillsChild (content_at leaf) (most_at leaf cap) t t number row
        stays-half more = let first = value' _ slot-first ∙ s.count_is (d.e ∷ d.es) in
            let stay = filled-half {most = most} {size = suc (length d.es)} (suc (length d.fs) ∷ sizes d.more) (omega (arith, first, half-is, more)) in
            stays (cc (ap sizes d.row_is))

        module _ {y : ℕ} {key : K} (low : n ≤ half) (reads' : ReadsChild t number 1 y) (reads-key : ReadsKey t number 0 key) where
          -- the nodes that were read
          both : Two row x y key
          both = let second : first-two.1 ≡ y = some_same (reads' _ _ slot-two) in let key-is : d.f.0 ≡ key = some_same (reads-key _ _ slot-two) in
              record { e = d.e; es = d.es; f = d.f; fs = d.fs; more = d.more; row_is = rw (← first-is, ← second) d.row_is; key_is = sym key-is }

          open both use {e, es, f, fs, more}

          was : HasChildren content t number (node x (e ∷ es) ∷ node y (f ∷ fs) ∷ more)
          was = subst (HasChildren content t number) both.row_is h

          -- the first is at most half full
          few : 2 * suc (length es) ≤ most
          few = omega (arith, value' _ was.inside.0, s.count_is (e ∷ es), half-is, low)

          abbrev own : List ℕ
          own = number ∷ x ∷ y ∷ numbers more

          -- each number is that of one of these nodes, or on the free list
          once : (m : ℕ) → count m (number ∷ []) + count m (x ∷ []) + count m (y ∷ []) + count m (numbers more) + count m t.chain ≤ 1
          once m = omega (arith, was.apart m, count-append m own t.chain)

          one : (m : ℕ) → count m (m ∷ []) ≡ 1
          one m = count-same m []

          apart : x ≢ y
          apart same = omega (arith, once x, one x, ap (λ z. count x (z ∷ [])) same)

          half-full : IsHalfFullAt cap t.nodes x y
          half-full = record {
            under = content (e ∷ es);
            neighbour = content (f ∷ fs);
            left_is = was.inside.0;
            right_is = was.inside.1.0;
            kind = s.kind (e ∷ es) (f ∷ fs);
            filled = omega (arith, s.count_is (e ∷ es));
            neighbour_filled = omega (arith, s.count_is (f ∷ fs));
            half_full = omega (arith, s.count_is (e ∷ es), s.capacity_is (e ∷ es), few);
          }

          -- the two are balanced
          pub balance-asks : IsUsed t x × (IsUsed t y × ((x ≢ y) × IsHalfFullAt cap t.nodes x y))
          balance-asks = (is_used t x _ was.inside.0 (omega (arith, once x, one x)), (is_used t y _ was.inside.1.0 (omega (arith, once y, one y)), (apart, half-full)))

          -- where no other slot was written, the node is as it was
          module _ {u : Table K V} (two : Frees t u (x ∷ y ∷ []) (x ∷ y ∷ []) []) where
            slot-same : slice_get u.nodes number ≡ Some (inner_content ((e.0, x) ∷ (f.0, y) ∷ heads more))
            slot-same = two.others number (omega (arith, once number, one number, count-append number (x ∷ []) (y ∷ []))) ∙ was.slot_is

            used-same : IsUsed u number
            used-same = is_used u number _ slot-same (omega (arith, once number, one number, ap (count number) two.chain_is))

            -- the node is written then
            module _ {v : Table K V} {content' : Content K V} (put : Puts u v number content') where
              all-written : Frees t v own own []
              all-written = frees-after own own (λ m. omega (arith, count-append m (x ∷ y ∷ []) (numbers more), count-append m (number ∷ []) (x ∷ y ∷ numbers more))) two put.frees

              -- the other children are as they were
              more-same : RowIn content v.nodes more
              more-same = row-same content t.nodes v.nodes more
                  (λ m some. put.others m (omega (arith, once m, some)) ∙ two.others m (omega (arith, once m, some, count-append m (x ∷ []) (y ∷ []))))
                  was.inside.1.1

          -- the two share what they have
          module _ {u : Table K V} {key' : K} (b : IsBalancedAt cap t x key y (Some key') u) where
            sp : Spread content t u most x y (e ∷ es) (f ∷ fs) key'
            sp = spread_at content t u x y e es f fs s apart two-most was.inside.0 was.inside.1.0 (subst (λ z. IsBalancedAt cap t x z y (Some key') u) both.key_is b)

            -- the key between them is written
            pub rekey-asks : IsUsed u number × KeyAt u number 0
            rekey-asks = (used-same sp.two.frees, (_, _, slot-same sp.two.frees, omega arith))

            module _ {v : Table K V} (writes : Writes u v number 0 key') where
              abbrev row-shared : Row K X
              row-shared = node x (sp.x ∷ sp.xs) ∷ node y (sp.y ∷ sp.ys) ∷ more

              put-shared : Puts u v number (inner_content (heads row-shared))
              put-shared = puts u v number _ _ (slot-same sp.two.frees) (rw (← sp.key_is) (writes _ _ (slot-same sp.two.frees)))

              list-shared : flat row-shared ≡ flat row
              list-shared = sym (append_assoc (sp.x ∷ sp.xs) (sp.y ∷ sp.ys) (flat more)) ∙ ap (λ z. z ++ flat more) (sym sp.whole)
                  ∙ append_assoc (e ∷ es) (f ∷ fs) (flat more) ∙ ap flat (sym both.row_is)

              sizes-shared : sizes row-shared ≡ filled most (sizes row)
              sizes-shared = cc (sp.left_is, sp.right_is, ap sizes both.row_is, filled-shared most (suc (length es)) (suc (length fs)) (sizes more) few sp.more)

              pub filled-sharing : FillsChild (content_at leaf) (most_at leaf cap) t v number row
              filled-sharing = record {
                row' = row-shared;
                has = record {
                  slot_is = put-shared.here;
                  inside = (
                    put-shared.others x (omega (arith, once x, one x)) ∙ sp.two.here,
                    (put-shared.others y (omega (arith, once y, one y)) ∙ sp.two.there, more-same sp.two.frees put-shared),
                  );
                  some = (omega arith, (omega arith, was.some.1.1));
                  apart = trades-apart (all-written sp.two.frees put-shared) was.apart;
                };
                list_is = list-shared;
                sizes_are = sizes-shared;
                freed = [];
                frees = subst (λ z. Frees t v (number ∷ numbers z) own []) (sym both.row_is) (all-written sp.two.frees put-shared);
              }

          -- the first is merged into the second
          module _ {u : Table K V} (b : IsBalancedAt cap t x key y None u) where
            ar : AllRight content t u most x y (e ∷ es) (f ∷ fs)
            ar = all_right_at content t u x y e es f fs s apart two-most was.inside.0 was.inside.1.0 (subst (λ z. IsBalancedAt cap t x z y None u) both.key_is b)

            -- the first child is to be taken out of the node
            pub remove-asks : IsUsed u number × ChildAt u number 0
            remove-asks = (used-same ar.two.frees, (_, _, slot-same ar.two.frees, omega arith))

            module _ {v : Table K V} (removes : (keys : List K) (children : List ℕ) → slice_get u.nodes number ≡ Some (Inner keys children) → v ≡ with_node u number (without_child (Inner keys children) 0)) where
              abbrev row-merged : Row K X
              row-merged = node y ((e ∷ es) ++ f ∷ fs) ∷ more

              put-merged : Puts u v number (inner_content (heads row-merged))
              put-merged = puts u v number _ _ (slot-same ar.two.frees)
                  (removes _ _ (slot-same ar.two.frees) ∙ ap (with_node u number) (without_some V (entry_keys ((f.0, y) ∷ heads more)) (x ∷ y ∷ entry_items (heads more)) 0 (omega arith)))

              slot-merged : slice_get v.nodes x ≡ Some ar.left_content
              slot-merged = put-merged.others x (omega (arith, once x, one x)) ∙ ar.two.here

              -- the first child is to be freed
              pub free-asks : IsUsed v x
              free-asks = is_used v x _ slot-merged (omega (arith, once x, one x, ap (count x) put-merged.chain_is, ap (count x) ar.two.chain_is))

              module _ {w : Table K V} (freed : w ≡ with_freed v x) where
                abbrev left : List ℕ
                left = number ∷ y ∷ numbers more

                one-freed : Frees v w (x ∷ []) [] (x ∷ [])
                one-freed = frees-one v w x slot-merged freed

                frees-merged : Frees t w own left (x ∷ [])
                frees-merged = frees-after own left
                    (λ m. omega (arith, count-append m (number ∷ []) (y ∷ numbers more), count-append m (number ∷ []) (x ∷ y ∷ numbers more), count-append m (x ∷ []) (y ∷ numbers more)))
                    (all-written ar.two.frees put-merged) one-freed

                sizes-merged : sizes row-merged ≡ filled most (sizes row)
                sizes-merged = cc (length-append (e ∷ es) (f ∷ fs), ap sizes both.row_is, filled-merged most (suc (length es)) (suc (length fs)) (sizes more) few ar.fits)

                pub filled-merging : FillsChild (content_at leaf) (most_at leaf cap) t w number row
                filled-merging = record {
                  row' = row-merged;
                  has = record {
                    slot_is = one-freed.others number (omega (arith, once number, one number)) ∙ put-merged.here;
                    inside = (
                      one-freed.others y (omega (arith, once y, one y)) ∙ put-merged.others y (omega (arith, once y, one y)) ∙ ar.two.there,
                      row-same content v.nodes w.nodes more (λ m some. one-freed.others m (omega (arith, once m, some))) (more-same ar.two.frees put-merged),
                    );
                    some = (omega arith, was.some.1.1);
                    apart = trades-apart frees-merged was.apart;
                  };
                  list_is = append_assoc (e ∷ es) (f ∷ fs) (flat more) ∙ ap flat (sym both.row_is);
                  sizes_are = sizes-merged;
                  freed = x ∷ [];
                  frees = subst (λ z. Frees t w (number ∷ numbers z) left (x ∷ [])) (sym both.row_is) frees-merged;
                }
