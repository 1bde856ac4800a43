-- Detaching what is behind a place of a whole tree: the two trees that it becomes, once the second one's left edge is filled and roots with a
-- single child are discarded.
use Rattle.bforest_core.proofs.Words.{◌≡◌, ◌≢◌, ℕ, suc, ◌+◌, ◌-◌, ◌≤◌, ◌<◌, List, [], ◌∷◌, ◌++◌, map, length, drop, take, refl, sym, ap, subst, ◌∙◌, arith, append_assoc}
use Rattle.bforest_core.proofs.Words.{inl, inr, eqb_tells, length-append, length-map, length-take-le, flat_map, flat_map-append, Heads, Row, Rows, StandsUnder, IsForest, IsUnion, Table, Tree}
use Rattle.bforest_core.proofs.Words.{Distinct, Every, IsFree, leaf_content, slice_get, Frees, Trimmed, root_above, root_of, UpTo, count, flat, half_of, heads, node_count, numbers, numbers_of, numbers_under, sizes, sizes_of, slot, trimmed}
use Rattle.bforest_core.proofs.removal.{Collapse.{length-sizes, rows-parts, trimmed-is}}
use Rattle.bforest_core.proofs.table.{Tables.{count-append, count-other, count-same, row-same, rows-same}}
use Rattle.bforest_core.proofs.union.{Account.{length-same, nodes-count}, CutTree.{half, heads-are, kept-low, kept-some, leaves, leaves-fit, low, r, rows, sizes-are, stacked, tree}, BehindTree.{behind-edge, behind-planted, behind-sizes-are, behind-up, behinds-count, fills-count}}
use Rattle.bforest_core.proofs.union.{Exchange.{IsPlanted, Traded, exchange-trees, others-keep, roots-gone}, Forests.{every-append, every-join, root-among, tree-back}, FreeSlots.free-same, Fronts.{flat-front, height-fronts, root-fronts}}
use Rattle.bforest_core.proofs.walks.RowNodes.{fit_full}
use Rattle.bforest_core.specs.{Change.{Divides}, Detach.{FillsEdge, IsBehind, OnEdge, Parts}, Sizes.{detached, truncated}}

module _ {K V : Type 0} where
  -- roots that were discarded from a number that is the root
  pub root-same : {mid new : Table K V} {size size' top root root' : ℕ} {rows : Rows K} {list : Heads K} {gone : List ℕ} → top ≡ root → Trimmed mid new size size' rows list top root' gone → Trimmed mid new size size' rows list root root' gone
  root-same {mid} {new} {size} {size'} {root' = root'} {rows = rows} {list = list} {gone = gone} is t = subst (λ z. Trimmed mid new size size' rows list z root' gone) is t

  -- the chain is free after a change that frees nodes, if it was before
  chain-free : {t u : Table K V} {was are freed : List ℕ} → Frees t u was are freed → ((m : ℕ) → 0 < count m t.chain → count m was ≡ 0) →
      Every (λ m. IsFree (slot t.nodes m)) t.chain → Every (λ m. IsFree (slot u.nodes m)) u.chain
  chain-free {t} {u} d quiet free = rw d.chain_is (every-join _ _ _ d.freed_are (free-same t.nodes u.nodes t.chain (λ m some. d.others m (quiet m some)) free))

  module _ {most : ℕ} {old : Table K V} {root place : ℕ} {path indices : List ℕ} {size : ℕ} (union : IsUnion most old) (s : StandsUnder old.nodes root path indices size place) (some : 0 < place) where
    abbrev whole-tree : Tree K V
    whole-tree = tree union s

    abbrev front-leaves : Row K V
    front-leaves = leaves union s some

    abbrev front-rows : Rows K
    front-rows = rows union s some

    module _ {mid : Table K V} {behind : ℕ} (p : Parts old mid whole-tree.leaves whole-tree.above place behind) where
      -- how often a number occurs in both parts and on the chain
      halves : (m : ℕ) → (count m (numbers_under front-leaves front-rows) + count m (numbers_under p.tail p.above) ≡ count m p.taken + count m (numbers_of whole-tree))
          × (count m p.taken + count m mid.chain ≡ count m old.chain) × (count m (numbers_of whole-tree) + count m old.chain ≤ 1)
      halves m = (
        omega (arith, p.draws.numbers_are m, count-append m (numbers_under front-leaves front-rows) (numbers_under p.tail p.above), count-append m p.taken (numbers_of whole-tree)),
        omega (arith, ap (count m) p.draws.chain_is, count-append m p.taken mid.chain),
        omega (arith, (r union s).apart m, count-append m (numbers_of whole-tree) old.chain),
      )

      front-count : (m : ℕ) → count m (numbers_under front-leaves front-rows) ≡ count m (numbers front-leaves) + count m (flat_map numbers front-rows)
      front-count m = count-append m (numbers front-leaves) (flat_map numbers front-rows)

      pub front-up : {top : ℕ} → top ≡ root → UpTo mid size front-rows (heads front-leaves) top
      front-up is = rw is (record {
        stacked = stacked union s some;
        inside = p.rows_in;
        height = omega (arith, s.stands.size_is, height-fronts whole-tree.above (length front-leaves));
        root_is = ap (λ z. root_above z front-rows) (heads-are union s some) ∙ root-fronts (heads whole-tree.leaves) whole-tree.above (length front-leaves) (kept-some union s some) (kept-low union s some) (r union s).fit.stacked ∙ (r union s).root_is;
        apart = λ m. omega (arith, halves m, front-count m, count-append m (flat_map numbers front-rows) mid.chain);
      })

      -- roots over the first part were discarded
      module _ {mid2 : Table K V} {size' root' : ℕ} {gone : List ℕ} (t : Trimmed mid mid2 size size' front-rows (heads front-leaves) root root' gone) where
        abbrev front-tree : Tree K V
        front-tree = record { leaves = front-leaves; above = t.rows' }

        fronts-count : (m : ℕ) → (count m (numbers_under front-leaves front-rows) ≡ count m (numbers_of front-tree) + count m (flat_map numbers t.discarded))
            × (count m gone ≡ count m (flat_map numbers t.discarded)) × (count m mid2.chain ≡ count m gone + count m mid.chain)
        fronts-count m = (
          omega (
            arith,
            front-count m,
            ap (λ z. count m (flat_map numbers z)) t.rows_are,
            ap (count m) (flat_map-append numbers t.rows' t.discarded),
            count-append m (flat_map numbers t.rows') (flat_map numbers t.discarded),
            count-append m (numbers front-leaves) (flat_map numbers t.rows'),
          ),
          omega (arith, t.frees.numbers_are m, count-append m gone []),
          omega (arith, ap (count m) t.frees.chain_is, count-append m gone mid.chain),
        )

        tail-count : (m : ℕ) → count m (numbers_under p.tail p.above) ≡ count m (numbers p.tail) + count m (flat_map numbers p.above)
        tail-count m = count-append m (numbers p.tail) (flat_map numbers p.above)

        tail-slot : (m : ℕ) → 0 < count m (numbers_under p.tail p.above) → slice_get mid2.nodes m ≡ slice_get mid.nodes m
        tail-slot m here = t.frees.others m (omega (arith, here, halves m, fronts-count m))

        -- the second part, in the table as it is now
        abbrev moved : IsBehind mid2 whole-tree.leaves whole-tree.above place behind
        moved = record {
          tail = p.tail;
          above = p.above;
          first = p.first;
          tail_in = row-same leaf_content mid.nodes mid2.nodes p.tail (λ m here. tail-slot m (omega (arith, here, tail-count m))) p.tail_in;
          above_in = rows-same mid.nodes mid2.nodes p.above (λ m here. tail-slot m (omega (arith, here, tail-count m))) p.above_in;
          tail_is = p.tail_is;
          piled = p.piled;
          sizes_are = p.sizes_are;
        }

        moved-apart : Distinct (numbers_under p.tail p.above ++ mid2.chain)
        moved-apart m = omega (arith, halves m, fronts-count m, count-append m (numbers_under p.tail p.above) mid2.chain)

        pub edge : OnEdge most mid2 (size - 1) behind p.tail p.above p.first []
        edge = behind-edge union s some moved moved-apart

        -- the second part's left edge was filled
        module _ {mid3 : Table K V} (f : FillsEdge most mid2 mid3 behind p.tail p.above p.first []) where
          pub second-up : UpTo mid3 size f.rows' (heads f.leaves') behind
          second-up = behind-up union s some moved moved-apart f

          filled-count : (m : ℕ) → (count m (numbers_under p.tail p.above) ≡ count m f.freed + count m (numbers_under f.leaves' f.rows')) × (count m mid3.chain ≡ count m f.freed + count m mid2.chain)
          filled-count m = let c = fills-count union s some moved moved-apart f m in (c.0, c.1)

          -- roots over it were discarded
          module _ {new : Table K V} {size'' root'' : ℕ} {gone' : List ℕ} (u : Trimmed mid3 new size size'' f.rows' (heads f.leaves') behind root'' gone') where
            abbrev second : Tree K V
            second = record { leaves = f.leaves'; above = u.rows' }

            second-count : (m : ℕ) → (count m (numbers_under f.leaves' f.rows') ≡ count m (numbers_of second) + count m (flat_map numbers u.discarded))
                × (count m gone' ≡ count m (flat_map numbers u.discarded)) × (count m new.chain ≡ count m gone' + count m mid3.chain)
            second-count m = behinds-count union s some moved moved-apart f u m

            second-planted : IsPlanted most new.nodes second
            second-planted = behind-planted union s some moved moved-apart f u

            second-sizes : sizes_of second ≡ detached most place (sizes_of whole-tree)
            second-sizes = behind-sizes-are union s some moved moved-apart f u

            -- each number is in one of the two trees or on the chain, as often as before
            all-count : (m : ℕ) → count m (numbers_of front-tree) + count m (numbers_of second) + count m new.chain ≡ count m (numbers_of whole-tree) + count m old.chain
            all-count m = omega (arith, halves m, fronts-count m, filled-count m, second-count m)

            front-slot : (m : ℕ) → 0 < count m (numbers_of front-tree) → slice_get new.nodes m ≡ slice_get mid.nodes m
            front-slot m here = u.frees.others m (omega (arith, here, halves m, fronts-count m, filled-count m, second-count m)) ∙ f.frees.others m (omega (arith, here, halves m, fronts-count m, filled-count m)) ∙ t.frees.others m (omega (arith, here, halves m, fronts-count m))

            front-numbers : (m : ℕ) → count m (numbers_of front-tree) ≡ count m (numbers front-leaves) + count m (flat_map numbers t.rows')
            front-numbers m = count-append m (numbers front-leaves) (flat_map numbers t.rows')

            front-flat : flat front-leaves ≡ take place (flat whole-tree.leaves)
            front-flat = flat-front whole-tree.leaves place

            second-flat : flat f.leaves' ≡ drop place (flat whole-tree.leaves)
            second-flat = f.list_is ∙ p.tail_is

            front-planted : IsPlanted most new.nodes front-tree
            front-planted = record {
              fit = record { leaves_fit = leaves-fit union s some; stacked = t.stacked; topped = t.topped };
              inside = record {
                leaves_in = row-same leaf_content mid.nodes new.nodes front-leaves (λ m here. front-slot m (omega (arith, here, front-numbers m))) p.leaves_in;
                rows_in = rows-same mid.nodes new.nodes t.rows' (λ m here. front-slot m (omega (arith, here, front-numbers m))) (rows-parts mid.nodes t.rows' t.discarded (rw (← t.rows_are) p.rows_in)).0;
              };
              some = omega (arith, ap length front-flat, length-take-le place (flat whole-tree.leaves) (omega (arith, low union s)));
              low = omega (arith, ap length t.rows_are, length-append t.rows' t.discarded, height-fronts whole-tree.above (length front-leaves), (r union s).low);
            }

            chain-is-free : Every (λ m. IsFree (slot new.nodes m)) new.chain
            chain-is-free =
                let left = (every-append (λ m. IsFree (slot old.nodes m)) p.taken mid.chain (rw p.draws.chain_is union.1.free)).1 in
                let kept = free-same old.nodes mid.nodes mid.chain (λ m here. p.draws.others m (omega (arith, here, halves m, count-append m p.taken (numbers_of whole-tree)))) left in
                chain-free u.frees (λ m here. omega (arith, here, halves m, fronts-count m, filled-count m, second-count m))
                (chain-free f.frees (λ m here. omega (arith, here, halves m, fronts-count m, filled-count m)) (chain-free t.frees (λ m here. omega (arith, here, halves m, fronts-count m)) kept))

            both-numbers : (m : ℕ) → count m (flat_map numbers_of (front-tree ∷ (second ∷ []))) ≡ count m (numbers_of front-tree) + count m (numbers_of second)
            both-numbers m = omega (arith, count-append m (numbers_of front-tree) (numbers_of second ++ []), count-append m (numbers_of second) [])

            whole-numbers : (m : ℕ) → count m (flat_map numbers_of (whole-tree ∷ [])) ≡ count m (numbers_of whole-tree)
            whole-numbers m = omega (arith, count-append m (numbers_of whole-tree) [])

            is-traded : Traded old new (flat_map numbers_of (whole-tree ∷ [])) (flat_map numbers_of (front-tree ∷ (second ∷ [])))
            is-traded = record {
              free = chain-is-free;
              slots_are = u.frees.slots_are ∙ f.frees.slots_are ∙ t.frees.slots_are ∙ p.draws.slots_are;
              nums = λ m. omega (arith, both-numbers m, whole-numbers m, all-count m);
              others = λ m none. (
                  let nothing : count m (numbers_of whole-tree) + count m old.chain ≡ 0 = omega (arith, none, whole-numbers m) in
                  u.frees.others m (omega (arith, nothing, halves m, fronts-count m, filled-count m, second-count m)) ∙ f.frees.others m (omega (arith, nothing, halves m, fronts-count m, filled-count m))
                  ∙ t.frees.others m (omega (arith, nothing, halves m, fronts-count m)) ∙ p.draws.others m (omega (arith, nothing, halves m, count-append m p.taken (numbers_of whole-tree)))
                  );
            }

            new-forest : IsForest most new ((r union s).before ++ front-tree ∷ (second ∷ (r union s).after))
            new-forest = exchange-trees (r union s).before (whole-tree ∷ []) (front-tree ∷ (second ∷ [])) (r union s).after (r union s).forest (front-planted, (second-planted, tt)) is-traded

            front-among : 0 < count root' (numbers_of front-tree)
            front-among = let among = root-among most new.nodes front-tree front-planted.fit front-planted.inside front-planted.some in subst (λ z. 0 < count z (numbers_of front-tree)) t.root_is among

            behind-among : 0 < count root'' (numbers_of second)
            behind-among = let among = root-among most new.nodes second second-planted.fit second-planted.inside second-planted.some in subst (λ z. 0 < count z (numbers_of second)) u.root_is among

            -- the old root is a node of the first part, or was freed
            root-front : 0 < count root (numbers_under front-leaves front-rows)
            root-front = elim (eqb_tells size' size) [
              | inl w ↦ omega (arith, fronts-count root, subst (λ z. 0 < count z (numbers_of front-tree)) (t.same_root w.1) front-among)
              | inr w ↦ omega (arith, fronts-count root, t.old_root w.1)
            ]

            roots-apart : root' ≢ root''
            roots-apart same = omega (arith, subst (λ z. 0 < count z (numbers_of front-tree)) same front-among, behind-among, all-count root'', halves root'')

            behind-other : root ≢ root''
            behind-other same = omega (arith, subst (λ z. 0 < count z (numbers_under front-leaves front-rows)) same root-front, behind-among, halves root'', fronts-count root'', filled-count root'', second-count root'')

            front-sizes-are : sizes_of front-tree ≡ truncated place (sizes_of whole-tree)
            front-sizes-are = let len = length-sizes front-leaves ∙ sym (fit_full (half_of most) most (half union s some) front-leaves (leaves-fit union s some)) in
                let trim = trimmed-is (sizes front-leaves) (heads front-leaves) t.rows' t.discarded len (rw (← t.rows_are) (stacked union s some)) t.stacked t.topped in
                sym (ap trimmed (sizes-are union s some) ∙ ap (λ z. trimmed (sizes front-leaves ∷ map sizes z)) t.rows_are ∙ trim)

            levels : (length (truncated place (sizes_of whole-tree)) ≡ suc (length t.rows')) × (length (sizes_of whole-tree) ≡ suc (length whole-tree.above))
            levels = (omega (arith, ap length front-sizes-are, length-map t.rows' sizes), omega (arith, length-map whole-tree.above sizes))

            not-freed : root' ≡ root → 0 < count root gone → ⊥
            not-freed same here = omega (arith, here, subst (λ z. 0 < count z (numbers_of front-tree)) same front-among, halves root, fronts-count root)

            nodes-are : length new.chain + node_count (sizes_of front-tree) + node_count (sizes_of second) ≡ length old.chain + node_count (sizes_of whole-tree)
            nodes-are = omega (
              arith,
              length-same (numbers_of front-tree ++ (numbers_of second ++ new.chain)) (numbers_of whole-tree ++ old.chain)
                  (λ m. omega (arith, all-count m, count-append m (numbers_of front-tree) (numbers_of second ++ new.chain), count-append m (numbers_of second) new.chain, count-append m (numbers_of whole-tree) old.chain)),
              length-append (numbers_of front-tree) (numbers_of second ++ new.chain),
              length-append (numbers_of second) new.chain,
              length-append (numbers_of whole-tree) old.chain,
              nodes-count front-tree,
              nodes-count second,
              nodes-count whole-tree,
            )

            pub divides : Divides most old new root place root' root''
            divides =
                let q = r union s in let g = new-forest in let come = front-tree ∷ (second ∷ []) in
                let front-back = tree-back q.before front-tree (second ∷ q.after) root' g refl t.root_is in
                let behind-back = tree-back (q.before ++ front-tree ∷ []) second q.after root'' g (sym (append_assoc q.before (front-tree ∷ []) (second ∷ q.after))) u.root_is in
                let two : (m : ℕ) → m ≢ root' → m ≢ root'' → count m (map root_of come) ≡ 0 =
                λ m ne ne'. omega (arith, count-other m (root_of front-tree) (root_of second ∷ []) (λ e. ne (sym e ∙ t.root_is)), count-other m (root_of second) [] (λ e. ne' (sym e ∙ u.root_is))) in
                let was : count root (map root_of (whole-tree ∷ [])) ≡ 1 = omega (arith, ap (λ z. count root (z ∷ [])) q.root_is, count-same root []) in
                let not-whole : (m : ℕ) → m ≢ root → count m (map root_of (whole-tree ∷ [])) ≡ 0 = λ m ne. count-other m (root_of whole-tree) [] (λ e. ne (sym e ∙ q.root_is)) in
                let here : (0 < count root' (map root_of come)) × (0 < count root'' (map root_of come)) = (
                  omega (arith, ap (λ z. count root' (z ∷ (root_of second ∷ []))) t.root_is, count-same root' (root_of second ∷ [])),
                  omega (arith, ap (λ z. count root'' (z ∷ [])) u.root_is, count-same root'' [], count-append root'' (root_of front-tree ∷ []) (root_of second ∷ [])),
                ) in
                record {
                  union = (_, g);
                  front_root = front-back.1;
                  behind_root = behind-back.1;
                  apart = roots-apart;
                  front_list = ap (λ z. flat z.leaves) front-back.0 ∙ front-flat;
                  behind_list = ap (λ z. flat z.leaves) behind-back.0 ∙ second-flat;
                  front_sizes = ap sizes_of front-back.0 ∙ front-sizes-are;
                  behind_sizes = ap sizes_of behind-back.0 ∙ second-sizes;
                  others = λ other ne ne' ne''. others-keep q.before (whole-tree ∷ []) come q.after q.forest g other (not-whole other ne) (two other ne' ne'');
                  old_gone = λ ne. roots-gone q.before (whole-tree ∷ []) come q.after q.forest g root (omega (arith, was)) (two root ne behind-other);
                  front_came = λ ne. roots-gone q.before come (whole-tree ∷ []) q.after g q.forest root' here.0 (not-whole root' (λ e. ne (sym e)));
                  behind_came = roots-gone q.before come (whole-tree ∷ []) q.after g q.forest root'' here.1 (not-whole root'' (λ e. behind-other (sym e)));
                  same_root = (
                    λ same. elim (eqb_tells size' size) [
                      | inl w ↦ omega (arith, w.1, levels, t.size_is, s.stands.size_is)
                      | inr w ↦ absurd (not-freed same (t.old_root w.1))
                    ],
                    λ same. t.same_root (omega (arith, same, levels, t.size_is, s.stands.size_is)),
                  );
                  slots = is-traded.slots_are;
                  free = omega (arith, nodes-are, ap (λ z. node_count (sizes_of z)) front-back.0, ap (λ z. node_count (sizes_of z)) behind-back.0);
                  memory_is = u.frees.memory_is ∙ f.frees.memory_is ∙ t.frees.memory_is ∙ p.draws.memory_is;
                  limit_is = u.frees.limit_is ∙ f.frees.limit_is ∙ t.frees.limit_is ∙ p.draws.limit_is;
                }
