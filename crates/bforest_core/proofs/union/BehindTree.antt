-- What is behind a place of a tree, below a node of its own, as a tree: the first node of each level is filled, and roots with a single child are
-- discarded.
use Rattle.bforest_core.proofs.Words.{◌≡◌, ℕ, zero, suc, ◌+◌, ◌-◌, ◌≤◌, ◌<◌, List, [], ◌∷◌, ◌++◌, map, length, drop, refl, sym, ap, subst, ◌∙◌, arith}
use Rattle.bforest_core.proofs.Words.{length-append, length-map, length-drop, flat_map, flat_map-append, Heads, Rows, StandsUnder, IsUnion, Table, Tree}
use Rattle.bforest_core.proofs.Words.{Distinct, Every, leaf_content, slice_get, FitRow, Stacked, Trimmed, root_above, first_number, UpTo, count, flat, half_of, heads, numbers, numbers_of, numbers_under, sizes, sizes_of, trimmed}
use Rattle.bforest_core.proofs.removal.{Collapse.{length-sizes, rows-parts, trimmed-is}}
use Rattle.bforest_core.proofs.table.{Tables.{count-append, row-same, rows-same}}
use Rattle.bforest_core.proofs.union.{CutTree.{half, low, r, tree}, Detached.{behind-fit, behind-some}, Detaching.{backs-length}, Exchange.{IsPlanted}}
use Rattle.bforest_core.proofs.walks.RowNodes.{fit_full}
use Rattle.bforest_core.specs.{Detach.{FillsEdge, IsBehind, OnEdge, row_sizes}, Packed.Piled, Sizes.{backs, detached, filled, filled_above, filled_levels}}

root-piled : {K : Type 0} (list : Heads K) (rows : Rows K) (top : Heads K) → Piled list rows top → root_above list rows ≡ first_number top
root-piled list [] top p = ap first_number p
root-piled list (row ∷ rows) top p = root-piled (heads row) rows top p.1

length-filled_above : (levels : List (List ℕ)) (lost : ℕ) → length (filled_above lost levels) ≡ length levels
length-filled_above [] lost = refl
length-filled_above (level ∷ levels) lost = ap suc (length-filled_above levels (length level - length (filled 8 level)))

length-filled : (most : ℕ) (levels : List (List ℕ)) → length (filled_levels most levels) ≡ length levels
length-filled most [] = refl
length-filled most (level ∷ levels) = ap suc (length-filled_above levels (length level - length (filled most level)))

detached-some : (most place : ℕ) (levels : List (List ℕ)) → 0 < place → detached most place levels ≡ trimmed (filled_levels most (backs place levels))
detached-some most zero levels some = absurd (omega (arith, some))
detached-some most (suc place) levels some = refl

module _ {K V : Type 0} {most : ℕ} {old : Table K V} {root place : ℕ} {path indices : List ℕ} {size : ℕ} (union : IsUnion most old) (s : StandsUnder old.nodes root path indices size place) (some : 0 < place) where
  abbrev pub whole-tree : Tree K V
  whole-tree = tree union s

  -- what is behind the place is below a node, off the free list
  module _ {mid : Table K V} {behind : ℕ} (q : IsBehind mid whole-tree.leaves whole-tree.above place behind) (apart : Distinct (numbers_under q.tail q.above ++ mid.chain)) where
    pub behind-edge : OnEdge most mid (size - 1) behind q.tail q.above q.first []
    behind-edge = record {
      leaves_in = q.tail_in;
      rows_in = q.above_in;
      piled = q.piled;
      some = subst (Every (Every (λ size. 1 ≤ size))) (sym q.sizes_are) (behind-some union.1.capacity whole-tree.leaves whole-tree.above (r union s).fit.leaves_fit (r union s).fit.stacked (low union s));
      ready = λ ne. absurd (ne refl);
      height = omega (arith, ap length q.sizes_are, backs-length place (row_sizes whole-tree.leaves whole-tree.above), length-map q.above sizes, length-map whole-tree.above sizes, s.stands.size_is);
      apart = apart;
    }

    -- the left edge of what is behind the place was filled
    module _ {next : Table K V} (f : FillsEdge most mid next behind q.tail q.above q.first []) where
      sizes-filled : row_sizes f.leaves' f.rows' ≡ filled_levels most (backs place (row_sizes whole-tree.leaves whole-tree.above))
      sizes-filled = f.sizes_are ∙ ap (filled_levels most) q.sizes_are

      fits : FitRow (half_of most) most f.leaves' × Stacked (heads f.leaves') f.rows'
      fits = behind-fit union.1.capacity whole-tree.leaves whole-tree.above (r union s).fit.leaves_fit (r union s).fit.stacked (low union s) f.leaves' f.rows' (q.first, behind) f.piled sizes-filled

      pub fills-count : (m : ℕ) → (count m (numbers_under q.tail q.above) ≡ count m f.freed + count m (numbers_under f.leaves' f.rows')) × (count m next.chain ≡ count m f.freed + count m mid.chain)
          × (count m (numbers_under f.leaves' f.rows') ≡ count m (numbers f.leaves') + count m (flat_map numbers f.rows'))
      fills-count m = (
        omega (arith, f.frees.numbers_are m, count-append m f.freed (numbers_under f.leaves' f.rows')),
        omega (arith, ap (count m) f.frees.chain_is, count-append m f.freed mid.chain),
        count-append m (numbers f.leaves') (flat_map numbers f.rows'),
      )

      one-each : (m : ℕ) → count m (numbers_under q.tail q.above) + count m mid.chain ≤ 1
      one-each m = omega (arith, apart m, count-append m (numbers_under q.tail q.above) mid.chain)

      height-filled : suc (length f.rows') ≡ size
      height-filled = omega (
        arith,
        ap length sizes-filled,
        length-filled most (backs place (row_sizes whole-tree.leaves whole-tree.above)),
        backs-length place (row_sizes whole-tree.leaves whole-tree.above),
        length-map f.rows' sizes,
        length-map whole-tree.above sizes,
        s.stands.size_is,
      )

      pub behind-up : UpTo next size f.rows' (heads f.leaves') behind
      behind-up = record {
        stacked = fits.1;
        inside = f.rows_in;
        height = height-filled;
        root_is = root-piled (heads f.leaves') f.rows' ((q.first, behind) ∷ []) f.piled;
        apart = λ m. omega (arith, one-each m, fills-count m, count-append m (flat_map numbers f.rows') next.chain);
      }

      -- roots with a single child were discarded over what is behind the place
      module _ {new : Table K V} {size' root' : ℕ} {gone : List ℕ} (u : Trimmed next new size size' f.rows' (heads f.leaves') behind root' gone) where
        abbrev pub behind-tree : Tree K V
        behind-tree = record { leaves = f.leaves'; above = u.rows' }

        pub behinds-count : (m : ℕ) → (count m (numbers_under f.leaves' f.rows') ≡ count m (numbers_of behind-tree) + count m (flat_map numbers u.discarded))
            × (count m gone ≡ count m (flat_map numbers u.discarded)) × (count m new.chain ≡ count m gone + count m next.chain)
        behinds-count m = (
          omega (
            arith,
            fills-count m,
            ap (λ z. count m (flat_map numbers z)) u.rows_are,
            ap (count m) (flat_map-append numbers u.rows' u.discarded),
            count-append m (flat_map numbers u.rows') (flat_map numbers u.discarded),
            count-append m (numbers f.leaves') (flat_map numbers u.rows'),
          ),
          omega (arith, u.frees.numbers_are m, count-append m gone []),
          omega (arith, ap (count m) u.frees.chain_is, count-append m gone next.chain),
        )

        behind-slot : (m : ℕ) → 0 < count m (numbers_of behind-tree) → slice_get new.nodes m ≡ slice_get next.nodes m
        behind-slot m here = u.frees.others m (omega (arith, here, one-each m, fills-count m, behinds-count m))

        behind-numbers : (m : ℕ) → count m (numbers_of behind-tree) ≡ count m (numbers f.leaves') + count m (flat_map numbers u.rows')
        behind-numbers m = count-append m (numbers f.leaves') (flat_map numbers u.rows')

        pub behind-flat : flat f.leaves' ≡ drop place (flat whole-tree.leaves)
        behind-flat = f.list_is ∙ q.tail_is

        pub behind-planted : IsPlanted most new.nodes behind-tree
        behind-planted = record {
          fit = record { leaves_fit = fits.0; stacked = u.stacked; topped = u.topped };
          inside = record {
            leaves_in = row-same leaf_content next.nodes new.nodes f.leaves' (λ m here. behind-slot m (omega (arith, here, behind-numbers m))) f.leaves_in;
            rows_in = rows-same next.nodes new.nodes u.rows' (λ m here. behind-slot m (omega (arith, here, behind-numbers m))) (rows-parts next.nodes u.rows' u.discarded (rw (← u.rows_are) f.rows_in)).0;
          };
          some = omega (arith, ap length behind-flat, length-drop place (flat whole-tree.leaves), low union s);
          low = omega (arith, ap length u.rows_are, length-append u.rows' u.discarded, height-filled, s.stands.size_is, (r union s).low);
        }

        pub behind-sizes-are : sizes_of behind-tree ≡ detached most place (sizes_of whole-tree)
        behind-sizes-are = let len = length-sizes f.leaves' ∙ sym (fit_full (half_of most) most (half union s some) f.leaves' fits.0) in
            let trim = trimmed-is (sizes f.leaves') (heads f.leaves') u.rows' u.discarded len (rw (← u.rows_are) fits.1) u.stacked u.topped in
            sym (detached-some most place (sizes_of whole-tree) some ∙ ap trimmed (sym sizes-filled) ∙ ap (λ z. trimmed (sizes f.leaves' ∷ map sizes z)) u.rows_are ∙ trim)
