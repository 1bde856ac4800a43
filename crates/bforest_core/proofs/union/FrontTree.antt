-- Cutting what is in front of a place of a whole tree: what is left, with its left edge filled and roots with a single child discarded.
use Rattle.bforest_core.proofs.Words.{◌≡◌, ℕ, suc, ◌+◌, ◌-◌, ◌<◌, List, [], ◌++◌, length, ap, ◌∙◌, arith, inl, inr, eqb_tells, length-append, length-map, flat_map}
use Rattle.bforest_core.proofs.Words.{Distinct, Frees, IsUnion, StandsUnder, Table, Tree, Trimmed, UpTo, count, heads, node_count, numbers, numbers_of, numbers_under, sizes, sizes_of}
use Rattle.bforest_core.proofs.table.{Tables.count-append, Trading.{frees-then, trades-apart}}
use Rattle.bforest_core.proofs.union.{Account.{length-same, nodes-count}, BehindTree.{behind-edge, behind-flat, behind-planted, behind-sizes-are, behind-up, behinds-count, fills-count}, CutTree.{r, tree}, DetachTree.root-same, Forests.root-among, Roots.{exchanged-changes, exchanged-freed}}
use Rattle.bforest_core.specs.{Change.{CutsFront}, Detach.{FillsEdge, LeavesBehind, OnEdge}, Sizes.{detached}}

module _ {K V : Type 0} {most : ℕ} {old : Table K V} {root place : ℕ} {path indices : List ℕ} {size : ℕ} (union : IsUnion most old) (s : StandsUnder old.nodes root path indices size place) (some : 0 < place) where
  abbrev whole : Tree K V
  whole = tree union s

  -- what is in front was freed
  module _ {mid : Table K V} {top : ℕ} (top_is : top ≡ root) (cuts : LeavesBehind old mid whole.leaves whole.above place top) where
    cut-apart : Distinct (numbers_under cuts.tail cuts.above ++ mid.chain)
    cut-apart = trades-apart cuts.frees (r union s).apart

    pub front-edge : OnEdge most mid (size - 1) top cuts.tail cuts.above cuts.first []
    front-edge = behind-edge union s some cuts.rest cut-apart

    -- the left edge was filled
    module _ {next : Table K V} (f : FillsEdge most mid next top cuts.tail cuts.above cuts.first []) where
      pub front-up : UpTo next size f.rows' (heads f.leaves') top
      front-up = behind-up union s some cuts.rest cut-apart f

      -- roots over it were discarded
      module _ {new : Table K V} {size' root' : ℕ} {gone : List ℕ} (u : Trimmed next new size size' f.rows' (heads f.leaves') top root' gone) where
        trimmed-root : Trimmed next new size size' f.rows' (heads f.leaves') root root' gone
        trimmed-root = root-same top_is u

        abbrev left : Tree K V
        left = record { leaves = f.leaves'; above = u.rows' }

        filled-count : (m : ℕ) → (count m (numbers_under cuts.tail cuts.above) ≡ count m f.freed + count m (numbers_under f.leaves' f.rows')) × (count m next.chain ≡ count m f.freed + count m mid.chain)
            × (count m (numbers_under f.leaves' f.rows') ≡ count m (numbers f.leaves') + count m (flat_map numbers f.rows'))
        filled-count = fills-count union s some cuts.rest cut-apart f

        left-count : (m : ℕ) → (count m (numbers_under f.leaves' f.rows') ≡ count m (numbers_of left) + count m (flat_map numbers u.discarded))
            × (count m gone ≡ count m (flat_map numbers u.discarded)) × (count m new.chain ≡ count m gone + count m next.chain)
        left-count = behinds-count union s some cuts.rest cut-apart f u

        all-freed : Frees old new (numbers_of whole) (numbers_of left) (gone ++ (f.freed ++ cuts.given))
        all-freed = frees-then (numbers_of whole) (numbers_of left)
            (λ m. omega (arith, left-count m, filled-count m, cuts.frees.numbers_are m, count-append m cuts.given (numbers_under cuts.tail cuts.above), u.frees.numbers_are m, count-append m gone []))
            (r union s).apart
            (frees-then (numbers_of whole) (numbers_under f.leaves' f.rows')
            (λ m. omega (arith, filled-count m, cuts.frees.numbers_are m, count-append m cuts.given (numbers_under cuts.tail cuts.above)))
            (r union s).apart cuts.frees f.frees)
            u.frees

        left-sizes : sizes_of left ≡ detached most place (sizes_of whole)
        left-sizes = behind-sizes-are union s some cuts.rest cut-apart f u

        levels : (length (detached most place (sizes_of whole)) ≡ suc (length u.rows')) × (length (sizes_of whole) ≡ suc (length whole.above))
        levels = (omega (arith, ap length left-sizes, length-map u.rows' sizes), omega (arith, length-map whole.above sizes))

        -- a root that is left was not freed
        not-freed : root' ≡ root → 0 < count root gone → ⊥
        not-freed same here = let p = behind-planted union s some cuts.rest cut-apart f u in
            omega (arith, here, ap (λ z. count z (numbers_of left)) (u.root_is ∙ same), root-among most new.nodes left p.fit p.inside p.some, left-count root, filled-count root, cut-apart root, count-append root (numbers_under cuts.tail cuts.above) mid.chain)

        pub cuts-front : CutsFront most old new root place root'
        cuts-front = let e = exchanged-freed root union s.root_is (behind-planted union s some cuts.rest cut-apart f u) all-freed in record {
          removed = rw (← behind-flat union s some cuts.rest cut-apart f u, ← left-sizes) (exchanged-changes e u.root_is all-freed.limit_is);
          account = record {
            given = gone ++ (f.freed ++ cuts.given);
            chain_is = all-freed.chain_is;
            slots = all-freed.slots_are;
            memory_is = all-freed.memory_is;
            count_is = omega (
              arith,
              length-same ((gone ++ (f.freed ++ cuts.given)) ++ numbers_of left) (numbers_of whole) all-freed.numbers_are,
              length-append (gone ++ (f.freed ++ cuts.given)) (numbers_of left),
              nodes-count whole,
              nodes-count left ∙ ap (λ z. node_count z) left-sizes,
            );
          };
          same_root = (
            λ same. elim (eqb_tells size' size) [
              | inl w ↦ omega (arith, levels, w.1, u.size_is, s.stands.size_is)
              | inr w ↦ absurd (not-freed same (trimmed-root.old_root w.1))
            ],
            λ same. trimmed-root.same_root (omega (arith, same, levels, u.size_is, s.stands.size_is)),
          );
          freed_root = λ ne. elim (eqb_tells size' size) [
            | inl w ↦ absurd (ne (trimmed-root.same_root w.1))
            | inr w ↦ omega (arith, trimmed-root.old_root w.1, ap (count root) all-freed.chain_is, count-append root (gone ++ (f.freed ++ cuts.given)) old.chain, count-append root gone (f.freed ++ cuts.given))
          ];
        }
