-- Cutting a whole tree at a path: what is left of it once roots with a single child are discarded.
use Rattle.bforest_core.proofs.Words.{◌≡◌, ◌≢◌, ℕ, suc, ◌+◌, ◌-◌, ◌≤◌, ◌<◌, ◌↔◌, Option, None, Some, IfSome, List, [], ◌∷◌, ◌++◌, map, length, take, get_or, refl, sym, ap, subst, ◌∙◌, arith}
use Rattle.bforest_core.proofs.Words.{inl, inr, eqb_tells, length-append, length-map, length-take-le, flat_map, flat_map-append, Rows, StandsAbove, StandsTo, StandsUnder, IsUnion, Table, Tree, tree_of}
use Rattle.bforest_core.proofs.Words.{leaf_content, slice_get, FitRow, Row, Stacked, Frees, Trimmed, root_above, UpTo, count, flat, half_of, heads, node_count, numbers, numbers_of, numbers_under, sizes, sizes_of, trimmed, OnEntry, Path}
use Rattle.bforest_core.proofs.removal.{Collapse.{length-sizes, rows-parts, trimmed-is}, Removal.{place_low}}
use Rattle.bforest_core.proofs.rows.{LevelRows.some_leaf, Tops.root-stands}
use Rattle.bforest_core.proofs.table.{Tables.{count-append, row-same, rows-same}, Trading.{frees-then, trades-wider}}
use Rattle.bforest_core.proofs.union.{Account.{length-same, nodes-count}, Exchange.IsPlanted, Forests.root-among, Fronts.{fit-front, flat-front, heads-front, height-fronts, length-front, numbers-none, root-fronts, sizes-front, sizes-fronts, some-front, stacked-fronts}, Roots.{exchanged-changes, exchanged-freed, uprooted-union}, Unions.{Rooted, is-rooted, rooted}}
use Rattle.bforest_core.proofs.walks.{RowNodes.fit_full, Whole.whole_under}
use Rattle.bforest_core.specs.{Change.{Changes, Ends, GivesNodes}, Cut.{LeavesFront, OnBranch, front_row, front_rows}, Paths.{CutsHere}, Sizes.{fronts, truncated}}

-- a path that leads to the root, from any level up
stands-to : {K : Type 0} (path indices : List ℕ) (level : ℕ) (rows : Rows K) (place : ℕ) → StandsAbove path indices level rows place → StandsTo path indices level rows place 0
stands-to path indices level [] place s = s
stands-to path indices level (row ∷ rows) place s = (s.0, stands-to path indices (suc level) rows (length s.0.before) s.1)

module _ {K V : Type 0} where
  -- what a cut leaves of the tree under a root
  pub record CutSaid (most : ℕ) (old new : Table K V) (root place : ℕ) (result : Option ℕ) : Type 0 where
    pub removed : IfSome result (λ root'. Changes most old new root root' (take place (flat (tree_of old.nodes root).leaves)) (truncated place (sizes_of (tree_of old.nodes root))))
    pub account : GivesNodes (sizes_of (tree_of old.nodes root)) (truncated place (sizes_of (tree_of old.nodes root))) old new
    pub same_root : IfSome result (λ root'. (root' ≡ root) ↔ (length (truncated place (sizes_of (tree_of old.nodes root))) ≡ length (sizes_of (tree_of old.nodes root))))
    pub first : (result ≡ None) ↔ (place ≡ 0)
    pub ended : result ≡ None → Ends most old new root
    pub none_left : result ≡ None → truncated place (sizes_of (tree_of old.nodes root)) ≡ []
    pub freed_root : result ≢ Some root → 0 < count root new.chain

  module _ {most : ℕ} {old : Table K V} {root place : ℕ} {path indices : List ℕ} {size : ℕ} (union : IsUnion most old) (s : StandsUnder old.nodes root path indices size place) where
    abbrev pub tree : Tree K V
    tree = tree_of old.nodes root

    pub r : Rooted most old root tree
    r = rooted most old root union s.root_is

    pub path-top : get_or path (size - 1) 0 ≡ root
    path-top = sym (root-stands r.fit s.stands) ∙ r.root_is

    pub branch : {top : ℕ} → top ≡ root → OnBranch most old path indices (size - 1) top tree.leaves tree.above place
    branch {top} is = let w = whole_under (is-rooted root union s.root_is) in rw is (record {
      first = w.0;
      under = w.1;
      leaf = s.stands.leaf;
      up = stands-to path indices 1 tree.above (length s.stands.leaf.before) s.stands.above;
      height = omega (arith, s.stands.size_is);
      apart = r.apart;
    })

    pub height-low : (0 < size) × (size ≤ 17)
    height-low = (omega (arith, s.stands.size_is), omega (arith, s.stands.size_is, r.low))

    pub low : place < length (flat tree.leaves)
    low = place_low path indices size tree place s.stands

    module _ {mid : Table K V} (cuts : LeavesFront old mid tree.leaves tree.above place) where
      nothing : place ≡ 0 → (m : ℕ) → count m (numbers_under (front_row place tree.leaves) (front_rows (length (front_row place tree.leaves)) tree.above)) ≡ 0
      nothing none m = ap (λ z. count m (numbers_under (front_row z tree.leaves) (front_rows (length (front_row z tree.leaves)) tree.above))) none ∙ ap (count m) (numbers-none tree.above)

      -- nothing is left
      pub cut-none : place ≡ 0 → CutSaid most old mid root place None
      cut-none none =
          let gone : Frees old mid (numbers_of tree) [] cuts.given = trades-wider (numbers_of tree) [] (λ m. omega (arith, nothing none m)) cuts.frees in
          let u = uprooted-union most root union s.root_is gone in let empty : truncated place (sizes_of tree) ≡ [] = ap (λ z. truncated z (sizes_of tree)) none in
          let among = root-among most old.nodes tree r.fit r.inside r.some in
          record {
            removed = tt;
            account = record {
              given = cuts.given;
              chain_is = gone.chain_is;
              slots = gone.slots_are;
              memory_is = gone.memory_is;
              count_is = omega (arith, length-same (cuts.given ++ []) (numbers_of tree) gone.numbers_are, length-append cuts.given [], nodes-count tree, ap node_count empty);
            };
            same_root = tt;
            first = (λ e. none, λ e. refl);
            ended = λ e. record { union = u.0; root_gone = u.1; others = u.2; limit_is = gone.limit_is };
            none_left = λ e. empty;
            freed_root = λ ne. omega (arith, ap (λ z. count z (numbers_of tree)) r.root_is, gone.numbers_are root, ap (count root) gone.chain_is, count-append);
          }

    -- the first entries are left
    module _ (some : 0 < place) where
      abbrev pub leaves : Row K V
      leaves = front_row place tree.leaves

      abbrev pub rows : Rows K
      rows = front_rows (length leaves) tree.above

      pub half : 1 ≤ half_of most
      half = some_leaf union.1.capacity

      pub leaves-fit : FitRow (half_of most) most leaves
      leaves-fit = fit-front (half_of most) most half tree.leaves place r.fit.leaves_fit

      pub kept-some : 0 < length leaves
      kept-some = some-front tree.leaves place some (omega (arith, low))

      pub kept-low : length leaves ≤ length (heads tree.leaves)
      kept-low = omega (arith, length-front tree.leaves place, fit_full (half_of most) most half tree.leaves r.fit.leaves_fit)

      pub heads-are : heads leaves ≡ take (length leaves) (heads tree.leaves)
      heads-are = heads-front (half_of most) most half tree.leaves place r.fit.leaves_fit

      pub stacked : Stacked (heads leaves) rows
      stacked = rw heads-are (stacked-fronts (heads tree.leaves) tree.above (length leaves) kept-some kept-low r.fit.stacked)

      pub sizes-are : fronts place (sizes_of tree) ≡ sizes leaves ∷ map sizes rows
      sizes-are = let here = sizes-front tree.leaves place in let len = length-sizes leaves in
          cc (here, len, sizes-fronts tree.above (length leaves))

      -- what is left is in the table
      module _ {mid : Table K V} (cuts : LeavesFront old mid tree.leaves tree.above place) where
        pub cut-up : {top : ℕ} → top ≡ root → UpTo mid size rows (heads leaves) top
        cut-up is = rw is (record {
          stacked = stacked;
          inside = cuts.rows_in;
          height = omega (arith, s.stands.size_is, height-fronts tree.above (length leaves));
          root_is = ap (λ z. root_above z rows) heads-are ∙ root-fronts (heads tree.leaves) tree.above (length leaves) kept-some kept-low r.fit.stacked ∙ r.root_is;
          apart = λ m. omega (arith, r.apart m, cuts.frees.numbers_are m, ap (count m) cuts.frees.chain_is, count-append);
        })

        -- once roots with a single child are discarded
        module _ {new : Table K V} {size' root' : ℕ} {gone : List ℕ} (t : Trimmed mid new size size' rows (heads leaves) root root' gone) where
          abbrev left : Tree K V
          left = record { leaves = leaves; above = t.rows' }

          parts : (m : ℕ) → count m (flat_map numbers rows) ≡ count m (flat_map numbers t.rows') + count m (flat_map numbers t.discarded)
          parts m = omega (arith, ap (λ z. count m (flat_map numbers z)) t.rows_are, ap (count m) (flat_map-append numbers t.rows' t.discarded), count-append m (flat_map numbers t.rows') (flat_map numbers t.discarded))

          frees : Frees old new (numbers_of tree) (numbers_of left) (gone ++ cuts.given)
          frees = frees-then (numbers_of tree) (numbers_of left)
              (λ m. omega (arith, parts m, count-append m (numbers leaves) (flat_map numbers t.rows'), count-append m (numbers leaves) (flat_map numbers rows))) r.apart cuts.frees t.frees

          kept-slot : (m : ℕ) → 0 < count m (numbers leaves) + count m (flat_map numbers t.rows') → slice_get new.nodes m ≡ slice_get mid.nodes m
          kept-slot m some = t.frees.others m (omega (arith, parts m, r.apart m, cuts.frees.numbers_are m, count-append))

          flat-is : flat leaves ≡ take place (flat tree.leaves)
          flat-is = flat-front tree.leaves place

          planted : IsPlanted most new.nodes left
          planted = record {
            fit = record { leaves_fit = leaves-fit; stacked = t.stacked; topped = t.topped };
            inside = record {
              leaves_in = row-same leaf_content mid.nodes new.nodes leaves (λ m some. kept-slot m (omega arith)) cuts.leaves_in;
              rows_in = rows-same mid.nodes new.nodes t.rows' (λ m some. kept-slot m (omega arith)) (rows-parts mid.nodes t.rows' t.discarded (rw (← t.rows_are) cuts.rows_in)).0;
            };
            some = omega (arith, ap length flat-is, length-take-le place (flat tree.leaves) (omega (arith, low)));
            low = omega (arith, ap length t.rows_are, length-append t.rows' t.discarded, height-fronts tree.above (length leaves), r.low);
          }

          cut-is : sizes_of left ≡ truncated place (sizes_of tree)
          cut-is = let len = length-sizes leaves ∙ sym (fit_full (half_of most) most half leaves leaves-fit) in
              let trim = trimmed-is (sizes leaves) (heads leaves) t.rows' t.discarded len (rw (← t.rows_are) stacked) t.stacked t.topped in
              sym (ap trimmed sizes-are ∙ ap (λ z. trimmed (sizes leaves ∷ map sizes z)) t.rows_are ∙ trim)

          -- a root that is left was not freed
          not-freed : root' ≡ root → 0 < count root gone → ⊥
          not-freed same w = let among = root-among most new.nodes left planted.fit planted.inside planted.some in omega (
            arith,
            w,
            among,
            ap (λ z. count z (numbers_of left)) (t.root_is ∙ same),
            frees.numbers_are root,
            r.apart root,
            count-append root gone cuts.given,
            count-append root (gone ++ cuts.given) (numbers_of left),
            count-append root (numbers_of tree) old.chain,
          )

          cut-some : CutSaid most old new root place (Some root')
          cut-some = let e = exchanged-freed root union s.root_is planted frees in
              let levels : length (truncated place (sizes_of tree)) ≡ suc (length t.rows') = omega (arith, ap length cut-is, length-map t.rows' sizes) in
              let levels-were : length (sizes_of tree) ≡ suc (length tree.above) = omega (arith, length-map tree.above sizes) in
              record {
                removed = rw (← flat-is, ← cut-is) (exchanged-changes e t.root_is frees.limit_is);
                account = record {
                  given = gone ++ cuts.given;
                  chain_is = frees.chain_is;
                  slots = frees.slots_are;
                  memory_is = frees.memory_is;
                  count_is = omega (arith, length-same ((gone ++ cuts.given) ++ numbers_of left) (numbers_of tree) frees.numbers_are, length-append (gone ++ cuts.given) (numbers_of left), nodes-count tree, nodes-count left ∙ ap (λ z. node_count z) cut-is);
                };
                same_root = (
                  λ same. elim (eqb_tells size' size) [
                    | inl w ↦ omega (arith, levels, levels-were, t.size_is, s.stands.size_is)
                    | inr w ↦ absurd (not-freed same (t.old_root w.1))
                  ],
                  λ same. t.same_root (omega (arith, same, levels, levels-were, t.size_is, s.stands.size_is)),
                );
                first = (λ is. absurd cc, λ is. absurd (omega (arith, is, some)));
                ended = λ is. absurd cc;
                none_left = λ is. absurd cc;
                freed_root = λ ne. elim (eqb_tells size' size) [
                  | inl w ↦ absurd (ne (ap Some (t.same_root w.1)))
                  | inr w ↦ omega (arith, t.old_root w.1, ap (count root) frees.chain_is, count-append root (gone ++ cuts.given) old.chain, count-append root gone cuts.given)
                ];
              }

        pub cut-left : {new : Table K V} {size' root' top : ℕ} {gone : List ℕ} → top ≡ root → Trimmed mid new size size' rows (heads leaves) top root' gone → CutSaid most old new root place (Some root')
        cut-left {new} {size'} {root'} {gone = gone} is t = cut-some (subst (λ z. Trimmed mid new size size' rows (heads leaves) z root' gone) is t)

  -- what is said of a cut, at each entry where the path stands
  pub cuts-here : {most : ℕ} {old new : Table K V} {path path' : Path K V most} {result : Option ℕ} →
      ((at : OnEntry old path) → CutSaid most old new at.root at.place result) → path'.size ≡ 0 → CutsHere old new path path' result
  cuts-here said end = record {
    removed = λ at. (said at).removed;
    account = λ at. (said at).account;
    same_root = λ at. (said at).same_root;
    first = λ at. (said at).first;
    ended = λ none at. (said at).ended none;
    none_left = λ none at. (said at).none_left none;
    freed_root = λ at. (said at).freed_root;
    end = end;
  }
