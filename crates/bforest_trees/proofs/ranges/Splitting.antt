-- What a split of a tree in two at a place answers and leaves.
use Rattle.bforest_core.proofs.{Words.{nil_from_length}, removal.Collapse.{length-sizes}, rows.LevelRows.{least-pos, some_leaf}, table.Allocating.{grows-alike, grows-not, reserved-free}, table.Chains.{length-fresh_nodes}}
use Rattle.bforest_core.proofs.union.{Backs.{back-on}, Fronts.{sizes-in, sizes-on}, Unions.{rooted}}
use Rattle.bforest_core.proofs.walks.RowNodes.{fit_full}
use Rattle.bforest_core.specs.Change.{Divides, KeepsTrees, node_count, severed}
use Rattle.bforest_core.specs.Detach.{row_sizes}
use Rattle.bforest_core.specs.Levels.{FitRow, LevelNode, Stacked, flat, half_of, heads, node, sizes, sizes_of as tree_sizes}
use Rattle.bforest_core.specs.Paths.{DetachesHere, IsAtEnd, OnEntry, StandsOn, list_under, sizes_under}
use Rattle.bforest_core.specs.Place.{Stands}
use Rattle.bforest_core.specs.declared.path.Path.{Path}
use Rattle.bforest_core.specs.Sizes.{IsFitFor, back, backs, detached, filled_levels, front, fronts, trimmed, truncated}
use Rattle.bforest_core.specs.Table.{fresh_nodes, front_of, reserved}
use Rattle.bforest_core.specs.Trees.{IsUnion, is_root, tree_of}
use Rattle.bforest_core.specs.declared.pool.OutOfMemory.TheVariants.{Full, Memory}
use Rattle.bforest_core.specs.declared.pool.OutOfMemory.{OutOfMemory}
use Rattle.bforest_trees.proofs.Changed.{keeps, list-none, list-root, live-empty, live-root, root-live, same_list, same_sizes, sizes-none, sizes-root}
use Rattle.bforest_trees.proofs.Cutting.{truncation-some}
use Rattle.bforest_trees.proofs.Fits.{fit-at}
use Rattle.bforest_trees.proofs.Spots.{spot-in, spot-on}
use Rattle.bforest_trees.specs.Calls.{SameLevels, SplitsAt, truncation}
use Rattle.bforest_trees.specs.Place.{AtSpot}
use Rattle.bforest_trees.specs.Forest.{Forest, GrowsFor, Keeps, IsLive, IsTooMany, NeedsGrowth, free_of, list_at, list_of, sizes_at, sizes_of}
use Rattle.std.proofs.Common.{inl, inr, Err, IsTrue, List, None, Ok, Option, Some, [], ap, arith, drop, length, length-append, map, refl, subst, suc, sym, take, zero, ◌+◌, ◌++◌, ◌-◌, ◌<◌, ◌≤◌, ◌↔◌, ◌∙◌, ◌∷◌, ◌≡◌, ◌≢◌, ℕ, Bool, false, not}
use Rattle.std.specs.Option.{is_some}
use Rattle.std.proofs.lemmas.List.Sums.{sum_by-cons}
use Rattle.std.proofs.lemmas.Bool.{cases_lt, false≢true}
use Rattle.std.proofs.lemmas.List.{drop_all, take_all}

module _ {K X : Type 0} where
  -- all nodes of a row are in front of its end
  front-all : (half most : ℕ) → 1 ≤ half → (row : List (LevelNode K X)) → FitRow half most row → front (length (flat row)) (sizes row) ≡ sizes row
  front-all half most one [] f = refl
  front-all half most one (node n es ∷ []) f = let some = f.0 in let all : length (flat (node n es ∷ [])) ≡ length es = length-append es [] ∙ (let none : length es + 0 ≡ length es = omega arith in none) in
      ap (λ z. front z (length es ∷ [])) all ∙ sizes-in (length es) (length es) [] (omega (arith, some)) (omega arith)
  front-all half most one (node n es ∷ (node m fs ∷ row)) f =
      let all = length-append es (flat (node m fs ∷ row)) in let some = length-append fs (flat row) in
      sizes-on (length (flat (node n es ∷ (node m fs ∷ row)))) (length es) (length fs ∷ sizes row) (omega (arith, all, some, f.2.0, least-pos half one row))
      ∙ ap (λ z. length es ∷ front z (length fs ∷ sizes row)) (let left : length (es ++ flat (node m fs ∷ row)) - length es ≡ length (flat (node m fs ∷ row)) = omega (arith, all) in left)
      ∙ ap (λ z. length es ∷ z) (front-all half most one (node m fs ∷ row) f.2)

  -- no node of a row is behind its end
  back-all : (half most : ℕ) → 1 ≤ half → (row : List (LevelNode K X)) → FitRow half most row → back (length (flat row)) (sizes row) ≡ []
  back-all half most one [] f = refl
  back-all half most one (node n es ∷ row) f = let all = length-append es (flat row) in
      back-on (length (flat (node n es ∷ row))) (length es) (sizes row) (omega (arith, all, f.0, least-pos half one row)) (omega (arith, all))
      ∙ ap (λ z. back z (sizes row)) (let left : length (es ++ flat row) - length es ≡ length (flat row) = omega (arith, all) in left) ∙ back-all half most one row f.2

module _ {K : Type 0} where
  fronts-all : (list : List (K × ℕ)) (rows : List (List (LevelNode K ℕ))) → Stacked list rows → fronts (length list) (map sizes rows) ≡ map sizes rows
  fronts-all list [] s = refl
  fronts-all list (row ∷ rows) s =
      let here = ap (λ z. front (length z) (sizes row)) (sym s.0) ∙ front-all 4 8 (omega arith) row s.1 in
      let next : length (front (length list) (sizes row)) ≡ length (heads row) = omega (arith, ap length here, length-sizes row, fit_full 4 8 (omega arith) row s.1) in
      cc (here, ap (λ z. fronts z (map sizes rows)) next, fronts-all (heads row) rows s.2)

  backs-all : (list : List (K × ℕ)) (rows : List (List (LevelNode K ℕ))) → Stacked list rows → node_count (backs (length list) (map sizes rows)) ≡ 0
  backs-all list [] s = refl
  backs-all list (row ∷ rows) s =
      let here = ap (λ z. back (length z) (sizes row)) (sym s.0) ∙ back-all 4 8 (omega arith) row s.1 in
      let next : length (sizes row) - length (back (length list) (sizes row)) ≡ length (heads row) = omega (arith, ap length here, length-sizes row, fit_full 4 8 (omega arith) row s.1) in
      omega (
        arith,
        sum_by-cons (λ (z : List ℕ). length z) (back (length list) (sizes row)) (backs (length (sizes row) - length (back (length list) (sizes row))) (map sizes rows)),
        ap length here,
        ap (λ z. node_count (backs z (map sizes rows))) next,
        backs-all (heads row) rows s.2,
      )

-- nothing is behind the place on the lowest level
detached-none : (most n : ℕ) (level : List ℕ) (levels : List (List ℕ)) → 0 < n → back n level ≡ [] → detached most n (level ∷ levels) ≡ []
detached-none most zero level levels some none = absurd (omega (arith, some))
detached-none most (suc n) level levels some none = ap (λ z. trimmed (filled_levels most (z ∷ backs (length level - length z) levels))) none

module _ {K X : Type 0} (most : ℕ) (leaves : List (LevelNode K X)) (above : List (List (LevelNode K ℕ))) (one : 1 ≤ half_of most) (fit : FitRow (half_of most) most leaves) (stacked : Stacked (heads leaves) above) where
  severed-all : severed (length (flat leaves)) (row_sizes leaves above) ≡ 0
  severed-all =
      let full = fit_full (half_of most) most one leaves fit in let ahead = front-all (half_of most) most one leaves fit in let none = back-all (half_of most) most one leaves fit in
      let next : length (front (length (flat leaves)) (sizes leaves)) ≡ length (heads leaves) = omega (arith, ap length ahead, length-sizes leaves, full) in
      let last : length (sizes leaves) - length (back (length (flat leaves)) (sizes leaves)) ≡ length (heads leaves) = omega (arith, ap length none, length-sizes leaves, full) in
      let whole : fronts (length (flat leaves)) (row_sizes leaves above) ≡ row_sizes leaves above = cc (ahead, ap (λ z. fronts z (map sizes above)) next, fronts-all (heads leaves) above stacked) in
      let nothing : node_count (backs (length (flat leaves)) (row_sizes leaves above)) ≡ 0 = omega (
        arith,
        sum_by-cons (λ (z : List ℕ). length z) (back (length (flat leaves)) (sizes leaves)) (backs (length (sizes leaves) - length (back (length (flat leaves)) (sizes leaves))) (map sizes above)),
        ap length none,
        ap (λ z. node_count (backs z (map sizes above))) last,
        backs-all (heads leaves) above stacked,
      ) in
      omega (arith, ap node_count whole, nothing)

  detached-all : 0 < length (flat leaves) → detached most (length (flat leaves)) (row_sizes leaves above) ≡ []
  detached-all some = detached-none most (length (flat leaves)) (sizes leaves) (map sizes above) some (back-all (half_of most) most one leaves fit)

truncated-none : (levels : List (List ℕ)) → truncated 0 levels ≡ []
truncated-none [] = refl
truncated-none (level ∷ levels) = refl

above-none : {A : Type 0} (es : List A) → es ≢ [] → 0 < length es - 0
above-none [] some = absurd (some refl)
above-none (e ∷ es) some = omega arith

module _ {K X : Type 0} {most : ℕ} (f : Forest K X) (union : IsUnion most f) where
  -- the sizes of a handle's tree are fit for its list
  fits : (h : Option ℕ) → IsFitFor most (length (list_of f h)) (sizes_of f h)
  fits None = refl
  fits (Some n) = fit-at most f union n

  -- a live handle of no entry is empty
  empty-of : (h : Option ℕ) → IsLive f h → length (list_of f h) ≡ 0 → h ≡ None
  empty-of h live none = live-empty f h live (nil_from_length (list_of f h) none)

  -- no node is in front of all entries
  whole-sizes : (h : Option ℕ) → IsLive f h → [] ≡ truncation 0 (length (list_of f h) - 0) (sizes_of f h)
  whole-sizes None live = refl
  whole-sizes (Some n) live = sym (truncation-some 0 (length (list_at f n) - 0) (sizes_at f n) (above-none (list_at f n) live) ∙ truncated-none (sizes_at f n))

  -- a live handle has a level exactly where it is not empty
  whole-levels : (h : Option ℕ) → IsLive f h → SameLevels f h f None
  whole-levels None live = (λ z. refl, λ z. refl)
  whole-levels (Some n) live = (λ bad. absurd (cc), λ none. absurd (omega (arith, none, ap length (sizes-root f n (live-root f n live)))))

  -- at the end of a list nothing is to be split
  pub end-sizes : (h : Option ℕ) → IsLive f h → (severed (length (list_of f h)) (sizes_of f h) ≡ 0) × (detached most (length (list_of f h)) (sizes_of f h) ≡ [])
  end-sizes None live = (refl, refl)
  end-sizes (Some n) live = let root = live-root f n live in let r = rooted most f n union root in let one = some_leaf union.1.capacity in
      rw (list-root f n root, sizes-root f n root) (
        severed-all most (tree_of f.nodes n).leaves (tree_of f.nodes n).above one r.fit.leaves_fit r.fit.stacked,
        detached-all most (tree_of f.nodes n).leaves (tree_of f.nodes n).above one r.fit.leaves_fit r.fit.stacked r.some,
      )

  -- no entry goes
  pub splits-end : (h : Option ℕ) (p : ℕ) → IsLive f h → p ≡ length (list_of f h) → SplitsAt most f h p (Ok None) f h
  splits-end h p live is = rw is (let e = end-sizes h live in record {
    front = sym (take_all (length (list_of f h)) (list_of f h) (omega arith));
    tail = sym (drop_all (length (list_of f h)) (list_of f h) (omega arith));
    sizes = (let none : length (list_of f h) - length (list_of f h) ≡ 0 = omega arith in sym (ap (λ n. truncation (length (list_of f h)) n (sizes_of f h)) none));
    tail_sizes = sym e.1;
    same_levels = (λ z. refl, λ z. refl);
    live = live;
    tail_live = tt;
    fit = fits h;
    tail_fit = refl;
    apart = λ z. refl;
    leaves = λ ne ne'. absurd (ne refl);
    leaves_sizes = λ ne ne'. absurd (ne refl);
    fresh = λ ne. absurd (ne refl);
    fresh_sizes = λ ne. absurd (ne refl);
    tail_fresh = λ ne. refl;
    tail_fresh_sizes = λ ne. refl;
    others = λ n a b c. refl;
    others_sizes = λ n a b c. refl;
    limit = refl;
    slots = omega (arith, e.0);
    free = omega (arith, e.0);
    growth = grows-not refl;
    few = omega (arith, e.0);
    full = (λ bad. absurd (cc), λ low. absurd (omega (arith, low, e.0)));
    memory = λ bad. absurd (cc);
    enough = λ z. refl;
    whole = λ zero_is. (let none = empty-of h live zero_is in (ap Ok (sym none), refl, none));
    none = λ low. refl;
    none_forest = λ z. refl;
    none_handle = λ z. refl;
    refused_forest = tt;
    refused_handle = tt;
  })

  -- all entries go
  pub splits-whole : (h : Option ℕ) (p : ℕ) → IsLive f h → p ≡ 0 → severed p (sizes_of f h) ≡ 0 → SplitsAt most f h p (Ok h) f None
  splits-whole h p live is bare = subst (λ z. SplitsAt most f h z (Ok h) f None) (sym is) (let none : severed 0 (sizes_of f h) ≡ 0 = subst (λ z. severed z (sizes_of f h) ≡ 0) is bare in record {
    front = refl;
    tail = refl;
    sizes = whole-sizes h live;
    tail_sizes = refl;
    same_levels = whole-levels h live;
    live = tt;
    tail_live = live;
    fit = refl;
    tail_fit = fits h;
    apart = λ z. z;
    leaves = λ ne ne'. absurd (ne' refl);
    leaves_sizes = λ ne ne'. absurd (ne' refl);
    fresh = λ ne. refl;
    fresh_sizes = λ ne. refl;
    tail_fresh = λ ne. absurd (ne refl);
    tail_fresh_sizes = λ ne. absurd (ne refl);
    others = λ n a b c. refl;
    others_sizes = λ n a b c. refl;
    limit = refl;
    slots = omega (arith, none);
    free = omega (arith, none);
    growth = grows-not refl;
    few = omega (arith, none);
    full = (λ bad. absurd (cc), λ low. absurd (omega (arith, low, none)));
    memory = λ bad. absurd (cc);
    enough = λ z. refl;
    whole = λ z. (refl, refl, refl);
    none = λ low. ap Ok (empty-of h live (omega (arith, low)));
    none_forest = λ z. refl;
    none_handle = λ z. (let e : h ≡ None = cc in sym e);
    refused_forest = tt;
    refused_handle = tt;
  })

  -- the call was refused
  pub splits-refused : (h : Option ℕ) (p : ℕ) (refused : OutOfMemory) → IsLive f h → p ≢ 0 → p < length (list_of f h) → severed p (sizes_of f h) ≤ length (sizes_of f h) → ((refused ≡ Full) ↔ IsTooMany (severed p (sizes_of f h)) f) →
      (refused ≡ Memory → NeedsGrowth (severed p (sizes_of f h)) f) → (severed p (sizes_of f h) ≤ free_of f → ⊥) → SplitsAt most f h p (Err refused) f h
  splits-refused h p refused live some low few full memory scarce = record {
    front = tt;
    tail = tt;
    sizes = tt;
    tail_sizes = tt;
    same_levels = tt;
    live = live;
    tail_live = tt;
    fit = tt;
    tail_fit = tt;
    apart = tt;
    leaves = tt;
    leaves_sizes = tt;
    fresh = λ ne. absurd (ne refl);
    fresh_sizes = λ ne. absurd (ne refl);
    tail_fresh = λ ne. tt;
    tail_fresh_sizes = λ ne. tt;
    others = tt;
    others_sizes = tt;
    limit = refl;
    slots = tt;
    free = tt;
    growth = tt;
    few = few;
    full = (λ e. full.0 (cc), λ low. ap Err (full.1 low));
    memory = λ e. memory (cc);
    enough = λ many. absurd (scarce many);
    whole = λ z. absurd (some z);
    none = λ over. absurd (omega (arith, over, low));
    none_forest = λ bad. absurd (cc);
    none_handle = λ bad. absurd (cc);
    refused_forest = refl;
    refused_handle = refl;
  }

-- a tree was divided, once enough nodes were free
module _ {K X : Type 0} {most : ℕ} {f g f' : Forest K X} {n p need front behind : ℕ} (root : IsTrue (is_root f.nodes n)) (kept : KeepsTrees f.nodes g.nodes) (is : g ≡ reserved f need g.memory) (grown : GrowsFor need f g)
    (d : Divides most g f' n p front behind) (low : p < length (list_under f n)) (some : 0 < p) (need_is : need ≡ severed p (sizes_under f n)) (few : need ≤ length (sizes_under f n)) (roomy : ¬ IsTooMany need f) where
  tree : tree_of g.nodes n ≡ tree_of f.nodes n
  tree = (kept n).1 root

  list : list_under g n ≡ list_at f n
  list = ap (λ z. flat z.leaves) tree ∙ sym (list-root f n root)

  shape : sizes_under g n ≡ sizes_at f n
  shape = ap tree_sizes tree ∙ sym (sizes-root f n root)

  needed : severed p (sizes_at f n) ≡ need
  needed = ap (severed p) (sizes-root f n root) ∙ sym need_is

  heights : (length (sizes_at f' front) ≡ length (truncated p (sizes_under g n))) × (length (sizes_under g n) ≡ length (sizes_at f n))
  heights = (ap length (sizes-root f' front d.front_root ∙ d.front_sizes), ap length shape)

  stays : Keeps f g
  stays = keeps f g kept (ap (λ z. z.limit) is)

  pub splits-parted : SplitsAt most f (Some n) p (Ok (Some behind)) f' (Some front)
  splits-parted = record {
    front = list-root f' front d.front_root ∙ d.front_list ∙ ap (take p) list;
    tail = list-root f' behind d.behind_root ∙ d.behind_list ∙ ap (drop p) list;
    sizes = sizes-root f' front d.front_root ∙ d.front_sizes ∙ ap (truncated p) shape ∙ sym (truncation-some p (length (list_at f n) - p) (sizes_at f n) (omega (arith, low, ap length (list-root f n root))));
    tail_sizes = sizes-root f' behind d.behind_root ∙ d.behind_sizes ∙ ap (detached most p) shape;
    same_levels = (
      λ e. let same : front ≡ n = cc in omega (arith, d.same_root.0 same, heights),
      λ e. ap Some (d.same_root.1 (omega (arith, e, heights))),
    );
    live = root-live most f' front d.union d.front_root;
    tail_live = root-live most f' behind d.union d.behind_root;
    fit = fit-at most f' d.union front;
    tail_fit = fit-at most f' d.union behind;
    apart = λ e. absurd (d.apart (cc));
    leaves = λ ne ne'. list-none f' n (d.old_gone (λ e. ne (ap Some e)));
    leaves_sizes = λ ne ne'. sizes-none f' n (d.old_gone (λ e. ne (ap Some e)));
    fresh = λ ne. sym (stays.lists front) ∙ list-none g front (d.front_came (λ e. ne (ap Some (sym e))));
    fresh_sizes = λ ne. sym (stays.sizes front) ∙ sizes-none g front (d.front_came (λ e. ne (ap Some (sym e))));
    tail_fresh = λ ne. sym (stays.lists behind) ∙ list-none g behind d.behind_came;
    tail_fresh_sizes = λ ne. sym (stays.sizes behind) ∙ sizes-none g behind d.behind_came;
    others = λ m a b c. same_list g f' m (d.others m (λ e. a (ap Some e)) (λ e. b (ap Some e)) (λ e. c (ap Some e))) ∙ stays.lists m;
    others_sizes = λ m a b c. same_sizes g f' m (d.others m (λ e. a (ap Some e)) (λ e. b (ap Some e)) (λ e. c (ap Some e))) ∙ stays.sizes m;
    limit = d.limit_is ∙ ap (λ z. z.limit) is;
    slots = omega (
      arith,
      d.slots,
      ap (λ z. length z.nodes) is,
      length-append f.nodes (fresh_nodes (length f.nodes) (need - length f.chain) (front_of f.chain)),
      length-fresh_nodes K X (length f.nodes) (need - length f.chain) (front_of f.chain),
      needed,
    );
    free = omega (
      arith,
      d.free,
      ap (λ z. length z.chain) is,
      reserved-free f need g.memory,
      needed,
      ap node_count (sizes-root f' front d.front_root),
      ap node_count (sizes-root f' behind d.behind_root),
      ap node_count shape,
    );
    growth = subst (λ z. GrowsFor z f f') (sym needed) (grows-alike d.memory_is grown);
    few = omega (arith, few, needed, ap length (sizes-root f n root));
    full = (λ bad. absurd (cc), λ short. absurd (roomy (subst (λ z. IsTooMany z f) needed short)));
    memory = λ bad. absurd (cc);
    enough = λ z. refl;
    whole = λ z. absurd (omega (arith, z, some));
    none = λ over. absurd (omega (arith, over, low, ap length (list-root f n root)));
    none_forest = λ bad. absurd (cc);
    none_handle = λ bad. absurd (cc);
    refused_forest = tt;
    refused_handle = tt;
  }

-- a tail that is not all of the tree has a number that was no root
module _ {K X : Type 0} {most : ℕ} {f f' : Forest K X} {h h' t : Option ℕ} {p : ℕ} (s : SplitsAt most f h p (Ok t) f' h') where
  some-front : t ≢ h → p ≢ 0
  some-front ne zero_is = ne (let whole : Ok t ≡ Ok h = (s.whole zero_is).0 in let same : t ≡ h = cc in same)

  pub tail-fresh : t ≢ h → list_of f t ≡ []
  tail-fresh ne = s.tail_fresh (some-front ne)

  pub tail-fresh-sizes : t ≢ h → sizes_of f t ≡ []
  tail-fresh-sizes ne = s.tail_fresh_sizes (some-front ne)

-- a path of which a leaf is told is not at the end
pub not-end : {A : Type 0} {end : Type 0} {leaf : Option A} {none : Bool} → (end → leaf ≡ None) → is_some leaf ≡ not none → none ≡ false → end → ⊥
not-end ended told said at = false≢true (sym (ap is_some (ended at)) ∙ told ∙ ap not said)

-- a path that stands on an entry
module _ {K X : Type 0} {most : ℕ} {f : Forest K X} {h : Option ℕ} {path : Path K X most} (union : IsUnion most f) (live : IsLive f h) (at : AtSpot f h path) (on : IsAtEnd path → ⊥) where
  low-place : at.place < length (list_of f h)
  low-place = spot-in f path h at.place at.spot on

  pub site : (n : ℕ) × (h ≡ Some n) × StandsOn f n path at.place
  site = spot-on f path h at.place at.spot low-place

  abbrev pub entry : OnEntry f path
  entry = record { root = site.0; place = at.place; on = site.2 }

  module _ {need : ℕ} (counts : (t : Forest K X) → IsUnion most t → (e : OnEntry t path) → need ≡ severed e.place (sizes_under t e.root)) (first : (t : Forest K X) → IsUnion most t → (e : OnEntry t path) → (need ≡ 0) ↔ (e.place ≡ 0))
      (few : (t : Forest K X) → IsUnion most t → (e : OnEntry t path) → need ≤ length (sizes_under t e.root)) where
    shape-here : sizes_under f site.0 ≡ sizes_of f h
    shape-here = sym (sizes-root f site.0 site.2.root_is) ∙ ap (sizes_of f) (sym site.1)

    need-here : severed at.place (sizes_of f h) ≡ need
    need-here = sym (counts f union entry ∙ ap (severed at.place) shape-here)

    -- all entries go
    pub entry-whole : need ≡ 0 → SplitsAt most f h at.place (Ok h) f None
    entry-whole none = splits-whole f union h at.place live ((first f union entry).0 none) (need-here ∙ none)

    -- the nodes can't be had
    pub entry-refused : (refused : OutOfMemory) → need ≢ 0 → ((refused ≡ Full) ↔ IsTooMany need f) → (refused ≡ Memory → NeedsGrowth need f) → (need ≤ free_of f → ⊥) → SplitsAt most f h at.place (Err refused) f h
    entry-refused refused some full memory scarce = splits-refused f union h at.place refused live (λ z. some ((first f union entry).1 z)) low-place
        (omega (arith, need-here, few f union entry, ap length shape-here)) (subst (λ z. (refused ≡ Full) ↔ IsTooMany z f) (sym need-here) full) (λ e. subst (λ z. NeedsGrowth z f) (sym need-here) (memory e))
        (λ enough. scarce (omega (arith, need-here, enough)))

    pub first-some : need ≢ 0 → 0 < at.place
    first-some some = elim (cases_lt 0 at.place) [ inl more ↦ more | inr none ↦ absurd (some ((first f union entry).1 (omega arith))) ]

    -- they are free
    module _ {g : Forest K X} (some : need ≢ 0) (kept : KeepsTrees f.nodes g.nodes) where
      abbrev there : OnEntry g path
      there = record {
        root = site.0;
        place = at.place;
        on = record {
          root_is = subst (λ z. IsTrue z) (sym ((kept site.0).0)) site.2.root_is;
          stands = subst (λ z. Stands path.node path.entry path.size z at.place) (sym ((kept site.0).1 site.2.root_is)) site.2.stands;
        };
      }

      pub entry-asks : need ≤ length g.chain → (e : OnEntry g path) × (0 < e.place) × (severed e.place (sizes_under g e.root) ≤ length g.chain)
      entry-asks enough = (there, first-some some, omega (arith, enough, counts f union entry, ap (λ z. severed at.place (tree_sizes z)) ((kept site.0).1 site.2.root_is)))

      pub entry-union : {f' : Forest K X} {path' : Path K X most} {r : ℕ × ℕ} → DetachesHere g f' path path' r → IsUnion most f'
      entry-union d = (d.divided there (first-some some)).union

      -- the tree is divided
      pub entry-parted : {f' : Forest K X} {path' : Path K X most} {r : ℕ × ℕ} → g ≡ reserved f need g.memory → GrowsFor need f g → ¬ IsTooMany need f → DetachesHere g f' path path' r →
          SplitsAt most f h at.place (Ok (Some r.1)) f' (Some r.0)
      entry-parted {f'} {r = r} is grown roomy d = subst (λ z. SplitsAt most f z at.place (Ok (Some r.1)) f' (Some r.0)) (sym site.1)
          (splits-parted site.2.root_is kept is grown (d.divided there (first-some some)) (omega (arith, low-place, ap (λ z. length (list_of f z)) site.1, ap length (list-root f site.0 site.2.root_is))) (first-some some) (counts f union entry) (few f union entry) roomy)
