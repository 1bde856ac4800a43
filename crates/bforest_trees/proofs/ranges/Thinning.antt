-- Whole leaves behind a path's that went, one after another: what the loop of `remove_leaves` has done, and where it stops.
use Rattle.bforest_core.proofs.removal.Removing.{path-at}
use Rattle.bforest_core.proofs.rows.LevelRows.{flat-append, sizes-append}
use Rattle.bforest_core.proofs.rows.Zipper.{cut_same}
use Rattle.bforest_core.specs.Levels.{LevelNode, flat, node, sizes, sizes_of as tree_sizes}
use Rattle.bforest_core.specs.Paths.{IsAtEnd, OnEntry, leaf_of, RemovesNext, StandsOn}
use Rattle.bforest_core.specs.Sizes.{loss_above, trimmed, without_next}
use Rattle.bforest_core.specs.Trees.{IsUnion, tree_of}
use Rattle.bforest_core.specs.declared.path.Path.{Path}
use Rattle.bforest_nodes.specs.Entries.{IsIncreasing}
use Rattle.bforest_trees.proofs.Becoming.{becomes-both}
use Rattle.bforest_trees.proofs.Changed.{becomes, list-root, sizes-new, sizes-root}
use Rattle.bforest_trees.proofs.Cutting.{becomes-same, gives}
use Rattle.bforest_trees.proofs.ranges.Lowering.{lowers-both, lowers-by, lowers-none}
use Rattle.bforest_trees.proofs.Sifted.{without_next-fewer}
use Rattle.bforest_trees.proofs.Spots.{spot-in, spot-on}
use Rattle.bforest_trees.proofs.ranges.Between.{end-rises}
use Rattle.bforest_trees.proofs.ranges.Slices.{Rises}
use Rattle.bforest_trees.proofs.ranges.Counted.{all-append, index-at, not-past, split_same, total, total-cons, total-flat}
use Rattle.bforest_trees.specs.Bounds.{is_past_end}
use Rattle.bforest_trees.specs.Calls.{Lowers, leaf_index, without_leaves}
use Rattle.bforest_trees.specs.Forest.{Becomes, Forest, Gives, IsLive, list_of, sizes_of}
use Rattle.bforest_trees.specs.Place.{IsSpot}
use Rattle.bforest_trees.specs.Thinned.{NextWithin, Stops, Thinned}
use Rattle.std.proofs.Common.{List, None, Option, Some, [], ap, append_assoc, arith, false, length, length-append, map, refl, remove, subst, suc, sym, ◌++◌, ◌<◌, ◌∙◌, ◌∷◌, ◌≡◌, ◌≤◌, ℕ, inl, inr}
use Rattle.std.proofs.lemmas.List.Sums.{sum_by-append}
use Rattle.std.specs.Cmp.{IsTotalOrder}
use Rattle.std.specs.declared.cmp.Ordering.{Ordering}
use Rattle.std.specs.declared.ops.Bound.{Bound}

-- the lowest level stays where roots are discarded
trimmed-head : (before : List ℕ) (size : ℕ) (after : List ℕ) (levels : List (List ℕ)) → (left : List (List ℕ)) × (trimmed ((before ++ size ∷ after) ∷ levels) ≡ (before ++ size ∷ after) ∷ left)
trimmed-head [] size [] levels = ([], refl)
trimmed-head [] size (x ∷ after) levels = (trimmed levels, refl)
trimmed-head (b ∷ []) size after levels = (trimmed levels, refl)
trimmed-head (b ∷ c ∷ before) size after levels = (trimmed levels, refl)

-- the leaf behind one is taken out of the sizes
remove-next : (before : List ℕ) (size x : ℕ) (after : List ℕ) → remove (before ++ size ∷ x ∷ after) (suc (length before)) ≡ before ++ size ∷ after
remove-next [] size x after = refl
remove-next (b ∷ before) size x after = ap (λ z. b ∷ z) (remove-next before size x after)

module _ {K X : Type 0} {most : ℕ} {cmp : K → K → Ordering} {hi : Bound K} {f₀ : Forest K X} {h₀ : Option ℕ} {p : ℕ} where
  -- the path stands on an entry
  pub thin-on : {f : Forest K X} {h : Option ℕ} {path : Path K X most} → Thinned most cmp hi f₀ h₀ p f h path → (n : ℕ) × (h ≡ Some n) × StandsOn f n path p
  thin-on {f} {h} {path} t = spot-on f path h p t.spot (omega (arith, t.low, t.front_is, ap length t.becomes.list, length-append t.front t.behind))

  abbrev pub thin-entry : {f : Forest K X} {h : Option ℕ} {path : Path K X most} → Thinned most cmp hi f₀ h₀ p f h path → OnEntry f path
  thin-entry t = record { root = (thin-on t).0; place = p; on = (thin-on t).2 }

-- no leaf went yet
pub thin-first : {K X : Type 0} {most : ℕ} {cmp : K → K → Ordering} {hi : Bound K} (f : Forest K X) (h : Option ℕ) (p : ℕ) (path : Path K X most) → IsUnion most f → IsLive f h → IsSpot f h path p → (IsAtEnd path → ⊥) → Thinned most cmp hi f h p f h path
thin-first {most = most} {cmp} {hi} f h p path union live spot some = go (spot-on f path h p spot (spot-in f path h p spot some)) live spot
  where
    go : (o : (n : ℕ) × (h ≡ Some n) × StandsOn f n path p) → IsLive f h → IsSpot f h path p → Thinned most cmp hi f h p f h path
    go (n, is, on) live spot = let leaf = on.stands.leaf in
        let list-is : list_of f (Some n) ≡ (flat leaf.before ++ leaf.entries) ++ flat leaf.after = list-root f n on.root_is ∙ ap flat leaf.row_is ∙ flat-append leaf.before (node _ leaf.entries ∷ leaf.after) ∙ sym (append_assoc (flat leaf.before) leaf.entries (flat leaf.after)) in
        let sizes-are : sizes_of f (Some n) ≡ (sizes leaf.before ++ length leaf.entries ∷ sizes leaf.after) ∷ map sizes (tree_of f.nodes n).above = sizes-root f n on.root_is ∙ ap (λ z. z ∷ map sizes (tree_of f.nodes n).above) (ap sizes leaf.row_is ∙ sizes-append leaf.before (node _ leaf.entries ∷ leaf.after)) in
        let sum = total-flat leaf.before in
        record {
          front = flat leaf.before ++ leaf.entries;
          gone = [];
          behind = flat leaf.after;
          list_was = ap (list_of f) is ∙ list-is;
          becomes = subst (Becomes f h f h) (ap (list_of f) is ∙ list-is) (becomes-same f h live);
          within = tt;
          before = sizes leaf.before;
          size = length leaf.entries;
          dropped = [];
          after = sizes leaf.after;
          levels = map sizes (tree_of f.nodes n).above;
          levels' = map sizes (tree_of f.nodes n).above;
          sizes_were = ap (sizes_of f) is ∙ sizes-are;
          sizes_now = ap (sizes_of f) is ∙ sizes-are;
          from = omega (arith, sum, leaf.place_is);
          low = omega (arith, sum, leaf.place_is, leaf.within);
          front_is = omega (arith, sum, length-append (flat leaf.before) leaf.entries);
          gone_is = refl;
          sizes = refl;
          gives = record { slots = refl; free = refl; memory = refl };
          lowers = lowers-none most f h union live;
          spot = spot;
          same = λ e. (refl, refl);
        }

module _ {K X : Type 0} {most : ℕ} {cmp : K → K → Ordering} {hi : Bound K} {f₀ : Forest K X} {h₀ : Option ℕ} {p : ℕ} (total_order : IsTotalOrder cmp) (up : IsIncreasing cmp (list_of f₀ h₀))
    {f : Forest K X} {h : Option ℕ} {path : Path K X most} (t : Thinned most cmp hi f₀ h₀ p f h path) where
  open t use {front, gone, behind, before, size, dropped, after}

  abbrev n : ℕ
  n = (thin-on t).0

  abbrev on : StandsOn f n path p
  on = (thin-on t).2

  -- the leaf in the row as its sizes tell
  parts : (sizes on.stands.leaf.before ≡ before) × (length on.stands.leaf.entries ≡ size) × (sizes on.stands.leaf.after ≡ after)
  parts = let leaf = on.stands.leaf in let b = sizes leaf.before in let s = length leaf.entries in let a = sizes leaf.after in
      let here : sizes_of f h ≡ (b ++ s ∷ a) ∷ map sizes (tree_of f.nodes n).above = ap (sizes_of f) (thin-on t).1 ∙ sizes-root f n on.root_is ∙ ap (λ z. z ∷ map sizes (tree_of f.nodes n).above) (ap sizes leaf.row_is ∙ sizes-append leaf.before (node _ leaf.entries ∷ leaf.after)) in
      let same : b ++ s ∷ a ≡ before ++ size ∷ after = let e = sym here ∙ t.sizes_now in cc in
      let sum = total-flat leaf.before in
      let one = index-at b s a p (omega (arith, sum, leaf.place_is)) (omega (arith, sum, leaf.place_is, leaf.within)) in
      let two = index-at before size after p t.from t.low in
      cut_same b before s size a after same (sym one ∙ ap (leaf_index p) same ∙ two)

  -- the list in the leaves
  lists : (front ≡ flat on.stands.leaf.before ++ on.stands.leaf.entries) × (behind ≡ flat on.stands.leaf.after)
  lists = let leaf = on.stands.leaf in
      let here : list_of f h ≡ (flat leaf.before ++ leaf.entries) ++ flat leaf.after = ap (list_of f) (thin-on t).1 ∙ list-root f n on.root_is ∙ ap flat leaf.row_is ∙ flat-append leaf.before (node _ leaf.entries ∷ leaf.after) ∙ sym (append_assoc (flat leaf.before) leaf.entries (flat leaf.after)) in
      let sum = total-flat leaf.before in
      split_same front (flat leaf.before ++ leaf.entries) behind (flat leaf.after) (sym t.becomes.list ∙ here) (omega (arith, t.front_is, sum, ap total parts.0, parts.1, length-append (flat leaf.before) leaf.entries))

  -- the list gets shorter, where the leaf behind goes
  module _ (next : ℕ) (g : List (K × X)) (last : K × X) (rest : List (LevelNode K X)) (is : on.stands.leaf.after ≡ node next (g ++ last ∷ []) ∷ rest) (inside : is_past_end cmp hi last.0 ≡ false)
      {f' : Forest K X} {path' : Path K X most} {root' : ℕ} (e : RemovesNext f f' path path' (thin-entry t) rest root') where
    abbrev gn : List (K × X)
    gn = g ++ last ∷ []

    behind-is : behind ≡ gn ++ flat rest
    behind-is = lists.1 ∙ ap flat is

    after-is : after ≡ length gn ∷ sizes rest
    after-is = sym parts.2 ∙ ap sizes is

    list-is : list_of f' (Some root') ≡ front ++ flat rest
    list-is = let leaf = on.stands.leaf in (becomes most f f' n root' _ _ e.removed).list
        ∙ flat-append leaf.before (node _ leaf.entries ∷ rest) ∙ sym (append_assoc (flat leaf.before) leaf.entries (flat rest)) ∙ ap (λ z. z ++ flat rest) (sym lists.0)

    len-before : length on.stands.leaf.before ≡ length before
    len-before = sym (go on.stands.leaf.before) ∙ ap length parts.0
      where
        go : (row : List (LevelNode K X)) → length (sizes row) ≡ length row
        go [] = refl
        go (node m es ∷ row) = ap suc (go row)

    were : sizes_of f (Some n) ≡ (before ++ size ∷ length gn ∷ sizes rest) ∷ t.levels'
    were = ap (sizes_of f) (sym (thin-on t).1) ∙ t.sizes_now ∙ ap (λ z. (before ++ size ∷ z) ∷ t.levels') after-is

    sizes-is : sizes_of f' (Some root') ≡ without_next (length before) (sizes_of f h)
    sizes-is = sizes-new most f f' n root' _ _ e.removed ∙ ap (λ z. without_next z (tree_sizes (tree_of f.nodes n))) len-before ∙ ap (without_next (length before)) (sym (sizes-root f n on.root_is) ∙ ap (sizes_of f) (sym (thin-on t).1))

    head : (left : List (List ℕ)) × (sizes_of f' (Some root') ≡ (before ++ size ∷ sizes rest) ∷ left)
    head = let cut = trimmed-head before size (sizes rest) (loss_above (Some (length before)) t.levels') in
        (cut.0, sizes-is ∙ ap (λ z. without_next (length before) z) (ap (sizes_of f) (thin-on t).1 ∙ were) ∙ ap (λ z. trimmed (z ∷ loss_above (Some (length before)) t.levels')) (remove-next before size (length gn) (sizes rest)) ∙ cut.1)

    pub thin-shorter : length (list_of f' (Some root')) < length (list_of f h)
    thin-shorter = omega (arith, ap length list-is, ap length t.becomes.list, ap length behind-is, length-append front behind, length-append front (flat rest), length-append gn (flat rest), length-append g (last ∷ []))

    account : Gives (sizes_of f h) (sizes_of f' (Some root')) f f'
    account = let were = ap (sizes_of f) (thin-on t).1 ∙ sizes-root f n on.root_is in let now = sizes-new most f f' n root' _ _ e.removed in
        subst (λ z. Gives z (sizes_of f' (Some root')) f f') (sym were) (subst (λ z. Gives (tree_sizes (tree_of f.nodes n)) z f f') (sym now) (gives f f' _ _ e.account))

    lowered : Lowers f h f' (Some root')
    lowered = let was = sizes-root f n on.root_is in let now = sizes-new most f f' n root' _ _ e.removed in
        let few : length (sizes_of f' (Some root')) ≤ length (sizes_of f h) = omega (arith, ap length sizes-is, without_next-fewer (length before) (sizes_of f h)) in
        subst (λ z. Lowers f z f' (Some root')) (sym (thin-on t).1)
        (lowers-by most f f' n (Some root') e.account (subst (λ z. length (sizes_of f' (Some root')) ≤ length (sizes_of f z)) (thin-on t).1 few) (
          λ same. ap length now ∙ e.same_root.0 (let one : root' ≡ n = cc in one) ∙ ap length (sym was),
          λ same. ap Some (e.same_root.1 (ap length (sym now) ∙ same ∙ ap length was)),
        ) (λ ne. e.freed_root (λ same. ne (ap Some same))) e.removed.union e.removed.root_is)

    pub thin-next : Thinned most cmp hi f₀ h₀ p f' (Some root') path'
    thin-next = record {
      front = front;
      gone = gone ++ gn;
      behind = flat rest;
      list_was = t.list_was ∙ ap (λ z. front ++ (gone ++ z)) behind-is ∙ ap (λ z. front ++ z) (sym (append_assoc gone gn (flat rest)));
      becomes = becomes-both f₀ f f' h₀ h (Some root') _ _ t.becomes (subst (Becomes f h f' (Some root')) list-is' (subst (λ z. Becomes f z f' (Some root') (flat (on.stands.leaf.before ++ node (leaf_of path) on.stands.leaf.entries ∷ rest))) (sym (thin-on t).1) (becomes most f f' n root' _ _ e.removed)));
      within = all-append (λ e. is_past_end cmp hi e.0 ≡ false) gone gn t.within (not-past (λ e. is_past_end cmp hi e.0) (front ++ gone) g last (flat rest) (subst (Rises (λ (e : K × X). is_past_end cmp hi e.0)) whole (end-rises cmp total_order hi (list_of f₀ h₀) up)) inside);
      before = before;
      size = size;
      dropped = dropped ++ length gn ∷ [];
      after = sizes rest;
      levels = t.levels;
      levels' = head.0;
      sizes_were = t.sizes_were ∙ ap (λ z. (before ++ size ∷ z) ∷ t.levels) (ap (λ z. dropped ++ z) after-is ∙ sym (append_assoc dropped (length gn ∷ []) (sizes rest)));
      sizes_now = head.1;
      from = t.from;
      low = t.low;
      front_is = t.front_is;
      gone_is = omega (arith, t.gone_is, length-append gone gn, sum_by-append (λ (size : ℕ). size) dropped (length gn ∷ []), total-cons (length gn) []);
      sizes = sizes-is ∙ ap (without_next (length before)) t.sizes ∙ ap (λ z. without_leaves (length before) z (sizes_of f₀ h₀)) (let is : suc (length dropped) ≡ length (dropped ++ length gn ∷ []) = omega (arith, length-append dropped (length gn ∷ [])) in is);
      gives = record {
        slots = account.slots ∙ t.gives.slots;
        free = omega (arith, account.free, t.gives.free);
        memory = account.memory ∙ t.gives.memory;
      };
      lowers = lowers-both h₀ h (Some root') t.lowers lowered;
      spot = record { root_is = e.stands.root_is; at = path-at path'.size e.stands.stands };
      same = λ none. absurd (omega (arith, ap length none, length-append gone gn, length-append g (last ∷ [])));
    }
      where
        list-is' : flat (on.stands.leaf.before ++ node (leaf_of path) on.stands.leaf.entries ∷ rest) ≡ front ++ flat rest
        list-is' = sym (becomes most f f' n root' _ _ e.removed).list ∙ list-is

        whole : list_of f₀ h₀ ≡ (front ++ gone) ++ (g ++ last ∷ flat rest)
        whole = t.list_was ∙ sym (append_assoc front gone behind) ∙ ap (λ z. (front ++ gone) ++ z) (behind-is ∙ append_assoc g (last ∷ []) (flat rest))

  -- no leaf behind goes
  pub thin-stops : NextWithin cmp hi (thin-entry t) None → Stops cmp hi behind after
  thin-stops (inl none) = record {
    none = λ is. lists.1 ∙ ap flat none;
    past = λ size others is. absurd (let e = sym parts.2 ∙ ap sizes none in cc);
  }
  thin-stops (inr (next, g, last, rest, is, past)) = record {
    none = λ none. absurd (let e = sym parts.2 ∙ ap sizes is in cc);
    past = λ size others of. (g, last, flat rest, lists.1 ∙ ap flat is ∙ append_assoc g (last ∷ []) (flat rest), (let e : length (g ++ last ∷ []) ≡ size = (let both = sym of ∙ sym parts.2 ∙ ap sizes is in cc) in omega (arith, e, length-append g (last ∷ []))), past);
  }
