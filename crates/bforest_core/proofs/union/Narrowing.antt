-- A path from a node down to a leaf, seen from the child through which it goes, and the front of the rows there.
use Rattle.bforest_core.proofs.Words.{◌≡◌, ℕ, suc, ◌+◌, ◌-◌, ◌≤◌, ◌<◌, List, [], ◌∷◌, ◌++◌, length, get_or, refl, sym, ap, subst, ◌∙◌, arith, length-append}
use Rattle.bforest_core.proofs.Words.{Content, half_of, Heads, IsAt, IsLeafCapacity, Row, Rows, StackedTo, StandsTo, flat, heads, node}
use Rattle.bforest_core.proofs.{rows.{LevelRows.{flat-append, some_leaf}}, union.{Fronts.{front-left, front-right, fronts-left, fronts-right, length-front, tops}, Joining.beside, Opened.{UnderCut}}}
use Rattle.bforest_core.proofs.walks.RowNodes.{fit_full}
use Rattle.bforest_core.specs.Cut.{front_row, front_rows}

-- a place in two lists, before the end of the first or behind it
in-first : {A : Type 0} (before a b : List A) (x : A) (after : List A) → a ++ b ≡ before ++ x ∷ after → length before < length a → (rest : List A) × (a ≡ before ++ x ∷ rest)
in-first before [] b x after e low = absurd (omega arith)
in-first [] (y ∷ a) b x after e low = (a, (let same : y ≡ x = cc in cc))
in-first (z ∷ before) (y ∷ a) b x after e low = let r = in-first before a b x after (cc) (omega arith) in (r.0, (let same : y ≡ z = cc in let k = r.1 in cc))

in-second : {A : Type 0} (before a b : List A) (x : A) (after : List A) → a ++ b ≡ before ++ x ∷ after → length a ≤ length before → (front : List A) × (before ≡ a ++ front) × (b ≡ front ++ x ∷ after)
in-second before [] b x after e low = (before, refl, e)
in-second [] (y ∷ a) b x after e low = absurd (omega arith)
in-second (z ∷ before) (y ∷ a) b x after e low = let r = in-second before a b x after (cc) (omega arith) in (r.0, (let same : z ≡ y = cc in let k = r.1 in cc), r.2)

module _ {K X : Type 0} {row : Row K X} (a b : Row K X) (parts : row ≡ a ++ b) {number index place : ℕ} (at : IsAt row number index place) where
  at-left : length at.before < length a → (at' : IsAt a number index place) × (length at'.before ≡ length at.before) × (place < length (flat a))
  at-left low = let r = in-first at.before a b (node number at.entries) at.after (sym parts ∙ at.row_is) low in (
    record { before = at.before; entries = at.entries; after = r.0; row_is = r.1; within = at.within; place_is = at.place_is },
    refl,
    omega (arith, at.within, at.place_is, ap (λ z. length (flat z)) r.1, ap length (flat-append at.before (node number at.entries ∷ r.0)), length-append (flat at.before) (at.entries ++ flat r.0), length-append at.entries (flat r.0)),
  )

  at-right : length a ≤ length at.before → (at' : IsAt b number index (place - length (flat a))) × (length at.before ≡ length a + length at'.before) × (length (flat a) ≤ place)
  at-right high = let r = in-second at.before a b (node number at.entries) at.after (sym parts ∙ at.row_is) high in
      let len = ap (λ z. length (flat z)) r.1 in let joined = ap length (flat-append a r.0) in let sum = length-append (flat a) (flat r.0) in (
        record { before = r.0; entries = at.entries; after = at.after; row_is = r.2; within = at.within; place_is = omega (arith, at.place_is, len, joined, sum) },
        ap length r.1 ∙ length-append a r.0,
        omega (arith, at.place_is, len, joined, sum),
      )

module _ {K : Type 0} (path indices : List ℕ) where
  stands-left : (level : ℕ) (list top : Heads K) (a b : Rows K) (place t : ℕ) → length a ≡ length b → StackedTo list a top → StandsTo path indices level (beside a b) place t → t < length top →
      StandsTo path indices level a place t × (place < length list)
  stands-left level list top [] b place t same s at low = (at, omega (arith, ap length s))
  stands-left level list top (row ∷ a) [] place t same s at low = absurd (omega arith)
  stands-left level list top (row ∷ a) (row' ∷ b) place t same s at low =
      let r = stands-left (suc level) (heads row) top a b (length at.0.before) t (omega arith) s.2 at.1 low in let full = fit_full 4 8 (omega arith) row s.1 in
      let l = at-left row row' refl at.0 (omega (arith, r.1)) in ((l.0, subst (λ z. StandsTo path indices (suc level) a z t) (sym l.1) r.0), omega (arith, l.2, ap length s.0))

  stands-right : (level : ℕ) (list top : Heads K) (a b : Rows K) (place t : ℕ) → length a ≡ length b → StackedTo list a top → StandsTo path indices level (beside a b) place t → length top ≤ t →
      StandsTo path indices level b (place - length list) (t - length top) × (length list ≤ place)
  stands-right level list top [] [] place t same s at high = (omega (arith, ap length s), omega (arith, ap length s))
  stands-right level list top [] (row' ∷ b) place t same s at high = absurd (omega arith)
  stands-right level list top (row ∷ a) [] place t same s at high = absurd (omega arith)
  stands-right level list top (row ∷ a) (row' ∷ b) place t same s at high =
      let r = stands-right (suc level) (heads row) top a b (length at.0.before) t (omega arith) s.2 at.1 high in let full = fit_full 4 8 (omega arith) row s.1 in
      let l = at-right row row' refl at.0 (omega (arith, r.1)) in let len = ap length s.0 in (
        (
          record { before = l.0.before; entries = l.0.entries; after = l.0.after; row_is = l.0.row_is; within = l.0.within; place_is = omega (arith, l.0.place_is, len) },
          (let here : length at.0.before - length (heads row) ≡ length l.0.before = omega (arith, l.1, full) in subst (λ z. StandsTo path indices (suc level) b z (t - length top)) here r.0),
        ),
        omega (arith, l.2, len),
      )

  -- the row on top of the others, and the rows below it
  pub stands-less : (level : ℕ) (rows : Rows K) (row : Row K ℕ) (place top high : ℕ) → high ≡ level + length rows → StandsTo path indices level (rows ++ row ∷ []) place top →
      (q : ℕ) × StandsTo path indices level rows place q × (at : IsAt row (get_or path high 0) (get_or indices high 0) q) × (length at.before ≡ top)
  stands-less level [] row place top high e s = let h : high ≡ level = omega arith in let at = s.0 in
      (place, refl, record { before = at.before; entries = at.entries; after = at.after; row_is = rw h at.row_is; within = rw h at.within; place_is = rw h at.place_is }, s.1)
  stands-less level (r ∷ rows) row place top high e s = let l = stands-less (suc level) rows row (length s.0.before) top high (omega arith) s.1 in
      (l.0, (s.0, l.1), l.2, l.3)

module _ {K V : Type 0} {most : ℕ} {slots : List (Content K V)} (capacity : IsLeafCapacity most) {leaves : Row K V} {lower : Rows K} {a b : Heads K} (c : UnderCut most slots leaves lower a b) where
  some : 1 ≤ half_of most
  some = some_leaf capacity

  full : length (heads c.leaves_left) ≡ length c.leaves_left
  full = fit_full (half_of most) most some c.leaves_left c.left.leaves_fit

  heights : length c.lower_left ≡ length c.lower_right
  heights = omega (arith, c.left_height, c.right_height)

  -- a path through one of the first nodes
  pub path-left : (path indices : List ℕ) {number index place t : ℕ} (leaf : IsAt leaves number index place) → StandsTo path indices 1 lower (length leaf.before) t → t < length a →
      (leaf' : IsAt c.leaves_left number index place) × StandsTo path indices 1 c.lower_left (length leaf'.before) t × (place < length (flat c.leaves_left))
  path-left path indices {number} {index} {place} {t} leaf up low =
      let s = stands-left path indices 1 (heads c.leaves_left) a c.lower_left c.lower_right (length leaf.before) t heights c.left.stacked (rw (← c.lower_are) up) low in
      let l = at-left c.leaves_left c.leaves_right c.leaves_are leaf (omega (arith, s.1, full)) in (l.0, subst (λ z. StandsTo path indices 1 c.lower_left z t) (sym l.1) s.0, l.2)

  -- a path through one of the others
  pub path-right : (path indices : List ℕ) {number index place t : ℕ} (leaf : IsAt leaves number index place) → StandsTo path indices 1 lower (length leaf.before) t → length a ≤ t →
      (leaf' : IsAt c.leaves_right number index (place - length (flat c.leaves_left))) × StandsTo path indices 1 c.lower_right (length leaf'.before) (t - length a) × (length (flat c.leaves_left) ≤ place)
  path-right path indices {t = t} leaf up high =
      let s = stands-right path indices 1 (heads c.leaves_left) a c.lower_left c.lower_right (length leaf.before) t heights c.left.stacked (rw (← c.lower_are) up) high in
      let l = at-right c.leaves_left c.leaves_right c.leaves_are leaf (omega (arith, s.1, full)) in
      let here : length leaf.before - length (heads c.leaves_left) ≡ length l.0.before = omega (arith, l.1, full) in
      (l.0, subst (λ z. StandsTo path indices 1 c.lower_right z (t - length a)) here s.0, l.2)

  -- the front up to a place below the first nodes
  pub below-left : (place : ℕ) → place ≤ length (flat c.leaves_left) → (front_row place leaves ≡ front_row place c.leaves_left)
      × (front_rows (length (front_row place leaves)) lower ≡ front_rows (length (front_row place c.leaves_left)) c.lower_left)
      × (tops (length (front_row place leaves)) lower ≡ tops (length (front_row place c.leaves_left)) c.lower_left)
  below-left place low = let here = ap (front_row place) c.leaves_are ∙ front-left (half_of most) most some c.leaves_left c.leaves_right place low in
      let rest = fronts-left (heads c.leaves_left) a c.lower_left c.lower_right (length (front_row place c.leaves_left)) heights c.left.stacked (omega (arith, length-front c.leaves_left place, full)) in
      (here, rw (here, c.lower_are) rest.0, rw (here, c.lower_are) rest.1)

  -- the front up to a place behind these
  pub below-right : (place q : ℕ) → place ≡ length (flat c.leaves_left) + q → (front_row place leaves ≡ c.leaves_left ++ front_row q c.leaves_right)
      × (front_rows (length (front_row place leaves)) lower ≡ beside c.lower_left (front_rows (length (front_row q c.leaves_right)) c.lower_right))
      × (tops (length (front_row place leaves)) lower ≡ length a + tops (length (front_row q c.leaves_right)) c.lower_right)
  below-right place q is = let here = ap (front_row place) c.leaves_are ∙ front-right (half_of most) most some c.leaves_left c.leaves_right q place c.left.leaves_fit is in
      let rest = fronts-right (heads c.leaves_left) a c.lower_left c.lower_right (length (front_row q c.leaves_right)) (length (c.leaves_left ++ front_row q c.leaves_right)) heights c.left.stacked (omega (arith, full, length-append c.leaves_left (front_row q c.leaves_right))) in
      (here, rw (here, c.lower_are) rest.0, rw (here, c.lower_are) rest.1)
