-- A row with one more entry, where its node has room and where it is split, and what leaves and inner nodes differ in there.
use Rattle.bforest_core.proofs.Words.{◌≡◌, ◌⊎◌, ◌/◌, ℕ, suc, ◌+◌, ◌-◌, ◌≤◌, ◌<◌, nat_le, nat_lt, if◌then◌else◌, Bool, true, false, Option, Some, None, List}
use Rattle.bforest_core.proofs.Words.{[], ◌∷◌, ◌++◌, length, drop, refl, sym, ap, ◌∙◌, inl, inr, append_assoc, length-append, arith, Row, append-nil, node}
use Rattle.bforest_core.proofs.Words.{flat}
use Rattle.bforest_core.proofs.Words.{heads, sizes, half_of, inner_gain, past, leaf_gain, gain_above, need_above, IsAt, le-leb, le-ltb, lt-leb, lt-ltb, get_or}
use Rattle.bforest_core.proofs.Words.{set, slice_get, Table}
use Rattle.bforest_core.proofs.Words.{get_or-set_same, Content, Leaf, Inner, IsFree, IsUsed, IsLeafCapacity, entry_count, entry_capacity}
use Rattle.bforest_core.proofs.Words.{left_half, with_entry, with_child, entry_keys, entry_items, leaf_content, inner_content}
use Rattle.bforest_core.proofs.walks.TopNode.{SameBut, set_but}
use Rattle.bforest_core.proofs.table.Stored.{inner_cuts, item_count, key_count, keys_count, leaf_cuts, with_child_is, with_entry_is}
use Rattle.bforest_core.proofs.{insertion.Halving.Cuts, rows.LevelRows.{flat-append}}

module _ {K X : Type 0} where
  -- where a path stands in a row of which one node was split: in the left half or in the right one
  abbrev pub InHalf : Row K X → ℕ → ℕ → List (K × X) → List (K × X) → Row K X → ℕ → ℕ → ℕ → Bool → Type 0
  InHalf before n right xs ys after m j p moved =
      (at : IsAt (before ++ node n xs ∷ node right ys ∷ after) m j p) × (length at.before ≡ (if moved then suc (length (heads before)) else length (heads before)))

  pub in_left : (before after n right xs ys : _) {j p : ℕ} → length (heads before) ≡ length before → j < length xs → p ≡ length (flat before) + j →
      InHalf before n right xs ys after n j p false
  in_left before after n right xs ys seen low place = (record { before = before; entries = xs; after = node right ys ∷ after; row_is = refl; within = low; place_is = place }, sym seen)

  pub in_right : (before after n right xs ys m j p : _) → length (heads before) ≡ length before → m ≡ right → j < length ys → p ≡ length (flat before) + (length xs + j) → InHalf before n right xs ys after m j p true
  in_right before after n right xs ys m j p seen here within place = let front = before ++ node n xs ∷ [] in
      let flat_front : length (flat front) ≡ length (flat before) + length xs =
      cc (flat-append before (node n xs ∷ []), append-nil xs, length-append (flat before) xs) in (
        record { before = front; entries = ys; after = after; row_is = cc (append_assoc _ _ _); within = within; place_is = omega arith },
        length-append before (node n xs ∷ []) ∙ omega arith,
      )

-- a change of a level, with these nodes before it
abbrev behind : {K X : Type 0} → Row K X → Option ℕ × List ℕ → Option ℕ × List ℕ
behind [] change = change
behind (node m es ∷ before) change = past (length es) (behind before change)

module _ {K X : Type 0} where
  behind_none : (before : Row K X) (ss : _) → behind before (None, ss) ≡ (None, sizes before ++ ss)
  behind_none [] ss = refl
  behind_none (node m es ∷ before) ss = cc (behind_none before ss)

  behind_some : (before : Row K X) (ss : _) → behind before (Some 0, ss) ≡ (Some (length before), sizes before ++ ss)
  behind_some [] ss = refl
  behind_some (node m es ∷ before) ss = cc (behind_some before ss)

  -- a change that passes over one node passes over all these nodes
  change_behind : (change : ℕ → List ℕ → Option ℕ × List ℕ) (low : ℕ) → ((s p after : _) → low + s ≤ p → change p (s ∷ after) ≡ past s (change (p - s) after)) →
      (before : Row K X) (e rest : _) → (before ≡ []) ⊎ (low ≤ e) → change (length (flat before) + e) (sizes before ++ rest) ≡ behind before (change e rest)
  change_behind change low step [] e rest at = let z : 0 + e ≡ e = omega arith in rw z refl
  change_behind change low step (node m es ∷ before) e rest (inl none) = absurd cc
  change_behind change low step (node m es ∷ before) e rest (inr some) =
      let len : length (flat (node m es ∷ before)) + e ≡ length es + (length (flat before) + e) = omega (arith, length-append es (flat before)) in
      let d : length es + (length (flat before) + e) - length es ≡ length (flat before) + e = omega arith in
      rw (len, step (length es) (length es + (length (flat before) + e)) (sizes before ++ rest) (omega arith), d) (ap (λ z. past (length es) z) (change_behind change low step before e rest (inr some)))

  -- the sizes of a level after an insertion into a node, which has room, or is full and is split
  module _ (before : Row K X) (s e : ℕ) (after : List ℕ) (low : e < s) where
    gain_behind : inner_gain (length (flat before) + e) (sizes before ++ s ∷ after) ≡ behind before (inner_gain e (s ∷ after))
    gain_behind = change_behind inner_gain 0 (λ s p after high. (let a = le-ltb p s (omega arith) in rw a refl)) before e (s ∷ after) (inr (omega arith))

    pub gain_room : s < 8 → inner_gain (length (flat before) + e) (sizes before ++ s ∷ after) ≡ (None, sizes before ++ suc s ∷ after)
    gain_room room = rw (gain_behind, lt-ltb e s low, lt-ltb s 8 room) (behind_none before (suc s ∷ after))

    pub gain_full : s ≡ 8 → inner_gain (length (flat before) + e) (sizes before ++ s ∷ after)
        ≡ (Some (length before), sizes before ++ (if nat_lt e 4 then 5 ∷ 4 ∷ after else 4 ∷ 5 ∷ after))
    gain_full full = rw (gain_behind, lt-ltb e s low, le-ltb s 8 (omega arith)) (behind_some _ _)

  -- the sizes of the leaves after an insertion into a leaf, which is at the front of the first leaf only
  module _ (most : ℕ) (before : Row K X) (s e : ℕ) (after : List ℕ) (low : e ≤ s) (at : (before ≡ []) ⊎ (1 ≤ e)) where
    leaf_behind : leaf_gain most (length (flat before) + e) (sizes before ++ s ∷ after) ≡ behind before (leaf_gain most e (s ∷ after))
    leaf_behind = change_behind (leaf_gain most) 1 (λ size p rest high. (let a = lt-leb p size (omega arith) in rw a refl)) before e (s ∷ after) at

    pub leaf_room : s < most → leaf_gain most (length (flat before) + e) (sizes before ++ s ∷ after) ≡ (None, sizes before ++ suc s ∷ after)
    leaf_room room = rw (leaf_behind, le-leb e s low, lt-ltb s most room) (behind_none before (suc s ∷ after))

    pub leaf_full : s ≡ most → leaf_gain most (length (flat before) + e) (sizes before ++ s ∷ after)
        ≡ (Some (length before), sizes before ++ half_of most ∷ half_of most ∷ after)
    leaf_full full = rw (leaf_behind, le-leb e s low, le-ltb s most (omega arith)) (behind_some _ _)

-- 1 where the path moved on, else 0
abbrev pub step : Bool → ℕ
step moved = if moved then 1 else 0

pub step_is : (moved n : _) → (if moved then suc n else n) ≡ n + step moved
step_is true n = omega arith
step_is false n = omega arith

pub step_most : (moved : Bool) → step moved ≤ 1
step_most true = omega arith
step_most false = omega arith

-- Leaves or inner nodes: how entries are stored, how many there may be, how many entries `behind` an index a new one goes, and how a full
-- node is cut for a new entry. At an index below `mid` the entry goes into the left half
pub record Kind (K V X : Type 0) : Type 0 where
  pub cap : ℕ
  pub half : ℕ
  pub most : ℕ
  pub behind : ℕ
  pub mid : ℕ
  pub left : ℕ → ℕ
  pub halves : ℕ → List ℕ → List ℕ
  pub stored : List K → List X → Content K V
  pub keys : List (K × X) → List K
  pub content : List (K × X) → Content K V
  pub size : List K → List X → ℕ
  pub write : ℕ → K × X → Content K V → Content K V
  pub content_is : (es : _) → content es ≡ stored (keys es) (entry_items es)
  pub size_is : (es : _) → size (keys es) (entry_items es) ≡ length es
  pub low : (es : _) (e : ℕ) → e + behind ≤ length es → e ≤ length (keys es)
  pub used : (es : _) → (¬ IsFree (content es)) × (entry_count (content es) ≡ length es) × (entry_capacity cap (content es) ≡ most)
  pub left_is : (es : _) (e : ℕ) → left_half cap (content es) e ≡ left e
  pub writes : (l r : _) (e : ℕ) (y : K × X) → length l ≡ e + behind → write e y (content (l ++ r)) ≡ content (l ++ y ∷ r)
  pub cuts : (q : ℕ) → behind ≤ q → Cuts content q
  pub early : IsLeafCapacity cap → (e : ℕ) → e < mid →
      (e + behind ≤ left e) × (half ≤ suc (left e)) × (half + left e ≤ most) × ((rest : _) → halves e rest ≡ suc (left e) ∷ (most - left e) ∷ rest)
  pub late : IsLeafCapacity cap → (e : ℕ) → mid ≤ e →
      (left e ≤ e) × (half ≤ left e) × (half + left e ≤ suc most) × (left e < most) × (behind ≤ left e)
      × ((rest : _) → halves e rest ≡ left e ∷ suc (most - left e) ∷ rest)

module _ {K V : Type 0} where
  abbrev pub leaf_kind : ℕ → Kind K V V
  leaf_kind most = record {
    cap = most;
    half = half_of most;
    most = most;
    behind = 0;
    mid = suc (most / 2);
    left = λ e. if nat_le e (most / 2) then most / 2 else (most + 1) / 2;
    halves = λ e rest. half_of most ∷ half_of most ∷ rest;
    stored = Leaf;
    keys = entry_keys;
    content = leaf_content;
    size = λ keys vals. length keys;
    write = λ e y content. with_entry content e y.0 y.1;
    content_is = λ es. refl;
    size_is = keys_count;
    low = λ es e low. omega (arith, keys_count es);
    used = λ es. ((λ free. free), keys_count es, refl);
    left_is = λ es e. refl;
    writes = λ l r e y is. with_entry_is V l r y.0 y.1 e (omega arith);
    cuts = λ q some zs y ys left right key is c. leaf_cuts V zs y ys q left right key is c;
    early = λ c e low. (let one : half_of most ≡ suc (most / 2) = omega arith in let two : half_of most ≡ most - most / 2 = omega arith in
        rw (le-leb e (most / 2) (omega arith)) (omega arith, omega arith, omega arith, λ rest. cc));
    late = λ c e high. (let two : half_of most ≡ suc (most - half_of most) = omega arith in
        rw (lt-leb e (most / 2) (omega arith)) (omega arith, omega arith, omega arith, omega arith, omega arith, λ rest. cc));
  }

  pub inner_parts : (q : ℕ) → 1 ≤ q → Cuts {K = K} {V = V} inner_content q
  inner_parts q some [] y ys left right key e c = absurd (omega arith)
  inner_parts q some (z ∷ zs) y ys left right key e c = inner_cuts V z _ y _ q _ _ key e c

  abbrev pub inner_kind : ℕ → Kind K V ℕ
  inner_kind cap = record {
    cap = cap;
    half = 4;
    most = 8;
    behind = 1;
    mid = 4;
    left = λ e. 4;
    halves = λ e rest. if nat_lt e 4 then 5 ∷ 4 ∷ rest else 4 ∷ 5 ∷ rest;
    stored = Inner;
    keys = λ es. drop 1 (entry_keys es);
    content = inner_content;
    size = λ keys children. length children;
    write = λ e y content. with_child content e y.0 y.1;
    content_is = λ es. refl;
    size_is = item_count;
    low = λ es e low. omega (arith, key_count es);
    used = λ es. ((λ free. free), item_count es, refl);
    left_is = λ es e. refl;
    writes = with_child_is V;
    cuts = inner_parts;
    early = λ c e low. (omega arith, omega arith, omega arith, λ rest. (let is = lt-ltb e 4 low in rw is refl));
    late = λ c e high. (omega arith, omega arith, omega arith, omega arith, omega arith, λ rest. (let is = le-ltb e 4 high in rw is refl));
  }

-- the path was at this index of its node and this place of its level. By the indices `js'` it is there, or one entry further, at the place
-- `p`
pub record Moves (js js' : List ℕ) (up behind at place p : ℕ) : Type 0 where
  pub ahead : ℕ
  pub few : ahead ≤ behind
  pub index_is : get_or js' up 0 ≡ at + ahead
  pub p_is : p ≡ place + ahead
  pub far : SameBut up js js'

pub here : {js : List ℕ} {up place : ℕ} → Moves js js up 0 (get_or js up 0) place place
here = record { ahead = 0; few = omega arith; index_is = omega arith; p_is = omega arith; far = λ i other. refl }

pub goes : {js : List ℕ} {up behind at place index : ℕ} (moved : Bool) → step moved ≤ behind → up < length js → index ≡ (if moved then suc at else at) →
    Moves js (set js up index) up behind at place (if moved then suc place else place)
goes {js} {up} {at = at} {place} {index} moved few low is = record {
  ahead = step moved;
  few = few;
  index_is = get_or-set_same js up index 0 low ∙ is ∙ step_is moved at;
  p_is = step_is moved place;
  far = set_but js up index refl;
}

-- what a call that inserts into a node requires
abbrev pub PutAsks : {K V X : Type 0} → (List K → List X → Content K V) → Table K V → ℕ → ℕ → Type 0
PutAsks {K} {V} {X} stored t number index = IsUsed t number
    × ((keys : List K) × (items : List X) × (slice_get t.nodes number ≡ Some (stored keys items)) × (index ≤ length keys))

-- a split takes at least one node, and leaves a level above the split one
pub need_some : (p levels : _) → 1 ≤ need_above (Some p) levels
need_some p [] = omega arith
need_some p (level ∷ levels) = omega arith

pub gain_some : (p levels : _) → 1 ≤ length (gain_above (Some p) levels)
gain_some p [] = omega arith
gain_some p (level ∷ levels) = omega arith
