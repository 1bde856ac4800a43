-- Rebalancing a level, from what its calls state: the answers of `rebalance`.
use Rattle.bforest_core.proofs.Words.{◌≡◌, ℕ, suc, ◌+◌, ◌≤◌, ◌<◌, ◌≢◌, List, ◌∷◌, length, slice_get, Option, Some, None, ap, ◌∙◌, subst, inl, inr}
use Rattle.bforest_core.proofs.Words.{length-append, arith, Content, Table, IsBalancedAt, content_at, half_at, most_at, set, get_or, with_freed, node, flat}
use Rattle.bforest_core.proofs.Words.{heads, count, OnLevel, Healed, Joined, add-one, get_or_default, Item, Heals, Joins, Loses, IsUsed, IsHalfFullAt}
use Rattle.bforest_core.proofs.{Words.{OneAbove, TwoAbove, Keeps}, removal.Rebalance.{above_both, above_two_put, apart, settle_join, settle_move}}
use Rattle.bforest_core.proofs.removal.{Rebalance.{settle_spread, settle_stay}, Balance.{AllRight, IsHalf, IsStored, Spread, all_right_at, kind_half}}
use Rattle.bforest_core.proofs.removal.{Balance.{kind_stored, spread_at}, Asked.{NodeAt, Counts, Beside, Rekeys, Enters, no_nodes, some_first, First}}
use Rattle.bforest_core.proofs.{removal.Lifted.{headed, NextNode, first_after, next_of}, table.Tables.{row-split, is_used}, rows.Zipper.apart_here}

both_back : {A B : Type 0} (P : A → B → Type 0) (a c : A) (b d : B) → a ≡ c → b ≡ d → P c d → P a b
both_back P a c b d e f w = rw (e, f) w

-- a level that lost an entry is one of the path's
pub loses_low : {K V : Type 0} {cap least : ℕ} {t : Table K V} {path indices : List ℕ} {up size : ℕ} → Loses cap least t path indices up size → up < size
loses_low w = omega arith

module _ {K V : Type 0} {cap least : ℕ} {t : Table K V} {path indices up size : _} (w : Loses cap least t path indices up size) (r : ℕ) (wide : length path ≡ 17) (height : size ≤ 17) where
  abbrev X : Type 0
  X = Item V w.leaf

  abbrev content : List (K × X) → Content K V
  content = content_at w.leaf

  abbrev half : ℕ
  half = half_at w.leaf cap

  abbrev most : ℕ
  most = most_at w.leaf cap

  open w use {before, entries as es, after, rest, on as p}

  abbrev n : ℕ
  n = get_or path up 0

  pub hm : IsHalf half most
  hm = kind_half w.leaf w.capacity

  s : IsStored content cap most
  s = kind_stored _ _

  low : up < length path
  low = omega arith

  half_some : 1 ≤ half
  half_some = omega (arith, hm.two)

  -- the number of the node, as the code reads it
  num_is : get_or path up r ≡ n
  num_is = get_or_default path up r 0 low

  slot_here : slice_get t.nodes n ≡ Some (content es)
  slot_here = (row-split _ _ _ (node n es ∷ after) p.inside).1.0

  none_here : count n t.chain ≡ 0
  none_here = (apart_here n _ _ _ _ _ p.apart).2

  slot_read : slice_get t.nodes (get_or path up r) ≡ Some (content es)
  slot_read = cc (num_is, slot_here)

  pub counted_asks : NodeAt t (get_or path up r)
  counted_asks = (content es, slot_read, s.used es)

  -- how many entries the node has
  pub count_read : (m : ℕ) → Counts t (get_or path up r) m → m ≡ length es
  count_read m value = value (content es) slot_read ∙ s.count_is es

  pub named : First es
  named = some_first es p.some

  abbrev e : K × X
  e = named.0

  abbrev others : List (K × X)
  others = named.1

  -- the level, with the node's first entry and the next node named
  pub level : {k q : _} (d : NextNode after k q) → OnLevel content half most t path indices up size before n (e ∷ others) (node q (d.f ∷ d.fs) ∷ d.rest) rest
  level d = rw (← d.after_is) (subst (λ z. OnLevel content half most t path indices up size before n z after rest) named.2 p)

  -- the level so named is rebalanced, and so the level is
  heals : {k q : _} (d : NextNode after k q) (v path' indices' : _)
      → Healed content half most t v path indices path' indices' up size before n (e ∷ others) (node q (d.f ∷ d.fs) ∷ d.rest) rest → Heals w v path' indices'
  heals d v path' indices' h =
      both_back (λ y z. Healed content half most t v path indices path' indices' up size before n y z rest) es _ after _ named.2 d.after_is h

  module _ (m : ℕ) (value : Counts t (get_or path up r) m) where
    module _ (healthy : least ≤ m) where
      -- a healthy node in which the path stands stays
      pub stay_heals : get_or indices up 0 ≢ m → Heals w t path indices
      stay_heals inside = settle_stay hm p (inl (omega (arith, count_read m value))) (λ some. omega (arith, count_read m value))

      module _ (past : get_or indices up 0 ≡ m) where
        -- there is a next node where the path is past the node's last entry
        pub behind : (k : K) × (q : ℕ) × NextNode after k q
        behind = first_after _ _ half_some _ p.fits (omega (arith, count_read m value, length-append es (flat after)))

        abbrev then : NextNode after behind.0 behind.1
        then = behind.2

        abbrev pub past_asks : TwoAbove t path indices (suc up) size
        past_asks = record { rows = rest; before = heads before; x = (e.0, n); y = (then.f.0, behind.1); after = heads then.rest; above = above_both hm (level then) }

        -- entering the next node leaves the level rebalanced
        pub past_heals : (path' indices' : _) → Enters t path indices path' indices' up size → get_or indices' up 0 ≡ 0 →
            Keeps path indices path' indices' up size → Heals w t path' indices'
        past_heals path' indices' moved first kept = let entered = moved past_asks in let len = ap length named.2 in
            heals then t path' indices' (settle_move hm (level then) (omega arith) (omega (arith, count_read m value)) entered first kept)

  abbrev pub beside_asks : OneAbove t path indices (up + 1) size
  beside_asks = record { rows = rest; before = heads before; x = (e.0, n); after = heads after; above = rw add-one (headed before n after named p.above) }

  -- the last node stays
  pub last_heals : Beside t path indices (up + 1) size None → Heals w t path indices
  last_heals beside = let none = no_nodes _ _ half_some _ p.fits (beside beside_asks) in
      settle_stay hm p (inr none) (λ some. omega (arith, length-append es (flat after), ap (λ z. length (flat z)) none))

  module _ (m : ℕ) (value : Counts t (get_or path up r) m) (under : m < least) {o : Option (K × ℕ)} {next : _} (is : o ≡ Some next) (beside : Beside t path indices (up + 1) size o) where
    pub d : NextNode after next.0 next.1
    d = next_of _ _ half_some _ _ _ _ p.fits (rw is at (beside beside_asks)).1

    abbrev q : ℕ
    q = next.1

    under_is : length (e ∷ others) < half
    under_is = omega (arith, count_read m value, ap length named.2)

    slots : (slice_get t.nodes n ≡ Some (content (e ∷ others))) × (slice_get t.nodes q ≡ Some (content (d.f ∷ d.fs)))
    slots = let both = (row-split _ _ _ (node n (e ∷ others) ∷ node q (d.f ∷ d.fs) ∷ d.rest) (level d).inside).1 in (both.0, both.1.0)

    pub balance_asks : IsUsed t (get_or path up r) × (IsUsed t q × ((get_or path up r ≢ q) × IsHalfFullAt cap t.nodes (get_or path up r) q))
    balance_asks = let ce = s.count_is (e ∷ others) in let cf = s.count_is (d.f ∷ d.fs) in
        let both : IsHalfFullAt cap t.nodes n q = record {
          under = content (e ∷ others);
          neighbour = content (d.f ∷ d.fs);
          left_is = slots.0;
          right_is = slots.1;
          kind = s.kind (e ∷ others) (d.f ∷ d.fs);
          filled = omega arith;
          neighbour_filled = omega arith;
          half_full = omega (arith, s.capacity_is (e ∷ others), under_is, hm.hi);
        } in
        rw num_is (is_used _ _ _ slot_here none_here, (is_used _ _ _ slots.1 (apart hm (level d)).3, ((apart hm (level d)).0, both)))

    module _ {u : Table K V} {got : Option K} (balanced : IsBalancedAt cap t (get_or path up r) next.0 q got u) where
      balanced_as : (o : Option K) → got ≡ o → IsBalancedAt cap t n d.f.0 q o u
      balanced_as o got_is = rw (num_is, d.k_is, got_is) at balanced

      -- the two nodes share their entries, and the key between them has to be updated
      module _ {key : K} (got_is : got ≡ Some key) where
        pub spread : Spread content t u most n q (e ∷ others) (d.f ∷ d.fs) key
        spread = spread_at _ _ _ _ _ _ _ _ _ s (apart hm (level d)).0 (omega (arith, hm.hi, hm.two)) slots.0 slots.1 (balanced_as _ got_is)

        abbrev pub rekey_asks : TwoAbove u path indices (up + 1) size
        rekey_asks = record { rows = rest; before = heads before; x = (e.0, n); y = (d.f.0, q); after = heads d.rest; above = rw add-one (above_two_put hm (level d) spread.two) }

        -- updating the key leaves the level rebalanced
        pub rekey_heals : (v : _) → Rekeys u v path indices (up + 1) size key → Heals w v path indices
        rekey_heals v rekeys = heals d v _ _ (settle_spread hm (level d) v under_is spread (rw (add-one up) at (rekeys rekey_asks)))

      -- all entries are in the right node, and the left one has to be freed
      module _ (got_is : got ≡ None) where
        all_right : AllRight content t u most n q (e ∷ others) (d.f ∷ d.fs)
        all_right = all_right_at _ _ _ _ _ _ _ _ _ s (apart hm (level d)).0 (omega (arith, hm.hi, hm.two)) slots.0 slots.1 (balanced_as None got_is)

        pub free_asks : IsUsed u (get_or path up r)
        free_asks = rw num_is (is_used _ _ _ all_right.two.here (cc (none_here)))

        -- freeing the left node leaves the two merged
        pub free_joins : (v : _) → v ≡ with_freed u (get_or path up r) → Joins w v (set path up q) indices
        free_joins v freed = let j = settle_join hm (level d) v under_is all_right (cc (num_is)) low in
            both_back (λ y z. Joined content half most t v path indices (set path up q) indices up size before n y z rest) es _ after _ named.2 d.after_is j
