-- Leaves and inner nodes as stored, for the calls on two neighbours.
use Rattle.bforest_core.proofs.table.Tables.{count-append}
use Rattle.bforest_core.proofs.Words.{true, ◌≡◌, ℕ, suc, ◌+◌, ◌-◌, ◌/◌, ◌≤◌, ◌<◌, ◌≢◌, List, [], ◌∷◌, ◌++◌, length, slice_get, Option, Some, None, refl, sym}
use Rattle.bforest_core.proofs.Words.{ap, ◌∙◌, subst, inl, inr, length-append, arith, length-map, map-append, cases_lt, Content, IsFree, IsSameKind}
use Rattle.bforest_core.proofs.Words.{entry_count, entry_capacity, joined, IsCut, Balances, left_share, Table, with_node, IsBalancedAt, Frees, Bool, false}
use Rattle.bforest_core.proofs.{Words.{IsLeafCapacity, content_at, half_at, most_at}, table.Stored.{some_same, Parts, inner_cuts, leaf_cuts}}
use Rattle.bforest_core.proofs.{removal.Asked.some_first, rows.Zipper.cut, table.Trading.{apart_from, frees-after, puts}}

-- half of a node's capacity and the whole of it
pub record IsHalf (half most : ℕ) : Type 0 where
  pub two : 2 ≤ half
  pub lo : most ≤ half + half
  pub hi : half + half ≤ suc most

-- how the nodes of a level are stored
pub record IsStored {K V X : Type 0} (content : List (K × X) → Content K V) (n most : ℕ) : Type 0 where
  pub count_is : (es : _) → entry_count (content es) ≡ length es
  pub capacity_is : (es : _) → entry_capacity n (content es) ≡ most
  pub used : (es : _) → ¬ IsFree (content es)
  pub kind : (es fs : _) → IsSameKind (content es) (content fs)
  pub joins : (e es f fs : _) → joined (content (e ∷ es)) f.0 (content (f ∷ fs)) ≡ content ((e ∷ es) ++ f ∷ fs)
  pub cuts : (x xs y ys q left right key : _) → length (x ∷ xs) ≡ q → IsCut (content ((x ∷ xs) ++ y ∷ ys)) q left key right → Parts content (x ∷ xs) y ys left right key

-- a leaf is half full with half of its capacity, an inner node with 4 children
pub kind_half : {n : ℕ} (leaf : Bool) → (leaf ≡ true → IsLeafCapacity n) → IsHalf (half_at leaf n) (most_at leaf n)
kind_half true capacity = let c = capacity refl in omega arith
kind_half false capacity = omega arith

-- leaves and inner nodes are stored
pub kind_stored : {K V : Type 0} (n leaf : _) → IsStored {K = K} {V = V} (content_at leaf) n (most_at leaf n)
kind_stored {V} n true = record {
  count_is = λ es. length-map es (λ w. w.0);
  capacity_is = λ es. refl;
  used = λ es free. free;
  kind = λ es fs. tt;
  joins = λ e es f fs. sym (cc (map-append (λ w. w.0) (e ∷ es) (f ∷ fs), map-append (λ w. w.1) (e ∷ es) (f ∷ fs)));
  cuts = λ x xs y ys q left right key e c. leaf_cuts V _ y _ q _ _ key e c;
}
kind_stored {V} n false = record {
  count_is = λ es. length-map es (λ w. w.1);
  capacity_is = λ es. refl;
  used = λ es free. free;
  kind = λ es fs. tt;
  joins = λ e es f fs. sym (cc (map-append (λ w. w.0) es (f ∷ fs), map-append (λ w. w.1) (e ∷ es) (f ∷ fs)));
  cuts = inner_cuts V;
}

module _ {K V X : Type 0} (content : List (K × X) → Content K V) where
  -- two slots were written
  pub record PutsTwo (t u : Table K V) (n q : ℕ) (c d : Content K V) : Type 0 where
    pub here : slice_get u.nodes n ≡ Some c
    pub there : slice_get u.nodes q ≡ Some d
    pub frees : Frees t u (n ∷ q ∷ []) (n ∷ q ∷ []) []
    pub open frees use *

  -- two writes in sequence write two slots
  puts_two : (t u : Table K V) (n q c d old_n old_q : _) → slice_get t.nodes n ≡ Some old_n → slice_get t.nodes q ≡ Some old_q → n ≢ q → u ≡ with_node (with_node t n c) q d → PutsTwo t u n q c d
  puts_two t u n q c d old_n old_q fn fq ne is = let v = with_node t n c in let one = puts _ _ _ c old_n fn refl in
      let two = puts _ _ _ d old_q (one.others q (apart_from q n (λ e. ne (sym e))) ∙ fq) is in
      record {
        here = two.others n (apart_from n q ne) ∙ one.here;
        there = two.here;
        frees = frees-after _ _ (λ m. omega (arith, count-append m (n ∷ []) (q ∷ []))) one.frees two.frees;
      }

  -- both nodes were merged into the right one
  pub record AllRight (t u : Table K V) (most n q : ℕ) (es fs : List (K × X)) : Type 0 where
    pub fits : length es + length fs ≤ most
    pub left_content : Content K V
    pub two : PutsTwo t u n q left_content (content (es ++ fs))

  -- both nodes share their entries
  pub record Spread (t u : Table K V) (most n q : ℕ) (es fs : List (K × X)) (key : K) : Type 0 where
    pub more : most < length es + length fs
    pub x : K × X
    pub xs : List (K × X)
    pub y : K × X
    pub ys : List (K × X)
    pub whole : es ++ fs ≡ (x ∷ xs) ++ y ∷ ys
    pub left_is : suc (length xs) ≡ (length es + length fs) - (length es + length fs) / 2
    pub right_is : suc (length ys) ≡ (length es + length fs) / 2
    pub key_is : key ≡ y.0
    pub two : PutsTwo t u n q (content (x ∷ xs)) (content (y ∷ ys))

  module _ (t u : Table K V) {cap most : ℕ} (n q : ℕ) (e : K × X) (es f fs : _) (s : IsStored content cap most) (ne : n ≢ q) (two : 2 ≤ most) (fn : slice_get t.nodes n ≡ Some (content (e ∷ es))) (fq : slice_get t.nodes q ≡ Some (content (f ∷ fs))) where
    -- the balanced nodes are these two
    balances_at : {got : Option K} (b : IsBalancedAt cap t n f.0 q got u) → Balances cap (content (e ∷ es)) f.0 (content (f ∷ fs)) got b.new_left b.new_right
    balances_at {got} b = let under_is = some_same (cc) in
        rw (← (some_same {x = b.neighbour} {y = content (f ∷ fs)} cc)) (subst (λ z. Balances cap z f.0 b.neighbour got b.new_left b.new_right) under_is b.balances)

    whole_count : entry_count (content (e ∷ es)) + entry_count (content (f ∷ fs)) ≡ length (e ∷ es) + length (f ∷ fs)
    whole_count = omega arith

    -- where everything fits, balancing merges into the right node
    pub all_right_at : IsBalancedAt cap t n f.0 q None u → AllRight t u most n q (e ∷ es) (f ∷ fs)
    all_right_at b = let bal = balances_at b in
        elim (cases_lt most (length (e ∷ es) + length (f ∷ fs))) [
          | inl more ↦ absurd (let w = bal.shares (omega arith) in let g = w.1 in cc)
          | inr less ↦ (let w = bal.merges (omega arith) in
              record { fits = less; left_content = b.new_left; two = puts_two _ _ _ _ _ _ _ _ fn fq ne (cc (s.joins e es f fs)) })
        ]

    -- where not everything fits, balancing shares the entries
    pub spread_at : {key : K} → IsBalancedAt cap t n f.0 q (Some key) u → Spread t u most n q (e ∷ es) (f ∷ fs) key
    spread_at {key} b =
        let bal = balances_at b in let full = s.capacity_is (e ∷ es) in let total = whole_count in let both = length (e ∷ es) + length (f ∷ fs) in
        let len = length-append (e ∷ es) (f ∷ fs) in
        elim (cases_lt most (length (e ∷ es) + length (f ∷ fs))) [
          | inr less ↦ absurd (let w = bal.merges (omega arith) in let g = w.0 in cc)
          | inl more ↦ (let w = bal.shares (omega arith) in
              let c = cut ((e ∷ es) ++ f ∷ fs) (both - both / 2) (omega arith) in let h = some_first c.l (omega (arith, more)) in
              let whole = c.es_is ∙ ap (λ z. z ++ c.x ∷ c.r) h.2 in let left = ap length (sym h.2) ∙ c.place_is in
              let cuts : IsCut (content ((h.0 ∷ h.1) ++ c.x ∷ c.r)) (both - both / 2) b.new_left w.0 b.new_right =
              subst (λ z. IsCut (content ((h.0 ∷ h.1) ++ c.x ∷ c.r)) (left_share z) b.new_left w.0 b.new_right) total
              (subst (λ z. IsCut z (left_share (entry_count (content (e ∷ es)) + entry_count (content (f ∷ fs))))
              b.new_left w.0 b.new_right) (s.joins e es f fs ∙ ap content whole) w.2) in
              let p = s.cuts h.0 h.1 c.x c.r (both - both / 2) b.new_left b.new_right w.0 left cuts in
              record {
                more = more;
                x = h.0;
                xs = h.1;
                y = c.x;
                ys = c.r;
                whole = whole;
                left_is = left;
                right_is = omega (arith, ap length whole, length-append (h.0 ∷ h.1) (c.x ∷ c.r));
                key_is = some_same w.1 ∙ p.key_is;
                two = puts_two _ _ _ _ _ _ _ _ fn fq ne cc;
              })
        ]
