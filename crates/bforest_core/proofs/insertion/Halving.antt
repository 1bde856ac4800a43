-- Splitting a full node, with a new entry in one half.
use Rattle.bforest_core.proofs.Words.{◌≡◌, ℕ, suc, ◌-◌, ◌≤◌, ◌<◌, ◌≢◌, Some, List, [], ◌∷◌, ◌++◌, length, refl, sym, ap, ◌∙◌, append_assoc, length-append}
use Rattle.bforest_core.proofs.Words.{arith, head_of, slice_get, subst, length-set, Content, IsCut, left_half, Table, with_node, with_front, front_of}
use Rattle.bforest_core.proofs.{Words.{IsSplitAt, count, Draws}, table.Tables.{count-append, count-same, length-with_front}, table.Stored.{Parts, some_same}}
use Rattle.bforest_core.proofs.{rows.Zipper.cut, table.Trading.{Puts, apart_from, draws-after, puts, takes}}
use Rattle.bforest_nodes.specs.declared.node.SplitOff.{SplitOff}

-- if a list is cut twice, the later cut is in the second part of the earlier one
between : {A : Type 0} (p q l r : List A) → p ++ q ≡ l ++ r → length l ≤ length p → (mid : List A) × (p ≡ l ++ mid) × (r ≡ mid ++ q)
between p q [] r e low = (p, refl, sym e)
between [] q (z ∷ l) r e low = absurd (omega arith)
between (y ∷ p) q (z ∷ l) r e low = let t : p ++ q ≡ l ++ r = cc in let w = between p q l r t (omega arith) in (w.0, cc, w.2)

-- the first key of the right half, with the new entry
middle_key : {K X : Type 0} (right : ℕ) (mid : List (K × X)) (entry : K × X) (r : List (K × X)) (y : K × X) (ys : List (K × X)) (first : K) →
    y ∷ ys ≡ mid ++ r → (length mid ≡ 0 → first ≡ entry.0) → (0 < length mid → first ≡ y.0) → head_of right (mid ++ entry ∷ r) ≡ (first, right) ∷ []
middle_key right [] entry r y ys first q_is zero more = cc (zero refl)
middle_key right (m ∷ mid) entry r y ys first q_is zero more = ap (λ v. (v, right) ∷ [])
    (sym (more (omega arith) ∙ (let same : y ≡ m = cc in ap (λ v. v.0) same)))

module _ {K V X : Type 0} (content : List (K × X) → Content K V) where
  -- two nodes in slots, the right one in what was the front of the chain
  pub record Two (t u : Table K V) (n right : ℕ) (lefts rights : List (K × X)) : Type 0 where
    pub ne : n ≢ right
    pub here : slice_get u.nodes n ≡ Some (content lefts)
    pub there : slice_get u.nodes right ≡ Some (content rights)
    pub draws : Draws t u (n ∷ []) (n ∷ right ∷ []) (right ∷ [])
    pub open draws use *

  -- a full node split over two slots
  pub record Split (t s : Table K V) (n right left_count : ℕ) (es : List (K × X)) (key : K) : Type 0 where
    pub zs : List (K × X)
    pub y : K × X
    pub ys : List (K × X)
    pub es_is : es ≡ zs ++ y ∷ ys
    pub count_is : length zs ≡ left_count
    pub key_is : key ≡ y.0
    pub two : Two t s n right zs (y ∷ ys)

  -- the halves of a node, with one more entry
  pub record Halves (t u : Table K V) (n right : ℕ) (middle : K) (grown : List (K × X)) (left_count right_count : ℕ) : Type 0 where
    pub z : K × X
    pub xs : List (K × X)
    pub y : K × X
    pub ys : List (K × X)
    pub grown_is : grown ≡ (z ∷ xs) ++ y ∷ ys
    pub left_is : length (z ∷ xs) ≡ left_count
    pub right_is : length (y ∷ ys) ≡ right_count
    pub middle_is : middle ≡ y.0
    pub two : Two t u n right (z ∷ xs) (y ∷ ys)

  -- how a node of this kind is cut after its first `q` entries
  abbrev pub Cuts : ℕ → Type 0
  Cuts q = (zs y ys left right key : _) → length zs ≡ q → IsCut (content (zs ++ y ∷ ys)) q left key right → Parts content zs y ys left right key

  module _ {cap : ℕ} {t s : Table K V} {number : ℕ} (n : ℕ) {e : ℕ} (num_is : number ≡ n) (es : List (K × X)) {parts : SplitOff K}
      (was : slice_get t.nodes n ≡ Some (content es)) (split : IsSplitAt cap t number e parts s) where
    sp : IsSplitAt cap t n e parts s
    sp = rw num_is at split

    whole_is : sp.whole ≡ content es
    whole_is = some_same (sym sp.was ∙ was)

    -- the number of entries in the left half
    pub counted : parts.lhs_entries ≡ left_half cap (content es) e
    counted = cc (sp.counted, whole_is)

    -- `split_node` leaves the node split over two slots
    pub split_at : (right : ℕ) → Cuts parts.lhs_entries → parts.lhs_entries < length es → count n t.chain ≡ 0 → front_of t.chain ≡ Some right →
        right < length s.nodes → Split t s n right parts.lhs_entries es parts.crit_key
    split_at right cuts less none front low = let c = cut es parts.lhs_entries less in
        let p = cuts c.l c.x c.r sp.left_half_is sp.right_half_is parts.crit_key c.place_is
        (subst (λ v. IsCut v parts.lhs_entries sp.left_half_is parts.crit_key sp.right_half_is) (cc (whole_is)) sp.cut) in
        let mid = with_front t t.chain sp.right_half_is in let size = ap (λ v. length v.nodes) sp.after ∙ length-set _ n _ ∙ length-with_front t _ _ in
        let w = takes t mid right sp.right_half_is front refl (omega arith) in
        let ne : n ≢ right = λ v. let h = ap (λ k. count k t.chain) v in omega (arith, ap (λ k. count right k) w.chain_is, count-same right mid.chain) in
        let put = puts _ s n _ _ (w.others n (apart_from n right ne) ∙ was) sp.after in
        record {
          zs = c.l;
          y = c.x;
          ys = c.r;
          es_is = c.es_is;
          count_is = c.place_is;
          key_is = p.key_is;
          two = record {
            ne = ne;
            here = cc;
            there = cc (put.others right (apart_from right n (λ e. ne (sym e))));
            draws = draws-after _ _ (λ m. omega (arith, count-append m (n ∷ []) (right ∷ []))) w.draws put.frees;
          };
        }

  module _ {t s : _} (u : Table K V) {n right lefts rights : _} (w : Two t s n right lefts rights) where
    -- one of the two nodes was written
    two_put : {m c : _} (xs ys : _) → Puts s u m c → slice_get u.nodes n ≡ Some (content xs) → slice_get u.nodes right ≡ Some (content ys) →
        ((k : ℕ) → count k (m ∷ []) ≤ count k (n ∷ right ∷ [])) → Two t u n right xs ys
    two_put xs ys put here there one = record {
      ne = w.ne;
      here = here;
      there = there;
      draws = draws-after _ _ (λ k. omega (arith, one k)) w.draws put.frees;
    }

  -- two nodes whose sizes are those of halves are halves
  two_halves : {t u n right : _} (middle grown lefts rights left_count right_count : _)
      → grown ≡ lefts ++ rights → length lefts ≡ left_count → length rights ≡ right_count → 1 ≤ left_count
      → head_of right rights ≡ (middle, right) ∷ [] → Two t u n right lefts rights → Halves t u n right middle grown left_count right_count
  two_halves middle grown [] rights left_count right_count is left_is right_is some head w = absurd (omega (arith, left_is))
  two_halves middle grown (z ∷ xs) [] left_count right_count is left_is right_is some head w = absurd cc
  two_halves {right} middle grown (z ∷ xs) (y ∷ ys) left_count right_count is left_is right_is some head w =
      record { z = z; xs = xs; y = y; ys = ys; grown_is = is; left_is = left_is; right_is = right_is; middle_is = (let same : ◌≡◌ {A = K × ℕ} (y.0, right) (middle, right) = cc in ap (λ v. v.0) (sym same)); two = w }

  module _ {t s : _} (u : Table K V) {n right q es : _} {middle : K} (sp : Split t s n right q es middle) (write : Content K V → Content K V) (l : List (K × X))
      (new : K × X) (r : List (K × X)) where
    -- the entry was inserted into the left half
    pub into_left : es ≡ l ++ r → length l ≤ q → ((mid : _) → write (content (l ++ mid)) ≡ content (l ++ new ∷ mid)) →
        u ≡ with_node s n (write (content sp.zs)) →
        Halves t u n right middle (l ++ new ∷ r) (suc q) (length es - q)
    into_left es_is low wrote after =
        let w = between sp.zs (sp.y ∷ sp.ys) l r (sym sp.es_is ∙ es_is) (omega (arith, sp.count_is)) in let put = puts s u n _ _ sp.two.here (cc (wrote w.0)) in
        two_halves _ _ _ _ _ _ (cc (append_assoc l (new ∷ w.0) (sp.y ∷ sp.ys)))
        (omega (arith, length-append l (new ∷ w.0), length-append l w.0, ap length w.1, sp.count_is))
        (omega (arith, ap length sp.es_is, length-append sp.zs (sp.y ∷ sp.ys), sp.count_is)) (omega arith) (ap (λ v. (v, right) ∷ []) (sym sp.key_is))
        (two_put u sp.two (l ++ new ∷ w.0) (sp.y ∷ sp.ys) put put.here (put.others right (apart_from right n (λ v. sp.two.ne (sym v))) ∙ sp.two.there)
        (λ k. omega (arith, count-append k (n ∷ []) (right ∷ []))))

    -- the entry was inserted into the right half, whose first key it may be
    pub into_right : (first : K) → es ≡ l ++ r → q ≤ length l → 1 ≤ q → (length l - q ≡ 0 → first ≡ new.0) → (0 < length l - q → first ≡ middle) →
        ((mid : _) → length mid ≡ length l - q → write (content (mid ++ r)) ≡ content (mid ++ new ∷ r)) →
        u ≡ with_node s right (write (content (sp.y ∷ sp.ys))) → Halves t u n right first (l ++ new ∷ r) q (suc (length es - q))
    into_right first es_is high some zero more wrote after =
        let w = between l r sp.zs (sp.y ∷ sp.ys) (sym es_is ∙ sp.es_is) (omega (arith, sp.count_is)) in
        let mid_is : length w.0 ≡ length l - q = omega (arith, ap length w.1, length-append sp.zs w.0, sp.count_is) in
        let put = puts s u _ _ _ sp.two.there (cc (wrote w.0 mid_is)) in
        two_halves _ _ _ _ _ _ (cc (append_assoc sp.zs w.0 (new ∷ r))) sp.count_is
        (omega (arith, length-append w.0 (new ∷ r), length-append w.0 r, ap length w.2, ap length sp.es_is, length-append sp.zs (sp.y ∷ sp.ys), sp.count_is))
        (omega (arith, some)) (middle_key right w.0 new r sp.y sp.ys first w.2 (λ none. zero (omega (arith, none)))
        (λ few. more (omega (arith, few)) ∙ sp.key_is))
        (two_put u sp.two sp.zs (w.0 ++ new ∷ r) put (put.others n (apart_from n right sp.two.ne) ∙ sp.two.here) put.here
        (λ k. omega (arith, count-append k (n ∷ []) (right ∷ []))))
