-- Copying everything below a node, child by child.
use Rattle.bforest_core.proofs.Words.{last_taken, ◌≡◌, ℕ, zero, suc, ◌+◌, ◌≤◌, ◌<◌, List, [], ◌∷◌, ◌++◌, map, length, drop, take, slice_get, slice_set, Some, refl}
use Rattle.bforest_core.proofs.Words.{sym, ap, subst, ◌∙◌, inl, inr, arith, cases_lt, eqb_tells, map-append, length-append, length-map, Row, Rows}
use Rattle.bforest_core.proofs.Words.{Content, Inner, Leaf, Free, children_of, Table, count, Distinct, Under, Draws, numbers_under}
use Rattle.bforest_core.proofs.Words.{IsInner, IsUsed, entry_count, front_of, with_front, IsLeafCapacity, drop_all, take_all, take-append-drop, slice_get_within}
use Rattle.bforest_core.proofs.{table.Lists.drop-read, table.Trading.{Puts, Takes, draws-after, draws-then, takes, trades-wider}, table.Stored.some_same}
use Rattle.bforest_core.proofs.{table.Tables.{count-append, count-other, count-same, length-with_front}, rows.LevelRows.some_leaf, union.Account.length-same}
use Rattle.bforest_core.proofs.union.{Opened.{Opened, UnderCut, under-cut}, Renaming.{map-agree, name-among, names-same}, Sweep.{item_at, under-same, under_none}}
use Rattle.bforest_core.specs.Copies.{Copies, AreCopied, renamed}
use Rattle.bforest_nodes.specs.Content.{with_child_at}

-- the first where a count is not 0, else the second
abbrev pick : ℕ → ℕ → ℕ → ℕ
pick zero a b = b
pick (suc n) a b = a

pick-some : (n a b : ℕ) → 0 < n → pick n a b ≡ a
pick-some zero a b some = absurd (omega arith)
pick-some (suc n) a b some = refl

pick-none : (n a b : ℕ) → n ≡ 0 → pick n a b ≡ b
pick-none zero a b none = refl
pick-none (suc n) a b none = absurd (omega arith)

-- a number that occurs in the list of another alone is that number
same_one : (m n : ℕ) → 0 < count m (n ∷ []) → n ≡ m
same_one m n some = elim (eqb_tells n m) [ inl w ↦ w.1 | inr w ↦ absurd (omega (arith, count-other m n [] w.1)) ]

-- the name of one more child is written
set-next : (f g : ℕ → ℕ) (xs : List ℕ) (index x made : ℕ) → slice_get xs index ≡ Some x → map g (take index xs) ≡ map f (take index xs) → g x ≡ made →
    slice_set (map f (take index xs) ++ drop index xs) index made ≡ map g (take (suc index) xs) ++ drop (suc index) xs
set-next f g [] index x made found same is = absurd cc
set-next f g (y ∷ xs) zero x made found same is = cc
set-next f g (y ∷ xs) (suc index) x made found same is =
    let here : g y ≡ f y = cc in let later : map g (take index xs) ≡ map f (take index xs) = cc in
    let r = set-next f g xs index x made found later is in ap (λ z. f y ∷ z) r ∙ ap (λ z. z ∷ (map g (take (suc index) xs) ++ drop (suc index) xs)) (sym here)

module _ {K V : Type 0} where
  -- a node of whose children the first have other names
  abbrev pub partly : (ℕ → ℕ) → ℕ → Content K V → Content K V
  partly f index (Inner keys children) = Inner keys (map f (take index children) ++ drop index children)
  partly f index (Leaf keys vals) = Leaf keys vals
  partly f index (Free next) = Free next

  partly-none : (f : ℕ → ℕ) (content : Content K V) → partly f 0 content ≡ content
  partly-none f (Inner keys children) = refl
  partly-none f (Leaf keys vals) = refl
  partly-none f (Free next) = refl

  partly-all : (f : ℕ → ℕ) (index : ℕ) (content : Content K V) → length (children_of content) ≤ index → partly f index content ≡ renamed f content
  partly-all f index (Inner keys children) past = ap (λ z. Inner keys z) (cc (take_all index children past, drop_all index children past, map-append f (take index children) (drop index children), take-append-drop index children))
  partly-all f index (Leaf keys vals) past = refl
  partly-all f index (Free next) past = refl

  renamed-agree : (f g : ℕ → ℕ) (content : Content K V) → ((k : ℕ) → 0 < count k (children_of content) → f k ≡ g k) → renamed f content ≡ renamed g content
  renamed-agree f g (Inner keys children) same = ap (λ z. Inner keys z) (map-agree f g children same)
  renamed-agree f g (Leaf keys vals) same = refl
  renamed-agree f g (Free next) same = refl

  partly-next : (f g : ℕ → ℕ) (content : Content K V) (index x made : ℕ) → slice_get (children_of content) index ≡ Some x → map g (take index (children_of content)) ≡ map f (take index (children_of content)) → g x ≡ made →
      with_child_at (partly f index content) index made ≡ partly g (suc index) content
  partly-next f g (Inner keys children) index x made found same is = ap (λ z. Inner keys z) (set-next f g children index x made found same is)
  partly-next f g (Leaf keys vals) index x made found same is = refl
  partly-next f g (Free next) index x made found same is = refl

  -- a node with children is an inner node, with as many under other names
  pub partly-kids : (f : ℕ → ℕ) (index : ℕ) (content : Content K V) → 0 < length (children_of content) → IsInner (partly f index content) × (entry_count (partly f index content) ≡ length (children_of content))
  partly-kids f index (Inner keys children) some = (tt, omega (arith, length-append (map f (take index children)) (drop index children), length-map (take index children) f, length-append (take index children) (drop index children), ap length (take-append-drop index children)))
  partly-kids f index (Leaf keys vals) some = absurd (omega arith)
  partly-kids f index (Free next) some = absurd (omega arith)

  -- copies of some nodes stay where their slots stay
  copied-later : {old new : List (Content K V)} (later : List (Content K V)) {own : List ℕ} {f : ℕ → ℕ} → AreCopied old new own f → ((m : ℕ) → 0 < count m own → slice_get later (f m) ≡ slice_get new (f m)) → AreCopied old later own f
  copied-later later c same = record { closed = c.closed; copied = λ m content some found. same m some ∙ c.copied m content some found }

  -- copies of nodes as they are now are copies of them as they were
  copied-earlier : (old : List (Content K V)) {now new : List (Content K V)} {own : List ℕ} {f : ℕ → ℕ} → AreCopied now new own f → ((m : ℕ) → 0 < count m own → slice_get now m ≡ slice_get old m) → AreCopied old new own f
  copied-earlier old c same = record {
    closed = λ m k content some found names. c.closed m k content some (same m some ∙ found) names;
    copied = λ m content some found. c.copied m content some (same m some ∙ found);
  }

  -- copies of some nodes and of others
  copied-both : {old new : List (Content K V)} {own own' : List ℕ} {f g : ℕ → ℕ} → ((m : ℕ) → count m own + count m own' ≤ 1) → AreCopied old new own f → AreCopied old new own' g →
      AreCopied old new (own ++ own') (λ m. pick (count m own) (f m) (g m))
  copied-both {new = new} {own = own} {own'} {f} {g} apart a b = record {
    closed = λ m k content some found names. elim (cases_lt 0 (count m own)) [
      | inl here ↦ omega (arith, count-append, a.closed m k content here found names)
      | inr none ↦ (let there : 0 < count m own' = omega (arith, count-append) in omega (arith, count-append, b.closed m k content there found names))
    ];
    copied = λ m content some found. elim (cases_lt 0 (count m own)) [
      | inl here ↦ ap (slice_get new) (pick-some _ (f m) (g m) here) ∙ a.copied m content here found
          ∙ ap Some (renamed-agree f (λ m. pick (count m own) (f m) (g m)) content (λ k names. sym (pick-some _ (f k) (g k) (a.closed m k content here found names))))
      | inr none ↦ (let there : 0 < count m own' = omega (arith, count-append) in let gone : count m own ≡ 0 = omega arith in
          ap (slice_get new) (pick-none _ (f m) (g m) gone) ∙ b.copied m content there found
          ∙ ap Some (renamed-agree g (λ m. pick (count m own) (f m) (g m)) content (λ k names. sym (pick-none _ (f k) (g k) (let far = b.closed m k content there found names in omega (arith, apart k))))))
    ];
  }

  -- copies of the nodes below a node, and of the node
  copied-node : {old new : List (Content K V)} {own : List ℕ} {f : ℕ → ℕ} (node copy : ℕ) (content : Content K V) (all : List ℕ) → count node own ≡ 0 → AreCopied old new own f →
      slice_get old node ≡ Some content → ((k : ℕ) → 0 < count k (children_of content) → 0 < count k own) → slice_get new copy ≡ Some (renamed f content) →
      ((m : ℕ) → count m all ≡ count m own + count m (node ∷ [])) → AreCopied old new all (λ m. pick (count m own) (f m) copy)
  copied-node {old} {new} {own} {f} node copy content all none c found kids made counted =
      let other : (m : ℕ) → (here : Content K V) → 0 < count m all → count m own ≡ 0 → slice_get old m ≡ Some here → (here ≡ content) =
      λ m here some gone read. (let e = same_one m node (omega (arith, counted m)) in some_same (sym read ∙ ap (slice_get old) (sym e) ∙ found)) in
      record {
        closed = λ m k here some read names. elim (cases_lt 0 (count m own)) [
          | inl there ↦ omega (arith, counted k, c.closed m k here there read names)
          | inr past ↦ (let e = other m here some (omega arith) read in omega (arith, counted k, kids k (subst (λ z. 0 < count k (children_of z)) e names)))
        ];
        copied = λ m here some read. elim (cases_lt 0 (count m own)) [
          | inl there ↦ ap (slice_get new) (pick-some _ (f m) copy there) ∙ c.copied m here there read
              ∙ ap Some (renamed-agree f (λ m. pick (count m own) (f m) copy) here (λ k names. sym (pick-some _ (f k) copy (c.closed m k here there read names))))
          | inr past ↦ (let gone : count m own ≡ 0 = omega arith in let e = other m here some gone read in
              ap (slice_get new) (pick-none _ (f m) copy gone) ∙ made ∙ ap (λ z. Some (renamed f z)) (sym e)
              ∙ ap Some (renamed-agree f (λ m. pick (count m own) (f m) copy) here (λ k names. sym (pick-some _ (f k) copy (kids k (subst (λ z. 0 < count k (children_of z)) e names))))))
        ];
      }

  -- a node and everything below its first children is copied
  pub record Copying (most : ℕ) (old now : Table K V) (leaves : Row K V) (lower : Rows K) (number copy index : ℕ) : Type 0 where
    pub opened : Opened most old.nodes leaves lower number
    pub whole : Distinct (numbers_under leaves lower ++ old.chain)
    pub left_leaves : Row K V
    pub left_rows : Rows K
    pub own : List ℕ
    pub name : ℕ → ℕ
    pub taken : List ℕ
    pub under : Under most old.nodes left_leaves left_rows (drop index opened.top)
    pub height : length left_rows ≡ length opened.rows
    pub split : (m : ℕ) → count m (numbers_under opened.low opened.rows) ≡ count m own + count m (numbers_under left_leaves left_rows)
    pub kids : (m : ℕ) → 0 < count m (take index (children_of opened.content)) → 0 < count m own
    pub copies : AreCopied old.nodes now.nodes own name
    pub slot_is : slice_get now.nodes copy ≡ Some (partly name index opened.content)
    pub draws : Draws old now [] (copy ∷ map name own) taken

  -- at first the node alone is copied
  pub copying-first : {most : ℕ} {old now : Table K V} {leaves lower number copy : _} → Distinct (numbers_under leaves lower ++ old.chain) → (o : Opened most old.nodes leaves lower number)
      → Takes old now copy o.content → Copying most old now leaves lower number copy 0
  copying-first {copy = copy} apart o t = record {
    opened = o;
    whole = apart;
    left_leaves = o.low;
    left_rows = o.rows;
    own = [];
    name = λ m. m;
    taken = copy ∷ [];
    under = o.under;
    height = refl;
    split = λ m. omega arith;
    kids = λ m some. absurd (omega arith);
    copies = record { closed = λ m k content some. absurd (omega arith); copied = λ m content some. absurd (omega arith) };
    slot_is = t.here ∙ ap Some (sym (partly-none (λ m. m) o.content));
    draws = t.draws;
  }

  -- the node was copied into the front of the free list
  pub copying-start : {most : ℕ} {old now : Table K V} {leaves lower number copy : _} → Distinct (numbers_under leaves lower ++ old.chain) → (o : Opened most old.nodes leaves lower number) →
      front_of old.chain ≡ Some copy → now ≡ with_front old old.chain o.content → IsUsed now copy → Copying most old now leaves lower number copy 0
  copying-start {old = old} {now} {copy = copy} apart o front is used = copying-first apart o
      (takes old now copy o.content front is (omega (arith, used.within, ap (λ z. length z.nodes) is, length-with_front old old.chain o.content)))

  module _ {most : ℕ} {old now : Table K V} {leaves : Row K V} {lower : Rows K} {number copy index : ℕ} (s : Copying most old now leaves lower number copy index) where
    -- a number of the nodes that are copied is not that of a node that was taken, so its slot is unchanged
    slot_kept : (m : ℕ) → 0 < count m (numbers_under leaves lower) → slice_get now.nodes m ≡ slice_get old.nodes m
    slot_kept m some = s.draws.others m (omega (arith, s.whole m, ap (count m) s.draws.chain_is, count-append))

    -- the node's slot is unchanged
    pub node_kept : slice_get now.nodes number ≡ slice_get old.nodes number
    node_kept = slot_kept number (omega (arith, s.opened.counted number, count-same number []))

    -- the copy is not on the free list
    pub copy_off : count copy now.chain ≡ 0
    copy_off = omega (arith, count-same copy (map s.name s.own), s.draws.numbers_are copy, ap (count copy) s.draws.chain_is, s.whole copy, count-append)

    -- nodes were taken as many as were copied
    pub taken_length : length s.taken ≡ suc (length s.own)
    taken_length = omega (arith, length-same (copy ∷ map s.name s.own) (s.taken ++ []) s.draws.numbers_are, length-append s.taken [], length-map s.own s.name)

    -- the next child of the top
    pub record CopyTurn (child : ℕ) : Type 0 where
      pub x : K × ℕ
      pub child_is : x.1 ≡ child
      pub low : index < length s.opened.top
      pub found : slice_get (children_of s.opened.content) index ≡ Some child
      pub cut : UnderCut most old.nodes s.left_leaves s.left_rows (x ∷ []) (drop (suc index) s.opened.top)
      pub under : Under most now.nodes cut.leaves_left cut.lower_left ((x.0, child) ∷ [])
      pub apart : Distinct (numbers_under cut.leaves_left cut.lower_left ++ now.chain)

    pub copy-turn : IsLeafCapacity most → {child : ℕ} → slice_get (children_of s.opened.content) index ≡ Some child → CopyTurn child
    copy-turn capacity {child} found =
        let i = item_at s.opened.top index child (cc (s.opened.children_are)) in let x = i.0 in
        let cut = under-cut most old.nodes (some_leaf capacity) (x ∷ []) (drop (suc index) s.opened.top) (rw (← drop-read s.opened.top index x i.1) s.under) in
        let here = under-same now.nodes (λ m some. slot_kept m (omega (arith, s.opened.counted m, s.split m, cut.counted m))) cut.left in
        record {
          x = x;
          child_is = i.2;
          low = slice_get_within _ _ _ i.1;
          found = found;
          cut = cut;
          under = subst (λ z. Under most now.nodes cut.leaves_left cut.lower_left ((x.0, z) ∷ [])) i.2 here;
          apart = λ m. omega (arith, s.whole m, s.opened.counted m, s.split m, cut.counted m, ap (count m) s.draws.chain_is, count-append);
        }

    -- as many nodes are free as the next child and everything below it are, if there were enough for all
    pub turn_room : {child : ℕ} (t : CopyTurn child) → length (numbers_under leaves lower) ≤ length old.chain → length (numbers_under t.cut.leaves_left t.cut.lower_left) ≤ length now.chain
    turn_room t room = let own = numbers_under t.cut.leaves_left t.cut.lower_left in let rest = numbers_under t.cut.leaves_right t.cut.lower_right in
        let all : (m : ℕ) → count m (numbers_under leaves lower) ≡ count m (((s.own ++ own) ++ rest) ++ number ∷ []) = λ m. omega (arith, s.opened.counted m, s.split m, t.cut.counted m, count-append) in
        omega (
          arith,
          room,
          length-same (numbers_under leaves lower) (((s.own ++ own) ++ rest) ++ number ∷ []) all,
          length-append ((s.own ++ own) ++ rest) (number ∷ []),
          length-append (s.own ++ own) rest,
          length-append s.own own,
          ap length s.draws.chain_is,
          length-append s.taken now.chain,
          taken_length,
        )

    -- where the copy stands after the next child was copied
    pub record CopyHere (new : Table K V) : Type 0 where
      pub here : slice_get new.nodes copy ≡ Some (partly s.name index s.opened.content)
      pub off : count copy new.chain ≡ 0

    pub copy-here : {new : Table K V} {own : List ℕ} {child made : ℕ} → Copies now new own child made → CopyHere new
    copy-here {new} g = let z : count copy new.chain ≡ 0 = omega (arith, copy_off, ap (count copy) g.draws.chain_is, count-append) in
        record { here = g.draws.others copy (omega (arith, copy_off, ap (count copy) g.draws.chain_is, count-append)) ∙ s.slot_is; off = z }

    -- the next child is copied, with everything below it, and its copy's number written to the copy of the node
    pub copying-next : {new later : Table K V} {child made : ℕ} (t : CopyTurn child) → Copies now new (numbers_under t.cut.leaves_left t.cut.lower_left) child made →
        Puts new later copy (with_child_at (partly s.name index s.opened.content) index made) → Copying most old later leaves lower number copy (suc index)
    copying-next {new} {later} {child} {made} t g p =
        let own' = numbers_under t.cut.leaves_left t.cut.lower_left in let f : ℕ → ℕ = λ m. pick (count m s.own) (s.name m) (g.name m) in
        let kids = children_of s.opened.content in
        let counted : (m : ℕ) → count m (numbers_under leaves lower) ≡ ((count m s.own + count m own') + count m (numbers_under t.cut.leaves_right t.cut.lower_right)) + count m (number ∷ []) = λ m. omega (arith, s.opened.counted m, s.split m, t.cut.counted m) in
        let apart : (m : ℕ) → count m s.own + count m own' ≤ 1 = λ m. omega (arith, s.whole m, counted m, count-append) in
        let drawn : (m : ℕ) → (count m s.taken + count m now.chain ≡ count m old.chain) × (count m g.taken + count m new.chain ≡ count m now.chain) × (count m old.chain ≤ 1) = λ m. (omega (arith, ap (count m) s.draws.chain_is, count-append), omega (arith, ap (count m) g.draws.chain_is, count-append), omega (arith, s.whole m, count-append)) in
        let first = copied-later later.nodes s.copies (λ m some. let z = s.name m in let among = name-among s.name m s.own some in
        p.others z (omega (arith, among, drawn z, s.draws.numbers_are z, count-append)) ∙ g.draws.others z (omega (arith, among, drawn z, s.draws.numbers_are z, count-append))) in
        let second = copied-earlier old.nodes (copied-later later.nodes g.copies (λ m some. let z = g.name m in let among = name-among g.name m own' some in
        p.others z (omega (arith, among, drawn z, s.draws.numbers_are z, g.draws.numbers_are z, count-append)))) (λ m some. slot_kept m (omega (arith, counted m))) in
        let names : map f (s.own ++ own') ≡ map s.name s.own ++ map g.name own' =
        map-append f s.own own' ∙ ap (λ z. z ++ map f own') (map-agree f s.name s.own (λ m some. pick-some _ (s.name m) (g.name m) some))
        ∙ ap (λ z. map s.name s.own ++ z) (map-agree f g.name own' (λ m some. pick-none _ (s.name m) (g.name m) (omega (arith, apart m)))) in
        let both = draws-then [] (copy ∷ (map s.name s.own ++ map g.name own')) (λ m. omega (arith, count-append m (map s.name s.own) (map g.name own'))) s.draws g.draws in
        let written = draws-after [] (copy ∷ (map s.name s.own ++ map g.name own')) (λ m. omega arith) both p.frees in
        record {
          opened = s.opened;
          whole = s.whole;
          left_leaves = t.cut.leaves_right;
          left_rows = t.cut.lower_right;
          own = s.own ++ own';
          name = f;
          taken = s.taken ++ g.taken;
          under = t.cut.right;
          height = t.cut.right_height ∙ s.height;
          split = λ m. omega (arith, s.split m, t.cut.counted m, count-append);
          kids = λ m some. (let e = ap (count m) (last_taken kids index child t.found) in elim (cases_lt 0 (count m (take index kids))) [
            | inl here ↦ omega (arith, count-append, s.kids m here)
            | inr none ↦ (let last = same_one m child (omega (arith, count-append)) in omega (arith, count-append, subst (λ z. 0 < count z own') last g.among))
          ]);
          copies = copied-both apart first second;
          slot_is = p.here ∙ ap Some (partly-next s.name f s.opened.content index child made t.found
              (map-agree f s.name (take index kids) (λ m some. pick-some _ (s.name m) (g.name m) (s.kids m some)))
              (pick-none _ (s.name child) (g.name child) (omega (arith, apart child, g.among)) ∙ g.copy_is));
          draws = rw names written;
        }

    -- at last everything below the node is copied
    pub copying-last : IsLeafCapacity most → length s.opened.top ≤ index → Copies old now (numbers_under leaves lower) number copy
    copying-last capacity past =
        let none = under_none most capacity (subst (Under most old.nodes s.left_leaves s.left_rows) (drop_all _ _ past) s.under) in
        let counted : (m : ℕ) → count m (numbers_under leaves lower) ≡ count m s.own + count m (number ∷ []) = λ m. omega (arith, s.opened.counted m, s.split m, none m) in
        let f : ℕ → ℕ = λ m. pick (count m s.own) (s.name m) copy in let content = s.opened.content in
        let many : length (children_of content) ≤ index = omega (arith, ap length s.opened.children_are, length-map s.opened.top (λ (e : K × ℕ). e.1)) in
        let gone : count number s.own ≡ 0 = omega (arith, s.whole number, counted number, count-same number [], count-append) in
        let kids = λ (m : ℕ) (some : 0 < count m (children_of content)). s.kids m (subst (λ z. 0 < count m z) (sym (take_all index (children_of content) many)) some) in
        let names : map f (s.own ++ number ∷ []) ≡ map s.name s.own ++ copy ∷ [] =
        map-append f s.own (number ∷ []) ∙ ap (λ z. z ++ map f (number ∷ [])) (map-agree f s.name s.own (λ m some. pick-some _ (s.name m) copy some))
        ∙ ap (λ z. map s.name s.own ++ z ∷ []) (pick-none _ (s.name number) copy gone) in
        record {
          name = f;
          taken = s.taken;
          copies = copied-node number copy content (numbers_under leaves lower) gone s.copies s.opened.slot_is kids (s.slot_is ∙ ap Some (partly-all s.name index content many)) counted;
          among = omega (arith, counted number, count-same number []);
          copy_is = pick-none _ (s.name number) copy gone;
          draws = trades-wider [] (map f (numbers_under leaves lower))
              (λ k. omega (arith, names-same f (numbers_under leaves lower) (s.own ++ number ∷ []) (λ m. omega (arith, counted m, count-append)) k, ap (count k) names, count-append)) s.draws;
        }
