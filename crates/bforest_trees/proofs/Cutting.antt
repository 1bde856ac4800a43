-- What a removal at a place, and the end of a tree, leave.
use Rattle.bforest_trees.proofs.Changed.{becomes, list-none, list-root, same_list, same_sizes, sizes-new, sizes-none, sizes-root}
use Rattle.bforest_trees.proofs.ranges.Lowering.{lowers-by}
use Rattle.bforest_trees.proofs.Sifted.{shrink-fewer}
use Rattle.bforest_trees.proofs.Spots.{spot-on}
use Rattle.bforest_trees.specs.Place.{IsSpot, OnSpot}
use Rattle.bforest_core.proofs.walks.Standing.{on-within}
use Rattle.bforest_trees.specs.Calls.{CutsFrom, Lowers, truncation}
use Rattle.std.proofs.lemmas.Bool.{lt-ltb}
use Rattle.std.proofs.lemmas.List.{take_all}
use Rattle.bforest_core.specs.Paths.{CutsHere, IsAtEnd, OnEntry, StandsAt, list_under, sizes_under}
use Rattle.bforest_core.specs.declared.path.Path.{Path}
use Rattle.bforest_trees.specs.Forest.{Becomes, Forest, Gives, IsFree, IsLive, list_at, list_of, sizes_at, sizes_of as forest_sizes, sizes_without}
use Rattle.bforest_core.specs.Change.{Changes, Ends, GivesNodes, Shrinks}
use Rattle.bforest_core.specs.Levels.{flat, sizes_of}
use Rattle.bforest_core.specs.Sizes.{shrink, truncated}
use Rattle.bforest_core.specs.Table.{Table}
use Rattle.bforest_core.specs.Trees.{IsUnion, is_root, tree_of}
use Rattle.bforest_nodes.specs.Entries.{is_present, place}
use Rattle.std.proofs.Common.{IsTrue, List, None, Option, Some, [], IfSome, nat_lt, take, ap, arith, false, if◌then◌else◌, length, length-append, refl, remove, subst, suc, sym, true, zero, ◌-◌, ◌<◌, ◌∙◌, ◌∷◌, ◌≡◌, ◌≢◌, ◌≤◌, ◌↔◌, ℕ}
use Rattle.std.specs.declared.cmp.Ordering.{Ordering}

-- a removal from a list of one entry leaves none
pub remove-last : {X : Type 0} (es : List X) (p : ℕ) → length es ≡ 1 → p < length es → remove es p ≡ []
remove-last [] p one low = absurd (omega (arith, one))
remove-last (e ∷ (x ∷ es)) p one low = absurd (omega (arith, one))
remove-last (e ∷ []) zero one low = refl
remove-last (e ∷ []) (suc p) one low = absurd (omega (arith, low))

pub truncation-some : (p n : ℕ) (sizes : List (List ℕ)) → 0 < n → truncation p n sizes ≡ truncated p sizes
truncation-some p zero sizes some = absurd (omega (arith, some))
truncation-some p (suc n) sizes some = refl

pub ltb-none : (n : ℕ) → nat_lt n n ≡ false
ltb-none n = grind arith

some_same : (n q : ℕ) → Some n ≡ Some q → n ≡ q
some_same n q e = cc

-- a removal answers the old root exactly where the number of levels stays
pub same-cut : (r : ℕ) (old ss : List (List ℕ)) (o : Option ℕ) → IfSome o (λ r'. (r' ≡ r) ↔ (length ss ≡ length old)) → (o ≡ None → ss ≡ []) → 1 ≤ length old → (o ≡ Some r) ↔ (length ss ≡ length old)
same-cut r old ss None h none some = (λ e. absurd (cc), λ e. absurd (omega (arith, e, some, ap length (none refl))))
same-cut r old ss (Some r') h none some = (λ e. h.0 (some_same r' r e), λ e. ap Some (h.1 e))

-- the sizes stay where the key is absent
pub without-absent : {K X : Type 0} (most : ℕ) (cmp : K → K → Ordering) (f : Forest K X) (h : Option ℕ) (k : K) → is_present cmp (list_of f h) k ≡ false → sizes_without most cmp f h k ≡ forest_sizes f h
without-absent most cmp f h k gone = λ j. if gone j then shrink most (place cmp (list_of f h) k) (forest_sizes f h) else forest_sizes f h

-- the sizes shrink by the key's place where the key is present
pub without-present : {K X : Type 0} (most : ℕ) (cmp : K → K → Ordering) (f : Forest K X) (h : Option ℕ) (k : K) → is_present cmp (list_of f h) k ≡ true → sizes_without most cmp f h k ≡ shrink most (place cmp (list_of f h) k) (forest_sizes f h)
without-present most cmp f h k here = λ j. if here j then shrink most (place cmp (list_of f h) k) (forest_sizes f h) else forest_sizes f h

-- a forest that stays becomes its own list
pub becomes-same : {K X : Type 0} (f : Forest K X) (h : Option ℕ) → IsLive f h → Becomes f h f h (list_of f h)
becomes-same f h live = record {
  live = live;
  list = refl;
  leaves = λ ne. absurd (ne refl);
  fresh = λ ne. absurd (ne refl);
  leaves_sizes = λ ne. absurd (ne refl);
  fresh_sizes = λ ne. absurd (ne refl);
  others = λ n ne ne'. refl;
  others_sizes = λ n ne ne'. refl;
  limit = refl;
}

module _ {K X : Type 0} where
  -- a table that stays changes each of its trees to itself
  pub changes-none : (most : ℕ) (t : Table K X) (root : ℕ) → IsUnion most t → IsTrue (is_root t.nodes root) → Changes most t t root root (flat (tree_of t.nodes root).leaves) (sizes_of (tree_of t.nodes root))
  changes-none most t root union is = record {
    union = union;
    root_is = is;
    list_is = refl;
    sizes_are = refl;
    others = λ other ne ne'. ((λ h. h, λ h. h), λ h. refl);
    old_gone = λ ne. absurd (ne refl);
    new_came = λ ne. absurd (ne refl);
    limit_is = refl;
  }

  -- a table that stays frees no node
  pub gives-none : (t : Table K X) (sizes : List (List ℕ)) → GivesNodes sizes sizes t t
  gives-none t sizes = record { given = []; chain_is = refl; slots = refl; memory_is = refl; count_is = omega arith }

  -- the nodes that a table was given back are free slots
  pub gives : (f f' : Forest K X) (before after : List (List ℕ)) → GivesNodes before after f f' → Gives before after f f'
  gives f f' before after g = record { slots = g.slots; memory = g.memory_is; free = omega (arith, g.count_is, ap length g.chain_is, length-append g.given f.chain) }

  -- a tree that ended becomes the empty list of an empty handle
  pub becomes-ended : (most : ℕ) (f f' : Forest K X) (r : ℕ) → Ends most f f' r → Becomes f (Some r) f' None []
  becomes-ended most f f' r e = record {
    live = tt;
    list = refl;
    leaves = λ ne. list-none f' r e.root_gone;
    fresh = λ ne. refl;
    leaves_sizes = λ ne. sizes-none f' r e.root_gone;
    fresh_sizes = λ ne. refl;
    others = λ n ne ne'. same_list f f' n (e.others n (λ (z : n ≡ r). ne (ap Some z)) (λ (z : n ≡ r). ne (ap Some z)));
    others_sizes = λ n ne ne'. same_sizes f f' n (e.others n (λ (z : n ≡ r). ne (ap Some z)) (λ (z : n ≡ r). ne (ap Some z)));
    limit = e.limit_is;
  }

  module _ (most : ℕ) (f f' : Forest K X) (r : ℕ) (es : List (K × X)) (ss : List (List ℕ)) where
    -- the table is a union of trees, whether a root or none is answered
    pub union-cut : (o : Option ℕ) → IfSome o (λ r'. Changes most f f' r r' es ss) → (o ≡ None → Ends most f f' r) → IsUnion most f'
    union-cut None c e = (e refl).union
    union-cut (Some r') c e = c.union

    -- the answered handle becomes the list es
    pub becomes-cut : (o : Option ℕ) → IfSome o (λ r'. Changes most f f' r r' es ss) → (o ≡ None → Ends most f f' r) → (o ≡ None → es ≡ []) → Becomes f (Some r) f' o es
    becomes-cut None c e none = subst (λ (l : List (K × X)). Becomes f (Some r) f' None l) (sym (none refl)) (becomes-ended most f f' r (e refl))
    becomes-cut (Some r') c e none = becomes most f f' r r' es ss c

    -- the answered handle has the sizes ss
    pub sizes-cut : (o : Option ℕ) → IfSome o (λ r'. Changes most f f' r r' es ss) → (o ≡ None → ss ≡ []) → forest_sizes f' o ≡ ss
    sizes-cut None c none = sym (none refl)
    sizes-cut (Some r') c none = sizes-new most f f' r r' es ss c

  -- the entry at a place of a handle's list was removed: what that leaves
  pub record IsTaken (most : ℕ) (f f' : Forest K X) (h : Option ℕ) (p : ℕ) (o : Option ℕ) : Type 0 where
    pub union : IsUnion most f'
    pub removed : Becomes f h f' o (remove (list_of f h) p)
    pub sizes : forest_sizes f' o ≡ shrink most p (forest_sizes f h)
    pub lowers : Lowers f h f' o
    pub account : Gives (forest_sizes f h) (forest_sizes f' o) f f'

  module _ (most : ℕ) (f f' : Forest K X) (n p : ℕ) (root : IsTrue (is_root f.nodes n)) (low : p < length (list_under f n)) where
    abbrev es : List (K × X)
    es = list_under f n

    abbrev ss : List (List ℕ)
    ss = sizes_under f n

    roots : (o : Option ℕ) (zs : List (K × X)) (us : List (List ℕ)) → IfSome o (λ r'. Changes most f f' n r' zs us) → IfSome o (λ r'. IsTrue (is_root f'.nodes r'))
    roots None zs us changes = tt
    roots (Some r') zs us changes = changes.root_is

    taken : (o : Option ℕ) → IfSome o (λ r'. Changes most f f' n r' (remove es p) (shrink most p ss)) → GivesNodes ss (shrink most p ss) f f' → IfSome o (λ r'. (r' ≡ n) ↔ (length (shrink most p ss) ≡ length ss)) →
        ((o ≡ None) ↔ (length es ≡ 1)) → (o ≡ None → Ends most f f' n) → (o ≡ None → shrink most p ss ≡ []) → (o ≢ Some n → IsFree f' n) → IsTaken most f f' (Some n) p o
    taken o changes gv same last ended none freed =
        let list : es ≡ list_at f n = sym (list-root f n root) in
        let sizes : ss ≡ sizes_at f n = sym (sizes-root f n root) in
        let now = sizes-cut most f f' n (remove es p) (shrink most p ss) o changes none in
        let levels = same-cut n ss (shrink most p ss) o same none (omega arith) in
        record {
          union = union-cut most f f' n (remove es p) (shrink most p ss) o changes ended;
          removed = subst (λ (l : List (K × X)). Becomes f (Some n) f' o (remove l p)) list
              (becomes-cut most f f' n (remove es p) (shrink most p ss) o changes ended (λ e. remove-last es p (last.0 e) low));
          sizes = now ∙ ap (λ (z : List (List ℕ)). shrink most p z) sizes;
          lowers = lowers-by most f f' n o gv (omega (arith, shrink-fewer most p ss, ap length now, ap length sizes))
              (λ e. ap length now ∙ levels.0 e ∙ ap length sizes, λ e. levels.1 (sym (ap length now) ∙ e ∙ sym (ap length sizes)))
              freed (union-cut most f f' n (remove es p) (shrink most p ss) o changes ended) (roots o _ _ changes);
          account = subst (λ (z : List (List ℕ)). Gives z (forest_sizes f' o) f f') sizes (subst (λ (z : List (List ℕ)). Gives ss z f f') (sym now) (gives f f' ss (shrink most p ss) gv));
        }

    -- the same of a tree that lost an entry
    pub shrunk : (path : List ℕ) (o : Option ℕ) → Shrinks most f f' path n p o → IsTaken most f f' (Some n) p o
    shrunk path o s = taken o s.changes s.account s.same_root s.last s.ended s.none_left s.freed_root

    -- after a removal the path stands where the next entry is, or at the end
    spot-left : (path' : Path K X most) (o : Option ℕ) → IfSome o (λ r'. StandsAt f' r' path' p) → ((o ≡ None) ↔ (length es ≡ 1)) → (o ≡ None → IsAtEnd path') → IsSpot f' o path' p
    spot-left path' None at last end = (end refl, (let one = last.0 refl in omega (arith, one, low)))
    spot-left path' (Some r') at last end = at

  -- a removal at a path of a handle removes the entry at the path's place
  pub taken-at : (most : ℕ) (f f' : Forest K X) (h : Option ℕ) (path : Path K X most) (o : Option ℕ) (at : OnSpot f h path) →
      ((e : OnEntry f path) → IfSome o (λ r'. Changes most f f' e.root r' (remove (list_under f e.root) e.place) (shrink most e.place (sizes_under f e.root)))) →
      ((e : OnEntry f path) → GivesNodes (sizes_under f e.root) (shrink most e.place (sizes_under f e.root)) f f') →
      ((e : OnEntry f path) → IfSome o (λ r'. (r' ≡ e.root) ↔ (length (shrink most e.place (sizes_under f e.root)) ≡ length (sizes_under f e.root)))) →
      ((e : OnEntry f path) → (o ≡ None) ↔ (length (list_under f e.root) ≡ 1)) → (o ≡ None → (e : OnEntry f path) → Ends most f f' e.root) → (o ≡ None → (e : OnEntry f path) → shrink most e.place (sizes_under f e.root) ≡ []) →
      ((e : OnEntry f path) → o ≢ Some e.root → IsFree f' e.root) → IsTaken most f f' h at.place o
  taken-at most f f' h path o at removed account same last ended none freed =
      let t = spot-on f path h at.place at.spot at.within in
      let e : OnEntry f path = record { root = t.0; place = at.place; on = t.2 } in
      subst (λ (z : Option ℕ). IsTaken most f f' z at.place o) (sym t.1)
      (taken most f f' t.0 at.place t.2.root_is (on-within f path t.2) o (removed e) (account e) (same e) (last e) (λ z. ended z e) (λ z. none z e) (freed e))

  -- the entries from a place of a handle's list on were removed: what that leaves
  pub record IsCutOff (most : ℕ) (f f' : Forest K X) (h : Option ℕ) (p : ℕ) (o : Option ℕ) : Type 0 where
    pub union : IsUnion most f'
    pub cuts : CutsFrom f h p true f' o

  cut-taken : (most : ℕ) (f f' : Forest K X) (n p : ℕ) → IsTrue (is_root f.nodes n) → p < length (list_under f n) → (o : Option ℕ) → IfSome o (λ r'. Changes most f f' n r' (take p (list_under f n)) (truncated p (sizes_under f n))) →
      GivesNodes (sizes_under f n) (truncated p (sizes_under f n)) f f' → IfSome o (λ r'. (r' ≡ n) ↔ (length (truncated p (sizes_under f n)) ≡ length (sizes_under f n))) →
      ((o ≡ None) ↔ (p ≡ 0)) → (o ≡ None → Ends most f f' n) → (o ≡ None → truncated p (sizes_under f n) ≡ []) → IsCutOff most f f' (Some n) p o
  cut-taken most f f' n p root low o changes gv same first ended none =
      let es = list_under f n in let ss = sizes_under f n in
      let list : es ≡ list_at f n = sym (list-root f n root) in let sizes : ss ≡ sizes_at f n = sym (sizes-root f n root) in
      let now = sizes-cut most f f' n (take p es) (truncated p ss) o changes none in
      let empty : o ≡ None → take p es ≡ [] = λ e. ap (λ z. take z es) (first.0 e) in
      record {
        union = union-cut most f f' n (take p es) (truncated p ss) o changes ended;
        cuts = record {
          removed = subst (λ (l : List (K × X)). Becomes f (Some n) f' o (take p l)) list (becomes-cut most f f' n (take p es) (truncated p ss) o changes ended empty);
          changed = sym (lt-ltb p (length (list_at f n)) (omega (arith, low, ap length list)));
          sizes = now ∙ ap (truncated p) sizes ∙ sym (truncation-some p (length (list_at f n) - p) (sizes_at f n) (omega (arith, low, ap length list)));
          same_levels = (let levels = same-cut n ss (truncated p ss) o same none (omega arith) in
              (λ e. ap length now ∙ levels.0 e ∙ ap length sizes, λ e. levels.1 (sym (ap length now) ∙ e ∙ sym (ap length sizes))));
          account = subst (λ (z : List (List ℕ)). Gives z (forest_sizes f' o) f f') sizes (subst (λ (z : List (List ℕ)). Gives ss z f f') (sym now) (gives f f' ss (truncated p ss) gv));
          same_forest = λ bad. absurd cc;
          same_handle = λ bad. absurd cc;
        };
      }

  -- a cut at a path of a handle removes the entries from the path's place on
  pub cut-at : (most : ℕ) (f f' : Forest K X) (h : Option ℕ) (path path' : Path K X most) (o : Option ℕ) (at : OnSpot f h path) → CutsHere f f' path path' o → IsCutOff most f f' h at.place o
  cut-at most f f' h path path' o at c =
      let t = spot-on f path h at.place at.spot at.within in
      let e : OnEntry f path = record { root = t.0; place = at.place; on = t.2 } in
      subst (λ (z : Option ℕ). IsCutOff most f f' z at.place o) (sym t.1)
      (cut-taken most f f' t.0 at.place t.2.root_is (on-within f path t.2) o (c.removed e) (c.account e) (c.same_root e) (c.first e) (λ z. c.ended z e) (λ z. c.none_left z e))

  -- a cut at the end of a list changes nothing
  pub cut-end : (f : Forest K X) (h : Option ℕ) (p : ℕ) → IsLive f h → p ≡ length (list_of f h) → CutsFrom f h p false f h
  cut-end f h p live is = rw is (record {
    removed = subst (Becomes f h f h) (sym (take_all (length (list_of f h)) (list_of f h) (omega arith))) (becomes-same f h live);
    changed = sym (ltb-none (length (list_of f h)));
    sizes = (let none : length (list_of f h) - length (list_of f h) ≡ 0 = omega arith in sym (ap (λ n. truncation (length (list_of f h)) n (forest_sizes f h)) none));
    same_levels = (λ e. refl, λ e. refl);
    account = record { slots = refl; free = refl; memory = refl };
    same_forest = λ e. refl;
    same_handle = λ e. refl;
  })

  -- after a removal at a path of a handle, the path stands at the same place
  pub spot-at : (most : ℕ) (f f' : Forest K X) (h : Option ℕ) (path path' : Path K X most) (o : Option ℕ) (at : OnSpot f h path)
      → ((e : OnEntry f path) → IfSome o (λ r'. StandsAt f' r' path' e.place))
      → ((e : OnEntry f path) → (o ≡ None) ↔ (length (list_under f e.root) ≡ 1)) → (o ≡ None → IsAtEnd path') → IsSpot f' o path' at.place
  spot-at most f f' h path path' o at stands last end =
      let t = spot-on f path h at.place at.spot at.within in
      let e : OnEntry f path = record { root = t.0; place = at.place; on = t.2 } in
      spot-left most f f' t.0 at.place t.2.root_is (on-within f path t.2) path' o (stands e) (last e) end
