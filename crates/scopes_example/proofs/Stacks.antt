-- The scopes of a symbol table, as its maps change.
use Rattle.bforest.proofs.Clients.{length-put_all, put_all-more}
use Rattle.bforest.specs.Entries.{is_present, value_for}
use Rattle.bforest.specs.Refusal.{OutOfMemory}
use Rattle.bforest_indexed.proofs.Clients.{length-stack, stack-beside, stack-parts, stack-top, stays-within}
use Rattle.bforest_indexed.specs.Indexed.{ChangesAt, Indexed, InsertsAt, StaysWithin, entries, stack}
use Rattle.scopes_example.specs.Scopes.{AreKept, HasRoomFor, HasRoomForAll, IsWithinRoom, Scope, Symbols, innermost, seen, with_all, with_definition}
use Rattle.std.proofs.Common.{Err, IfOk, IsOk, List, Ok, OnOk, Option, Result, [], ap, arith, drop, false, get_or, length, refl, subst, sym, take, ◌+◌, ◌-◌, ◌<◌, ◌∙◌, ◌∷◌, ◌≡◌, ◌≤◌, ℕ}
use Rattle.std.proofs.lemmas.List.{length-take-le}
use Rattle.std.specs.Ordering.{nat_cmp}

-- one definition more
more : (ss : List Scope) (xs : List (ℕ × ℕ)) (i : ℕ) → i < length xs → with_all ss (take (i + 1) xs) ≡ with_definition (with_all ss (take i xs)) (get_or xs i (0, 0)).0 (get_or xs i (0, 0)).1
more [] xs i low = refl
more (s ∷ ss) xs i low = ap (λ l. l ∷ ss) (put_all-more nat_cmp s xs i (0, 0) low)

as-many : (ss : List Scope) (xs : List (ℕ × ℕ)) → length (with_all ss xs) ≡ length ss
as-many [] xs = refl
as-many (s ∷ ss) xs = refl

outer-stay : (ss : List Scope) (xs : List (ℕ × ℕ)) → drop 1 (with_all ss xs) ≡ drop 1 ss
outer-stay [] xs = refl
outer-stay (s ∷ ss) xs = refl

-- the table s became t by definitions
module _ (s : Symbols) {t : Symbols} (xs : List (ℕ × ℕ)) (is : t ≡ record s { scopes = with_all s.scopes xs }) where
  pub outer_same : record t { scopes = drop 1 t.scopes } ≡ record s { scopes = drop 1 s.scopes }
  outer_same = ap (λ (z : Symbols). record z { scopes = drop 1 z.scopes }) is ∙ ap (λ (ls : List Scope). record s { scopes = ls }) (outer-stay s.scopes xs)

  pub same_depth : length t.scopes ≡ length s.scopes
  same_depth = ap (λ (z : Symbols). length z.scopes) is ∙ as-many s.scopes xs

-- the table s became t by the first i definitions
module _ (s : Symbols) {t : Symbols} (xs : List (ℕ × ℕ)) (i : ℕ) (is : t ≡ record s { scopes = with_all s.scopes (take i xs) }) (low : i < length xs) where
  -- one definition more, by which t became u
  pub next : {u : Symbols} → u ≡ record t { scopes = with_definition t.scopes (get_or xs i (0, 0)).0 (get_or xs i (0, 0)).1 } → u ≡ record s { scopes = with_all s.scopes (take (i + 1) xs) }
  next done = done ∙ ap (λ (z : Symbols). record z { scopes = with_definition z.scopes (get_or xs i (0, 0)).0 (get_or xs i (0, 0)).1 }) is
      ∙ ap (λ (ls : List Scope). record s { scopes = ls }) (sym (more s.scopes xs i low))

  -- there is room for one more
  pub room_next : (k : ℕ) → HasRoomForAll s (length xs) → HasRoomFor t k
  room_next k room = subst (λ (z : Symbols). HasRoomFor z k) (sym is) (go s.scopes room.each room.here)
    where
      go : (ss : List Scope) → IsWithinRoom (record s { scopes = ss }) → length (innermost ss) + length xs ≤ s.most_names → HasRoomFor (record s { scopes = with_all ss (take i xs) }) k
      go [] each here = record { each = tt; here = λ absent. omega (arith, here, low) }
      go (l ∷ ls) each here =
          let few = length-put_all nat_cmp l (take i xs) in
          let taken = length-take-le i xs (omega (arith, low)) in
          record { each = (omega (arith, few, taken, here, low), each.1); here = λ absent. omega (arith, few, taken, here, low) }

-- what contracts see of a table is s
module _ (m : Indexed ℕ ℕ (Unit {0})) (d w n : ℕ) {s : Symbols} (view : seen m d w n ≡ s) where
  pub deep : length s.scopes ≡ d
  deep = ap (λ (z : Symbols). length z.scopes) (sym view) ∙ length-stack m d

  pub most : s.most_scopes ≡ w
  most = ap (λ (z : Symbols). z.most_scopes) (sym view)

  module _ (inside : 0 < length s.scopes) where
    some : 0 < d
    some = omega (arith, inside, deep)

    top : innermost (stack m d) ≡ entries m (d - 1)
    top = ap innermost (stack-parts m d some)

    -- the innermost scope was left
    pub left : {m' : Indexed ℕ ℕ (Unit {0})} → ChangesAt m (d - 1) m' → seen m' (d - 1) w n ≡ record s { scopes = drop 1 s.scopes }
    left b = ap (λ (ls : List Scope). record { scopes = ls; most_scopes = w; most_names = n }) (stack-beside (d - 1) b (omega arith) ∙ sym (ap (drop 1) (stack-parts m d some)))
        ∙ ap (λ (z : Symbols). record z { scopes = drop 1 z.scopes }) view

    module _ {m' : Indexed ℕ ℕ (Unit {0})} {k x : ℕ} {r : Result (Option ℕ) OutOfMemory} (i : InsertsAt 7 nat_cmp m (d - 1) k x r m') where
      -- what a name meant before it was defined
      pub meant : IfOk r (λ was. was ≡ value_for nat_cmp (innermost s.scopes) k)
      meant = subst (λ es. IfOk r (λ was. was ≡ value_for nat_cmp es k)) (sym top ∙ ap (λ (z : Symbols). innermost z.scopes) view) i.ok

      -- a definition within the room is made
      pub has_room : AreKept m d w n → HasRoomFor s k → IsOk r
      has_room a given =
          let room = subst (λ (z : Symbols). HasRoomFor z k) (sym view) given in
          i.room w n (subst (λ c. StaysWithin nat_cmp c n m (d - 1) k) a.maps_are
          (stays-within nat_cmp m d n (d - 1) k room.each a.unused (subst (λ es. is_present nat_cmp es k ≡ false → length es < n) top room.here))) a.room

    -- a name was defined
    pub defined : {m' : Indexed ℕ ℕ (Unit {0})} {k x : ℕ} (r : Result (Option ℕ) OutOfMemory) → InsertsAt 7 nat_cmp m (d - 1) k x r m' → OnOk r (seen m' d w n ≡ record s { scopes = with_definition s.scopes k x })
    defined (Err e) i = tt
    defined {k = k} {x} (Ok old) i = ap (λ (ls : List Scope). record { scopes = ls; most_scopes = w; most_names = n })
        (stack-top d some i.beside ∙ (λ j. i.put j ∷ drop 1 (stack-parts m d some j)) ∙ sym (ap (λ ls. with_definition ls k x) (stack-parts m d some)))
        ∙ ap (λ (z : Symbols). record z { scopes = with_definition z.scopes k x }) view

-- there is room for definitions in a scope that was entered
pub room_within : (s : Symbols) {t : Symbols} {n : ℕ} → t ≡ record s { scopes = [] ∷ s.scopes } → IsWithinRoom s → n ≤ s.most_names → HasRoomForAll t n
room_within s {n = n} is each few = subst (λ (z : Symbols). HasRoomForAll z n) (sym is) (record { each = (omega (arith, few), each); here = omega (arith, few) })
