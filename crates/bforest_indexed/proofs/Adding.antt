-- A list to which values that pass a test are added, one after another, and what that leaves of handles.
use Rattle.bforest_indexed.specs.Handles.{Adds}
use Rattle.std.proofs.Common.{Bool, Err, IsOk, IsTrue, List, None, Ok, OnErr, OnOk, Option, Result, [], ap, arith, get_or, length, refl, rules, subst, suc, sym, zero, ℕ, ◌++◌, ◌+◌, ◌<◌, ◌∙◌, ◌∷◌, ◌≡◌, ◌≤◌, ◌↔◌, ◌==◌}
use Rattle.std.proofs.lemmas.List.{append-nil, append_assoc, length-append}
use Rattle.std.specs.List.{AllByRecursion}

each-snoc : {H : Type 0} (passes : H → Type 0) (xs : List H) (x : H) → AllByRecursion passes xs → passes x → AllByRecursion passes (xs ++ x ∷ [])
each-snoc passes [] x each p = (p, tt)
each-snoc passes (y ∷ xs) x each p = (each.0, each-snoc passes xs x each.1 p)

module _ {H : Type 0} {passes : H → Type 0} (xs : List H) where
  pub adds-none : (ys : List H) → ys ≡ xs → Adds passes xs 0 ys
  adds-none ys is = record { added = []; each = tt; count = refl; items = is ∙ sym (append-nil xs) }

  pub adds-one : (n : ℕ) (ys zs : List H) (x : H) → Adds passes xs n ys → passes x → zs ≡ ys ++ x ∷ [] → Adds passes xs (n + 1) zs
  adds-one n ys zs x a p is = record {
    added = a.added ++ x ∷ [];
    each = each-snoc passes a.added x a.each p;
    count = length-append a.added (x ∷ []) ∙ ap (λ (i : ℕ). i + 1) a.count;
    items = is ∙ ap (λ (qs : List H). qs ++ x ∷ []) a.items ∙ append_assoc xs a.added (x ∷ []);
  }

  -- all were added
  pub adds-all : (ys : List H) (i more n : ℕ) → Adds passes xs i ys → more ≤ i → i ≤ more → more ≡ n → Adds passes xs n ys
  adds-all ys i more n a all most is = subst (λ (k : ℕ). Adds passes xs k ys) (search rules) a

-- no handle is there
pub none-at : (i : ℕ) → get_or {A = Option ℕ} [] i None ≡ None
none-at zero = refl
none-at (suc i) = refl

-- empty handles behind the others change no index
more-none : (hs qs : List (Option ℕ)) → AllByRecursion (λ h. h ≡ None) qs → (i : ℕ) → get_or (hs ++ qs) i None ≡ get_or hs i None
more-none [] [] each i = refl
more-none [] (q ∷ qs) each zero = each.0
more-none [] (q ∷ qs) each (suc i) = more-none [] qs each.1 i ∙ none-at i
more-none (h ∷ hs) qs each zero = refl
more-none (h ∷ hs) qs each (suc i) = more-none hs qs each i

module _ (hs qs : List (Option ℕ)) (n : ℕ) (a : Adds (λ h. h ≡ None) hs n qs) where
  -- each index has the same handle
  pub same-handles : (i : ℕ) → get_or qs i None ≡ get_or hs i None
  same-handles i = ap (λ (rs : List (Option ℕ)). get_or rs i None) a.items ∙ more-none hs a.added a.each i

  pub more-handles : length qs ≡ length hs + n
  more-handles = ap length a.items ∙ length-append hs a.added ∙ ap (λ (i : ℕ). length hs + i) a.count

pub none-handles : (qs : List (Option ℕ)) (n : ℕ) → Adds (λ h. h ≡ None) [] n qs → (i : ℕ) → get_or qs i None ≡ None
none-handles qs n a i = same-handles [] qs n a i ∙ none-at i

pub as-many : (qs : List (Option ℕ)) (n : ℕ) → Adds (λ h. h ≡ None) [] n qs → length qs ≡ n
as-many qs n a = ap length a.items ∙ a.count

-- the same of a call that adds them or is refused
module _ {E : Type 0} (hs qs : List (Option ℕ)) (n : ℕ) where
  pub tried-handles : (r : Result (Unit {0}) E) → OnOk r (Adds (λ h. h ≡ None) hs n qs) → OnErr r (qs ≡ hs) → (i : ℕ) → get_or qs i None ≡ get_or hs i None
  tried-handles (Ok done) adds same = same-handles hs qs n adds
  tried-handles (Err e) adds same = λ i. ap (λ (rs : List (Option ℕ)). get_or rs i None) same

  pub tried-more : (r : Result (Unit {0}) E) → OnOk r (Adds (λ h. h ≡ None) hs n qs) → OnOk r (length qs ≡ length hs + n)
  tried-more (Ok done) adds = more-handles hs qs n adds
  tried-more (Err e) adds = tt

-- a call that fails only where too little memory is held succeeds where there is enough
pub enough-ok : {T E : Type 0} (r : Result T E) {held n : ℕ} → OnErr r (held < n) → n ≤ held → IsOk r
enough-ok (Ok x) short enough = refl
enough-ok (Err e) short enough = absurd (omega (arith, short, enough))

-- one empty handle more changes no index
pub pushed : (hs held qs : List (Option ℕ)) (h : Option ℕ) → h ≡ None → held ≡ hs → qs ≡ held ++ h ∷ [] → (i : ℕ) → get_or qs i None ≡ get_or hs i None
pushed hs held qs h empty same is = same-handles hs qs 1 (adds-one hs 0 held qs h (adds-none hs held same) empty is)

-- a test whether a list is empty
pub tells-none : {X : Type 0} (b : Bool) (n : ℕ) (xs : List X) → n ≡ length xs → b ≡ (n == 0) → IsTrue b ↔ (length xs ≡ 0)
tells-none b n xs size is = search rules
