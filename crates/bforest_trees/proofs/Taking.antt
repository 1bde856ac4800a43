-- Removing the entry at a place of a list, and at its end.
use Rattle.bforest_trees.proofs.Cutting.{becomes-same}
use Rattle.bforest_trees.specs.Calls.{RemovesAt, SameLevels}
use Rattle.bforest_trees.specs.Forest.{Becomes, Forest, Gives, IsLive, list_of, sizes_of}
use Rattle.bforest_core.specs.Sizes.{shrink}
use Rattle.std.proofs.Common.{Bool, List, None, Option, [], ap, arith, false, if◌then◌else◌, length, nat_lt, refl, remove, slice_get, subst, suc, sym, true, zero, ◌<◌, ◌∙◌, ◌∷◌, ◌≡◌, ◌≤◌, ℕ}
use Rattle.std.proofs.lemmas.Bool.{lt-ltb, ltb-true}

-- a removal at or past the end of a list changes nothing
pub remove-past : {A : Type 0} (xs : List A) (p : ℕ) → length xs ≤ p → remove xs p ≡ xs
remove-past [] zero past = refl
remove-past [] (suc p) past = refl
remove-past (x ∷ xs) zero past = absurd (omega (arith, past))
remove-past (x ∷ xs) (suc p) past = ap (λ l. x ∷ l) (remove-past xs p (omega (arith, past)))

-- a place without an element is at or past the end
pub none-past : {A : Type 0} (xs : List A) (p : ℕ) → None ≡ slice_get xs p → length xs ≤ p
none-past [] p e = omega arith
none-past (y ∷ xs) zero e = absurd (cc)
none-past (y ∷ xs) (suc p) e = omega (arith, none-past xs p e)

not-below : (m n : ℕ) → n ≤ m → nat_lt m n ≡ false
not-below m n h = go (nat_lt m n) refl
  where
    go : (b : Bool) → nat_lt m n ≡ b → b ≡ false
    go false e = refl
    go true e = absurd (let low = ltb-true m n e in omega (arith, low, h))

module _ {K X : Type 0} (most : ℕ) (f : Forest K X) (h : Option ℕ) (p : ℕ) where
  -- a removal at the end leaves the forest as it is
  pub removes-end : IsLive f h → length (list_of f h) ≤ p → RemovesAt most f h p f h
  removes-end live past = record {
    removed = subst (λ (l : List (K × X)). Becomes f h f h l) (sym (remove-past (list_of f h) p past)) (becomes-same f h live);
    sizes = sym (λ j. if not-below p (length (list_of f h)) past j then shrink most p (sizes_of f h) else sizes_of f h);
    same_levels = (λ e. refl, λ e. refl);
    account = record { slots = refl; free = refl; memory = refl };
    end_forest = λ e. refl;
    end_handle = λ e. refl;
  }

  -- a removal on an entry removes that entry
  pub removes-here : (f' : Forest K X) (h' : Option ℕ) → p < length (list_of f h) → Becomes f h f' h' (remove (list_of f h) p) → sizes_of f' h' ≡ shrink most p (sizes_of f h) → SameLevels f h f' h' → Gives (sizes_of f h) (sizes_of f' h') f f' → RemovesAt most f h p f' h'
  removes-here f' h' low becomes sizes same account = record {
    removed = becomes;
    sizes = sizes ∙ sym (λ j. if lt-ltb p (length (list_of f h)) low j then shrink most p (sizes_of f h) else sizes_of f h);
    same_levels = same;
    account = account;
    end_forest = λ past. absurd (omega (arith, past, low));
    end_handle = λ past. absurd (omega (arith, past, low));
  }
