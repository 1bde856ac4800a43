-- What holds of each element of a list, and filters.
use Rattle.std.proofs.Common.{Bool, List, [], ap, false, if◌then◌else◌, refl, sym, true, ◌++◌, ◌&&◌, ◌||◌, ◌∙◌, ◌∷◌, ◌≡◌}
use Rattle.std.specs.List.{AllByRecursion, filter, list_any}

module _ {A : Type 0} where
  -- what holds of each element of two lists holds of each of both in a row
  pub all-both : (P : A → Type 0) (xs ys : List A) → AllByRecursion P xs → AllByRecursion P ys → AllByRecursion P (xs ++ ys)
  all-both P [] ys all more = more
  all-both P (x ∷ xs) ys all more = (all.0, all-both P xs ys all.1 more)

  pub all-zip : (P Q : A → Type 0) (xs : List A) → AllByRecursion P xs → AllByRecursion Q xs → AllByRecursion (λ x. P x × Q x) xs
  all-zip P Q [] a b = tt
  all-zip P Q (x ∷ xs) a b = ((a.0, b.0), all-zip P Q xs a.1 b.1)

  -- filters by two tests that agree at each element
  pub filter-agree : (p q : A → Bool) (xs : List A) → AllByRecursion (λ x. p x ≡ q x) xs → filter p xs ≡ filter q xs
  filter-agree p q [] all = refl
  filter-agree p q (x ∷ xs) all = (λ j. if all.0 j then x ∷ filter-agree p q xs all.1 j else filter-agree p q xs all.1 j)

  -- what follows of each element
  pub all-map : {P Q : A → Type 0} → ((x : A) → P x → Q x) → (xs : List A) → AllByRecursion P xs → AllByRecursion Q xs
  all-map f [] all = tt
  all-map f (x ∷ xs) all = (f x all.0, all-map f xs all.1)

  -- what holds of each element that passes a test holds of each that is left
  pub all-filter : (P : A → Type 0) (test : A → Bool) (xs : List A) → AllByRecursion (λ x. test x ≡ true → P x) xs → AllByRecursion P (filter test xs)
  all-filter P test [] all = tt
  all-filter P test (x ∷ xs) all = go (test x) refl (all-filter P test xs all.1)
    where
      go : (t : Bool) → test x ≡ t → AllByRecursion P (filter test xs) → AllByRecursion P (if t then x ∷ filter test xs else filter test xs)
      go true t more = (all.0 t, more)
      go false t more = more

  -- a filter where each element passes, and where none does
  pub filter-all : (test : A → Bool) (xs : List A) → AllByRecursion (λ x. test x ≡ true) xs → filter test xs ≡ xs
  filter-all test [] all = refl
  filter-all test (x ∷ xs) all = (λ j. if all.0 j then x ∷ filter-all test xs all.1 j else filter-all test xs all.1 j)

  pub filter-none : (test : A → Bool) (xs : List A) → AllByRecursion (λ x. test x ≡ false) xs → filter test xs ≡ []
  filter-none test [] all = refl
  filter-none test (x ∷ xs) all = (λ j. if all.0 j then x ∷ filter-none test xs all.1 j else filter-none test xs all.1 j)

  -- a filter after a filter is one
  pub filter-filter : (p q r : A → Bool) → ((x : A) → (q x && p x) ≡ r x) → (xs : List A) → filter p (filter q xs) ≡ filter r xs
  filter-filter p q r both [] = refl
  filter-filter p q r both (x ∷ xs) = go (q x) refl ∙ (λ j. if both x j then x ∷ filter-filter p q r both xs j else filter-filter p q r both xs j)
    where
      go : (t : Bool) → q x ≡ t → filter p (if q x then x ∷ filter q xs else filter q xs) ≡ (if q x && p x then x ∷ filter p (filter q xs) else filter p (filter q xs))
      go true t = (λ j. filter p (if t j then x ∷ filter q xs else filter q xs)) ∙ sym (λ j. if t j && p x then x ∷ filter p (filter q xs) else filter p (filter q xs))
      go false t = (λ j. filter p (if t j then x ∷ filter q xs else filter q xs)) ∙ sym (λ j. if t j && p x then x ∷ filter p (filter q xs) else filter p (filter q xs))

  -- whether an element passes a test, where none does
  pub any-none : (test : A → Bool) (xs : List A) → AllByRecursion (λ x. test x ≡ false) xs → list_any test xs ≡ false
  any-none test [] all = refl
  any-none test (x ∷ xs) all = λ j. all.0 j || any-none test xs all.1 j

  -- whether an element passes a test, after a filter that took out none that does, or that left none
  pub any-filter_all : (test keep : A → Bool) (xs : List A) → AllByRecursion (λ x. keep x ≡ false → test x ≡ false) xs → list_any test (filter keep xs) ≡ list_any test xs
  any-filter_all test keep [] all = refl
  any-filter_all test keep (x ∷ xs) all = go (keep x) refl ∙ ap (λ t. test x || t) (any-filter_all test keep xs all.1)
    where
      go : (t : Bool) → keep x ≡ t → list_any test (if keep x then x ∷ filter keep xs else filter keep xs) ≡ (test x || list_any test (filter keep xs))
      go true t = λ j. list_any test (if t j then x ∷ filter keep xs else filter keep xs)
      go false t = (λ j. list_any test (if t j then x ∷ filter keep xs else filter keep xs)) ∙ sym (ap (λ u. u || list_any test (filter keep xs)) (all.0 t))

  pub any-filter_none : (test keep : A → Bool) (xs : List A) → AllByRecursion (λ x. keep x ≡ true → test x ≡ false) xs → list_any test (filter keep xs) ≡ false
  any-filter_none test keep xs all = any-none test (filter keep xs) (all-filter (λ x. test x ≡ false) keep xs all)
