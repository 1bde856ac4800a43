-- Lists of handles, two of which are exchanged.
use Rattle.bforest_calls_tests.specs.Exchange.{exchange}
use Rattle.std.proofs.Common.{List, None, Option, ap, get_or, inl, inr, length, refl, subst, sym, ◌<◌, ◌∙◌, ◌≡◌, ◌≢◌, ℕ}
use Rattle.std.proofs.lemmas.Bool.{cases_eq, eq-eqb, ne_eqb}
use Rattle.std.proofs.lemmas.List.Edits.{length-swap, swap_is}
use Rattle.std.proofs.lemmas.List.{ext_get_or, get_or-set_other, get_or-set_same, length-set}
use Rattle.std.specs.Prelude.{if◌then◌else◌, nat_eq, slice_set, swap}

-- the exchange of an index by cases
exchange-left : (i j : ℕ) → exchange i j i ≡ j
exchange-left i j = λ z. if eq-eqb i i refl z then j else if nat_eq i j then i else i

exchange-right : (i j : ℕ) → exchange i j j ≡ i
exchange-right i j = elim (cases_eq j i) [
  | inl e ↦ (λ z. if eq-eqb j i e z then j else if nat_eq j j then i else j) ∙ e
  | inr d ↦ (λ z. if ne_eqb j i d z then j else if eq-eqb j j refl z then i else j)
]

exchange-other : (i j h : ℕ) → h ≢ i → h ≢ j → exchange i j h ≡ h
exchange-other i j h ne ne' = λ z. if ne_eqb h i ne z then j else if ne_eqb h j ne' z then i else h

-- each index is i, j or another
pub by-index : (i j : ℕ) (P : ℕ → Type 0) → P i → P j → ((h : ℕ) → h ≢ i → h ≢ j → P h) → (h : ℕ) → P h
by-index i j P at-i at-j others h = elim (cases_eq h i) [
  | inl e ↦ subst P (sym e) at-i
  | inr d ↦ elim (cases_eq h j) [ inl e ↦ subst P (sym e) at-j | inr d' ↦ others h d d' ]
]

pub exchange-twice : (i j h : ℕ) → exchange i j (exchange i j h) ≡ h
exchange-twice i j = by-index i j (λ h. exchange i j (exchange i j h) ≡ h)
    (ap (exchange i j) (exchange-left i j) ∙ exchange-right i j)
    (ap (exchange i j) (exchange-right i j) ∙ exchange-left i j)
    (λ h ne ne'. ap (exchange i j) (exchange-other i j h ne ne') ∙ exchange-other i j h ne ne')

module _ (xs : List (Option ℕ)) (i j : ℕ) (within : i < length xs) (within' : j < length xs) where
  is-swap : slice_set (slice_set xs i (get_or xs j None)) j (get_or xs i None) ≡ swap xs i j
  is-swap = swap_is xs i j None within within'

  at-right : get_or (swap xs i j) j None ≡ get_or xs i None
  at-right = ap (λ ys. get_or ys j None) (sym is-swap)
      ∙ get_or-set_same (slice_set xs i (get_or xs j None)) j (get_or xs i None) None (subst (λ n. j < n) (sym (length-set xs i (get_or xs j None))) within')

  at-left : get_or (swap xs i j) i None ≡ get_or xs j None
  at-left = elim (cases_eq i j) [
    | inl e ↦ ap (λ h. get_or (swap xs i j) h None) e ∙ at-right ∙ ap (λ h. get_or xs h None) e
    | inr d ↦ ap (λ ys. get_or ys i None) (sym is-swap)
        ∙ get_or-set_other (slice_set xs i (get_or xs j None)) j i (get_or xs i None) None d
        ∙ get_or-set_same xs i (get_or xs j None) None within
  ]

  at-other : (h : ℕ) → h ≢ i → h ≢ j → get_or (swap xs i j) h None ≡ get_or xs h None
  at-other h ne ne' = ap (λ ys. get_or ys h None) (sym is-swap)
      ∙ get_or-set_other (slice_set xs i (get_or xs j None)) j h (get_or xs i None) None ne'
      ∙ get_or-set_other xs i h (get_or xs j None) None ne

  -- a swapped list has at the exchanged index what the list has at the index
  pub at-exchange : (h : ℕ) → get_or (swap xs i j) (exchange i j h) None ≡ get_or xs h None
  at-exchange = by-index i j (λ h. get_or (swap xs i j) (exchange i j h) None ≡ get_or xs h None)
      (ap (λ h. get_or (swap xs i j) h None) (exchange-left i j) ∙ at-right)
      (ap (λ h. get_or (swap xs i j) h None) (exchange-right i j) ∙ at-left)
      (λ h ne ne'. ap (λ h. get_or (swap xs i j) h None) (exchange-other i j h ne ne') ∙ at-other h ne ne')

  pub at-exchanged : (h : ℕ) → get_or (swap xs i j) h None ≡ get_or xs (exchange i j h) None
  at-exchanged h = ap (λ q. get_or (swap xs i j) q None) (sym (exchange-twice i j h)) ∙ at-exchange (exchange i j h)

  -- an index is in range where the exchanged one is
  pub exchange-within : (h : ℕ) → h < length xs → exchange i j h < length (swap xs i j)
  exchange-within = by-index i j (λ h. h < length xs → exchange i j h < length (swap xs i j))
      (λ w. subst (λ h. h < length (swap xs i j)) (sym (exchange-left i j)) (subst (λ n. j < n) (sym (length-swap xs i j)) within'))
      (λ w. subst (λ h. h < length (swap xs i j)) (sym (exchange-right i j)) (subst (λ n. i < n) (sym (length-swap xs i j)) within))
      (λ h ne ne' w. subst (λ h. h < length (swap xs i j)) (sym (exchange-other i j h ne ne')) (subst (λ n. h < n) (sym (length-swap xs i j)) w))

  pub within-exchange : (h : ℕ) → exchange i j h < length (swap xs i j) → h < length xs
  within-exchange = by-index i j (λ h. exchange i j h < length (swap xs i j) → h < length xs)
      (λ w. within)
      (λ w. within')
      (λ h ne ne' w. subst (λ n. h < n) (length-swap xs i j) (subst (λ q. q < length (swap xs i j)) (exchange-other i j h ne ne') w))

-- a write at an index of a list is one at the exchanged index of the swapped list
pub swap-set : (xs : List (Option ℕ)) (i j : ℕ) → i < length xs → j < length xs → (h : ℕ) (x : Option ℕ) → h < length xs → swap (slice_set xs h x) i j ≡ slice_set (swap xs i j) (exchange i j h) x
swap-set xs i j within within' h x w =
    ext_get_or None (swap (slice_set xs h x) i j) (slice_set (swap xs i j) (exchange i j h) x)
    (length-swap (slice_set xs h x) i j ∙ length-set xs h x ∙ sym (length-swap xs i j) ∙ sym (length-set (swap xs i j) (exchange i j h) x))
    (λ k l. at k)
  where
    old : (k : ℕ) → get_or (swap (slice_set xs h x) i j) k None ≡ get_or (slice_set xs h x) (exchange i j k) None
    old = at-exchanged (slice_set xs h x) i j (subst (λ n. i < n) (sym (length-set xs h x)) within) (subst (λ n. j < n) (sym (length-set xs h x)) within')

    at : (k : ℕ) → get_or (swap (slice_set xs h x) i j) k None ≡ get_or (slice_set (swap xs i j) (exchange i j h) x) k None
    at k = elim (cases_eq (exchange i j k) h) [
      | inl e ↦ old k ∙ ap (λ q. get_or (slice_set xs h x) q None) e ∙ get_or-set_same xs h x None w
          ∙ sym (get_or-set_same (swap xs i j) (exchange i j h) x None (exchange-within xs i j within within' h w))
          ∙ ap (λ q. get_or (slice_set (swap xs i j) (exchange i j h) x) q None) (ap (exchange i j) (sym e) ∙ exchange-twice i j k)
      | inr d ↦ old k ∙ get_or-set_other xs h (exchange i j k) x None d ∙ sym (at-exchanged xs i j within within' k)
          ∙ sym (get_or-set_other (swap xs i j) (exchange i j h) k x None (λ e. d (ap (exchange i j) e ∙ exchange-twice i j h)))
    ]

-- swapping two equal handles changes nothing
pub swap-aliases : (xs : List (Option ℕ)) (i j : ℕ) → i < length xs → j < length xs → get_or xs i None ≡ get_or xs j None → swap xs i j ≡ xs
swap-aliases xs i j within within' one = ext_get_or None (swap xs i j) xs (length-swap xs i j) (λ h l. at h)
  where
    at : (h : ℕ) → get_or (swap xs i j) h None ≡ get_or xs h None
    at = by-index i j (λ h. get_or (swap xs i j) h None ≡ get_or xs h None)
        (at-left xs i j within within' ∙ sym one) (at-right xs i j within within' ∙ one) (at-other xs i j within within')
