-- Two changes of one handle's tree in turn, and what a change leaves of another handle.
use Rattle.bforest_trees.specs.Forest.{Becomes, Forest, IsLive, list_at, list_of, sizes_of}
use Rattle.std.proofs.Common.{Err, List, None, Ok, OnErr, OnOk, Option, Result, Some, [], ap, inl, inr, refl, subst, sym, ◌∙◌, ◌≡◌, ◌≢◌, ◌⊎◌, ℕ}
use Rattle.std.proofs.lemmas.Bool.Decides.{eqb_tells}

some_same : (n q : ℕ) → Some n ≡ Some q → n ≡ q
some_same n q e = cc

-- two handles are equal or not
same_or_not : (h q : Option ℕ) → (h ≡ q) ⊎ (h ≢ q)
same_or_not None None = inl refl
same_or_not None (Some q) = inr (λ e. cc)
same_or_not (Some n) None = inr (λ e. cc)
same_or_not (Some n) (Some q) = elim (eqb_tells n q) [ inl w ↦ inl (ap Some w.1) | inr w ↦ inr (λ e. w.1 (some_same n q e)) ]

module _ {K X : Type 0} where
  list_kept : (f f' : Forest K X) (h h' : Option ℕ) (es : List (K × X)) → Becomes f h f' h' es → (q : Option ℕ) → q ≢ h → q ≢ h' → list_of f' q ≡ list_of f q
  list_kept f f' h h' es b None ne ne' = refl
  list_kept f f' h h' es b (Some n) ne ne' = b.others n ne ne'

  sizes_kept : (f f' : Forest K X) (h h' : Option ℕ) (es : List (K × X)) → Becomes f h f' h' es → (q : Option ℕ) → q ≢ h → q ≢ h' → sizes_of f' q ≡ sizes_of f q
  sizes_kept f f' h h' es b None ne ne' = refl
  sizes_kept f f' h h' es b (Some n) ne ne' = b.others_sizes n ne ne'

  -- what handles name, their lists or their sizes, through two changes of one handle's tree
  module _ {Y : Type 0} (of : Forest K X → Option ℕ → List Y) {h i j : Option ℕ} where
    gone-both : {g k : Forest K X} → (i ≢ h → of g h ≡ []) → (j ≢ i → of k i ≡ []) → ((q : Option ℕ) → q ≢ i → q ≢ j → of k q ≡ of g q) → j ≢ h → of k h ≡ []
    gone-both {g} {k} first next kept ne = elim (same_or_not i h) [
      | inl e ↦ subst (λ (q : Option ℕ). of k q ≡ []) e (next (λ d. ne (d ∙ e)))
      | inr d ↦ kept h (λ e. d (sym e)) (λ e. ne (sym e)) ∙ first d
    ]

    fresh-both : {f g : Forest K X} → (i ≢ h → of f i ≡ []) → (j ≢ i → of g j ≡ []) → ((q : Option ℕ) → q ≢ h → q ≢ i → of g q ≡ of f q) → j ≢ h → of f j ≡ []
    fresh-both {f} {g} first next kept ne = elim (same_or_not j i) [
      | inl e ↦ subst (λ (q : Option ℕ). of f q ≡ []) (sym e) (first (λ d. ne (e ∙ d)))
      | inr d ↦ sym (kept j ne d) ∙ next d
    ]

    others-both : {f g k : Forest K X} → (i ≢ h → of f i ≡ []) → (j ≢ i → of k i ≡ []) → ((q : Option ℕ) → q ≢ h → q ≢ i → of g q ≡ of f q)
        → ((q : Option ℕ) → q ≢ i → q ≢ j → of k q ≡ of g q) → (q : Option ℕ) → q ≢ h → q ≢ j → of k q ≡ of f q
    others-both {f} {g} {k} fresh gone kept kept' q ne ne' = elim (same_or_not q i) [
      | inl e ↦ subst (λ (z : Option ℕ). of k z ≡ of f z) (sym e) (gone (λ d. ne' (e ∙ sym d)) ∙ sym (fresh (λ d. ne (e ∙ d))))
      | inr d ↦ kept' q d ne' ∙ kept q ne d
    ]

  -- two changes of one handle's tree are one change
  pub becomes-both : (f g k : Forest K X) (h i j : Option ℕ) (es fs : List (K × X)) → Becomes f h g i es → Becomes g i k j fs → Becomes f h k j fs
  becomes-both f g k h i j es fs a b =
      let lists = list_kept f g h i es a in
      let lists' = list_kept g k i j fs b in
      let sizes = sizes_kept f g h i es a in
      let sizes' = sizes_kept g k i j fs b in record {
        live = b.live;
        list = b.list;
        leaves = gone-both list_of a.leaves b.leaves lists';
        fresh = fresh-both list_of a.fresh b.fresh lists;
        leaves_sizes = gone-both sizes_of a.leaves_sizes b.leaves_sizes sizes';
        fresh_sizes = fresh-both sizes_of a.fresh_sizes b.fresh_sizes sizes;
        others = λ n. others-both list_of a.fresh b.leaves lists lists' (Some n);
        others_sizes = λ n. others-both sizes_of a.fresh_sizes b.leaves_sizes sizes sizes' (Some n);
        limit = b.limit ∙ a.limit;
      }

  -- a live handle of another tree keeps its list, whether or not the change was refused
  pub list-beside : {A E : Type 0} (f f' : Forest K X) (h h' q : Option ℕ) (es : List (K × X)) (r : Result A E) → OnOk r (Becomes f h f' h' es) → OnErr r (f' ≡ f) → IsLive f q → q ≢ h → list_of f' q ≡ list_of f q
  list-beside f f' h h' None es r ok err live ne = refl
  list-beside f f' h h' (Some n) es (Err x) ok err live ne = ap (λ z. list_at z n) err
  list-beside f f' h h' (Some n) es (Ok a) ok err live ne =
      ok.others n ne (λ e. live (subst (λ (q : Option ℕ). list_of f q ≡ []) (sym e) (ok.fresh (λ d. ne (e ∙ d)))))
