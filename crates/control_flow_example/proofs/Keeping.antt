-- Edges that stay mirrored.
use Rattle.bforest.specs.Entries.{is_present}
use Rattle.control_flow_example.specs.Graphs.{list_in}
use Rattle.std.proofs.Common.{Bool, List, [], ap, get_or, inl, inr, length, slice_set, sym, ◌<◌, ◌∙◌, ◌≡◌, ◌≢◌, ℕ}
use Rattle.std.proofs.lemmas.Bool.Decides.{eqb_tells}
use Rattle.std.proofs.lemmas.List.{get_or-set_other, get_or-set_same}
use Rattle.std.specs.Ordering.{nat_cmp}

-- the list of a block after one list was changed
module _ {X : Type 0} (lists : List (List X)) (i : ℕ) (es : List X) where
  pub here : i < length lists → (p : ℕ) → p ≡ i → list_in (slice_set lists i es) p ≡ es
  here within p is = ap (λ z. get_or (slice_set lists i es) z []) is ∙ get_or-set_same lists i es [] within

  pub there : (p : ℕ) → p ≢ i → list_in (slice_set lists i es) p ≡ list_in lists p
  there p ne = get_or-set_other lists i p es [] ne

-- lists stay mirrored where one edge changes in both
module _ (forward : List (List (ℕ × Unit {0}))) (backward : List (List (ℕ × ℕ))) (from to : ℕ) (es : List (ℕ × Unit {0})) (ds : List (ℕ × ℕ)) (edge : Bool) where
  pub mirrored-set : ((p q : ℕ) → is_present nat_cmp (list_in forward p) q ≡ is_present nat_cmp (list_in backward q) p) → from < length forward → to < length backward → is_present nat_cmp es to ≡ edge → is_present nat_cmp ds from ≡ edge → ((q : ℕ) → q ≢ to → is_present nat_cmp es q ≡ is_present nat_cmp (list_in forward from) q) → ((p : ℕ) → p ≢ from → is_present nat_cmp ds p ≡ is_present nat_cmp (list_in backward to) p) → (p q : ℕ) → is_present nat_cmp (list_in (slice_set forward from es) p) q ≡ is_present nat_cmp (list_in (slice_set backward to ds) q) p
  mirrored-set m in_forward in_backward at_to at_from other_to other_from p q = elim (eqb_tells p from) [
    | inl w ↦ elim (eqb_tells q to) [
      | inl v ↦ ap (λ l. is_present nat_cmp l q) (here forward from es in_forward p w.1) ∙ ap (λ k. is_present nat_cmp es k) v.1 ∙ at_to ∙ sym (ap (λ l. is_present nat_cmp l p) (here backward to ds in_backward q v.1) ∙ ap (λ k. is_present nat_cmp ds k) w.1 ∙ at_from)
      | inr v ↦ ap (λ l. is_present nat_cmp l q) (here forward from es in_forward p w.1) ∙ other_to q v.1 ∙ m from q ∙ sym (ap (λ l. is_present nat_cmp l p) (there backward to ds q v.1) ∙ ap (λ k. is_present nat_cmp (list_in backward q) k) w.1)
    ]
    | inr w ↦ elim (eqb_tells q to) [
      | inl v ↦ ap (λ l. is_present nat_cmp l q) (there forward from es p w.1) ∙ ap (λ k. is_present nat_cmp (list_in forward p) k) v.1 ∙ m p to ∙ sym (ap (λ l. is_present nat_cmp l p) (here backward to ds in_backward q v.1) ∙ other_from p w.1)
      | inr v ↦ ap (λ l. is_present nat_cmp l q) (there forward from es p w.1) ∙ m p q ∙ sym (ap (λ l. is_present nat_cmp l p) (there backward to ds q v.1))
    ]
  ]
