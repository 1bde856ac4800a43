-- A key's value in the union of two increasing lists.
use Rattle.bforest_core.proofs.walks.LeafSearch.{some-mapped}
use Rattle.bforest_nodes.proofs.Found.{value_for-absent}
use Rattle.bforest_nodes.proofs.Lookups.{value_for-put, value_for-put_other}
use Rattle.bforest_nodes.proofs.Ordered.{above}
use Rattle.bforest_nodes.specs.Entries.{IsIncreasing, entry_for, is_present, put, value_for}
use Rattle.bforest_trees.proofs.unions.Choosing.{answer, beyond, entry-like, present-like, value-step}
use Rattle.bforest_trees.proofs.unions.Merging.{first-below, rest-up, united-up}
use Rattle.bforest_trees.specs.Union.{united}
use Rattle.std.proofs.Common.{Bool, List, None, Option, Some, [], ap, false, if◌then◌else◌, refl, sym, true, ◌∙◌, ◌∷◌, ◌≡◌}
use Rattle.std.specs.Cmp.{IsTotalOrder}
use Rattle.std.specs.Map.{keys_of}
use Rattle.std.specs.Option.{is_some, option_map}
use Rattle.std.specs.Ordering.{is_eq, ordering_reverse}
use Rattle.std.specs.declared.cmp.Ordering.TheVariants.{Equal, Greater, Less}
use Rattle.std.specs.declared.cmp.Ordering.{Ordering}

-- what was found in one list, or else in another one
abbrev either : {X : Type 0} → Option X → Option X → Option X
either first second = if is_some first then first else second

either-none : {X : Type 0} (first : Option X) → first ≡ either first None
either-none None = refl
either-none (Some x) = refl

module _ {K X : Type 0} (cmp : K → K → Ordering) (o : IsTotalOrder cmp) where
  abbrev value : List (K × X) → K → Option X
  value es q = value_for cmp es q

  -- an entry that was put is found by each key that compares equal
  put-like : (es : List (K × X)) (e : K × X) (q : K) → IsIncreasing cmp es → cmp e.0 q ≡ Equal → value (put cmp es e.0 e.1) q ≡ Some e.1
  put-like es e q up t = sym (ap (option_map (λ (x : K × X). x.1)) (entry-like cmp o (put cmp es e.0 e.1) e.0 q t)) ∙ value_for-put cmp o e.0 e.1 es up

  module _ (es : List (K × X)) (x : K × X) (others : List (K × X)) (q : K) (up : IsIncreasing cmp es) (others_up : IsIncreasing cmp (x ∷ others)) where
    abbrev next : Bool → List (K × X)
    next present = if present then es else put cmp es x.0 x.1

    -- other keys have the value that they had
    beside : (b : Bool) → is_eq (cmp x.0 q) ≡ false → value (next b) q ≡ value es q
    beside true apart = refl
    beside false apart = value_for-put_other cmp o x.0 q x.1 apart es up

    step : (r : Ordering) → cmp x.0 q ≡ r → value (x ∷ others) q ≡ answer cmp r x.1 (value others q)
    step r t = value-step cmp o x others q others_up ∙ ap (λ z. answer cmp z x.1 (value others q)) t

    -- the next entry of the second list is put where its key is absent
    next-value : (b : Bool) → is_present cmp es x.0 ≡ b → (r : Ordering) → cmp x.0 q ≡ r → either (value (next b) q) (value others q) ≡ either (value es q) (value (x ∷ others) q)
    next-value b is Less t = ap (λ z. either z (value others q)) (beside b (ap is_eq t)) ∙ sym (ap (either (value es q)) (step Less t))
    next-value b is Greater t =
        let none = beyond cmp o q others (above cmp o q x.0 (keys_of others) (o.antisymm q x.0 ∙ ap ordering_reverse t) (first-below cmp o x others others_up)) (rest-up cmp o x others others_up) in
        ap (λ z. either z (value others q)) (beside b (ap is_eq t)) ∙ ap (either (value es q)) (none ∙ sym (step Greater t))
    next-value true is Equal t =
        let here : is_some (value es q) ≡ true = some-mapped (λ (e : K × X). e.1) (entry_for cmp es q) ∙ sym (present-like cmp o es x.0 q t) ∙ is in
        ap (λ b. if b then value es q else value others q) here ∙ sym (ap (λ b. if b then value es q else value (x ∷ others) q) here)
    next-value false is Equal t =
        let gone = value_for-absent cmp es q (sym (present-like cmp o es x.0 q t) ∙ is) in
        ap (λ z. either z (value others q)) (put-like es x q up t) ∙ sym (ap (λ z. either z (value (x ∷ others) q)) gone ∙ step Equal t)

  united-either : (es others : List (K × X)) (q : K) → IsIncreasing cmp es → IsIncreasing cmp others → value (united cmp es others) q ≡ either (value es q) (value others q)
  united-either es [] q up others_up = either-none (value es q)
  united-either es (x ∷ others) q up others_up =
      united-either (if is_present cmp es x.0 then es else put cmp es x.0 x.1) others q (united-up cmp o es (x ∷ []) up) (rest-up cmp o x others others_up)
      ∙ next-value es x others q up others_up (is_present cmp es x.0) refl (cmp x.0 q) refl

  -- a key has the value of the first list where it is present there, and else that of the second one
  pub united-value : (es others : List (K × X)) (q : K) → IsIncreasing cmp es → IsIncreasing cmp others → value_for cmp (united cmp es others) q ≡ (if is_present cmp es q then value_for cmp es q else value_for cmp others q)
  united-value es others q up others_up = united-either es others q up others_up ∙ ap (λ b. if b then value es q else value others q) (some-mapped (λ (e : K × X). e.1) (entry_for cmp es q))
