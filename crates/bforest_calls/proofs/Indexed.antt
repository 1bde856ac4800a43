-- The handle and the comparator at an index, and changes that change nothing.
use Rattle.bforest.specs.Forest.{Becomes, Forest, IsLive, list_of}
use Rattle.bforest_calls.specs.Machine.{order_at}
use Rattle.bforest_calls.specs.State.{WritesAt}
use Rattle.bforest_nodes.specs.Entries.{value_at_place, with_value}
use Rattle.std.proofs.Common.{List, None, Option, Some, [], ap, false, get_or, length, map, refl, subst, suc, sym, true, zero, ◌<◌, ◌∙◌, ◌≡◌, ◌∷◌, ℕ}
use Rattle.std.proofs.lemmas.List.{get_or-map, get_or_default, length-map}
use Rattle.std.specs.Prelude.{is_some, option_map}
use Rattle.std.specs.declared.cmp.Ordering.TheVariants.{Equal}
use Rattle.std.specs.declared.cmp.Ordering.{Ordering}

-- there are as many orders as comparators
pub order-within : {C K : Type 0} (order : C → K → K → Ordering) (comps : List C) (c : ℕ) → c < length (map order comps) → c < length comps
order-within order comps c within = subst (λ n. c < n) (length-map comps order) within

pub order-there : {C K : Type 0} (order : C → K → K → Ordering) (comps : List C) (c : ℕ) → c < length comps → c < length (map order comps)
order-there order comps c within = subst (λ n. c < n) (sym (length-map comps order)) within

pub is_order : {C K : Type 0} (order : C → K → K → Ordering) (comps : List C) (c : ℕ) (x : C) → x ≡ get_or comps c x → c < length (map order comps)
    → order x ≡ order_at (map order comps) c
is_order order comps c x is within = ap order is ∙ sym (get_or-map order comps c x (λ _ _. Equal) (order-within order comps c within))

-- the number of the handle at an index, where the numbers of many handles are that of each
module _ {T : Type 0} (number : T → Option ℕ) (numbers : List T → List (Option ℕ)) (counted : (xs : List T) → length (numbers xs) ≡ length xs)
    (at : (xs : List T) (h : ℕ) (x : T) → h < length xs → x ≡ get_or xs h x → number x ≡ get_or (numbers xs) h None) (xs : List T) (h : ℕ)
    (there : h < length (numbers xs)) where
  pub handle-within : h < length xs
  handle-within = subst (λ n. h < n) (counted xs) there

  pub number-at : (x : T) → x ≡ get_or xs h x → number x ≡ get_or (numbers xs) h None
  number-at x is = at xs h x handle-within is

  pub number-lent : (d : T) → number (get_or xs h d) ≡ get_or (numbers xs) h None
  number-lent d = at xs h (get_or xs h d) handle-within (get_or_default xs h d (get_or xs h d) handle-within)

-- a property of an order and of a number holds of equal ones
pub at_both : {K : Type 0} {order own : K → K → Ordering} {n h : Option ℕ} (R : (K → K → Ordering) → Option ℕ → Type 0) → own ≡ order → h ≡ n → R own h
    → R order n
at_both {K} {order} {own} {n} {h} R e d r = subst (λ o. R o n) e (subst (R own) d r)

module _ {K V : Type 0} where
  -- an entry is present exactly where its value is
  pub within_at : (e : Option (K × V)) (v : V) → Some v ≡ option_map (λ x. x.1) e → true ≡ is_some e
  within_at None v is = absurd (cc)
  within_at (Some x) v is = refl

  pub past_at : (e : Option (K × V)) → None ≡ option_map (λ x. x.1) e → false ≡ is_some e
  past_at None is = refl
  past_at (Some x) is = absurd (cc)

  pub with_value_past : (es : List (K × V)) (p : ℕ) (w : V) → None ≡ value_at_place es p → es ≡ with_value es p w
  with_value_past [] p w e = refl
  with_value_past (x ∷ es) zero w e = absurd (cc)
  with_value_past (x ∷ es) (suc p) w e = ap (λ xs. x ∷ xs) (with_value_past es p w e)

  -- a forest that does not change becomes its own list
  pub becomes_same : (f : Forest K V) (h : Option ℕ) (es : List (K × V)) → IsLive f h → list_of f h ≡ es → Becomes f h f h es
  becomes_same f h es live list = record {
    live = live;
    list = list;
    leaves = λ ne. absurd (ne refl);
    fresh = λ ne. absurd (ne refl);
    leaves_sizes = λ ne. absurd (ne refl);
    fresh_sizes = λ ne. absurd (ne refl);
    others = λ n ne ne'. refl;
    others_sizes = λ n ne ne'. refl;
    limit = refl;
  }

  -- a write that changes nothing
  pub writes-nothing : {f : Forest K V} {h : Option ℕ} {p : ℕ} {v : V} → IsLive f h → list_of f h ≡ with_value (list_of f h) p v
      → WritesAt (record { forest = f; number = h }) p v (record { forest = f; number = h })
  writes-nothing {f} {h} live same = record { becomes = becomes_same f h _ live same; number = refl; sizes = refl; slots = refl; free = refl; memory = refl }
