-- What is left of all indices where the last one ends, or those from one on.
use Rattle.bforest.specs.Calls.{Clears}
use Rattle.bforest.specs.Forest.{Forest, IsLive, list_of, sizes_of}
use Rattle.bforest_indexed.proofs.Adding.{pushed}
use Rattle.bforest_indexed.proofs.Kept.{cleared-at, kept-same, live-read, with_tree}
use Rattle.bforest_indexed.specs.Indexed.{AreKept, ClearsAt, Indexed, Truncates, count, handle, memory, table}
use Rattle.std.proofs.Common.{List, None, Option, [], ap, arith, get_or, inl, inr, length, refl, slice_set, subst, sym, ℕ, ◌++◌, ◌+◌, ◌-◌, ◌<◌, ◌∙◌, ◌∷◌, ◌≡◌, ◌≤◌}
use Rattle.std.proofs.Math.Seq.{get_or-append_seam}
use Rattle.std.proofs.lemmas.Bool.Decides.{leb_tells}
use Rattle.std.proofs.lemmas.List.{append-nil, get_or_past, length-append}
use Rattle.std.specs.declared.cmp.Ordering.{Ordering}

set-end : {A : Type 0} (xs : List A) (x y : A) → slice_set (xs ++ x ∷ []) (length xs) y ≡ xs ++ y ∷ []
set-end [] x y = refl
set-end (z ∷ xs) x y = ap (λ zs. z ∷ zs) (set-end xs x y)

module _ {K X C : Type 0} {most : ℕ} {cmp : K → K → Ordering} {m : Indexed K X C} (a : AreKept most cmp m) (qs : List (Option ℕ)) (h : Option ℕ) (items : m.handles ≡ qs ++ h ∷ []) where
  abbrev last : ℕ
  last = length qs

  one-more : count m ≡ last + 1
  one-more = ap length items ∙ length-append qs (h ∷ [])

  within : last < count m
  within = omega (arith, one-more)

  is : h ≡ get_or m.handles last h
  is = sym (ap (λ hs. get_or hs last h) items ∙ get_or-append_seam qs h [] h)

  pub end-live : IsLive (table m) h
  end-live = live-read a within is

  module _ {f' : Forest K X} {h' : Option ℕ} (call : Clears (table m) h f' h') where
    abbrev m1 : Indexed K X C
    m1 = with_tree m last f' h'

    cleared : ClearsAt m last m1
    cleared = (cleared-at a within is call).1

    same : (i : ℕ) → get_or qs i None ≡ handle m1 i
    same i = sym (pushed qs qs m1.handles h' call.handle refl (ap (λ hs. slice_set hs last h') items ∙ set-end qs h h') i)

    pub end-kept : {held : ℕ} → AreKept most cmp (record m1 { handles = qs; held = held })
    end-kept {held} = kept-same m1 qs {held = held} same (cleared-at a within is call).0

    pub end-truncates : {held : ℕ} → held ≡ memory m → Truncates m (count m - 1) (record m1 { handles = qs; held = held })
    end-truncates {held} kept = record {
      lists = λ i low. ap (list_of f') (same i) ∙ cleared.beside.others i (λ e. absurd (omega (arith, low, e, one-more)));
      sizes = λ i low. ap (sizes_of f') (same i) ∙ cleared.beside.other_sizes i (λ e. absurd (omega (arith, low, e, one-more)));
      ended = λ i past. ap (list_of f') (get_or_past qs i None (omega (arith, past, one-more)));
      ended_sizes = λ i past. ap (sizes_of f') (get_or_past qs i None (omega (arith, past, one-more)));
      left = omega (arith, one-more);
      slots = cleared.account.slots;
      free = omega (arith, cleared.account.slots, a.account, (end-kept {held = held}).account);
      table_memory = cleared.account.memory;
      same_comparator = refl;
      same_limit = cleared.beside.same_limit;
      same_memory = kept;
      same = λ few. absurd (omega (arith, few, one-more));
    }

module _ {K X C : Type 0} (m : Indexed K X C) where
  -- nothing ended
  pub truncates-none : (n : ℕ) → count m ≤ n → Truncates m n m
  truncates-none n few = record {
    lists = λ i low. refl;
    sizes = λ i low. refl;
    ended = λ i past. ap (list_of (table m)) (get_or_past m.handles i None (omega (arith, few, past)));
    ended_sizes = λ i past. ap (sizes_of (table m)) (get_or_past m.handles i None (omega (arith, few, past)));
    left = omega (arith, few);
    slots = refl;
    free = refl;
    table_memory = refl;
    same_comparator = refl;
    same_limit = refl;
    same_memory = refl;
    same = λ f. refl;
  }

  -- there was none to end, and the handles are the same
  pub end-none : (qs : List (Option ℕ)) {held : ℕ} → m.handles ≡ qs ++ [] → count m ≡ 0 → held ≡ memory m → Truncates m (count m - 1) (record m { handles = qs; held = held })
  end-none qs {held} items none kept =
      let is : record m { handles = qs; held = held } ≡ m = λ j. record m { handles = sym (items ∙ append-nil qs) j; held = kept j } in
      subst (Truncates m (count m - 1)) (sym is) (truncates-none (count m - 1) (omega (arith, none)))

  -- more than n lists are left, and one more ended
  pub truncates-more : {n : ℕ} {m1 m2 : Indexed K X C} → n < count m1 → Truncates m (count m1) m1 → Truncates m1 (count m1 - 1) m2 → Truncates m (count m2) m2
  truncates-more {n} {m1} {m2} more s t = record {
    lists = λ i low. t.lists i (omega (arith, low, t.left)) ∙ s.lists i (omega (arith, low, t.left));
    sizes = λ i low. t.sizes i (omega (arith, low, t.left)) ∙ s.sizes i (omega (arith, low, t.left));
    ended = λ i past. t.ended i (omega (arith, past, t.left, more));
    ended_sizes = λ i past. t.ended_sizes i (omega (arith, past, t.left, more));
    left = omega (arith, s.left, t.left);
    slots = t.slots ∙ s.slots;
    free = t.free ∙ s.free;
    table_memory = t.table_memory ∙ s.table_memory;
    same_comparator = t.same_comparator ∙ s.same_comparator;
    same_limit = t.same_limit ∙ s.same_limit;
    same_memory = t.same_memory ∙ s.same_memory;
    same = λ few. absurd (omega (arith, few, s.left, t.left, more));
  }

-- lists end from the back, until n are left
pub record IsShortening {K X C : Type 0} (m : Indexed K X C) (n : ℕ) (now : Indexed K X C) : Type 0 where
  pub part : Truncates m (count now) now
  pub few : count m ≤ n → now ≡ m
  pub least : n ≤ count m → n ≤ count now

module _ {K X C : Type 0} {m : Indexed K X C} {n : ℕ} where
  pub shortening-first : IsShortening m n m
  shortening-first = record { part = truncates-none m (count m) (omega arith); few = λ f. refl; least = λ l. l }

  pub shortening-next : {now next : Indexed K X C} → IsShortening m n now → n < count now → Truncates now (count now - 1) next → IsShortening m n next
  shortening-next s more t = record {
    part = truncates-more m more s.part t;
    few = λ f. absurd (omega (arith, f, more, s.part.left));
    least = λ l. omega (arith, more, t.left);
  }

  pub shortening-last : {now : Indexed K X C} → IsShortening m n now → count now ≤ n → Truncates m n now
  shortening-last {now} s end = elim (leb_tells n (count m)) [
    | inl w ↦ subst (λ k. Truncates m k now) (omega (arith, s.least w.1, end)) s.part
    | inr w ↦ subst (λ z. Truncates m n z) (sym (s.few (omega (arith, w.1)))) (truncates-none m n (omega (arith, w.1)))
  ]
