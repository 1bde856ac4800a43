-- The invariant of a graph where an edge is added and removed.
use Rattle.bforest.proofs.Clients.{is_present-cut_other, is_present-put_other, nat-unequal, need-levels, present-value}
use Rattle.bforest.proofs.Entries.{is_present-cut, is_present-put}
use Rattle.bforest.specs.Entries.{cut, is_present, put}
use Rattle.bforest.specs.Forest.{free_of, need_of}
use Rattle.bforest.specs.Refusal.{OutOfMemory}
use Rattle.bforest.specs.Set.{as_put, the_value}
use Rattle.bforest_indexed.proofs.Lists.{length-lists, lists-at, lists-changed, lists-empty, lists-kept, past-end}
use Rattle.bforest_indexed.specs.Indexed.{ChangesAt, Indexed, InsertsAt, KeepsAll, RemovesAt, count, entries, handle, lists, node_sizes, table}
use Rattle.control_flow_example.proofs.Keeping.{mirrored-set}
use Rattle.control_flow_example.specs.Graphs.{AreKept, Graph, IsMirrored, blocks, branch_of, graph_of, list_in, with_edge, without_edge}
use Rattle.std.proofs.Common.{Bool, Err, IsOk, List, Ok, OnErr, OnOk, Option, Result, [], ap, arith, false, length, refl, replicate, slice_set, subst, sym, true, ◌+◌, ◌-◌, ◌<◌, ◌∙◌, ◌≡◌, ◌≢◌, ◌≤◌, ℕ}
use Rattle.std.proofs.lemmas.Cmp.{nat_cmp_total}
use Rattle.std.specs.Option.{is_some}
use Rattle.std.specs.Ordering.{nat_cmp}

-- the nodes that were reserved for an insertion are enough
pub enough-after : {ss s1 : Indexed ℕ (Unit {0}) (Unit {0})} (i k : ℕ) {levels : ℕ} → KeepsAll ss s1 → levels ≡ length (node_sizes ss i) → levels + 1 ≤ free_of (table s1)
    → need_of 15 nat_cmp (table s1) (handle s1 i) k ≤ free_of (table s1)
enough-after {ss} {s1} i k {levels} kept is free = omega (arith, need-levels 15 nat_cmp (table s1) (handle s1 i) k, free, is, ap length (kept.sizes i))

pub kept-self : {K X C : Type 0} (m : Indexed K X C) → KeepsAll m m
kept-self m = record { lists = λ i. refl; sizes = λ i. refl; same_comparator = refl }

-- a set's insertion succeeds where that of its entry does
pub put_done : (r : Result Bool OutOfMemory) → IsOk (as_put r) → IsOk r
put_done (Ok true) h = h
put_done (Ok false) h = h
put_done (Err refused) h = h

of_done : {A E P : Type 0} (r : Result A E) → IsOk r → OnOk r P → P
of_done (Ok y) w p = p
of_done (Err y) w p = absurd (cc)

abbrev Successors : Type 0
Successors = Indexed ℕ (Unit {0}) (Unit {0})

abbrev Predecessors : Type 0
Predecessors = Indexed ℕ ℕ (Unit {0})

-- more nodes alone, as where an edge is refused
module _ {ss s1 : Successors} {ps : Predecessors} (a : AreKept ss ps) (kept : KeepsAll ss s1) (same : count s1 ≡ count ss) where
  pub refused-graph : graph_of s1 ps ≡ graph_of ss ps
  refused-graph = λ j. record { successors = lists-kept kept same j; predecessors = lists ps }

  pub refused-kept : AreKept s1 ps
  refused-kept = record { same_blocks = same ∙ a.same_blocks; mirrored = subst IsMirrored (sym refused-graph) a.mirrored }

-- an edge of a graph whose successors may have been given more nodes
module _ {ss s1 : Successors} {ps : Predecessors} {from to : ℕ} (a : AreKept ss ps) (kept : KeepsAll ss s1) (same : count s1 ≡ count ss) (low : from < count ps) (high : to < count ps) where
  low-forward : from < count s1
  low-forward = subst (λ n. from < n) (sym (same ∙ a.same_blocks)) low

  -- both lists of the edge changed
  module _ {s' : Successors} {p' : Predecessors} {es : List (ℕ × Unit {0})} {ds : List (ℕ × ℕ)} (b : ChangesAt s1 from s') (b-is : entries s' from ≡ es) (d : ChangesAt ps to p') (d-is : entries p' to ≡ ds) where
    changed-graph : graph_of s' p' ≡ record { successors = slice_set (lists ss) from es; predecessors = slice_set (lists ps) to ds }
    changed-graph = λ j. record {
      successors = (lists-changed low-forward b b-is ∙ ap (λ ls. slice_set ls from es) (lists-kept kept same)) j;
      predecessors = lists-changed high d d-is j;
    }

    changed-kept : (edge : Bool) → is_present nat_cmp es to ≡ edge → is_present nat_cmp ds from ≡ edge
        → ((q : ℕ) → q ≢ to → is_present nat_cmp es q ≡ is_present nat_cmp (list_in (lists ss) from) q)
        → ((p : ℕ) → p ≢ from → is_present nat_cmp ds p ≡ is_present nat_cmp (list_in (lists ps) to) p) → AreKept s' p'
    changed-kept edge at_to at_from other_to other_from = record {
      same_blocks = b.same_count ∙ same ∙ a.same_blocks ∙ sym d.same_count;
      mirrored = subst IsMirrored (sym changed-graph) (mirrored-set (lists ss) (lists ps) from to es ds edge a.mirrored
          (subst (λ n. from < n) (sym (length-lists ss ∙ a.same_blocks)) low) (subst (λ n. to < n) (sym (length-lists ps)) high) at_to at_from other_to other_from);
    }

  forward-list : entries s1 from ≡ list_in (lists ss) from
  forward-list = kept.lists from ∙ sym (lists-at ss from)

  backward-list : entries ps to ≡ list_in (lists ps) to
  backward-list = sym (lists-at ps to)

  -- an edge is added
  module _ {s' : Successors} {p' : Predecessors} {branch : ℕ} {told : Result (Option (Unit {0})) OutOfMemory} {said : Result (Option ℕ) OutOfMemory} (b : InsertsAt 15 nat_cmp s1 from to the_value told s') (done : IsOk told) (d : InsertsAt 7 nat_cmp ps to from branch said p') (yes : IsOk said) where
    pub added-graph : graph_of s' p' ≡ with_edge (graph_of ss ps) from branch to
    added-graph = changed-graph b.beside (of_done told done b.put) d.beside (of_done said yes d.put) ∙ (λ j. record {
      successors = slice_set (lists ss) from (put nat_cmp (forward-list j) to the_value);
      predecessors = slice_set (lists ps) to (put nat_cmp (backward-list j) from branch);
    })

    pub added-kept : AreKept s' p'
    added-kept = changed-kept b.beside (of_done told done b.put) d.beside (of_done said yes d.put) true
        (is_present-put nat_cmp nat_cmp_total to the_value (entries s1 from) b.increasing)
        (is_present-put nat_cmp nat_cmp_total from branch (entries ps to) d.increasing)
        (λ q ne. is_present-put_other nat_cmp nat_cmp_total (entries s1 from) to q the_value (nat-unequal to q (λ e. ne (sym e))) b.increasing ∙ ap (λ l. is_present nat_cmp l q) forward-list)
        (λ p ne. is_present-put_other nat_cmp nat_cmp_total (entries ps to) from p branch (nat-unequal from p (λ e. ne (sym e))) d.increasing ∙ ap (λ l. is_present nat_cmp l p) backward-list)

  -- an edge is removed
  module _ {s' : Successors} {p' : Predecessors} {told : Option (Unit {0})} {said : Option ℕ} (b : RemovesAt 15 nat_cmp s1 from to told s') (d : RemovesAt 7 nat_cmp ps to from said p') where
    pub removed-graph : graph_of s' p' ≡ without_edge (graph_of ss ps) from to
    removed-graph = changed-graph b.beside b.cut d.beside d.cut ∙ (λ j. record {
      successors = slice_set (lists ss) from (cut nat_cmp (forward-list j) to);
      predecessors = slice_set (lists ps) to (cut nat_cmp (backward-list j) from);
    })

    pub removed-kept : AreKept s' p'
    removed-kept = changed-kept b.beside b.cut d.beside d.cut false
        (is_present-cut nat_cmp nat_cmp_total (entries s1 from) to b.increasing)
        (is_present-cut nat_cmp nat_cmp_total (entries ps to) from d.increasing)
        (λ q ne. is_present-cut_other nat_cmp nat_cmp_total (entries s1 from) to q (nat-unequal to q (λ e. ne (sym e))) b.increasing ∙ ap (λ l. is_present nat_cmp l q) forward-list)
        (λ p ne. is_present-cut_other nat_cmp nat_cmp_total (entries ps to) from p (nat-unequal from p (λ e. ne (sym e))) d.increasing ∙ ap (λ l. is_present nat_cmp l p) backward-list)

-- the blocks of a graph are the indices of both
pub in-blocks : (ss : Successors) (ps : Predecessors) {g : Graph} → graph_of ss ps ≡ g → (n : ℕ) → n < blocks g → n < count ps
in-blocks ss ps {g} view n low = subst (λ k. n < k) (ap blocks (sym view) ∙ length-lists ps) low

-- a block leads to another exactly where its successors have it
pub led : {ss : Successors} {ps : Predecessors} {g : Graph} → AreKept ss ps → graph_of ss ps ≡ g → (from to : ℕ) → is_present nat_cmp (entries ss from) to ≡ is_some (branch_of g from to)
led {ss} {ps} {g} a view from to =
    ap (λ l. is_present nat_cmp l to) (sym (lists-at ss from)) ∙ a.mirrored from to ∙ present-value nat_cmp (list_in (lists ps) to) from ∙ ap (λ (g : Graph). is_some (branch_of g from to)) view

-- maps or sets that were made and grown are empty
module _ {K X C : Type 0} {m m' : Indexed K X C} (none : count m ≡ 0) (kept : KeepsAll m m') where
  grown-entries : (i : ℕ) → entries m' i ≡ []
  grown-entries i = kept.lists i ∙ past-end m i none

  pub grown-lists : (n : ℕ) → count m' ≡ count m + (n - count m) → lists m' ≡ replicate n []
  grown-lists n grown = lists-empty m' grown-entries ∙ ap (λ k. replicate k []) (grown ∙ omega (arith, none))

pub kept-new : {ss s' : Successors} {ps p' : Predecessors} (n : ℕ) → count ss ≡ 0 → KeepsAll ss s' → count s' ≡ count ss + (n - count ss)
    → count ps ≡ 0 → KeepsAll ps p' → count p' ≡ count ps + (n - count ps) → AreKept s' p'
kept-new {ss} {s'} {ps} {p'} n none kept grown none' kept' grown' = record {
  same_blocks = omega (arith, none, none', grown, grown');
  mirrored = λ p q. ap (λ l. is_present nat_cmp l q) (lists-at s' p ∙ grown-entries none kept p) ∙ sym (ap (λ l. is_present nat_cmp l p) (lists-at p' q ∙ grown-entries none' kept' q));
}

pub on_err_told : {A E P : Type 0} (r : Result A E) → P → OnErr r P
on_err_told (Ok x) p = tt
on_err_told (Err x) p = p

pub is_ok : {A E : Type 0} {r : Result A E} {x : A} → r ≡ Ok x → IsOk r
is_ok {A} {E} {r} {x} is = subst (λ (s : Result A E). IsOk s) (sym is) refl
