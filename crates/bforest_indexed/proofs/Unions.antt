-- What a call on the trees of two indices leaves of all trees.
use Rattle.bforest.proofs.Balances.{keeps-balance, unites-balance}
use Rattle.bforest.specs.Calls.{KeepsFrom, Unites}
use Rattle.bforest.specs.Entries.{is_present, value_for}
use Rattle.bforest.specs.Forest.{Forest, Gives, IsLive, list_of, sizes_of}
use Rattle.bforest.specs.Refusal.{OutOfMemory}
use Rattle.bforest.specs.Room.{node_count}
use Rattle.bforest.specs.Union.{fits}
use Rattle.bforest_indexed.proofs.Kept.{changes, changes-not, here, kept-set, list-here, put-at, read, unchanged, with_tree}
use Rattle.bforest_indexed.specs.Indexed.{AreKept, Indexed, InsertsAt, KeepsFromAt, UnitesAt, as_inserted, count, entries, handle, new_in, node_sizes, table}
use Rattle.std.proofs.Common.{Bool, Err, List, None, Ok, Option, Result, Some, [], ap, false, get_or, if◌then◌else◌, length, refl, subst, sym, true, ◌<◌, ◌∙◌, ◌∷◌, ◌≡◌, ℕ}
use Rattle.std.proofs.lemmas.List.{get_or_default}
use Rattle.std.specs.declared.cmp.Ordering.{Ordering}

-- a live handle without entries has no node
no-sizes : {K X : Type 0} (f : Forest K X) (h : Option ℕ) → IsLive f h → list_of f h ≡ [] → sizes_of f h ≡ []
no-sizes f None live gone = refl
no-sizes f (Some n) live gone = absurd (live gone)

module _ {K X C : Type 0} {most : ℕ} {cmp : K → K → Ordering} {m : Indexed K X C} {i : ℕ} (j : ℕ) (a : AreKept most cmp m) (within : i < count m) where
  module _ {f' : Forest K X} {h' : Option ℕ} where
    -- nothing changed
    united-same : {r : Result Bool OutOfMemory} → f' ≡ table m → h' ≡ handle m i → (with_tree m i f' h' ≡ m → UnitesAt most cmp m i j r (with_tree m i f' h'))
        → AreKept most cmp (with_tree m i f' h') × UnitesAt most cmp m i j r (with_tree m i f' h')
    united-same same_forest same_handle told = let same = unchanged m i f' h' same_forest same_handle in (subst (AreKept most cmp) (sym same) a, told same)

    -- a single new entry was inserted
    one-here : {r : Result Bool OutOfMemory} → Unites most cmp (table m) (handle m i) (handle m j) r f' h'
        → (e : K × X) → new_in most cmp m i j ≡ e ∷ [] → InsertsAt most cmp m i e.0 e.1 (as_inserted r) (with_tree m i f' h')
    one-here call e is = (put-at a within (get_or_default m.handles i None (handle m i) within) (call.inserted e is)).1

    united-here : (r : Result Bool OutOfMemory) → Unites most cmp (table m) (handle m i) (handle m j) r f' h'
        → AreKept most cmp (with_tree m i f' h') × UnitesAt most cmp m i j r (with_tree m i f' h')
    united-here (Ok true) call = (
      kept-set a within call.united call.increasing (unites-balance most a.odd (table m) f' (handle m i) h' (a.fit i) call),
      record {
        united = list-here a within call.united;
        changed = call.changed;
        found = λ q. ap (λ (z : Option ℕ). value_for cmp (list_of f' z) q) (here a within call.united) ∙ call.found q;
        more = λ e. subst (λ (es : List (K × X)). length (entries m i) < length es) (sym (ap (list_of f') (here a within call.united))) (call.more e);
        itself = λ e. call.itself (ap (handle m) (sym e));
        inserted = one-here call;
        packed = λ many. rw (ap (sizes_of f') (here a within call.united)) (call.packed many);
        nodes = λ many. ap (λ q. node_count (sizes_of f' q)) (here a within call.united) ∙ call.nodes many;
        account = call.account;
        beside = changes a within call.united;
        same = λ bad. absurd (cc);
        full = call.full;
        memory = call.memory;
        succeeds = call.succeeds;
        refused = tt;
      },
    )
    united-here (Ok false) call = united-same (call.same_forest refl) (call.same_handle refl) (λ same. record {
      united = list-here a within call.united;
      changed = call.changed;
      found = λ q. ap (λ (z : Option ℕ). value_for cmp (list_of f' z) q) (here a within call.united) ∙ call.found q;
      more = λ bad. absurd (cc);
      itself = λ e. refl;
      inserted = one-here call;
      packed = λ many. rw (ap (sizes_of f') (here a within call.united)) (call.packed many);
      nodes = λ many. ap (λ q. node_count (sizes_of f' q)) (here a within call.united) ∙ call.nodes many;
      account = call.account;
      beside = changes a within call.united;
      same = λ is. same;
      full = call.full;
      memory = call.memory;
      succeeds = call.succeeds;
      refused = tt;
    })
    united-here (Err refused) call = united-same call.refused_forest call.refused_handle (λ same. record {
      united = tt;
      changed = tt;
      found = tt;
      more = λ bad. absurd (cc);
      itself = λ e. call.itself (ap (handle m) (sym e));
      inserted = one-here call;
      packed = λ many. tt;
      nodes = λ many. tt;
      account = λ many. tt;
      beside = changes-not m (with_tree m i f' h') i same;
      same = λ bad. absurd (cc);
      full = call.full;
      memory = call.memory;
      succeeds = call.succeeds;
      refused = same;
    })

    -- the handles of two indices were read, and their trees united
    pub united-at : {h q : Option ℕ} → h ≡ get_or m.handles i h → q ≡ handle m j → {r : Result Bool OutOfMemory} → Unites most cmp (table m) h q r f' h'
        → AreKept most cmp (with_tree m i f' h') × UnitesAt most cmp m i j r (with_tree m i f' h')
    united-at {h} {q} is other_is {r} call =
        united-here r (subst (λ (z : Option ℕ). Unites most cmp (table m) (handle m i) z r f' h') other_is
        (subst (λ (z : Option ℕ). Unites most cmp (table m) z q r f' h') (read a within is) call))

    keeps-here : {present r : Bool} → KeepsFrom most cmp present (table m) (handle m i) (handle m j) r f' h'
        → AreKept most cmp (with_tree m i f' h') × KeepsFromAt most cmp present m i j r (with_tree m i f' h')
    keeps-here {present} {r} call = (
      kept-set a within call.kept call.increasing (keeps-balance most a.odd (table m) f' (handle m i) h' (a.fit i) call),
      record {
        kept = list-here a within call.kept;
        changed = call.changed;
        found = λ q. subst (λ (es : List (K × X)). value_for cmp es q ≡ (if fits present (is_present cmp (entries m j) q) then value_for cmp (entries m i) q else None)) (sym list) (call.found q);
        sizes = λ some. ap (sizes_of f') (here a within call.kept) ∙ call.sizes (λ none. some (list ∙ none));
        none = λ gone. ap (sizes_of f') (here a within call.kept) ∙ no-sizes f' h' call.kept.live (sym list ∙ gone);
        beside = changes a within call.kept;
        account = subst (λ (z : Option ℕ). Gives (node_sizes m i) (sizes_of f' z) (table m) f') (sym (here a within call.kept)) call.account;
        fewer = λ e. subst (λ (es : List (K × X)). length es < length (entries m i)) (sym list) (call.fewer e);
        same = λ e. unchanged m i f' h' (call.same_forest e) (call.same_handle e);
        itself = λ kept e. call.itself kept (ap (handle m) (sym e));
        itself_gone = λ gone e. list ∙ ap (list_of f') (call.itself_gone gone (ap (handle m) (sym e)));
      },
    )
      where
        list : entries (with_tree m i f' h') i ≡ list_of f' h'
        list = ap (list_of f') (here a within call.kept)

    -- the handles of two indices were read, and the entries of one kept by the keys of the other
    pub keeps-at : {h q : Option ℕ} → h ≡ get_or m.handles i h → q ≡ handle m j → {present r : Bool} → KeepsFrom most cmp present (table m) h q r f' h'
        → AreKept most cmp (with_tree m i f' h') × KeepsFromAt most cmp present m i j r (with_tree m i f' h')
    keeps-at {h} {q} is other_is {present} {r} call =
        keeps-here (subst (λ (z : Option ℕ). KeepsFrom most cmp present (table m) (handle m i) z r f' h') other_is
        (subst (λ (z : Option ℕ). KeepsFrom most cmp present (table m) z q r f' h') (read a within is) call))
