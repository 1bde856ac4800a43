-- Lending the value of a key of one index: what each index keeps, once the loan has ended.
use Rattle.bforest.proofs.Balances.{length-written, sizes-stay}
use Rattle.bforest.proofs.Clients.{present-value}
use Rattle.bforest.proofs.Entries.{put-present}
use Rattle.bforest.proofs.Lent.{with-value-nowhere}
use Rattle.bforest.specs.Entries.{place, value_for}
use Rattle.bforest.specs.Forest.{Forest, list_of}
use Rattle.bforest.specs.Room.{Balances, node_count}
use Rattle.bforest.specs.Written.{WritesFor, with_value_for}
use Rattle.bforest_indexed.proofs.Kept.{changes, kept-set, with_tree}
use Rattle.bforest_indexed.specs.Indexed.{AreKept, ChangesAt, Indexed, count, entries, handle, table}
use Rattle.bforest_indexed.specs.Written.{WritesAt, with_value_at}
use Rattle.std.proofs.Common.{None, OnSome, Option, Some, ap, arith, length, subst, sym, ◌<◌, ◌∙◌, ◌≡◌, ℕ}
use Rattle.std.proofs.lemmas.List.{set-get_or}
use Rattle.std.specs.Borrow.{MutBor}
use Rattle.std.specs.Option.{is_some, option_copied_mut}
use Rattle.std.specs.declared.cmp.Ordering.{Ordering}

-- what a loan of the value of a key promises
abbrev Lent : {K X : Type 0} → (K → K → Ordering) → Forest K X → K → Option (MutBor X) → Option ℕ → Type 0
Lent {X = X} cmp f k r h = (option_copied_mut r ≡ value_for cmp (list_of f h) k) × OnSome r ((w : X) → WritesFor cmp f h k w (with_value_for cmp f h k w))

module _ {K X C : Type 0} {most : ℕ} {cmp : K → K → Ordering} {m : Indexed K X C} {i : ℕ} (a : AreKept most cmp m) (within : i < count m) (k : K) where
  -- a value was written: each index keeps its handle
  module _ {w v : X} {f' : Forest K X} (there : value_for cmp (entries m i) k ≡ Some v) (call : WritesFor cmp (table m) (handle m i) k w f') where
    same-tree : with_tree m i f' (handle m i) ≡ record m { forest = f' }
    same-tree = λ j. record m { forest = f'; handles = set-get_or m.handles i None j }

    balanced : Balances most (table m) (handle m i) f' (handle m i)
    balanced =
        let here = present-value cmp (entries m i) k ∙ ap is_some there in
        let same : length (list_of f' (handle m i)) ≡ length (entries m i) = ap length (call.put.list ∙ put-present cmp (entries m i) k w here) ∙ length-written (entries m i) (place cmp (entries m i) k) w in
        record {
          fit = sizes-stay most (table m) f' (handle m i) (handle m i) (a.fit i) same call.sizes;
          nodes = omega (arith, call.slots, call.free, ap node_count call.sizes);
          slots = omega (arith, call.slots);
          within = λ low. omega (arith, call.slots, call.put.limit, low);
        }

    kept : AreKept most cmp (record m { forest = f' })
    kept = subst (AreKept most cmp) same-tree (kept-set a within call.put (call.increasing cmp (a.increasing i)) balanced)

    writes-at : WritesAt cmp m i k w (record m { forest = f' })
    writes-at = record {
      put = call.put.list;
      found = call.found;
      others = call.others;
      sizes = call.sizes;
      slots = call.slots;
      free = call.free;
      table_memory = call.memory;
      beside = subst (ChangesAt m i) same-tree (changes a within call.put);
    }

  lent-here : (r : Option (MutBor X)) → Lent cmp (table m) k r (handle m i) → (w : X) → AreKept most cmp (with_value_at cmp m i k w)
  lent-here (Some v) lent w = kept (sym lent.0) (lent.1 w)
  lent-here None lent w = subst (λ z. AreKept most cmp (record m { forest = z })) (sym (with-value-nowhere cmp (table m) (handle m i) k lent.0 w)) a

  lent-told : (r : Option (MutBor X)) → Lent cmp (table m) k r (handle m i) → OnSome r ((w : X) → WritesAt cmp m i k w (with_value_at cmp m i k w))
  lent-told (Some v) lent = λ w. writes-at (sym lent.0) (lent.1 w)
  lent-told None lent = tt

  module _ (r : Option (MutBor X)) {h : Option ℕ} (read : h ≡ handle m i) (value : option_copied_mut r ≡ value_for cmp (list_of (table m) h) k)
      (written : OnSome r ((w : X) → WritesFor cmp (table m) h k w (with_value_for cmp (table m) h k w))) where
    -- whatever is written, each index keeps what it has to
    pub lent-kept : (w : X) → AreKept most cmp (record m { forest = with_value_for cmp (table m) h k w })
    lent-kept w = subst (λ (q : Option ℕ). AreKept most cmp (record m { forest = with_value_for cmp (table m) q k w })) (sym read) (lent-here r (subst (Lent cmp (table m) k r) read (value, written)) w)

    -- what is lent is the value of the key of the index
    pub lent-value : option_copied_mut r ≡ value_for cmp (entries m i) k
    lent-value = value ∙ ap (λ (q : Option ℕ). value_for cmp (list_of (table m) q) k) read

    -- what is written through the loan is the value of the key
    pub lent-writes : OnSome r ((w : X) → WritesAt cmp m i k w (with_value_at cmp m i k w))
    lent-writes = lent-told r (subst (Lent cmp (table m) k r) read (value, written))
