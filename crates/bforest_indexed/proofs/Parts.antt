-- What a removal of a range, and a tree that is made anew, leave of all trees.
use Rattle.bforest.proofs.Balances.{between-balance, compacts-balance}
use Rattle.bforest.specs.Bounds.{is_between}
use Rattle.bforest.specs.Calls.{Compacts, RemovesBetween, fewest}
use Rattle.bforest.specs.Entries.{value_for}
use Rattle.bforest.specs.Forest.{Forest, Gives, list_of, sizes_of}
use Rattle.bforest.specs.Refusal.{Full, OutOfMemory}
use Rattle.bforest.specs.Room.{node_count}
use Rattle.bforest_indexed.proofs.Copies.{may-more, room-more}
use Rattle.bforest_indexed.proofs.Kept.{changes, changes-not, here, kept-set, list-here, not-both, ok-err, read, unchanged, with_tree}
use Rattle.bforest_indexed.proofs.Loaded.{load-few, some-most}
use Rattle.bforest_indexed.specs.Indexed.{AreKept, CompactsAt, Indexed, RemovesBetweenAt, count, entries, handle, node_sizes, table}
use Rattle.std.proofs.Common.{Bool, Err, List, None, Ok, Option, Result, ap, get_or, if◌then◌else◌, length, refl, subst, sym, ◌<◌, ◌∙◌, ◌≡◌, ℕ}
use Rattle.std.specs.declared.cmp.Ordering.{Ordering}
use Rattle.std.specs.declared.ops.Bound.{Bound}

module _ {K X C : Type 0} {most : ℕ} {cmp : K → K → Ordering} {m : Indexed K X C} {i : ℕ} (a : AreKept most cmp m) (within : i < count m) {f' : Forest K X} {h' : Option ℕ} where
  -- the entries within bounds were removed from the tree of an index
  between-here : {lo hi : Bound K} {r : Bool} → RemovesBetween most cmp lo hi (table m) (handle m i) r f' h'
      → AreKept most cmp (with_tree m i f' h') × RemovesBetweenAt most cmp lo hi m i r (with_tree m i f' h')
  between-here {lo} {hi} call = (
    kept-set a within call.removed call.increasing (between-balance most a.odd (table m) f' (handle m i) h' (a.fit i) call),
    record {
      removed = list-here a within call.removed;
      changed = call.changed;
      found = λ q. subst (λ (es : List (K × X)). value_for cmp es q ≡ (if is_between cmp lo hi q then None else value_for cmp (entries m i) q)) (sym (ap (list_of f') (here a within call.removed))) (call.found q);
      fewer = λ e. subst (λ (es : List (K × X)). length es < length (entries m i)) (sym (ap (list_of f') (here a within call.removed))) (call.fewer e);
      sizes = ap (sizes_of f') (here a within call.removed) ∙ call.sizes;
      beside = changes a within call.removed;
      account = subst (λ (z : Option ℕ). Gives (node_sizes m i) (sizes_of f' z) (table m) f') (sym (here a within call.removed)) call.account;
      same = λ e. unchanged m i f' h' (call.same_forest e) (call.same_handle e);
    },
  )

  pub between-at : {h : Option ℕ} → h ≡ get_or m.handles i h → {lo hi : Bound K} {r : Bool} → RemovesBetween most cmp lo hi (table m) h r f' h'
      → AreKept most cmp (with_tree m i f' h') × RemovesBetweenAt most cmp lo hi m i r (with_tree m i f' h')
  between-at is {lo} {hi} {r} call = between-here (subst (λ (z : Option ℕ). RemovesBetween most cmp lo hi (table m) z r f' h') (read a within is) call)

  -- the tree of an index was made anew
  compacted-here : (r : Result (Unit {0}) OutOfMemory) → Compacts most (table m) (handle m i) r f' h' → AreKept most cmp (with_tree m i f' h') × CompactsAt most m i r (with_tree m i f' h')
  compacted-here (Ok done) call = (
    kept-set a within call.same_list (call.increasing cmp (a.increasing i)) (compacts-balance most a.odd (table m) f' (handle m i) h' (a.fit i) call),
    record {
      same_list = list-here a within call.same_list;
      packed = rw (ap (sizes_of f') (here a within call.same_list)) call.packed;
      nodes = ap (λ q. node_count (sizes_of f' q)) (here a within call.same_list) ∙ call.nodes;
      beside = changes a within call.same_list;
      account = call.account;
      full = call.full;
      memory = call.memory;
      succeeds = call.succeeds;
      refused = tt;
      room = λ lists most_entries short room. refl;
      never_full = λ lists most_entries short may. ok-err done Full;
    },
  )
  compacted-here (Err refused) call =
      let same = unchanged m i f' h' call.refused_forest call.refused_handle in (
        subst (AreKept most cmp) (sym same) a,
        record {
          same_list = ap (λ z. entries z i) same;
          packed = tt;
          nodes = tt;
          beside = changes-not m (with_tree m i f' h') i same;
          account = tt;
          full = call.full;
          memory = call.memory;
          succeeds = call.succeeds;
          refused = same;
          room = λ lists most_entries short room. call.succeeds (room-more a (fewest most (length (entries m i))) (load-few most (some-most a) (short.each i)) lists short room);
          never_full = λ lists most_entries short may is. not-both (call.full.0 is) (may-more a (fewest most (length (entries m i))) (load-few most (some-most a) (short.each i)) lists short may);
        },
      )

  pub compacted-at : {h : Option ℕ} → h ≡ get_or m.handles i h → {r : Result (Unit {0}) OutOfMemory} → Compacts most (table m) h r f' h'
      → AreKept most cmp (with_tree m i f' h') × CompactsAt most m i r (with_tree m i f' h')
  compacted-at is {r} call = compacted-here r (subst (λ (z : Option ℕ). Compacts most (table m) z r f' h') (read a within is) call)
