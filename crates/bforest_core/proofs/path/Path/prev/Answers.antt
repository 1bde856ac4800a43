use Rattle.bforest_core.proofs.Words.{rules, ◌≡◌, ◌≢◌, ℕ, ◌-◌, ◌<◌, Some, None, slice_get, List, length, sym, ap, subst, ◌∙◌, arith, Path, OnTree}
use Rattle.bforest_core.proofs.Words.{StandsAt, StandsOn, index_of, leaf_content, leaf_of, list_under, Stands, entry_before, Table, IsUnion, tree_of}
use Rattle.bforest_core.proofs.{walks.Standing.{on-asks, on-tree, on-within}, walks.Backward.{before_is, at_end}, walks.Nearby.{here-leaf, here-entry, some-on}}
use Rattle.bforest_core.proofs.path.Path.prev.Goals as goal

module _ {K V : Type 0} {n : ℕ} {table : Table K V} (union : IsUnion n table) {root : ℕ} (old new : Path K V n) {place : ℕ} (at : StandsAt table root old place) where
  -- from the end the previous entry is the last
  end_back : old.size ≡ 0 → (e : K × V) → slice_get (list_under table root) (length (list_under table root) - 1) ≡ Some e → StandsOn table root new (length (list_under table root) - 1) → (Some e ≡ entry_before (list_under table root) place) × StandsOn table root new (place - 1)
  end_back none e read_is on = let end = at_end _ _ _ _ _ none at.at in
      (sym read_is ∙ ap (λ z. slice_get (list_under table root) (z - 1)) (sym end) ∙ before_is (list_under table root) place (omega (arith, on-within table new on)), rw end on)

  -- the entry read after the move is the previous one
  read_back : (0 < place) × StandsOn table root new (place - 1) → (e : K × V) → ((entries : List (K × V)) → slice_get table.nodes (leaf_of new) ≡ Some (leaf_content entries) → slice_get entries (index_of new) ≡ Some e) → Some e ≡ entry_before (list_under table root) place
  read_back back e read_is = sym (here-entry union back.1 read_is) ∙ before_is _ _ back.0

  module _ (some : old.size ≢ 0) where
    -- the path moved to the previous entry
    went_back : new.size ≡ old.size → ((s : OnTree n table.nodes old.node old.entry old.size) → (0 < s.place) × Stands new.node new.entry old.size s.tree (s.place - 1)) → (0 < place) × StandsOn table root new (place - 1)
    went_back same says = let r = says (on-tree union old (some-on table old at (omega arith))) in
        (r.0, record { root_is = at.root_is; stands = subst (λ z. Stands new.node new.entry z (tree_of table.nodes root) (place - 1)) (sym same) r.1 })

    -- at the first entry the path stays
    stayed : new ≡ old → ((s : OnTree n table.nodes old.node old.entry old.size) → s.place ≡ 0) → (None ≡ entry_before (list_under table root) place) × StandsOn table root new (place - 1)
    stayed same says = let first = says (on-tree union old (some-on table old at (omega arith))) in
        (ap (λ z. entry_before (list_under table root) z) (sym first), rw same (subst (λ z. StandsOn table root old z) (omega (arith, first)) (some-on table old at (omega (arith, some)))))

pub returns-then-self-eq0 : goal.returns-then-self-eq0
returns-then-self-eq0 g c = record {
  value = λ t. (end_back c.requires.union c.args.self.now c.last.new.self t.at c.if-self-eq0.true c.last.result c.last.ensures.value c.last.ensures.stands).0;
  stands = λ t. (end_back c.requires.union _ _ t.at c.if-self-eq0.true _ c.last.ensures.value c.last.ensures.stands).1;
}

pub prev_entry-requires : goal.prev_entry-requires
prev_entry-requires g c =
    (search rules, (search rules, (c.requires.union.1.capacity, on-asks c.requires.union c.args.self.now (some-on c.args.pool.now c.args.self.now c.requires.stands.at (omega arith)))))

pub entry_here-requires : goal.entry_here-requires
entry_here-requires g c =
    let back = went_back c.requires.union c.args.self.now c.prev_entry.new.self c.requires.stands.at c.if-self-eq0.false c.prev_entry.ensures.size (c.prev_entry.ensures.moved c.if-prev_entry.true) in
    (search rules, (search rules, here-leaf c.requires.union back.1))

pub returns-then-prev_entry : goal.returns-then-prev_entry
returns-then-prev_entry g c = record {
  value = λ t. let back = went_back c.requires.union _ _ t.at c.if-self-eq0.false c.prev_entry.ensures.size (c.prev_entry.ensures.moved c.if-prev_entry.true) in
      read_back c.requires.union _ _ t.at back _ c.entry_here.ensures;
  stands = λ t. (went_back c.requires.union _ _ t.at c.if-self-eq0.false c.prev_entry.ensures.size (c.prev_entry.ensures.moved c.if-prev_entry.true)).1;
}

pub returns-else-prev_entry : goal.returns-else-prev_entry
returns-else-prev_entry g c = record {
  value = λ t. (stayed c.requires.union c.args.self.now c.prev_entry.new.self t.at c.if-self-eq0.false (c.prev_entry.ensures.same c.if-prev_entry.false) (c.prev_entry.ensures.first c.if-prev_entry.false)).0;
  stands = λ t. (stayed c.requires.union _ _ t.at c.if-self-eq0.false (c.prev_entry.ensures.same c.if-prev_entry.false) (c.prev_entry.ensures.first c.if-prev_entry.false)).1;
}
