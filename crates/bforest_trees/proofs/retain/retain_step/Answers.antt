use Rattle.bforest_trees.proofs.Sifted.{read-removed, read-written, sifted-out}
use Rattle.bforest_trees.proofs.retain.retain_step.Goals as goal
use Rattle.bforest_trees.proofs.unions.Keeping.{on-when}
use Rattle.bforest_core.proofs.walks.Standing.{on-within}
use Rattle.bforest_core.specs.Paths.{OnEntry, list_under, sizes_under}
use Rattle.std.proofs.Common.{Some, [], ap, arith, refl, rules, slice_get, subst, suc, true, ◌∙◌, ℕ}

pub set_value-requires : goal.set_value-requires
set_value-requires g c = (search rules, (search rules, (c.requires.union, record { root = c.args.root; place = c.requires.stands.0; on = c.requires.stands.1 })))

pub next-requires : goal.next-requires
next-requires g c =
    let w = c.requires.stands in
    let at : OnEntry c.args.pool.now c.args.path.now = record { root = c.args.root; place = w.0; on = w.1 } in
    (search rules, (search rules, ((c.set_value.ensures.written at).union, λ some. record { root = c.args.root; place = w.0; on = c.set_value.ensures.stands at })))

pub remove-requires : goal.remove-requires
remove-requires g c = (search rules, (search rules, (c.requires.union, record { root = c.args.root; place = c.requires.stands.0; on = c.requires.stands.1 })))

pub entry-requires : goal.entry-requires
entry-requires g c =
    let at : OnEntry c.args.pool.now c.args.path.now = record { root = c.args.root; place = c.requires.stands.0; on = c.requires.stands.1 } in
    let r = rw c.in_ok-left.was at c.remove.ensures in
    (search rules, (search rules, ((r.removed at).union, on-when (r.stands at))))

pub returns-then-ask : goal.returns-then-ask
returns-then-ask g c = let root : ℕ = c.args.root in record {
  stepped = λ place stands. let at : OnEntry c.args.pool.now c.args.path.now = record { root = root; place = place; on = stands } in record {
    stays = true;
    left = c.ask.new.value;
    stepped = subst (λ b. g.P.Predicate.step c.args.predicate.now c.args.entry.0 c.args.entry.1 b c.ask.new.value c.ask.new.self) c.if-ask.true c.ask.ensures;
    changes = c.set_value.ensures.written at;
    gives = record { given = []; chain_is = c.set_value.ensures.chain; slots = c.set_value.ensures.slots; memory_is = c.set_value.ensures.memory; count_is = omega arith };
    at = c.next.ensures.stands (record { root = root; place = place; on = c.set_value.ensures.stands at });
    same_root = (λ e. refl, λ e. refl);
    freed_root = λ ne. absurd (ne refl);
  };
  here = λ place stands. let at : OnEntry c.args.pool.now c.args.path.now = record { root = root; place = place; on = stands } in
      c.next.ensures.value (record { root = root; place = place; on = c.set_value.ensures.stands at }) ∙ ap (λ l. slice_get l (suc place)) (c.set_value.ensures.written at).list_is
      ∙ read-written (list_under c.args.pool.now root) place c.ask.new.value;
  ended = λ bad. absurd cc;
}

pub returns-in_err-left : goal.returns-in_err-left
returns-in_err-left g c = rw c.from_residual.ensures (record {
  stepped = λ place stands. tt;
  here = λ place stands. tt;
  ended = λ none place stands.
      let at : OnEntry c.args.pool.now c.args.path.now = record { root = c.args.root; place = place; on = stands } in
      let r = rw c.in_err-left.was at c.remove.ensures in
      record {
        left = c.ask.new.value;
        stepped = subst (λ b. g.P.Predicate.step c.args.predicate.now c.args.entry.0 c.args.entry.1 b c.ask.new.value c.ask.new.self) c.if-ask.false c.ask.ensures;
        last = (r.last at).0 refl;
        ended = r.ended refl at;
        gives = r.account at;
        none_left = r.none_left refl at;
      };
})

pub returns : goal.returns
returns g c = let old = c.args.pool.now in let root : ℕ = c.args.root in let r = rw c.in_ok-left.was at c.remove.ensures in record {
  stepped = λ place stands. let at : OnEntry old c.args.path.now = record { root = root; place = place; on = stands } in
      sifted-out g.row.N g.P.Predicate.step old c.remove.new.pool root c.remove.new.self c.args.predicate.now c.ask.new.self (list_under old root) (sizes_under old root) place c.args.entry.0 c.args.entry.1 c.ask.new.value
      (subst (λ b. g.P.Predicate.step c.args.predicate.now c.args.entry.0 c.args.entry.1 b c.ask.new.value c.ask.new.self) c.if-ask.false c.ask.ensures)
      (Some c.in_ok-left.left) (r.removed at) (r.account at) (r.stands at) (r.same_root at) (r.freed_root at);
  here = λ place stands. let at : OnEntry old c.args.path.now = record { root = root; place = place; on = stands } in
      c.entry.ensures.value (record { root = c.in_ok-left.left; place = place; at = r.stands at }) ∙ ap (λ l. slice_get l place) (r.removed at).list_is
      ∙ read-removed (list_under old root) place (on-within old c.args.path.now stands);
  ended = λ bad. absurd cc;
}
