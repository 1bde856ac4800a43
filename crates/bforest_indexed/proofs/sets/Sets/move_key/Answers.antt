use Rattle.bforest.specs.Set.{as_removed}
use Rattle.bforest.specs.declared.set_forest.TheConstants.{SET_LEAF}
use Rattle.bforest_indexed.proofs.Moves.{moves, moves-absent, moves-one, moves-refused, no-value, the-value}
use Rattle.bforest_indexed.proofs.sets.Sets.move_key.Goals as goal
use Rattle.bforest_indexed.specs.Indexed.{RemovesAt}
use Rattle.bforest_trees.proofs.After.{handed-on}
use Rattle.std.proofs.Common.{subst, sym, ◌∙◌}

pub returns-then-not-contains : goal.returns-then-not-contains
returns-then-not-contains g c = moves-absent (no-value _ (sym c.contains.ensures.value ∙ c.if-not-contains.true))

pub returns-then-index : goal.returns-then-index
returns-then-index g c = moves-one (the-value _ (sym c.contains.ensures.value ∙ c.if-not-contains.false)) (sym c.index.ensures.number ∙ c.if-index.true ∙ c.index-2.ensures.number)

pub returns-in_err-insert : goal.returns-in_err-insert
returns-in_err-insert g c = rw (handed-on c.from_residual.ensures.1) (moves-refused (the-value _ (sym c.contains.ensures.value ∙ c.if-not-contains.false))
    (λ one. c.if-index.false (c.index.ensures.number ∙ one ∙ sym c.index-2.ensures.number)) c.in_err-insert.ensures)

pub returns : goal.returns
returns g c = moves (the-value _ (sym c.contains.ensures.value ∙ c.if-not-contains.false)) (λ one. c.if-index.false (c.index.ensures.number ∙ one ∙ sym c.index-2.ensures.number)) c.in_ok-insert.ensures
    (subst (λ z. RemovesAt SET_LEAF (g.C.Comparator.order z) c.insert.new.self (g.I.Idx.number c.args.from) c.args.key (as_removed c.remove.result) c.remove.new.self) c.in_ok-insert.ensures.beside.same_comparator c.remove.ensures)
