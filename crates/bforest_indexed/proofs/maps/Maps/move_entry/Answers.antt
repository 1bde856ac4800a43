use Rattle.bforest.specs.declared.map_forest.TheConstants.{MAP_LEAF}
use Rattle.bforest_indexed.proofs.Moves.{moves, moves-absent, moves-one, moves-refused}
use Rattle.bforest_indexed.proofs.maps.Maps.move_entry.Goals as goal
use Rattle.bforest_indexed.specs.Indexed.{RemovesAt}
use Rattle.bforest_trees.proofs.After.{handed-on}
use Rattle.std.proofs.Common.{subst, sym, ◌∙◌}

pub returns-in_default : goal.returns-in_default
returns-in_default g c = moves-absent (sym c.get.ensures.value ∙ c.in_default.is)

pub returns-then-index : goal.returns-then-index
returns-then-index g c = moves-one (sym c.get.ensures.value ∙ c.in-Some.is) (sym c.index.ensures.number ∙ c.if-index.true ∙ c.index-2.ensures.number)

pub returns-in_err-insert : goal.returns-in_err-insert
returns-in_err-insert g c = rw (handed-on c.from_residual.ensures.1) (moves-refused (sym c.get.ensures.value ∙ c.in-Some.is)
    (λ one. c.if-index.false (c.index.ensures.number ∙ one ∙ sym c.index-2.ensures.number)) c.in_err-insert.ensures)

pub returns : goal.returns
returns g c = moves (sym c.get.ensures.value ∙ c.in-Some.is) (λ one. c.if-index.false (c.index.ensures.number ∙ one ∙ sym c.index-2.ensures.number)) c.in_ok-insert.ensures
    (subst (λ z. RemovesAt MAP_LEAF (g.C.Comparator.order z) c.insert.new.self (g.I.Idx.number c.args.from) c.args.key c.remove.result c.remove.new.self) c.in_ok-insert.ensures.beside.same_comparator c.remove.ensures)
