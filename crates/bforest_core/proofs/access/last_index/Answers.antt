use Rattle.bforest_core.proofs.{Words.{rules, ap, sym, ◌-◌, ◌∙◌, arith, slice_get_within, IsFree, entry_count}, table.Stored.{read_as, some_same, not_free}}
use Rattle.bforest_core.proofs.access.last_index.Goals as goal

pub node-requires : goal.node-requires
node-requires g c = (search rules, (search rules, slice_get_within _ _ c.requires.some.0 c.requires.some.1))

pub entries-requires : goal.entries-requires
entries-requires g c = let w = c.requires.some in (search rules, read_as w.1 c.node.ensures.value (λ z. ¬ IsFree z) (not_free w.0 w.2))

pub overflow_sub-result : goal.overflow_sub-result
overflow_sub-result g c = let w = c.requires.some in let is = some_same (sym c.node.ensures.value ∙ w.1) in omega (arith, w.2, ap entry_count is)

pub returns : goal.returns
returns g c = record {
  last = λ content slot. ap (λ z. z - 1) (c.entries.ensures.value ∙ ap entry_count (some_same (sym c.node.ensures.value ∙ slot)));
  most = omega arith;
}
