use Rattle.bforest_core.proofs.{Words.{rules, ap, sym, ◌∙◌, slice_get_within, IsInner, entry_count}, table.Stored.{read_as, some_same}}
use Rattle.bforest_core.proofs.access.child_count.Goals as goal

pub node-requires : goal.node-requires
node-requires g c = (search rules, (search rules, slice_get_within _ _ c.requires.0 c.requires.1))

pub unwrap_inner-requires : goal.unwrap_inner-requires
unwrap_inner-requires g c = (search rules, read_as c.requires.1 c.node.ensures.value IsInner c.requires.2)

pub returns-clause-value : goal.returns-clause-value
returns-clause-value g c = λ content slot. sym (ap entry_count (some_same (sym slot ∙ c.node.ensures.value) ∙ c.unwrap_inner.ensures.value))
