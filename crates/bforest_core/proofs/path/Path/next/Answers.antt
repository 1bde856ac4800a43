use Rattle.bforest_core.proofs.{Words.{rules, refl, ◌∙◌, arith}, walks.Standing.{on-asks, on-tree, path-on}}
use Rattle.bforest_core.proofs.path.Path.next.Goals as goal

pub next_entry-requires : goal.next_entry-requires
next_entry-requires g c = (search rules, (search rules, (c.requires.union.1.capacity, on-asks c.requires.union _ (c.requires.stands c.if-self-eq0.false).on)))

pub returns-clause-value : goal.returns-clause-value
returns-clause-value g c = λ at. c.in-Some.ensures.value (on-tree c.requires.union c.args.self.now at.on)

pub returns-clause-stands : goal.returns-clause-stands
returns-clause-stands g c = λ at. let s = c.in-Some.ensures.moved (on-tree c.requires.union c.args.self.now at.on) in
    record { root_is = at.on.root_is; at = path-on _ _ _ _ _ (record { leaf = s.leaf; above = s.above; size_is = c.next_entry.ensures.size ∙ s.size_is }) }

pub returns-in_default : goal.returns-in_default
returns-in_default g c = record {
  value = λ at. c.in_default.ensures.value (on-tree c.requires.union c.args.self.now at.on);
  stands = λ at. record { root_is = at.on.root_is; at = c.in_default.ensures.last refl (on-tree c.requires.union c.args.self.now at.on) };
  end = λ none. refl;
  stays = λ end. refl;
}

pub returns-then-self-eq0 : goal.returns-then-self-eq0
returns-then-self-eq0 g c = record { value = λ at. absurd (omega arith); stands = λ at. absurd (omega arith); end = λ none. c.if-self-eq0.true; stays = λ end. refl }
