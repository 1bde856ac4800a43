use Rattle.bforest_core.proofs.Words.{eq-eqb, is_lt, ap, rules, sym, ◌∙◌, false≢true}
use Rattle.bforest_core.proofs.walks.Forking.{along-below, along-last, less-tested, not-along, not-here, separator-there}
use Rattle.bforest_core.proofs.spot.goes_along.Goals as goal

pub separator-requires : goal.separator-requires
separator-requires g c = (
  search rules,
  separator-there (g.met.C.Comparator.total c.args.comp.now) c.args.pool.now.nodes c.args.node c.args.index c.args.key c.requires.inner
      c.last_index.ensures.last c.if-index-last_index.false,
)

pub returns-then-index-last_index : goal.returns-then-index-last_index
returns-then-index-last_index g c = record {
  along = λ yes. along-last (g.met.C.Comparator.total c.args.comp.now) c.args.pool.now.nodes c.args.node c.args.index c.args.key
      c.requires.inner c.last_index.ensures.last c.if-index-last_index.true;
  ordered = λ no. absurd (false≢true (sym no ∙ eq-eqb c.args.index c.last_index.result c.if-index-last_index.true));
  apart = λ no. absurd (false≢true (sym no ∙ eq-eqb c.args.index c.last_index.result c.if-index-last_index.true));
}

pub returns-else-index-last_index : goal.returns-else-index-last_index
returns-else-index-last_index g c = record {
  along = λ yes. along-below (g.met.C.Comparator.total c.args.comp.now) c.args.pool.now.nodes c.args.node c.args.index c.args.key
      c.requires.inner c.separator.ensures (sym c.cmp.ensures ∙ less-tested c.cmp.result (sym c.is_lt.ensures ∙ yes));
  ordered = λ no. not-along (g.met.C.Comparator.total c.args.comp.now) c.args.pool.now.nodes c.args.node c.args.index c.args.key
      c.requires.inner c.separator.ensures (ap is_lt (sym c.cmp.ensures) ∙ sym c.is_lt.ensures ∙ no);
  apart = λ no. not-here (g.met.C.Comparator.total c.args.comp.now) c.args.pool.now.nodes c.args.node c.args.index c.args.key
      c.requires.inner c.separator.ensures (ap is_lt (sym c.cmp.ensures) ∙ sym c.is_lt.ensures ∙ no);
}
