use Rattle.bforest_indexed.specs.Indexed.{entries}
use Rattle.interval_books.proofs.Searches.{first-held, first-next}
use Rattle.interval_books.proofs.intervals.first_met.Goals as goal
use Rattle.std.proofs.Common.{None, Some, ap, if◌then◌else◌, sym, ◌∙◌}
use Rattle.std.proofs.lemmas.Bool.{le-ltb, lt-ltb}

pub returns-then-is_some : goal.returns-then-is_some
returns-then-is_some c =
    first-held c.args.start c.args.end (entries c.args.maps.now c.args.index) c.holding-before.result c.requires.interval c.requires.apart c.holding-before.ensures (sym c.is_some.ensures ∙ c.if-is_some.true)

pub returns-in-Some : goal.returns-in-Some
returns-in-Some c =
    sym (ap (λ t. if t then Some c.in-Some.next else None) (lt-ltb c.in-Some.next.0 c.args.end c.if-next-end.true))
    ∙ first-next c.args.start c.args.end (entries c.args.maps.now c.args.index) c.holding-before.result c.requires.interval c.requires.apart c.holding-before.ensures (Some c.in-Some.next) (sym c.is_some.ensures ∙ c.if-is_some.false) (sym c.in-Some.is ∙ c.get_or_greater.ensures.entry)

pub returns-in_default : goal.returns-in_default
returns-in_default c =
    sym (ap (λ t. if t then Some c.in-Some.next else None) (le-ltb c.in-Some.next.0 c.args.end c.if-next-end.false))
    ∙ first-next c.args.start c.args.end (entries c.args.maps.now c.args.index) c.holding-before.result c.requires.interval c.requires.apart c.holding-before.ensures (Some c.in-Some.next) (sym c.is_some.ensures ∙ c.if-is_some.false) (sym c.in-Some.is ∙ c.get_or_greater.ensures.entry)

pub returns-in_default-2 : goal.returns-in_default-2
returns-in_default-2 c =
    first-next c.args.start c.args.end (entries c.args.maps.now c.args.index) c.holding-before.result c.requires.interval c.requires.apart c.holding-before.ensures None (sym c.is_some.ensures ∙ c.if-is_some.false) (sym c.in_default.is ∙ c.get_or_greater.ensures.entry)
