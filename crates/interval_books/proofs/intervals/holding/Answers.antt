use Rattle.bforest_indexed.specs.Indexed.{entries}
use Rattle.interval_books.proofs.Searches.{going_on, held}
use Rattle.interval_books.proofs.intervals.holding.Goals as goal
use Rattle.std.proofs.Common.{None, Some, ap, if◌then◌else◌, sym, ◌∙◌}
use Rattle.std.proofs.lemmas.Bool.{le-ltb, lt-ltb}

pub returns-in-Some : goal.returns-in-Some
returns-in-Some c =
    sym (ap (λ t. if t then Some c.in-Some.last else None) (lt-ltb c.args.moment c.in-Some.last.1 c.if-moment-last.true))
    ∙ ap (going_on c.args.moment) (sym c.in-Some.is ∙ c.get_or_less.ensures.entry) ∙ held c.args.moment (entries c.args.maps.now c.args.index) c.requires.apart

pub returns-in_default : goal.returns-in_default
returns-in_default c =
    sym (ap (λ t. if t then Some c.in-Some.last else None) (le-ltb c.args.moment c.in-Some.last.1 c.if-moment-last.false))
    ∙ ap (going_on c.args.moment) (sym c.in-Some.is ∙ c.get_or_less.ensures.entry) ∙ held c.args.moment (entries c.args.maps.now c.args.index) c.requires.apart

pub returns-in_default-2 : goal.returns-in_default-2
returns-in_default-2 c =
    ap (going_on c.args.moment) (sym c.in_default.is ∙ c.get_or_less.ensures.entry) ∙ held c.args.moment (entries c.args.maps.now c.args.index) c.requires.apart
