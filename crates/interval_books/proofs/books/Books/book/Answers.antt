use Rattle.interval_books.proofs.Kept.{apart-booked, as_booked, recorded}
use Rattle.interval_books.proofs.books.Books.book.Goals as goal
use Rattle.interval_books.proofs.books.Books.book.Goals.{in-Err, in-Ok}
use Rattle.interval_books.specs.Books.{Recorded, books_of}
use Rattle.std.proofs.Common.{ap, arith, subst, sym, ◌∙◌, ◌≡◌}

answered : (c : goal.Joined-insert) → c.match-insert.result ≡ as_booked c.insert.result
answered c = elim c.match-insert.branch [
  | in-Ok w ↦ w.result-is ∙ sym (ap as_booked w.in-Ok.is)
  | in-Err w ↦ w.result-is ∙ sym (ap as_booked w.in-Err.is)
]

pub invariant_of-self : goal.invariant_of-self
invariant_of-self c = apart-booked c.self.inside.maps (omega (arith, c.if-index-len.false, c.len.ensures.count)) c.self.invariant c.if-start-end.false (sym c.first_met.ensures ∙ c.in_default.is) c.insert.result c.insert.ensures

pub returns : goal.returns
returns c = rw (← c.self.view_is) (subst (λ r. Recorded (books_of c.self.inside.maps) c.args.resource c.args.start c.args.end r (books_of c.insert.new.self)) (sym (answered c))
    (recorded c.self.inside.maps (omega (arith, c.if-index-len.false, c.len.ensures.count)) c.self.invariant c.if-start-end.false (sym c.first_met.ensures ∙ c.in_default.is) c.insert.result c.insert.ensures))
