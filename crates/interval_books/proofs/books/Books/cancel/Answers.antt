use Rattle.interval_books.proofs.Kept.{apart-cancelled, cancelled}
use Rattle.interval_books.proofs.books.Books.cancel.Goals as goal
use Rattle.interval_books.specs.Books.{Cancelled, books_of}
use Rattle.std.proofs.Common.{arith, subst, sym}

pub invariant_of-self : goal.invariant_of-self
invariant_of-self c = apart-cancelled c.self.inside.maps (omega (arith, c.if-index-len.false, c.len.ensures.count)) c.self.invariant c.remove.ensures

pub returns : goal.returns
returns c = rw (← c.self.view_is) (subst (λ r. Cancelled (books_of c.self.inside.maps) c.args.resource c.args.start r (books_of c.remove.new.self)) (sym c.ok_or.ensures.value)
    (cancelled c.self.inside.maps (omega (arith, c.if-index-len.false, c.len.ensures.count)) c.self.invariant c.remove.ensures))
