use Rattle.order_book_example.proofs.SideComparatorU32.cmp.Goals as goal

pub returns-in-Bid : goal.returns-in-Bid
returns-in-Bid c = rw c.in-Bid.is c.cmp.ensures
