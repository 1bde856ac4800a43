-- The orders of the two sides of an order book.
use Rattle.order_book_example.specs.declared.Side.TheVariants.{Ask, Bid}
use Rattle.order_book_example.specs.declared.Side.{Side}
use Rattle.std.proofs.lemmas.Cmp.{back_total}
use Rattle.std.specs.Cmp.{IsTotalOrder, nat_cmp_total}
use Rattle.std.specs.Ordering.{nat_cmp}
use Rattle.std.specs.Prelude.{ℕ}
use Rattle.std.specs.declared.cmp.Ordering.{Ordering}

-- the best price first: the highest that is bid, the lowest that is asked
abbrev pub order_of : Side → ℕ → ℕ → Ordering
order_of Bid a b = nat_cmp b a
order_of Ask a b = nat_cmp a b

-- the orders of both sides are total orders
pub IsTotalOrder-order_of : (side : Side) → IsTotalOrder (order_of side)
IsTotalOrder-order_of Bid = back_total nat_cmp_total
IsTotalOrder-order_of Ask = nat_cmp_total
