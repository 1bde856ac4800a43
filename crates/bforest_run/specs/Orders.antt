-- The orders that lines name, as functions of two numbers.
use Rattle.bforest_run.specs.declared.order.Order.TheVariants.{Down, Tens, Up}
use Rattle.bforest_run.specs.declared.order.Order.{Order}
use Rattle.std.proofs.lemmas.Cmp.{back_total, on_total}
use Rattle.std.specs.Cmp.{IsTotalOrder, nat_cmp_total}
use Rattle.std.specs.Ordering.{nat_cmp}
use Rattle.std.specs.Prelude.{◌/◌, ℕ}
use Rattle.std.specs.declared.cmp.Ordering.{Ordering}

-- how two numbers compare under the order of this name
abbrev pub order_of : Order → ℕ → ℕ → Ordering
order_of Up a b = nat_cmp a b
order_of Down a b = nat_cmp b a
order_of Tens a b = nat_cmp (a / 10) (b / 10)

-- each order is a total order
pub IsTotalOrder-order_of : (order : Order) → IsTotalOrder (order_of order)
IsTotalOrder-order_of Up = nat_cmp_total
IsTotalOrder-order_of Down = back_total nat_cmp_total
IsTotalOrder-order_of Tens = on_total (λ a. a / 10) nat_cmp_total
