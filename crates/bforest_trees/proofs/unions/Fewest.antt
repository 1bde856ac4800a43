-- The fewest nodes of a tree, counted level by level.
use Rattle.bforest_core.proofs.union.Needs.{ceil-low, over-one}
use Rattle.bforest_core.specs.Packed.{fewest, nodes_over}
use Rattle.std.proofs.Common.{ap, arith, subst, sym, ◌*◌, ◌+◌, ◌<◌, ◌≡◌, ◌≤◌, ℕ}
use Rattle.std.proofs.lemmas.Grind.{div_ceil_times}
use Rattle.std.specs.Int.{div_ceil}

-- at most half as many are above, and half of these above those
pub parents-few : (count parents : ℕ) → 1 < count → parents ≡ div_ceil count 8 → 2 * parents ≤ count
parents-few count parents many is = let z = div_ceil_times count 8 (omega arith) in omega (arith, z.1, is, many)

pub over-first : (count : ℕ) → count ≤ 1 → (levels : ℕ) → count ≤ levels → 0 ≡ nodes_over levels count
over-first count few levels within = sym (over-one levels count few)

pub fewest-is : (most entries leaves above : ℕ) → 0 < most → leaves ≡ div_ceil entries most → ((levels : ℕ) → leaves ≤ levels → above ≡ nodes_over levels leaves) → leaves + above ≡ fewest most entries
fewest-is most entries leaves above some is told = let z = div_ceil_times entries most some in
    let within : leaves ≤ entries = subst (λ k. k ≤ entries) (sym is) (ceil-low (div_ceil entries most) most entries some z.1) in
    omega (arith, is, told entries within, ap (nodes_over entries) is)
