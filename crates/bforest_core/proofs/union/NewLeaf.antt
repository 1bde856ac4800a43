-- A leaf of one entry in a free node, or in a new slot where no node is free: the answers of `alloc_node` and `push_leaf`.
use Rattle.bforest_core.proofs.Words.{◌≡◌, ℕ, ◌+◌, ◌-◌, ◌≤◌, ◌<◌, List, [], ◌∷◌, ◌++◌, length, Err, None, Ok, Some, refl, sym, ap, arith, length-append, set_at}
use Rattle.bforest_core.proofs.Words.{AllocatesLeaf, Content, Free, IsPool, IsUsed, Leaf, Table, chain_from, free_count, front_of, reserved, with_front, with_node, without_front, ◌∙◌}
use Rattle.bforest_core.proofs.{table.Allocating.{finds_room, grows-by, grows-not, needs_growth, reserved-enough, taken-memory, taken_is, used_written}, union.Planting.planted-alloc}
use Rattle.bforest_core.specs.declared.pool.OutOfMemory.TheVariants.{Memory}
use Rattle.std.proofs.Common.{max, ◌*◌}

-- the front of the free list becomes the leaf
pub takes-front : {K V : Type 0} {most : ℕ} (t : Table K V) {u : Table K V} {number : ℕ} {content : Content K V} (key : K) (value : V) → 1 ≤ free_count t → front_of t.chain ≡ Some number
    → u ≡ without_front t t.chain → IsUsed u number → content ≡ Leaf (key ∷ []) (value ∷ []) → AllocatesLeaf most t (with_node u number content) key value (Ok number)
takes-front {most} t {u} {number} {content} key value enough front u_is used content_is = let held = taken-memory t u_is in
    let same : reserved t 1 u.memory ≡ t = ap (reserved t 1) held ∙ reserved-enough t 1 enough in
    let node = ap (λ z. front_of z.chain) same ∙ front in
    let ok = taken_is t front u_is content_is ∙ ap (λ z. with_front z z.chain (Leaf (key ∷ []) (value ∷ []))) (sym same) in record {
      node = node;
      ok = ok;
      growth = grows-not held;
      err = tt;
      full = (λ full. absurd cc, λ short. absurd (omega arith));
      memory = λ is. absurd cc;
      enough = λ enough. refl;
      used = used_written u number content used;
      planted = λ union. planted-alloc most (with_node u number content) u.memory key value union node ok (grows-not held);
    }

-- a slot is added
module _ {K V : Type 0} {most : ℕ} {nodes : List (Content K V)} {first : _} {free limit memory : ℕ} (pool : IsPool most nodes first free limit) {t : Table K V}
    (view : record { nodes = nodes; chain = chain_from nodes free first; limit = limit; memory = memory } ≡ t) (none : length t.chain ≡ 0) where
  none-free : free ≡ 0
  none-free = omega (arith, pool.counted, ap (λ z. length z.chain) view)

  -- the number of the new slot is the front of a free list to which one slot was added
  new-front : (held : ℕ) → front_of (reserved t 1 held).chain ≡ Some (length nodes)
  new-front held = let end : length nodes + 0 ≡ length nodes = omega arith in rw (← view, none-free) (ap Some end)

  -- the table with the new slot
  abbrev pushed : (leaf : Content K V) → ℕ → Table K V
  pushed leaf held = record { nodes = nodes ++ leaf ∷ []; chain = chain_from (nodes ++ leaf ∷ []) free first; limit = limit; memory = held }

  pushed-is : (leaf : Content K V) (held : ℕ) → pushed leaf held ≡ with_front (reserved t 1 held) (reserved t 1 held).chain leaf
  pushed-is leaf held = let end : length nodes ≡ length nodes + 0 = omega arith in
      rw (← view, none-free) (ap (λ z. record { nodes = z; chain = []; limit = limit; memory = held }) (sym (set_at nodes (Free None) [] leaf (length nodes + 0) end)))

  module _ (key : K) (value : V) {len : ℕ} (len_is : len ≡ length nodes) (within : len < limit) where
    -- a slot was added
    pub pushes : {held : ℕ} → memory ≤ held → (len + 1 ≤ memory → held ≡ memory) → held ≤ max memory (max (2 * (len + 1)) 4)
        → AllocatesLeaf most t (pushed (Leaf (key ∷ []) (value ∷ [])) held) key value (Ok len)
    pushes {held} grows suffices bounded = let leaf = Leaf (key ∷ []) (value ∷ []) in let one : 1 - free ≡ 1 = omega (arith, none-free) in
        let front = rw (← len_is) at (new-front held) in let is = pushed-is leaf held in
        let growth = grows-by 1 pool view len_is {new = pushed leaf held} (omega (arith, none-free)) grows (rw (← one) at suffices) (rw (← one) at bounded) in record {
          node = front;
          ok = is;
          growth = growth;
          err = tt;
          full = (λ full. absurd cc, λ short. absurd (finds_room 1 pool view len_is (omega (arith, none-free)) short));
          memory = λ full. absurd cc;
          enough = λ enough. refl;
          used = record { within = omega (arith, len_is, length-append nodes (leaf ∷ [])); off_chain = rw none-free refl };
          planted = λ union. planted-alloc most (pushed leaf held) held key value union front is growth;
        }

    -- there is no memory for a slot more
    pub push-refused : {new : Table K V} → new ≡ t → memory < len + 1 → AllocatesLeaf most t new key value (Err Memory)
    push-refused {new} same short = record {
      node = tt;
      ok = tt;
      growth = grows-not (ap (λ z. z.memory) same);
      err = same;
      full = (λ full. absurd cc, λ scarce. absurd (finds_room 1 pool view len_is (omega (arith, none-free)) scarce));
      memory = λ is. needs_growth 1 pool view len_is (omega (arith, none-free)) (omega (arith, none-free)) (omega (arith, none-free));
      enough = λ enough. absurd (omega (arith, none));
      used = tt;
      planted = λ union. tt;
    }
