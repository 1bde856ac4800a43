use Rattle.bforest_core.proofs.Words.{get_or, slice_get_read, rules, ◌≡◌, ℕ, ◌-◌, ◌<◌, false, List, ◌∷◌, length, slice_get, nat_eq, Option, Some, refl, sym}
use Rattle.bforest_core.proofs.Words.{ap, ◌∙◌, subst, arith, list_any, slice_get_within, Content, Free, IsFree, Table, chain_from, IsPool}
use Rattle.bforest_core.proofs.{table.Chains.front_of-is, table.Pools.{IsPool-taken, first_some, front_is_free}, table.Stored.read_same}
use Rattle.bforest_core.proofs.pool.NodePool.take_slot.Goals as goal

-- the fields of a pool, and the front of its chain as read
module _ {K V : Type 0} {n : ℕ} {nodes : List (Content K V)} {first : Option ℕ} {free limit memory : ℕ} (pool : IsPool n nodes first free limit)
    {t : Table K V} (view : record { nodes = nodes; chain = chain_from nodes free first; limit = limit; memory = memory } ≡ t) (room : 0 < length t.chain) where
  some : 0 < free
  some = omega (arith, ap (λ z. length z.chain) view)

  module _ {number node : ℕ} {front_is : Option ℕ} (reads_first : front_is ≡ first) (unwraps : front_is ≡ Some node) (number_is : number ≡ node) where
    first_is : first ≡ Some number
    first_is = sym reads_first ∙ unwraps ∙ ap Some (sym number_is)

    here : IsPool n nodes (Some number) free limit
    here = rw (← first_is) pool

    front : (next : Option ℕ) × (slice_get nodes number ≡ Some (Free next))
    front = front_is_free free some here

    within : number < length nodes
    within = slice_get_within _ _ _ front.1

    module _ {content : Content K V} (reads : content ≡ get_or nodes number content) where
      found : slice_get nodes number ≡ Some content
      found = slice_get_read nodes (length nodes) number content refl within reads

      is_free : IsFree content
      is_free = subst IsFree (sym (read_same nodes number front.1 found)) tt

      taken : {next : Option ℕ} → content ≡ Free next → IsPool n nodes next (free - 1) limit
          × (chain_from nodes free first ≡ number ∷ chain_from nodes (free - 1) next)
          × (list_any (nat_eq number) (chain_from nodes (free - 1) next) ≡ false)
      taken {next} next_is = let w = IsPool-taken next free some here (found ∙ ap Some next_is) in (w.0, ap (chain_from nodes free) first_is ∙ w.1, w.2)

pub unwrap-node-requires : goal.unwrap-node-requires
unwrap-node-requires g c = rw c.expand.ensures.value (first_some _ _ (some c.self.invariant c.self.view_is c.requires.room) c.self.invariant)

pub index-requires : goal.index-requires
index-requires g c = omega (arith, within c.self.invariant c.self.view_is c.requires.room c.expand.ensures.value c.unwrap-node.ensures c.number.ensures.value)

pub next_free-self-inside-requires : goal.next_free-self-inside-requires
next_free-self-inside-requires g c = let s = c.self in
    (search rules, is_free s.invariant s.view_is c.requires.room c.expand.ensures.value c.unwrap-node.ensures c.number.ensures.value c.index.ensures)

pub overflow_sub-self : goal.overflow_sub-self
overflow_sub-self g c = omega (arith, some c.self.invariant c.self.view_is c.requires.room)

pub invariant_of-self : goal.invariant_of-self
invariant_of-self g c = let s = c.self in
    (taken s.invariant s.view_is c.requires.room c.expand.ensures.value c.unwrap-node.ensures c.number.ensures.value c.index.ensures
    c.next_free-self-inside.ensures).0

pub returns : goal.returns
returns g c = let s = c.self in
    let after = taken s.invariant s.view_is c.requires.room c.expand.ensures.value c.unwrap-node.ensures c.number.ensures.value c.index.ensures
    c.next_free-self-inside.ensures in
    let inside = within s.invariant s.view_is c.requires.room c.expand.ensures.value c.unwrap-node.ensures c.number.ensures.value in record {
      node = rw (← c.self.view_is) (front_of-is _ _ _ c.self.invariant.linked ∙ sym c.expand.ensures.value ∙ c.unwrap-node.ensures);
      table = rw (← c.self.view_is, after.1) (rw (← c.self.view_is));
      used = rw (← c.number.ensures.value) (record { within = inside; off_chain = after.2 });
    }
