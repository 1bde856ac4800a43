-- Severing a node: its rest stays in a copy that was the front of the chain, and its first part in the node.
use Rattle.bforest_core.proofs.Words.{◌≡◌, ◌≢◌, ℕ, [], ◌∷◌, length, refl, sym, ap, ◌∙◌, arith, Some, slice_get, slice_get_within}
use Rattle.bforest_core.proofs.Words.{Content, Table, IsUsed, count, front_of, with_front, with_node}
use Rattle.bforest_core.proofs.table.{Pools.{apart_front, off-without_front, with_front-is}, Stored.some_same, Tables.{count-append, length-with_front}, Trading.{Puts, Takes, apart_from, draws-after, puts, takes}}
use Rattle.bforest_core.specs.Detach.{Severs}
use Rattle.bforest_nodes.specs.Content.{first_part, last_part}

module _ {K V : Type 0} {t t1 : Table K V} {node behind : ℕ} {content : Content K V} (used : IsUsed t node) (slot : slice_get t.nodes node ≡ Some content)
    (front : front_of t.chain ≡ Some behind) (there : IsUsed t1 behind) (copied : t1 ≡ with_front t t.chain content) where
  took : Takes t t1 behind content
  took = takes t t1 behind content front copied (omega (arith, there.within, ap (λ z. length z.nodes) copied, length-with_front t t.chain content))

  pub apart : behind ≢ node
  apart = apart_front t.chain front used.off_chain

  other : count node (behind ∷ []) ≡ 0
  other = apart_from node behind (λ e. apart (sym e))

  -- what is read of the copy
  pub copy-is : {c : Content K V} → slice_get t1.nodes behind ≡ Some c → c ≡ content
  copy-is found = some_same (sym found ∙ took.here)

  -- the copy is cut
  module _ (back : Content K V) where
    cut-copy : Puts t1 (with_node t1 behind back) behind back
    cut-copy = puts t1 _ behind back content took.here refl

    pub node-is : slice_get (with_node t1 behind back).nodes node ≡ Some content
    node-is = cut-copy.others node other ∙ took.others node other ∙ slot

    pub node-used : IsUsed (with_node t1 behind back) node
    node-used = record {
      within = slice_get_within _ node _ node-is;
      off_chain = rw (copied, with_front-is t t.chain content front) (off-without_front t t.chain node refl used.off_chain);
    }

    -- the copy and the node are cut
    pub severs : {from many : ℕ} → back ≡ last_part from content → {first : Content K V} → first ≡ first_part many content →
        Severs t (with_node (with_node t1 behind back) node first) node from many content behind
    severs back-is {first} first-is = let p = puts (with_node t1 behind back) _ node first content node-is refl in record {
      here = p.here ∙ ap Some first-is;
      there = p.others behind (apart_from behind node apart) ∙ cut-copy.here ∙ ap Some back-is;
      draws = draws-after (node ∷ []) (node ∷ behind ∷ []) (λ m. omega (arith, count-append m (node ∷ []) (behind ∷ [])))
          (draws-after [] (behind ∷ []) (λ m. omega arith) took.draws cut-copy.frees) p.frees;
    }
