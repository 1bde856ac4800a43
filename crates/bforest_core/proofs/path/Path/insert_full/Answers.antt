use Rattle.bforest_core.proofs.Words.{Placing, rules, ◌≡◌, ◌++◌, length, get_or, refl, ap, ◌∙◌, arith, sizes_of, need, leaf_content, tree_of}
use Rattle.bforest_core.proofs.{Words.reserved, insertion.Insertion.{inserts, placed-under, under-low, growth-low, placed-mid, full-reserved, put-split}}
use Rattle.bforest_core.proofs.{table.Allocating.{err_iff, err_is, reserved-free}, insertion.LeafSpot.leaf_spot}
use Rattle.bforest_core.proofs.path.Path.insert_full.Goals as goal

pub needed_here-requires : goal.needed_here-requires
needed_here-requires g c = let w = c.requires.placed in
    (search rules, (search rules, ((under-low _ _ c.requires.union w.placed).1, (tree_of c.args.pool.now.nodes w.root, w.place, placed-under _ _ c.requires.union w.placed))))

pub split_leaf-requires : goal.split_leaf-requires
split_leaf-requires g c = let w = c.requires.placed in let t0 = c.args.pool.now in let union = c.requires.union in let tree = tree_of t0.nodes w.root in
    let n = need g.row.N w.place (sizes_of tree) in let here = placed-under _ t0 union w.placed in
    let mid_is : c.reserve.new.self ≡ reserved t0 n c.reserve.new.self.memory = c.in_ok-reserve.ensures.ok ∙ ap (λ z. reserved t0 z c.reserve.new.self.memory) (c.needed_here.ensures.value tree w.place here) in
    let d = leaf_spot here in let full = full-reserved g.row.N t0 n 0 (get_or c.args.self.now.node 0 0) (leaf_content (d.l ++ d.r)) d.slot_is c.requires.full in
    let placed = placed-mid _ t0 c.reserve.new.self n union w.placed mid_is in
    (search rules, (search rules, ((under-low _ _ union w.placed).1, (rw mid_is full, (tree, w.place, placed, omega (arith, ap (λ z. length z.chain) mid_is, reserved-free t0 n 0), growth-low _ t0 w.root w.place union w.placed.root_is c.in_ok-reserve.ensures.numbers)))))

pub root-requires : goal.root-requires
root-requires g c = let put = put-split _ _ _ _ _ _ _ _ _ c.requires.union c.requires.placed.placed c.in_ok-reserve.ensures.numbers c.needed_here.ensures.value
    (λ short. (let e = c.in_ok-reserve.ensures.full.1 short in absurd cc)) c.in_ok-reserve.ensures.ok c.in_ok-reserve.ensures.growth c.split_leaf.ensures.inserted in
    (search rules, (put.some, put.low))

pub returns-in_err-reserve : goal.returns-in_err-reserve
returns-in_err-reserve g c = let t0 = c.args.pool.now in let e = err_is _ _ c.from_residual.ensures.1 in let said = c.in_err-reserve.ensures in
    let need_is = λ (at : Placing t0 c.args.self.now). c.needed_here.ensures.value (tree_of t0.nodes at.root) at.place (placed-under _ _ c.requires.union at.placed) in
    record {
      inserted = λ at. rw e tt;
      account = λ at. rw e tt;
      stands = λ at. rw e tt;
      same_root = λ at. rw e tt;
      full = λ at. (λ is. (rw (need_is at) at (said.full.0 ((err_iff _ _ _ e).0 is))), λ short. (err_iff _ _ _ e).1 (said.full.1 (rw (need_is at) short)));
      memory = λ at is. rw (need_is at) at (said.memory ((err_iff _ _ _ e).0 is));
      enough = λ at enough. (let ok = said.enough (rw (need_is at) enough) in absurd cc);
      refused_pool = rw e said.err;
      refused_path = rw e refl;
    }

pub returns : goal.returns
returns g c = inserts _ c.root.ensures (λ at. put-split _ _ _ _ _ _ _ _ _ c.requires.union at.placed c.in_ok-reserve.ensures.numbers c.needed_here.ensures.value
    (λ short. (let e = c.in_ok-reserve.ensures.full.1 short in absurd cc)) c.in_ok-reserve.ensures.ok c.in_ok-reserve.ensures.growth c.split_leaf.ensures.inserted)
