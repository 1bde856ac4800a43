use Rattle.bforest_core.proofs.{Words.{Placing, rules, arith}, walks.Ways.{placed-retraced, placed-up}}
use Rattle.bforest_core.proofs.pool.NodePool.put_far.Goals as goal

pub go-requires : goal.go-requires
go-requires g c = let w = c.requires.placed.1 in (search rules, (search rules, (c.requires.most, (w.path, w.indices, w.size, w.follows, placed-up c.requires.union w))))

pub insert_full-requires : goal.insert_full-requires
insert_full-requires g c = let w = c.requires.placed.1 in let r = c.go.ensures.went w.path w.indices w.size w.follows (placed-up c.requires.union w) in
    let at : Placing c.args.self.now c.go.new.self = record { root = c.args.root; place = c.requires.placed.0; placed = placed-retraced r w.index_is w.placed } in
    (search rules, (search rules, (c.requires.union, (at, rw (r.nodes 0 (omega (arith, w.follows.size_is)), w.follows.leaf_is) c.requires.full))))

pub returns : goal.returns
returns g c = λ place w. let r = c.go.ensures.went w.path w.indices w.size w.follows (placed-up c.requires.union w) in
    let at : Placing c.args.self.now c.go.new.self = record { root = c.args.root; place = place; placed = placed-retraced r w.index_is w.placed } in
    let told = c.insert_full.ensures in record {
      inserted = told.inserted at;
      account = told.account at;
      same_root = told.same_root at;
      full = told.full at;
      memory = told.memory at;
      enough = told.enough at;
      refused = told.refused_pool;
    }
