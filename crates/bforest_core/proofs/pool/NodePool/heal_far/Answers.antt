use Rattle.bforest_core.proofs.{Words.{rules}, walks.Ways.taken-retraced, removal.OnWay.taken-up}
use Rattle.bforest_core.proofs.pool.NodePool.heal_far.Goals as goal

pub go-requires : goal.go-requires
go-requires g c = let w = c.requires.taken.2 in (search rules, (search rules, (c.requires.most, (w.path, w.indices, w.size, w.follows, taken-up w))))

pub heal-requires : goal.heal-requires
heal-requires g c = let w = c.requires.taken in let t = w.2 in
    (search rules, (search rules, (w.0, w.1, taken-retraced (c.go.ensures.went t.path t.indices t.size t.follows (taken-up t)) t.index_is t.taken)))

pub returns : goal.returns
returns g c = record {
  healed = λ old place t. let r = c.go.ensures.went t.path t.indices t.size t.follows (taken-up t) in
      record { nodes = c.go.new.self.node; same = r.nodes; shrinks = c.heal.ensures.healed old place (taken-retraced r t.index_is t.taken) };
}
