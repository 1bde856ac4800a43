use Rattle.bforest_core.proofs.{Words.{rules, arith}, insertion.HalvingNode.{site, put_grows}, insertion.Grow.{goes, step_most}}
use Rattle.bforest_core.proofs.{insertion.Nodes.{put_asks, put_full}, removal.Asked.one_small}
use Rattle.bforest_core.proofs.path.Path.insert_here.Goals as goal

pub put_child-requires : goal.put_child-requires
put_child-requires g c = (search rules, put_asks (site c.requires.pending c.requires.within g.row.N (c.args.half.key, c.args.half.node)) _ (omega arith))

pub index_behind-requires : goal.index_behind-requires
index_behind-requires g c = omega (arith, one_small c.requires.pending c.requires.within)

pub returns-then-put_child-clause-grown : goal.returns-then-put_child-clause-grown
returns-then-put_child-clause-grown g c = λ done w. put_grows w c.requires.within g.row.N _ (omega arith)
    c.put_child.ensures c.if-put_child.true _ (goes c.args.half.moved (step_most _) (omega arith) c.index_behind.ensures.value)

pub returns-else-put_child : goal.returns-else-put_child
returns-else-put_child g c = let full = put_full (site c.requires.pending c.requires.within g.row.N (c.args.half.key, c.args.half.node)) _
    (omega arith) c.put_child.ensures c.if-put_child.false in
    record { grown = search rules; full = λ none. full.0; pool = λ none. full.1; path = search rules; size = search rules }
