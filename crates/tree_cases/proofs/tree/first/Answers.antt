use Rattle.tree_cases.proofs.tree.first.Goals as goal

pub returns : goal.returns
returns g c = λ some. record { root = c.args.root; place = 0; on = c.first.ensures.stands }
