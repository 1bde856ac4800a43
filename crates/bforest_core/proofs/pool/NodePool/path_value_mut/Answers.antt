use Rattle.bforest_core.proofs.Words.{rules, ◌≡◌, get_or, refl, ap, ◌∙◌, arith, get_or_default, value_at, with_value_at}
use Rattle.bforest_core.proofs.union.Written.{entry-used, value-under, value-written}
use Rattle.bforest_core.proofs.pool.NodePool.path_value_mut.Goals as goal

pub value_mut-requires : goal.value_mut-requires
value_mut-requires g c =
    let ms = c.args.path.now.node in let here : get_or ms 0 c.index-path-0.result ≡ get_or ms 0 0 = get_or_default ms 0 c.index-path-0.result 0 (omega arith) in
    let r = entry-used c.requires.union c.requires.stands.on in (search rules, (rw here r.0, rw here r.1))

pub returns : goal.returns
returns g c = let ms = c.args.path.now.node in let js = c.args.path.now.entry in let table = c.args.self.now in
    let here = get_or_default ms 0 c.index-path-0.result 0 (omega arith) in (
      (refl, λ w. ap (λ z. with_value_at table z (get_or js 0 0) w) here),
      record {
        writes_back = tt;
        value = λ at. c.value_mut.ensures.value ∙ ap (λ z. value_at table.nodes z (get_or js 0 0)) here ∙ value-under c.requires.union at.on;
        written = λ at value. (value-written c.requires.union at.on _).0;
        stands = λ at value. (value-written c.requires.union at.on _).1;
      },
    )
