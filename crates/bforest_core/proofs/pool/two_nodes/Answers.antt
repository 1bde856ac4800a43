use Rattle.bforest_core.proofs.{Words.{refl, arith, ◌<◌}, table.Lists.{set-front-back, set-back-front, in_front, behind}}
use Rattle.bforest_core.proofs.pool.two_nodes.Goals as goal

pub returns-then-left-right : goal.returns-then-left-right
returns-then-left-right g c = let is = c.split_at_mut-front.ensures.value in
    let len = c.split_at_mut-front.ensures.front_len in (
      ((refl, refl), λ x y. set-front-back _ _ _ _ x y is len (omega arith)),
      record {
        writes_back = tt;
        left = in_front _ _ _ _ is (omega arith) c.index-front-left.is;
        right = behind _ _ _ _ is len (omega arith) c.index-back-0.is;
      },
    )

pub returns-else-left-right : goal.returns-else-left-right
returns-else-left-right g c = let is = c.split_at_mut-front-else-left-right.ensures.value in let len = c.split_at_mut-front-else-left-right.ensures.front_len in
    let apart = c.requires.apart in let below : c.args.right < c.args.left = omega arith in (
      ((refl, refl), λ x y. set-back-front _ _ _ _ x y is len below),
      record {
        writes_back = tt;
        left = behind _ _ _ _ is len (omega arith) c.index-back-0-else-left-right.is;
        right = in_front _ _ _ _ is (omega arith) c.index-front-right.is;
      },
    )
