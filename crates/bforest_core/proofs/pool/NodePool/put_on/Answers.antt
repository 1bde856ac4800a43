use Rattle.bforest_core.proofs.Words.{rules, slice_get_within, tree_of}
use Rattle.bforest_core.proofs.{insertion.OnWay.{free-then, full-then, need-one, parent-held, parent-used, placed-then, put-near}, table.Allocating.{err_iff, err_is}}
use Rattle.bforest_core.proofs.pool.NodePool.put_on.Goals as goal

pub node-requires : goal.node-requires
node-requires g c = let held = parent-held c.requires.union c.requires.placed.1 in (search rules, (search rules, slice_get_within _ _ held.0 held.1))

pub is_full-requires : goal.is_full-requires
is_full-requires g c = (search rules, parent-used c.requires.union c.requires.placed.1 c.node.ensures.value)

pub split_on-requires : goal.split_on-requires
split_on-requires g c = let w = c.requires.placed.1 in let one = need-one c.requires.union w c.node.ensures.value c.is_full.ensures.full c.if-is_full.false c.requires.full in
    let mid = c.in_ok-reserve.ensures.ok in (
      search rules,
      (
        full-then c.requires.union w one mid c.requires.full,
        (
          free-then c.requires.union w one mid,
          (tree_of c.args.self.now.nodes c.args.root, c.requires.placed.0, placed-then c.requires.union w one mid, one),
        ),
      ),
    )

pub returns-in_err-reserve : goal.returns-in_err-reserve
returns-in_err-reserve g c = let e = err_is _ _ c.from_residual.ensures.1 in let said = c.in_err-reserve.ensures in record {
  put = λ place w. let one = need-one c.requires.union w c.node.ensures.value c.is_full.ensures.full c.if-is_full.false c.requires.full in record {
    inserted = rw e tt;
    account = rw e tt;
    same_root = rw e tt;
    full = (λ is. rw one (said.full.0 ((err_iff _ _ _ e).0 is)), λ short. (err_iff _ _ _ e).1 (said.full.1 (rw one at short)));
    memory = λ is. rw one (said.memory ((err_iff _ _ _ e).0 is));
    enough = λ enough. (let ok = said.enough (rw one at enough) in absurd cc);
    refused = rw e said.err;
  };
}

pub returns : goal.returns
returns g c = record {
  put = λ place w. let one = need-one c.requires.union w c.node.ensures.value c.is_full.ensures.full c.if-is_full.false c.requires.full in
      let mid = c.in_ok-reserve.ensures.ok in
      put-near c.requires.union w one mid c.in_ok-reserve.ensures.growth (λ short. (let e = c.in_ok-reserve.ensures.full.1 short in absurd cc))
      (c.split_on.ensures (tree_of c.args.self.now.nodes c.args.root) place (placed-then c.requires.union w one mid) one);
}
