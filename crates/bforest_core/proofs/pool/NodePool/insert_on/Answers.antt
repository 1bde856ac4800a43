use Rattle.bforest_core.proofs.{Words.rules, insertion.OnWay.{put-asks, put-past, put-room}}
use Rattle.bforest_core.proofs.pool.NodePool.insert_on.Goals as goal

pub put_entry-requires : goal.put_entry-requires
put_entry-requires g c = (search rules, put-asks c.requires.union c.requires.placed.1 c.args.key c.args.value)

pub returns-then-put_entry : goal.returns-then-put_entry
returns-then-put_entry g c = record { put = λ place w. put-room c.requires.union w c.args.key c.args.value c.put_entry.ensures c.if-put_entry.true }

pub put_on-requires : goal.put_on-requires
put_on-requires g c = let past = put-past c.requires.union c.requires.placed.1 c.args.key c.args.value c.put_entry.ensures c.if-put_entry.false in
    (search rules, rw past.1 (c.requires.union, (c.requires.most, (c.requires.placed, past.0))))

pub returns : goal.returns
returns g c = let past = put-past c.requires.union c.requires.placed.1 c.args.key c.args.value c.put_entry.ensures c.if-put_entry.false in
    rw (← past.1) c.put_on.ensures
