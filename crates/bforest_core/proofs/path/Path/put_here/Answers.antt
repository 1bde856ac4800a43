use Rattle.bforest_core.proofs.{Words.{rules, arith}, insertion.LeafSpot.{put_inserts, site}, insertion.Nodes.{put_asks, put_full}}
use Rattle.bforest_core.proofs.path.Path.put_here.Goals as goal

pub put_entry-requires : goal.put_entry-requires
put_entry-requires g c = (search rules, put_asks (site c.requires.placed.2 (c.args.key, c.args.value)) _ (omega arith))

pub returns : goal.returns
returns g c = let full = put_full (site c.requires.placed.2 (c.args.key, c.args.value)) _ (omega arith) c.put_entry.ensures in
    record { inserted = λ done tree place p. (put_inserts p _ (omega arith) c.put_entry.ensures done).1; full = λ none. (full none).0; pool = λ none. (full none).1 }
