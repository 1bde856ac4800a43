use Rattle.bforest_core.proofs.{Words.rules, walks.Searches.{search-first, search-leaf, spot-found}}
use Rattle.bforest_core.proofs.spot.Spot.find.Goals as goal

pub find_below-requires : goal.find_below-requires
find_below-requires g c = let r = c.requires in let b = c.root.ensures in
    (search rules, (r.union.1.capacity, (_, _, search-first r.union r.root r.increasing b.code b.height)))

pub returns : goal.returns
returns g c = let r = c.requires in let b = c.root.ensures in
    let e = c.find_below.ensures.found _ _ (search-first r.union r.root r.increasing b.code b.height) in
    record { spot = spot-found r.root e; leaf = search-leaf r.root e }
