use Rattle.bforest.proofs.Becoming.{list-beside}
use Rattle.bforest.specs.Entries.{put}
use Rattle.bforest.specs.Forest.{Forest, IsLive, list_of}
use Rattle.bforest_tests.proofs.callers.insert_beside.Goals as goal
use Rattle.std.proofs.Common.{None, Option, Some, sym, ◌∙◌, ◌≡◌, ℕ}

-- a handle whose list stays is live as before
still-live : {K X : Type 0} (f f' : Forest K X) (q : Option ℕ) → list_of f' q ≡ list_of f q → IsLive f q → IsLive f' q
still-live f f' None same live = tt
still-live f f' (Some n) same live = λ none. live (sym same ∙ none)

pub returns-clause-list : goal.returns-clause-list
returns-clause-list g c =
    let order = g.C.Comparator.order c.args.comp.now in
    list-beside c.args.forest.now c.insert.new.forest c.args.map.now c.insert.new.self c.args.other.now (put order (list_of c.args.forest.now c.args.map.now) c.args.entry.0 c.args.entry.1) c.insert.result c.insert.ensures.put c.insert.ensures.refused_forest c.requires.other_live c.requires.apart

pub returns-clause-live : goal.returns-clause-live
returns-clause-live g c = still-live c.args.forest.now c.insert.new.forest c.args.other.now (returns-clause-list g c) c.requires.other_live
