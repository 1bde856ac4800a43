use Rattle.std.proofs.Common.{refl, rules}
use Rattle.bforest_trees.proofs.Crossing.{plain-look, sibling-spot, sibling-up-to, stays}
use Rattle.bforest_trees.proofs.look.Look.enter_prev.Goals as goal

pub follows_sibling-requires : goal.follows_sibling-requires
follows_sibling-requires g c = search (rules, plain-look c.requires.stands)

pub prev_sibling-spot-requires : goal.prev_sibling-spot-requires
prev_sibling-spot-requires g c = let has = c.follows_sibling.ensures.prev c.if-follows_sibling.true in (search rules, (c.requires.union, (sibling-spot has c.requires.stands, has)))

pub enter_last-requires : goal.enter_last-requires
enter_last-requires g c =
    let p = c.prev_sibling-spot in
    (search rules, (c.args.handle, c.requires.stands.place, sibling-up-to (c.follows_sibling.ensures.prev c.if-follows_sibling.true) c.requires.first p.result p.ensures.before c.requires.stands))

pub returns-then-follows_sibling : goal.returns-then-follows_sibling
returns-then-follows_sibling g c =
    let p = c.prev_sibling-spot in
    let up = sibling-up-to (c.follows_sibling.ensures.prev c.if-follows_sibling.true) c.requires.first p.result p.ensures.before in
    let e = c.enter_last.ensures in record {
      look = λ at. e.look c.args.handle at.place (up at);
      some = λ yes. e.some;
      behind = λ yes at. e.behind c.args.handle at.place (up at);
      none = λ bad. absurd (let no = bad in cc);
    }

pub enter_last-requires-2 : goal.enter_last-requires-2
enter_last-requires-2 g c = let at = c.requires.stands in (search rules, (c.args.handle, at.place, c.in-Some.ensures.some at))

pub returns : goal.returns
returns g c = let e = c.enter_last-2.ensures in record {
  look = λ at. e.look c.args.handle at.place (c.in-Some.ensures.some at);
  some = λ yes. e.some;
  behind = λ yes at. e.behind c.args.handle at.place (c.in-Some.ensures.some at);
  none = λ bad. absurd (let no = bad in cc);
}

pub returns-in_default : goal.returns-in_default
returns-in_default g c = record {
  look = λ at. stays at (c.in_default.ensures.none refl at);
  some = λ bad. absurd (let no = bad in cc);
  behind = λ bad at. absurd (let no = bad in cc);
  none = λ _ at. c.in_default.ensures.none refl at;
}
