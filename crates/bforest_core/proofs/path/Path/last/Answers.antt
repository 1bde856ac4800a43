use Rattle.bforest_core.proofs.{Words.{IsLast, rules, refl, length, ◌-◌, arith, flat}, union.Unions.is-rooted, walks.Nearby.{here-entry, here-leaf}}
use Rattle.bforest_core.proofs.walks.Standing.{led-root, root-below}
use Rattle.bforest_core.proofs.path.Path.last.Goals as goal

pub overflow_sub-height : goal.overflow_sub-height
overflow_sub-height g c = omega arith

pub descend_last-requires : goal.descend_last-requires
descend_last-requires g c = let w = root-below c.args.root c.requires.union c.requires.root c.levels-height.ensures.value IsLast refl in
    (search rules, (search rules, (c.requires.union.1.capacity, (omega (arith, w.3, (is-rooted c.args.root c.requires.union c.requires.root).low), w))))

pub entry_here-requires : goal.entry_here-requires
entry_here-requires g c =
    let on = led-root c.args.root c.requires.union c.requires.root c.levels-height.ensures.value IsLast refl (λ leaves. length (flat leaves) - 1) c.descend_last.ensures.size c.descend_last.ensures.led in
    (search rules, (search rules, here-leaf c.requires.union on))

pub returns : goal.returns
returns g c =
    let on = led-root c.args.root c.requires.union c.requires.root c.levels-height.ensures.value IsLast refl (λ leaves. length (flat leaves) - 1) c.descend_last.ensures.size c.descend_last.ensures.led in
    record { value = here-entry c.requires.union on c.entry_here.ensures; stands = on }
