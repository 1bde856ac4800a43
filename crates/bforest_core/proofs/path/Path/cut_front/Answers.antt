use Rattle.bforest_core.proofs.Words.{rules, arith, refl, ◌∙◌}
use Rattle.bforest_core.proofs.union.CutTree.{branch, height-low, path-top}
use Rattle.bforest_core.proofs.union.FrontTree.{cuts-front, front-edge, front-up}
use Rattle.bforest_core.proofs.path.Path.cut_front.Goals as goal

pub root-root-requires : goal.root-root-requires
root-root-requires g c = let h = height-low c.requires.union c.requires.stands.0.on in (search rules, (omega (arith, h.0), omega (arith, h.1)))

pub cut_in_front-requires : goal.cut_in_front-requires
cut_in_front-requires g c = let at = c.requires.stands.0 in let h = height-low c.requires.union at.on in
    (search rules, (search rules, (c.requires.union.1.capacity, (omega (arith, h.1), (_, _, _, branch c.requires.union at.on (c.root-root.ensures ∙ path-top c.requires.union at.on))))))

pub fill_edge-requires : goal.fill_edge-requires
fill_edge-requires g c = let at = c.requires.stands.0 in let some = c.requires.stands.1 in let h = height-low c.requires.union at.on in
    let is = c.root-root.ensures ∙ path-top c.requires.union at.on in let cuts = c.cut_in_front.ensures _ _ _ (branch c.requires.union at.on is) in
    (search rules, (c.requires.union.1.capacity, (omega (arith, h.1), (_, _, _, _, front-edge c.requires.union at.on some is cuts))))

pub collapse_root-left-requires : goal.collapse_root-left-requires
collapse_root-left-requires g c = let at = c.requires.stands.0 in let some = c.requires.stands.1 in let h = height-low c.requires.union at.on in
    let is = c.root-root.ensures ∙ path-top c.requires.union at.on in let cuts = c.cut_in_front.ensures _ _ _ (branch c.requires.union at.on is) in
    (search rules, (search rules, (omega (arith, h.1), (_, _, front-up c.requires.union at.on some is cuts (c.fill_edge.ensures _ _ _ _ (front-edge c.requires.union at.on some is cuts))))))

pub returns : goal.returns
returns g c = record {
  cut = λ at some.
      let is = c.root-root.ensures ∙ path-top c.requires.union at.on in let cuts = c.cut_in_front.ensures _ _ _ (branch c.requires.union at.on is) in
      let fills = c.fill_edge.ensures _ _ _ _ (front-edge c.requires.union at.on some is cuts) in
      cuts-front c.requires.union at.on some is cuts fills (c.collapse_root-left.ensures.trimmed _ _ (front-up c.requires.union at.on some is cuts fills)).1;
  end = refl;
}
