use Rattle.bforest_core.proofs.Words.{rules, arith, refl, ◌∙◌}
use Rattle.bforest_core.proofs.union.CutTree.{branch, height-low, path-top}
use Rattle.bforest_core.proofs.union.DetachTree.{divides, edge, front-up, root-same, second-up}
use Rattle.bforest_core.proofs.path.Path.detach.Goals as goal

pub root-root-requires : goal.root-root-requires
root-root-requires g c = let h = height-low c.requires.union c.requires.stands.0.on in (search rules, (omega (arith, h.0), omega (arith, h.1)))

pub detach_below-behind-requires : goal.detach_below-behind-requires
detach_below-behind-requires g c = let at = c.requires.stands.0 in let h = height-low c.requires.union at.on in
    (search rules, (search rules, (c.requires.union.1.capacity, (omega (arith, h.1), (_, _, _, branch c.requires.union at.on (c.root-root.ensures ∙ path-top c.requires.union at.on), omega (arith, c.requires.stands.2))))))

pub collapse_root-front-requires : goal.collapse_root-front-requires
collapse_root-front-requires g c = let at = c.requires.stands.0 in let h = height-low c.requires.union at.on in
    let is = c.root-root.ensures ∙ path-top c.requires.union at.on in let b = branch c.requires.union at.on is in
    (search rules, (search rules, (omega (arith, h.1), (_, _, front-up c.requires.union at.on c.requires.stands.1 (c.detach_below-behind.ensures.parts _ _ _ b) is))))

pub fill_edge-requires : goal.fill_edge-requires
fill_edge-requires g c = let at = c.requires.stands.0 in let some = c.requires.stands.1 in let h = height-low c.requires.union at.on in
    let is = c.root-root.ensures ∙ path-top c.requires.union at.on in let parts = c.detach_below-behind.ensures.parts _ _ _ (branch c.requires.union at.on is) in
    let t = (c.collapse_root-front.ensures.trimmed _ _ (front-up c.requires.union at.on some parts is)).1 in
    (search rules, (c.requires.union.1.capacity, (omega (arith, h.1), (_, _, _, _, edge c.requires.union at.on some parts (root-same is t)))))

pub collapse_root-back-requires : goal.collapse_root-back-requires
collapse_root-back-requires g c = let at = c.requires.stands.0 in let some = c.requires.stands.1 in let h = height-low c.requires.union at.on in
    let is = c.root-root.ensures ∙ path-top c.requires.union at.on in let parts = c.detach_below-behind.ensures.parts _ _ _ (branch c.requires.union at.on is) in
    let t = (c.collapse_root-front.ensures.trimmed _ _ (front-up c.requires.union at.on some parts is)).1 in
    (search rules, (search rules, (omega (arith, h.1), (_, _, second-up c.requires.union at.on some parts (root-same is t) (c.fill_edge.ensures _ _ _ _ (edge c.requires.union at.on some parts (root-same is t)))))))

pub returns : goal.returns
returns g c = record {
  divided = λ at some.
      let is = c.root-root.ensures ∙ path-top c.requires.union at.on in let parts = c.detach_below-behind.ensures.parts _ _ _ (branch c.requires.union at.on is) in
      let t = root-same is (c.collapse_root-front.ensures.trimmed _ _ (front-up c.requires.union at.on some parts is)).1 in
      let fills = c.fill_edge.ensures _ _ _ _ (edge c.requires.union at.on some parts t) in
      divides c.requires.union at.on some parts t fills (c.collapse_root-back.ensures.trimmed _ _ (second-up c.requires.union at.on some parts t fills)).1;
  end = refl;
}
