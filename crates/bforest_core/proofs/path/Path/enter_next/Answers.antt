use Rattle.bforest_core.proofs.Words.{rules, suc, ◌∷◌, ◌++◌, length, set, refl, ◌∙◌, arith, get_or-set_same, get_or-set_other, Moved, TwoAbove}
use Rattle.bforest_core.proofs.{removal.{Neighbours.{must_move, entered_next}, Asked.two_low}, rows.Tops.top-same}
use Rattle.bforest_core.proofs.path.Path.enter_next.Given.{Over}
use Rattle.bforest_core.proofs.path.Path.enter_next.Goals as goal

pub next_node-moved-requires : goal.next_node-moved-requires
next_node-moved-requires g c = let w = c.requires.pending in
    (search rules, (search rules, (c.requires.height, (w.rows, w.before ++ w.x ∷ w.y ∷ w.after, length w.before, w.above.over))))

-- the path moved to the next node on the level above
moved : (g : Over) (c : goal.After-way_told-1 g) (w : TwoAbove c.args.pool.now c.args.self.now.node c.args.self.now.entry (suc c.args.level) c.args.self.now.size) →
    Moved c.args.self.now.node c.args.self.now.entry c.next_node-moved.new.self.node c.next_node-moved.new.self.entry
    c.args.level w.rows (w.before ++ w.x ∷ w.y ∷ w.after) (suc (length w.before))
moved g c w = let o = w.above.over in let list = w.before ++ w.x ∷ w.y ∷ w.after in
    let yes = must_move w.before w.x w.y w.after c.next_node-moved.result (λ no. c.next_node-moved.ensures.last no w.rows list (length w.before) o) in
    c.next_node-moved.ensures.moved yes w.rows list (length w.before) o

pub returns : goal.returns
returns g c = let w = c.requires.pending in let s1 = c.next_node-moved.new.self in let m = moved g c w in
    let e = entered_next s1.entry w.before w.x w.y w.after w.above m (λ i high. refl) in
    record {
      moved = λ v. entered_next (set s1.entry c.args.level 0) v.before v.x v.y v.after v.above (moved g c v) (λ i high. get_or-set_other s1.entry c.args.level i 0 0 (λ same. omega (arith, same, high)));
      first = get_or-set_same s1.entry c.args.level 0 0 (omega (arith, w.above.height, c.requires.height));
      keeps = record {
        nodes_below = m.nodes_below;
        entries_below = λ below low. get_or-set_other s1.entry c.args.level below 0 0 (λ same. omega (arith, same, low)) ∙ m.entries_below below (omega (arith, low));
        same_top = top-same w.rows w.above e.0 (two_low w);
      };
      size = c.next_node-moved.ensures.size;
    }
