use Rattle.bforest_core.specs.Packed.{fewest}
use Rattle.bforest_nodes.specs.Entries.{IsIncreasing}
use Rattle.bforest_trees.proofs.Loading.{loads-err}
use Rattle.bforest_trees.proofs.unions.Merging.{united-length}
use Rattle.bforest_trees.proofs.unions.Uniting.{few-of}
use Rattle.bforest_trees.proofs.trees.Trees.load_union.Goals as goal
use Rattle.bforest_trees.specs.Calls.{Loads}
use Rattle.bforest_trees.specs.Forest.{IsTooMany, list_of}
use Rattle.bforest_trees.specs.Layout.{IsMark, behind, left_of}
use Rattle.bforest_trees.specs.Union.{united}
use Rattle.std.proofs.Common.{ap, arith, length, refl, rules, subst, sym, ◌∙◌, ◌≡◌}

pub gather_union-entries-requires : goal.gather_union-entries-requires
gather_union-entries-requires g c =
    let a = c.args.self.now in let cmp = g.C.Comparator.order c.args.comp.now in
    (search rules, (c.requires.searchable, (omega (arith, united-length cmp (list_of a c.args.handle) (list_of a c.args.other), few-of a c.room-room.ensures.few c.args.handle, few-of a c.room-room.ensures.few c.args.other), c.new-union.ensures.items)))

pub returns-then-room-fewest_nodes : goal.returns-then-room-fewest_nodes
returns-then-room-fewest_nodes g c = let self = c.args.self.now in let cmp = g.C.Comparator.order c.args.comp.now in
    let union = united cmp (list_of self c.args.handle) (list_of self c.args.other) in
    let many : IsTooMany (fewest g.row.N (length union)) self = omega (arith, c.if-room-fewest_nodes.true, c.room-room.ensures.room, c.fewest_nodes.ensures.count, ap (fewest g.row.N) c.gather_union-entries.ensures.entries) in
    loads-err g.row.N self (omega (arith, c.room-room.ensures.capacity.least)) union ((λ is. many), (λ short. refl)) (λ is. absurd cc) (λ enough. absurd (omega (arith, many, enough)))

pub returns-then-len-entries : goal.returns-then-len-entries
returns-then-len-entries g c =
    let whole = c.gather_union-entries.ensures.gathered (omega (arith, c.len.ensures, c.if-len-entries.true)) in
    subst (λ z. Loads g.row.N c.args.self.now z c.load.result c.load.new.self) (c.as_slice.ensures.value ∙ whole) c.load.ensures

pub load_from-requires : goal.load_from-requires
load_from-requires g c = let self = c.args.self.now in let cmp = g.C.Comparator.order c.args.comp.now in let s = c.new-3.ensures in let q = c.requires.searchable in
    let first = subst (λ z. behind z c.mark-first.result ≡ left_of z c.new.result) c.self.view_is c.mark-first.ensures.left ∙ c.new.ensures.left in
    let second = subst (λ z. behind z c.mark-second.result ≡ left_of z c.new-2.result) c.self.view_is c.mark-second.ensures.left ∙ c.new-2.ensures.left in
    rw (s.first, s.second, s.comp) (
      search rules,
      (
        (
          subst (λ z. IsMark z c.mark-first.result) c.self.view_is c.mark-first.ensures.mark,
          subst (λ z. IsMark z c.mark-second.result) c.self.view_is c.mark-second.ensures.mark,
          subst (IsIncreasing cmp) (sym first) q.increasing,
          subst (IsIncreasing cmp) (sym second) q.other_increasing,
        ),
        c.gather_union-entries.ensures.entries ∙ ap length (λ i. united cmp ((sym first) i) ((sym second) i)),
      ),
    )

pub returns : goal.returns
returns g c = let self = c.args.self.now in let cmp = g.C.Comparator.order c.args.comp.now in let s = c.new-3.ensures in
    let first = subst (λ z. behind z c.mark-first.result ≡ left_of z c.new.result) c.self.view_is c.mark-first.ensures.left ∙ c.new.ensures.left in
    let second = subst (λ z. behind z c.mark-second.result ≡ left_of z c.new-2.result) c.self.view_is c.mark-second.ensures.left ∙ c.new-2.ensures.left in
    let told = rw (s.first, s.second, s.comp) at c.load_from.ensures in
    subst (λ z. Loads g.row.N self z c.load_from.result c.load_from.new.self) (λ i. united cmp (first i) (second i)) told
