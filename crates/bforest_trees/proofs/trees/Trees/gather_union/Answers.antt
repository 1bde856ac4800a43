use Rattle.bforest_trees.proofs.unions.Fronts.{least-seen}
use Rattle.bforest_trees.proofs.unions.Merging.{front-none, gathering-end, gathering-low, gathering-past, gathering-put, steps-less}
use Rattle.bforest_trees.proofs.unions.Uniting.{when-ok}
use Rattle.bforest_trees.proofs.trees.Trees.gather_union.Goals as goal
use Rattle.bforest_trees.proofs.trees.Trees.gather_union.Goals.{then-len-capacity, then-len-capacity-via-then-len-capacity, then-len-capacity-via-else-len-capacity+then-is_ok, else-len-capacity+else-is_ok}
use Rattle.std.proofs.Common.{ap, arith, length-append, refl, rules, sym, vec_len, ◌∙◌, ◌∷◌, []}

pub loop-entry-init : goal.loop-entry-init
loop-entry-init g c = (
  c.new-first.ensures.reader,
  c.new-second.ensures.reader,
  rw (c.new-first.ensures.left, c.new-second.ensures.left, c.requires.empty) (record {
    up = c.requires.searchable.increasing;
    others_up = c.requires.searchable.other_increasing;
    count = omega arith;
    most = omega arith;
    whole = λ all. refl;
  }),
  search rules,
)

pub push_reserved-requires : goal.push_reserved-requires
push_reserved-requires g c = elim c.then-len-capacity.branch [
  | then-len-capacity-via-then-len-capacity w ↦ rw w.union-is (omega (arith, w.if-len-capacity.true, c.len.ensures, c.capacity.ensures))
  | then-len-capacity-via-else-len-capacity+then-is_ok w ↦ rw w.union-is (let room = when-ok w.reserve.result (sym w.is_ok.ensures.value ∙ w.if-is_ok.true) w.reserve.ensures.ok in omega (arith, room))
]

pub overflow_add-entries : goal.overflow_add-entries
overflow_add-entries g c =
    let t = (least-seen c.self.view_is c.take_least.ensures.least).some c.in-Some.entry c.in-Some.is in
    omega (arith, gathering-low _ (g.met.C.Comparator.total c.args.comp.now) t.0 _ _ _ t.1 t.2.off c.loop-entry.invariant.2, c.requires.few)

pub loop-entry-smaller : goal.loop-entry-smaller
loop-entry-smaller g c =
    steps-less (g.C.Comparator.order c.args.comp.now) _ _ _ _ _ _ ((least-seen c.self.view_is c.take_least.ensures.least).some c.in-Some.entry c.in-Some.is).2.off

pub loop-entry-preserved : goal.loop-entry-preserved
loop-entry-preserved g c =
    let t = (least-seen c.self.view_is c.take_least.ensures.least).some c.in-Some.entry c.in-Some.is in
    let put = gathering-put _ (g.met.C.Comparator.total c.args.comp.now) t.0 _ _ _ t.1 t.2.off c.loop-entry.invariant.2 in
    let past = gathering-past _ (g.met.C.Comparator.total c.args.comp.now) t.0 _ _ _ t.1 t.2.off c.loop-entry.invariant.2 in
    let longer = length-append c.loop-entry.union.items (c.in-Some.entry ∷ []) in
    elim c.if-len-capacity.branch [
      | then-len-capacity w ↦ elim w.then-len-capacity.branch [
        | then-len-capacity-via-then-len-capacity w' ↦ rw (w.union-is, w.push_reserved.ensures.items, w'.union-is) (t.2.reader, t.2.second_reader, put, omega (arith, w.push_reserved.ensures.len, ap vec_len w'.union-is, c.loop-entry.invariant.3, longer))
        | then-len-capacity-via-else-len-capacity+then-is_ok w' ↦ rw (w.union-is, w.push_reserved.ensures.items, w'.union-is, w'.reserve.ensures.items) (t.2.reader, t.2.second_reader, put, omega (arith, w.push_reserved.ensures.len, ap vec_len w'.union-is, w'.reserve.ensures.len, c.loop-entry.invariant.3, longer))
      ]
      | else-len-capacity+else-is_ok w ↦ rw (w.union-is, w.reserve.ensures.items) (t.2.reader, t.2.second_reader, past, omega (arith, w.reserve.ensures.len, c.loop-entry.invariant.3))
    ]

pub returns-clause-entries : goal.returns-clause-entries
returns-clause-entries g c = let cmp = g.C.Comparator.order c.args.comp.now in
    (gathering-end cmp (front-none cmp _ _ ((least-seen c.self.view_is c.take_least.ensures.least).none c.in_default.is)) c.loop-entry.invariant.2).0

pub returns-clause-gathered : goal.returns-clause-gathered
returns-clause-gathered g c = let cmp = g.C.Comparator.order c.args.comp.now in
    λ all. (gathering-end cmp (front-none cmp _ _ ((least-seen c.self.view_is c.take_least.ensures.least).none c.in_default.is)) c.loop-entry.invariant.2).1 (sym c.loop-entry.invariant.3 ∙ all)
