use Rattle.bforest_trees.proofs.Shifting.{place_of, shifting-first, shifting-last, shifting-left, shifting-may, shifting-next, shifting-stands}
use Rattle.bforest_trees.proofs.shift.shift.Goals as goal
use Rattle.bforest_trees.specs.Layout.{entries_from}
use Rattle.bforest_core.proofs.walks.Backward.{at_entry}
use Rattle.bforest_core.specs.Trees.{tree_of}
use Rattle.std.proofs.Common.{arith, length, rules, sym, ◌<◌, ◌∙◌}

pub loop-entry-init : goal.loop-entry-init
loop-entry-init g c = λ first at. shifting-first c.requires.union at

pub entry-requires : goal.entry-requires
entry-requires g c =
    let s = c.loop-entry.invariant c.requires.stands.0 c.requires.stands.1 in (
      search rules,
      (
        search rules,
        (
          s.changes.union,
          λ some. record {
            root = c.args.root;
            place = place_of s;
            on = record { root_is = s.at.root_is; stands = at_entry c.loop-entry.path.node c.loop-entry.path.entry (tree_of c.loop-entry.pool.nodes c.args.root) (place_of s) c.loop-entry.path.size some s.at.at };
          },
        ),
      ),
    )

pub change-key-requires : goal.change-key-requires
change-key-requires g c =
    let s = c.loop-entry.invariant c.requires.stands.0 c.requires.stands.1 in
    let here = sym c.in-Some.is ∙ c.entry.ensures.value (record { root = c.args.root; place = place_of s; at = s.at }) in
    shifting-may s here _ c.requires.stands.2

pub shift_step-requires : goal.shift_step-requires
shift_step-requires g c =
    let s = c.loop-entry.invariant c.requires.stands.0 c.requires.stands.1 in
    let here = sym c.in-Some.is ∙ c.entry.ensures.value (record { root = c.args.root; place = place_of s; at = s.at }) in
    (search rules, (search rules, (s.changes.union, (place_of s, shifting-stands s here))))

pub loop-entry-smaller : goal.loop-entry-smaller
loop-entry-smaller g c =
    let s = c.loop-entry.invariant c.requires.stands.0 c.requires.stands.1 in
    let here = sym c.in-Some.is ∙ c.entry.ensures.value (record { root = c.args.root; place = place_of s; at = s.at }) in
    let next = shifting-next s here c.change-key.result c.change-key.ensures (c.shift_step.ensures (place_of s) (shifting-stands s here)) in
    let less : length (entries_from c.shift_step.new.pool c.shift_step.new.path) < length (entries_from c.loop-entry.pool c.loop-entry.path) = omega (arith, shifting-left s, shifting-left next.0, next.1) in
    less

pub loop-entry-preserved : goal.loop-entry-preserved
loop-entry-preserved g c = λ first at.
    let s = c.loop-entry.invariant first at in
    let here = sym c.in-Some.is ∙ c.entry.ensures.value (record { root = c.args.root; place = place_of s; at = s.at }) in
    (shifting-next s here c.change-key.result c.change-key.ensures (c.shift_step.ensures (place_of s) (shifting-stands s here))).0

pub returns : goal.returns
returns g c = λ first at.
    let s = c.loop-entry.invariant first at in
    shifting-last s (sym c.in_default.is ∙ c.entry.ensures.value (record { root = c.args.root; place = place_of s; at = s.at }))
