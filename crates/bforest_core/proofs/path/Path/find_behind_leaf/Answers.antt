use Rattle.bforest_core.proofs.Words.{ap, is_lt, rules, arith, sym, ◌∙◌}
use Rattle.bforest_core.proofs.removal.{Dropping.beside_asks, Removal.stands_in}
use Rattle.bforest_core.proofs.walks.{Behind.{ends-behind, low-next}, Standing.on-leaf-in}
use Rattle.bforest_core.proofs.path.Path.find_behind_leaf.Goals.{in-Some+else-not-is_lt, in_default}
use Rattle.bforest_core.proofs.path.Path.find_behind_leaf.Goals as goal

pub key_behind-requires : goal.key_behind-requires
key_behind-requires g c = let s = stands_in _ _ c.requires.union c.requires.behind.0.on in
    (search rules, (search rules, (omega (arith, s.low, s.stands.size_is), beside_asks s)))

pub set_index-requires : goal.set_index-requires
set_index-requires g c = (search rules, omega (arith, c.requires.behind.1, (on-leaf-in c.requires.union _ c.requires.behind.0.on).room))

pub returns : goal.returns
returns g c =
    let o = g.met.C.Comparator.total c.args.comp.now in let r = c.requires in
    let w = beside_asks (stands_in _ _ r.union r.behind.0.on) in
    let low = low-next r.union o r.increasing r.behind.0 c.key_behind.result (c.key_behind.ensures w) (elim c.match-key_behind.branch [
      | in-Some+else-not-is_lt w ↦ rw w.in-Some.is (ap is_lt (sym w.cmp.ensures) ∙ sym w.is_lt.ensures ∙ w.if-not-is_lt.false)
      | in_default w ↦ rw w.in_default.is tt
    ]) in
    let set = c.set_index.ensures in
    ends-behind r.union o r.increasing r.behind.0 c.args.count r.behind.1 r.behind.2 low (search rules) (search rules) c.set_index.new.self set.node set.entry set.size
