use Rattle.bforest.specs.Calls.{Pops}
use Rattle.bforest.specs.Forest.{list_of}
use Rattle.bforest_calls.proofs.Offers.{no-other-alone}
use Rattle.bforest_calls.proofs.Units.{count-keys, entry-read, popped-entry}
use Rattle.bforest_calls.proofs.sets.SetCollectionUnit.answer_alone.Goals as goal
use Rattle.bforest_calls.specs.declared.call.Answer.TheVariants as answer
use Rattle.std.proofs.Common.{ap, length, refl, slice_get, subst, sym, ◌-◌, ◌∙◌}

pub unreachable-requires : goal.unreachable-requires
unreachable-requires g c = let d = c.in_default in no-other-alone c.args.call.now c.requires.alone d.not-First d.not-Last d.not-PopFirst d.not-PopLast d.not-Len d.not-Compact

pub returns-in-First : goal.returns-in-First
returns-in-First g c = record {
  makes = rw c.in-First.is (ap answer.Pair (entry-read (list_of c.args.forest.now c.args.self.now) 0 c.with_unit.ensures c.first.ensures.key), refl);
}

pub returns-in-Last : goal.returns-in-Last
returns-in-Last g c =
    let es = list_of c.args.forest.now c.args.self.now in
    let place = ap (λ n. slice_get es (n - 1)) (count-keys es) in
    record { makes = rw c.in-Last.is (ap answer.Pair (entry-read es _ c.with_unit-in-Last.ensures c.last.ensures.key ∙ place), refl) }

pub returns-in-PopFirst : goal.returns-in-PopFirst
returns-in-PopFirst g c =
    let popped = popped-entry c.pop_first.result ∙ sym c.with_unit-in-PopFirst.ensures in
    record {
      makes = rw c.in-PopFirst.is (
        c.with_unit-in-PopFirst.result,
        refl,
        subst (λ e. Pops 15 c.args.forest.now c.args.self.now 0 e c.pop_first.new.forest c.pop_first.new.self) popped c.pop_first.ensures,
      );
    }

pub returns-in-PopLast : goal.returns-in-PopLast
returns-in-PopLast g c =
    let popped = popped-entry c.pop_last.result ∙ sym c.with_unit-in-PopLast.ensures in
    let last = length (list_of c.args.forest.now c.args.self.now) - 1 in
    record {
      makes = rw c.in-PopLast.is (
        c.with_unit-in-PopLast.result,
        refl,
        subst (λ e. Pops 15 c.args.forest.now c.args.self.now last e c.pop_last.new.forest c.pop_last.new.self) popped c.pop_last.ensures,
      );
    }

pub returns-in-Compact : goal.returns-in-Compact
returns-in-Compact g c = record { makes = rw c.in-Compact.is (c.compact.result, refl, c.compact.ensures) }
