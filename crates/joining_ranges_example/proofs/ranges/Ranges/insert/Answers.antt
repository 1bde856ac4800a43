use Rattle.joining_ranges_example.proofs.Joined.{joined-apart, joined-covers, joined-present}
use Rattle.joining_ranges_example.proofs.ranges.Ranges.insert.Goals as goal
use Rattle.std.proofs.Common.{rules}

pub remove_between-requires : goal.remove_between-requires
remove_between-requires c = (
  search rules,
  (
    record { live = c.in_ok-insert.ensures.put.live; increasing = c.insert.ensures.increasing },
    joined-present c.args.self.now c.args.start c.args.end c.requires.some c.self.view_is c.self.invariant.apart c.first_of-first.ensures c.last_of-last.ensures c.in_ok-insert.ensures.put.list,
  ),
)

pub invariant_of-self-2 : goal.invariant_of-self-2
invariant_of-self-2 c = record {
  live = c.remove_between.ensures.live;
  increasing = c.remove_between.ensures.increasing;
  apart = joined-apart c.args.self.now c.args.start c.args.end c.requires.some c.self.view_is c.self.invariant.apart c.first_of-first.ensures c.last_of-last.ensures c.in_ok-insert.ensures.put.list c.remove_between.ensures.list;
}

pub returns-clause-covered : goal.returns-clause-covered
returns-clause-covered c = joined-covers c.args.self.now c.args.start c.args.end c.requires.some c.self.view_is c.self.invariant.apart c.first_of-first.ensures c.last_of-last.ensures c.in_ok-insert.ensures.put.list c.remove_between.ensures.list

pub returns-clause-apart : goal.returns-clause-apart
returns-clause-apart c = joined-apart c.args.self.now c.args.start c.args.end c.requires.some c.self.view_is c.self.invariant.apart c.first_of-first.ensures c.last_of-last.ensures c.in_ok-insert.ensures.put.list c.remove_between.ensures.list
