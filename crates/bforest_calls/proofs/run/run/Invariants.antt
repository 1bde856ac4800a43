use Rattle.bforest_calls.proofs.run.run.Given as goal
use Rattle.bforest_calls.specs.Machine.{AreKnown, Run}
use Rattle.std.proofs.Common.{length, map, take, vec_capacity, vec_len, ◌≡◌, ◌≤◌}

-- the answers so far are those of a run, which tell what is known; there is room for the other answers
abbrev pub invariant-loop-call : goal.invariant-loop-call
invariant-loop-call g l =
    let t = g.T.Collection in
    record {
      run : Run t.most t.READS (map g.C.Comparator.order l.comps) (record { forest = t.trees l.fn.forest; handles = t.numbers l.fn.handles })
          (take l.call-index l.calls) l.answers.items (record { forest = t.trees l.forest; handles = t.numbers l.handles });
      known : AreKnown (map g.C.Comparator.order l.comps) (record { forest = t.trees l.forest; handles = t.numbers l.handles }) l.known;
      told : vec_len l.answers ≡ l.call-index;
      room : length l.calls ≤ vec_capacity l.answers;
    }
