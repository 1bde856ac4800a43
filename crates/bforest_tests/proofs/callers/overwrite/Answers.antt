use Rattle.bforest.proofs.Sets.{present-is}
use Rattle.bforest.specs.Calls.{Inserts}
use Rattle.bforest.specs.Entries.{is_present}
use Rattle.bforest.specs.Forest.{Forest, list_of}
use Rattle.bforest.specs.Refusal.{OutOfMemory}
use Rattle.bforest_tests.proofs.callers.overwrite.Goals as goal
use Rattle.std.proofs.Common.{Err, Ok, Option, Result, ap, true, ◌∙◌, ◌≡◌, ℕ}
use Rattle.std.specs.Option.{is_some}
use Rattle.std.specs.declared.cmp.Ordering.{Ordering}

-- the handle stays where the key was present
kept : {K V : Type 0} {most : ℕ} {cmp : K → K → Ordering} {f f' : Forest K V} {h h' : Option ℕ} {k : K} {x : V} (r : Result (Option V) OutOfMemory)
    → Inserts most cmp f h k x r f' h' → is_present cmp (list_of f h) k ≡ true → h' ≡ h
kept {cmp = cmp} {f = f} {h = h} {k = k} (Ok old) i here = i.same_number (ap is_some i.ok ∙ present-is cmp (list_of f h) k ∙ here)
kept (Err e) i here = i.refused_handle

pub returns-clause-same_handle : goal.returns-clause-same_handle
returns-clause-same_handle g c = kept c.insert.result c.insert.ensures c.requires.present
