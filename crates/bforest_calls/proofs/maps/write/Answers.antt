use Rattle.bforest.specs.Cursor.{entries, spot}
use Rattle.bforest_calls.proofs.Indexed.{past_at, with_value_past, within_at, writes-nothing}
use Rattle.bforest_calls.proofs.maps.write.Goals as goal
use Rattle.std.proofs.Common.{refl}
use Rattle.std.specs.Prelude.{slice_get}

pub returns-in-Some-clause-there : goal.returns-in-Some-clause-there
returns-in-Some-clause-there g c = within_at (slice_get (entries c.args.cursor.now) (spot c.args.cursor.now)) _ c.in-Some.ensures.value

pub returns-in-Some-clause-writes : goal.returns-in-Some-clause-writes
returns-in-Some-clause-writes g c =
    let w = c.value_mut.ensures.written c.args.v in
    record { becomes = w.becomes; number = refl; sizes = w.sizes; slots = w.slots; free = w.free; memory = w.memory }

pub returns-in-None-clause-there : goal.returns-in-None-clause-there
returns-in-None-clause-there g c = past_at (slice_get (entries c.args.cursor.now) (spot c.args.cursor.now)) c.in-None.ensures.value

pub returns-in-None-clause-writes : goal.returns-in-None-clause-writes
returns-in-None-clause-writes g c = writes-nothing c.requires.valid.live (with_value_past _ _ _ c.in-None.ensures.value)
