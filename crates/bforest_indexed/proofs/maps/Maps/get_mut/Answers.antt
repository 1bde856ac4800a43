use Rattle.bforest_indexed.proofs.Kept.{ordered-read, read}
use Rattle.bforest_indexed.proofs.Lent.{lent-kept, lent-value, lent-writes}
use Rattle.bforest_indexed.proofs.Sizes.{first-field}
use Rattle.bforest_indexed.proofs.maps.Maps.get_mut.Goals as goal
use Rattle.std.proofs.Common.{refl}

pub get_mut-requires : goal.get_mut-requires
get_mut-requires g c = (search first-field, ordered-read c.self.invariant (rw (← c.self.view_is, ← c.index.ensures.number) at c.requires.within) c.index-2.ensures)

pub invariant_of-self-lent : goal.invariant_of-self-lent
invariant_of-self-lent g c = λ o.
    let within = rw (← c.self.view_is, ← c.index.ensures.number) at c.requires.within in
    (lent-kept c.self.invariant within c.args.key c.get_mut.result (read c.self.invariant within c.index-2.ensures) c.get_mut.ensures.value c.get_mut.ensures.written, c.self.invariant)

pub returns : goal.returns
returns g c =
    let within = rw (← c.self.view_is, ← c.index.ensures.number) at c.requires.within in
    let same = read c.self.invariant within c.index-2.ensures in
    rw (← c.self.view_is, ← c.index.ensures.number) (
      rw same refl,
      record {
        writes_back = tt;
        value = lent-value c.self.invariant within c.args.key c.get_mut.result same c.get_mut.ensures.value c.get_mut.ensures.written;
        written = lent-writes c.self.invariant within c.args.key c.get_mut.result same c.get_mut.ensures.value c.get_mut.ensures.written;
      },
    )
