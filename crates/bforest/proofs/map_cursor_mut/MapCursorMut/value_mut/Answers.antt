use Rattle.bforest.proofs.Cursors.{none-here, unwritten-here}
use Rattle.bforest.proofs.map_cursor_mut.MapCursorMut.value_mut.Goals as goal
use Rattle.std.proofs.Common.{ap, false, inl, inr, refl, sym, true, ◌∙◌, ◌≡◌}
use Rattle.std.specs.Option.{is_some}
use Rattle.std.proofs.lemmas.Bool.Decides.{eqb_tells}

pub returns-then-is_some : goal.returns-then-is_some
returns-then-is_some g c =
    (refl, record { writes_back = tt; value = sym c.value_here.ensures.value; written = c.value_here.ensures.written })

pub returns-else-is_some : goal.returns-else-is_some
returns-else-is_some g c =
    let s = c.args.self.now in
    let size : s.path.size ≡ 0 = elim (eqb_tells s.path.size 0) [ inl w ↦ w.1 | inr w ↦ absurd (let bad : false ≡ true = sym c.if-is_some.false ∙ c.is_some.ensures ∙ ap is_some (c.leaf_pos.ensures.place w.1) in cc) ] in (
      refl,
      record {
        writes_back = tt;
        value = sym (none-here g.C.Comparator.order s c.requires.valid size);
        written = λ w. unwritten-here g.C.Comparator.order s c.requires.valid size w;
      },
    )

pub value_here-requires-clause-on_entry : goal.value_here-requires-clause-on_entry
value_here-requires-clause-on_entry g c = λ none. let bad : true ≡ false = sym c.if-is_some.true ∙ c.is_some.ensures ∙ ap is_some (c.leaf_pos.ensures.end none) in absurd (cc)
