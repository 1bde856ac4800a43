-- Two changes of one tree of a table, one after the other.
use Rattle.bforest_core.proofs.union.Forests.{free-unused}
use Rattle.bforest_core.proofs.union.FreeSlots.{free-at}
use Rattle.bforest_core.specs.Change.{Changes, Ends, GivesNodes}
use Rattle.bforest_core.specs.Place.{count}
use Rattle.bforest_core.specs.Table.{Table}
use Rattle.bforest_core.specs.Trees.{IsUnion, is_root, slot}
use Rattle.bforest_nodes.specs.Content.{children_of}
use Rattle.std.proofs.Common.{IsTrue, List, ap, append_assoc, arith, inl, inr, length-append, nat_eq, subst, sym, ◌&&◌, ◌++◌, ◌<◌, ◌∙◌, ℕ}
use Rattle.std.proofs.lemmas.Bool.Decides.{eqb_tells}
use Rattle.std.proofs.lemmas.Bool.{false≢true}
use Rattle.std.specs.List.{flat_map}

module _ {K X : Type 0} (most : ℕ) (a b c : Table K X) where
  -- two changes of a tree are one change
  pub changes-both : (r s t : ℕ) (es fs : List (K × X)) (ss us : List (List ℕ)) → Changes most a b r s es ss → Changes most b c s t fs us → Changes most a c r t fs us
  changes-both r s t es fs ss us p q = record {
    union = q.union;
    root_is = q.root_is;
    list_is = q.list_is;
    sizes_are = q.sizes_are;
    others = λ m ne ne'. elim (eqb_tells m s) [
      | inl w ↦ (
          let gone : ¬ IsTrue (is_root c.nodes m) = subst (λ (z : ℕ). ¬ IsTrue (is_root c.nodes z)) (sym w.1) (q.old_gone (λ e. ne' (w.1 ∙ e))) in
          let new : ¬ IsTrue (is_root a.nodes m) = subst (λ (z : ℕ). ¬ IsTrue (is_root a.nodes z)) (sym w.1) (p.new_came (λ e. ne (w.1 ∙ sym e))) in
          ((λ h. absurd (gone h), λ h. absurd (new h)), λ h. absurd (new h))
          )
      | inr w ↦ (
          let x = p.others m ne w.1 in
          let y = q.others m w.1 ne' in
          ((λ h. x.0.0 (y.0.0 h), λ h. y.0.1 (x.0.1 h)), λ h. y.1 (x.0.1 h) ∙ x.1 h)
          )
    ];
    old_gone = λ ne. elim (eqb_tells r s) [
      | inl w ↦ subst (λ (z : ℕ). ¬ IsTrue (is_root c.nodes z)) (sym w.1) (q.old_gone (λ e. ne (w.1 ∙ e)))
      | inr w ↦ (λ h. p.old_gone w.1 ((q.others r w.1 ne).0.0 h))
    ];
    new_came = λ ne. elim (eqb_tells s t) [
      | inl w ↦ subst (λ (z : ℕ). ¬ IsTrue (is_root a.nodes z)) w.1 (p.new_came (λ e. ne (e ∙ w.1)))
      | inr w ↦ (λ h. q.new_came w.1 ((p.others t (λ e. ne (sym e)) (λ e. w.1 (sym e))).0.1 h))
    ];
    limit_is = q.limit_is ∙ p.limit_is;
  }

  -- a change of a tree and then its end are its end
  pub ends-both : (r s : ℕ) (es : List (K × X)) (ss : List (List ℕ)) → Changes most a b r s es ss → Ends most b c s → Ends most a c r
  ends-both r s es ss p q = record {
    union = q.union;
    root_gone = elim (eqb_tells r s) [
      | inl w ↦ subst (λ (z : ℕ). ¬ IsTrue (is_root c.nodes z)) (sym w.1) q.root_gone
      | inr w ↦ (λ h. p.old_gone w.1 ((q.others r w.1 w.1).0.0 h))
    ];
    others = λ m ne ne'. elim (eqb_tells m s) [
      | inl w ↦ (
          let gone : ¬ IsTrue (is_root c.nodes m) = subst (λ (z : ℕ). ¬ IsTrue (is_root c.nodes z)) (sym w.1) q.root_gone in
          let new : ¬ IsTrue (is_root a.nodes m) = subst (λ (z : ℕ). ¬ IsTrue (is_root a.nodes z)) (sym w.1) (p.new_came (λ e. ne (w.1 ∙ sym e))) in
          ((λ h. absurd (gone h), λ h. absurd (new h)), λ h. absurd (new h))
          )
      | inr w ↦ (
          let x = p.others m ne w.1 in
          let y = q.others m w.1 w.1 in
          ((λ h. x.0.0 (y.0.0 h), λ h. y.0.1 (x.0.1 h)), λ h. y.1 (x.0.1 h) ∙ x.1 h)
          )
    ];
    limit_is = q.limit_is ∙ p.limit_is;
  }

  -- nodes freed by two changes are freed by one change
  pub gives-both : (x y z : List (List ℕ)) → GivesNodes x y a b → GivesNodes y z b c → GivesNodes x z a c
  gives-both x y z p q = record {
    given = q.given ++ p.given;
    chain_is = q.chain_is ∙ ap (λ w. q.given ++ w) p.chain_is ∙ sym (append_assoc q.given p.given a.chain);
    slots = q.slots ∙ p.slots;
    memory_is = q.memory_is ∙ p.memory_is;
    count_is = omega (arith, p.count_is, q.count_is, length-append q.given p.given);
  }

module _ {K X : Type 0} where
  -- a number on the chain is no root
  pub chained-no-root : (most : ℕ) (t : Table K X) (m : ℕ) → IsUnion most t → 0 < count m t.chain → ¬ IsTrue (is_root t.nodes m)
  unfolding is_root
  chained-no-root most t m union on root =
      let free = free-unused (slot t.nodes m) (free-at t.nodes t.chain union.1.free m on) in
      false≢true (sym (ap (λ z. z && nat_eq (count m (flat_map children_of t.nodes)) 0) free) ∙ root)
