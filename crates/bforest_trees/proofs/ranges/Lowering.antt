-- What removals leave of a handle's number: it stays exactly where the height does, however many there are.
use Rattle.bforest_core.proofs.table.Tables.{count-append}
use Rattle.bforest_core.specs.Change.{GivesNodes}
use Rattle.bforest_core.specs.Place.{count}
use Rattle.bforest_core.specs.Trees.{IsUnion, is_root}
use Rattle.bforest_trees.proofs.Changed.{live-root}
use Rattle.bforest_trees.proofs.Following.{chained-no-root}
use Rattle.bforest_trees.specs.Calls.{Lowers, SameLevels}
use Rattle.bforest_trees.specs.Forest.{Forest, IsFree, IsLive, sizes_of}
use Rattle.std.proofs.Common.{IfSome, IsTrue, List, None, Option, Some, ap, arith, inl, inr, length, refl, subst, sym, ◌++◌, ◌<◌, ◌∙◌, ◌≡◌, ◌≢◌, ◌≤◌, ◌⊎◌, ℕ}
use Rattle.std.proofs.lemmas.Bool.Decides.{eqb_tells}

-- two handles have one number, or not
same-or-not : (h h' : Option ℕ) → (h' ≡ h) ⊎ (h' ≢ h)
same-or-not None None = inl refl
same-or-not None (Some m) = inr (λ e. absurd (cc))
same-or-not (Some n) None = inr (λ e. absurd (cc))
same-or-not (Some n) (Some m) = elim (eqb_tells m n) [
  | inl w ↦ inl (ap Some w.1)
  | inr w ↦ inr (λ e. w.1 (let same : m ≡ n = cc in same))
]

module _ {K X : Type 0} where
  -- a tree that stays
  pub lowers-none : (most : ℕ) (f : Forest K X) (h : Option ℕ) → IsUnion most f → IsLive f h → Lowers f h f h
  lowers-none most f h union live = record {
    fewer = omega arith;
    same_levels = (λ e. refl, λ e. refl);
    freed = λ ne. absurd (ne refl);
    free = λ n on. on;
    used = go h live;
  }
    where
      go : (h : Option ℕ) → IsLive f h → IfSome h (λ n. ¬ IsFree f n)
      go None live = tt
      go (Some n) live = λ free. chained-no-root most f n union free (live-root f n live)

  -- a tree of which nodes went
  pub lowers-by : (most : ℕ) (f f' : Forest K X) (n : ℕ) (o : Option ℕ) {before after : List (List ℕ)} → GivesNodes before after f f' → length (sizes_of f' o) ≤ length (sizes_of f (Some n)) → SameLevels f (Some n) f' o
      → (o ≢ Some n → IsFree f' n) → IsUnion most f' → IfSome o (λ r. IsTrue (is_root f'.nodes r)) → Lowers f (Some n) f' o
  lowers-by most f f' n o g few same freed union roots = record {
    fewer = few;
    same_levels = same;
    freed = freed;
    free = λ m on. omega (arith, on, ap (count m) g.chain_is, count-append m g.given f.chain);
    used = go o roots;
  }
    where
      go : (o : Option ℕ) → IfSome o (λ r. IsTrue (is_root f'.nodes r)) → IfSome o (λ r. ¬ IsFree f' r)
      go None roots = tt
      go (Some r) root = λ free. chained-no-root most f' r union free root

  module _ {f f' f'' : Forest K X} where
    -- a number that was lost is free for good
    still-free : (h h' h'' : Option ℕ) → Lowers f h f' h' → Lowers f' h' f'' h'' → h' ≢ h → IfSome h (λ n. IsFree f'' n)
    still-free None h' h'' a b other = tt
    still-free (Some n) h' h'' a b other = b.free n (a.freed other)

    -- a number that was lost does not come back
    never-back : (h h' h'' : Option ℕ) → Lowers f h f' h' → Lowers f' h' f'' h'' → h' ≢ h → h'' ≢ h
    never-back None h' h'' a b other e = other (a.same_levels.1 (omega (arith, a.fewer)))
    never-back (Some n) h' h'' a b other e = subst (λ z. IfSome z (λ m. ¬ IsFree f'' m)) e b.used (still-free (Some n) h' h'' a b other)

    -- two removals, one after the other
    pub lowers-both : (h h' h'' : Option ℕ) → Lowers f h f' h' → Lowers f' h' f'' h'' → Lowers f h f'' h''
    lowers-both h h' h'' a b = elim (same-or-not h h') [
      | inl same ↦ record {
        fewer = omega (arith, a.fewer, b.fewer);
        same_levels = (
          λ e. b.same_levels.0 (e ∙ sym same) ∙ a.same_levels.0 same,
          λ e. b.same_levels.1 (omega (arith, e, a.fewer, b.fewer)) ∙ same,
        );
        freed = λ ne. subst (λ z. IfSome z (λ n. IsFree f'' n)) same (b.freed (λ e. ne (e ∙ same)));
        free = λ n on. b.free n (a.free n on);
        used = b.used;
      }
      | inr other ↦ record {
        fewer = omega (arith, a.fewer, b.fewer);
        same_levels = (
          λ e. absurd (never-back h h' h'' a b other e),
          λ e. absurd (other (a.same_levels.1 (omega (arith, e, a.fewer, b.fewer)))),
        );
        freed = λ ne. still-free h h' h'' a b other;
        free = λ n on. b.free n (a.free n on);
        used = b.used;
      }
    ]
