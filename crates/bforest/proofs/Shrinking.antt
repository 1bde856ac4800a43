-- The sizes of a tree's nodes after a removal: those of a tree with one entry less.
use Rattle.bforest.proofs.Growing.{least-half, past-fit, some-after, some-leaf, total, total-cons}
use Rattle.bforest_core.specs.Sizes.{IsFitAbove, IsFitFor, IsFitLevel, at_front, loss, loss_above, past, rebalanced, shrink, trimmed}
use Rattle.std.proofs.Common.{Bool, List, None, Option, Some, [], ap, arith, false, if◌then◌else◌, length, nat_le, nat_lt, refl, suc, true, zero, ◌%◌, ◌*◌, ◌+◌, ◌-◌, ◌/◌, ◌<◌, ◌∷◌, ◌≡◌, ◌≤◌, ℕ}
use Rattle.std.proofs.lemmas.Bool.{leb-false, leb-true, ltb-false, ltb-true}

-- A level became one that has one entry less and fits, from which one node, if any, is gone.
pub record Loses (half most : ℕ) (level : List ℕ) (gone : Option ℕ) (new : List ℕ) : Type 0 where
  pub sum : suc (total new) ≡ total level
  pub fit : IsFitLevel half most new
  pub same : gone ≡ None → length new ≡ length level
  pub less : (i : ℕ) → gone ≡ Some i → (suc (length new) ≡ length level) × (i < length level)

-- the same of a change of a level
abbrev pub LosesBy : ℕ → ℕ → List ℕ → Option ℕ × List ℕ → Type 0
LosesBy half most level change = Loses half most level change.0 change.1

-- a node before a level that lost an entry
loses-past : (half most size : ℕ) (after : List ℕ) (gone : Option ℕ) (new : List ℕ) → 1 ≤ half → half ≤ size → size ≤ most → Loses half most after gone new → LosesBy half most (size ∷ after) (past size (gone, new))
loses-past half most size after None new one low high l = record {
  sum = omega (arith, total-cons size after, total-cons size new, l.sum);
  fit = (omega (arith, low, least-half half new one), high, l.fit);
  same = λ e. ap suc (l.same refl);
  less = λ i e. absurd (cc);
}
loses-past half most size after (Some j) new one low high l = record {
  sum = omega (arith, total-cons size after, total-cons size new, l.sum);
  fit = (omega (arith, low, least-half half new one), high, l.fit);
  same = λ e. absurd (cc);
  less = λ i e. (ap suc (l.less j refl).0, by i e);
}
  where
    by : (i : ℕ) → Some (suc j) ≡ Some i → i < length (size ∷ after)
    by i e = let s : suc j ≡ i = cc in omega (arith, s, (l.less j refl).1)

first-of : (x : ℕ) (xs : List ℕ) (i : ℕ) → Some 0 ≡ Some i → i < length (x ∷ xs)
first-of x xs i e = let s : 0 ≡ i = cc in omega (arith, s)

module _ (half most : ℕ) (least : half + half ≤ most + 1) (enough : most ≤ half + half) (one : 1 ≤ half) where
  -- the node that lost the entry, with `left` entries, before others
  loses-here : (left : ℕ) (after : List ℕ) → IsFitLevel half most (suc left ∷ after) → LosesBy half most (suc left ∷ after) (at_front (rebalanced most left after))
  loses-here zero after fit = record {
    sum = omega (arith, total-cons 1 after);
    fit = fit.2;
    same = λ e. absurd (cc);
    less = λ i e. (refl, first-of 1 after i e);
  }
  loses-here (suc left) [] fit = record {
    sum = omega (arith, total-cons (suc (suc left)) [], total-cons (suc left) []);
    fit = (omega (arith), omega (arith, fit.1), tt);
    same = λ e. refl;
    less = λ i e. absurd (cc);
  }
  loses-here (suc left) (next ∷ after) fit = by (nat_lt (2 * suc left) most) refl
    where
      merged : IsFitLevel half most ((suc left + next) ∷ after) → LosesBy half most (suc (suc left) ∷ next ∷ after) (Some 0, (suc left + next) ∷ after)
      merged fits = record {
        sum = omega (arith, total-cons (suc (suc left)) (next ∷ after), total-cons next after, total-cons (suc left + next) after);
        fit = fits;
        same = λ e. absurd (cc);
        less = λ i e. (refl, first-of (suc (suc left)) (next ∷ after) i e);
      }

      shared : (first second : ℕ) → first + second ≡ suc left + next → half ≤ first → first ≤ most → half ≤ second → second ≤ most → LosesBy half most (suc (suc left) ∷ next ∷ after) (None, first ∷ second ∷ after)
      shared first second sum low high low' high' = record {
        sum = omega (arith, sum, total-cons (suc (suc left)) (next ∷ after), total-cons next after, total-cons first (second ∷ after), total-cons second after);
        fit = (low, high, (omega (arith, low', least-half half after one), high', fit.2.2));
        same = λ e. refl;
        less = λ i e. absurd (cc);
      }

      fits : (b : Bool) → nat_le (suc left + next) most ≡ b → 2 * suc left < most → LosesBy half most (suc (suc left) ∷ next ∷ after) (at_front (if b then (true, (suc left + next) ∷ after) else (false, ((suc left + next) - (suc left + next) / 2) ∷ (suc left + next) / 2 ∷ after)))
      fits true e small = merged (omega (arith, fit.2.0), leb-true (suc left + next) most e, fit.2.2)
      fits false e small =
          let more = leb-false (suc left + next) most e in
          shared ((suc left + next) - (suc left + next) / 2) ((suc left + next) / 2) (omega (arith)) (omega (arith, more, least)) (omega (arith, small, fit.2.1)) (omega (arith, more, least)) (omega (arith, small, fit.2.1))

      by : (b : Bool) → nat_lt (2 * suc left) most ≡ b
          → LosesBy half most (suc (suc left) ∷ next ∷ after)
          (at_front (if b then (if nat_le (suc left + next) most then (true, (suc left + next) ∷ after)
          else (false, ((suc left + next) - (suc left + next) / 2) ∷ (suc left + next) / 2 ∷ after)) else (false, suc left ∷ next ∷ after)))
      by true e = fits (nat_le (suc left + next) most) refl (ltb-true (2 * suc left) most e)
      by false e = record {
        sum = omega (arith, total-cons (suc (suc left)) (next ∷ after), total-cons (suc left) (next ∷ after));
        fit = (omega (arith, ltb-false (2 * suc left) most e, least), omega (arith, fit.1), fit.2);
        same = λ e. refl;
        less = λ i e. absurd (cc);
      }

  -- a removal from a level
  loses : (place : ℕ) (level : List ℕ) → IsFitLevel half most level → place < total level → LosesBy half most level (loss most place level)
  loses place [] fit within = absurd (omega (arith, within))
  loses place (size ∷ after) fit within = by (nat_lt place size) refl (λ less. loses (place - size) after fit.2 (omega (arith, within, less, total-cons size after)))
    where
      here : (left : ℕ) → size ≡ suc left → size - 1 ≡ left → LosesBy half most (size ∷ after) (at_front (rebalanced most (size - 1) after))
      here left is before = rw (before, is) (loses-here left after (rw is at fit))

      by : (b : Bool) → nat_lt place size ≡ b → (size ≤ place → LosesBy half most after (loss most (place - size) after)) → LosesBy half most (size ∷ after) (if b then at_front (rebalanced most (size - 1) after) else past size (loss most (place - size) after))
      by true e rest = let less = ltb-true place size e in here (size - 1) (omega (arith, less)) refl
      by false e rest =
          let less = ltb-false place size e in
          let is = past-fit half most size after fit (some-after (suc place) size after (omega (arith, less)) within) in
          loses-past half most size after (loss most (place - size) after).0 (loss most (place - size) after).1 one is.0 is.1 (rest less)

-- a level with an entry has a node
total-some : (level : List ℕ) → 0 < total level → 0 < length level
total-some [] some = absurd (omega (arith, some))
total-some (x ∷ xs) some = omega (arith)

-- the levels above some nodes, and their sizes with those of the level of the nodes
abbrev pub Fits : List ℕ → List (List ℕ) → Type 0
Fits level levels = (above : List (List ℕ)) × (levels ≡ level ∷ above) × IsFitAbove (length level) above

-- levels that fit stay as they are
trimmed-fit : (level : List ℕ) (levels : List (List ℕ)) → 0 < length level → IsFitAbove (length level) levels → Fits level (trimmed (level ∷ levels))
trimmed-fit [] levels some fit = absurd (omega (arith, some))
trimmed-fit (size ∷ []) levels some fit = ([], refl, refl)
trimmed-fit (size ∷ next ∷ after) [] some fit = absurd (omega (arith, fit))
trimmed-fit (size ∷ next ∷ after) (level ∷ levels) some fit =
    let up = trimmed-fit level levels (some-leaf (length level) levels fit.3) fit.3 in
    (level ∷ up.0, ap (λ z. (size ∷ next ∷ after) ∷ z) up.1, (fit.0, fit.1, fit.2, up.2))

-- The levels up to the root, where one node, if any, is gone from the level below.
pub trimmed-above : (count : ℕ) (new : List ℕ) (gone : Option ℕ) (levels : List (List ℕ)) → 0 < length new → IsFitAbove count levels → (gone ≡ None → length new ≡ count) → ((i : ℕ) → gone ≡ Some i → (suc (length new) ≡ count) × (i < count))
    → Fits new (trimmed (new ∷ loss_above gone levels))
trimmed-above count new None levels some fit same less = trimmed-fit new levels some (rw (same refl) fit)
trimmed-above count [] (Some i) levels some fit same less = absurd (omega (arith, some))
trimmed-above count (size ∷ []) (Some i) levels some fit same less = ([], refl, refl)
trimmed-above count (size ∷ next ∷ after) (Some i) [] some fit same less = absurd (omega (arith, fit, (less i refl).0))
trimmed-above count (size ∷ next ∷ after) (Some i) (level ∷ levels) some fit same less =
    let m = less i refl in
    let l = loses 4 8 (omega (arith)) (omega (arith)) (omega (arith)) i level fit.2 (omega (arith, m.1, fit.1)) in
    let up = trimmed-above (length level) (loss 8 i level).1 (loss 8 i level).0 levels (total-some (loss 8 i level).1 (omega (arith, l.sum, fit.1, m.0))) fit.3 l.same l.less in
    ((loss 8 i level).1 ∷ up.0, ap (λ z. (size ∷ next ∷ after) ∷ z) up.1, (omega (arith), omega (arith, l.sum, fit.1, m.0), l.fit, up.2))

-- a removal makes sizes that fit one entry less
pub shrink-fits : (n : ℕ) → n % 2 ≡ 1 → (place entries : ℕ) (levels : List (List ℕ)) → IsFitFor n entries levels → place < entries → IsFitFor n (entries - 1) (shrink n place levels)
shrink-fits n odd place entries [] fit within = absurd (omega (arith, fit, within))
shrink-fits n odd place entries (leaves ∷ levels) fit within =
    let l = loses ((n + 1) / 2) n (omega (arith, odd)) (omega (arith, odd)) (omega (arith, odd)) place leaves fit.1 (omega (arith, fit.0, within)) in
    by (loss n place leaves).1 refl l
  where
    by : (new : List ℕ) → (loss n place leaves).1 ≡ new → LosesBy ((n + 1) / 2) n leaves (loss n place leaves) → IsFitFor n (entries - 1) (trimmed ((loss n place leaves).1 ∷ loss_above (loss n place leaves).0 levels))
    by [] e l = rw e (omega (arith, l.sum, fit.0, ap total e))
    by (size ∷ after) e l =
        let up = trimmed-above (length leaves) (loss n place leaves).1 (loss n place leaves).0 levels (rw e (omega (arith))) fit.2 l.same l.less in
        rw up.1 (omega (arith, l.sum, fit.0), l.fit, up.2)
