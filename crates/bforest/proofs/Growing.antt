-- The sizes of a tree's nodes after an insertion: those of a tree with one entry more, in as many nodes more as the insertion needs.
use Rattle.bforest_core.specs.Change.{node_count}
use Rattle.bforest_core.specs.Sizes.{IsFitAbove, IsFitFor, IsFitLevel, gain_above, growth, inner_gain, leaf_gain, least_size, need, need_above, past}
use Rattle.std.proofs.Common.{Bool, List, None, Option, Some, [], ap, arith, false, if◌then◌else◌, length, nat_le, nat_lt, refl, suc, sym, true, ◌%◌, ◌+◌, ◌-◌, ◌/◌, ◌<◌, ◌∷◌, ◌≡◌, ◌≤◌, ℕ}
use Rattle.std.proofs.lemmas.Bool.{leb-false, ltb-false, ltb-true}
use Rattle.std.proofs.lemmas.List.Sums.{sum_by-cons}
use Rattle.std.specs.List.{sum_by}

-- the sum of a level's sizes
abbrev pub total : List ℕ → ℕ
total level = sum_by (λ size. size) level

pub total-cons : (size : ℕ) (after : List ℕ) → total (size ∷ after) ≡ size + total after
total-cons size after = sum_by-cons (λ (n : ℕ). n) size after

-- a node before others is at least half full
pub least-before : (half : ℕ) (after : List ℕ) → 0 < length after → least_size half after ≡ half
least-before half [] some = absurd (omega (arith, some))
least-before half (x ∷ xs) some = refl

-- no node needs more than half
pub least-half : (half : ℕ) (after : List ℕ) → 1 ≤ half → least_size half after ≤ half
least-half half [] one = one
least-half half (x ∷ xs) one = omega (arith)

-- A level became one that has one entry more and fits, where one node, if any, became two.
pub record Gains (half most : ℕ) (level : List ℕ) (split : Option ℕ) (new : List ℕ) : Type 0 where
  pub sum : total new ≡ suc (total level)
  pub fit : IsFitLevel half most new
  pub same : split ≡ None → length new ≡ length level
  pub more : (i : ℕ) → split ≡ Some i → (length new ≡ suc (length level)) × (i < length level)
  pub some : 0 < length new

-- the same of a change of a level
abbrev pub GainsBy : ℕ → ℕ → List ℕ → Option ℕ × List ℕ → Type 0
GainsBy half most level change = Gains half most level change.0 change.1

-- a node before a level that gained
gains-past : (half most size : ℕ) (after : List ℕ) (split : Option ℕ) (new : List ℕ) → half ≤ size → size ≤ most → Gains half most after split new
    → Gains half most (size ∷ after) (past size (split, new)).0 (past size (split, new)).1
gains-past half most size after None new low high g = record {
  sum = omega (arith, total-cons size after, total-cons size new, g.sum);
  fit = (omega (arith, low, least-before half new g.some), high, g.fit);
  same = λ e. ap suc (g.same refl);
  more = λ i e. absurd (cc);
  some = omega (arith);
}
gains-past half most size after (Some j) new low high g = record {
  sum = omega (arith, total-cons size after, total-cons size new, g.sum);
  fit = (omega (arith, low, least-before half new g.some), high, g.fit);
  same = λ e. absurd (cc);
  more = λ i e. (ap suc (g.more j refl).0, by i e);
  some = omega (arith);
}
  where
    by : (i : ℕ) → Some (suc j) ≡ Some i → i < length (size ∷ after)
    by i e = let s : suc j ≡ i = cc in omega (arith, s, (g.more j refl).1)

module _ (half most : ℕ) where
  -- a node with room takes the entry
  gains-here : (size : ℕ) (after : List ℕ) → IsFitLevel half most (size ∷ after) → size < most → Gains half most (size ∷ after) None (suc size ∷ after)
  gains-here size after fit room = record {
    sum = omega (arith, total-cons size after, total-cons (suc size) after);
    fit = (omega (arith, fit.0), room, fit.2);
    same = λ e. refl;
    more = λ i e. absurd (cc);
    some = omega (arith);
  }

  -- a full node becomes two
  gains-two : (size left right : ℕ) (after : List ℕ) → IsFitLevel half most (size ∷ after) → left + right ≡ suc size → half ≤ left → left ≤ most → half ≤ right → right ≤ most → 1 ≤ half
      → Gains half most (size ∷ after) (Some 0) (left ∷ right ∷ after)
  gains-two size left right after fit sum low high low' high' one = record {
    sum = omega (arith, total-cons size after, total-cons left (right ∷ after), total-cons right after, sum);
    fit = (low, high, (omega (arith, least-half half after one, low'), high', fit.2));
    same = λ e. absurd (cc);
    more = λ i e. (refl, by i e);
    some = omega (arith);
  }
    where
      by : (i : ℕ) → Some 0 ≡ Some i → i < length (size ∷ after)
      by i e = let s : 0 ≡ i = cc in omega (arith, s)

  -- where the entry goes behind a node, others follow it
  pub past-fit : (size : ℕ) (after : List ℕ) → IsFitLevel half most (size ∷ after) → 0 < length after → (half ≤ size) × (size ≤ most)
  past-fit size after fit some = (omega (arith, fit.0, least-before half after some), fit.1)

pub some-after : (place size : ℕ) (after : List ℕ) → size < place → place ≤ total (size ∷ after) → 0 < length after
some-after place size [] past within = absurd (omega (arith, past, within, total-cons size []))
some-after place size (x ∷ xs) past within = omega (arith)

-- an insertion into the leaves
pub leaf-gains : (half most : ℕ) → most + 1 ≡ half + half → 1 ≤ half → (place : ℕ) (level : List ℕ) → IsFitLevel half most level → place ≤ total level → 0 < length level
    → GainsBy half most level (leaf_gain most place level)
leaf-gains half most twice one place [] fit within some = absurd (omega (arith, some))
leaf-gains half most twice one place (size ∷ after) fit within some = by (nat_le place size) refl (λ others less. leaf-gains half most twice one (place - size) after fit.2 (omega (arith, within, less, total-cons size after)) others)
  where
    half-is : (most + 1) / 2 ≡ half
    half-is = omega (arith, twice)

    full : (b : Bool) → nat_lt size most ≡ b → GainsBy half most (size ∷ after) (if b then (None, suc size ∷ after) else (Some 0, (most + 1) / 2 ∷ (most + 1) / 2 ∷ after))
    full true e = gains-here half most size after fit (ltb-true size most e)
    full false e = rw half-is (gains-two half most size half half after fit (omega (arith, twice, fit.1, ltb-false size most e)) (omega (arith)) (omega (arith, twice, one)) (omega (arith)) (omega (arith, twice, one)) one)

    by : (b : Bool) → nat_le place size ≡ b
        → (0 < length after → size < place → GainsBy half most after (leaf_gain most (place - size) after))
        → GainsBy half most (size ∷ after)
        (if b then (if nat_lt size most then (None, suc size ∷ after) else (Some 0, (most + 1) / 2 ∷ (most + 1) / 2 ∷ after)) else past size
        (leaf_gain most (place - size) after))
    by true e rest = full (nat_lt size most) refl
    by false e rest =
        let less = leb-false place size e in
        let others = some-after place size after less within in
        let is = past-fit half most size after fit others in
        gains-past half most size after (leaf_gain most (place - size) after).0 (leaf_gain most (place - size) after).1 is.0 is.1 (rest others less)

-- a new child in a level above the leaves
pub inner-gains : (place : ℕ) (level : List ℕ) → IsFitLevel 4 8 level → place < total level → GainsBy 4 8 level (inner_gain place level)
inner-gains place [] fit within = absurd (omega (arith, within))
inner-gains place (size ∷ after) fit within = by (nat_lt place size) refl (λ others less. inner-gains (place - size) after fit.2 (omega (arith, within, less, total-cons size after)))
  where
    halves : (b : Bool) → size ≡ 8 → GainsBy 4 8 (size ∷ after) (Some 0, (if b then 5 ∷ 4 ∷ after else 4 ∷ 5 ∷ after))
    halves true eight = gains-two 4 8 size 5 4 after fit (omega (arith, eight)) (omega (arith)) (omega (arith)) (omega (arith)) (omega (arith)) (omega (arith))
    halves false eight = gains-two 4 8 size 4 5 after fit (omega (arith, eight)) (omega (arith)) (omega (arith)) (omega (arith)) (omega (arith)) (omega (arith))

    full : (b : Bool) → nat_lt size 8 ≡ b → GainsBy 4 8 (size ∷ after) (if b then (None, suc size ∷ after) else (Some 0, (if nat_lt place 4 then 5 ∷ 4 ∷ after else 4 ∷ 5 ∷ after)))
    full true e = gains-here 4 8 size after fit (ltb-true size 8 e)
    full false e = halves (nat_lt place 4) (omega (arith, fit.1, ltb-false size 8 e))

    by : (b : Bool) → nat_lt place size ≡ b → (0 < length after → size ≤ place → GainsBy 4 8 after (inner_gain (place - size) after))
        → GainsBy 4 8 (size ∷ after)
        (if b then (if nat_lt size 8 then (None, suc size ∷ after) else (Some 0, (if nat_lt place 4 then 5 ∷ 4 ∷ after else 4 ∷ 5 ∷ after)))
        else past size (inner_gain (place - size) after))
    by true e rest = full (nat_lt size 8) refl
    by false e rest =
        let less = ltb-false place size e in
        let others = some-after (suc place) size after (omega (arith, less)) within in
        let is = past-fit 4 8 size after fit others in
        gains-past 4 8 size after (inner_gain (place - size) after).0 (inner_gain (place - size) after).1 is.0 is.1 (rest others less)

-- the number of nodes of some levels, of which the first is named
pub nodes-cons : (level : List ℕ) (levels : List (List ℕ)) → node_count (level ∷ levels) ≡ length level + node_count levels
nodes-cons level levels = sum_by-cons (λ (l : List ℕ). length l) level levels

-- the levels above one of which this node, if any, became two
pub above-gains : (count new : ℕ) (split : Option ℕ) (levels : List (List ℕ)) → IsFitAbove count levels → (split ≡ None → new ≡ count) → ((i : ℕ) → split ≡ Some i → (new ≡ suc count) × (i < count))
    → IsFitAbove new (gain_above split levels) × (new + node_count (gain_above split levels) ≡ count + node_count levels + need_above split levels)
above-gains count new None levels fit same more = (rw (same refl) fit, omega (arith, same refl))
above-gains count new (Some i) [] fit same more =
    let m = more i refl in
    let two : new ≡ 2 = omega (arith, m.0, fit) in
    ((omega (arith, two), sym two, (omega (arith), omega (arith), tt), refl), omega (arith, fit, two, nodes-cons (2 ∷ []) []))
above-gains count new (Some i) (level ∷ levels) fit same more =
    let m = more i refl in
    let g = inner-gains i level fit.2 (omega (arith, m.1, fit.1)) in
    let up = above-gains (length level) (length (inner_gain i level).1) (inner_gain i level).0 levels fit.3 g.same g.more in (
      (omega (arith, fit.0, m.0), omega (arith, g.sum, fit.1, m.0), g.fit, up.0),
      omega (arith, m.0, up.1, nodes-cons level levels, nodes-cons (inner_gain i level).1 (gain_above (inner_gain i level).0 levels)),
    )

-- a tree with an entry has a leaf
pub some-leaf : (count : ℕ) (levels : List (List ℕ)) → IsFitAbove count levels → 0 < count
some-leaf count [] fit = omega (arith, fit)
some-leaf count (level ∷ levels) fit = omega (arith, fit.0)

-- an insertion makes sizes that fit one entry more, and as many more nodes as it needs
pub growth-fits : (n : ℕ) → n % 2 ≡ 1 → (place entries : ℕ) (levels : List (List ℕ)) → IsFitFor n entries levels → place ≤ entries
    → IsFitFor n (suc entries) (growth n place levels) × (node_count (growth n place levels) ≡ node_count levels + need n place levels)
growth-fits n odd place entries [] fit within =
    ((omega (arith, fit), (omega (arith), omega (arith, odd), tt), refl), refl)
growth-fits n odd place entries (leaves ∷ levels) fit within =
    let g = leaf-gains ((n + 1) / 2) n (omega (arith, odd)) (omega (arith, odd)) place leaves fit.1 (omega (arith, fit.0, within)) (some-leaf (length leaves) levels fit.2) in
    let up = above-gains (length leaves) (length (leaf_gain n place leaves).1) (leaf_gain n place leaves).0 levels fit.2 g.same g.more in (
      (omega (arith, g.sum, fit.0), g.fit, up.0),
      omega (arith, up.1, nodes-cons leaves levels, nodes-cons (leaf_gain n place leaves).1 (gain_above (leaf_gain n place leaves).0 levels)),
    )
