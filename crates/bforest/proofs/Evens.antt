-- Levels whose nodes are as small as can be: each has `least`, and the last has the rest.
use Rattle.bforest.proofs.Growing.{nodes-cons, total, total-cons}
use Rattle.bforest.specs.Room.{IsEnoughAbove, IsEnoughFor, IsMetAbove, IsMetBy}
use Rattle.bforest_core.specs.Levels.{half_of}
use Rattle.bforest_core.specs.Sizes.{IsFitAbove, IsFitLevel}
use Rattle.std.proofs.Common.{List, [], ap, arith, length, refl, subst, suc, sym, zero, ◌*◌, ◌+◌, ◌-◌, ◌<◌, ◌∙◌, ◌≡◌, ◌≤◌, ◌∷◌, ℕ}
use Rattle.std.proofs.Math.Nat.{mul-le-mul_left}
use Rattle.std.proofs.lemmas.Grind.{div_ceil_times}
use Rattle.std.specs.Int.{div_ceil}

-- `full` nodes of `least`, and one of the rest
abbrev evens : ℕ → ℕ → ℕ → List ℕ
evens least zero rest = rest ∷ []
evens least (suc full) rest = least ∷ evens least full rest

evens-length : (least full rest : ℕ) → length (evens least full rest) ≡ suc full
evens-length least zero rest = refl
evens-length least (suc full) rest = ap suc (evens-length least full rest)

evens-total : (least full rest : ℕ) → total (evens least full rest) ≡ full * least + rest
evens-total least zero rest = omega (arith, total-cons rest [])
evens-total least (suc full) rest = omega (arith, total-cons least (evens least full rest), evens-total least full rest)

evens-fit : (least most full rest : ℕ) → least ≤ most → 0 < rest → rest ≤ most → IsFitLevel least most (evens least full rest)
evens-fit least most zero rest l some few = (some, few, tt)
evens-fit least most (suc zero) rest l some few = (omega arith, l, (some, few, tt))
evens-fit least most (suc (suc full)) rest l some few = (omega arith, l, evens-fit least most (suc full) rest l some few)

-- a fit level has few nodes: but for the last each has `least` or more
few-nodes : (least most : ℕ) (level : List ℕ) → 0 < least → IsFitLevel least most level → length level * least + 1 ≤ total level + least
few-nodes least most [] some fit = omega (arith, some)
few-nodes least most (size ∷ []) some fit = omega (arith, fit.0, total-cons size [])
few-nodes least most (size ∷ next ∷ rest) some fit = omega (arith, fit.0, total-cons size (next ∷ rest), few-nodes least most (next ∷ rest) some fit.2)

-- `few` is how many nodes a level of `count` can have at most, each of `least` but the last
abbrev Rounds : (least count few : ℕ) → Type 0
Rounds least count few = (count ≤ few * least) × (few * least < count + least)

rounds-up : (least count few : ℕ) → 0 < least → few ≡ div_ceil count least → Rounds least count few
rounds-up least count few some is = subst (Rounds least count) (sym is) (div_ceil_times count least some)

-- few enough for a count of them and of the levels above
few-small : (least count few : ℕ) → 2 ≤ least → Rounds least count few → count < 18446744073709551616 → few ≤ 9223372036854775808
few-small least count zero some r fits = omega arith
few-small least count (suc few) some r fits = omega (arith, mul-le-mul_left (suc few) some, mul-le-mul_left few some, suc-few, r.1, fits)
  where
    suc-few : suc few * least ≡ least + few * least
    suc-few = omega arith

short : (least few n count sum : ℕ) → Rounds least count few → sum ≤ count → n * least + 1 ≤ sum + least → n ≤ few
short least few n count sum r within fits = grind (arith, r.0, r.1, within, fits)

-- a fit level of that many nodes
fullest : (least most count few : ℕ) → 0 < count → least ≤ most → Rounds least count few
    → (level : List ℕ) × (total level ≡ count) × IsFitLevel least most level × (length level ≡ few)
fullest least most count zero some fits r = absurd (omega (arith, some, r.0))
fullest least most count (suc full) some fits r = (
  evens least full (count - full * least),
  evens-total least full (count - full * least) ∙ omega (arith, r.0, r.1),
  evens-fit least most full (count - full * least) fits (omega (arith, r.0, r.1)) (omega (arith, r.0, r.1, fits)),
  evens-length least full (count - full * least),
)

-- a level of one node is the top one
pub one-enough : (count : ℕ) → count ≡ 1 → IsEnoughAbove count 1
one-enough count is n [] within fit = omega (arith, is, within, fit)
one-enough count is n (level ∷ levels) within fit = omega (arith, is, within, fit.0)

-- the next level has at most `next` nodes, and with those above it at most `nodes`
module _ (count next nodes : ℕ) (some : 1 < count) (next-is : next ≡ div_ceil count 4) where
  next-rounds : Rounds 4 count next
  next-rounds = rounds-up 4 count next (omega arith) next-is

  pub more-enough : IsEnoughAbove next nodes → IsEnoughAbove count (count + nodes)
  more-enough under n [] within fit = omega (arith, some, fit)
  more-enough under n (level ∷ levels) within fit =
      let few = few-nodes 4 8 level (omega arith) fit.2 in
      let fits = short 4 next (length level) count (total level) next-rounds (omega (arith, fit.1, within)) few in
      omega (arith, within, under (length level) levels fits fit.3, nodes-cons level levels)

  pub more-met : IsMetAbove next nodes → IsMetAbove count (count + nodes)
  more-met w = let l = fullest 4 8 count next (omega (arith, some)) (omega arith) next-rounds in (
    l.0 ∷ w.0,
    (omega (arith, some), l.1, l.2, subst (λ q. IsFitAbove q w.0) (sym l.3) w.1),
    omega (arith, nodes-cons l.0 w.0, l.3, w.2),
  )

-- no entry, no node
pub none-enough : (most entries : ℕ) → 3 ≤ most → entries ≡ 0 → IsEnoughFor most entries 0
none-enough most entries large is n [] within fit = omega arith
none-enough most entries large is n ([] ∷ []) within fit = omega (arith, fit.2)
none-enough most entries large is n ([] ∷ level ∷ levels) within fit = omega (arith, fit.2.0)
none-enough most entries large is n ((size ∷ []) ∷ levels) within fit = omega (arith, is, within, fit.0, fit.1.0, total-cons size [])
none-enough most entries large is n ((size ∷ next ∷ rest) ∷ levels) within fit =
    absurd (omega (arith, is, within, large, fit.0, fit.1.0, total-cons size (next ∷ rest)))

-- `few` is how many leaves there can be at most, each of `half` entries but the last
module _ (most entries half few : ℕ) (large : 3 ≤ most) (half-is : half ≡ div_ceil most 2) (few-is : few ≡ div_ceil entries half) where
  half-at : half ≡ half_of most
  half-at = let r = rounds-up 2 most half (omega arith) half-is in omega (arith, r.0, r.1)

  few-rounds : Rounds (half_of most) entries few
  few-rounds = subst (λ n. Rounds n entries few) half-at (rounds-up half entries few (omega (arith, half-at, large)) few-is)

  pub leaves-small : entries < 18446744073709551616 → few ≤ 9223372036854775808
  leaves-small within = few-small (half_of most) entries few (omega (arith, large)) few-rounds within

  -- with the levels above there are at most `nodes` nodes
  module _ (nodes : ℕ) where
    pub leaves-enough : IsEnoughAbove few nodes → IsEnoughFor most entries nodes
    leaves-enough under n [] within fit = omega arith
    leaves-enough under n (leaves ∷ levels) within fit =
        let least = few-nodes (half_of most) most leaves (omega (arith, large)) fit.1 in
        let fits = short (half_of most) few (length leaves) entries (total leaves) few-rounds (omega (arith, fit.0, within)) least in
        omega (arith, under (length leaves) levels fits fit.2, nodes-cons leaves levels)

    pub leaves-met : 0 < entries → IsMetAbove few nodes → IsMetBy most entries nodes
    leaves-met some w = let l = fullest (half_of most) most entries few some (omega (arith, large)) few-rounds in (
      l.0 ∷ w.0,
      (l.1, l.2, subst (λ q. IsFitAbove q w.0) (sym l.3) w.1),
      omega (arith, nodes-cons l.0 w.0, l.3, w.2),
    )
