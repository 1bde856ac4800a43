-- Bounds on leaves, on levels and on nodes.
use Rattle.bforest_core.proofs.Words.{mul-le-mul_left, pow-succ', ◌≡◌, ℕ, suc, ◌+◌, ◌*◌, ◌^◌, ◌≤◌, ◌<◌, ◌-◌, Some, None, List, [], ◌∷◌}
use Rattle.bforest_core.proofs.Words.{◌++◌, map, length, refl, sym, ap, ◌∙◌, inl, inr, length-append, arith, Heads, Row, Rows, cases_lt, length-map}
use Rattle.bforest_core.proofs.{Words.{node, flat, heads, sizes, FitRow, Stacked, Topped, inner_gain, gain_above, le-ltb, lt-ltb}, walks.RowNodes.fit_full}

-- a row has more entries than half full nodes, one fewer than its nodes, would have
pub entries-many : {K X : Type 0} (half most : ℕ) → 1 ≤ half → (m : ℕ) (es : List (K × X)) (ns : _) → FitRow half most (node m es ∷ ns) → half * length ns < length (flat (node m es ∷ ns))
entries-many half most one m es [] f = let z : half * 0 ≡ 0 = omega arith in omega (arith, length-append es (flat []))
entries-many half most one m es (node n fs ∷ ns) f = omega (arith, entries-many half most one n fs ns f.2, length-append es (fs ++ flat ns))

-- a row has at most as many nodes as half full ones would be, rounded up
pub leaves-few : {K V : Type 0} (half most : ℕ) (leaves : Row K V) → 1 ≤ half → FitRow half most leaves → half * length leaves ≤ length (flat leaves) + (half - 1)
leaves-few half most [] one f = let z : half * 0 ≡ 0 = omega arith in omega arith
leaves-few half most (node m es ∷ ns) one f = omega (arith, entries-many _ _ one m _ _ f)

-- a level with `n` levels above it, `n` not 0, has more than `4 ^ (n - 1)` nodes
pub levels-few : {K : Type 0} (hs : Heads K) (row : Row K ℕ) (rows : Rows K) → Stacked hs (row ∷ rows) → Topped hs (row ∷ rows) → 4 ^ length rows < length hs
levels-few hs row [] s t = omega arith
levels-few hs [] (row2 ∷ rows) s t = let r = levels-few [] row2 rows s.2 t.1 in absurd (omega arith)
levels-few hs (node m es ∷ ns) (row2 ∷ rows) s t =
    omega (arith, levels-few (heads (node m es ∷ ns)) row2 rows s.2 t.1, entries-many 4 8 (omega arith) m es ns s.1, fit_full 4 8 (omega arith) (node m es ∷ ns) s.1, pow-succ' 4 (length rows), ap length s.0)

-- a lower bound on the entries of a tree with inner levels
pub depth : {K V : Type 0} (half most : ℕ) → 1 ≤ half → (leaves : Row K V) (above : _) → FitRow half most leaves → Stacked (heads leaves) above → Topped (heads leaves) above → 1 ≤ length above → half * 4 ^ (length above - 1) < length (flat leaves)
depth half most one leaves [] f s t two = absurd (omega arith)
depth half most one [] (row ∷ rows) f s t two = absurd (omega arith)
depth half most one (node m es ∷ ns) (row ∷ rows) f s t two = let e : length (row ∷ rows) - 1 ≡ length rows = omega arith in
    let p : half * 4 ^ length rows ≤ half * length ns = mul-le-mul_left half (omega (arith, levels-few (heads (node m es ∷ ns)) row rows s t, fit_full half most one (node m es ∷ ns) f)) in
    rw e (omega (arith, entries-many _ _ one m _ _ f))

-- an insertion adds at most one level
pub gain-most : (k levels : _) → length (gain_above k levels) ≤ suc (length levels)
gain-most None levels = omega arith
gain-most (Some p) [] = omega arith
gain-most (Some p) (level ∷ levels) = omega (arith, gain-most (inner_gain p level).0 levels)

-- an insertion adds a level only where the top level splits
some_grew : (k levels : _) → length (gain_above k levels) ≡ suc (length levels) → (q : ℕ) × (k ≡ Some q)
some_grew None levels e = absurd (omega arith)
some_grew (Some q) levels e = (q, refl)

-- an only node with room does not split
none_small : (p s : ℕ) → s < 8 → (inner_gain p (s ∷ [])).0 ≡ None
none_small p s room = elim (cases_lt p s) [ inl lt ↦ (let a = lt-ltb p s lt in rw (a, lt-ltb s 8 room) refl) | inr ge ↦ (let a = le-ltb p s ge in rw a refl) ]

root_full : {K : Type 0} (p : ℕ) {q : ℕ} (row : Row K ℕ) → length (heads row) ≡ 1 → FitRow 4 8 row → (inner_gain p (sizes row)).0 ≡ Some q → 8 ≤ length (flat row)
root_full p [] one f e = absurd (omega arith)
root_full p (node m es ∷ []) one f e = let len : length (flat (node m es ∷ [])) ≡ length es = length-append es [] ∙ omega arith in
    elim (cases_lt (length es) 8) [ inl lt ↦ absurd (let z = none_small p _ lt in cc) | inr ge ↦ omega arith ]
root_full p (node m es ∷ n ∷ ns) one f e = absurd (omega (arith, fit_full 4 8 (omega arith) (node m es ∷ n ∷ ns) f))

-- a tree that gets a new root has many nodes
risen : {K : Type 0} (p : ℕ) (hs : Heads K) (row : Row K ℕ) (rows : Rows K) → Stacked hs (row ∷ rows) → Topped hs (row ∷ rows) → length (gain_above (Some p) (map sizes (row ∷ rows))) ≡ suc (suc (length rows)) → 7 * 4 ^ length rows < length hs
risen p hs row [] s t e = let g = some_grew (inner_gain p (sizes row)).0 [] (omega arith) in omega (arith, root_full p row s.2 s.1 g.1, ap length s.0)
risen p hs row (row2 ∷ rows) s t e = let g = some_grew (inner_gain p (sizes row)).0 (map sizes (row2 ∷ rows)) (omega (arith, length-map (row2 ∷ rows) sizes)) in
    let r = risen g.0 (heads row) row2 rows s.2 t.1 (ap (λ z. length (gain_above z (map sizes (row2 ∷ rows)))) (sym g.1) ∙ omega arith) in
    omega (arith, wide row s.1 (omega (arith, r)), pow-succ' 4 (length rows), ap length s.0)
  where
    wide : {K : Type 0} (row : Row K ℕ) → FitRow 4 8 row → 0 < length (heads row) → 4 * length (heads row) < length (flat row) + 4
    wide [] f some = absurd (omega arith)
    wide (node m es ∷ ns) f some = omega (arith, entries-many 4 8 (omega arith) m es ns f, fit_full 4 8 (omega arith) (node m es ∷ ns) f)

-- an insertion leaves at most as many levels as a path has room for
pub climb-seventeen : {K : Type 0} (p : ℕ) (hs : Heads K) (rows : Rows K) → Stacked hs rows → Topped hs rows → length hs < 2 ^ 32 → length rows ≤ 16 → length (gain_above (Some p) (map sizes rows)) ≤ 16
climb-seventeen p hs [] s t few low = omega arith
climb-seventeen p hs (row ∷ rows) s t few low = let len = length-map (row ∷ rows) sizes in let most = gain-most (Some p) (map sizes (row ∷ rows)) in
    elim (cases_lt (length (gain_above (Some p) (map sizes (row ∷ rows)))) 17) [
      | inl lt ↦ omega arith
      | inr ge ↦ (let fifteen : length rows ≡ 15 = omega arith in let r = rw fifteen at (risen p hs row rows s t (omega arith)) in
          absurd (omega arith))
    ]
