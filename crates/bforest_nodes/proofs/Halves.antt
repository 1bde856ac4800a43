-- A search of a row, or of one of its halves, ends among the keys that count.
use Rattle.std.proofs.Common.{◌≡◌, ◌≢◌, Bool, ℕ, suc, ◌+◌, ◌-◌, ◌/◌, ◌%◌, ◌<◌, ◌≤◌, ◌&&◌, true, false, List, get_or, length, if◌then◌else◌, nat_lt, refl, sym, ap, ◌∙◌, inl, inr, arith}
use Rattle.std.proofs.lemmas.Bool.{cases_lt}
use Rattle.std.proofs.lemmas.Bool.Decides.{eqb_tells, leb_tells}

module _ {K : Type 0} (test : K → Bool) (low high : Bool) (apart : low ≢ high) (row : List K) (len : ℕ) (within : len ≤ length row) (some : 0 < len) (first : (d : K) → test (get_or row 0 d) ≡ low) (last : (d : K) → test (get_or row (len - 1) d) ≡ high) where
  -- behind a key that counts and answers low, as far as all answer low, lie keys that count
  pub ends-within : K → (start r : ℕ) → start < len → ((d : K) → test (get_or row start d) ≡ low) → ((j : ℕ) (d : K) → start < j → j < r → test (get_or row j d) ≡ low) → r < len
  ends-within d start r among at_start before = elim (cases_lt r len) [
    | inl less ↦ less
    | inr past ↦ absurd (elim (eqb_tells (len - 1) start) [
      | inl w ↦ apart (sym (at_start d) ∙ ap (λ z. test (get_or row z d)) (sym w.1) ∙ last d)
      | inr w ↦ (let ne = w.1 in apart (sym (before (len - 1) d (omega (arith, ne, among)) (omega (arith, past, some))) ∙ last d))
    ])
  ]

  -- where the search starts that looks at half of the row
  pub record Starts (middle start : ℕ) : Type 0 where
    pub among : start < len
    pub at_start : (d : K) → test (get_or row start d) ≡ low
    pub at_middle : start < middle → middle < len → (d : K) → test (get_or row middle d) ≡ high
    pub either : (start ≢ middle → start ≡ 0)

  pub half-starts : (middle : ℕ) (b : Bool) → (b ≡ true → (d : K) → test (get_or row middle d) ≡ low) → (b ≡ false → (d : K) → test (get_or row middle d) ≡ high) → (start : ℕ) → start ≡ (if nat_lt middle len && b then middle else 0) → Starts middle start
  half-starts middle b lower higher start is = elim (leb_tells (suc middle) len) [
    | inl w ↦ go (let less = w.1 in omega (arith, less)) b refl (is ∙ ap (λ z. if z && b then middle else 0) w.0)
    | inr w ↦ left (λ more. absurd (let le = w.1 in omega (arith, more, le))) (is ∙ ap (λ z. if z && b then middle else 0) w.0)
  ]
    where
      left : (middle < len → (d : K) → test (get_or row middle d) ≡ high) → start ≡ 0 → Starts middle start
      left mid zero_is = record {
        among = omega (arith, zero_is, some);
        at_start = λ d. ap (λ z. test (get_or row z d)) zero_is ∙ first d;
        at_middle = λ _ more. mid more;
        either = λ _. zero_is;
      }

      go : middle < len → (y : Bool) → b ≡ y → start ≡ (if true && b then middle else 0) → Starts middle start
      go more true e s = let at : start ≡ middle = s ∙ ap (λ z. if true && z then middle else 0) e in record {
        among = omega (arith, at, more);
        at_start = λ d. ap (λ z. test (get_or row z d)) at ∙ lower e d;
        at_middle = λ before. absurd (omega (arith, before, at));
        either = λ ne. absurd (ne at);
      }
      go more false e s = left (λ _. higher e) (s ∙ ap (λ z. if true && z then middle else 0) e)

  -- what a search of a half finds
  pub half-here : (middle start r : ℕ) → Starts middle start → middle ≡ length row / 2 → length row % 2 ≡ 1 → start < r → r ≤ start + middle → r < len → ((d : K) → r < start + middle → test (get_or row r d) ≡ high) → (d : K) → test (get_or row r d) ≡ high
  half-here middle start r s half odd behind most less here d = elim (cases_lt r (start + middle)) [
    | inl before ↦ here d before
    | inr at ↦ elim (eqb_tells start middle) [
      | inl w ↦ (let e = w.1 in ap (λ z. test (get_or row z d)) (omega (arith, e, at, most, half, odd, less, within)) ∙ last d)
      | inr w ↦ (let zero_is = s.either w.1 in ap (λ z. test (get_or row z d)) (omega (arith, zero_is, at, most)) ∙ s.at_middle (omega (arith, zero_is, behind, most)) (omega (arith, zero_is, at, less)) d)
    ]
  ]

  -- what a search of the whole finds
  pub whole-here : (r : ℕ) → r < len → ((d : K) → suc r ≢ length row → test (get_or row r d) ≡ high) → (d : K) → test (get_or row r d) ≡ high
  whole-here r less here d = elim (eqb_tells (suc r) (length row)) [
    | inl w ↦ (let e = w.1 in ap (λ z. test (get_or row z d)) (omega (arith, e, less, within)) ∙ last d)
    | inr w ↦ here d w.1
  ]
