-- Changes of a table's slots: none, a write, a slot off the chain, a freed slot, changes in sequence, and changes of more slots.
use Rattle.bforest_core.proofs.Words.{◌≡◌, ◌≢◌, ℕ, ◌+◌, ◌<◌, ◌≤◌, List, [], ◌∷◌, ◌++◌, slice_get, Some, refl, sym, ap, ◌∙◌, append_assoc, append-nil, length}
use Rattle.bforest_core.proofs.Words.{length-set, arith, LevelNode, slice_get_within, Content, Free, Table, with_node, with_front, with_freed, front_of, node}
use Rattle.bforest_core.proofs.Words.{numbers, RowIn, count, Distinct, Draws, Frees, Trades}
use Rattle.bforest_core.proofs.table.Tables.{absent_ne, count-append, count-other, ne_from_count, row-changed}
use Rattle.bforest_core.proofs.{table.Lists.{slice_get-set_apart, slice_get-set_same}, union.Forests.every-join, union.FreeSlots.{free-same, freed-slot}}

-- a number other than `n` does not occur in the list of `n` alone
pub apart_from : (m n : ℕ) → m ≢ n → count m (n ∷ []) ≡ 0
apart_from m n ne = count-other m n [] (λ e. ne (sym e))

-- a number that occurs in a list does not occur in that of `n` alone, where `n` is not in the list
pub not_there : (m n : ℕ) (ms : List ℕ) → 0 < count m ms → count n ms ≡ 0 → count m (n ∷ []) ≡ 0
not_there m n ms some none = apart_from m n (ne_from_count m n ms some none)

module _ {K V : Type 0} where
  -- nothing changes
  pub trades-none : (t : Table K V) (own : List ℕ) → Trades t t own own [] []
  trades-none t own = record { numbers_are = λ m. refl; others = λ m z. refl; freed_are = tt; chain_is = refl; slots_are = refl; limit_is = refl; memory_is = refl }

  -- a change of some nodes within a change of more
  pub trades-wider : {t u : Table K V} {was are : List ℕ} (wide wide' : List ℕ) {taken freed : List ℕ} →
      ((m : ℕ) → (count m was ≤ count m wide) × (count m wide' + count m was ≡ count m wide + count m are)) → Trades t u was are taken freed → Trades t u wide wide' taken freed
  trades-wider wide wide' within d = record {
    numbers_are = λ m. (let w = within m in omega (arith, d.numbers_are m, count-append));
    others = λ m none. (let w = within m in d.others m (omega (arith, count-append)));
    freed_are = d.freed_are;
    chain_is = d.chain_is;
    slots_are = d.slots_are;
    limit_is = d.limit_is;
    memory_is = d.memory_is;
  }

  -- each number is in one of the nodes or on the chain, as before
  pub trades-apart : {t u : Table K V} {was are taken freed : List ℕ} → Trades t u was are taken freed → Distinct (was ++ t.chain) → Distinct (are ++ u.chain)
  trades-apart d apart m = omega (arith, apart m, d.numbers_are m, ap (λ z. count m z) d.chain_is, count-append)

  -- two changes in sequence, as one change of `was` to `are`: the first makes `one` into `mid`, the second `two` into `end`. `within` says how often
  -- each number occurs
  module _ {t u v : Table K V} {one mid two end : List ℕ} (was are : List ℕ)
      (within : (m : ℕ) → (count m one ≤ count m was) × (count m two + count m one ≤ count m was + count m mid)
      × (count m are + count m two + count m one ≡ count m was + count m mid + count m end)) where
    sequence : {taken taken' freed freed' : List ℕ} → Trades t u one mid taken freed → Trades u v two end taken' freed' →
        ((m : ℕ) → 0 < count m freed → count m (taken' ++ two) ≡ 0) → (taken ++ taken') ++ v.chain ≡ (freed' ++ freed) ++ t.chain →
        Trades t v was are (taken ++ taken') (freed' ++ freed)
    sequence p q quiet chain = record {
      numbers_are = λ m. (let w = within m in omega (arith, p.numbers_are m, q.numbers_are m, count-append));
      others = λ m none. (let w = within m in q.others m (omega (arith, p.numbers_are m, count-append)) ∙ p.others m (omega (arith, count-append)));
      freed_are = every-join _ _ _ q.freed_are (free-same _ _ _ (λ m some. q.others m (quiet m some)) p.freed_are);
      chain_is = chain;
      slots_are = cc;
      limit_is = cc;
      memory_is = cc;
    }

    -- nodes are taken twice
    pub draws-then : {taken taken' : List ℕ} → Draws t u one mid taken → Draws u v two end taken' → Draws t v was are (taken ++ taken')
    draws-then {taken} {taken'} p q = sequence p q (λ m some. absurd (omega arith)) (cc (append_assoc taken taken' v.chain))

    -- only the first change takes nodes
    pub draws-after : {taken : List ℕ} → Draws t u one mid taken → Frees u v two end [] → Draws t v was are taken
    draws-after {taken} p q = rw (← append-nil taken) (sequence p q (λ m some. absurd (omega arith)) (cc (append-nil taken)))

    -- only the second change frees nodes
    pub frees-after : {freed : List ℕ} → Frees t u one mid [] → Frees u v two end freed → Frees t v was are freed
    frees-after {freed} p q = rw (← append-nil freed) (sequence p q (λ m some. absurd (omega arith)) (cc (append-nil freed)))

    -- nodes are freed twice
    pub frees-then : {freed freed' : List ℕ} → Distinct (was ++ t.chain) → Frees t u one mid freed → Frees u v two end freed' → Frees t v was are (freed' ++ freed)
    frees-then {freed} {freed'} apart p q = sequence p q
        (λ m some. (let w = within m in omega (arith, apart m, p.numbers_are m, count-append))) (cc (append_assoc freed' freed t.chain))

  -- one slot was written
  pub record Puts (t u : Table K V) (n : ℕ) (c : Content K V) : Type 0 where
    pub here : slice_get u.nodes n ≡ Some c
    pub frees : Frees t u (n ∷ []) (n ∷ []) []
    pub open frees use *

  pub puts : (t u : Table K V) (n c old : _) → slice_get t.nodes n ≡ Some old → u ≡ with_node t n c → Puts t u n c
  puts t u n c old found is = record {
    here = cc (slice_get-set_same _ n c (slice_get_within _ n _ found));
    frees = record {
      numbers_are = λ m. refl;
      others = λ m none. cc (slice_get-set_apart t.nodes n m c (absent_ne m n [] none));
      freed_are = tt;
      chain_is = cc;
      slots_are = cc (length-set _ n c);
      limit_is = cc;
      memory_is = cc;
    };
  }

  pub puts-then : {t u v n c d : _} → Puts t u n c → Puts u v n d → Puts t v n d
  puts-then {n = n} p q = record { here = q.here; frees = frees-after (n ∷ []) (n ∷ []) (λ m. omega arith) p.frees q.frees }

  -- the front of the chain was written, and taken off it
  pub record Takes (t u : Table K V) (n : ℕ) (c : Content K V) : Type 0 where
    pub here : slice_get u.nodes n ≡ Some c
    pub draws : Draws t u [] (n ∷ []) (n ∷ [])
    pub open draws use *

  takes_at : (t u : Table K V) (n c chain : _) → t.chain ≡ chain → front_of chain ≡ Some n → u ≡ with_front t chain c → n < length t.nodes → Takes t u n c
  takes_at t u n c [] is front after low = absurd cc
  takes_at t u n c (m ∷ rest) is front after low = let same : m ≡ n = cc in let after2 = after ∙ ap (λ z. with_front t (z ∷ rest) c) same in
      record {
        here = cc (slice_get-set_same _ n c low);
        draws = record {
          numbers_are = λ k. refl;
          others = λ k none. cc (slice_get-set_apart t.nodes n k c (absent_ne k n [] none));
          freed_are = tt;
          chain_is = cc;
          slots_are = cc (length-set _ n c);
          limit_is = cc;
          memory_is = cc;
        };
      }

  pub takes : (t u : Table K V) (n c : _) → front_of t.chain ≡ Some n → u ≡ with_front t t.chain c → n < length t.nodes → Takes t u n c
  takes t u n c front after low = takes_at t u n c _ refl front after low

  -- freeing a slot leaves every other slot
  pub freed_other : (t v : Table K V) (n : ℕ) → v ≡ with_freed t n → (m : ℕ) → count m (n ∷ []) ≡ 0 → slice_get v.nodes m ≡ slice_get t.nodes m
  freed_other t v n is m none = cc (slice_get-set_apart t.nodes n m (Free (front_of t.chain)) (absent_ne m n [] none))

  -- a slot was freed
  pub frees-one : (t v : Table K V) (n : ℕ) {old : Content K V} → slice_get t.nodes n ≡ Some old → v ≡ with_freed t n → Frees t v (n ∷ []) [] (n ∷ [])
  frees-one t v n found is = record {
    numbers_are = λ m. refl;
    others = freed_other t v n is;
    freed_are = (rw is (freed-slot t n (slice_get_within _ n _ found)), tt);
    chain_is = cc;
    slots_are = cc (length-set t.nodes n (Free (front_of t.chain)));
    limit_is = cc;
    memory_is = cc;
  }

  -- one node of a row is written
  pub row-put : {X : Type 0} (content : List (K × X) → Content K V) {t u : Table K V} (before : List (LevelNode K X)) {n : ℕ} (es fs : List (K × X)) (after : List (LevelNode K X)) →
      RowIn content t.nodes (before ++ node n es ∷ after) → Puts t u n (content fs) → count n (numbers before) + count n (numbers after) ≡ 0 → RowIn content u.nodes (before ++ node n fs ∷ after)
  row-put content before {n} es fs after i w none = row-changed content _ _ before (node n es ∷ []) (node n fs ∷ []) after (n ∷ []) i
      w.others (w.here, tt) (λ m some. not_there m n (numbers before ++ numbers after) (omega (arith, count-append)) (omega (arith, count-append)))
