-- Free slots: those of a list, of a freed node, and those that a change leaves free.
use Rattle.bforest_core.proofs.Words.{◌≡◌, ℕ, ◌<◌, List, [], ◌∷◌, slice_get, inl, inr, arith, eqb_tells, unwrap_or-slice_get, Content, IsFree, Table}
use Rattle.bforest_core.proofs.{Words.{slot_count, with_freed, count, slot, Every}, table.Lists.slice_get-set_same, table.Read.slot-is}
use Rattle.bforest_core.proofs.table.Tables.{count-same, count-other}

module _ {K V : Type 0} where
  -- where the slots of a list are free, so is each of them
  pub free-at : (slots : List (Content K V)) (ms : _) → Every (λ m. IsFree (slot slots m)) ms → (k : ℕ) → 0 < count k ms → IsFree (slot slots k)
  free-at slots [] f k some = absurd (omega arith)
  free-at slots (m ∷ ms) f k some =
      elim (eqb_tells m k) [ inl w ↦ rw (← w.1) f.0 | inr w ↦ free-at slots ms f.1 k (omega (arith, count-other k m ms w.1)) ]

  -- two tables with the same entry for a slot have the same content there
  pub slot_same : (old new : List (Content K V)) (m : ℕ) → slice_get new m ≡ slice_get old m → slot new m ≡ slot old m
  slot_same old new m same = cc (unwrap_or-slice_get _ m _)

  -- free slots that are not written stay free
  pub free-same : (old new : List (Content K V)) (ms : _) → ((m : ℕ) → 0 < count m ms → slice_get new m ≡ slice_get old m) → Every (λ m. IsFree (slot old m)) ms → Every (λ m. IsFree (slot new m)) ms
  free-same old new [] same f = tt
  free-same old new (m ∷ ms) same f = (
    rw (slot_same old new m (same m (omega (arith, count-same m ms)))) f.0,
    free-same old new ms (λ k some. same k (omega arith)) f.1,
  )

  -- the slot of a freed node is free
  pub freed-slot : (table : Table K V) (m : ℕ) → m < slot_count table → IsFree (slot (with_freed table m).nodes m)
  freed-slot table m low = rw (slot-is (with_freed table m).nodes m (slice_get-set_same _ m _ low)) tt
