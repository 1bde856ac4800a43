-- A step of a path on one row.
use Rattle.bforest_core.proofs.Words.{◌≡◌, ℕ, suc, ◌≤◌, ◌<◌, List, [], ◌∷◌, length, get_or, slice_get, Some, Bool, true, false, refl, arith, Row, Rows}
use Rattle.bforest_core.proofs.Words.{false≢true, entry_count, get_or_default, Content, heads, FitRow, RowIn, StandsAbove, Over, Moved}
use Rattle.bforest_core.proofs.{walks.Reading.{LastAsked, LastRead}, walks.RowNodes.{NodeIn, node-at}, table.Stored.slice_get_at, rows.Zipper.cut}

-- an index within a list has an element
pub read : {A : Type 0} (xs : List A) (i : ℕ) → i < length xs → (x : A) × (slice_get xs i ≡ Some x)
read xs i low = let c = cut xs i low in (c.x, cc (slice_get_at c.l c.x c.r i c.place_is))

-- the slot of a path's node, by the number that was read from the path
pub at_index : {A : Type 0} (slots : List A) (path : _) {up level : ℕ} (r : ℕ) {x : A} → level < length path → level ≡ up → slice_get slots (get_or path up 0) ≡ Some x → slice_get slots (get_or path level r) ≡ Some x
at_index slots path r low same found = cc (get_or_default _ _ r 0 low)

pub not_less : (m n : ℕ) → (m < n → ⊥) → n ≤ m
not_less m n past = omega arith

-- a test does not have two outcomes
pub never : {test : Bool} {A : Type 0} → test ≡ true → test ≡ false → A
never is not = absurd (false≢true cc)

module _ {K V X : Type 0} (content : List (K × X) → Content K V) (slots : List (Content K V)) (most : ℕ) where
  -- a path in the node at a place of a row, and in the rows above
  pub record Within (path indices : List ℕ) (up : ℕ) (row : Row K X) (rest : Rows K) (place : ℕ) : Type 0 where
    pub node : NodeIn content slots most row (get_or path up 0) place
    pub open node use *
    pub stands : StandsAbove path indices (suc up) rest place

  -- a path that moved to a place of a row stands in the node of that row at the place
  pub there : (half : ℕ) → 1 ≤ half → (row : Row K X) → FitRow half most row → RowIn content slots row → {path indices path1 indices1 up rest place : _} → Moved path indices path1 indices1 up rest (heads row) place → Within path1 indices1 up row rest place
  there half one row fit inside m = record { node = node-at _ _ _ _ one _ fit inside _ _ (m.head.0, simp (m.head_is, m.node_is)); stands = m.stands }

module _ {K V X : Type 0} {content : List (K × X) → Content K V} {slots most path indices up row rest place : _} (a : Within content slots most path indices up row rest place) (counts : (es : List (K × X)) → entry_count (content es) ≡ length es) (r : ℕ) (wide : up < length path) where
  -- the node meets what reading its last index requires
  abbrev pub last_asks : LastAsked slots (get_or path up r)
  last_asks = (content a.entries, at_index _ _ r wide refl a.slot_is, omega arith)

  pub last_is : {last : ℕ} → LastRead slots (get_or path up r) last → suc last ≡ length a.entries
  last_is says = omega (arith, says (content a.entries) last_asks.1, counts a.entries)

-- where no row is above, the level has one node
pub only : {K V : Type 0} {slots : List (Content K V)} {path indices level size rows list place : _} → Over slots path indices level size rows list place → level ≡ size → (place ≡ 0) × (suc place ≡ length list)
only {rows = []} p e = (p.stands, omega arith)
only {rows = row ∷ rows} p e = absurd (omega arith)
