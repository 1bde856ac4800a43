-- What reading a node asks and says: a child of an inner node, how many entries a node has, and the index of its last.
use Rattle.bforest_core.proofs.Words.{◌≡◌, ℕ, ◌-◌, ◌≤◌, ◌<◌, List, length, slice_get, Some, Content, Inner, IsInner, entry_count}
use Rattle.bforest_core.proofs.Words.{Bool, IsTrue, false, false≢true, sym, ◌∙◌, ◌↔◌}

-- a test that answers false disproves its condition
pub not_so : {A : Type 0} {test : Bool} → test ≡ false → (IsTrue test ↔ A) → ¬ A
not_so none tells a = false≢true (sym none ∙ tells.1 a)

module _ {K V : Type 0} (slots : List (Content K V)) (number : ℕ) where
  -- what reading a child of a node asks
  abbrev pub ChildAsked : ℕ → Type 0
  ChildAsked index = (keys : List K) × (children : _) × (slice_get slots number ≡ Some (Inner keys children)) × (index < length children)

  -- this child was read
  abbrev pub ChildRead : ℕ → ℕ → Type 0
  ChildRead index child = (keys : List K) (children : _) → slice_get slots number ≡ Some (Inner keys children) → slice_get children index ≡ Some child

  -- what reading how many children a node has asks
  abbrev pub CountAsked : Type 0
  CountAsked = (content : Content K V) × (slice_get slots number ≡ Some content) × IsInner content

  -- this number of entries was read
  abbrev pub CountRead : ℕ → Type 0
  CountRead count = (content : Content K V) → slice_get slots number ≡ Some content → count ≡ entry_count content

  -- what reading the index of a node's last entry asks
  abbrev pub LastAsked : Type 0
  LastAsked = (content : Content K V) × (slice_get slots number ≡ Some content) × (1 ≤ entry_count content)

  -- this index of the last entry was read
  abbrev pub LastRead : ℕ → Type 0
  LastRead last = (content : Content K V) → slice_get slots number ≡ Some content → last ≡ entry_count content - 1
