-- Steps along two lists, side by side. No public clause cites this module.
use Rattle.bforest_trees.specs.Layout.{IsReader, left_of}
use Rattle.bforest_trees.specs.declared.reader.Reader.{Reader}
use Rattle.bforest_trees.specs.declared.trees.unite.NewEntries.TheVariants.{More, One, Zero}
use Rattle.bforest_trees.specs.declared.trees.unite.NewEntries.{NewEntries}
use Rattle.bforest_core.specs.Place.{leaf_content}
use Rattle.bforest_core.specs.Table.{Table}
use Rattle.bforest_nodes.specs.Content.{Content}
use Rattle.bforest_nodes.specs.Entries.{IsIncreasing, is_present}
use Rattle.std.specs.Prelude.{Bool, List, None, Option, Some, [], drop, false, if◌then◌else◌, length, take, ◌<◌, ◌∷◌, ◌≡◌, ◌≤◌, ℕ}
use Rattle.std.specs.Ordering.{is_gt}
use Rattle.std.specs.declared.cmp.Ordering.TheVariants.{Equal, Greater, Less}
use Rattle.std.specs.declared.cmp.Ordering.{Ordering}

-- how the first entries of two lists compare: where one list is empty, that of the other comes first
abbrev pub front_order : {K X : Type 0} → (K → K → Ordering) → List (K × X) → List (K × X) → Option Ordering
front_order cmp [] [] = None
front_order cmp [] (other ∷ others) = Some Greater
front_order cmp (e ∷ es) [] = Some Less
front_order cmp (e ∷ es) (other ∷ others) = Some (cmp e.0 other.0)

-- e was taken off the list whose first entry comes first; where both compare equal, it is that of es, and that of the others was taken off, too
abbrev pub TakesOff : {K X : Type 0} → Ordering → List (K × X) → List (K × X) → K × X → List (K × X) → List (K × X) → Type 0
TakesOff Less es others e es' others' = (es ≡ e ∷ es') × (others' ≡ others)
TakesOff Greater es others e es' others' = (es' ≡ es) × (others ≡ e ∷ others')
TakesOff {K} {X} Equal es others e es' others' = (es ≡ e ∷ es') × (other : K × X) × (others ≡ other ∷ others')

-- how many entries there are: none, one, which is told, or more
abbrev pub new_entries : {K X : Type 0} → List (K × X) → NewEntries K X
new_entries [] = Zero
new_entries (e ∷ []) = One e.0 e.1
new_entries (e ∷ d ∷ es) = More

module _ {K X : Type 0} {n : ℕ} where
  -- the next entry is in the leaf that the reader holds
  pub record HoldsNext (reader : Reader K X n) : Type 0 where
    pub within : reader.index < length reader.keys.now
    pub same : length reader.keys.now ≡ length reader.vals.now

  -- each reader whose next entry comes first holds it
  abbrev pub CanTake : Option Ordering → Reader K X n → Reader K X n → Type 0
  CanTake None first second = Unit {0}
  CanTake (Some Less) first second = HoldsNext first
  CanTake (Some Greater) first second = HoldsNext second
  CanTake (Some Equal) first second = HoldsNext first × HoldsNext second

  module _ (table : Table K X) where
    -- the first entries that are left to two readers were compared, and each reader may have gone to its next leaf
    pub record Compares (cmp : K → K → Ordering) (first second : Reader K X n) (order : Option Ordering) (first' second' : Reader K X n) : Type 0 where
      pub order_is : order ≡ front_order cmp (left_of table first) (left_of table second)
      pub left : left_of table first' ≡ left_of table first
      pub second_left : left_of table second' ≡ left_of table second
      pub reader : IsReader table first'
      pub second_reader : IsReader table second'
      pub can : CanTake order first' second'

    -- a reader passed keys that are less than key
    pub record Passes (cmp : K → K → Ordering) (key : K) (reader reader' : Reader K X n) : Type 0 where
      pub reader_is : IsReader table reader'
      pub up : IsIncreasing cmp (left_of table reader')
      pub same : (k : K) → is_gt (cmp key k) ≡ false → is_present cmp (left_of table reader) k ≡ is_present cmp (left_of table reader') k

    -- a key was looked for in what is left to a reader, which passed those that are less
    pub record Finds (cmp : K → K → Ordering) (key : K) (reader : Reader K X n) (found : Bool) (reader' : Reader K X n) : Type 0 where
      pub found_is : found ≡ is_present cmp (left_of table reader) key
      pub passes : Passes cmp key reader reader'

    -- e was taken off what is left to two readers
    pub record TakesFrom (order : Ordering) (first second : Reader K X n) (e : K × X) (first' second' : Reader K X n) : Type 0 where
      pub off : TakesOff order (left_of table first) (left_of table second) e (left_of table first') (left_of table second')
      pub reader : IsReader table first'
      pub second_reader : IsReader table second'

    -- the entry that comes first of what is left to two readers was taken off, if there is one
    pub record TakesLeast (cmp : K → K → Ordering) (first second : Reader K X n) (found : Option (K × X)) (first' second' : Reader K X n) : Type 0 where
      pub none : found ≡ None → front_order cmp (left_of table first) (left_of table second) ≡ None
      pub some : (e : K × X) → found ≡ Some e
          → (order : Ordering) × (front_order cmp (left_of table first) (left_of table second) ≡ Some order) × TakesFrom order first second e first' second'

-- an entry was taken off what is left to two readers, and returned where it is the second's alone
pub record TakesNew {K X : Type 0} {n : ℕ} (order : Ordering) (first second : Reader K X n) (found : Option (K × X)) (first' second' : Reader K X n) : Type 0 where
  pub entry : K × X
  pub found_is : found ≡ (if is_gt order then Some entry else None)
  pub taken : (table : Table K X) → IsReader table first → IsReader table second → TakesFrom table order first second entry first' second'

-- the first `count` of all entries were taken off, and are those of a leaf
pub record Gathers {K X : Type 0} (all rest : List (K × X)) (leaf : Content K X) (count : ℕ) : Type 0 where
  pub leaf_is : leaf ≡ leaf_content (take count all)
  pub rest_is : rest ≡ drop count all

-- entries were taken off a reader of increasing entries, which stays in its tree
pub record GoesOn {K X : Type 0} {n : ℕ} (table : Table K X) (cmp : K → K → Ordering) (reader reader' : Reader K X n) : Type 0 where
  pub reader_is : IsReader table reader'
  pub up : IsIncreasing cmp (left_of table reader')
  pub fewer : length (left_of table reader') ≤ length (left_of table reader)
  pub root : reader'.root ≡ reader.root
