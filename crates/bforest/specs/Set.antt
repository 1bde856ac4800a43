-- What contracts see of a set: the keys of its list, whose values are all the unit.
use Rattle.bforest_core.specs.declared.pool.OutOfMemory.{OutOfMemory}
use Rattle.bforest_trees.specs.Forest.{Forest, list_of}
use Rattle.std.specs.Fn.{Called, Mut, Takes}
use Rattle.std.specs.Map.{keys_of}
use Rattle.std.specs.Prelude.{Bool, Err, List, None, Ok, Option, Result, Some, false, if◌then◌else◌, true, ℕ}
-- `with_unit keys`: the entries of a set with these keys, in this order.
pub use Rattle.bforest_nodes.specs.Entries.{with_unit}

-- the keys of a set
abbrev pub elements : {K : Type 0} → Forest K (Unit {0}) → Option ℕ → List K
elements f h = keys_of (list_of f h)

-- the unit, as the value of each key
abbrev pub the_value : Unit {0}
the_value = tt

-- the result of a set's insertion, as that of an insertion of an entry
abbrev pub as_put : Result Bool OutOfMemory → Result (Option (Unit {0})) OutOfMemory
as_put (Ok is_new) = Ok (if is_new then None else Some the_value)
as_put (Err refused) = Err refused

-- the result of a set's removal, as that of a removal of an entry
abbrev pub as_removed : Bool → Option (Unit {0})
as_removed true = Some the_value
as_removed false = None

-- the key that a set's removal returns, as the entry that is removed
abbrev pub as_popped : {K : Type 0} → Option K → Option (K × Unit {0})
as_popped None = None
as_popped (Some k) = Some (k, the_value)

module _ {F K : Type 0} (g : Mut F (K × Unit {0}) Bool) where
  -- a call of f at the key k may return b, and leave f as f'; the values v and w are ignored
  pub record AnswersKey (f : F) (k : K) (v : Unit {0}) (b : Bool) (w : Unit {0}) (f' : F) : Type 0 where
    pub called : Called g f (k, tt) b f'

  -- f may be called at k
  abbrev pub MayAskKey : F → K → Unit {0} → Type 0
  MayAskKey f k v = Takes g f (k, tt)
