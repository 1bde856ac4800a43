-- What a call that replaces the value of a key states of it.
use Rattle.std.specs.Fn.{Once, FnOnceReturns}
use Rattle.std.specs.Prelude.{◌≡◌, ℕ, IfSome, None, Option, Some}
use Rattle.std.specs.declared.cmp.Ordering.{Ordering}
use Rattle.bforest_nodes.specs.Entries.{put, value_for}
use Rattle.bforest_core.specs.Change.{Changes}
use Rattle.bforest_core.specs.Levels.{flat, sizes_of}
use Rattle.bforest_core.specs.Table.{Table, slot_count}
use Rattle.bforest_core.specs.Trees.{tree_of}

-- the value of the key in the tree under the root became what a call of `change` with it returned, which is returned, and all nodes stay;
-- or the key is absent, and nothing changed
pub record UpdatesUnder {F K V : Type 0} (g : Once F (V × Unit {0}) V) (most : ℕ) (cmp : K → K → Ordering) (old new : Table K V) (root : ℕ) (key : K) (change : F) (result : Option V) : Type 0 where
  pub called : IfSome result (λ w. (v : V) × (value_for cmp (flat (tree_of old.nodes root).leaves) key ≡ Some v) × FnOnceReturns g change (v, tt) w)
  pub written : IfSome result (λ w. Changes most old new root root (put cmp (flat (tree_of old.nodes root).leaves) key w) (sizes_of (tree_of old.nodes root)))
  pub absent : result ≡ None → value_for cmp (flat (tree_of old.nodes root).leaves) key ≡ None
  pub same : result ≡ None → new ≡ old
  pub slots : slot_count new ≡ slot_count old
  pub chain : new.chain ≡ old.chain
  pub memory : new.memory ≡ old.memory
