-- A path in a tree stands on an entry or at the end, also after a step.
use Rattle.std.proofs.Common.{◌≡◌, ℕ, suc, IfSome, IsTrue, Option, None, Some, refl, length}
use Rattle.bforest_core.specs.Paths.{IsAtEnd, IsPlaced, OnEntry, PointsTo, StandingUnder, StandsAt, StandsOn, list_under}
use Rattle.bforest_core.specs.Table.{Table}
use Rattle.bforest_core.specs.Trees.{is_root, tree_of}
use Rattle.bforest_core.specs.declared.path.Path.{Path}
use Rattle.bforest_core.proofs.walks.Backward.{at_entry}
use Rattle.bforest_core.proofs.walks.Standing.{path-ended, path-on}
use Rattle.tree_cases.specs.Ordered.{CanGoOn}

module _ {n : ℕ} (table : Table ℕ ℕ) (path : Path ℕ ℕ n) where
  -- a path that stands at a place of a list can go on
  pub go-at : (root place : ℕ) → StandsAt table root path place → CanGoOn table path
  go-at root place s some = record {
    root = root;
    place = place;
    on = record { root_is = s.root_is; stands = at_entry path.node path.entry (tree_of table.nodes root) place path.size some s.at };
  }

  -- a path can go on after a removal: it stands on the next entry, or at the end
  pub go-after : (answer : Option ℕ) (place : ℕ) → IfSome answer (λ root. StandsAt table root path place) → (answer ≡ None → IsAtEnd path) → CanGoOn table path
  go-after None place at end some = absurd (some (end refl))
  go-after (Some root) place at end some = go-at root place at some

  -- a path that is placed for an entry points to the entry's place
  pub points-from : (root place : ℕ) → IsPlaced table root path place → PointsTo table root path place
  points-from root place p = record { root_is = p.root_is; points = p.at.points }

  -- a path on an entry stands at the place of that entry
  pub standing-on : (root place : ℕ) → StandsOn table root path place → StandingUnder table root path
  standing-on root place on = record {
    place = place;
    at = record { root_is = on.root_is; at = path-on path.node path.entry (tree_of table.nodes root) place path.size on.stands };
  }

  -- a path at the end stands at the place behind the last entry
  pub standing-end : (root : ℕ) → IsTrue (is_root table.nodes root) → IsAtEnd path → StandingUnder table root path
  standing-end root root_is end =
      let place = length (list_under table root) in record {
        place = place;
        at = record { root_is = root_is; at = path-ended path.node path.entry (tree_of table.nodes root) place path.size end refl };
      }

-- a path can go on after a step
pub go-on : {n : ℕ} (table : Table ℕ ℕ) (path path' : Path ℕ ℕ n) (answer : Option (ℕ × ℕ)) → CanGoOn table path → ((at : OnEntry table path) → StandsAt table at.root path' (suc at.place)) →
    (answer ≡ None → IsAtEnd path') → (IsAtEnd path → answer ≡ None) → CanGoOn table path'
go-on table path path' answer can moved end stays some =
    let at = can (λ none. some (end (stays none))) in go-at table path' at.root (suc at.place) (moved at) some
