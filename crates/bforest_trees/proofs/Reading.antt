-- The entries left to be read from a path on.
use Rattle.bforest_trees.specs.Layout.{IsOnOrEnds, entries_from}
use Rattle.bforest_core.proofs.table.Lists.{drop-read}
use Rattle.bforest_core.proofs.walks.Backward.{at_end, at_entry}
use Rattle.bforest_core.proofs.walks.Steps.{read}
use Rattle.bforest_core.proofs.walks.Standing.{on-at, on-points, on-within, points-root, points-spot}
use Rattle.bforest_core.specs.Paths.{IsAtEnd, OnEntry, PointsTo, Standing, StandsAt, StandsOn, index_of, leaf_of, list_under, path_root, place_in, spot}
use Rattle.bforest_core.specs.Table.{Table}
use Rattle.bforest_core.specs.Trees.{IsUnion, tree_of}
use Rattle.bforest_core.specs.declared.path.Path.{Path}
use Rattle.std.proofs.Common.{List, None, Option, Some, [], ap, drop, if◌then◌else◌, inl, inr, length, slice_get, subst, suc, sym, true, ◌==◌, ◌∙◌, ◌∷◌, ◌≡◌, ℕ}
use Rattle.std.proofs.Math.Seq.{drop-length}
use Rattle.std.proofs.lemmas.Bool.Decides.{eqb_tells}
use Rattle.std.specs.Iterator.{YieldsFirst}

module _ {K V : Type 0} {n : ℕ} where
  -- the entries from a path that points to a place
  pub pointing : (table : Table K V) (root : ℕ) (path : Path K V n) (place : ℕ) → IsUnion n table → PointsTo table root path place → entries_from table path ≡ drop place (list_under table root)
  pointing table root path place union to =
      ap (λ r. drop (spot table r path) (list_under table r)) (points-root path union to)
      ∙ ap (λ z. drop z (list_under table root)) (points-spot path union to)

  -- the entries from a path that stands on an entry
  pub standing : (table : Table K V) (root : ℕ) (path : Path K V n) (place : ℕ) → IsUnion n table → StandsOn table root path place → entries_from table path ≡ drop place (list_under table root)
  standing table root path place union on = pointing table root path place union (on-points table path on)

  -- no entries are left from a path at the end
  pub ended : (table : Table K V) (path : Path K V n) → IsAtEnd path → entries_from table path ≡ []
  ended table path none =
      let root = path_root path in
      let end : (path.size == 0) ≡ true = elim (eqb_tells path.size 0) [ inl w ↦ w.0 | inr w ↦ absurd (w.1 none) ] in
      let last : spot table root path ≡ length (list_under table root) = λ j. if end j then length (list_under table root) else place_in (tree_of table.nodes root).leaves (leaf_of path) (index_of path) in
      ap (λ z. drop z (list_under table root)) last ∙ drop-length (list_under table root)

  -- the entries from a path that stands on an entry or at the end
  pub left-at : (table : Table K V) (root : ℕ) (path : Path K V n) (place : ℕ) → IsUnion n table → StandsAt table root path place → entries_from table path ≡ drop place (list_under table root)
  left-at table root path place union s = elim (eqb_tells path.size 0) [
    | inl w ↦ ended table path w.1 ∙ sym (ap (λ z. drop z (list_under table root)) (at_end path.node path.entry (tree_of table.nodes root) place path.size w.1 s.at) ∙ drop-length (list_under table root))
    | inr w ↦ standing table root path place union (record { root_is = s.root_is; stands = at_entry path.node path.entry (tree_of table.nodes root) place path.size w.1 s.at })
  ]

module _ {K V : Type 0} {n : ℕ} (table : Table K V) (path path' : Path K V n) (o o' : Option (K × V)) where
  -- a step from entry to entry, which answers the entry where the path stood
  pub record Step : Type 0 where
    pub value : (at : Standing table path) → o ≡ slice_get (list_under table at.root) at.place
    pub ended : IsAtEnd path → o ≡ None
    pub stands : (at : OnEntry table path) → StandsAt table at.root path' (suc at.place)
    pub end : o' ≡ None → IsAtEnd path'
    pub stays : IsAtEnd path → o' ≡ None

  pub record Stepped : Type 0 where
    pub on : IsOnOrEnds table path'
    pub yields : YieldsFirst (λ (entries : List (K × V)). entries) (entries_from table path) o (entries_from table path')

  -- a step removes the first of the entries that are left
  pub stepped : IsOnOrEnds table path → Step → Stepped
  stepped r s = elim (eqb_tells path.size 0) [
    | inl w ↦ (
        let end = s.end (s.stays w.1) in
        record {
          on = record { union = r.union; stands = λ some. absurd (some end) };
          yields = subst (λ (z : Option (K × V)). YieldsFirst (λ (entries : List (K × V)). entries) (entries_from table path) z (entries_from table path')) (sym (s.ended w.1)) (ended table path w.1, ended table path' end);
        }
        )
    | inr w ↦ (
        let at = r.stands w.1 in
        let list = list_under table at.root in
        let next = s.stands at in
        let e = read list at.place (on-within table path at.on) in
        let value : o ≡ Some e.0 = s.value (record { root = at.root; place = at.place; at = on-at table path at.on }) ∙ e.1 in
        record {
          on = record { union = r.union; stands = λ some. record { root = at.root; place = suc at.place; on = record { root_is = next.root_is; stands = at_entry path'.node path'.entry (tree_of table.nodes at.root) (suc at.place) path'.size some next.at } } };
          yields = subst (λ (z : Option (K × V)). YieldsFirst (λ (entries : List (K × V)). entries) (entries_from table path) z
              (entries_from table path')) (sym value)
              (standing table at.root path at.place r.union at.on ∙ drop-read list at.place e.0 e.1
              ∙ ap (λ z. e.0 ∷ z) (sym (left-at table at.root path' (suc at.place) r.union next)));
        }
        )
  ]
