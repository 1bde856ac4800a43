-- The keys of two lists compared, the union of two lists, and what one keeps of the other.
use Rattle.bforest_nodes.specs.Entries.{IsIncreasing, is_present, put}
use Rattle.bforest_trees.specs.Forest.{Forest, IsLive, list_of}
use Rattle.std.specs.List.{list_all}
use Rattle.std.specs.Prelude.{Bool, List, Option, [], false, filter, if◌then◌else◌, map, not, ◌∷◌, ℕ}
use Rattle.std.specs.declared.cmp.Ordering.{Ordering}

-- whether a key stays, where those that are found are to stay, or those that are not
abbrev pub fits : Bool → Bool → Bool
fits present found = if present then found else not found

module _ {K X : Type 0} (cmp : K → K → Ordering) where
  -- whether each key of es has an equal one in others
  abbrev pub are_among : List (K × X) → List (K × X) → Bool
  are_among es others = list_all (λ e. is_present cmp others e.0) es

  -- whether no key of es has an equal one in others
  abbrev pub are_apart : List (K × X) → List (K × X) → Bool
  are_apart es others = list_all (λ e. not (is_present cmp others e.0)) es

  -- es, in which the entries of others whose key is absent are put, one after another
  abbrev pub united : List (K × X) → List (K × X) → List (K × X)
  united es [] = es
  united es (other ∷ others) = united (if is_present cmp es other.0 then es else put cmp es other.0 other.1) others

  -- the entries of es whose key has an equal one in others, or those whose key has none, as `present` says
  abbrev pub kept_from : Bool → List (K × X) → List (K × X) → List (K × X)
  kept_from present es others = filter (λ e. fits present (is_present cmp others e.0)) es

  -- whether that keeps all entries of es: whether each key has an equal one in others, or none has
  abbrev pub keeps_all : Bool → List (K × X) → List (K × X) → Bool
  keeps_all present es others = list_all (λ e. fits present (is_present cmp others e.0)) es

  -- for each entry of es, whether that keeps it, and its value
  abbrev pub kept_of : Bool → List (K × X) → List (K × X) → List (Bool × X)
  kept_of present es others = map (λ e. (fits present (is_present cmp others e.0), e.1)) es

  -- the entries of the tree of `other` whose key is absent in that of h
  abbrev pub new_to : Forest K X → Option ℕ → Option ℕ → List (K × X)
  new_to f h other = kept_from false (list_of f other) (list_of f h)

  -- two handles are live, and both lists increase
  pub record AreSearchable (f : Forest K X) (h other : Option ℕ) : Type 0 where
    pub live : IsLive f h
    pub increasing : IsIncreasing cmp (list_of f h)
    pub other_live : IsLive f other
    pub other_increasing : IsIncreasing cmp (list_of f other)
