-- What contracts see of a symbol table: its open scopes, the innermost first, and the room that was made for it.
use Rattle.bforest.specs.Entries.{is_present, put, put_all, value_for}
use Rattle.bforest_indexed.specs.Indexed.{HasRoom, Indexed, count, entries, stack, table}
use Rattle.std.specs.List.{AllByRecursion}
use Rattle.std.specs.Option.{option_or}
use Rattle.std.specs.Ordering.{nat_cmp}
use Rattle.std.specs.Prelude.{List, None, Option, [], false, length, ◌+◌, ◌<◌, ◌∷◌, ◌≡◌, ◌≤◌, ℕ}

-- the definitions of a scope: the meaning of each name, in the order of the names
abbrev pub Scope : Type 0
Scope = List (ℕ × ℕ)

-- the open scopes, the innermost first; how many scopes there may be, and for how many names in each there is room
pub record Symbols : Type 0 where
  pub scopes : List Scope
  pub most_scopes : ℕ
  pub most_names : ℕ

-- the meaning of a name: that of the innermost scope that defines it
abbrev pub meaning : List Scope → ℕ → Option ℕ
meaning [] name = None
meaning (scope ∷ outer) name = option_or (value_for nat_cmp scope name) (meaning outer name)

-- the scopes with a definition in the innermost one
abbrev pub with_definition : List Scope → ℕ → ℕ → List Scope
with_definition [] name is = []
with_definition (scope ∷ outer) name is = put nat_cmp scope name is ∷ outer

-- the scopes with some definitions in the innermost one, the first of which is made first
abbrev pub with_all : List Scope → List (ℕ × ℕ) → List Scope
with_all [] definitions = []
with_all (scope ∷ outer) definitions = put_all nat_cmp scope definitions ∷ outer

-- the innermost scope
abbrev pub innermost : List Scope → Scope
innermost [] = []
innermost (scope ∷ outer) = scope

-- no scope has more names than there is room for
abbrev pub IsWithinRoom : Symbols → Type 0
IsWithinRoom s = AllByRecursion (λ scope. length scope ≤ s.most_names) s.scopes

-- a definition of a name stays within the room: the innermost scope defines it, or has fewer names than there is room for
pub record HasRoomFor (s : Symbols) (name : ℕ) : Type 0 where
  pub each : IsWithinRoom s
  pub here : is_present nat_cmp (innermost s.scopes) name ≡ false → length (innermost s.scopes) < s.most_names

-- this number of definitions stays within the room
pub record HasRoomForAll (s : Symbols) (definitions : ℕ) : Type 0 where
  pub each : IsWithinRoom s
  pub here : length (innermost s.scopes) + definitions ≤ s.most_names

-- what contracts see of a table whose scopes are the first `depth` of some maps
abbrev pub seen : Indexed ℕ ℕ (Unit {0}) → ℕ → ℕ → ℕ → Symbols
seen maps depth most_scopes most_names = record { scopes = stack maps depth; most_scopes = most_scopes; most_names = most_names }

-- the invariant: there is a map for each scope that there may be, those past the depth are empty, and there is room
pub record AreKept (maps : Indexed ℕ ℕ (Unit {0})) (depth most_scopes most_names : ℕ) : Type 0 where
  pub within : depth ≤ most_scopes
  pub maps_are : count maps ≡ most_scopes
  pub unused : (i : ℕ) → depth ≤ i → entries maps i ≡ []
  pub room : HasRoom 7 most_scopes most_names (table maps)
