-- What the arguments of the program ask for.
use Rattle.bforest_run.specs.Numbers.{number_of}
use Rattle.bforest_run.specs.Words.{Word, row_of}
use Rattle.bforest_run.specs.declared.text.Kind.TheVariants.{Books, Map, Set}
use Rattle.bforest_run.specs.declared.text.Kind.{Kind}
use Rattle.std.specs.Prelude.{List, None, Option, Some, [], bytes_eq, codes, if◌then◌else◌, option_and_then, option_map, ◌∷◌, ℕ}

-- the subject that a word names
abbrev pub kind_of : Word → Option Kind
kind_of word = row_of ((codes "map", Map) ∷ (codes "set", Set) ∷ []) word

-- the greatest number, which limits nothing
abbrev pub no_limit : ℕ
no_limit = 4294967295

-- the number behind a subject: that of resources, or the limit on nodes
abbrev pub numbered_by : Word → ℕ → Option (Kind × ℕ)
numbered_by kind n = if bytes_eq kind (codes "books") then Some (Books n, no_limit) else option_map (λ k. (k, n)) (kind_of kind)

-- the subject and the limit on nodes that the arguments name
abbrev pub asked_by : List Word → Option (Kind × ℕ)
asked_by [] = Some (Map, no_limit)
asked_by (kind ∷ []) = option_map (λ k. (k, no_limit)) (kind_of kind)
asked_by (kind ∷ given ∷ []) = option_and_then (numbered_by kind) (number_of given)
asked_by (kind ∷ given ∷ more ∷ rest) = None
