-- Two handles that may be searched.
use Rattle.bforest.specs.Forest.{Forest, IsSearchable}
use Rattle.bforest_trees.specs.Union.{AreSearchable}
use Rattle.std.specs.Prelude.{Option, ℕ}
use Rattle.std.specs.declared.cmp.Ordering.{Ordering}

-- what each asks by itself, in the one word of `bforest_trees`
pub both-searchable : {K X : Type 0} {cmp : K → K → Ordering} {f : Forest K X} {h other : Option ℕ} → IsSearchable cmp f h → IsSearchable cmp f other → AreSearchable cmp f h other
both-searchable one two = record { live = one.live; increasing = one.increasing; other_live = two.live; other_increasing = two.increasing }
