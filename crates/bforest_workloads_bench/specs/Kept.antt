-- What maps and sets of numbers keep from call to call.
use Rattle.bforest.specs.Entries.{IsIncreasing}
use Rattle.bforest.specs.Forest.{Forest, IsLive, list_of}
use Rattle.std.specs.Ordering.{nat_cmp}
use Rattle.std.specs.Prelude.{List, None, Option, Some, get_or, ◌≡◌, ℕ}

-- a handle is live, and its keys increase
pub record IsOrdered {X : Type 0} (f : Forest ℕ X) (h : Option ℕ) : Type 0 where
  pub live : IsLive f h
  pub increasing : IsIncreasing nat_cmp (list_of f h)

-- each of the handles is live with keys that increase, and no two have one number
pub record AreOrdered {X : Type 0} (f : Forest ℕ X) (hs : List (Option ℕ)) : Type 0 where
  pub each : (i : ℕ) → IsOrdered f (get_or hs i None)
  pub apart : (i j n : ℕ) → get_or hs i None ≡ Some n → get_or hs j None ≡ Some n → i ≡ j
