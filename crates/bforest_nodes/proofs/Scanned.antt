-- A scan of a row from the right for the least index, after the first, whose key passes a test.
use Rattle.std.proofs.Common.{◌≡◌, ◌≢◌, ℕ, suc, ◌+◌, ◌<◌, Bool, List, get_or}

module _ {K : Type 0} (test : K → Bool) (low high : Bool) (row : List K) (end : ℕ) where
  -- the `back - 2` keys before the last one in front of the end were tested: `at` is the least that answers high, or else the last
  pub record Scanning (at back : ℕ) : Type 0 where
    pub within : at < end
    pub beyond : end < at + back
    pub before : (j : ℕ) (d : K) → end < j + back → j < at → test (get_or row j d) ≡ low
    pub here : (d : K) → suc at ≢ end → test (get_or row at d) ≡ high
