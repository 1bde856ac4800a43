-- The entries of a list whose key is absent in another: how many there are, and the union where there is one.
use Rattle.bforest_core.proofs.walks.LeafSearch.{some-mapped}
use Rattle.bforest_nodes.proofs.Lookups.{value_for-put_other}
use Rattle.bforest_nodes.specs.Entries.{IsIncreasing, is_present, put}
use Rattle.bforest_trees.proofs.unions.Merging.{Seeking, first-below, rest-up, united-same}
use Rattle.bforest_trees.specs.Merge.{new_entries}
use Rattle.bforest_trees.specs.Union.{are_among, fits, kept_from, united}
use Rattle.bforest_trees.specs.declared.trees.unite.NewEntries.TheVariants.{More, One, Zero}
use Rattle.bforest_trees.specs.declared.trees.unite.NewEntries.{NewEntries}
use Rattle.std.proofs.Common.{Bool, List, None, Option, Some, [], ap, arith, false, if◌then◌else◌, length, refl, sym, true, ◌++◌, ◌<◌, ◌∙◌, ◌∷◌, ◌≡◌, ◌&&◌}
use Rattle.std.specs.Cmp.{IsTotalOrder}
use Rattle.std.specs.List.{AllByRecursion}
use Rattle.std.specs.Map.{keys_of}
use Rattle.std.specs.Option.{is_some}
use Rattle.std.specs.Ordering.{is_eq}
use Rattle.std.specs.declared.cmp.Ordering.TheVariants.{Less}
use Rattle.std.specs.declared.cmp.Ordering.{Ordering}

module _ {K X : Type 0} where
  -- what a count tells of the list that it is of
  pub new-zero : (es : List (K × X)) → new_entries es ≡ Zero → es ≡ []
  new-zero [] is = refl
  new-zero (e ∷ []) is = absurd (cc)
  new-zero (e ∷ d ∷ es) is = absurd (cc)

  pub new-one : (es : List (K × X)) (k : K) (x : X) → new_entries es ≡ One k x → es ≡ (k, x) ∷ []
  new-one [] k x is = absurd (cc)
  new-one (e ∷ []) k x is = let key : e.0 ≡ k = cc in let value : e.1 ≡ x = cc in λ i. (key i, value i) ∷ []
  new-one (e ∷ d ∷ es) k x is = absurd (cc)

  pub new-more : (es : List (K × X)) → new_entries es ≡ More → 1 < length es
  new-more [] is = absurd (cc)
  new-more (e ∷ []) is = absurd (cc)
  new-more (e ∷ d ∷ es) is = omega arith

  -- where two entries were seen, those behind them tell nothing more
  more-behind : (seen rest : List (K × X)) → new_entries seen ≡ More → new_entries (seen ++ rest) ≡ More
  more-behind [] rest is = absurd (cc)
  more-behind (e ∷ []) rest is = absurd (cc)
  more-behind (e ∷ d ∷ seen) rest is = refl

  pub seeking-more : {cmp : K → K → Ordering} {es others rest others_rest : List (K × X)} {new : NewEntries K X} → Seeking cmp es others new rest others_rest → new ≡ More → new ≡ new_entries (kept_from cmp false others es)
  seeking-more c is = is ∙ sym (ap new_entries c.whole ∙ more-behind c.seen _ (sym c.new_is ∙ is))

  -- whether a list has no entry
  abbrev none_of : List (K × X) → Bool
  none_of [] = true
  none_of (e ∷ es) = false

-- an entry that is returned is new, and one that is not is old
pub returned : {A : Type 0} (b : Bool) (a d : A) → Some d ≡ (if b then Some a else None) → (b ≡ true) × (a ≡ d)
returned true a d is = (refl, let same : d ≡ a = cc in sym same)
returned false a d is = absurd (cc)

pub not-returned : {A : Type 0} (b : Bool) (a : A) → None ≡ (if b then Some a else None) → b ≡ false
not-returned true a is = absurd (cc)
not-returned false a is = refl

module _ {K X : Type 0} (cmp : K → K → Ordering) where
  -- all keys of a list are among others where none of its entries is new to them
  among-is : (es others : List (K × X)) → are_among cmp others es ≡ none_of (kept_from cmp false others es)
  among-is es [] = refl
  among-is es (x ∷ others) = go (is_present cmp es x.0) (among-is es others)
    where
      go : (b : Bool) → are_among cmp others es ≡ none_of (kept_from cmp false others es)
          → (b && are_among cmp others es) ≡ none_of (if fits false b then x ∷ kept_from cmp false others es else kept_from cmp false others es)
      go true rest = rest
      go false rest = refl

  pub none-new : (es others : List (K × X)) → kept_from cmp false others es ≡ [] → are_among cmp others es ≡ true
  none-new es others none = among-is es others ∙ ap none_of none

  pub some-new : (es others : List (K × X)) → 0 < length (kept_from cmp false others es) → are_among cmp others es ≡ false
  some-new es others some = among-is es others ∙ go (kept_from cmp false others es) some
    where
      go : (new : List (K × X)) → 0 < length new → none_of new ≡ false
      go [] low = absurd (omega (arith, low))
      go (e ∷ new) low = refl

  module _ (o : IsTotalOrder cmp) where
    -- a greater key is present where it was before a key was put in
    present-beside : (es : List (K × X)) (k : K) (x : X) (q : K) → IsIncreasing cmp es → cmp k q ≡ Less → is_present cmp (put cmp es k x) q ≡ is_present cmp es q
    present-beside es k x q up less =
        let is_value = λ (f : Option (K × X)). some-mapped (λ (e : K × X). e.1) f in sym (is_value _) ∙ ap is_some (value_for-put_other cmp o k q x (ap is_eq less) es up) ∙ is_value _

    -- greater keys stay among the others
    among-beside : (es others : List (K × X)) (e : K × X) → IsIncreasing cmp es → AllByRecursion (λ y. cmp e.0 y ≡ Less) (keys_of others) → are_among cmp others (put cmp es e.0 e.1) ≡ are_among cmp others es
    among-beside es [] e up below = refl
    among-beside es (x ∷ others) e up below =
        ap (λ b. b && are_among cmp others (put cmp es e.0 e.1)) (present-beside es e.0 e.1 x.0 up below.0) ∙ ap (λ b. is_present cmp es x.0 && b) (among-beside es others e up below.1)

    -- the union where one entry is new
    pub united-one : (es others : List (K × X)) → IsIncreasing cmp es → IsIncreasing cmp others → (e : K × X) → kept_from cmp false others es ≡ e ∷ []
        → (united cmp es others ≡ put cmp es e.0 e.1) × (is_present cmp es e.0 ≡ false)
    united-one es [] up others_up e is = absurd (cc)
    united-one es (x ∷ others) up others_up e is = go (is_present cmp es x.0) refl is (λ still. united-one es others up (rest-up cmp o x others others_up) e still)
      where
        go : (b : Bool) → is_present cmp es x.0 ≡ b → (if fits false b then x ∷ kept_from cmp false others es else kept_from cmp false others es) ≡ e ∷ []
            → (kept_from cmp false others es ≡ e ∷ [] → (united cmp es others ≡ put cmp es e.0 e.1) × (is_present cmp es e.0 ≡ false))
            → (united cmp (if is_present cmp es x.0 then es else put cmp es x.0 x.1) others ≡ put cmp es e.0 e.1) × (is_present cmp es e.0 ≡ false)
        go true t is rest = (ap (λ b. united cmp (if b then es else put cmp es x.0 x.1) others) t ∙ (rest is).0, (rest is).1)
        go false t is rest =
            let same : x ≡ e = cc in
            let none : kept_from cmp false others es ≡ [] = cc in (
              ap (λ b. united cmp (if b then es else put cmp es x.0 x.1) others) t
                  ∙ united-same cmp (put cmp es x.0 x.1) others (among-beside es others x up (first-below cmp o x others others_up) ∙ none-new es others none)
                  ∙ ap (λ z. put cmp es z.0 z.1) same,
              ap (λ z. is_present cmp es z.0) (sym same) ∙ t,
            )
