-- Words without the mark of a bound.
use Rattle.bforest_run.specs.Numbers.{number_of}
use Rattle.bforest_run.specs.Words.{Word, bound_of}
use Rattle.std.proofs.Common.{Bool, List, None, [], ap, bytes_eq, codes, false, if◌then◌else◌, option_map, refl, Some, true, ◌==◌, ◌∷◌, ◌≡◌, ◌≢◌, ℕ}
use Rattle.std.specs.declared.ops.Bound.TheVariants.{Excluded, Included, Unbounded}
use borrow.Author.Tests.{eqb-true}

-- a word without a mark is no bound
pub no_bound : (word : Word) → bytes_eq word (codes "-") ≡ false → ((rest : List ℕ) → word ≢ 61 ∷ rest) → ((rest : List ℕ) → word ≢ 33 ∷ rest) → None ≡ bound_of word
no_bound [] dash included excluded = refl
no_bound (mark ∷ key) dash included excluded = go (bytes_eq (mark ∷ key) (codes "-")) dash (mark == 61) refl (mark == 33) refl
  where
    go : (d : Bool) → d ≡ false → (i : Bool) → (mark == 61) ≡ i → (e : Bool) → (mark == 33) ≡ e → None ≡ (if d then Some Unbounded else if i then option_map Included (number_of key) else if e then option_map Excluded (number_of key) else None)
    go true d i is e es = absurd (cc)
    go false d true is e es = absurd (included key (ap (λ m. m ∷ key) (eqb-true mark 61 is)))
    go false d false is true es = absurd (excluded key (ap (λ m. m ∷ key) (eqb-true mark 33 es)))
    go false d false is false es = refl
