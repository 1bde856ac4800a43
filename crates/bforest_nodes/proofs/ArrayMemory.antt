-- A `&mut [T; N]` lends an element or its first elements, which determine the final value of the array.
use mathlib.Core.Path.{◌≡◌, refl, sym, ap, ◌∙◌}
use Prim.Native.Nat.{ℕ, zero, suc, ◌+◌, ◌*◌, ◌^◌, ◌<◌, ◌≤◌}
use native.Mathlib.Nat.{mul-le-mul_right}
use native.Mathlib.Omega.{arith}
use mathlib.Core.List.{List, [], ◌∷◌, ◌++◌}
use lib.ListN.{length, get_or, set, take, drop as drop_list, take-append-drop, length-set}
use seplogic.Ra.Ura.{Ura}
use mir.Syntax.{Args, a_type, a_number, named}
use mir.Val.{Val, vptr}
use base.Logic.{SProp, ent, sep, all, all_e, wand, apply∗, guard}
use base.Fraction.{full_share}
use base.Fml.{Lft, GName, Share, Fml, fsep, feq, flft, fobs, fbor}
use prog.Memory.{size}
use types.Logic.{Logic, sem}
use types.Kit.{Item, ‵, ◌⊛◌, raw, given, some, later, mean, ◌$◌, ◌∵◌, !, qed, by, move, drop, split, split3, fsplit, fsplit3, fjoin, fjoin3, use1, use2, learn, await, pick, group, updating, now, show, check, rewrite, feq_l, feq_i, done}
use types.SemTy.{cells, Body}
use types.Follow.{takes_part}
use types.Mut.{open_ref}
use denote.Array.{Array}
use denote.ArrayMemory.{Array-apart, Array-whole}
use denote.Follow.{follows}
use denote.FollowSlice.{lends_Elements}
use denote.Index.{row, whole_in, whole_out}
use denote.Memory.{mem, part_at}
use denote.Param.{param, number, layout, layouts, ArrayAt}
use denote.RattleType.{RattleType}
use denote.Ref.{MutRef}
use denote.Slice.{MutSlice, slice_val}
use borrow.Table.Elements.{at, at_mul, focus_any, cut_app, join_app, length-take-le, same_len}
use Rattle.std.specs.Prelude.{slice_get, Some}

-- an index within a list has an element
found : {X : Type 0} (xs : List X) (m : ℕ) → m < length xs → (x : X) × (slice_get xs m ≡ Some x) × (get_or xs m x ≡ x)
found [] m lt = absurd (omega arith)
found (x ∷ xs) zero lt = (x, refl, refl)
found (x ∷ xs) (suc m) lt = found xs m (omega arith)

module _ (X : RattleType) (n : ℕ) where
  abbrev pub args : Args
  args = layouts (a_type ∷ a_number ∷ []) (X, (number n, tt))

  -- the type of an element, and of the array
  abbrev pub R : RattleType
  R = param 0 X

  abbrev pub S : RattleType
  S = ArrayAt R (param 1 (number n))

module _ (X : RattleType) (n : ℕ) {M : Type 1} {𝓤 : Ura M} (𝓛 : Logic 𝓤) (κ : Lft) (q : Share) (b o : ℕ) (γ : GName) (xs : List X.Denot) where
  open 𝓛 use {H, A}

  abbrev elements : List X.Denot → Fml
  elements ws = cells (mem (R X n)) ws b o

  -- the array is its elements side by side, and they are the array
  out : ent 𝓤 (sem 𝓛 ((mem (S X n)).own_at xs b o)) (guard 𝓤 (length xs ≡ n) (sem 𝓛 (elements xs)))
  out = qed 𝓛 (‵ (part_at (Array (R X n) n) full_share xs b o) ∷ []) ∵
      use1 𝓛 (‵ (fsep (feq ℕ (length xs) n) (row (R X n) full_share xs b o))) (Array-apart 𝓛 (R X n) full_share tt n xs b o) $ fsplit ! $ feq_l ! (λ long.
      use1 𝓛 (‵ (elements xs)) (whole_in 𝓛 (R X n) xs b o) $ check ! long $ done !)

  in_again : (ws : List X.Denot) → length ws ≡ n → ent 𝓤 (sem 𝓛 (elements ws)) (sem 𝓛 ((mem (S X n)).own_at ws b o))
  in_again ws long = qed 𝓛 (‵ (elements ws) ∷ []) ∵ use1 𝓛 (‵ (row (R X n) full_share ws b o)) (whole_out 𝓛 (R X n) ws b o) $
      feq_i ! ℕ (length ws) n long $ fjoin ! $ by ! (Array-whole 𝓛 (R X n) full_share n ws b o)

  -- what the `&mut` to the array owns
  abbrev pub Lender : List Val → Fml
  Lender vs = (MutRef (named 0) κ (S X n)).own_val (record { ref_ptr = (b, o); ghost_name = γ; now = xs }) vs

  module _ (m : ℕ) where
    -- the address of element m, and a value there
    abbrev pub spot : ℕ
    spot = m * size (layout X) + o

    abbrev There : X.Denot → ℕ → Fml
    There x p = (mem (R X n)).own_at x b p

    abbrev place : ℕ
    place = at o (mem (R X n)).size m

    -- the other elements, as what gives the array back from a value of this one
    abbrev Way : X.Denot → SProp 𝓤
    Way x = wand 𝓤 (sem 𝓛 (There x place)) (sem 𝓛 (elements (set xs m x)))

    back : length xs ≡ n → (x : X.Denot) → ent 𝓤 (sep 𝓤 (sem 𝓛 (There x spot)) (all 𝓤 Way)) (sem 𝓛 ((mem (S X n)).own_at (set xs m x) b o))
    back long x = qed 𝓛 (‵ (There x spot) ∷ raw (all 𝓤 Way) ∷ []) ∵
        rewrite ! 0 (λ (p : ℕ). ‵ (There x p)) (sym (at_mul o (mem (R X n)).size m)) refl $ move ! (1 ∷ []) $
        use1 𝓛 (raw (Way x)) (all_e 𝓤 Way x) $ move ! (1 ∷ 0 ∷ []) $
        use2 𝓛 (‵ (elements (set xs m x))) (apply∗ 𝓤 (sem 𝓛 (There x place)) (sem 𝓛 (elements (set xs m x)))) $
        by ! (in_again (set xs m x) (length-set xs m x ∙ long))

    -- the element x, lent under the name δ; the token; the final value of the array
    abbrev pub element : X.Denot → GName → Item 𝓤
    element x δ = ‵ ((MutRef (named 0) κ (R X n)).own_val (record { ref_ptr = (b, spot); ghost_name = δ; now = x }) (vptr b spot ∷ []))
        ⊛ ‵ (flft κ q) ⊛ ‵ (follows (S X n) (R X n) γ δ (set xs m))

    abbrev pub read_and_lent : X.Denot → Item 𝓤
    read_and_lent x = given (slice_get xs m ≡ Some x) (some (element x))

    pub lends_element : m < n → (vs : List Val) → ent 𝓤 (sep 𝓤 (sem 𝓛 (Lender vs)) (A.lft κ q)) (H.⇛ (mean 𝓛 (some read_and_lent)))
    lends_element within vs =
        qed 𝓛 (‵ (Lender vs) ∷ ‵ (flft κ q) ∷ []) ∵ updating ! $ fsplit3 ! $ drop ! $ open_ref ! tt (mem (S X n)) {b = b} {o = o} $
        use1 𝓛 (given (length xs ≡ n) (‵ (elements xs))) out $ learn ! (λ long.
        let it = found xs m (omega arith) in
        let x : X.Denot = it.0 in
        use1 𝓛 (‵ (There (get_or xs m x) place) ⊛ raw (all 𝓤 Way)) (focus_any 𝓛 (mem (R X n)) x m xs b o (omega arith)) $ split ! $
        rewrite ! 0 (λ (y : X.Denot). ‵ (There y place)) it.2 refl $ rewrite ! 0 (λ (p : ℕ). ‵ (There x p)) (at_mul o (mem (R X n)).size m) refl $
        move ! (2 ∷ 3 ∷ 4 ∷ 0 ∷ 1 ∷ []) $ group ! 5 $
        use1 𝓛 (later (some (λ (δ : GName). ‵ (fobs δ ((R X n).coded.code x)) ⊛ ‵ (fbor κ (Body (mem (R X n)) b spot δ)) ⊛ ‵ (flft κ q) ⊛ ‵ (follows (S X n) (R X n) γ δ (set xs m)))))
        (takes_part 𝓛 (mem (S X n)) (mem (R X n)) (set xs m) κ q b o b spot γ (all 𝓤 Way) (back long) ((S X n).coded.code xs) ((S X n).coded.code xs) x) $
        await ! tt $ pick ! (λ δ. split3 ! $ feq_i ! (List Val) (vptr b spot ∷ []) (vptr b spot ∷ []) refl $ fjoin3 ! $
        now ! $ show ! (λ y. mean 𝓛 (read_and_lent y)) x $ check ! it.1 $ show ! (λ z. mean 𝓛 (element x z)) δ $ done !))

  module _ (m : ℕ) where
    abbrev first : List X.Denot
    first = take m xs

    abbrev rest : List X.Denot
    rest = drop_list m xs

    -- the array with a list over its first elements
    abbrev pub over : List X.Denot → List X.Denot
    over ws = ws ++ drop_list (length ws) xs

    abbrev after : ℕ → Fml
    after k = cells (mem (R X n)) rest b (at o (mem (R X n)).size k)

    joins : m ≤ n → length xs ≡ n → (ws : List X.Denot) → length ws ≡ length first → ent 𝓤 (sep 𝓤 (sem 𝓛 (elements ws)) (sem 𝓛 (after (length first)))) (sem 𝓛 ((mem (S X n)).own_at (over ws) b o))
    joins within long ws e =
        let count : length ws ≡ m = e ∙ length-take-le m xs (omega arith) in
        qed 𝓛 (‵ (elements ws) ∷ ‵ (after (length first)) ∷ []) ∵
        rewrite ! 1 (λ (k : ℕ). ‵ (after k)) (sym e) refl $
        use2 𝓛 (‵ (elements (ws ++ rest))) (join_app 𝓛 (mem (R X n)) ws rest b o) $
        rewrite ! 0 (λ (k : ℕ). ‵ (elements (ws ++ drop_list k xs))) (sym count) refl $
        by ! (in_again (over ws) (ap (λ (k : ℕ). length (ws ++ drop_list k xs)) count ∙ same_len m xs ws e ∙ long))

    -- the first m elements, lent under the name δ; the token; the final value of the array
    abbrev pub front : ℕ → GName → Item 𝓤
    front k δ = ‵ ((MutSlice (named 0) κ (R X n)).own_val (record { ref_ptr = (b, o); ghost_name = δ; now = first }) (slice_val (b, o) k ∷ []))
        ⊛ ‵ (flft κ q) ⊛ ‵ (follows (S X n) (Array (R X n) 0) γ δ over)

    pub lends_front : m ≤ n → m < 2 ^ 64 → n * size (layout X) < 2 ^ 63 → (vs : List Val) → ent 𝓤 (sep 𝓤 (sem 𝓛 (Lender vs)) (A.lft κ q)) (H.⇛ (mean 𝓛 (some (front m))))
    lends_front within word small vs =
        qed 𝓛 (‵ (Lender vs) ∷ ‵ (flft κ q) ∷ []) ∵ updating ! $ fsplit3 ! $ drop ! $ open_ref ! tt (mem (S X n)) {b = b} {o = o} $
        use1 𝓛 (given (length xs ≡ n) (‵ (elements xs))) out $ learn ! (λ long.
        let count : length first ≡ m = length-take-le m xs (omega arith) in
        let bytes : length first * size (layout X) ≤ n * size (layout X) = mul-le-mul_right (size (layout X)) (omega arith) in
        rewrite ! 0 (λ (l : List X.Denot). ‵ (elements l)) (sym (take-append-drop m xs)) refl $
        use1 𝓛 (‵ (elements first) ⊛ ‵ (after (length first))) (cut_app 𝓛 (mem (R X n)) first rest b o) $ split ! $ move ! (2 ∷ 3 ∷ 4 ∷ 0 ∷ 1 ∷ []) $ group ! 5 $
        use1 𝓛 (later (some (front (length first))))
        (lends_Elements 𝓛 (S X n) (R X n) over (named 0) κ q b o b o γ first (omega arith, omega arith) (sem 𝓛 (after (length first))) (joins within long) ((S X n).coded.code xs) ((S X n).coded.code xs)) $
        await ! tt $ pick ! (λ δ. rewrite ! 0 (λ (k : ℕ). front k δ) count refl $ now ! $ show ! (λ z. mean 𝓛 (front m z)) δ $ done !))
