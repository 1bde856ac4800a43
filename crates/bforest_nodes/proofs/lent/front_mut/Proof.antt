-- `front_mut` lends the first elements of an array.
use mathlib.Core.Path.{refl}
use Prim.Native.Nat.{◌*◌, ◌^◌, ◌<◌, ◌≤◌}
use mathlib.Core.List.{[], ◌∷◌}
use mir.Syntax.{named, w64}
use mir.MapTy.{inst_fn}
use mir.Val.{vint}
use base.Fml.{ftrue, flft}
use prog.Memory.{size}
use contract.BorrowLft.{◌⊑◌}
use types.Kit.{‵, ◌⊛◌, given, later, some, ◌$◌, ◌∵◌, !, qed, move, keep, drop, split, split3, join, learn, fjoin, use2, await, pick, suffices, frame, done}
use types.Part.{agg}
use types.Run.{stop, addr, and_then, no_more, returns, enter}
use types.ByLocal.{alloc_all, pass_all, free_all, look_at, get, through, sets}
use denote.Builtin.{RefMutOf, usize}
use denote.Exit.{yes, no}
use denote.Param.{number, layout}
use denote.Plain.{uint_vals, uint_Tells}
use denote.Ref.{mut_vals, mut_Tells}
use denote.Signature.{plain}
use denote.Slice.{slice_val}
use denote.Steps.{nothing}
use denote.Triple.Walked.{says, Stays, stay_dropped, walk_of, Goes-dropped, Goes-spent_ref}
use lib.ListN.{take}
use Rattle.std.proofs.raw_atomic.Walks.{proved, leaves}
use Rattle.bforest_nodes.proofs.ArrayMemory.{args, S, Lender, front, lends_front}
use Rattle.bforest_nodes.specs.contracts.lent.front_mut as f
use Rattle.bforest_nodes.proofs.lent.front_mut.Statement.{statement}
use Rattle.bforest_nodes.proofs.lent.front_mut.Code as code

pub front_mut_spec : {M : Type 1} → statement M
front_mut_spec 𝓤 𝓛 𝓜 𝓡 wired X n L fits =
    let T = f.ended X (number n) in
    let c = f.clauses X (number n) 𝓛 𝓜.mem 𝓡.returns in
    let spent = plain (λ _. S X n) in let len = plain (λ _. usize) in
    let stayed : Stays T.signature.params T.kept = (stay_dropped (RefMutOf (0 ∷ []) tt spent (λ _. tt)) no, (stay_dropped len yes, tt)) in
    proved 𝓛 T stayed c 𝓜 𝓡 (Goes-spent_ref 𝓛 3 (0 ∷ []) tt spent, (Goes-dropped 𝓛 3 len yes (λ κs x w. refl), tt))
    (f.Key.name (args X n)) (inst_fn (args X n) code.function) (code.unfolded 𝓤 𝓛.H 𝓜 𝓡 wired (X, (number n, tt)))
    (λ κs. (mut_vals, (uint_vals w64, tt))) (λ κs. (mut_Tells (named 0) κs.0 (S X n), (uint_Tells w64, tt))) (λ κs qs bounds a g are.
    let κ = κs.0 in let q = qs.0 in let b = a.0.ref_ptr.0 in let o = a.0.ref_ptr.1 in let γ = a.0.ghost_name in let xs = a.0.now in let m = a.1.0 in
    let vs = mut_vals a.0 in
    let y : (walk_of 𝓛 T stayed c).Ghost = ((κs, qs, bounds, a, (vs, (vint w64 m ∷ [], tt))), tt) in
    qed 𝓛 (((‵ (flft κ q) ⊛ ‵ (flft κs.1.0 qs.1.0) ⊛ ‵ (flft κs.1.1.0 qs.1.1.0) ⊛ ‵ ftrue) ⊛ ‵ (Lender X n 𝓛 κ q b o γ xs vs) ⊛ ‵ (usize.own_val m (vint w64 m ∷ [])) ⊛ ‵ ftrue)
    ∷ (given (κs.1.0 ⊑ X.lives) (‵ ftrue) ⊛ given (κs.1.1.0 ⊑ []) (‵ ftrue) ⊛ given (n * size (layout X) < 2 ^ 63) (‵ ftrue) ⊛ given (m ≤ n) (‵ ftrue)) ∷ []) ∵
    -- the known facts: the array fits in memory, and the length is within it
    move ! (1 ∷ []) $ split3 ! $ drop ! $ drop ! $ split ! $ learn ! (λ small. drop ! $ learn ! (λ within. drop ! $
    -- [the reference; the token of its lifetime; the other tokens]
    split ! $ split ! $ move ! (2 ∷ []) $ split ! $ keep ! (0 ∷ 2 ∷ 3 ∷ []) $
    enter ! _ _ _ _ _ $ alloc_all ! (λ l. pass_all ! refl ((tt, tt), ((tt, record { fits = are.1.0.1 }), tt)) $
    -- the array's address, and the slice
    sets ! (addr ! (through ! refl (stop !))) refl (tt, tt) $
    sets ! (agg ! (and_then ! (get ! refl) (and_then ! (get ! refl) (no_more !)))) refl (tt, (tt, (record { fits = are.1.0.1 }, tt))) $
    -- the elements are lent
    use2 𝓛 (later (some (front X n 𝓛 κ q b o γ xs m m))) (lends_front X n 𝓛 κ q b o γ xs m within are.1.0.1 small vs) $ await ! tt $ pick ! (λ δ.
    returns ! (look_at ! 0 refl) $ free_all ! refl $
    suffices ! _ (leaves 𝓛 T stayed c y (slice_val (b, o) m) (record { ref_ptr = (b, o); ghost_name = δ; now = take m xs }) (tt, (tt, tt)) (tt, (tt, tt))) $
    -- the tokens, nothing of the parameters, the slice, and the final value of the array
    split3 ! $ move ! (1 ∷ 3 ∷ []) $ join ! $ frame ! $ nothing ! $ nothing ! $ fjoin ! $ nothing ! $ fjoin ! $ frame ! $ frame ! $ says ! refl $ done !)))))
