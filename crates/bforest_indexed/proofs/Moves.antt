-- A key that is moved from one index to another: its insertion, and then its removal.
use Rattle.bforest.specs.Entries.{cut, is_present, place, put, value_for}
use Rattle.bforest.specs.Forest.{shrink}
use Rattle.bforest.specs.Refusal.{Full, Memory, OutOfMemory}
use Rattle.bforest.specs.Room.{node_count}
use Rattle.bforest.specs.Set.{the_value}
use Rattle.bforest_indexed.proofs.Kept.{ok-err}
use Rattle.bforest_indexed.specs.Indexed.{ChangesAt, Indexed, InsertsAt, MovesAt, RemovesAt, entries, node_sizes}
use Rattle.bforest_core.proofs.walks.LeafSearch.{some-mapped}
use Rattle.std.proofs.Common.{Bool, Err, List, None, Ok, Option, Some, ap, arith, false, if◌then◌else◌, inl, inr, refl, remove, subst, sym, true, ◌∙◌, ◌≡◌, ◌≢◌, ℕ}
use Rattle.std.proofs.lemmas.Bool.Decides.{eqb_tells}
use Rattle.std.specs.Option.{is_some}
use Rattle.std.specs.Ordering.{is_eq}
use Rattle.std.specs.declared.cmp.Ordering.{Ordering}

module _ {K X : Type 0} (cmp : K → K → Ordering) (es : List (K × X)) (k : K) where
  present-is : is_present cmp es k ≡ is_some (value_for cmp es k)
  present-is = sym (some-mapped (λ (e : K × X). e.1) _)

  not-here : {P : Type 0} → is_present cmp es k ≡ false → is_present cmp es k ≡ true → P
  not-here none here = absurd (let bad : true ≡ false = sym here ∙ none in cc)

-- where one list changed, and there the value of the key k alone, each other key has the value that it had, at each index
other-keys : {K X C : Type 0} (cmp : K → K → Ordering) (k : K) {m m' : Indexed K X C} {i : ℕ} → ChangesAt m i m'
    → ((q : K) → is_eq (cmp k q) ≡ false → value_for cmp (entries m' i) q ≡ value_for cmp (entries m i) q)
    → (n : ℕ) (q : K) → is_eq (cmp k q) ≡ false → value_for cmp (entries m' n) q ≡ value_for cmp (entries m n) q
other-keys cmp k {m} {m'} {i} beside same n q apart = elim (eqb_tells n i) [
  | inl w ↦ subst (λ z. value_for cmp (entries m' z) q ≡ value_for cmp (entries m z) q) (sym w.1) (same q apart)
  | inr w ↦ ap (λ es. value_for cmp es q) (beside.others n w.1)
]

-- a set's key has the value that all have
pub the-value : (found : Option (Unit {0})) → is_some found ≡ true → found ≡ Some the_value
the-value None is = absurd (cc)
the-value (Some x) is = refl

pub no-value : {X : Type 0} (found : Option X) → is_some found ≡ false → found ≡ None
no-value None is = refl
no-value (Some x) is = absurd (cc)

module _ {K X C : Type 0} {most : ℕ} {cmp : K → K → Ordering} {m : Indexed K X C} {i j : ℕ} {k : K} where
  -- nothing is done where the key is absent, or both are one index
  moves-not : {moved : Bool} → moved ≡ is_present cmp (entries m i) k → (i ≢ j → value_for cmp (entries m i) k ≡ None) → MovesAt most cmp m i k j (Ok moved) m
  moves-not told gone = let none = λ (ne : i ≢ j). present-is cmp (entries m i) k ∙ ap is_some (gone ne) in record {
    found = told;
    put = λ ne x here. absurd (let bad : None ≡ Some x = sym (gone ne) ∙ here in cc);
    put_sizes = λ ne here. not-here cmp (entries m i) k (none ne) here;
    cut = λ ne. sym (ap (λ b. if b then remove (entries m i) (place cmp (entries m i) k) else entries m i) (none ne));
    cut_sizes = λ ne. sym (ap (λ b. if b then shrink most (place cmp (entries m i) k) (node_sizes m i) else node_sizes m i) (none ne));
    arrived = λ ne x here. absurd (let bad : None ≡ Some x = sym (gone ne) ∙ here in cc);
    gone = gone;
    other_keys = λ n q ne. refl;
    others = λ q ne ne'. refl;
    other_sizes = λ q ne ne'. refl;
    same_count = refl;
    same_comparator = refl;
    same_limit = refl;
    same_memory = refl;
    same_one = λ one. refl;
    absent = λ gone. refl;
    slots = λ ne here. not-here cmp (entries m i) k (none ne) here;
    free = λ ne here. not-here cmp (entries m i) k (none ne) here;
    growth = λ ne here. not-here cmp (entries m i) k (none ne) here;
    full = (λ bad. absurd (ok-err _ Full bad), λ asked. not-here cmp (entries m i) k (none asked.0) asked.1);
    memory = λ bad. absurd (cc);
    succeeds = λ enough. refl;
    room = λ lists most_entries stays room. refl;
    never_full = λ lists most_entries stays room bad. absurd (ok-err _ Full bad);
    refused = tt;
  }

  pub moves-absent : value_for cmp (entries m i) k ≡ None → MovesAt most cmp m i k j (Ok false) m
  moves-absent none = moves-not (sym (present-is cmp (entries m i) k ∙ ap is_some none)) (λ ne. none)

  pub moves-one : {x : X} → value_for cmp (entries m i) k ≡ Some x → i ≡ j → MovesAt most cmp m i k j (Ok true) m
  moves-one value one = moves-not (sym (present-is cmp (entries m i) k ∙ ap is_some value)) (λ ne. absurd (ne one))

  module _ {x : X} (value : value_for cmp (entries m i) k ≡ Some x) (apart : i ≢ j) {m1 : Indexed K X C} where
    -- the insertion was refused
    pub moves-refused : {refused : OutOfMemory} → InsertsAt most cmp m j k x (Err refused) m1 → MovesAt most cmp m i k j (Err refused) m1
    moves-refused {refused} t = let here = present-is cmp (entries m i) k ∙ ap is_some value in record {
      found = tt;
      put = λ ne x here. tt;
      put_sizes = λ ne here. tt;
      cut = λ ne. tt;
      cut_sizes = λ ne. tt;
      arrived = λ ne. tt;
      gone = λ ne. tt;
      other_keys = λ n q ne. ap (λ z. value_for cmp (entries z n) q) t.refused;
      others = λ q ne ne'. t.beside.others q ne';
      other_sizes = λ q ne ne'. t.beside.other_sizes q ne';
      same_count = t.beside.same_count;
      same_comparator = t.beside.same_comparator;
      same_limit = t.beside.same_limit;
      same_memory = t.beside.same_memory;
      same_one = λ one. t.refused;
      absent = λ gone. t.refused;
      slots = λ ne here. tt;
      free = λ ne here. tt;
      growth = λ ne here. tt;
      full = (
        λ e. (apart, here, t.full.0 (let alike : refused ≡ Full = cc in ap Err alike)),
        λ asked. let full = t.full.1 asked.2 in let alike : refused ≡ Full = cc in ap Err alike,
      );
      memory = λ e. (apart, here, t.memory (let alike : refused ≡ Memory = cc in ap Err alike));
      succeeds = t.succeeds;
      room = t.room;
      never_full = λ lists most_entries stays room e. t.never_full lists most_entries stays room (let alike : refused ≡ Full = cc in ap Err alike);
      refused = t.refused;
    }

    -- the key was inserted at the second index, and then removed at the first
    pub moves : {old gone : Option X} {m2 : Indexed K X C} → InsertsAt most cmp m j k x (Ok old) m1 → RemovesAt most cmp m1 i k gone m2 → MovesAt most cmp m i k j (Ok true) m2
    moves {old} t r =
        let here = present-is cmp (entries m i) k ∙ ap is_some value in
        let list = t.beside.others i apart in
        let sizes = t.beside.other_sizes i apart in
        let back : j ≢ i = λ e. apart (sym e) in record {
          found = sym here;
          put = λ ne y is. r.beside.others j back ∙ t.put ∙ (let alike : x ≡ y = (let two = sym value ∙ is in cc) in ap (λ z. put cmp (entries m j) k z) alike);
          put_sizes = λ ne is. r.beside.other_sizes j back ∙ t.sizes;
          cut = λ ne. r.cut ∙ ap (λ es. cut cmp es k) list;
          cut_sizes = λ ne. r.sizes ∙ (λ z. if is_present cmp (list z) k then shrink most (place cmp (list z) k) (sizes z) else sizes z);
          arrived = λ ne y is. ap (λ es. value_for cmp es k) (r.beside.others j back) ∙ t.found ∙ sym value ∙ is;
          gone = λ ne. r.gone;
          other_keys = λ n q ne. other-keys cmp k r.beside r.others n q ne ∙ other-keys cmp k t.beside t.others n q ne;
          others = λ q ne ne'. r.beside.others q ne ∙ t.beside.others q ne';
          other_sizes = λ q ne ne'. r.beside.other_sizes q ne ∙ t.beside.other_sizes q ne';
          same_count = r.beside.same_count ∙ t.beside.same_count;
          same_comparator = r.beside.same_comparator ∙ t.beside.same_comparator;
          same_limit = r.beside.same_limit ∙ t.beside.same_limit;
          same_memory = r.beside.same_memory ∙ t.beside.same_memory;
          same_one = λ one. absurd (apart one);
          absent = λ none. not-here cmp (entries m i) k none here;
          slots = λ ne is. r.account.slots ∙ t.account.slots;
          free = λ ne is. omega (arith, r.account.free, t.account.free, ap node_count sizes);
          growth = λ ne is. record {
            grows = omega (arith, t.account.memory.grows, r.account.memory);
            stays = λ enough. r.account.memory ∙ t.account.memory.stays enough;
            suffices = λ enough. r.account.memory ∙ t.account.memory.suffices enough;
            bounded = omega (arith, t.account.memory.bounded, r.account.memory);
          };
          full = (λ bad. absurd (ok-err _ Full bad), λ asked. absurd (ok-err old Full (t.full.1 asked.2)));
          memory = λ bad. absurd (cc);
          succeeds = λ enough. refl;
          room = λ lists most_entries stays room. refl;
          never_full = λ lists most_entries stays room bad. absurd (ok-err _ Full bad);
          refused = tt;
        }
