-- Putting a value in at a key of a leaf and taking a key out, from the answer of the search.
use Rattle.std.proofs.Common.{Err, List, None, Ok, Result, Some, ap, arith, false, if◌then◌else◌, inl, inr, insert, length, nat_lt}
use Rattle.std.proofs.Common.{option_map, refl, remove, slice_get, slice_set, suc}
use Rattle.std.proofs.Common.{sym, take, true, ◌+◌, ◌-◌, ◌<◌, ◌∙◌, ◌≡◌, ◌≤◌, ℕ}
use Rattle.std.proofs.lemmas.Bool.Decides.{leb_tells}
use Rattle.bforest_nodes.specs.Content.{Content, Leaf, entry_count, put_answer, take_answer, with_entry, with_put, with_taken}
use Rattle.bforest_nodes.specs.declared.node.State.TheVariants.{Entries}
use Rattle.bforest_nodes.proofs.States.{entries_full, entries_room}
use Rattle.bforest_nodes.specs.declared.entries.Entries.{Entries as LeafEntries}

module _ {K V : Type 0} {n : ℕ} (size : ℕ) (e : LeafEntries K V n) {answer s : Result ℕ ℕ} (found : answer ≡ s) where
  abbrev leaf : Content K V
  leaf = Leaf (take size e.keys.items) (take size e.vals.items)

  module _ {index : ℕ} (is : answer ≡ Ok index) where
    pub replaced-answer : {old : V} → slice_get (take size e.vals.items) index ≡ Some old → Ok (Some old) ≡ put_answer n leaf s
    replaced-answer old = sym (ap (put_answer n leaf) (sym found ∙ is) ∙ ap Ok old)

    pub replaced-node : (key : K) (value : V) (vals : List V) → take size vals ≡ slice_set (take size e.vals.items) index value
        → Leaf (take size e.keys.items) (take size vals) ≡ with_put n leaf s key value
    replaced-node key value vals set = ap (Leaf (take size e.keys.items)) set ∙ sym (ap (λ z. with_put n leaf z key value) (sym found ∙ is))

    pub taken-answer : {old : V} → slice_get (take size e.vals.items) index ≡ Some old → Some (index, old) ≡ take_answer leaf s
    taken-answer old = sym (ap (take_answer leaf) (sym found ∙ is) ∙ ap (option_map (λ v. (index, v))) old)

    pub taken-node : (keys : List K) (vals : List V) → take (size - 1) keys ≡ remove (take size e.keys.items) index
        → take (size - 1) vals ≡ remove (take size e.vals.items) index → Leaf (take (size - 1) keys) (take (size - 1) vals) ≡ with_taken leaf s
    taken-node keys vals fewer rest = ap (λ z. Leaf z (take (size - 1) vals)) fewer ∙ ap (Leaf (remove (take size e.keys.items) index)) rest
        ∙ sym (ap (with_taken leaf) (sym found ∙ is))

  -- the key is absent
  module _ {index : ℕ} (is : answer ≡ Err index) where
    pub absent-answer : None ≡ take_answer leaf s
    absent-answer = sym (ap (take_answer leaf) (sym found ∙ is))

    pub absent-node : leaf ≡ with_taken leaf s
    absent-node = sym (ap (with_taken leaf) (sym found ∙ is))

    -- there is room for it
    module _ (few : size < n) where
      room : nat_lt (entry_count leaf) n ≡ true
      room = elim (leb_tells (suc (entry_count leaf)) n) [
        | inl w ↦ w.0
        | inr w ↦ absurd (let least = w.1 in let most = entries_room (Entries size e) size e leaf refl refl few in omega (arith, least, most))
      ]

      pub new-answer : Ok None ≡ put_answer n leaf s
      new-answer = sym (ap (put_answer n leaf) (sym found ∙ is) ∙ ap (λ b. if b then Ok None else Err index) room)

      pub new-node : (key : K) (value : V) (keys : List K) (vals : List V)
          → take (size + 1) keys ≡ insert (take size e.keys.items) index key
          → take (size + 1) vals ≡ insert (take size e.vals.items) index value
          → Leaf (take (size + 1) keys) (take (size + 1) vals) ≡ with_put n leaf s key value
      new-node key value keys vals more rest =
          ap (λ z. Leaf z (take (size + 1) vals)) more ∙ ap (Leaf (insert (take size e.keys.items) index key)) rest
          ∙ sym (ap (λ z. with_put n leaf z key value) (sym found ∙ is) ∙ ap (λ b. if b then with_entry leaf index key value else leaf) room)

    -- the leaf is full
    module _ (room : length e.keys.items ≡ n) (full : n ≤ size) where
      short : nat_lt (entry_count leaf) n ≡ false
      short = elim (leb_tells (suc (entry_count leaf)) n) [
        | inl w ↦ absurd (entries_full (Entries size e) size e leaf refl refl room full w.1)
        | inr w ↦ w.0
      ]

      pub full-answer : Err index ≡ put_answer n leaf s
      full-answer = sym (ap (put_answer n leaf) (sym found ∙ is) ∙ ap (λ b. if b then Ok None else Err index) short)

      pub full-node : (key : K) (value : V) → leaf ≡ with_put n leaf s key value
      full-node key value =
          sym (ap (λ z. with_put n leaf z key value) (sym found ∙ is) ∙ ap (λ b. if b then with_entry leaf index key value else leaf) short)
