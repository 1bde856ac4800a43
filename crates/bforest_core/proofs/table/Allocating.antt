-- Taking a free node and reserving nodes, over plain values.
use Rattle.bforest_core.proofs.Words.{◌≡◌, ◌↔◌, ℕ, ◌-◌, ◌≤◌, ◌<◌, List, [], ◌∷◌, length, length-set}
use Rattle.bforest_core.proofs.Words.{append-nil, Some, Result, Err, Ok, true, false, IsErrAnd, sym, ap, ◌∙◌, arith, ◌+◌, refl}
use Rattle.bforest_core.proofs.Words.{err_from_is_err_and, Content, GrowsFor, IsPool, chain_from, slots_with, Table, IsUsed, NeedsGrowth, room, reserved, front_of, with_node}
use Rattle.bforest_core.proofs.Words.{with_front, without_front}
use Rattle.std.proofs.{Common.{max, ◌*◌, OnErr, OnOk, is_err}, Math.Nat.{le-max_left}}
use Rattle.bforest_core.proofs.{Words.{free_count, length-append, down_from, slot_count}, table.Pools.with_front-is, table.Chains.length-down_from}

-- a result that is an error equal to `y` is `Err y`
pub err_is : {T E : Type 0} (r : Result T E) (y : E) → IsErrAnd r (λ e. e ≡ y) → r ≡ Err y
err_is r y h = let e = err_from_is_err_and r h in cc

-- an error that a call passes on is a given one exactly if the received one is
pub err_iff : {A B E : Type 0} (r : Result A E) (e f : E) → r ≡ Err e → (r ≡ Err f) ↔ (◌≡◌ {A = Result B E} (Err e) (Err f))
err_iff r e f is = (λ same. (let s : e ≡ f = cc in ap Err s), λ same. (let s : e ≡ f = cc in cc))

-- what a result says where it is an error, and where it is none
pub on-failed : {T E : Type 0} (r : Result T E) {P : Type 0} → is_err r ≡ true → OnErr r P → P
on-failed (Ok x) is said = absurd cc
on-failed (Err e) is said = said

pub on-passed : {T E : Type 0} (r : Result T E) {P : Type 0} → is_err r ≡ false → OnOk r P → P
on-passed (Ok x) is said = said
on-passed (Err e) is said = absurd cc

module _ {K V : Type 0} where
  -- writing the node taken from the front of the chain
  pub taken_is : (t : Table K V) {u : Table K V} {node c d : _} → front_of t.chain ≡ Some node → u ≡ without_front t t.chain → c ≡ d → with_node u node c ≡ with_front t t.chain d
  taken_is t {d} front u_is c_is = cc (with_front-is t _ d front)

  memory-without_front : (t : Table K V) (chain : _) → (without_front t chain).memory ≡ t.memory
  memory-without_front t [] = refl
  memory-without_front t (node ∷ rest) = refl

  -- taking the front off the chain takes no memory
  pub taken-memory : (t : Table K V) {u : Table K V} → u ≡ without_front t t.chain → u.memory ≡ t.memory
  taken-memory t is = ap (λ z. z.memory) is ∙ memory-without_front t t.chain

  -- a table that holds as much memory as another grew as that did
  pub grows-alike : {n : ℕ} {old mid new : Table K V} → new.memory ≡ mid.memory → GrowsFor n old mid → GrowsFor n old new
  grows-alike same g = record { grows = rw same g.grows; stays = λ enough. same ∙ g.stays enough; suffices = λ held. same ∙ g.suffices held; bounded = rw same g.bounded }

  -- a table that holds as much memory as before has not grown
  pub grows-not : {n : ℕ} {old new : Table K V} → new.memory ≡ old.memory → GrowsFor n old new
  grows-not {n} {old} same = record { grows = omega (arith, same); stays = λ _. same; suffices = λ _. same; bounded = omega (arith, same, le-max_left old.memory (max (2 * slots_with n old) 4)) }

  -- a used node stays used when it is written
  pub used_written : (t : Table K V) (node c : _) → IsUsed t node → IsUsed (with_node t node c) node
  used_written t node c used = record { within = (let w = used.within in omega (arith, length-set t.nodes node c)); off_chain = used.off_chain }

  -- the number of free nodes after a reservation
  pub reserved-free : (table : Table K V) (n memory : ℕ) → length (reserved table n memory).chain ≡ (n - free_count table) + free_count table
  reserved-free table n memory = omega (arith, length-append (down_from (slot_count table) (n - free_count table)) table.chain, length-down_from)

  -- a reservation changes nothing where enough nodes are free
  pub reserved-enough : (table : Table K V) (n : ℕ) → n ≤ free_count table → reserved table n table.memory ≡ table
  reserved-enough table n enough = let none : n - free_count table ≡ 0 = omega arith in rw none (ap (λ z. record table { nodes = z }) (append-nil table.nodes))

  module _ (n : ℕ) {most : ℕ} {nodes : List (Content K V)} {first : _} {free limit memory len : ℕ} (pool : IsPool most nodes first free limit) {t : Table K V}
      (view : record { nodes = nodes; chain = chain_from nodes free first; limit = limit; memory = memory } ≡ t) (len_is : len ≡ length nodes) where
    -- the fields of a pool as fields of its table
    fields_are : (length t.chain ≡ free) × (t.limit ≡ limit) × (length t.nodes ≡ len) × (t.memory ≡ memory)
    fields_are = rw (← view) (pool.counted, refl, sym len_is, refl)

    -- with enough free nodes there is room
    pub has_room : n ≤ free → room t < n → ⊥
    has_room enough short = omega (arith, fields_are.0)

    -- with too few free and allowed slots there is no room
    pub lacks_room : free < n → limit - len < n - free → room t < n
    lacks_room scarce more = omega (arith, fields_are.0, fields_are.1, fields_are.2)

    -- with enough allowed slots there is room
    pub finds_room : n - free ≤ limit - len → room t < n → ⊥
    finds_room allowed short = omega (arith, fields_are.0, fields_are.1, fields_are.2)

    pub needs_growth : free < n → n - free ≤ limit - len → memory < len + (n - free) → NeedsGrowth n t
    needs_growth scarce allowed short = record {
      scarce = omega (arith, fields_are.0);
      allowed = omega (arith, fields_are.0, fields_are.1, fields_are.2);
      short = omega (arith, fields_are.0, fields_are.2, fields_are.3);
    }

    pub not_enough : free < n → n ≤ length t.chain → ⊥
    not_enough scarce enough = omega (arith, fields_are.0)

    -- the memory after slots were added
    pub grows-by : {new : Table K V} → free < n → memory ≤ new.memory → (len + (n - free) ≤ memory → new.memory ≡ memory) →
        new.memory ≤ max memory (max (2 * (len + (n - free))) 4) → GrowsFor n t new
    grows-by scarce grows suffices bounded = record {
      grows = omega (arith, fields_are.3, grows);
      stays = λ enough. absurd (not_enough scarce enough);
      suffices = λ held. suffices (omega (arith, fields_are.0, fields_are.2, fields_are.3, held)) ∙ sym fields_are.3;
      bounded = rw (fields_are.0, fields_are.2, fields_are.3) bounded;
    }

    pub stays_reserved : n ≤ free → t ≡ reserved t n t.memory
    stays_reserved enough = sym (reserved-enough t n (omega (arith, fields_are.0)))

  -- a table within a limit of 32 bits has at most 4294967295 slots
  pub few_slots : {most : ℕ} {nodes : List (Content K V)} {first : _} {free limit memory : ℕ} → IsPool most nodes first free limit → {t : Table K V}
      → record { nodes = nodes; chain = chain_from nodes free first; limit = limit; memory = memory } ≡ t → length t.nodes ≤ 4294967295
  few_slots pool view = let e = ap (λ z. length z.nodes) view in omega arith
