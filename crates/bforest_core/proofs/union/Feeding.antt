-- A tree is built of a source's entries, while those that are full so far are trees of the table.
use Rattle.bforest_core.proofs.Words.{◌≡◌, ◌≢◌, ℕ, suc, ◌+◌, ◌-◌, ◌≤◌, ◌<◌, IsTrue, List, [], ◌∷◌, drop, length, slice_get, take, Some, refl, sym, ap, subst, ◌∙◌, arith, length-drop, length-take-le}
use Rattle.bforest_core.proofs.Words.{Content, Distinct, Inner, IsLeafCapacity, IsUnion, KeepsTrees, Table, free_count, is_root, leaf_content, with_child}
use Rattle.bforest_core.proofs.{table.Allocating.{grows-not, reserved-enough}, table.Stored.some_same, table.Trading.{Takes}, union.Needs.{width-some}}
use Rattle.bforest_core.proofs.union.Building.{Building, build_room, building-first, building-last, building-next, built-leaf, built-plants, first-taken, over-room, part-first, part-next}
use Rattle.bforest_core.specs.Change.{PlantsTree}
use Rattle.bforest_core.specs.Packed.{Built, need_of, width}
use Rattle.bforest_core.specs.Sources.{Adds, Builds, TakesEntries}
use Rattle.std.proofs.lemmas.List.{drop-drop}
use Rattle.std.specs.Prelude.{min}

-- two first entries of a list have one key
same-key : {K V : Type 0} {entry other : K × V} (list : List (K × V)) → slice_get list 0 ≡ Some entry → slice_get list 0 ≡ Some other → entry.0 ≡ other.0
same-key {K} {V} list is also = ap (λ (e : K × V). e.0) (some_same (sym is ∙ also))

-- the parts that are built so far, and what is left to the source
pub record Filling {K V : Type 0} (most : ℕ) (base old now : Table K V) (list rest : List (K × V)) (count level done index : ℕ) (over : Content K V) (key : K) (Reads : Type 0) : Type 0 where
  pub building : Building most old now (take count list) level done index over
  pub key_is : building.first ≡ key
  pub reads : Reads
  pub rest_is : rest ≡ drop (min done count) list
  pub adds : done ≤ count → Adds most base now

module _ {K V : Type 0} {most : ℕ} where
  -- a table that has grown has each tree
  pub adds-none : {old now : Table K V} → IsUnion most now × KeepsTrees old.nodes now.nodes → Adds most old now
  adds-none {old} {now} k = record { union = k.0; trees = λ root there. (let same = k.1 root in (subst IsTrue (sym same.0) there, same.1 there)) }

  -- a tree more
  adds-tree : {base old new : Table K V} {number : ℕ} {list : List (K × V)} {sizes : List (List ℕ)} → Adds most base old → PlantsTree most old new number list sizes → Adds most base new
  adds-tree {base} {old} {new} {number} a p = record {
    union = p.changes.union;
    trees = λ root there. (let was = a.trees root there in
        let apart : root ≢ number = λ same. p.fresh (subst (λ z. IsTrue (is_root old.nodes z)) same was.0) in
        let kept = p.changes.others root apart apart in (kept.0.1 was.0, kept.1 was.0 ∙ was.1));
  }

  -- a full node is the root of a tree
  built-adds : {base old new : Table K V} {entries : List (K × V)} {level number : ℕ} → IsLeafCapacity most → level ≤ 16 → Adds most base old → need_of most level (length entries) ≤ free_count old
      → length entries ≡ width most level → Built most old new entries level number → Adds most base new
  built-adds {base} {old} {new} {entries} {level} {number} capacity low a enough full b =
      let one : 0 < most = omega (arith, capacity.least) in let n = need_of most level (length entries) in
      let some : 0 < length entries = omega (arith, full, width-some most level one) in
      let wide : (below : ℕ) → level ≡ suc below → width most below < length entries = λ below is. omega (arith, full, ap (λ z. width most z) is, width-some most below one) in
      let p = built-plants refl capacity a.union some (sym (reserved-enough old n enough)) (grows-not refl) b refl low wide in adds-tree a p.3

  -- a leaf
  pub leaf-builds : {base old new : Table K V} {list : List (K × V)} {count number : ℕ} → IsLeafCapacity most → Adds most base old → need_of most 0 count ≤ free_count old → count ≤ length list
      → 0 < count → count ≤ most → Takes old new number (leaf_content (take count list)) → Builds most base old new list count 0 number
  leaf-builds {base} {old} {new} {list} {count} capacity a enough held any few t =
      let one : 0 < most = omega (arith, capacity.least) in let many = length-take-le count list held in
      let b = built-leaf (take count list) one (omega (arith, many, any)) (omega (arith, many, few)) t in
      record { built = b; full = λ is. built-adds capacity (omega arith) a (omega (arith, enough, ap (λ z. need_of most 0 z) many)) (many ∙ is) b }

  module _ (one : 0 < most) {base old : Table K V} {list : List (K × V)} {count level part : ℕ} (held : count ≤ length list) (is : part ≡ width most level) where
    -- the first part
    pub filling-first : {now : Table K V} {rest : List (K × V)} {key : K} {Reads : Type 0} {child : ℕ} {over : Content K V} → 0 < count → Distinct old.chain → TakesEntries list rest (min part count) Reads key
        → Builds most base old now list (min part count) level child → over ≡ Inner [] (child ∷ []) → Filling most base old now list rest count level part 0 over key Reads
    filling-first {now} {child = child} any apart g b over_is =
        let first = building-first (omega (arith, any, length-take-le count list held)) is apart (subst (λ z. Built most old now z level child) (sym (part-first part count list)) b.built) over_is in
        record {
          building = first;
          key_is = same-key list (first-taken count list first.first_is) g.first_is;
          reads = g.reads;
          rest_is = g.rest_is;
          adds = λ within. (let m : min part count ≡ width most level = omega (arith, within, is) in b.full m);
        }

    module _ {now : Table K V} {rest : List (K × V)} {done index : ℕ} {over : Content K V} {key : K} {Reads : Type 0} (s : Filling most base old now list rest count level done index over key Reads) where
      -- the entries of the parts
      pub count_is : length (take count list) ≡ count
      count_is = length-take-le count list held

      module _ (more : done < count) where
        rest_here : rest ≡ drop done list
        rest_here = let m : min done count ≡ done = omega (arith, more) in s.rest_is ∙ ap (λ z. drop z list) m

        -- the source holds the next part
        pub rest-enough : min part (count - done) ≤ length rest
        rest-enough = omega (arith, ap length rest_here, length-drop done list, held, more)

        -- there is room for it
        pub rest-room : count ≤ width most (suc level) → need_of most (suc level) count ≤ length old.chain → need_of most level (min part (count - done)) ≤ length now.chain
        rest-room fits room =
            let size = min part (count - done) in let rest = drop done list in
            let long : length (take part (drop done (take count list))) ≡ size = ap length (part-next part count done list (omega (arith, more))) ∙ length-take-le size rest (omega (arith, length-drop done list, held, more)) in
            omega (arith, build_room one s.building part is (omega (arith, more, count_is)) (omega (arith, fits, count_is)) (omega (arith, room, ap (λ z. need_of most (suc level) z) count_is)), ap (λ z. need_of most level z) long)

        -- one part more
        pub filling-next : {new : Table K V} {rest' : List (K × V)} {next : K} {Reads' : Type 0} {kid : ℕ} {over' : Content K V} → TakesEntries rest rest' (min part (count - done)) Reads' next
            → Builds most base now new rest (min part (count - done)) level kid → over' ≡ with_child over index next kid → Filling most base old new list rest' count level (done + part) (suc index) over' key Reads'
        filling-next {new} {kid = kid} g b over'_is =
            let size = min part (count - done) in
            let same : take size rest ≡ take part (drop done (take count list)) = ap (take size) rest_here ∙ sym (part-next part count done list (omega (arith, more))) in
            let next = subst (λ z. Built most now new z level kid) same b.built in
            let first = same-key rest g.first_is (first-taken size rest (ap (λ z. slice_get z 0) same ∙ next.first_is)) in
            let after = building-next one s.building is (omega (arith, more, count_is)) next first over'_is in
            let past : done + size ≡ min (done + part) count = omega (arith, more) in
            record {
              building = after;
              key_is = same-key (take count list) after.first_is s.building.first_is ∙ s.key_is;
              reads = g.reads;
              rest_is = g.rest_is ∙ ap (drop size) rest_here ∙ drop-drop size done list ∙ ap (λ z. drop z list) past;
              adds = λ within. (let m : size ≡ width most level = omega (arith, within, is) in b.full m);
            }

      -- all parts, and the node over them in its slot
      module _ (past : count ≤ done) where
        pub last-room : count ≤ width most (suc level) → need_of most (suc level) count ≤ length old.chain → 0 < length now.chain
        last-room fits room = over-room one s.building (omega (arith, past, count_is)) (omega (arith, fits, count_is)) (omega (arith, room, ap (λ z. need_of most (suc level) z) count_is))

        pub filling-gives : TakesEntries list rest count Reads key
        filling-gives = let m : min done count ≡ count = omega (arith, past) in record {
          value = s.building.value;
          first_is = subst (λ z. slice_get list 0 ≡ Some (z, s.building.value)) s.key_is (first-taken count list s.building.first_is);
          reads = s.reads;
          rest_is = s.rest_is ∙ ap (λ z. drop z list) m;
        }

        pub filling-builds : {new : Table K V} {number : ℕ} → IsLeafCapacity most → suc level ≤ 16 → Adds most base old → need_of most (suc level) count ≤ free_count old → count ≤ width most (suc level)
            → Takes now new number over → Builds most base old new list count (suc level) number
        filling-builds capacity low a enough fits t = let b = building-last one s.building (omega (arith, past, count_is)) (omega (arith, fits, count_is)) t in
            record { built = b; full = λ all. built-adds capacity low a (omega (arith, enough, ap (λ z. need_of most (suc level) z) count_is)) (count_is ∙ all) b }
