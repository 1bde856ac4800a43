-- Building a node over packed parts, one after another.
use Rattle.std.specs.Prelude.{min}
use Rattle.bforest_core.proofs.Words.{◌≡◌, ℕ, zero, suc, ◌+◌, ◌*◌, ◌-◌, ◌≤◌, ◌<◌, List, [], ◌∷◌, ◌++◌, map, length, drop, take, insert, slice_get, Some, refl, sym, ap, subst}
use Rattle.bforest_core.proofs.Words.{◌∙◌, arith, inl, inr, cases_lt, map-append, append-nil, length-append, length-map, length-drop, take_all, drop_all}
use Rattle.bforest_core.proofs.Words.{Heads, Row, Rows, flat_map, node, Topped, heads, sizes, numbers, Content, Inner, Table, count, Distinct, Draws, length-take-le}
use Rattle.bforest_core.proofs.Words.{IsUsed, front_of, with_front, ◌/◌, entry_items, entry_keys, inner_content, leaf_content, numbers_under, with_child}
use Rattle.bforest_core.proofs.{table.Trading.{Takes, draws-then, takes, trades-wider}, union.Account.length-same, rows.LevelRows.{flat-append, heads-append, numbers-append, sizes-append}}
use Rattle.bforest_core.proofs.table.Tables.{count-append, length-with_front, row-join, row-same, rows-same}
use Rattle.bforest_core.proofs.union.Joining.{beside, beside-length, full-beside, full-join, full-over, numbers-beside, numbers-over, packed-beside, packed-join, packed-over}
use Rattle.bforest_core.proofs.union.Joining.{piled-beside, fit-packed, piled-over, rows-in-beside, rows-in-over, some-beside, some-over, stacked-piled, topped-piled}
use Rattle.bforest_core.proofs.Words.{Draws, GrowsFor, IsLeafCapacity, IsUnion, Tree, node_count, first_number, half_of, numbers_of, reserved, root_above, sizes_of}
use Rattle.bforest_core.proofs.union.{Account.{nodes-count}, Exchange.{IsPlanted}, Planting.{planted-tree}}
use Rattle.bforest_core.specs.Change.{PlantsTree}
use Rattle.std.proofs.lemmas.List.{drop-take, take-take}
use Rattle.bforest_core.proofs.union.Needs.{need-leaf, need-next, need-parts, need-top, width-some}
use Rattle.bforest_core.specs.Packed.{AreFullLevels, ArePacked, Built, Piled, IsFullLevel, Packs, need_of, width}

module _ {X : Type 0} where
  take-none : (n : ℕ) → take {A = X} n [] ≡ []
  take-none zero = refl
  take-none (suc n) = refl

  take-more : (n m : ℕ) (xs : List X) → take (n + m) xs ≡ take n xs ++ take m (drop n xs)
  take-more zero m xs = let e : 0 + m ≡ m = omega arith in ap (λ z. take z xs) e
  take-more (suc n) m [] = take-none (suc n + m) ∙ sym (take-none m)
  take-more (suc n) m (x ∷ xs) = let e : suc n + m ≡ suc (n + m) = omega arith in ap (λ z. take z (x ∷ xs)) e ∙ ap (λ z. x ∷ z) (take-more n m xs)

  pub first-taken : (n : ℕ) (xs : List X) {x : X} → slice_get (take n xs) 0 ≡ Some x → slice_get xs 0 ≡ Some x
  first-taken zero xs e = absurd cc
  first-taken (suc n) [] e = absurd cc
  first-taken (suc n) (x ∷ xs) e = e

  -- how many elements a part has
  part-length : (most : ℕ) (xs : List X) → (length xs ≤ most → length (take most xs) ≡ length xs) × (most ≤ length xs → length (take most xs) ≡ most)
  part-length most xs = (λ few. ap length (take_all most xs few), λ many. length-take-le most xs many)

  pub part-within : (most : ℕ) (xs : List X) → length (take most xs) ≤ most
  part-within most xs = let p = part-length most xs in elim (cases_lt most (length xs)) [ inl more ↦ omega (arith, p.1 (omega (arith, more))) | inr all ↦ omega (arith, p.0 all, all) ]

  -- a part of the first `count` elements
  pub part-first : (part count : ℕ) (xs : List X) → take part (take count xs) ≡ take (min part count) xs
  part-first part count xs = elim (cases_lt part count) [
    | inl low ↦ (let m : min part count ≡ part = omega (arith, low) in take-take part count xs (omega (arith, low)) ∙ ap (λ z. take z xs) (sym m))
    | inr high ↦ (let m : min part count ≡ count = omega (arith, high) in take_all part (take count xs) (omega (arith, high, part-within count xs)) ∙ ap (λ z. take z xs) (sym m))
  ]

  -- the next part of them, of which so many are done
  pub part-next : (part count done : ℕ) (xs : List X) → done ≤ count → take part (drop done (take count xs)) ≡ take (min part (count - done)) (drop done xs)
  part-next part count done xs within = let e : done + (count - done) ≡ count = omega (arith, within) in
      ap (λ z. take part (drop done (take z xs))) (sym e) ∙ ap (take part) (drop-take done (count - done) xs) ∙ part-first part (count - done) (drop done xs)

  pub insert-last : (xs : List X) (i : ℕ) (x : X) → i ≡ length xs → insert xs i x ≡ xs ++ x ∷ []
  insert-last xs i x is = cc (take_all i xs (omega (arith, is)), drop_all i xs (omega (arith, is)))

-- a level above the leaves, and the room below its children
pub record Above (most level room : ℕ) : Type 0 where
  pub low : ℕ
  pub level_is : level ≡ suc low
  pub low_is : level - 1 ≡ low
  pub part_is : room / 8 ≡ width most low
  pub room_is : room ≡ width most (suc low)

pub above : (most level room : ℕ) → (level ≡ 0 → ⊥) → room ≡ width most level → Above most level room
above most zero room not is = absurd (not refl)
above most (suc low) room not is = record { low = low; level_is = refl; low_is = omega arith; part_is = omega (arith, is); room_is = is }

-- a part has an entry, where there is one
pub part-least : (most : ℕ) → 0 < most → {level room : ℕ} → Above most level room → (count : ℕ) → 0 < count → 0 < min (room / 8) count
part-least most one w count any = omega (arith, any, w.part_is, width-some most w.low one)

-- the first part needs less than all
pub first-need : (most : ℕ) → 0 < most → {level room : ℕ} (w : Above most level room) (count : ℕ) → 0 < count → count ≤ room → need_of most w.low (min (room / 8) count) < need_of most level count
first-need most one {level} {room} w count any fits = let top = need-top most one w.low count any (omega (arith, fits, w.room_is)) in let l = ap (λ z. need_of most z count) w.level_is in
    elim (cases_lt (room / 8) count) [
      | inl more ↦ (let e : room / 8 + (count - room / 8) ≡ count = omega (arith, more) in let m : min (room / 8) count ≡ room / 8 = omega (arith, more) in
          omega (arith, top, l, need-next most one w.low (room / 8) (count - room / 8) w.part_is, ap (λ z. need_of most w.low z) e, ap (λ z. need_of most w.low z) m))
      | inr all ↦ (let m : min (room / 8) count ≡ count = omega (arith, all) in omega (arith, top, l, ap (λ z. need_of most w.low z) m))
    ]

module _ {K V : Type 0} where
  -- packed nodes lie in any table that agrees on their slots
  packs-later : {most : ℕ} {old : Table K V} (new : Table K V) {entries : List (K × V)} {level : ℕ} {leaves : Row K V} {lower : Rows K} {top : Heads K} → Packs most old entries level leaves lower top
      → ((m : ℕ) → 0 < count m (numbers_under leaves lower) → slice_get new.nodes m ≡ slice_get old.nodes m) → Packs most new entries level leaves lower top
  packs-later new p same = record {
    leaves_in = row-same _ _ _ _ (λ m some. same m (omega (arith, some, count-append))) p.leaves_in;
    rows_in = rows-same _ _ _ (λ m some. same m (omega (arith, some, count-append))) p.rows_in;
    piled = p.piled;
    list_is = p.list_is;
    height = p.height;
    leaves_packed = p.leaves_packed;
    rows_packed = p.rows_packed;
    leaves_some = p.leaves_some;
    rows_some = p.rows_some;
    many = p.many;
  }

  -- a leaf
  pub built-leaf : {most : ℕ} {old new : Table K V} (entries : List (K × V)) {number : ℕ} → 0 < most → 0 < length entries → length entries ≤ most → Takes old new number (leaf_content entries) → Built most old new entries 0 number
  built-leaf [] one any few t = absurd (omega arith)
  built-leaf {most} (e ∷ es) {number} one any few t = record {
    leaves = node number (e ∷ es) ∷ [];
    lower = [];
    first = e.0;
    taken = number ∷ [];
    packs = record {
      leaves_in = (t.here, tt);
      rows_in = tt;
      piled = refl;
      list_is = append-nil (e ∷ es);
      height = refl;
      leaves_packed = (any, few);
      rows_packed = tt;
      leaves_some = omega arith;
      rows_some = tt;
      many = sym (need-leaf most one (length (e ∷ es)) any few);
    };
    full = λ is. ((is, tt), tt);
    topped = λ low is. absurd cc;
    value = e.1;
    first_is = refl;
    draws = t.draws;
  }

  -- the front of the chain was taken, and written
  pub taken-front : {old new : Table K V} {number : ℕ} {content : Content K V} → front_of old.chain ≡ Some number → new ≡ with_front old old.chain content → IsUsed new number → Takes old new number content
  taken-front {old} {new} {number} {content} front is used = takes old new number content front is (omega (arith, used.within, ap (λ z. length z.nodes) is, length-with_front old old.chain content))

  -- the parts that are built so far, and a node over them that is in no slot yet
  pub record Building (most : ℕ) (old now : Table K V) (entries : List (K × V)) (level done index : ℕ) (over : Content K V) : Type 0 where
    pub leaves : Row K V
    pub lower : Rows K
    pub first : K
    pub child : ℕ
    pub more : Heads K
    pub taken : List ℕ
    pub packs : Packs most now (take done entries) level leaves lower ((first, child) ∷ more)
    pub full : done ≤ length entries → IsFullLevel most (sizes leaves) × AreFullLevels (map sizes lower)
    pub value : V
    pub first_is : slice_get entries 0 ≡ Some (first, value)
    pub index_is : index ≡ length more
    pub done_is : done ≡ suc index * width most level
    pub few : index * width most level < length entries
    pub over_is : over ≡ inner_content ((first, child) ∷ more)
    pub draws : Draws old now [] (numbers_under leaves lower) taken
    pub apart : Distinct old.chain

  -- the first part
  pub building-first : {most : ℕ} {old now : Table K V} {entries : List (K × V)} {level child part : ℕ} {over : Content K V} → 0 < length entries → part ≡ width most level → Distinct old.chain →
      Built most old now (take part entries) level child → over ≡ Inner [] (child ∷ []) → Building most old now entries level part 0 over
  building-first {entries} {child} {part} any is apart b over_is = record {
    leaves = b.leaves;
    lower = b.lower;
    first = b.first;
    child = child;
    more = [];
    taken = b.taken;
    packs = b.packs;
    full = λ within. b.full ((part-length part entries).1 within ∙ is);
    value = b.value;
    first_is = first-taken part entries b.first_is;
    index_is = refl;
    done_is = omega (arith, is);
    few = omega (arith, any);
    over_is = over_is;
    draws = b.draws;
    apart = apart;
  }

  module _ {most : ℕ} (one : 0 < most) {old now : Table K V} {entries : List (K × V)} {level done index : ℕ} {over : Content K V} (s : Building most old now entries level done index over) where
    -- the entries of the parts that are built
    done_length : done ≤ length entries → length (take done entries) ≡ done
    done_length within = (part-length done entries).1 within

    -- how many nodes were taken
    taken_many : length s.taken ≡ need_of most level (length (take done entries))
    taken_many = omega (arith, s.packs.many, length-same (numbers_under s.leaves s.lower) (s.taken ++ []) s.draws.numbers_are, length-append s.taken [])

    -- once all are built, one node more is free
    pub over-room : length entries ≤ done → length entries ≤ width most (suc level) → need_of most (suc level) (length entries) ≤ length old.chain → 0 < length now.chain
    over-room past fits room = let all = ap length (take_all done entries past) in
        omega (arith, taken_many, ap (λ z. need_of most level z) all, need-top most one level (length entries) (omega (arith, s.few)) fits, room, ap length s.draws.chain_is, length-append s.taken now.chain)

    -- all entries need as many as those that are built, the next part, and the rest
    needs : (part : ℕ) → part ≡ width most level → done ≤ length entries → (need_of most level (length entries) ≡ need_of most level done + need_of most level (length entries - done))
        × (need_of most level (length (take part (drop done entries))) ≤ need_of most level (length entries - done))
    needs part is within =
        let rest = drop done entries in let left : length rest ≡ length entries - done = length-drop done entries in
        let a : done + (length entries - done) ≡ length entries = omega (arith, within) in
        let b = need-parts most one level (suc index) (length entries - done) in
        let c = ap (λ z. need_of most level (z + (length entries - done))) s.done_is in let d = ap (λ z. need_of most level z) s.done_is in (
          omega (arith, b, c, d, ap (λ z. need_of most level z) a),
          elim (cases_lt part (length rest)) [
            | inl more ↦ (let e : part + (length rest - part) ≡ length rest = omega (arith, more) in
                omega (arith, need-next most one level part (length rest - part) is, ap (λ z. need_of most level z) e, ap (λ z. need_of most level z) left, ap (λ z. need_of most level z) ((part-length part rest).1 (omega (arith, more)))))
            | inr all ↦ omega (arith, ap (λ z. need_of most level z) ((part-length part rest).0 all), ap (λ z. need_of most level z) left)
          ],
        )

    -- the numbers of the chain differ
    pub build_apart : Distinct now.chain
    build_apart m = omega (arith, s.apart m, ap (count m) s.draws.chain_is, count-append)

    -- the next part has an entry
    pub next-some : (part : ℕ) → part ≡ width most level → done < length entries → 0 < length (take part (drop done entries))
    next-some part is within = let rest = drop done entries in let p = part-length part rest in let left : length rest ≡ length entries - done = length-drop done entries in
        elim (cases_lt part (length rest)) [ inl more ↦ omega (arith, p.1 (omega (arith, more)), is, width-some most level one) | inr all ↦ omega (arith, p.0 all, left, within) ]

    -- there are few parts
    pub index_low : index < length entries
    index_low = grind (arith, s.few, width-some most level one)

    -- before the last part, fewer than 8 are built
    pub index_more : done < length entries → length entries ≤ width most (suc level) → suc index < 8
    index_more within fits = grind (arith, s.done_is, within, fits, width-some most level one)

    -- there is room for the next part
    pub build_room : (part : ℕ) → part ≡ width most level → done < length entries → length entries ≤ width most (suc level) → need_of most (suc level) (length entries) ≤ length old.chain →
        need_of most level (length (take part (drop done entries))) ≤ length now.chain
    build_room part is within fits room = let n = needs part is (omega (arith, within)) in
        omega (arith, n.0, n.1, room, need-top most one level (length entries) (omega (arith, within)) fits, taken_many, ap (λ z. need_of most level z) (done_length (omega (arith, within))), ap length s.draws.chain_is, length-append s.taken now.chain)

    -- one part more
    pub building-next : {new : Table K V} {kid part : ℕ} → part ≡ width most level → done < length entries → (b : Built most now new (take part (drop done entries)) level kid) → {key : K} → key ≡ b.first →
        {over' : Content K V} → over' ≡ with_child over index key kid → Building most old new entries level (done + part) (suc index) over'
    building-next {new} {kid} {part} is within b {key} key_is over'_is =
        let here = done_length (omega (arith, within)) in let f = s.full (omega (arith, within)) in
        let rest = drop done entries in let left : length rest ≡ length entries - done = length-drop done entries in
        let nums = numbers_under s.leaves s.lower in let nums' = numbers_under b.leaves b.lower in
        let same : length s.lower ≡ length b.lower = s.packs.height ∙ sym b.packs.height in
        let drawn : (m : ℕ) → (count m s.taken + count m now.chain ≡ count m old.chain) × (count m b.taken + count m new.chain ≡ count m now.chain) × (count m old.chain ≤ 1) = λ m. (omega (arith, ap (count m) s.draws.chain_is, count-append), omega (arith, ap (count m) b.draws.chain_is, count-append), omega (arith, s.apart m, count-append)) in
        let mine = packs-later new s.packs (λ m some. b.draws.others m (omega (arith, some, drawn m, s.draws.numbers_are m, count-append))) in
        let counted : (m : ℕ) → count m (numbers_under (s.leaves ++ b.leaves) (beside s.lower b.lower)) ≡ count m (nums ++ nums') = λ m. omega (arith, ap (count m) (numbers-append s.leaves b.leaves), numbers-beside s.lower b.lower same m, count-append) in
        let taken_is : take (done + part) entries ≡ take done entries ++ take part rest = take-more done part entries in
        let long : length (take (done + part) entries) ≡ done + length (take part rest) = omega (arith, ap length taken_is, length-append (take done entries) (take part rest), here) in
        let both = draws-then [] (nums ++ nums') (λ m. omega (arith, count-append m nums nums')) s.draws b.draws in
        record {
          leaves = s.leaves ++ b.leaves;
          lower = beside s.lower b.lower;
          first = s.first;
          child = s.child;
          more = s.more ++ (b.first, kid) ∷ [];
          taken = s.taken ++ b.taken;
          packs = record {
            leaves_in = row-join leaf_content new.nodes s.leaves b.leaves mine.leaves_in b.packs.leaves_in;
            rows_in = rows-in-beside new.nodes s.lower b.lower mine.rows_in b.packs.rows_in;
            piled = rw (heads-append s.leaves b.leaves) (piled-beside (heads s.leaves) (heads b.leaves) ((s.first, s.child) ∷ s.more) ((b.first, kid) ∷ []) s.lower b.lower same mine.piled b.packs.piled);
            list_is = cc (flat-append s.leaves b.leaves, mine.list_is, b.packs.list_is, taken_is);
            height = beside-length s.lower b.lower same ∙ s.packs.height;
            leaves_packed = rw (sizes-append s.leaves b.leaves) (packed-join most (sizes s.leaves) (sizes b.leaves) f.0 b.packs.leaves_some b.packs.leaves_packed);
            rows_packed = packed-beside s.lower b.lower same f.1 b.packs.rows_some b.packs.rows_packed;
            leaves_some = omega (arith, s.packs.leaves_some, ap length (sizes-append s.leaves b.leaves), length-append (sizes s.leaves) (sizes b.leaves));
            rows_some = some-beside s.lower b.lower same s.packs.rows_some;
            many = omega (
              arith,
              length-same _ _ counted,
              length-append nums nums',
              s.packs.many,
              b.packs.many,
              ap (λ z. need_of most level z) here,
              ap (λ z. need_of most level z) long,
              ap (λ z. need_of most level z) s.done_is,
              ap (λ z. need_of most level (z + length (take part rest))) s.done_is,
              need-parts most one level (suc index) (length (take part rest)),
            );
          };
          full = λ fits. (let g = b.full ((part-length part rest).1 (omega (arith, fits, left)) ∙ is) in
              (rw (sizes-append s.leaves b.leaves) (full-join most (sizes s.leaves) (sizes b.leaves) f.0 g.0), full-beside s.lower b.lower same f.1 g.1));
          value = s.value;
          first_is = s.first_is;
          index_is = omega (arith, s.index_is, length-append s.more ((b.first, kid) ∷ []));
          done_is = omega (arith, s.done_is, is);
          few = omega (arith, s.done_is, within);
          over_is = over'_is ∙ ap (λ z. with_child z index key kid) s.over_is ∙ cc (
            key_is,
            insert-last (entry_keys s.more) index key (omega (arith, s.index_is, length-map s.more (λ (e : K × ℕ). e.0))),
            insert-last (s.child ∷ entry_items s.more) (index + 1) kid (omega (arith, s.index_is, length-map s.more (λ (e : K × ℕ). e.1))),
            map-append (λ (e : K × ℕ). e.0) s.more ((b.first, kid) ∷ []),
            map-append (λ (e : K × ℕ). e.1) s.more ((b.first, kid) ∷ []),
          );
          draws = trades-wider [] (numbers_under (s.leaves ++ b.leaves) (beside s.lower b.lower)) (λ m. omega (arith, counted m)) both;
          apart = s.apart;
        }

    -- all parts, and the node over them in its slot
    pub building-last : {new : Table K V} {number : ℕ} → length entries ≤ done → length entries ≤ width most (suc level) → Takes now new number over → Built most old new entries (suc level) number
    building-last {new} {number} past fits t =
        let top = (s.first, s.child) ∷ s.more in let lower = s.lower ++ (node number top ∷ []) ∷ [] in
        let all : take done entries ≡ entries = take_all done entries past in
        let some = width-some most level one in let any : 0 < length entries = omega (arith, s.few) in
        let low : index < 8 = grind (arith, s.few, fits, some) in
        let drawn : (m : ℕ) → (count m s.taken + count m now.chain ≡ count m old.chain) × (count m (number ∷ []) + count m new.chain ≡ count m now.chain) = λ m. (omega (arith, ap (count m) s.draws.chain_is, count-append), omega (arith, ap (count m) t.chain_is, count-append)) in
        let mine = packs-later new s.packs (λ m some. t.others m (omega (arith, some, drawn m, s.draws.numbers_are m, s.apart m, count-append))) in
        let both = draws-then [] (number ∷ numbers_under s.leaves s.lower) (λ m. omega (arith, count-append)) s.draws t.draws in
        let counted : (m : ℕ) → count m (numbers_under s.leaves lower) ≡ count m (number ∷ numbers_under s.leaves s.lower) = λ m. omega (arith, ap (count m) (numbers-over s.lower number top), count-append m (numbers s.leaves) (flat_map numbers lower), count-append m (numbers s.leaves) (flat_map numbers s.lower), count-append m (flat_map numbers s.lower) (number ∷ [])) in
        record {
          leaves = s.leaves;
          lower = lower;
          first = s.first;
          taken = s.taken ++ number ∷ [];
          packs = record {
            leaves_in = mine.leaves_in;
            rows_in = rows-in-over new.nodes s.lower number top mine.rows_in (t.here ∙ ap Some s.over_is);
            piled = piled-over (heads s.leaves) s.more s.lower number (s.first, s.child) s.packs.piled;
            list_is = s.packs.list_is ∙ all;
            height = omega (arith, s.packs.height, length-append s.lower ((node number top ∷ []) ∷ []));
            leaves_packed = s.packs.leaves_packed;
            rows_packed = packed-over s.lower number top s.packs.rows_packed (omega arith) (omega (arith, low, s.index_is));
            leaves_some = s.packs.leaves_some;
            rows_some = some-over s.lower number top s.packs.rows_some;
            many = omega (arith, length-same (numbers_under s.leaves lower) (number ∷ numbers_under s.leaves s.lower) counted, s.packs.many, ap (λ z. need_of most level (length z)) all, need-top most one level (length entries) any fits);
          };
          full = λ is. (let eight : index ≡ 7 = grind (arith, low, s.done_is, past, is, some) in let e = ap (λ z. suc z * width most level) eight in let f = s.full (omega (arith, s.done_is, is, e)) in
              (f.0, full-over s.lower number top f.1 (omega (arith, eight, s.index_is))));
          topped = λ low is more. (let same : low ≡ level = omega (arith, is) in let e = ap (λ z. width most z) same in let two : 1 ≤ index = grind (arith, s.done_is, past, more, e, some) in
              topped-piled (heads s.leaves) (s.first, s.child) s.more s.lower number s.packs.piled s.packs.rows_packed (omega (arith, two, s.index_is)));
          value = s.value;
          first_is = s.first_is;
          draws = trades-wider [] (numbers_under s.leaves lower) (λ m. omega (arith, counted m)) both;
        }

-- the node on top of rows is their root
root-piled : {K : Type 0} (list : Heads K) (rows : Rows K) (x : K × ℕ) → Piled list rows (x ∷ []) → root_above list rows ≡ x.1
root-piled list [] x p = ap first_number p
root-piled list (row ∷ rows) x p = root-piled (heads row) rows x p.1

module _ {K V : Type 0} where
  -- a leaf alone, or a root with a width below it that is too little, is on top of a tree
  pub built-plants : {most : ℕ} {old mid new : Table K V} {entries : List (K × V)} {level number n many : ℕ} → n ≡ many → IsLeafCapacity most → IsUnion most old → 0 < length entries → mid ≡ reserved old n mid.memory → GrowsFor n old mid →
      (b : Built most mid new entries level number) → n ≡ need_of most level (length entries) → level ≤ 16 → ((low : ℕ) → level ≡ suc low → width most low < length entries) →
      (sizes : List (List ℕ)) × ArePacked most sizes × (node_count sizes ≡ many) × PlantsTree most old new number entries sizes
  built-plants {most} {old} {mid} {new} {entries} {level} {number} {n} many_is capacity union any mid_is growth b n_is low wide =
      let tree : Tree K V = record { leaves = b.leaves; above = b.lower } in
      let planted : IsPlanted most new.nodes tree = record {
        fit = record {
          leaves_fit = fit-packed (half_of most) most (omega (arith, capacity.least)) b.leaves b.packs.leaves_packed;
          stacked = stacked-piled (heads b.leaves) ((b.first, number) ∷ []) b.lower b.packs.piled refl b.packs.rows_packed;
          topped = top level refl;
        };
        inside = record { leaves_in = b.packs.leaves_in; rows_in = b.packs.rows_in };
        some = omega (arith, any, ap length b.packs.list_is);
        low = omega (arith, low, b.packs.height);
      } in
      let memory : new.memory ≡ mid.memory = b.draws.memory_is in
      let grows : GrowsFor n old new =
      record {
        grows = rw memory growth.grows;
        stays = λ enough. memory ∙ growth.stays enough;
        suffices = λ enough. memory ∙ growth.suffices enough;
        bounded = rw memory growth.bounded;
      } in
      let count : n ≡ node_count (sizes_of tree) = omega (arith, n_is, b.packs.many, nodes-count tree) in
      let all = planted-tree most old n mid.memory tree union (subst (λ z. Draws z new [] (numbers_of tree) b.taken) mid_is b.draws) planted
      count (root-piled (heads b.leaves) b.lower (b.first, number) b.packs.piled) grows in
      (sizes_of tree, (b.packs.leaves_packed, b.packs.rows_packed), omega (arith, count, many_is), subst (λ z. PlantsTree most old new number z (sizes_of tree)) b.packs.list_is all)
    where
      top : (l : ℕ) → l ≡ level → Topped (heads b.leaves) b.lower
      top zero is = none b.lower (omega (arith, is, b.packs.height))
        where
          none : (rows : Rows K) → length rows ≡ 0 → Topped (heads b.leaves) rows
          none [] e = tt
          none (row ∷ rows) e = absurd (omega (arith, e))
      top (suc l) is = b.topped l (sym is) (wide l (sym is))
