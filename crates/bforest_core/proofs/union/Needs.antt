-- The nodes of some entries are those of full parts and of the rest.
use Rattle.bforest_core.specs.{Change.{node_count}, Levels.{half_of}, Sizes.{IsFitAbove, IsFitFor, IsFitLevel, least_size}}
use Rattle.bforest_core.specs.Packed.{IsPlan, fewest, need_of, nodes_over, width}
use Rattle.std.proofs.Common.{false, nat_lt, true, ap, arith, refl, subst, suc, sym, zero, ◌*◌, ◌+◌, ◌-◌, ◌<◌, ◌≡◌, ◌≤◌, ℕ}
use Rattle.std.proofs.Math.Nat.{mul-le-mul_left, mul-le-mul_right}
use Rattle.std.proofs.lemmas.Grind.{div_ceil_times}
use Rattle.std.proofs.lemmas.Bool.{cases_lt}
use Rattle.std.proofs.Common.{inl, inr}
use Rattle.std.proofs.lemmas.List.Sums.{sum_by-cons}
use Rattle.std.proofs.Common.{List, [], ◌∷◌, length}
use Rattle.std.specs.Int.{div_ceil}
use Rattle.std.specs.List.{sum_by}

-- a number is found by its bounds
rounded : (b a c d : ℕ) → a ≤ c * b → c * b < a + b → a ≤ d * b → d * b < a + b → c ≡ d
rounded b a c d c-low c-high d-low d-high = grind (arith, c-low, c-high, d-low, d-high)

-- full parts are as many nodes
ceil-full : (b k r : ℕ) → 0 < b → div_ceil (k * b + r) b ≡ k + div_ceil r b
ceil-full b k r some = let w = div_ceil_times (k * b + r) b some in let z = div_ceil_times r b some in
    let e : (k + div_ceil r b) * b ≡ k * b + div_ceil r b * b = omega arith in
    rounded b (k * b + r) (div_ceil (k * b + r) b) (k + div_ceil r b) w.0 w.1 (omega (arith, e, z.0)) (omega (arith, e, z.1))

ceil-none : (b : ℕ) → 0 < b → div_ceil 0 b ≡ 0
ceil-none b some = let z = div_ceil_times 0 b some in rounded b 0 (div_ceil 0 b) 0 z.0 z.1 (omega arith) (omega (arith, some))

-- one node holds few entries
ceil-one : (b a : ℕ) → 0 < a → a ≤ b → div_ceil a b ≡ 1
ceil-one b a some few = let z = div_ceil_times a b (omega (arith, some, few)) in rounded b a (div_ceil a b) 1 z.0 z.1 (omega (arith, few)) (omega (arith, some))

pub width-some : (most level : ℕ) → 0 < most → 0 < width most level
width-some most zero some = some
width-some most (suc level) some = omega (arith, width-some most level some)

module _ (most : ℕ) (some : 0 < most) where
  pub need-none : (level : ℕ) → need_of most level 0 ≡ 0
  need-none zero = ceil-none most some
  need-none (suc level) = omega (arith, need-none level, ceil-none (width most (suc level)) (width-some most (suc level) some))

  -- entries of full nodes of a level, and others
  pub need-parts : (level count rest : ℕ) → need_of most level (count * width most level + rest) ≡ need_of most level (count * width most level) + need_of most level rest
  need-parts zero count rest = let a = ceil-full most count rest some in let b = ceil-full most count 0 some in let c = ceil-none most some in
      let e : count * most + 0 ≡ count * most = omega arith in let f = ap (λ z. div_ceil z most) e in omega (arith, a, b, c, f)
  need-parts (suc level) count rest =
      let w = width most level in let big = width most (suc level) in let one = width-some most (suc level) some in
      let e : count * big ≡ (count * 8) * w = omega arith in
      let ih = need-parts level (count * 8) rest in
      let a = ceil-full big count rest one in let b = ceil-full big count 0 one in let c = ceil-none big one in
      let z : count * big + 0 ≡ count * big = omega arith in let f = ap (λ z. div_ceil z big) z in
      let g = ap (λ z. need_of most level (z + rest)) e in let h = ap (λ z. need_of most level z) e in
      omega (arith, ih, a, b, c, f, g, h)

  -- a part of at most one full node, behind full ones
  pub need-next : (level part rest : ℕ) → (part ≡ width most level) → need_of most level (part + rest) ≡ need_of most level part + need_of most level rest
  need-next level part rest is = let e : 1 * width most level ≡ part = omega (arith, is) in
      let r = need-parts level 1 rest in let f = ap (λ z. need_of most level (z + rest)) e in let g = ap (λ z. need_of most level z) e in omega (arith, r, f, g)

  -- the node on top
  pub need-top : (level entries : ℕ) → 0 < entries → entries ≤ width most (suc level) → need_of most (suc level) entries ≡ suc (need_of most level entries)
  need-top level entries any few = omega (arith, ceil-one (width most (suc level)) entries any few)

  pub need-leaf : (entries : ℕ) → 0 < entries → entries ≤ most → need_of most 0 entries ≡ 1
  need-leaf entries any few = ceil-one most entries any few

-- a level further up has more room
width-more : (most level more : ℕ) → width most level ≤ width most (more + level)
width-more most level zero = let e : 0 + level ≡ level = omega arith in omega (arith, ap (λ z. width most z) e)
width-more most level (suc more) = let e : suc more + level ≡ suc (more + level) = omega arith in omega (arith, width-more most level more, ap (λ z. width most z) e)

-- a root with little room is on a low level
pub width-low : (most level : ℕ) → 1 ≤ most → width most level < 8796093022208 → level ≤ 16
width-low most level one few = elim (cases_lt level 17) [
  | inl low ↦ omega (arith, low)
  | inr high ↦ (let e : (level - 17) + 17 ≡ level = omega (arith, high) in absurd (omega (arith, few, one, width-more most 17 (level - 17), ap (λ z. width most z) e)))
]

ceil-few : (b a : ℕ) → 0 < b → 0 < a → div_ceil a b ≤ a
ceil-few b a some any = let z = div_ceil_times a b some in grind (arith, z.1, some, any)

-- a plan, on its way up: what it says of the levels up to one
pub record Planning (most entries nodes level room : ℕ) : Type 0 where
  pub room_is : room ≡ width most level
  pub nodes_are : nodes ≡ need_of most level entries
  pub wide : (low : ℕ) → level ≡ suc low → width most low < entries
  pub small : room < 8796093022208
  pub nodes_few : nodes ≤ suc level * 1099511627776

module _ (most entries : ℕ) (one : 3 ≤ most) (capacity : most ≤ 255) (some : 0 < entries) (few : entries ≤ 1099511627776) where
  pub planning-first : {nodes : ℕ} → nodes ≡ div_ceil entries most → Planning most entries nodes 0 most
  planning-first is = record { room_is = refl; nodes_are = is; wide = λ low e. absurd cc; small = omega (arith, capacity); nodes_few = omega (arith, is, few, ceil-few most entries (omega (arith, one)) some) }

  module _ {nodes level room : ℕ} (p : Planning most entries nodes level room) where
    pub planning-low : level ≤ 16
    planning-low = width-low most level (omega (arith, one)) (omega (arith, p.room_is, p.small))

    pub planning-some : 0 < room
    planning-some = omega (arith, p.room_is, width-some most level (omega (arith, one)))

    pub planning-more : {more : ℕ} → more ≡ div_ceil entries (room * 8) → more ≤ 1099511627776
    planning-more is = omega (arith, is, few, ceil-few (room * 8) entries (omega (arith, planning-some)) some)

    pub planning-next : {more : ℕ} → room < entries → more ≡ div_ceil entries (room * 8) → Planning most entries (nodes + more) (suc level) (room * 8)
    planning-next within is = let e : room * 8 ≡ width most (suc level) = omega (arith, p.room_is) in record {
      room_is = e;
      nodes_are = omega (arith, p.nodes_are, is, ap (λ z. div_ceil entries z) e);
      wide = λ low same. (let s : low ≡ level = omega (arith, same) in omega (arith, ap (λ z. width most z) s, p.room_is, within));
      small = omega (arith, within, few);
      nodes_few = omega (arith, p.nodes_few, planning-more is);
    }

    pub planning-last : entries ≤ room → IsPlan most entries nodes level room
    planning-last enough = record { room_is = p.room_is; nodes_are = p.nodes_are; enough = enough; wide = p.wide; small = omega (arith, p.small); few = planning-low }

-- a node for each eight of those that hold so many entries
ceil-over : (n w : ℕ) → 0 < w → div_ceil (div_ceil n w) 8 ≡ div_ceil n (8 * w)
ceil-over n w some = let c = div_ceil n w in let d = div_ceil c 8 in
    let z = div_ceil_times n w some in let y = div_ceil_times c 8 (omega arith) in let x = div_ceil_times n (8 * w) (omega (arith, some)) in
    let low : c * w ≤ (d * 8) * w = mul-le-mul_right w y.0 in let high : (d * 8) * w ≤ (c + 7) * w = mul-le-mul_right w (omega (arith, y.1)) in
    rounded (8 * w) n d (div_ceil n (8 * w)) (omega (arith, z.0, low)) (omega (arith, z.1, high)) x.0 x.1

ceil-many : (b a : ℕ) → 0 < b → b < a → 1 < div_ceil a b
ceil-many b a some many = let z = div_ceil_times a b some in elim (cases_lt 1 (div_ceil a b)) [
  | inl high ↦ high
  | inr low ↦ absurd (let e : div_ceil a b * b ≤ 1 * b = mul-le-mul_right b low in omega (arith, e, z.0, many))
]

pub over-one : (levels count : ℕ) → count ≤ 1 → nodes_over levels count ≡ 0
over-one zero count low = refl
over-one (suc levels) count low = elim (cases_lt 1 count) [ inl high ↦ absurd (omega (arith, high, low)) | inr few ↦ (let e : nat_lt 1 count ≡ false = grind arith in rw e refl) ]

pub over-more : (levels count : ℕ) → 1 < count → nodes_over (suc levels) count ≡ div_ceil count 8 + nodes_over levels (div_ceil count 8)
over-more levels count many = let e : nat_lt 1 count ≡ true = grind arith in rw e refl

low-width : (most level : ℕ) → 0 < most → level < width most level
low-width most zero some = some
low-width most (suc level) some = omega (arith, low-width most level some)

-- the nodes up to a level below which there was too little room, and those above it
fewest-up : (most n level left : ℕ) → 0 < most → left + level ≡ n → ((low : ℕ) → level ≡ suc low → width most low < n) →
    fewest most n ≡ need_of most level n + nodes_over left (div_ceil n (width most level))
fewest-up most n zero left some is wide = let e : left ≡ n = omega (arith, is) in omega (arith, ap (λ z. nodes_over z (div_ceil n most)) e)
fewest-up most n (suc level) left some is wide = let w = width-some most level some in
    let below : (low : ℕ) → level ≡ suc low → width most low < n = λ low e. omega (arith, wide level refl, ap (λ z. width most z) e) in
    let ih = fewest-up most n level (suc left) some (omega (arith, is)) below in
    let o = over-more left (div_ceil n (width most level)) (ceil-many (width most level) n w (wide level refl)) in
    let c = ceil-over n (width most level) w in omega (arith, ih, o, c, ap (λ z. nodes_over left z) c)

-- a plan has as many nodes as the definition
pub plan-fewest : {most entries nodes level room : ℕ} → 0 < most → 0 < entries → IsPlan most entries nodes level room → nodes ≡ fewest most entries
plan-fewest {most} {entries} {level = level} {room} some any p =
    let low : level ≤ entries = high level p.wide in
    let e : (entries - level) + level ≡ entries = omega (arith, low) in let w = width-some most level some in
    let one = ceil-one (width most level) entries any (omega (arith, p.enough, p.room_is)) in
    omega (arith, p.nodes_are, fewest-up most entries level (entries - level) some e p.wide, over-one (entries - level) (div_ceil entries (width most level)) (omega (arith, one)))
  where
    high : (l : ℕ) → ((low : ℕ) → l ≡ suc low → width most low < entries) → l ≤ entries
    high zero wide = omega arith
    high (suc l) wide = omega (arith, wide l refl, low-width most l some)

-- no entry takes no node
pub fewest-none : (most : ℕ) → fewest most 0 ≡ 0
fewest-none zero = refl
fewest-none (suc most) = omega (arith, ceil-none (suc most) (omega arith))

leaves-many : (c most n room : ℕ) → n ≤ c * most → room * most < n → room < c
leaves-many c most n room within many = elim (cases_lt room c) [
  | inl high ↦ high
  | inr low ↦ absurd (let b : c * most ≤ room * most = mul-le-mul_right most low in omega (arith, b, within, many))
]

-- entries that fill more leaves than there is room for take more nodes than that
pub fewest-many : (most entries room : ℕ) → 0 < most → room * most < entries → room < fewest most entries
fewest-many most entries room some many = let z = div_ceil_times entries most some in omega (arith, leaves-many (div_ceil entries most) most entries room z.0 many)

-- a fit level has nodes enough
fit-many : (half most : ℕ) (level : List ℕ) → IsFitLevel half most level → sum_by (λ size. size) level ≤ length level * most
fit-many half most [] fit = omega arith
fit-many half most (size ∷ rest) fit = omega (arith, fit.1, sum_by-cons (λ (n : ℕ). n) size rest, fit-many half most rest fit.2)

nodes-cons : (level : List ℕ) (levels : List (List ℕ)) → node_count (level ∷ levels) ≡ length level + node_count levels
nodes-cons level levels = sum_by-cons (λ (level : List ℕ). length level) level levels

-- fit levels above as many nodes or more have as many nodes or more
least-above : (left count n : ℕ) (levels : List (List ℕ)) → count ≤ n → IsFitAbove n levels → count + nodes_over left count ≤ n + node_count levels
least-above zero count n levels within fit = omega (arith, within)
least-above (suc left) count n [] within fit = omega (arith, within, fit, over-one (suc left) count (omega (arith, within, fit)))
least-above (suc left) count n (level ∷ levels) within fit = elim (cases_lt 1 count) [
  | inl many ↦ (let z = div_ceil_times count 8 (omega arith) in
      let short : div_ceil count 8 ≤ length level = omega (arith, z.1, fit-many 4 8 level fit.2, fit.1, within) in
      omega (arith, within, over-more left count many, least-above left (div_ceil count 8) (length level) levels short fit.3, nodes-cons level levels))
  | inr few ↦ omega (arith, within, over-one (suc left) count (omega (arith, few)))
]

shorter : (most a b e : ℕ) → a * most < e + most → e ≤ b * most → a ≤ b
shorter most a b e less many = grind (arith, less, many)

-- no fit tree of so many entries has fewer nodes
pub fewest-least : (most entries : ℕ) → 0 < most → (sizes : List (List ℕ)) → IsFitFor most entries sizes → fewest most entries ≤ node_count sizes
fewest-least most entries one [] fit = omega (arith, fewest-none most, ap (λ z. fewest most z) fit)
fewest-least most entries one (leaves ∷ levels) fit = let z = div_ceil_times entries most one in
    let short = shorter most (div_ceil entries most) (length leaves) entries z.1 (omega (arith, fit.0, fit-many (half_of most) most leaves fit.1)) in
    omega (arith, least-above entries (div_ceil entries most) (length leaves) levels short fit.2, nodes-cons leaves levels)

-- entries that there is room for in leaves are few enough for a plan
pub plan-few : {most entries room : ℕ} → most ≤ 255 → room ≤ 4294967295 → entries ≤ room * most → entries ≤ 1099511627776
plan-few {most} {entries} {room} few low within = let b : room * most ≤ 4294967295 * most = mul-le-mul_right most low in omega (arith, b, few, within)

least-low : (half most : ℕ) → 1 ≤ half → half ≤ most → (rest : List ℕ) → least_size half rest ≤ most
least-low half most one low [] = omega (arith, one, low)
least-low half most one low (next ∷ rest) = low

-- a level of `count` nodes that has n entries or children: all nodes are full but the last
record Level (half most count n : ℕ) : Type 0 where
  pub sizes : List ℕ
  pub sum : sum_by (λ (size : ℕ). size) sizes ≡ n
  pub fit : IsFitLevel half most sizes
  pub long : length sizes ≡ count

level-of : (half most : ℕ) → 1 ≤ half → half ≤ most → (count n : ℕ) → 0 < n → n ≤ count * most → count * most < n + most → Level half most count n
level-of half most one low zero n some many less = absurd (omega (arith, some, many))
level-of half most one low (suc zero) n some many less = record {
  sizes = n ∷ [];
  sum = omega (arith, sum_by-cons (λ (size : ℕ). size) n []);
  fit = (some, omega (arith, many), tt);
  long = refl;
}
level-of half most one low (suc (suc count)) n some many less =
    let two : suc (suc count) * most ≡ most + (most + count * most) = omega arith in let next : suc count * most ≡ most + count * most = omega arith in
    let r = level-of half most one low (suc count) (n - most) (omega (arith, less, two)) (omega (arith, many, two, next)) (omega (arith, less, two, next)) in
    record {
      sizes = most ∷ r.sizes;
      sum = omega (arith, sum_by-cons (λ (size : ℕ). size) most r.sizes, r.sum, less, two);
      fit = (least-low half most one low r.sizes, omega arith, r.fit);
      long = omega (arith, r.long);
    }

-- the levels above
above-of : (left count : ℕ) → 1 ≤ count → count ≤ left → (levels : List (List ℕ)) × IsFitAbove count levels × (node_count levels ≡ nodes_over left count)
above-of zero count one few = absurd (omega (arith, one, few))
above-of (suc left) count one few = elim (cases_lt 1 count) [
  | inl many ↦ (let z = div_ceil_times count 8 (omega arith) in
      let l = level-of 4 8 (omega arith) (omega arith) (div_ceil count 8) count (omega (arith, one)) z.0 z.1 in
      let r = above-of left (div_ceil count 8) (omega (arith, z.0, one)) (omega (arith, z.1, many, few)) in
      (l.sizes ∷ r.0, (omega (arith, many), l.sum, l.fit, subst (λ k. IsFitAbove k r.0) (sym l.long) r.1), omega (arith, nodes-cons l.sizes r.0, l.long, r.2, over-more left count many)))
  | inr low ↦ ([], omega (arith, one, low), sym (over-one (suc left) count (omega (arith, low))))
]

-- there are no more nodes than entries
pub ceil-low : (k most n : ℕ) → 0 < most → k * most < n + most → k ≤ n
ceil-low k most n some less = elim (cases_lt n k) [
  | inl high ↦ absurd (let a : suc n * most ≤ k * most = mul-le-mul_right most high in let b : n * 1 ≤ n * most = mul-le-mul_left n some in let e : suc n * most ≡ most + n * most = omega arith in omega (arith, a, b, e, less))
  | inr low ↦ omega (arith, low)
]

half-low : (most : ℕ) → 0 < most → (1 ≤ half_of most) × (half_of most ≤ most)
half-low most some = (omega (arith, some), omega (arith, some))

-- a fit tree of so many entries has so many nodes
pub fewest-met : (most entries : ℕ) → 0 < most → (sizes : List (List ℕ)) × IsFitFor most entries sizes × (node_count sizes ≡ fewest most entries)
fewest-met most zero some = let z = div_ceil_times 0 most some in let none : div_ceil 0 most ≡ 0 = grind (arith, z.1, some) in ([], refl, omega (arith, none))
fewest-met most (suc n) some = let z = div_ceil_times (suc n) most some in let h = half-low most some in let k = div_ceil (suc n) most in
    let positive : 1 ≤ k = grind (arith, z.0) in let within : k ≤ suc n = ceil-low k most (suc n) some z.1 in
    let l = level-of (half_of most) most h.0 h.1 k (suc n) (omega arith) z.0 z.1 in
    let r = above-of (suc n) k positive within in
    (l.sizes ∷ r.0, (l.sum, l.fit, subst (λ c. IsFitAbove c r.0) (sym l.long) r.1), omega (arith, nodes-cons l.sizes r.0, l.long, r.2))
