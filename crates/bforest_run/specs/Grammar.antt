-- The lines, and what their words spell.
use Rattle.bforest_calls.specs.declared.call.Act.TheVariants as act
use Rattle.bforest_calls.specs.declared.call.Act.{Act}
use Rattle.bforest_calls.specs.declared.call.Call.TheVariants as call
use Rattle.bforest_calls.specs.declared.call.Look.TheVariants as look
use Rattle.bforest_calls.specs.declared.call.Look.{Look}
use Rattle.bforest_calls.specs.declared.call.Side.TheVariants.{Back, Front}
use Rattle.bforest_calls.specs.declared.call.Side.{Side}
use Rattle.bforest_run.specs.Numbers.{number_of}
use Rattle.bforest_run.specs.Words.{Word, bound_of, cut_at, handle_of, order_of, put_of, row_of}
use Rattle.bforest_run.specs.declared.line.Line.TheVariants.{Holds, Made, Stat}
use Rattle.bforest_run.specs.declared.line.Line.{Line}
use Rattle.bforest_run.specs.declared.line.Verb.TheVariants as verb
use Rattle.bforest_run.specs.declared.line.Verb.{Verb}
use Rattle.std.specs.Global.{Global}
use Rattle.std.specs.Prelude.{List, None, Option, Some, Vec, [], bytes_eq, codes, if◌then◌else◌, option_and_then, option_map, ◌==◌, ◌≡◌, ◌∷◌, ℕ}
use Rattle.std.specs.declared.ops.Bound.{Bound}

-- all values, where each option has one
abbrev pub all2 : {A B : Type 0} → Option A → Option B → Option (A × B)
all2 (Some a) (Some b) = Some (a, b)
all2 a b = None

abbrev pub all3 : {A B C : Type 0} → Option A → Option B → Option C → Option (A × B × C)
all3 (Some a) (Some b) (Some c) = Some (a, b, c)
all3 a b c = None

abbrev pub all4 : {A B C D : Type 0} → Option A → Option B → Option C → Option D → Option (A × B × C × D)
all4 (Some a) (Some b) (Some c) (Some d) = Some (a, b, c, d)
all4 a b c d = None

abbrev pub all5 : {A B C D E : Type 0} → Option A → Option B → Option C → Option D → Option E → Option (A × B × C × D × E)
all5 (Some a) (Some b) (Some c) (Some d) (Some e) = Some (a, b, c, d, e)
all5 a b c d e = None

-- the first option that has a value
abbrev pub either : {A : Type 0} → Option A → Option A → Option A
either (Some a) other = Some a
either None other = other

-- the values that the words name, where each names one
abbrev pub all_of : {W X : Type 0} → (W → Option X) → List W → Option (List X)
all_of named [] = Some []
all_of named (word ∷ words) = option_map (λ all. all.0 ∷ all.1) (all2 (named word) (all_of named words))

-- the first words of lines
abbrev pub verbs : List (Word × Verb)
verbs =
    (codes "get", verb.Get) ∷ (codes "less", verb.Less) ∷ (codes "insert", verb.Insert) ∷ (codes "remove", verb.Remove) ∷ (codes "clear", verb.Clear)
    ∷ (codes "iter", verb.Iter) ∷ (codes "range", verb.Range) ∷ (codes "read", verb.Read) ∷ (codes "edit", verb.Edit) ∷ (codes "retain", verb.Retain)
    ∷ (codes "alias", verb.Alias) ∷ (codes "wipe", verb.Wipe) ∷ (codes "holds", verb.Holds) ∷ (codes "stat", verb.Stat) ∷ []

-- the handle of the words `H`
abbrev pub lone_of : List Word → Option ℕ
lone_of (H ∷ []) = handle_of H
lone_of words = None

-- the handle, the order and the key of the words `H O K`
abbrev pub keyed_of : List Word → Option (ℕ × ℕ × ℕ)
keyed_of (H ∷ O ∷ K ∷ []) = all3 (handle_of H) (order_of O) (number_of K)
keyed_of words = None

-- the handle, the order, the key and the value of the words `H O K V` of maps, or `H O K` of sets
abbrev pub inserted_map_of : List Word → Option (ℕ × ℕ × ℕ × ℕ)
inserted_map_of (H ∷ O ∷ K ∷ V ∷ []) = all4 (handle_of H) (order_of O) (number_of K) (number_of V)
inserted_map_of words = None

abbrev pub inserted_set_of : List Word → Option (ℕ × ℕ × ℕ × Unit {0})
inserted_set_of words = option_map (λ at. (at.0, at.1, at.2, tt)) (keyed_of words)

-- the handles of the words `I J`
abbrev pub pair_of : List Word → Option (ℕ × ℕ)
pair_of (I ∷ J ∷ []) = all2 (handle_of I) (handle_of J)
pair_of words = None

-- the end of a range that a letter names: `f` or `b`
abbrev pub side_of : ℕ → Option Side
side_of letter = if letter == 102 then Some Front else if letter == 98 then Some Back else None

-- the range that the words `H O LO HI ENDS` spell
abbrev pub range_of : List Word → Option (ℕ × ℕ × Bound ℕ × Bound ℕ × List Side)
range_of (H ∷ O ∷ LO ∷ HI ∷ ENDS ∷ []) = all5 (handle_of H) (order_of O) (bound_of LO) (bound_of HI) (all_of side_of ENDS)
range_of words = None

-- the script that the words `H O STEP ..` spell, with at least one step
abbrev pub script_of : {X : Type 0} → (Word → Option X) → List Word → Option (ℕ × ℕ × List X)
script_of named (H ∷ O ∷ step ∷ steps) = all3 (handle_of H) (order_of O) (all_of named (step ∷ steps))
script_of named words = None

-- the handle, the order, the value and the keys of the words `H O V K ..` of maps, or `H O K ..` of sets
abbrev pub retained_map_of : List Word → Option (ℕ × ℕ × Option ℕ × List ℕ)
retained_map_of (H ∷ O ∷ V ∷ keys) = all4 (handle_of H) (order_of O) (put_of V) (all_of number_of keys)
retained_map_of words = None

abbrev pub retained_set_of : List Word → Option (ℕ × ℕ × Option (Unit {0}) × List ℕ)
retained_set_of (H ∷ O ∷ keys) = all4 (handle_of H) (order_of O) (Some None) (all_of number_of keys)
retained_set_of words = None

-- the words for steps of a reading cursor without a part behind `=`
abbrev pub looks : List (Word × Look ℕ)
looks =
    (codes "empty", look.Empty) ∷ (codes "next", look.Next) ∷ (codes "prev", look.Prev) ∷ (codes "key", look.Key) ∷ (codes "value", look.Value)
    ∷ (codes "first", look.First) ∷ (codes "end", look.End) ∷ []

-- the step of a reading cursor with a part behind `=`
abbrev pub look_with : Word → Word → Option (Look ℕ)
look_with name part = if bytes_eq name (codes "goto") then option_map look.Goto (number_of part) else None

abbrev pub look_of : Word → Option (Look ℕ)
look_of word = either (row_of looks word) (option_and_then (λ parts. look_with parts.0 parts.1) (cut_at 61 word))

-- the words for steps of a cursor that writes in maps, without a part behind `=`
abbrev pub map_acts : List (Word × Act ℕ ℕ)
map_acts =
    (codes "empty", act.Empty) ∷ (codes "next", act.Next) ∷ (codes "prev", act.Prev) ∷ (codes "key", act.Key) ∷ (codes "value", act.Value)
    ∷ (codes "first", act.First) ∷ (codes "del", act.Remove) ∷ []

-- the words for steps of a cursor that writes in sets, without a part behind `=`
abbrev pub set_acts : List (Word × Act ℕ (Unit {0}))
set_acts =
    (codes "empty", act.Empty) ∷ (codes "next", act.Next) ∷ (codes "prev", act.Prev) ∷ (codes "key", act.Key)
    ∷ (codes "first", act.First) ∷ (codes "del", act.Remove) ∷ []

-- the key and the value of a word `K:V`
abbrev pub colon_pair_of : Word → Option (ℕ × ℕ)
colon_pair_of word = option_and_then (λ parts. all2 (number_of parts.0) (number_of parts.1)) (cut_at 58 word)

-- the step of a cursor that writes in maps, with a part behind `=`
abbrev pub map_act_with : Word → Word → Option (Act ℕ ℕ)
map_act_with name part =
    if bytes_eq name (codes "goto") then option_map act.Goto (number_of part)
    else if bytes_eq name (codes "put") then option_map (λ e. act.Put e.0 e.1) (colon_pair_of part)
    else if bytes_eq name (codes "set") then option_map act.Write (number_of part)
    else None

abbrev pub set_act_with : Word → Word → Option (Act ℕ (Unit {0}))
set_act_with name part =
    if bytes_eq name (codes "goto") then option_map act.Goto (number_of part)
    else if bytes_eq name (codes "put") then option_map (λ k. act.Put k tt) (number_of part)
    else None

abbrev pub map_act_of : Word → Option (Act ℕ ℕ)
map_act_of word = either (row_of map_acts word) (option_and_then (λ parts. map_act_with parts.0 parts.1) (cut_at 61 word))

abbrev pub set_act_of : Word → Option (Act ℕ (Unit {0}))
set_act_of word = either (row_of set_acts word) (option_and_then (λ parts. set_act_with parts.0 parts.1) (cut_at 61 word))

module _ {V : Type 0} where
  -- the lines without a list, which are the same for maps and sets
  abbrev pub simple_of : Verb → List Word → Option (Line V)
  simple_of verb.Get words = option_map (λ at. Made (call.Get at.0 at.1 at.2)) (keyed_of words)
  simple_of verb.Less words = option_map (λ at. Made (call.GetOrLess at.0 at.1 at.2)) (keyed_of words)
  simple_of verb.Remove words = option_map (λ at. Made (call.Remove at.0 at.1 at.2)) (keyed_of words)
  simple_of verb.Clear words = option_map (λ h. Made (call.Clear h)) (lone_of words)
  simple_of verb.Iter words = option_map (λ h. Made (call.Iter h)) (lone_of words)
  simple_of verb.Alias words = option_map (λ at. Made (call.Alias at.0 at.1)) (pair_of words)
  simple_of verb.Wipe [] = Some (Made call.ForestClear)
  simple_of verb.Holds words = option_map Holds (lone_of words)
  simple_of verb.Stat words = option_map Stat (lone_of words)
  simple_of other words = None

  -- the line is `range H O LO HI ENDS`
  abbrev pub SaysRange : List Word → Line V → Type 0
  SaysRange words line =
      (h c : ℕ) × (lo hi : Bound ℕ) × (ends : Vec Side Global)
      × (range_of words ≡ Some (h, c, lo, hi, ends.items)) × (line ≡ Made (call.Range h c lo hi ends))

  -- The line that is read is spelled; none is read exactly where none is spelled.
  abbrev pub Reads : (Line V → Type 0) → Option (Line V) → Type 0
  Reads Says (Some line) = Says line
  Reads Says None = (line : Line V) → Says line → ⊥

  -- the line is `edit H O STEP ..`
  abbrev pub SaysEdit : (Word → Option (Act ℕ V)) → List Word → Line V → Type 0
  SaysEdit act_of words line =
      (h c : ℕ) × (steps : Vec (Act ℕ V) Global) × (script_of act_of words ≡ Some (h, c, steps.items)) × (line ≡ Made (call.Edit h c steps))

  -- the line is `retain H O V K ..` of maps, or `retain H O K ..` of sets
  abbrev pub SaysRetain : (List Word → Option (ℕ × ℕ × Option V × List ℕ)) → List Word → Line V → Type 0
  SaysRetain retained_of words line =
      (h c : ℕ) × (put : Option V) × (keys : Vec ℕ Global)
      × (retained_of words ≡ Some (h, c, put, keys.items)) × (line ≡ Made (call.Retain h c keys put))

-- the line is `read H O STEP ..`
abbrev pub SaysRead : List Word → Line ℕ → Type 0
SaysRead words line =
    (h c : ℕ) × (steps : Vec (Look ℕ) Global) × (script_of look_of words ≡ Some (h, c, steps.items)) × (line ≡ Made (call.Read h c steps))

-- sets have no reading cursors
abbrev pub SaysNone : List Word → Line (Unit {0}) → Type 0
SaysNone words line = ⊥

-- The line that the words behind its verb spell, given what they spell where maps and sets differ: an entry, the line of a reading cursor,
-- a step of a writing one, and what is retained.
module _ {V : Type 0} (inserted_of : List Word → Option (ℕ × ℕ × ℕ × V)) (SaysRead : List Word → Line V → Type 0) (act_of : Word → Option (Act ℕ V))
    (retained_of : List Word → Option (ℕ × ℕ × Option V × List ℕ)) where
  abbrev pub Says : Verb → List Word → Line V → Type 0
  Says verb.Insert words line = option_map (λ at. Made (call.Insert at.0 at.1 at.2 at.3)) (inserted_of words) ≡ Some line
  Says verb.Range words line = SaysRange words line
  Says verb.Read words line = SaysRead words line
  Says verb.Edit words line = SaysEdit act_of words line
  Says verb.Retain words line = SaysRetain retained_of words line
  Says simple words line = simple_of simple words ≡ Some line

-- both, for maps and for sets
abbrev pub SaysMap : Verb → List Word → Line ℕ → Type 0
SaysMap = Says inserted_map_of SaysRead map_act_of retained_map_of

abbrev pub SaysSet : Verb → List Word → Line (Unit {0}) → Type 0
SaysSet = Says inserted_set_of SaysNone set_act_of retained_set_of

-- the line that words spell, given what the words behind the verb spell
module _ {V : Type 0} (Says : Verb → List Word → Line V → Type 0) where
  abbrev pub Spells : List Word → Line V → Type 0
  Spells [] line = ⊥
  Spells (first ∷ words) line = (v : Verb) × (row_of verbs first ≡ Some v) × Says v words line

abbrev pub SpellsMap : List Word → Line ℕ → Type 0
SpellsMap = Spells SaysMap

abbrev pub SpellsSet : List Word → Line (Unit {0}) → Type 0
SpellsSet = Spells SaysSet
