-- The values that a word of a line names.
use Rattle.bforest_run.specs.Numbers.{number_of}
use Rattle.std.specs.List.{after_first, before_first, position_or_len, slice_split}
use Rattle.std.specs.Prelude.{List, None, Option, Some, [], codes, filter, if◌then◌else◌, length, nat_le, nat_lt, not, option_map, ◌&&◌, ◌-◌, ◌==◌, ◌∷◌, ℕ, bytes_eq}
use Rattle.std.specs.declared.ops.Bound.TheVariants.{Excluded, Included, Unbounded}
use Rattle.std.specs.declared.ops.Bound.{Bound}

abbrev pub Word : Type 0
Word = List ℕ

-- the words of a line: the parts between its spaces
abbrev pub words_of : List ℕ → List Word
words_of line = filter (λ word. not (length word == 0)) (slice_split (λ b. b == 32) line)

-- the value of a word in a table
abbrev pub row_of : {X : Type 0} → List (Word × X) → Word → Option X
row_of [] word = None
row_of (row ∷ rows) word = if bytes_eq word row.0 then Some row.1 else row_of rows word

-- the index of the handle that a word names
abbrev pub handle_of : Word → Option ℕ
handle_of (digit ∷ []) = if nat_le 48 digit && nat_le digit 55 then Some (digit - 48) else None
handle_of word = None

-- the words for orders, with the indices of the orders
abbrev pub orders : List (Word × ℕ)
orders = (codes "up", 0) ∷ (codes "down", 1) ∷ (codes "tens", 2) ∷ []

abbrev pub order_of : Word → Option ℕ
order_of word = row_of orders word

-- a value, or `-` for no value
abbrev pub put_of : Word → Option (Option ℕ)
put_of word = if bytes_eq word (codes "-") then Some None else option_map Some (number_of word)

-- the bound of a word `-`, `=K` or `!K`
abbrev pub bound_of : Word → Option (Bound ℕ)
bound_of (mark ∷ key) =
    if bytes_eq (mark ∷ key) (codes "-") then Some Unbounded
    else if mark == 61 then option_map Included (number_of key)
    else if mark == 33 then option_map Excluded (number_of key)
    else None
bound_of [] = None

-- the bytes before the first byte c, and those behind it
abbrev pub cut_at : ℕ → Word → Option (Word × Word)
cut_at c word =
    if nat_lt (position_or_len (λ b. b == c) word) (length word)
    then Some (before_first (λ b. b == c) word, after_first (λ b. b == c) word)
    else None
