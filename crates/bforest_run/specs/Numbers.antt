-- The numbers that words spell.
use Rattle.std.specs.Char.{is_ascii_digit}
use Rattle.std.specs.List.{list_all}
use Rattle.std.specs.Prelude.{Bool, List, None, Option, Some, if◌then◌else◌, length, nat_le, nat_lt, true, ◌&&◌, ◌<◌, ◌^◌, ◌≡◌, ◌≤◌, ℕ}
use Rattle.std.specs.Str.Parse.{digits_value}

module _ (width bits : ℕ) (word : List ℕ) where
  -- the word has 1 to `width` digits and no other character, and its number is less than 2 ^ `bits`
  pub record IsNumeral : Type 0 where
    pub digits : list_all is_ascii_digit word ≡ true
    pub some : 0 < length word
    pub most : length word ≤ width
    pub fits : digits_value 10 word < 2 ^ bits

  -- whether the word is a numeral
  abbrev pub is_numeral : Bool
  is_numeral = list_all is_ascii_digit word && nat_lt 0 (length word) && nat_le (length word) width && nat_lt (digits_value 10 word) (2 ^ bits)

  -- the number of the word, if it is a numeral
  abbrev pub numeral : Option ℕ
  numeral = if is_numeral then Some (digits_value 10 word) else None

-- a number has 1 to 10 digits and 32 bits
abbrev pub IsNumber : List ℕ → Type 0
IsNumber word = IsNumeral 10 32 word

abbrev pub number_of : List ℕ → Option ℕ
number_of word = numeral 10 32 word

-- a time has 1 to 20 digits and 64 bits
abbrev pub IsTime : List ℕ → Type 0
IsTime word = IsNumeral 20 64 word

abbrev pub time_of : List ℕ → Option ℕ
time_of word = numeral 20 64 word
