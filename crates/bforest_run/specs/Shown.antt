-- The texts of answers.
use Rattle.bforest_calls.specs.declared.call.Answer.TheVariants as answer
use Rattle.bforest_calls.specs.declared.call.Answer.{Answer}
use Rattle.bforest_calls.specs.declared.call.Seen.TheVariants as seen
use Rattle.bforest_calls.specs.declared.call.Seen.{Seen}
use Rattle.bforest.specs.Refusal.{Full, Memory, OutOfMemory}
use Rattle.bforest_run.specs.declared.shown_answer.Told.TheVariants as told
use Rattle.bforest_run.specs.declared.shown_answer.Told.{Told}
use Rattle.std.specs.Fmt.{decimal}
use Rattle.std.specs.Prelude.{Bool, Err, List, None, Ok, Option, Result, Some, [], codes, false, true, ◌++◌, ◌∷◌, ℕ}

module _ {X : Type 0} (text : X → List ℕ) where
  -- texts, each after one space
  abbrev pub more_texts : List X → List ℕ
  more_texts [] = []
  more_texts (x ∷ xs) = codes " " ++ text x ++ more_texts xs

  -- texts, with one space between them
  abbrev pub texts : List X → List ℕ
  texts [] = []
  texts (x ∷ xs) = text x ++ more_texts xs

-- the text of a truth value
abbrev pub truth_text : Bool → List ℕ
truth_text true = codes "true"
truth_text false = codes "false"

-- the text of an optional number
abbrev pub number_text : Option ℕ → List ℕ
number_text (Some n) = decimal n
number_text None = codes "none"

-- the text of a refusal of a node
abbrev pub refusal_text : OutOfMemory → List ℕ
refusal_text Memory = codes "memory"
refusal_text Full = codes "full"

-- the text of the levels of a tree and the counts of the table
abbrev pub counts_text : (levels slots free : ℕ) → List ℕ
counts_text levels slots free = codes "levels " ++ decimal levels ++ codes " slots " ++ decimal slots ++ codes " free " ++ decimal free

-- Texts from those of a value, of an entry, and of the value that an insertion met.
module _ {V : Type 0} (value_text : Option V → List ℕ) (entry_text : ℕ × V → List ℕ) (old_text : Option V → List ℕ) where
  abbrev pub pair_text : Option (ℕ × V) → List ℕ
  pair_text (Some e) = entry_text e
  pair_text None = codes "none"

  abbrev pub put_text : Result (Option V) OutOfMemory → List ℕ
  put_text (Ok old) = old_text old
  put_text (Err why) = refusal_text why

  abbrev pub seen_text : Seen ℕ V → List ℕ
  seen_text (seen.Pair pair) = pair_text pair
  seen_text (seen.Key key) = number_text key
  seen_text (seen.Value value) = value_text value
  seen_text (seen.Put result) = put_text result
  seen_text (seen.Flag so) = truth_text so
  seen_text seen.Done = codes "ok"

  abbrev pub answer_text : Answer ℕ V → List ℕ
  answer_text (answer.Value value) = value_text value
  answer_text (answer.Pair pair) = pair_text pair
  answer_text (answer.Put result) = put_text result
  answer_text (answer.Pairs pairs) = codes "[" ++ texts entry_text pairs.items ++ codes "]"
  answer_text (answer.Script sights) = texts seen_text sights.items
  answer_text (answer.Made (Ok it)) = codes "ok"
  answer_text (answer.Made (Err why)) = refusal_text why
  answer_text (answer.Count n) = decimal n
  answer_text (answer.Changed so) = truth_text so
  answer_text (answer.United (Ok so)) = truth_text so
  answer_text (answer.United (Err why)) = refusal_text why
  answer_text (answer.Holds so) = truth_text so
  answer_text answer.Done = codes "ok"
  answer_text answer.NoIndex = codes "no index"
  answer_text answer.Dead = codes "dead"
  answer_text answer.Unordered = codes "unordered"
  answer_text answer.NotOffered = codes "not offered"

  -- the text of what a line is answered
  abbrev pub told_text : Told V → List ℕ
  told_text (told.Answer given) = answer_text given
  told_text (told.Truth so) = truth_text so
  told_text (told.Counts counts) = counts_text counts.levels counts.slots counts.free

-- Texts for maps: an entry is its key and its value, with a colon between them.
abbrev pub entry_text : ℕ × ℕ → List ℕ
entry_text e = decimal e.0 ++ codes ":" ++ decimal e.1

abbrev pub old_text : Option ℕ → List ℕ
old_text None = codes "new"
old_text (Some old) = codes "old:" ++ decimal old

abbrev pub map_text : Answer ℕ ℕ → List ℕ
map_text = answer_text number_text entry_text old_text

-- Texts for sets: an entry is its key, and a value is whether the key is present.
abbrev pub key_text : ℕ × Unit {0} → List ℕ
key_text e = decimal e.0

abbrev pub present_text : Option (Unit {0}) → List ℕ
present_text (Some it) = codes "true"
present_text None = codes "false"

abbrev pub old_key_text : Option (Unit {0}) → List ℕ
old_key_text None = codes "new"
old_key_text (Some it) = codes "old"

abbrev pub set_text : Answer ℕ (Unit {0}) → List ℕ
set_text = answer_text present_text key_text old_key_text
