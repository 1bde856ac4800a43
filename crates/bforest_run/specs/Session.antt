-- Whole inputs: lines that are answered in turn.
use Rattle.bforest_run.specs.Lines.{lines_of}
use Rattle.bforest_run.specs.Words.{Word, words_of}
use Rattle.bforest_run.specs.declared.reply.Reply.TheVariants.{Bad, Skipped, Told}
use Rattle.bforest_run.specs.declared.reply.Reply.{Reply}
use Rattle.std.proofs.Math.Logic.{◌⊎◌}
use Rattle.std.specs.Fmt.{decimal}
use Rattle.std.specs.Io.KnownBytes.{Appends}
use Rattle.std.specs.Prelude.{IsUtf8, List, Option, [], codes, string_bytes, length, take, ◌+◌, ◌++◌, ◌∷◌, ◌≡◌, ◌≢◌, ℕ}

-- the answer to a bad line, by its number
abbrev pub bad_text : ℕ → List ℕ
bad_text number = codes "line " ++ decimal number ++ codes ": bad\n"

module _ {S : Type 0} (tells : S → List Word → List ℕ → S → Type 0) (is_bad : List Word → Type 0) where
  -- a line that is no UTF-8 text, or whose words spell no line
  abbrev pub IsBad : List ℕ → Type 0
  IsBad line = (IsUtf8 line → ⊥) ⊎ is_bad (words_of line)

  -- the reply to a line, and what the line leaves
  abbrev pub Replies : S → List ℕ → Reply → S → Type 0
  Replies old line Skipped new = (words_of line ≡ []) × (new ≡ old)
  Replies old line (Told text) new = (said : List ℕ) × (string_bytes text ≡ said ++ codes "\n") × tells old (words_of line) said new
  Replies old line Bad new = IsBad line × (new ≡ old)

  -- A line without words has no answer; the answer of any other line is a text and a line feed.
  abbrev pub Answered : S → List ℕ → List ℕ → S → Type 0
  Answered old line text new =
      ((words_of line ≡ []) × (text ≡ []) × (new ≡ old))
      ⊎ ((said : List ℕ) × (text ≡ said ++ codes "\n") × tells old (words_of line) said new)

  -- lines answered in turn, each from the state that the line before it left
  abbrev pub AllAnswered : S → List (List ℕ) → List ℕ → S → Type 0
  AllAnswered old [] text new = (text ≡ []) × (new ≡ old)
  AllAnswered old (line ∷ lines) text new =
      (first rest : List ℕ) × (mid : S) × Answered old line first mid × AllAnswered mid lines rest new × (text ≡ first ++ rest)

  -- the text that is to be written for the line with this number
  abbrev pub IsFor : S → ℕ → List ℕ → List ℕ → Type 0
  IsFor old number line text = ((new : S) × Answered old line text new) ⊎ (IsBad line × (text ≡ bad_text number))

  -- a part of the text for a line was written, and not all of it
  pub record Breaks (now : S) (number : ℕ) (line : List ℕ) (old new : Option (List ℕ)) : Type 0 where
    pub written : List ℕ
    pub missing : List ℕ
    pub some : missing ≢ []
    pub next : IsFor now number line (written ++ missing)
    pub appended : Appends old new written

  -- the lines before one were answered, and that line is the next
  pub record Reached (start : S) (bytes : List ℕ) : Type 0 where
    pub before : List (List ℕ)
    pub line : List ℕ
    pub after : List (List ℕ)
    pub lines : lines_of bytes ≡ before ++ line ∷ after
    pub text : List ℕ
    pub end : S
    pub told : AllAnswered start before text end

  module _ (start : S) (bytes : List ℕ) (old new : Option (List ℕ)) where
    -- each line was answered
    pub record AllTold : Type 0 where
      pub text : List ℕ
      pub end : S
      pub told : AllAnswered start (lines_of bytes) text end
      pub appended : Appends old new text

    -- each line before the first bad one was answered, and then the bad line's number was written
    pub record ToldUpToBad : Type 0 where
      pub reached : Reached start bytes
      pub open reached use *
      pub bad : IsBad line
      pub appended : Appends old new (text ++ bad_text (length before + 1))

    -- the first `count` lines were answered
    pub record FirstTold : Type 0 where
      pub count : ℕ
      pub text : List ℕ
      pub end : S
      pub told : AllAnswered start (take count (lines_of bytes)) text end
      pub appended : Appends old new text

    -- each line before one was answered, and of the text for that one a part was written
    pub record BrokenOff : Type 0 where
      pub reached : Reached start bytes
      pub open reached use *
      pub written : List ℕ
      pub missing : List ℕ
      pub some : missing ≢ []
      pub next : IsFor end (length before + 1) line (written ++ missing)
      pub appended : Appends old new (text ++ written)

    -- what follows from a status
    pub record Outcome (status : ℕ) : Type 0 where
      pub all : status ≡ 0 → AllTold
      pub bad : status ≡ 2 → ToldUpToBad
      pub memory : status ≡ 3 → FirstTold
      pub failed : status ≡ 4 → Appends old new [] ⊎ BrokenOff
