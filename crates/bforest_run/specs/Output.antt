-- What writes append to the bytes that a writer holds, where those are known.
use Rattle.std.specs.Io.KnownBytes.{Appends, IsAtEnd}
use Rattle.std.specs.Prelude.{List, Option, [], ◌++◌, ◌≡◌, ◌≢◌, ◌≤◌, ℕ}

-- the old bytes stay, and some text is appended
pub record Grows (old new : Option (List ℕ)) : Type 0 where
  pub text : List ℕ
  pub appended : Appends old new text

-- What a run with this status has read and written, whatever its lines are: `left` is what the reader has left. Each line is answered only
-- after the whole input was read, and the old bytes of the writer stay in front.
pub record ReadsThenWrites (left old new : Option (List ℕ)) (status : ℕ) : Type 0 where
  pub whole : status ≤ 2 → IsAtEnd left
  pub read_first : (IsAtEnd left → ⊥) → new ≡ old
  pub grows : Grows old new

-- the old bytes stay, and a beginning of the line is appended
pub record AppendsBeginning (old new : Option (List ℕ)) (line : List ℕ) : Type 0 where
  pub beginning : List ℕ
  pub rest : List ℕ
  pub whole : line ≡ beginning ++ rest
  pub appended : Appends old new beginning

-- the old bytes stay, and a beginning of the line is appended, which is not all of it
pub record AppendsPart (old new : Option (List ℕ)) (line : List ℕ) : Type 0 where
  pub written : List ℕ
  pub missing : List ℕ
  pub some : missing ≢ []
  pub whole : line ≡ written ++ missing
  pub appended : Appends old new written
