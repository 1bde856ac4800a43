-- Lines about books: what their words spell, and their answers.
use Rattle.bforest.specs.Forest.{empty}
use Rattle.bforest_run.specs.Grammar.{all2, all3}
use Rattle.bforest_run.specs.Numbers.{number_of, time_of}
use Rattle.bforest_run.specs.Shown.{refusal_text}
use Rattle.bforest_run.specs.Words.{Word}
use Rattle.bforest_run.specs.declared.book_line.BookLine.TheVariants.{At, Book, Cancel}
use Rattle.bforest_run.specs.declared.book_line.BookLine.{BookLine}
use Rattle.bforest_run.specs.declared.shown_books.BookAnswer.TheVariants as answer
use Rattle.bforest_run.specs.declared.shown_books.BookAnswer.{BookAnswer}
use Rattle.interval_books.specs.Books.{Books, Cancelled, Recorded, at_moment, bookings, node_sizes, resource_count, table}
use Rattle.interval_books.specs.declared.book_error.BookError.TheVariants as why
use Rattle.interval_books.specs.declared.book_error.BookError.{BookError}
use Rattle.std.specs.Fmt.{decimal}
use Rattle.std.specs.Prelude.{Err, List, None, Ok, Option, Result, Some, [], bytes_eq, codes, if◌then◌else◌, option_map, ◌++◌, ◌∷◌, ◌≡◌, ℕ}

-- the booking that the words `R S E` spell
abbrev pub booking_of : List Word → Option BookLine
booking_of (R ∷ S ∷ E ∷ []) = option_map (λ b. Book b.0 b.1 b.2) (all3 (number_of R) (time_of S) (time_of E))
booking_of words = None

-- the cancellation that the words `R S` spell
abbrev pub cancelling_of : List Word → Option BookLine
cancelling_of (R ∷ S ∷ []) = option_map (λ c. Cancel c.0 c.1) (all2 (number_of R) (time_of S))
cancelling_of words = None

-- the question that the words `R T` spell
abbrev pub asking_of : List Word → Option BookLine
asking_of (R ∷ T ∷ []) = option_map (λ a. At a.0 a.1) (all2 (number_of R) (time_of T))
asking_of words = None

-- the line that words spell
abbrev pub book_line_of : List Word → Option BookLine
book_line_of [] = None
book_line_of (verb ∷ words) =
    if bytes_eq verb (codes "book") then booking_of words
    else if bytes_eq verb (codes "cancel") then cancelling_of words
    else if bytes_eq verb (codes "at") then asking_of words
    else None

-- two times, with a space between them
abbrev pub interval_text : ℕ → ℕ → List ℕ
interval_text start end = decimal start ++ codes " " ++ decimal end

-- the text of a refusal
abbrev pub why_text : BookError → List ℕ
why_text why.UnknownResource = codes "unknown"
why_text why.EmptyInterval = codes "empty"
why_text (why.Overlaps start end) = codes "overlaps " ++ interval_text start end
why_text why.NotBooked = codes "not booked"
why_text (why.Forest refused) = refusal_text refused

-- the texts of the answers to the three lines
abbrev pub booked_text : Result (Unit {0}) BookError → List ℕ
booked_text (Ok done) = codes "ok"
booked_text (Err reason) = why_text reason

abbrev pub cancelled_text : Result ℕ BookError → List ℕ
cancelled_text (Ok end) = decimal end
cancelled_text (Err reason) = why_text reason

abbrev pub held_text : Result (Option (ℕ × ℕ)) BookError → List ℕ
held_text (Ok (Some x)) = interval_text x.0 x.1
held_text (Ok None) = codes "none"
held_text (Err reason) = why_text reason

abbrev pub book_text : BookAnswer → List ℕ
book_text (answer.Booked result) = booked_text result
book_text (answer.Cancelled result) = cancelled_text result
book_text (answer.Held result) = held_text result

-- The text of the answer to a line, from the books before it to those after it.
abbrev pub TellsBooks : Books → BookLine → List ℕ → Books → Type 0
TellsBooks old (Book r start end) text new =
    (result : Result (Unit {0}) BookError) × Recorded old r start end result new × (text ≡ booked_text result)
TellsBooks old (Cancel r start) text new =
    (result : Result ℕ BookError) × Cancelled old r start result new × (text ≡ cancelled_text result)
TellsBooks old (At r moment) text new = (text ≡ held_text (at_moment old r moment)) × (new ≡ old)

-- the answer to the words of a line
abbrev pub BookTells : Books → List Word → List ℕ → Books → Type 0
BookTells old words text new = (line : BookLine) × (book_line_of words ≡ Some line) × TellsBooks old line text new

-- words that spell no line
abbrev pub IsBadForBooks : List Word → Type 0
IsBadForBooks words = book_line_of words ≡ None

-- books of this number of resources, with nothing booked
pub record AreNew (resources : ℕ) (b : Books) : Type 0 where
  pub count : resource_count b ≡ resources
  pub nothing : (r : ℕ) → bookings b r ≡ []
  pub sizes : (r : ℕ) → node_sizes b r ≡ []
  pub table : table b ≡ empty 4294967295
