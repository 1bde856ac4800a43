-- What contracts see of books: a forest, and the map of each resource in it.
use Rattle.bforest.specs.declared.map_forest.TheConstants.{MAP_LEAF}
use Rattle.bforest.specs.Forest.{Forest, Gives, IsTooMany, NeedsGrowth, Takes, limit_of, list_of, need_of, room_of, sizes_of, sizes_with, sizes_without}
use Rattle.bforest.specs.Refusal.{Full, Memory}
use Rattle.bforest_indexed.specs.Indexed.{Indexed}
use Rattle.bforest_indexed.specs.Indexed as indexed
use Rattle.interval_books.specs.Bookings.{AreApart, end_of, first_met, holding, with_booking, without_booking}
use Rattle.interval_books.specs.declared.book_error.BookError.TheVariants as why
use Rattle.interval_books.specs.declared.book_error.BookError.{BookError}
use Rattle.std.specs.Ordering.{nat_cmp}
use Rattle.std.specs.Prelude.{Err, List, None, Ok, OnErr, OnOk, Option, Result, Some, get_or, if◌then◌else◌, length, nat_lt, ok_or, option_map, ◌≡◌, ◌≢◌, ◌≤◌, ℕ}

-- The forest and the maps of books. Contracts read books by the words below alone.
pub record Books : Type 0 where
  pub forest : Forest ℕ ℕ
  pub maps : List (Option ℕ)

-- the table of all bookings
abbrev pub table : Books → Forest ℕ ℕ
table b = b.forest

-- the number of resources
abbrev pub resource_count : Books → ℕ
resource_count b = length b.maps

-- the map of a resource, which is empty where there is no such resource
abbrev pub map_of : Books → ℕ → Option ℕ
map_of b r = get_or b.maps r None

-- the bookings of a resource, in the order of their starts
abbrev pub bookings : Books → ℕ → List (ℕ × ℕ)
bookings b r = list_of (table b) (map_of b r)

-- the sizes of the nodes of a resource's tree
abbrev pub node_sizes : Books → ℕ → List (List ℕ)
node_sizes b r = sizes_of (table b) (map_of b r)

-- the bookings of each resource are apart
abbrev pub AreApartAll : Books → Type 0
AreApartAll b = (r : ℕ) → AreApart (bookings b r)

-- what contracts see of the maps of all resources
abbrev pub books_of : Indexed ℕ ℕ (Unit {0}) → Books
books_of m = record { forest = indexed.table m; maps = m.handles }

-- Why a booking can't be made, if it can't: the resource is unknown, the interval is empty, or it meets a
-- booked one.
abbrev pub objection : Books → ℕ → ℕ → ℕ → Option BookError
objection b r start end =
    if nat_lt r (resource_count b)
    then if nat_lt start end then option_map (λ x. why.Overlaps x.0 x.1) (first_met (bookings b r) start end) else Some why.EmptyInterval
    else Some why.UnknownResource

-- the number of slots that a booking takes
abbrev pub need : Books → ℕ → ℕ → ℕ
need b r start = need_of MAP_LEAF nat_cmp (table b) (map_of b r) start

-- The answers to a booking that takes d slots of f: an objection, if there is one. Else success, only where there is room for d slots; or
-- that there is no room; or that the table had to grow and there was no memory.
abbrev pub MayAnswer : Forest ℕ ℕ → ℕ → Option BookError → Result (Unit {0}) BookError → Type 0
MayAnswer f d (Some reason) result = result ≡ Err reason
MayAnswer f d None (Ok done) = d ≤ room_of f
MayAnswer f d None (Err why.UnknownResource) = ⊥
MayAnswer f d None (Err why.EmptyInterval) = ⊥
MayAnswer f d None (Err (why.Overlaps s e)) = ⊥
MayAnswer f d None (Err why.NotBooked) = ⊥
MayAnswer f d None (Err (why.Forest Full)) = IsTooMany d f
MayAnswer f d None (Err (why.Forest Memory)) = NeedsGrowth d f

-- what `book` of the resource r from start up to end returns and leaves
pub record Recorded (b : Books) (r start end : ℕ) (result : Result (Unit {0}) BookError) (b' : Books) : Type 0 where
  pub answer : MayAnswer (table b) (need b r start) (objection b r start end) result
  pub booked : OnOk result (bookings b' r ≡ with_booking (bookings b r) start end)
  pub others : (q : ℕ) → q ≢ r → bookings b' q ≡ bookings b q
  pub sizes : OnOk result (node_sizes b' r ≡ sizes_with MAP_LEAF nat_cmp (table b) (map_of b r) start)
  pub other_sizes : (q : ℕ) → q ≢ r → node_sizes b' q ≡ node_sizes b q
  pub account : OnOk result (Takes (need b r start) (table b) (table b'))
  pub refused : OnErr result (b' ≡ b)
  pub same_resources : resource_count b' ≡ resource_count b
  pub same_limit : limit_of (table b') ≡ limit_of (table b)
  pub was_apart : (q : ℕ) → AreApart (bookings b q)
  pub apart : (q : ℕ) → AreApart (bookings b' q)

-- the end of the booking of r that begins at start, or why there is none
abbrev pub end_at : Books → ℕ → ℕ → Result ℕ BookError
end_at b r start = if nat_lt r (resource_count b) then ok_or (end_of (bookings b r) start) why.NotBooked else Err why.UnknownResource

-- what `cancel` of the booking of r that begins at start returns and leaves
pub record Cancelled (b : Books) (r start : ℕ) (result : Result ℕ BookError) (b' : Books) : Type 0 where
  pub answer : result ≡ end_at b r start
  pub cancelled : OnOk result (bookings b' r ≡ without_booking (bookings b r) start)
  pub others : (q : ℕ) → q ≢ r → bookings b' q ≡ bookings b q
  pub sizes : node_sizes b' r ≡ sizes_without MAP_LEAF nat_cmp (table b) (map_of b r) start
  pub other_sizes : (q : ℕ) → q ≢ r → node_sizes b' q ≡ node_sizes b q
  pub account : Gives (node_sizes b r) (node_sizes b' r) (table b) (table b')
  pub refused : OnErr result (b' ≡ b)
  pub same_resources : resource_count b' ≡ resource_count b
  pub same_limit : limit_of (table b') ≡ limit_of (table b)
  pub was_apart : (q : ℕ) → AreApart (bookings b q)
  pub apart : (q : ℕ) → AreApart (bookings b' q)

-- the booking of r that contains a moment, or that r is unknown
abbrev pub at_moment : Books → ℕ → ℕ → Result (Option (ℕ × ℕ)) BookError
at_moment b r moment = if nat_lt r (resource_count b) then Ok (holding (bookings b r) moment) else Err why.UnknownResource
