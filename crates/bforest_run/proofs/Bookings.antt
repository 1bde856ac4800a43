-- Books at the start of a run.
use Rattle.bforest.specs.Forest.{empty, list_of, sizes_of}
use Rattle.bforest_run.proofs.Written.{Appends-none}
use Rattle.bforest_run.specs.Bookings.{AreNew}
use Rattle.bforest_run.specs.Session.{Outcome}
use Rattle.bforest_run.specs.Words.{Word}
use Rattle.interval_books.specs.Books.{Books}
use Rattle.std.proofs.Common.{IfSome, List, None, Option, Some, [], ap, get_or, refl, replicate, suc, zero, ◌≡◌, ℕ}
use Rattle.std.proofs.lemmas.List.{length-replicate}

-- each handle of new books is empty
all_none : (count r : ℕ) → get_or {A = Option ℕ} (replicate count None) r None ≡ None
all_none zero r = refl
all_none (suc count) zero = refl
all_none (suc count) (suc r) = all_none count r

-- books with nothing booked
abbrev pub unbooked : ℕ → Books
unbooked count = record { forest = empty 4294967295; maps = replicate count None }

pub unbooked-new : (count : ℕ) → AreNew count (unbooked count)
unbooked-new count = record {
  count = length-replicate count None;
  nothing = λ r. ap (list_of (empty 4294967295)) (all_none count r);
  sizes = λ r. ap (sizes_of (empty 4294967295)) (all_none count r);
  table = refl;
}

-- the outcome of a run whose books got no memory
pub none_told : {S : Type 0} (tells : S → List Word → List ℕ → S → Type 0) (is_bad : List Word → Type 0) (start : S) (bytes : List ℕ) (o : Option (List ℕ)) → Outcome tells is_bad start bytes o o 3
none_told tells is_bad start bytes o = record {
  all = λ e. absurd (cc);
  bad = λ e. absurd (cc);
  memory = λ _. record { count = 0; text = []; end = start; told = (refl, refl); appended = Appends-none o };
  failed = λ e. absurd (cc);
}

-- what holds of every value holds of an optional one
pub of_each : {A : Type 0} {P : A → Type 0} (o : Option A) → ((x : A) → P x) → IfSome o P
of_each None all = tt
of_each (Some x) all = all x
