-- What a call on the map of one resource leaves of all books.
use Rattle.bforest.specs.Refusal.{Full, Memory, OutOfMemory}
use Rattle.bforest_indexed.specs.Indexed.{ChangesAt, Indexed, InsertsAt, RemovesAt, count, entries, table}
use Rattle.interval_books.proofs.Apart.{cut-apart, put-apart}
use Rattle.interval_books.specs.Bookings.{AreApart, first_met}
use Rattle.interval_books.specs.Books.{AreApartAll, Cancelled, MayAnswer, Recorded, books_of, need, objection}
use Rattle.interval_books.specs.declared.book_error.BookError.TheVariants as why
use Rattle.interval_books.specs.declared.book_error.BookError.{BookError}
use Rattle.bforest.specs.Forest.{room_of}
use Rattle.bforest.specs.Entries.{value_for}
use Rattle.std.proofs.Common.{Err, None, Ok, OnErr, OnOk, Option, Result, Some, ap, if◌then◌else◌, inl, inr, refl, subst, sym, ◌<◌, ◌∙◌, ◌≡◌, ℕ}
use Rattle.std.proofs.lemmas.Bool.Decides.{eqb_tells}
use Rattle.std.proofs.lemmas.Bool.{cases_lt, lt-ltb}
use Rattle.std.specs.Option.{ok_or, option_map}
use Rattle.std.specs.Ordering.{nat_cmp}

abbrev Maps : Type 0
Maps = Indexed ℕ ℕ (Unit {0})

-- the answer of an insertion as that of a booking
abbrev pub as_booked : Result (Option ℕ) OutOfMemory → Result (Unit {0}) BookError
as_booked (Ok old) = Ok tt
as_booked (Err refused) = Err (why.Forest refused)

on_booked : (P : Type 0) (told : Result (Option ℕ) OutOfMemory) → OnOk told P → OnOk (as_booked told) P
on_booked P (Ok old) p = p
on_booked P (Err refused) p = tt

on_refused : (P Q : Type 0) (told : Result (Option ℕ) OutOfMemory) → (P → Q) → OnErr told P → OnErr (as_booked told) Q
on_refused P Q (Ok old) f p = tt
on_refused P Q (Err refused) f p = f p

on_found : (P : Type 0) (o : Option ℕ) → P → OnOk (ok_or o why.NotBooked) P
on_found P None p = tt
on_found P (Some x) p = p

on_none : (P : Type 0) (o : Option ℕ) → (o ≡ None → P) → OnErr (ok_or o why.NotBooked) P
on_none P None p = p refl
on_none P (Some x) p = tt

module _ (m : Maps) {r : ℕ} (within : r < count m) (a : AreApartAll (books_of m)) where
  -- the bookings stay apart where those of one resource do
  apart-after : {m' : Maps} → ChangesAt m r m' → AreApart (entries m' r) → AreApartAll (books_of m')
  apart-after {m'} b apart q = elim (eqb_tells q r) [
    | inl w ↦ subst (λ i. AreApart (entries m' i)) (sym w.1) apart
    | inr w ↦ subst AreApart (sym (b.others q w.1)) (a q)
  ]

  -- an interval was booked that meets none
  module _ {s e : ℕ} (some : s < e) (none : first_met (entries m r) s e ≡ None) where
    unobjected : objection (books_of m) r s e ≡ None
    unobjected = (λ j. if lt-ltb r (count m) within j then if lt-ltb s e some j then option_map (λ x. why.Overlaps x.0 x.1) (none j) else Some why.EmptyInterval else Some why.UnknownResource)

    allowed : {m' : Maps} (told : Result (Option ℕ) OutOfMemory) → InsertsAt 7 nat_cmp m r s e told m' → MayAnswer (table m) (need (books_of m) r s) None (as_booked told)
    allowed (Ok old) call = elim (cases_lt (room_of (table m)) (need (books_of m) r s)) [
      | inl many ↦ let bad = call.full.1 many in absurd (cc)
      | inr few ↦ few
    ]
    allowed (Err Full) call = call.full.0 refl
    allowed (Err Memory) call = call.memory refl

    pub apart-booked : {m' : Maps} (told : Result (Option ℕ) OutOfMemory) → InsertsAt 7 nat_cmp m r s e told m' → AreApartAll (books_of m')
    apart-booked (Ok old) call = apart-after call.beside (subst AreApart (sym call.put) (put-apart s e (entries m r) some (a r) none))
    apart-booked (Err refused) call = subst (λ n. AreApartAll (books_of n)) (sym call.refused) a

    pub recorded : {m' : Maps} (told : Result (Option ℕ) OutOfMemory) → InsertsAt 7 nat_cmp m r s e told m' → Recorded (books_of m) r s e (as_booked told) (books_of m')
    recorded {m'} told call = record {
      answer = subst (λ o. MayAnswer (table m) (need (books_of m) r s) o (as_booked told)) (sym unobjected) (allowed told call);
      booked = on_booked _ told call.put;
      others = call.beside.others;
      sizes = on_booked _ told call.sizes;
      other_sizes = call.beside.other_sizes;
      account = on_booked _ told call.account;
      refused = on_refused _ _ told (λ same. ap books_of same) call.refused;
      same_resources = call.beside.same_count;
      same_limit = call.beside.same_limit;
      was_apart = a;
      apart = apart-booked told call;
    }

  -- a booking was cancelled
  module _ {m' : Maps} {s : ℕ} {told : Option ℕ} (call : RemovesAt 7 nat_cmp m r s told m') where
    pub apart-cancelled : AreApartAll (books_of m')
    apart-cancelled = apart-after call.beside (subst AreApart (sym call.cut) (cut-apart (entries m r) s (a r)))

    pub cancelled : Cancelled (books_of m) r s (ok_or told why.NotBooked) (books_of m')
    cancelled = record {
      answer = ap (λ o. ok_or o why.NotBooked) call.value ∙ sym (ap (λ t. if t then ok_or (value_for nat_cmp (entries m r) s) why.NotBooked else Err why.UnknownResource) (lt-ltb r (count m) within));
      cancelled = on_found _ told call.cut;
      others = call.beside.others;
      sizes = call.sizes;
      other_sizes = call.beside.other_sizes;
      account = call.account;
      refused = on_none _ told (λ none. ap books_of (call.absent none));
      same_resources = call.beside.same_count;
      same_limit = call.beside.same_limit;
      was_apart = a;
      apart = apart-cancelled;
    }
