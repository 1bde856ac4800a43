use Rattle.bforest_run.proofs.Bookings.{none_told, of_each, unbooked, unbooked-new}
use Rattle.bforest_run.proofs.Written.{Grows-same}
use Rattle.bforest_run.proofs.text.answer_books.Goals as goal
use Rattle.bforest_run.specs.Bookings.{BookTells, IsBadForBooks}
use Rattle.std.proofs.Common.{arith, refl}

pub returns-in-Err-clause-outcome : goal.returns-in-Err-clause-outcome
returns-in-Err-clause-outcome g c =
    let start = unbooked c.args.count in
    of_each (g.R.Read.remaining c.args.input.now) (λ bytes. (start, unbooked-new c.args.count, none_told BookTells IsBadForBooks start bytes (g.W.Write.contents c.args.output.now)))

pub returns-in-Err-clause-served : goal.returns-in-Err-clause-served
returns-in-Err-clause-served g c = record { whole = λ few. absurd (omega (arith, few)); read_first = λ _. refl; grows = Grows-same (g.W.Write.contents c.args.output.now) }
