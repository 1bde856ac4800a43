use Rattle.interval_books_tests.proofs.Asking.{restored}
use Rattle.interval_books_tests.proofs.callers.cancel_and_book.Goals as goal

pub returns : goal.returns
returns c =
    restored c.args.books.now c.cancel.new.self c.book.new.self c.args.resource c.args.start c.in_ok-end.end c.book.result c.in_ok-end.ensures c.book.ensures
