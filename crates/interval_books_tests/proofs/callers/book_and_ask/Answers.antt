use Rattle.interval_books_tests.proofs.Asking.{answers}
use Rattle.interval_books_tests.proofs.callers.book_and_ask.Goals as goal

pub returns : goal.returns
returns c =
    answers c.args.books.now c.book.new.self c.args.resource c.args.interval.0 c.args.interval.1 c.args.moment c.at.result c.in_ok-book.ensures c.at.ensures.answer c.requires.from c.requires.before
