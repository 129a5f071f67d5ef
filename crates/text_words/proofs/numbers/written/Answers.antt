-- `written` has no number where the digits are no text.
use Rattle.std.proofs.Common.{rules}
use Rattle.text_words.proofs.Numerals.{digits_are_text}
use Rattle.text_words.proofs.numbers.written.Goals as goal

pub returns-in_err-ok-clause-none : goal.returns-in_err-ok-clause-none
returns-in_err-ok-clause-none c none n w = search (rules, digits_are_text c.args.base c.args.digits.now c.requires.high w.0.1)
