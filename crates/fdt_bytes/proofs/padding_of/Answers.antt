-- `padding_of` meets its contract: a multiple needs no padding, any other length what is missing to the next.
use mathlib.Core.Path.{sym}
use Rattle.fdt_bytes.proofs.Padding.{padding_none, padding_some}
use borrow.Author.Rules.{rules}
use Rattle.fdt_bytes.proofs.padding_of.Goals as goal

pub returns-then-offset-eq0 : goal.returns-then-offset-eq0
returns-then-offset-eq0 c =
    let a = c.args in sym (padding_none a.alignment a.len (search rules) c.if-offset-eq0.true)

pub returns : goal.returns
returns c =
    let a = c.args in sym (padding_some a.alignment a.len (search rules) c.if-offset-eq0.false)
