-- `ruled_out` meets its contract: if no place has the clues, no property has the offset.
use mathlib.Core.Path.{refl, ap, ◌∙◌}
use mathlib.Core.Bool.{not}
use native.Mathlib.Omega.{arith}
use Rattle.fdt_look_back.proofs.Filter as filter
use Rattle.fdt_look_back.proofs.ruled_out.Goals as goal

pub returns : goal.returns
returns c e =
    filter.ruled_out
    c.args.blob.now
    (λ i. omega (arith, c.type_inv.blob i))
    c.requires.2
    _ _ refl _
    c.next_gap.ensures
    (c.is_none.ensures ∙ ap not e)
