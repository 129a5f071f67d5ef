-- `intern_string` meets its contract: each return is one of the three results.
use mathlib.Core.Path.{sym}
use native.Mathlib.Omega.{arith}
use Rattle.fdt_strings.proofs.Places.{interned_known, interned-new, interned_full}
use Rattle.fdt_strings.proofs.intern_string.Goals as goal

pub returns-in-Some : goal.returns-in-Some
returns-in-Some c = sym (interned_known _ _ _ _ (sym c.in-Some.ensures))

pub returns-then-saturating_sub-name : goal.returns-then-saturating_sub-name
returns-then-saturating_sub-name c = sym (interned_full _ _ _ (sym c.in_default.ensures) (omega arith))

pub returns : goal.returns
returns c = sym (interned-new _ _ _ (sym c.in_default.ensures) (omega arith))
