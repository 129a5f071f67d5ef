-- `property_name_valid` meets its contract: the length is tested first, and then the bytes.
use mathlib.Core.Path.{sym, ◌∙◌}
use mathlib.Core.Bool.{and-false}
use native.Mathlib.Omega.{arith}
use lib.ListN.{length}
use borrow.Author.Tests.{ltb-false, le-leb, lt-leb}
use Rattle.fdt_names.specs.Grammar.{matches}
use Rattle.fdt_names.specs.Names.{property_byte, property_name}
use Rattle.fdt_names.proofs.property_name_valid.Goals as goal
use Rattle.fdt_names.proofs.property_name_valid.Goals.{then-name-eq0-via-then-name-eq0, then-name-eq0-via-else-name-eq0+then-name-gt-PROPERTY_NAME_MAX_LEN}

pub returns-then-name-eq0 : goal.returns-then-name-eq0
unfolding matches property_name
returns-then-name-eq0 c =
    let n = length c.args.name.now in
    elim c.then-name-eq0.branch [
      | then-name-eq0-via-then-name-eq0 w ↦ sym (simp (lt-leb 1 n (omega arith)))
      | then-name-eq0-via-else-name-eq0+then-name-gt-PROPERTY_NAME_MAX_LEN w ↦ sym (simp (lt-leb n 31 (omega arith), and-false))
    ]

pub returns : goal.returns
unfolding matches property_name property_byte
returns c =
    let n = length c.args.name.now in
    c.all_valid_chars.ensures ∙ sym (simp (le-leb 1 n (omega arith), le-leb n 31 (omega (arith, ltb-false))))
