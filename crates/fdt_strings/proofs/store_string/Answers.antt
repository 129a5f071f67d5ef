-- `store_string` meets its contract: the name is written into the part that is lent, and then its 0.
use Prim.Native.Nat.{◌-◌}
use native.Mathlib.Omega.{arith}
use borrow.Rule.Slice.PartMut.{same_len_mid}
use lib.ListN.{length, length-take, length-drop}
use Rattle.fdt_strings.proofs.Entries.{length-entry}
use Rattle.fdt_strings.proofs.Places.{stored}
use Rattle.fdt_strings.proofs.store_string.Goals as goal

pub append_bytes-requires : goal.append_bytes-requires
append_bytes-requires c = simp (length-take, length-drop) (omega (arith, length-entry c.args.name.now))

pub bounds-strings-end : goal.bounds-strings-end
bounds-strings-end c =
    let a = c.args in
    omega (arith, length-entry a.name.now, same_len_mid a.offset (length a.strings.now - a.offset) a.strings.now c.append_bytes.new.rest c.append_bytes.auto.rest)

pub returns : goal.returns
returns c =
    stored _ _ _ _ c.requires c.append_bytes.ensures
