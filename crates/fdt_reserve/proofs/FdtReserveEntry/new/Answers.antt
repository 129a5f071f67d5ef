-- `FdtReserveEntry::new` meets its contract: its tests are those of the definition, without a sum that could wrap.
use borrow.Author.Tests.{eq-eqb, ne_eqb, le-leb, lt-leb}
use Prim.Native.Nat.{◌+◌, ◌^◌}
use Rattle.fdt_reserve.specs.Entry.{invalid, reserved}
use native.Mathlib.Omega.{arith}
use Rattle.fdt_reserve.proofs.FdtReserveEntry.new.Goals as goal

pub returns-then-size-eq0 : goal.returns-then-size-eq0
unfolding reserved invalid
returns-then-size-eq0 c =
    let a = c.args in simp (eq-eqb a.size 0 c.if-size-eq0.true)

pub returns-then-address-size : goal.returns-then-address-size
unfolding reserved invalid
returns-then-address-size c =
    let a = c.args in simp (ne_eqb a.size 0 c.if-size-eq0.false, le-leb (2 ^ 64) (a.address + a.size) (omega arith))

pub returns : goal.returns
unfolding reserved invalid
returns c =
    let a = c.args in simp (ne_eqb a.size 0 c.if-size-eq0.false, lt-leb (2 ^ 64) (a.address + a.size) (omega arith))
