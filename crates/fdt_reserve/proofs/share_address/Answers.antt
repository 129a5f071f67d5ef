-- `share_address` meets its contract: of two ranges, the start of the later one decides.
use mathlib.Core.Path.{sym, ◌∙◌}
use Rattle.fdt_reserve.proofs.Overlap.{share_comm, share-empty, share-later}
use native.Mathlib.Omega.{arith}
use Rattle.fdt_reserve.proofs.share_address.Goals as goal

pub returns-then-other-eq0 : goal.returns-then-other-eq0
returns-then-other-eq0 c = sym (share-empty _ _ _ _ c.if-one-other.true c.if-other-eq0.true)

pub returns-then-one-other : goal.returns-then-one-other
returns-then-one-other c =
    sym (share-later _ _ _ _ c.if-one-other.true c.if-other-eq0.false)

pub returns-then-one-eq0 : goal.returns-then-one-eq0
returns-then-one-eq0 c = sym (share_comm _ _ _ _ ∙ share-empty _ _ _ _ (omega arith) c.if-one-eq0.true)

pub returns : goal.returns
returns c = sym (share_comm _ _ _ _ ∙ share-later _ _ _ _ (omega arith) c.if-one-eq0.false)
