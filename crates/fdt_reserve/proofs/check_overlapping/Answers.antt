-- `check_overlapping` meets its contract. The outer invariant: each reservation before `i` shares no address with any after it; the inner: `i` shares none with those before `j`.
use mathlib.Core.Path.{refl, sym, ◌∙◌}
use mathlib.Core.Bool.{true≢false}
use Rattle.fdt_reserve.proofs.Overlap.{meets_entries, clear_more, clash, apart}
use native.Mathlib.Omega.{arith}
use Rattle.fdt_reserve.proofs.check_overlapping.Goals as goal

pub loop-j-preserved : goal.loop-j-preserved
loop-j-preserved c =
    let l = c.loop-j in
    (l.invariant.0, clear_more _ _ _ l.invariant.1 (sym (meets_entries _ _ _ _ _ _ c.share_address.ensures c.entry_at-one.ensures c.entry_at.ensures) ∙ c.if-share_address.false))

pub returns-after-pairs : goal.returns-after-pairs
returns-after-pairs c =
    let p = c.pairs in (
      λ e. absurd (true≢false (sym e ∙ p.invariant.0)),
      λ o. absurd (apart _ (λ k h. p.invariant.1 k (omega arith)) o),
    )

pub returns-then-share_address : goal.returns-then-share_address
returns-then-share_address c = (
  λ e. clash _ _ _ (λ q. absurd (omega arith)) (sym (meets_entries _ _ _ _ _ _ c.share_address.ensures c.entry_at-one.ensures c.entry_at.ensures) ∙ c.if-share_address.true),
  λ o. refl,
)
