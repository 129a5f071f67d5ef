-- `append_u32` meets its contract: the bytes of `to_be_bytes` are those of the definition (`high_first`).
use mathlib.Core.Path.{ap, ◌∙◌}
use mathlib.Core.List.{List}
use Prim.Native.Nat.{ℕ}
use Rattle.fdt_bytes.specs.Splice.{over}
use Rattle.fdt_bytes.proofs.BigEndian.{high_first}
use Rattle.fdt_bytes.proofs.append_u32.Goals as goal

pub returns : goal.returns
returns c =
    c.append_bytes.ensures ∙ ap (λ (l : List ℕ). over l c.args.rest.now) (c.to_be_bytes.ensures ∙ high_first 4 c.args.val)
