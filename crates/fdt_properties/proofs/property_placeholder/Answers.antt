-- `property_placeholder` meets its contract: once the tests are passed, only the value is left to be written.
use Rattle.std.proofs.Common.{ℕ, ap, ◌∙◌}
use Rattle.fdt_properties.specs.Placeholder.{framed}
use Rattle.fdt_properties.proofs.Filling.{placed}
use Rattle.fdt_properties.proofs.property_placeholder.Goals as goal

pub returns : goal.returns
returns c = λ v k.
    placed c.in_ok-tested.ensures k c.store_name.ensures
    (c.put_frame.ensures ∙ ap (λ (n : ℕ). framed c.args.w.blob_used n c.in_ok-tested.tested.len c.in_ok-tested.tested.after.blob_used c.args.blob.now) c.offset_of-offset.ensures)
