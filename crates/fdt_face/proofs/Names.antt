-- The names that the proofs of calls in place use, in one place.
pub use mathlib.Core.Path.{refl}
pub use mathlib.Core.List.{[], ◌∷◌}
pub use mir.Syntax.{named}
pub use base.Logic.{id⊢}
pub use denote.Builtin.{u8}
pub use denote.Slice.{shr_slice_vals, mut_slice_vals, mut_slice_Tells, shr_slice_Tells}
pub use Rattle.fdt_face.proofs.InPlace.{unasked}
pub use Rattle.fdt_face.proofs.Lending.{shared_slice, struct, lent_slice}
pub use Rattle.fdt_face.proofs.Thin.{val_of, by_local}
pub use Rattle.fdt_face.proofs.Meets.{in_place}
pub use Rattle.fdt_face.proofs.Returned.{answered_unit, answered_node}
