-- Two property calls have the same effect exactly if their names and the bytes of their values are the same.
use mathlib.Core.Path.{◌≡◌, ap, ◌∙◌}
use mathlib.Core.List.{List}
use mathlib.Core.Logic.{◌↔◌}
use Prim.Native.Nat.{ℕ}
use Rattle.fdt_values.specs.Value.{Value, value_bytes}
use Rattle.fdt_format.specs.Description.{◌≔◌}
use Rattle.fdt_format.specs.Events.{has}
use Rattle.fdt_calls.specs.Calls.{to_have, adds, effect}

pub same_effect : (name other : List ℕ) (v u : Value) → (effect (to_have name v) ≡ effect (to_have other u)) ↔ ((name ≡ other) × (value_bytes v ≡ value_bytes u))
unfolding effect
same_effect name other v u = (
  λ e. (cc, cc),
  λ e. ap (λ (l : List ℕ). adds (has (l ≔ value_bytes v))) e.0 ∙ ap (λ (l : List ℕ). adds (has (other ≔ l))) e.1,
)
