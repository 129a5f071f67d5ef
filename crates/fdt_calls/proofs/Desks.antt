-- Desks are equal if their parts are.
use mathlib.Core.Path.{◌≡◌}
use mathlib.Core.List.{List}
use Prim.Native.Nat.{ℕ}
use Rattle.fdt_record.specs.declared.Record.{Record}
use Rattle.fdt_calls.specs.Calls.{Desk}

-- desks with the same record and buffers
pub same-desk : {w v : Record} {b c t u p q : List ℕ} → w ≡ v → b ≡ c → t ≡ u → p ≡ q → ◌≡◌ {A = Desk} (record { writer = w; blob = b; strings = t; phandles = p }) (record { writer = v; blob = c; strings = u; phandles = q })
same-desk d e f g = λ i. record { writer = d i; blob = e i; strings = f i; phandles = g i }
