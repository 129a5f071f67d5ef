-- How an entry changes the state. Only contracts of inner functions cite this.
use Rattle.std.specs.Prelude.{◌≡◌, true, false, List, ℕ, suc, ◌≤◌, ◌<◌}
use Rattle.fdt_format.specs.declared.Areas.{Areas}
use Rattle.fdt_format.specs.declared.Entry.{Entry}
use Rattle.fdt_format.specs.declared.State.{State}
use Rattle.fdt_format.specs.Description.{Property}
use Rattle.fdt_format.specs.Events.{begins, has, ends}
use Rattle.fdt_format.specs.Reading.{event_at}

-- the place moves on, and stays inside the structure
pub record Moved (a : Areas) (s s' : State) : Type 0 where
  pub on : s.at < s'.at
  pub within : s'.at ≤ a.structure_end

-- an entry begins a node, is a property where one may come, or ends a node
pub data Kind (b : List ℕ) (s : State) (t : Entry) (s' : State) : Type 0 where
  opens : (name : List ℕ) → event_at b t ≡ begins name → s'.depth ≡ suc s.depth → s'.takes_property ≡ true → Kind b s t s'
  adds : (p : Property) → event_at b t ≡ has p → s'.depth ≡ s.depth → s.takes_property ≡ true → s'.takes_property ≡ true → Kind b s t s'
  closes : event_at b t ≡ ends → suc s'.depth ≡ s.depth → s'.takes_property ≡ false → Kind b s t s'
