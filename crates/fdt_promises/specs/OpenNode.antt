-- The node that is open after events and its properties so far; and the tests before 20, which asks for them.
use mathlib.Core.List.{List, [], ◌∷◌, ◌++◌, foldl}
use Rattle.std.specs.Prelude.{ℕ, length}
use Rattle.fdt_values.specs.Value.{Value, misfit_value, zero_value}
use Rattle.fdt_format.specs.Description.{Property}
use Rattle.fdt_format.specs.Distinct.{property_names}
use Rattle.fdt_format.specs.Events.{Event, begins, has, ends}
use Rattle.fdt_record.specs.Rows.{Row}
use Rattle.fdt_properties.specs.Property.{state_rows, name_rows}
use Rattle.fdt_calls.specs.Calls.{Desk}

-- the properties of the open node, and those of the nodes around it, the innermost first
pub record OpenNodes : Type 0 where
  pub own : List Property
  pub around : List (List Property)

-- no node is open
unfoldable pub none_open : OpenNodes
none_open = record { own = []; around = [] }

-- the node around is open again
unfoldable pub leave : List (List Property) → OpenNodes
leave [] = none_open
leave (ps ∷ around) = record { own = ps; around = around }

-- after one more event
unfoldable pub open_after : OpenNodes → Event → OpenNodes
open_after o (begins name) = record { own = []; around = o.own ∷ o.around }
open_after o (has p) = record { own = o.own ++ (p ∷ []); around = o.around }
open_after o ends = leave o.around

-- after events
unfoldable pub open_in : List Event → OpenNodes
open_in es = foldl open_after none_open es

-- the names of the properties that the open node has after events
abbrev pub open_names : List Event → List (List ℕ)
open_names es = property_names (open_in es).own

-- the events since a node began last, after one more event
unfoldable pub since : List Event → Event → List Event
since es (begins name) = []
since es (has p) = es ++ (has p ∷ [])
since es ends = es ++ (ends ∷ [])

-- the events since a node began last
unfoldable pub since_begin : List Event → List Event
since_begin es = foldl since [] es

-- the tests of a property that come before 20
abbrev pub rows_before20 : (name : List ℕ) → Value → Desk → List Row
rows_before20 name v s = state_rows s.writer (length s.blob) s.strings (misfit_value v) (zero_value v) ++ name_rows name
