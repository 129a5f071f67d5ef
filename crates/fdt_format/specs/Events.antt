-- Nodes as a list of events, in the order in which a structure has them, and back.
use Rattle.std.specs.Prelude.{List, [], ◌∷◌, ℕ}
use Rattle.std.proofs.Math.Option.{Option, none, some}
use Rattle.fdt_format.specs.Description.{Property, Nodes, no_more, node}

-- a node begins, the open node has a property, or the open node ends
pub data Event : Type 0 where
  begins : List ℕ → Event
  has : Property → Event
  ends : Event

-- the events of properties, and then others
unfoldable pub property_events : List Property → List Event → List Event
property_events [] others = others
property_events (p ∷ ps) others = has p ∷ property_events ps others

-- the events of nodes, and then others: a node's properties come before its children
unfoldable pub events : Nodes → List Event → List Event
events no_more others = others
events (node name properties children later) others =
    begins name ∷ property_events properties (events children (ends ∷ events later others))

-- what the last events of a structure mean: the properties and nodes that they add to the node open before them,
-- and for each node around it the nodes after it; or that they are out of place
pub data Meaning : Type 0 where
  misplaced : Meaning
  means : List Property → Nodes → List Nodes → Meaning

-- with one more event in front
unfoldable pub in_front : Event → Meaning → Meaning
in_front e misplaced = misplaced
in_front (has p) (means ps nodes around) = means (p ∷ ps) nodes around
in_front ends (means [] nodes around) = means [] no_more (nodes ∷ around)
in_front ends (means (p ∷ ps) nodes around) = misplaced
in_front (begins name) (means ps nodes []) = misplaced
in_front (begins name) (means ps nodes (later ∷ around)) = means [] (node name ps nodes later) around

-- what events mean
unfoldable pub meaning : List Event → Meaning
meaning [] = means [] no_more []
meaning (e ∷ es) = in_front e (meaning es)

-- the nodes, if every node has ended and no property is outside a node
unfoldable pub whole : Meaning → Option Nodes
whole misplaced = none
whole (means [] nodes []) = some nodes
whole (means [] nodes (later ∷ around)) = none
whole (means (p ∷ ps) nodes around) = none

-- the nodes of events: those whose events they are (`nodes_exactly`)
unfoldable pub nodes_of : List Event → Option Nodes
nodes_of es = whole (meaning es)
