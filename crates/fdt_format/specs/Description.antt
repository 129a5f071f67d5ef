-- What a blob describes: reservations, the boot number and the nodes (Devicetree Specification v0.4, sections 2.2 and 5.1).
use Rattle.std.specs.Prelude.{List, ℕ}

infix 50 ◌≔◌
-- a property: its name and the bytes of its value
pub data Property : Type 0 where
  ◌≔◌ : List ℕ → List ℕ → Property

-- nodes in their order: no more; or a node with its name, its properties and its children, and then the nodes after it
pub data Nodes : Type 0 where
  no_more : Nodes
  node : (name : List ℕ) → (properties : List Property) → (children : Nodes) → (later : Nodes) → Nodes

-- reserved memory: its address and its size
pub data Reservation : Type 0 where
  reservation : (address : ℕ) → (size : ℕ) → Reservation

-- what a blob says: the reservations in order, the boot processor's number, and the nodes in order
pub record Description : Type 0 where
  pub reservations : List Reservation
  pub boot : ℕ
  pub nodes : Nodes
