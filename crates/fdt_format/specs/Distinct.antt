-- No name twice: among names, and in the nodes of a description (document 02, request 4/14).
use mathlib.Core.List.{List, [], ◌∷◌, Memᴰ}
use Rattle.std.specs.Prelude.{ℕ}
use Rattle.fdt_format.specs.Description.{Property, ◌≔◌, Nodes, no_more, node}

-- no name occurs twice
unfoldable pub Distinct : List (List ℕ) → Type 0
Distinct [] = Unit {0}
Distinct (name ∷ names) = (Memᴰ name names → ⊥) × Distinct names

-- the names of properties, in order
unfoldable pub property_names : List Property → List (List ℕ)
property_names [] = []
property_names ((name ≔ value) ∷ ps) = name ∷ property_names ps

-- these are the properties of one of the nodes
pub data PropertiesOf (ps : List Property) : Nodes → Type 0 where
  here : {name : List ℕ} {children later : Nodes} → PropertiesOf ps (node name ps children later)
  below : {name : List ℕ} {qs : List Property} {children later : Nodes} → PropertiesOf ps children → PropertiesOf ps (node name qs children later)
  after : {name : List ℕ} {qs : List Property} {children later : Nodes} → PropertiesOf ps later → PropertiesOf ps (node name qs children later)

-- no node has two properties of one name
unfoldable pub DistinctNames : Nodes → Type 0
DistinctNames no_more = Unit {0}
DistinctNames (node name properties children later) =
    Distinct (property_names properties) × DistinctNames children × DistinctNames later
