-- Laws of distinct names: where no node has two properties of one name, each name has one value in a node.
use mathlib.Core.Path.{◌≡◌, sym, ap, ◌∙◌}
use mathlib.Core.List.Memᴰ
use mathlib.Core.List.{List, [], ◌∷◌, Memᴰ}
use Prim.Native.Nat.{ℕ}
use Rattle.fdt_format.specs.Description.{Property, ◌≔◌, Nodes}
use Rattle.fdt_format.specs.Distinct.{Distinct, property_names, PropertiesOf, here, below, after, DistinctNames}

-- its parts
abbrev name_of : Property → List ℕ
name_of (name ≔ value) = name

abbrev value_of : Property → List ℕ
value_of (name ≔ value) = value

mem_name : {p : Property} {ps : List Property} → Memᴰ p ps → Memᴰ (name_of p) (property_names ps)
unfolding property_names
mem_name (Memᴰ.head {x = n ≔ v} q) = Memᴰ.head (ap name_of q)
mem_name (Memᴰ.tail {x = n ≔ v} m) = Memᴰ.tail (mem_name m)

one_of : {name v u : List ℕ} (ps : List Property) → Distinct (property_names ps) → Memᴰ (name ≔ v) ps → Memᴰ (name ≔ u) ps → v ≡ u
unfolding property_names Distinct
one_of [] d m k = absurd (Memᴰ.not-nil m)
one_of ((n ≔ w) ∷ ps) d (Memᴰ.head q) (Memᴰ.head r) = ap value_of q ∙ sym (ap value_of r)
one_of ((n ≔ w) ∷ ps) d (Memᴰ.head q) (Memᴰ.tail k) = absurd (d.0 (rw (← ap name_of q) (mem_name k)))
one_of ((n ≔ w) ∷ ps) d (Memᴰ.tail m) (Memᴰ.head r) = absurd (d.0 (rw (← ap name_of r) (mem_name m)))
one_of ((n ≔ w) ∷ ps) d (Memᴰ.tail m) (Memᴰ.tail k) = one_of ps d.1 m k

value_in : (ps : List Property) {f : Nodes} {name v u : List ℕ} → DistinctNames f → PropertiesOf ps f → Memᴰ (name ≔ v) ps → Memᴰ (name ≔ u) ps → v ≡ u
unfolding DistinctNames
value_in ps d here m k = one_of ps d.0 m k
value_in ps d (below p) m k = value_in ps d.1 p m k
value_in ps d (after p) m k = value_in ps d.2 p m k

pub one_value : {f : Nodes} {ps : List Property} {name v u : List ℕ} → DistinctNames f → PropertiesOf ps f → Memᴰ (name ≔ v) ps → Memᴰ (name ≔ u) ps → v ≡ u
one_value {ps = ps} d p m k = value_in ps d p m k
