-- How deep nodes are nested.
use Rattle.std.specs.Prelude.{ℕ, zero, suc}
use Rattle.fdt_format.specs.Description.{Nodes, no_more, node}

-- how many nodes may be open at once (document 02, request 1/14)
abbrev pub most_open : ℕ
most_open = 64

-- nodes are nested at most k deep
unfoldable pub NestedAtMost : ℕ → Nodes → Type 0
NestedAtMost k no_more = Unit {0}
NestedAtMost zero (node name properties children later) = ⊥
NestedAtMost (suc k) (node name properties children later) = NestedAtMost k children × NestedAtMost (suc k) later
