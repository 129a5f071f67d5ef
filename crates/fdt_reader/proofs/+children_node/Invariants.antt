-- `node` and `children` call each other: what is to come of the pass stays the same. Each call has fewer nodes left to open, and each turn of the loop less of the structure.
use Prim.Native.Nat.{suc, ◌-◌}
use Rattle.fdt_reader.proofs.Passes.{calls_below, Onward}
use Rattle.fdt_reader.proofs.+children_node.Given as goal

abbrev pub decreases-children : goal.decreases-children
decreases-children l = calls_below l.from.state

abbrev pub decreases-node : goal.decreases-node
decreases-node l = suc (calls_below l.next)

abbrev pub invariant-children-loop-fault : goal.invariant-children-loop-fault
invariant-children-loop-fault l = Onward l.blob l.a l.initial.list l.initial.c l.list l.c

abbrev pub decreases-children-loop-fault : goal.decreases-children-loop-fault
decreases-children-loop-fault l = l.a.structure_end - l.c.state.at
