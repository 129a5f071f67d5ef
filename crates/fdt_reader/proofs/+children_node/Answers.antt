-- `node` and `children` call each other: what is to come of the pass stays the same. Each call has fewer nodes left to open, and each turn of the loop less of the structure.
use native.Mathlib.Omega.{arith}
use Rattle.fdt_reader.proofs.Passes.{at_fault, at_final, entered, less, after-property, at_end, fewer_calls, child_ended, child_less, child_stopped}
use Rattle.fdt_reader.proofs.+children_node.Goals as goal

pub children-returns-in-Refused : goal.children-returns-in-Refused
children-returns-in-Refused t c = at_fault _ _ c.loop-fault.invariant c.token_at-taken.ensures c.in-Refused.is

pub children-returns-in-Final : goal.children-returns-in-Final
children-returns-in-Final t c = at_final _ _ c.loop-fault.invariant c.token_at-taken.ensures c.in-Final.is

pub children-node-child-requires : goal.children-node-child-requires
children-node-child-requires t c =
    let e = entered _ _ c.loop-fault.invariant c.token_at-taken.ensures c.in-Entry.is in (
      omega (arith, fewer_calls _ _ e c.if-t-eq-FDT_BEGIN_NODE.true),
      (c.requires.0, (e.placed.stands, omega (arith, e.next.moved.on, e.turn.placed.few))),
    )

pub children-returns-in_default : goal.children-returns-in_default
children-returns-in_default t c =
    let e = entered _ _ c.loop-fault.invariant c.token_at-taken.ensures c.in-Entry.is in
    child_stopped _ _ e _ _ c.in_default.not-Ended c.node-child.ensures

pub children-loop-fault-smaller-then-t-eq-FDT_BEGIN_NODE :
    goal.children-loop-fault-smaller-then-t-eq-FDT_BEGIN_NODE
children-loop-fault-smaller-then-t-eq-FDT_BEGIN_NODE t c =
    let e = entered _ _ c.loop-fault.invariant c.token_at-taken.ensures c.in-Entry.is in
    child_less _ _ e _ _ c.in-Ended.ensures

pub children-loop-fault-preserved-then-t-eq-FDT_BEGIN_NODE :
    goal.children-loop-fault-preserved-then-t-eq-FDT_BEGIN_NODE
children-loop-fault-preserved-then-t-eq-FDT_BEGIN_NODE t c =
    let e = entered _ _ c.loop-fault.invariant c.token_at-taken.ensures c.in-Entry.is in
    child_ended _ _ e _ _ c.in-Ended.ensures c.if-t-eq-FDT_BEGIN_NODE.true

pub children-returns-then-t-eq-FDT_END_NODE : goal.children-returns-then-t-eq-FDT_END_NODE
children-returns-then-t-eq-FDT_END_NODE t c =
    let e = entered _ _ c.loop-fault.invariant c.token_at-taken.ensures c.in-Entry.is in
    at_end _ _ e _ c.put_entry.ensures c.if-t-eq-FDT_END_NODE.true

pub children-loop-fault-smaller : goal.children-loop-fault-smaller
children-loop-fault-smaller t c = less _ _ (entered _ _ c.loop-fault.invariant c.token_at-taken.ensures c.in-Entry.is)

pub children-loop-fault-preserved : goal.children-loop-fault-preserved
children-loop-fault-preserved t c =
    let e = entered _ _ c.loop-fault.invariant c.token_at-taken.ensures c.in-Entry.is in
    after-property _ _ e _ c.put_entry.ensures c.if-t-eq-FDT_BEGIN_NODE.false c.if-t-eq-FDT_END_NODE.false
