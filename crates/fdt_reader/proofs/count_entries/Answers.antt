-- `count_entries` answers what a pass without room comes to.
use Rattle.fdt_reader.proofs.Whole.{first-placed, never_ended, count_complete, count_faulty}
use Rattle.fdt_reader.proofs.count_entries.Goals as goal

pub children-requires : goal.children-requires
children-requires c = (c.requires.0, rw c.first.ensures (first-placed c.requires.1))

pub returns-in-Complete : goal.returns-in-Complete
returns-in-Complete c = count_complete (rw (c.in-Complete.is, c.first.ensures) at c.children.ensures)

pub returns-in-Refused : goal.returns-in-Refused
returns-in-Refused c = count_faulty (rw (c.in-Refused.is, c.first.ensures) at c.children.ensures)

pub returns-in-Ended : goal.returns-in-Ended
returns-in-Ended c = never_ended (rw (c.in-Ended.is, c.first.ensures) at c.children.ensures)
