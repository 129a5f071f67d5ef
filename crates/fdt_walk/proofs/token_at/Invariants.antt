-- `token_at` returns the token that is read after words 4, unless it opens one node too many: word by word, the token that is taken stays the same.
use Prim.Native.Nat.{◌-◌}
use Rattle.fdt_walk.specs.declared.Token.{Token}
use Rattle.fdt_walk.specs.Token.{Stands, Takes}
use Rattle.fdt_walk.proofs.token_at.Given as goal

abbrev pub invariant-loop-here : goal.invariant-loop-here
invariant-loop-here l = Stands l.a l.here × ((r : Token) → Takes l.blob l.a l.here r → Takes l.blob l.a l.initial.here r)

abbrev pub decreases-loop-here : goal.decreases-loop-here
decreases-loop-here l = l.a.structure_end - l.here.at
