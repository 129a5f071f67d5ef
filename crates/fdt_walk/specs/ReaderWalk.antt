-- What a reader finds in a structure: the entries that the reading finds, or the first fault (document 02, request 1/14).
use Rattle.std.specs.Prelude.{cond, List, [], ◌∷◌, ℕ, zero, suc, ◌-◌, ltb}
use Rattle.fdt_format.specs.declared.Areas.{Areas}
use Rattle.fdt_format.specs.declared.Entry.{Entry}
use Rattle.fdt_format.specs.declared.State.{State}
use Rattle.fdt_format.specs.declared.Step.{Step}
use Rattle.fdt_format.specs.declared.Step.TheVariants as step
use Rattle.fdt_format.specs.declared.Unreadable.TheVariants.{Structure}
use Rattle.fdt_format.specs.Step.{past, step_at}
use Rattle.fdt_walk.specs.declared.Fault.{Fault}
use Rattle.fdt_walk.specs.declared.Refusal.{Refusal}
use Rattle.fdt_walk.specs.declared.Refusal.TheVariants.{Unreadable, Depth}
use Rattle.fdt_walk.specs.Depth.{most_open}

-- the first fault, or the entries in order
pub data ReaderWalk : Type 0 where
  stops : Fault → ReaderWalk
  reads : List Entry → ReaderWalk

-- an entry in front
abbrev pub more : Entry → ReaderWalk → ReaderWalk
more t (stops f) = stops f
more t (reads ts) = reads (t ∷ ts)

-- refused, for what is at a place
abbrev pub refused_at : ℕ → Refusal → ReaderWalk
refused_at place r = stops (record { refusal = r; place = place })

-- the token at a state, and the walk after it; a word 4 is skipped. The reading's own refusals come first: structure, then name offset. Depth is the last.
unfoldable pub capped : State → Step → (State → ReaderWalk) → ReaderWalk
capped s (step.Entry t s') on = cond (ltb most_open s'.depth) (refused_at s.at Depth) (more t (on s'))
capped s step.Skip on = on (past s)
capped s step.Final on = reads []
capped s (step.Bad reason) on = refused_at s.at (Unreadable reason)

-- at most k tokens
unfoldable pub reader_steps : List ℕ → Areas → ℕ → State → ReaderWalk
reader_steps b a zero s = refused_at s.at (Unreadable Structure)
reader_steps b a (suc k) s = capped s (step_at b a s) (reader_steps b a k)

-- all tokens from a state on: each takes at least one byte, so this bound refuses nothing (`reader_step`)
unfoldable pub reader_walk : List ℕ → Areas → State → ReaderWalk
reader_walk b a s = reader_steps b a (suc (a.structure_end - s.at)) s
