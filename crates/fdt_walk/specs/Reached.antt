-- The states that a reader reaches in a structure, and the faults that it can meet at one.
use Rattle.std.specs.Prelude.{◌≡◌, List, ℕ, ◌≤◌, ◌<◌}
use Rattle.fdt_format.specs.declared.Areas.{Areas}
use Rattle.fdt_format.specs.declared.Entry.{Entry}
use Rattle.fdt_format.specs.declared.State.{State}
use Rattle.fdt_format.specs.declared.Step.TheVariants as step
use Rattle.fdt_format.specs.declared.Unreadable.TheVariants.{Structure, NameOffset}
use Rattle.fdt_format.specs.Step.{past, step_at}
use Rattle.fdt_format.specs.Walk.{walk_start}
use Rattle.fdt_walk.specs.declared.Fault.{Fault}
use Rattle.fdt_walk.specs.declared.Refusal.{Refusal}
use Rattle.fdt_walk.specs.declared.Refusal.TheVariants.{Unreadable, Depth}
use Rattle.fdt_walk.specs.Depth.{most_open}

-- a state that is reached from the start by entries and words 4, with at most 64 nodes open
pub data Reached (b : List ℕ) (a : Areas) : State → Type 0 where
  first : Reached b a (walk_start a)
  next : {s : State} {t : Entry} {s' : State} → Reached b a s → step_at b a s ≡ step.Entry t s' → s'.depth ≤ most_open → Reached b a s'
  skipped : {s : State} → Reached b a s → step_at b a s ≡ step.Skip → Reached b a (past s)

-- what is wrong with the token at a state: structure, name offset, or else depth
pub data Wrong (b : List ℕ) (a : Areas) (s : State) : Refusal → Type 0 where
  structure : step_at b a s ≡ step.Bad Structure → Wrong b a s (Unreadable Structure)
  name_offset : step_at b a s ≡ step.Bad NameOffset → Wrong b a s (Unreadable NameOffset)
  depth : {t : Entry} {s' : State} → step_at b a s ≡ step.Entry t s' → most_open < s'.depth → Wrong b a s Depth

-- a fault is met: a state is reached whose token is wrong, and the fault's place is that state's
pub record Meets (b : List ℕ) (a : Areas) (f : Fault) : Type 0 where
  pub state : State
  pub reached : Reached b a state
  pub wrong : Wrong b a state f.refusal
  pub place : f.place ≡ state.at
