-- Reading the structure token by token, to the final word or the first that is refused.
use Rattle.std.specs.Prelude.{◌≡◌, false, List, [], ◌∷◌, ℕ, zero, suc, ◌-◌}
use Rattle.fdt_bytes.specs.BigEndian.{word_at}
use Rattle.fdt_format.specs.declared.Areas.{Areas}
use Rattle.fdt_format.specs.declared.Entry.{Entry}
use Rattle.fdt_format.specs.declared.State.{State}
use Rattle.fdt_format.specs.declared.Step.{Step}
use Rattle.fdt_format.specs.declared.Step.TheVariants as step
use Rattle.fdt_format.specs.declared.Unreadable.{Unreadable}
use Rattle.fdt_format.specs.declared.Unreadable.TheVariants.{Structure}
use Rattle.fdt_format.specs.Step.{past, step_at}

-- refused, or the entries in order
pub data Walk : Type 0 where
  bad : Unreadable → Walk
  good : List Entry → Walk

-- an entry in front
abbrev pub more : Entry → Walk → Walk
more t (bad r) = bad r
more t (good ts) = good (t ∷ ts)

-- the token at a state, and the walk after it; a word 4 is skipped
abbrev pub follow : State → Step → (State → Walk) → Walk
follow s (step.Entry t s') on = more t (on s')
follow s step.Skip on = on (past s)
follow s step.Final on = good []
follow s (step.Bad r) on = bad r

-- at most k tokens; `token` reads the one at a state
unfoldable pub steps : (State → Step) → ℕ → State → Walk
steps token zero s = bad Structure
steps token (suc k) s = follow s (token s) (steps token k)

-- all tokens: each takes at least one byte, so this bound refuses nothing (`walk_step`)
unfoldable pub walk : List ℕ → Areas → State → Walk
walk b a s = steps (step_at b a) (suc (a.structure_end - s.at)) s

-- where a walk begins: no node is open, and no property may come here
unfoldable pub walk_start : Areas → State
walk_start a = record { at = a.structure; depth = 0; takes_property = false }

-- each entry has its token at its place
unfoldable pub TokensAt : List ℕ → List Entry → Type 0
TokensAt b [] = Unit {0}
TokensAt b (t ∷ ts) = (word_at b t.place ≡ t.token) × TokensAt b ts
