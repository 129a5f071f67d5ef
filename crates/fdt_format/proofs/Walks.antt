-- The bound on a walk's tokens refuses nothing: each token moves the place on, and never past the structure's end.
use mathlib.Core.Path.{◌≡◌, refl, sym, ap, ◌∙◌}
use mathlib.Core.List.{List}
use Prim.Native.Nat.{ℕ, zero, suc, ◌+◌, ◌-◌, ◌≤◌, ◌<◌}
use native.Mathlib.Omega.{arith}
use Rattle.fdt_format.specs.declared.Areas.{Areas}
use Rattle.fdt_format.specs.declared.State.{State}
use Rattle.fdt_format.specs.declared.Step.{Step}
use Rattle.fdt_format.specs.declared.Step.TheVariants as step
use Rattle.fdt_format.specs.Moves.{Moved}
use Rattle.fdt_bytes.specs.BigEndian.{word_at}
use Rattle.fdt_format.specs.Step.{past, step_at}
use Rattle.fdt_format.specs.Tokens.{skip_token}
use Rattle.fdt_format.specs.Walk.{Walk, more, follow, steps, walk}
use Rattle.fdt_format.proofs.Steps.{Stepped, step_stepped, step_skip, skip_moved}

-- ---- any walk, whatever it tells

-- `step` tells what comes of a state, by what is told of the states that its token leads to; `run` makes at most so many steps
module _
    {A : Type 0} (a : Areas) (step : State → (State → A) → A)
    (same : (s : State) (g h : State → A) → ((s' : State) → Moved a s s' → g s' ≡ h s') → step s g ≡ step s h)
    (run : ℕ → State → A) (one_more : (k : ℕ) (s : State) → run (suc k) s ≡ step s (run k))
  where
    -- any bound above what is left gives the same
    fuel : (k l : ℕ) (s : State) → a.structure_end - s.at < k → a.structure_end - s.at < l → run k s ≡ run l s
    fuel zero l s p q = absurd (omega arith)
    fuel (suc k) zero s p q = absurd (omega arith)
    fuel (suc k) (suc l) s p q =
        one_more k s
        ∙ same s (run k) (run l) (λ s' m. fuel k l s' (omega (arith, m.on, m.within)) (omega (arith, m.on, m.within)))
        ∙ sym (one_more l s)

    -- all steps are the first and all steps after it
    pub first_step : (s : State) → run (suc (a.structure_end - s.at)) s ≡ step s (λ (s' : State). run (suc (a.structure_end - s'.at)) s')
    first_step s =
        one_more (a.structure_end - s.at) s
        ∙ same s (run (a.structure_end - s.at)) (λ (s' : State). run (suc (a.structure_end - s'.at)) s')
        λ s' m. fuel (a.structure_end - s.at) (suc (a.structure_end - s'.at)) s' (omega (arith, m.on, m.within)) (omega arith)

-- ---- the reading's walk

-- what follows a token is the same for two walks that agree after it
follow-same : (b : List ℕ) (a : Areas) (s : State) (x : Step) → Stepped b a s x → (g h : State → Walk) → ((s' : State) → Moved a s s' → g s' ≡ h s') → follow s x g ≡ follow s x h
unfolding Stepped
follow-same b a s (step.Entry t s') m g h same = ap (more t) (same s' m.0)
follow-same b a s step.Skip m g h same = ap (λ (w : Walk). follow s step.Skip (λ _. w)) (same (past s) (skip_moved b a s m))
follow-same b a s step.Final m g h same = refl
follow-same b a s (step.Bad r) m g h same = refl

-- a walk is its first token and the walk after it
pub walk_step : (b : List ℕ) (a : Areas) (s : State) → walk b a s ≡ follow s (step_at b a s) (walk b a)
unfolding walk steps
walk_step b a s =
    first_step a (λ (s : State). follow s (step_at b a s)) (λ s. follow-same b a s (step_at b a s) (step_stepped b a s)) (steps (step_at b a)) (λ _ _. refl) s

-- a word 4 at any state describes nothing: the walk from there is the walk from 4 bytes on
pub walk_skip : (b : List ℕ) (a : Areas) (s : State) → s.at + 4 ≤ a.structure_end → word_at b s.at ≡ skip_token → walk b a s ≡ walk b a (past s)
walk_skip b a s h w = walk_step b a s ∙ rw (step_skip b a s h w)
