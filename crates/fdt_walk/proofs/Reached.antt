-- A reader's walk stops exactly at a state that is reached and whose token is wrong, so never at a word 4.
use mathlib.Core.Logic.{◌⊎◌, inl, inr, ◌↔◌}
use mathlib.Core.Path.{◌≡◌, refl, sym, ap, subst, ◌∙◌}
use mathlib.Core.List.{List}
use Prim.Native.Nat.{ℕ, zero, suc, ◌+◌, ◌-◌, ◌≤◌, ◌<◌}
use native.Mathlib.Omega.{arith}
use borrow.Author.Tests.{ltb-true, ltb-false, lt-ltb, le-ltb}
use lib.Dec.{ltb}
use Rattle.fdt_bytes.specs.BigEndian.{word_at}
use Rattle.fdt_format.specs.declared.Areas.{Areas}
use Rattle.fdt_format.specs.declared.Entry.{Entry}
use Rattle.fdt_format.specs.declared.State.{State}
use Rattle.fdt_format.specs.declared.Step.{Step}
use Rattle.fdt_format.specs.declared.Step.TheVariants as step
use Rattle.fdt_format.specs.declared.Unreadable.{Unreadable as Reason}
use Rattle.fdt_format.specs.declared.Unreadable.TheVariants.{Structure, NameOffset}
use Rattle.fdt_format.specs.Moves.{Moved}
use Rattle.fdt_format.specs.Step.{past, step_at}
use Rattle.fdt_format.specs.Tokens.{skip_token}
use Rattle.fdt_format.specs.Walk.{walk_start}
use Rattle.fdt_format.proofs.Steps.{by_test, Stepped, step_stepped, step_skip, skip_moved}
use Rattle.fdt_format.proofs.Written.{SkipsNone, at_final, at_entry}
use Rattle.fdt_walk.specs.declared.Fault.{Fault}
use Rattle.fdt_walk.specs.declared.Refusal.{Refusal}
use Rattle.fdt_walk.specs.declared.Refusal.TheVariants.{Unreadable}
use Rattle.fdt_walk.specs.Depth.{most_open}
use Rattle.fdt_walk.specs.Reached.{Reached, first, next, skipped, Wrong, structure, name_offset, depth, Meets}
use Rattle.fdt_walk.specs.ReaderWalk.{ReaderWalk, stops, reads, more, refused_at, capped, reader_steps, reader_walk}
use Rattle.fdt_walk.proofs.Walked.{reader_step}

more-stops : (t : Entry) (w : ReaderWalk) (f : Fault) → more t w ≡ stops f → w ≡ stops f
more-stops t (stops g) f q = q
more-stops t (reads ts) f q = absurd (let z : ◌≡◌ {A = ℕ} 0 1 = cc in omega arith)

module _ (b : List ℕ) (a : Areas) where
  -- ---- a walk that stops has met something wrong

  module _ (f : Fault) where
    here : (s : State) → Reached b a s → {r : Refusal} → Wrong b a s r → refused_at s.at r ≡ stops f → Meets b a f
    here s h {r} w q = let e : record { refusal = r; place = s.at } ≡ f = cc in subst (Meets b a) e (record { state = s; reached = h; wrong = w; place = refl })

    by_reason : (s : State) → Reached b a s → (reason : Reason) → step_at b a s ≡ step.Bad reason → (reason ≡ Structure) ⊎ (reason ≡ NameOffset)
        → refused_at s.at (Unreadable reason) ≡ stops f → Meets b a f
    by_reason s h reason e (inl k) q = here s h (structure (rw k at e)) (rw k at q)
    by_reason s h reason e (inr k) q = here s h (name_offset (rw k at e)) (rw k at q)

    by_step : (on : State → ReaderWalk) (s : State) → Reached b a s → ((s' : State) → Reached b a s' → Moved a s s' → on s' ≡ stops f → Meets b a f)
        → (x : Step) → step_at b a s ≡ x → Stepped b a s x → capped s x on ≡ stops f → Meets b a f
    unfolding Stepped capped
    by_step on s h ih (step.Entry t s') e k =
        by_test (λ (w : ReaderWalk). w ≡ stops f → Meets b a f) (ltb most_open s'.depth) _ _
        (λ d. here s h (depth e (ltb-true _ _ d)))
        λ d q. ih s' (next h e (ltb-false _ _ d)) k.0 (more-stops t (on s') f q)
    by_step on s h ih step.Skip e k = ih (past s) (skipped h e) (skip_moved b a s k)
    by_step on s h ih step.Final e k = λ q. absurd (let z : ◌≡◌ {A = ℕ} 0 1 = cc in omega arith)
    by_step on s h ih (step.Bad reason) e k = by_reason s h reason e k

    by_steps : (k : ℕ) (s : State) → Reached b a s → a.structure_end - s.at < k → reader_steps b a k s ≡ stops f → Meets b a f
    unfolding reader_steps
    by_steps zero s h l q = absurd (omega arith)
    by_steps (suc k) s h l q =
        by_step (reader_steps b a k) s h (λ s' h' m. by_steps k s' h' (omega (arith, m.on, m.within))) (step_at b a s) refl (step_stepped b a s) q

  -- ---- something wrong stops the walk

  wrong-stops : {s : State} {r : Refusal} → Wrong b a s r → reader_walk b a s ≡ refused_at s.at r
  unfolding capped
  wrong-stops {s} (structure e) = reader_step b a s ∙ rw e
  wrong-stops {s} (name_offset e) = reader_step b a s ∙ rw e
  wrong-stops {s} (depth e d) = reader_step b a s ∙ rw (e, lt-ltb _ _ d)

  reached-stops : {s : State} → Reached b a s → (f : Fault) → reader_walk b a s ≡ stops f → reader_walk b a (walk_start a) ≡ stops f
  unfolding capped
  reached-stops first f q = q
  reached-stops (next {s} {t} h e d) f q = reached-stops h f (reader_step b a s ∙ rw (e, le-ltb _ _ d, q))
  reached-stops (skipped {s} h e) f q = reached-stops h f (reader_step b a s ∙ rw (e, q))

  pub stops_exactly : (f : Fault) → (reader_walk b a (walk_start a) ≡ stops f) ↔ Meets b a f
  unfolding reader_walk
  stops_exactly f = (
    λ q. by_steps f _ (walk_start a) first (omega arith) q,
    λ m. reached-stops m.reached f (wrong-stops m.wrong ∙ ap (λ (n : ℕ). refused_at n f.refusal) (sym m.place)),
  )

  -- ---- words 4

  -- no fault is at a whole word 4
  pub no_fault_at_4 : {f : Fault} → Meets b a f → f.place + 4 ≤ a.structure_end → word_at b f.place ≡ skip_token → ⊥
  no_fault_at_4 m h w = go m.wrong
    where
      skip : step_at b a m.state ≡ step.Skip
      skip = step_skip b a m.state (rw (← m.place) h) (rw (← m.place) w)

      go : {r : Refusal} → Wrong b a m.state r → ⊥
      go (structure e) = let z : ◌≡◌ {A = ℕ} 0 1 = cc skip in omega arith
      go (name_offset e) = let z : ◌≡◌ {A = ℕ} 0 1 = cc skip in omega arith
      go (depth e d) = let z : ◌≡◌ {A = ℕ} 0 1 = cc skip in omega arith

  -- after an entry a walk that skips none still does, and it is not at a word 4
  entry_on : {s : State} {t : Entry} {s' : State} → SkipsNone b a s → step_at b a s ≡ step.Entry t s' → SkipsNone b a s'
  entry_on (at_final q) e = absurd (let z : ◌≡◌ {A = ℕ} 0 1 = cc in omega arith)
  entry_on {s' = s'} (at_entry {s' = u} q n) e = let same : u ≡ s' = cc in subst (SkipsNone b a) same n

  not_skip : {s : State} → SkipsNone b a s → step_at b a s ≡ step.Skip → ⊥
  not_skip (at_final q) e = let z : ◌≡◌ {A = ℕ} 0 1 = cc in omega arith
  not_skip (at_entry q n) e = let z : ◌≡◌ {A = ℕ} 0 1 = cc in omega arith

  reached_none : {s : State} → SkipsNone b a (walk_start a) → Reached b a s → SkipsNone b a s
  reached_none n first = n
  reached_none n (next h e d) = entry_on (reached_none n h) e
  reached_none n (skipped h e) = absurd (not_skip (reached_none n h) e)

  -- if the walk skips none, no state that is reached is at a word 4
  pub none_at_4 : SkipsNone b a (walk_start a) → {s : State} → Reached b a s → s.at + 4 ≤ a.structure_end → word_at b s.at ≡ skip_token → ⊥
  none_at_4 n {s} h le w = not_skip (reached_none n h) (step_skip b a s le w)
