-- The cap refuses exactly what is nested too deep: the reading's walk and the reader's go side by side, token by token.
use mathlib.Core.Logic.{◌↔◌}
use mathlib.Core.Path.{◌≡◌, refl, ap, subst}
use mathlib.Core.List.{List, [], ◌∷◌, map}
use Prim.Native.Nat.{ℕ, zero, suc, ◌-◌, ◌≤◌, ◌<◌}
use native.Mathlib.Omega.{arith}
use borrow.Author.Tests.{ltb-true, ltb-false}
use lib.Dec.{ltb}
use Rattle.fdt_format.specs.declared.Areas.{Areas}
use Rattle.fdt_format.specs.declared.Entry.{Entry}
use Rattle.fdt_format.specs.declared.State.{State}
use Rattle.fdt_format.specs.declared.Step.{Step}
use Rattle.fdt_format.specs.declared.Step.TheVariants as step
use Rattle.fdt_format.specs.declared.Unreadable.{Unreadable}
use Rattle.fdt_format.specs.Description.{Property, Nodes, no_more, node}
use Rattle.fdt_format.specs.Events.{Event, begins, has, ends, property_events, events}
use Rattle.fdt_format.specs.Moves.{Kind, opens, adds, closes}
use Rattle.fdt_format.specs.Reading.{event_at}
use Rattle.fdt_format.specs.Step.{past, step_at}
use Rattle.fdt_format.specs.Walk.{Walk, bad, good, more as goodMore, follow, steps, walk, walk_start}
use Rattle.fdt_format.proofs.Steps.{by_test, Stepped, step_stepped}
use Rattle.fdt_walk.specs.declared.Fault.{Fault}
use Rattle.fdt_walk.specs.declared.Refusal.TheVariants.{Depth}
use Rattle.fdt_walk.specs.Depth.{most_open, NestedAtMost}
use Rattle.fdt_walk.specs.ReaderWalk.{ReaderWalk, stops, reads, more, refused_at, capped, reader_steps, reader_walk}

-- ---- events that open at most k nodes at once

unfoldable pub Shallow : ℕ → List Event → Type 0
Shallow k [] = Unit {0}
Shallow k (has p ∷ es) = Shallow k es
Shallow k (ends ∷ es) = Shallow (suc k) es
Shallow zero (begins name ∷ es) = ⊥
Shallow (suc k) (begins name ∷ es) = Shallow k es

properties_shallow : (k : ℕ) (ps : List Property) (es : List Event) → Shallow k (property_events ps es) ↔ Shallow k es
unfolding Shallow property_events
properties_shallow k [] es = (λ h. h, λ h. h)
properties_shallow k (p ∷ ps) es = properties_shallow k ps es

-- the events of nodes do so exactly if the nodes are nested at most k deep
nodes-shallow : (k : ℕ) (f : Nodes) (es : List Event) → Shallow k (events f es) ↔ (NestedAtMost k f × Shallow k es)
unfolding Shallow events NestedAtMost
nodes-shallow k no_more es = (λ h. (tt, h), λ h. h.1)
nodes-shallow zero (node name ps children later) es = (λ h. absurd h, λ h. absurd h.0)
nodes-shallow (suc k) (node name ps children later) es =
    let p = properties_shallow k ps (events children (ends ∷ events later es)) in
    let c = nodes-shallow k children (ends ∷ events later es) in
    let l = nodes-shallow (suc k) later es in (
      λ h. let x = c.0 (p.0 h) in let y = l.0 x.1 in ((x.0, y.0), y.1),
      λ h. p.1 (c.1 (h.0.0, l.1 (h.0.1, h.1))),
    )

pub shallow-nodes : (k : ℕ) (f : Nodes) → Shallow k (events f []) ↔ NestedAtMost k f
unfolding Shallow
shallow-nodes k f = (λ h. ((nodes-shallow k f []).0 h).0, λ h. (nodes-shallow k f []).1 (h, tt))

-- ---- one entry in front

module _ {b : List ℕ} {s s' : State} {t : Entry} (es : List Event) where
  -- as many nodes more may be open as before it
  front_shallow : Kind b s t s' → s.depth ≤ most_open → s'.depth ≤ most_open → Shallow (most_open - s.depth) (event_at b t ∷ es) ↔ Shallow (most_open - s'.depth) es
  unfolding Shallow
  front_shallow (opens name e d r) h h' = let q : most_open - s.depth ≡ suc (most_open - s'.depth) = omega (arith, d) in rw (e, q) (λ x. x, λ x. x)
  front_shallow (adds p e d r r') h h' = rw (e, d) (λ x. x, λ x. x)
  front_shallow (closes e d r) h h' = let q : most_open - s'.depth ≡ suc (most_open - s.depth) = omega (arith, d) in rw (e, q) (λ x. x, λ x. x)

  -- no more may be open if one too many is open after it
  front_deep : Kind b s t s' → s.depth ≤ most_open → most_open < s'.depth → Shallow (most_open - s.depth) (event_at b t ∷ es) → ⊥
  unfolding Shallow
  front_deep (opens name e d r) h h' = let q : most_open - s.depth ≡ 0 = omega (arith, d) in rw (e, q) (λ x. x)
  front_deep (adds p e d r r') h h' = λ _. omega (arith, d)
  front_deep (closes e d r) h h' = λ _. omega (arith, d)

-- ---- the two walks side by side

-- both find the same entries, which are shallow; or only the reader's stops, for depth, and they are not; or both refuse
data Beside (b : List ℕ) (k : ℕ) : Walk → ReaderWalk → Type 0 where
  both : (ts : List Entry) → Shallow k (map (event_at b) ts) → Beside b k (good ts) (reads ts)
  deep : (ts : List Entry) (place : ℕ) → (Shallow k (map (event_at b) ts) → ⊥) → Beside b k (good ts) (refused_at place Depth)
  neither : (r : Unreadable) (f : Fault) → Beside b k (bad r) (stops f)

module _ (b : List ℕ) (a : Areas) where
  -- with an entry in front of both
  beside_more : {s s' : State} (t : Entry) → Kind b s t s' → s.depth ≤ most_open → s'.depth ≤ most_open → {w : Walk} {w' : ReaderWalk}
      → Beside b (most_open - s'.depth) w w' → Beside b (most_open - s.depth) (goodMore t w) (more t w')
  beside_more t kind h h' (both ts x) = both (t ∷ ts) ((front_shallow _ kind h h').1 x)
  beside_more t kind h h' (deep ts place n) = deep (t ∷ ts) place (λ x. n ((front_shallow _ kind h h').0 x))
  beside_more t kind h h' (neither r f) = neither r f

  -- with an entry in front that opens one node too many
  beside_deep : {s s' : State} (t : Entry) (place : ℕ) → Kind b s t s' → s.depth ≤ most_open → most_open < s'.depth → (w : Walk)
      → Beside b (most_open - s.depth) (goodMore t w) (refused_at place Depth)
  beside_deep t place kind h h' (bad r) = neither r _
  beside_deep t place kind h h' (good ts) = deep (t ∷ ts) place (front_deep _ kind h h')

  by_step : (on : State → Walk) (on' : State → ReaderWalk) (s : State) → s.depth ≤ most_open
      → ((s' : State) → s'.depth ≤ most_open → Beside b (most_open - s'.depth) (on s') (on' s'))
      → (x : Step) → Stepped b a s x → Beside b (most_open - s.depth) (follow s x on) (capped s x on')
  unfolding Stepped capped Shallow
  by_step on on' s h ih (step.Entry t s') m =
      by_test (Beside b (most_open - s.depth) (goodMore t (on s'))) (ltb most_open s'.depth) _ _
      (λ d. beside_deep t s.at m.1 h (ltb-true _ _ d) (on s'))
      λ d. beside_more t m.1 h (ltb-false _ _ d) (ih s' (ltb-false _ _ d))
  by_step on on' s h ih step.Skip m = ih (past s) h
  by_step on on' s h ih step.Final m = both [] tt
  by_step on on' s h ih (step.Bad r) m = neither r _

  steps_beside : (k : ℕ) (s : State) → s.depth ≤ most_open → Beside b (most_open - s.depth) (steps (step_at b a) k s) (reader_steps b a k s)
  unfolding steps reader_steps
  steps_beside zero s h = neither _ _
  steps_beside (suc k) s h = by_step (steps (step_at b a) k) (reader_steps b a k) s h (steps_beside k) (step_at b a s) (step_stepped b a s)

  walks_beside : Beside b most_open (walk b a (walk_start a)) (reader_walk b a (walk_start a))
  unfolding walk reader_walk walk_start
  walks_beside = steps_beside _ (walk_start a) (omega arith)

  -- ---- what follows

  reads_is : (ts : List Entry) {w : Walk} {w' : ReaderWalk} → Beside b most_open w w' → (w' ≡ reads ts) ↔ ((w ≡ good ts) × Shallow most_open (map (event_at b) ts))
  reads_is ts (both us x) = (
    λ q. let e : us ≡ ts = cc in (ap good e, subst (λ (l : List Entry). Shallow most_open (map (event_at b) l)) e x),
    λ q. let g = q.0 in let e : us ≡ ts = cc in ap reads e,
  )
  reads_is ts (deep us place n) = (
    λ q. absurd (let z : ◌≡◌ {A = ℕ} 0 1 = cc in omega arith),
    λ q. let g = q.0 in let e : ts ≡ us = cc in absurd (n (subst (λ (l : List Entry). Shallow most_open (map (event_at b) l)) e q.1)),
  )
  reads_is ts (neither r f) = (
    λ q. absurd (let z : ◌≡◌ {A = ℕ} 0 1 = cc in omega arith),
    λ q. let g = q.0 in absurd (let z : ◌≡◌ {A = ℕ} 0 1 = cc in omega arith),
  )

  -- a reader's walk is good exactly if the walk is and its events open at most 64 nodes at once
  pub reads_exactly : (ts : List Entry) → (reader_walk b a (walk_start a) ≡ reads ts) ↔ ((walk b a (walk_start a) ≡ good ts) × Shallow most_open (map (event_at b) ts))
  reads_exactly ts = reads_is ts walks_beside

  deep_is : (ts : List Entry) {w : Walk} {w' : ReaderWalk} → Beside b most_open w w' → w ≡ good ts → (Shallow most_open (map (event_at b) ts) → ⊥)
      → (place : ℕ) × (w' ≡ refused_at place Depth)
  deep_is ts (both us x) g n = let e : us ≡ ts = cc in absurd (n (subst (λ (l : List Entry). Shallow most_open (map (event_at b) l)) e x))
  deep_is ts (deep us place m) g n = (place, refl)
  deep_is ts (neither r f) g n = absurd (let z : ◌≡◌ {A = ℕ} 0 1 = cc in omega arith)

  -- if only the walk is good, the reader's stops for depth
  pub deep_stops : (ts : List Entry) → walk b a (walk_start a) ≡ good ts → (Shallow most_open (map (event_at b) ts) → ⊥) → (place : ℕ) × (reader_walk b a (walk_start a) ≡ refused_at place Depth)
  deep_stops ts = deep_is ts walks_beside
