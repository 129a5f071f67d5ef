-- An accepted walk describes nodes: depth and `takes_property` keep its events in order. So a reading refuses only what header,
-- reservations or walk refuse.
use mathlib.Core.Path.{◌≡◌, refl, sym, ap, subst, ◌∙◌}
use mathlib.Core.Bool.{Bool, true, false, not, cond, false≢true}
use mathlib.Core.List.{List, [], ◌∷◌, map}
use mathlib.Core.Logic.{◌↔◌}
use mathlib.Core.Option.{Option, none, some, none-ne-some, some-injective}
use Prim.Native.Nat.{ℕ, zero, suc, ◌<◌}
use native.Mathlib.Omega.{arith}
use Rattle.fdt_format.specs.declared.Areas.{Areas}
use Rattle.fdt_format.specs.declared.Entry.{Entry}
use Rattle.fdt_format.specs.declared.State.{State}
use Rattle.fdt_format.specs.declared.Step.{Step}
use Rattle.fdt_format.specs.declared.Step.TheVariants as step
use Rattle.fdt_format.specs.declared.Unreadable.{Unreadable}
use Rattle.fdt_format.specs.Description.{Property, Nodes, Reservation, Description}
use Rattle.fdt_format.specs.Events.{Event, begins, has, ends, events, nodes_of}
use Rattle.fdt_format.specs.Moves.{Kind, opens, adds, closes}
use Rattle.fdt_format.specs.Reading.{areas_of, good_header, event_at, walk_nodes, described, read_reservations, read_nodes, reading}
use Rattle.fdt_format.specs.Step.{past, step_at}
use Rattle.fdt_format.specs.Walk.{Walk, bad, good, more, follow, steps, walk, walk_start, TokensAt}
use Rattle.fdt_format.proofs.Nodes.{Accepted, described_by, nodes_exactly}
use Rattle.fdt_format.proofs.Steps.{Stepped, step_stepped}

-- ---- one more token in front

-- a property may come only inside a node
unfoldable Open : State → Type 0
Open s = s.takes_property ≡ true → 0 < s.depth

-- the events from a state on are in order
unfoldable Ordered : State → List Event → Type 0
Ordered s es = Accepted s.depth (not s.takes_property) es

open_on : {b : List ℕ} {s s' : State} {t : Entry} → Kind b s t s' → Open s → Open s'
unfolding Open
open_on (opens name e d r) o = λ _. omega (arith, d)
open_on (adds p e d r r') o = λ _. omega (arith, d, o r)
open_on (closes e d r) o = λ q. absurd (false≢true (sym r ∙ q))

-- if no node is open it does not matter whether one was ended last
outside_any : (es : List Event) (x y : Bool) → Accepted 0 x es → Accepted 0 y es
unfolding Accepted
outside_any [] x y h = h
outside_any (begins name ∷ es) x y h = h
outside_any (has p ∷ es) x y h = h
outside_any (ends ∷ es) x y h = h

has_front : (depth : ℕ) (p : Property) (es : List Event) → 0 < depth → Accepted depth false es → Accepted depth false (has p ∷ es)
unfolding Accepted
has_front zero p es h k = absurd (omega arith)
has_front (suc depth) p es h k = k

front : {b : List ℕ} {s s' : State} {t : Entry} (es : List Event) → Kind b s t s' → Open s → Ordered s' es → Ordered s (event_at b t ∷ es)
unfolding Open Ordered Accepted
front es (opens name e d r) o h = rw e (rw (d, r) at h)
front es (adds p e d r r') o h = rw (e, r) (has_front _ p es (o r) (rw (d, r') at h))
front es (closes e d r) o h = rw (e, ← d) (rw r at h)

-- ---- the walk

bad_not_good : {r : Unreadable} {ts : List Entry} → bad r ≡ good ts → ⊥
bad_not_good q = let z : ◌≡◌ {A = ℕ} 0 1 = cc in omega arith

-- a good walk with an entry in front: the walk after it was good
record Split (t : Entry) (on : Walk) (ts : List Entry) : Type 0 where
  rest : List Entry
  is : on ≡ good rest
  all : t ∷ rest ≡ ts

split : (t : Entry) (on : Walk) (ts : List Entry) → more t on ≡ good ts → Split t on ts
split t (bad r) ts q = absurd (bad_not_good q)
split t (good rest) ts q = record { rest = rest; is = refl; all = cc }

module _ (b : List ℕ) where
  -- by the token at a state, if the walk after it has its events in order
  here : (a : Areas) (on : State → Walk) (s : State) → Open s → ((s' : State) → Open s' → (ts : List Entry) → on s' ≡ good ts → Ordered s' (map (event_at b) ts))
      → (x : Step) → Stepped b a s x → (ts : List Entry) → follow s x on ≡ good ts → Ordered s (map (event_at b) ts)
  unfolding Stepped Open Ordered Accepted
  here a on s o ih (step.Entry t s') k ts q =
      let p : Split t (on s') ts = split t (on s') ts q in
      let h : Ordered s' (map (event_at b) p.rest) = ih s' (open_on k.1 o) p.rest p.is in
      subst (λ (l : List Entry). Ordered s (map (event_at b) l)) p.all (front (map (event_at b) p.rest) k.1 o h)
  here a on s o ih step.Skip k ts q = ih (past s) o ts q
  here a on s o ih step.Final k ts q = let n : [] ≡ ts = cc in rw (← n) k
  here a on s o ih (step.Bad r) k ts q = absurd (bad_not_good q)

  -- by the step at a state, if the entries after it have their tokens at their places
  tokens_here : (a : Areas) (on : State → Walk) (s : State) → ((s' : State) (ts : List Entry) → on s' ≡ good ts → TokensAt b ts)
      → (x : Step) → Stepped b a s x → (ts : List Entry) → follow s x on ≡ good ts → TokensAt b ts
  unfolding Stepped TokensAt
  tokens_here a on s ih (step.Entry t s') k ts q =
      let p : Split t (on s') ts = split t (on s') ts q in
      subst (TokensAt b) p.all (k.2, ih s' p.rest p.is)
  tokens_here a on s ih step.Skip k ts q = ih (past s) ts q
  tokens_here a on s ih step.Final k ts q = let n : [] ≡ ts = cc in rw (← n) tt
  tokens_here a on s ih (step.Bad r) k ts q = absurd (bad_not_good q)

  module _ (a : Areas) where
    tokens_steps : (k : ℕ) (s : State) (ts : List Entry) → steps (step_at b a) k s ≡ good ts → TokensAt b ts
    unfolding steps
    tokens_steps zero s ts q = absurd (bad_not_good q)
    tokens_steps (suc k) s ts q = tokens_here a (steps (step_at b a) k) s (tokens_steps k) (step_at b a s) (step_stepped b a s) ts q

    -- an entry's place is its token's, not that of a word skipped before it
    pub tokens_at : (s : State) (ts : List Entry) → walk b a s ≡ good ts → TokensAt b ts
    unfolding walk
    tokens_at s = tokens_steps _ s

    ordered : (k : ℕ) (s : State) → Open s → (ts : List Entry) → steps (step_at b a) k s ≡ good ts → Ordered s (map (event_at b) ts)
    unfolding steps
    ordered zero s o ts q = absurd (bad_not_good q)
    ordered (suc k) s o ts q = here a (steps (step_at b a) k) s o (ordered k) (step_at b a s) (step_stepped b a s) ts q

    -- an accepted walk describes nodes
    pub nested : (ts : List Entry) → walk b a (walk_start a) ≡ good ts → (f : Nodes) × (nodes_of (map (event_at b) ts) ≡ some f)
    unfolding walk walk_start Open Ordered
    nested ts q =
        let o : Accepted 0 true (map (event_at b) ts) = ordered _ (walk_start a) (λ z. absurd (false≢true z)) ts q in
        let d = described_by (map (event_at b) ts) (outside_any (map (event_at b) ts) true false o) in
        (d.0, d.1)

-- ---- the reading

-- what a reading finds in a blob: a good header, its reservations and boot number, and nodes whose events are those of a good walk
pub record Parts (b : List ℕ) (d : Description) : Type 0 where
  pub header : good_header b ≡ true
  pub reservations : read_reservations b (areas_of b) ≡ some d.reservations
  pub boot : (areas_of b).boot ≡ d.boot
  pub entries : List Entry
  pub walked : walk b (areas_of b) (walk_start (areas_of b)) ≡ good entries
  pub nodes : events d.nodes [] ≡ map (event_at b) entries

passed : {A : Type 0} (t : Bool) (o : Option A) (x : A) → cond t o none ≡ some x → (t ≡ true) × (o ≡ some x)
passed true o x q = (refl, q)
passed false o x q = absurd (none-ne-some x q)

described_parts : (boot : ℕ) (rs : Option (List Reservation)) (f : Option Nodes) (d : Description) → described boot rs f ≡ some d
    → (rs ≡ some d.reservations) × (boot ≡ d.boot) × (f ≡ some d.nodes)
unfolding described
described_parts boot none f d q = absurd (none-ne-some d q)
described_parts boot (some rs) none d q = absurd (none-ne-some d q)
described_parts boot (some rs) (some f) d q =
    let e : record { reservations = rs; boot = boot; nodes = f } ≡ d = some-injective _ d q in
    (ap (λ (x : Description). some x.reservations) e, ap (λ (x : Description). x.boot) e, ap (λ (x : Description). some x.nodes) e)

walked-good : (b : List ℕ) (w : Walk) (f : Nodes) → walk_nodes b w ≡ some f → (ts : List Entry) × (w ≡ good ts) × (nodes_of (map (event_at b) ts) ≡ some f)
unfolding walk_nodes
walked-good b (bad r) f q = absurd (none-ne-some f q)
walked-good b (good ts) f q = (ts, refl, q)

module _ (b : List ℕ) where
  read_parts : (d : Description) → reading b ≡ some d → Parts b d
  unfolding reading read_nodes
  read_parts d q =
      let h = passed (good_header b) _ d q in
      let p = described_parts (areas_of b).boot _ _ d h.1 in
      let w = walked-good b (walk b (areas_of b) (walk_start (areas_of b))) d.nodes p.2 in
      record { header = h.0; reservations = p.0; boot = p.1; entries = w.0; walked = w.1; nodes = (nodes_exactly _ d.nodes).0 w.2 }

  parts_read : (d : Description) → Parts b d → reading b ≡ some d
  unfolding reading read_nodes walk_nodes described
  parts_read d p =
      let n : nodes_of (map (event_at b) p.entries) ≡ some d.nodes = (nodes_exactly _ d.nodes).1 p.nodes in
      rw (p.header, p.reservations, p.walked, n, p.boot)

  -- the reading gives a description exactly when the blob has these parts
  pub reading_is : (d : Description) → (reading b ≡ some d) ↔ Parts b d
  reading_is d = (read_parts d, parts_read d)

  -- a reading refuses nothing else: a good header, reservations and a good walk always give a description
  pub read_exactly : (rs : List Reservation) (ts : List Entry) → good_header b ≡ true → read_reservations b (areas_of b) ≡ some rs
      → walk b (areas_of b) (walk_start (areas_of b)) ≡ good ts
      → (f : Nodes) × (events f [] ≡ map (event_at b) ts) × (reading b ≡ some (record { reservations = rs; boot = (areas_of b).boot; nodes = f }))
  read_exactly rs ts h r w =
      let n = nested b (areas_of b) ts w in
      let e : events n.0 [] ≡ map (event_at b) ts = (nodes_exactly _ n.0).0 n.1 in
      (n.0, e, parts_read _ (record { header = h; reservations = r; boot = refl; entries = ts; walked = w; nodes = e }))
