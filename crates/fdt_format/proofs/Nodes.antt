-- Nodes and their events determine each other, and events are those of nodes exactly when they are in order.
use mathlib.Core.Path.{◌≡◌, refl, ap, sym, ◌∙◌}
use mathlib.Core.Bool.{Bool, true, false, false≢true}
use mathlib.Core.List.{List, [], ◌∷◌, cons≢nil}
use mathlib.Core.Logic.{◌↔◌}
use mathlib.Core.Option.{some, none-ne-some, some-injective}
use Prim.Native.Nat.{ℕ, zero, suc}
use native.Mathlib.Nat.{suc_inj}
use native.Mathlib.Omega.{arith}
use lib.ListN.{length}
use Rattle.fdt_format.specs.Description.{Property, Nodes, no_more, node}
use Rattle.fdt_format.specs.Events.{Event, begins, has, ends, property_events, events, Meaning, misplaced, means, in_front, meaning, whole, nodes_of}

-- ---- from nodes to events and back

-- nodes, and then others
unfoldable join : Nodes → Nodes → Nodes
join no_more others = others
join (node name properties children later) others = node name properties children (join later others)

join_none : (f : Nodes) → join f no_more ≡ f
unfolding join
join_none no_more = refl
join_none (node name properties children later) = rw (join_none later)

meaning_properties : (ps : List Property) (es : List Event) (f : Nodes) (around : List Nodes) → meaning es ≡ means [] f around → meaning (property_events ps es) ≡ means ps f around
unfolding meaning in_front property_events
meaning_properties [] es f around e = e
meaning_properties (p ∷ ps) es f around e = rw (meaning_properties ps es f around e)

meaning-events : (f : Nodes) (es : List Event) (g : Nodes) (around : List Nodes) → meaning es ≡ means [] g around → meaning (events f es) ≡ means [] (join f g) around
unfolding meaning in_front events join
meaning-events no_more es g around e = e
meaning-events (node name ps children later) es g around e =
    let rest : List Event = ends ∷ events later es in
    let after : meaning rest ≡ means [] no_more (join later g ∷ around) = rw (meaning-events later es g around e) in
    let below : meaning (events children rest) ≡ means [] children (join later g ∷ around) =
    rw (meaning-events children rest no_more (join later g ∷ around) after, join_none children) in
    ap (in_front (begins name)) (meaning_properties ps (events children rest) children (join later g ∷ around) below)

-- the events of nodes give back the nodes
pub nodes-events : (f : Nodes) → nodes_of (events f []) ≡ some f
unfolding nodes_of meaning whole
nodes-events f = rw (meaning-events f [] no_more [] refl, join_none f)

-- ---- from events to nodes and back

-- the ends of the nodes around, and the nodes after each
unfoldable outside : List Nodes → List Event
outside [] = []
outside (f ∷ around) = ends ∷ events f (outside around)

-- the events that mean this
unfoldable retold : Meaning → List Event
retold misplaced = []
retold (means ps f around) = property_events ps (events f (outside around))

-- not out of place
unfoldable InPlace : Meaning → Type 0
InPlace misplaced = ⊥
InPlace (means ps f around) = Unit {0}

placed-before : (e : Event) (x : Meaning) → InPlace (in_front e x) → InPlace x
unfolding InPlace in_front
placed-before e misplaced h = h
placed-before e (means ps f around) h = tt

retold_front : (e : Event) (x : Meaning) → InPlace (in_front e x) → retold (in_front e x) ≡ e ∷ retold x
unfolding InPlace in_front retold outside events property_events
retold_front e misplaced h = absurd h
retold_front (has p) (means ps f around) h = refl
retold_front ends (means [] f around) h = refl
retold_front ends (means (p ∷ ps) f around) h = absurd h
retold_front (begins name) (means ps f []) h = absurd h
retold_front (begins name) (means ps f (later ∷ around)) h = refl

retold_meaning : (es : List Event) → InPlace (meaning es) → retold (meaning es) ≡ es
unfolding meaning retold outside events property_events
retold_meaning [] h = refl
retold_meaning (e ∷ es) h =
    retold_front e (meaning es) h ∙ ap {B = List Event} (λ l. e ∷ l) (retold_meaning es (placed-before e (meaning es) h))

whole_retold : (es : List Event) (x : Meaning) (f : Nodes) → retold x ≡ es → whole x ≡ some f → events f [] ≡ es
unfolding whole retold outside events property_events
whole_retold es misplaced f e h = absurd (none-ne-some f h)
whole_retold es (means [] g []) f e h = rw (← some-injective g f h) e
whole_retold es (means [] g (later ∷ around)) f e h = absurd (none-ne-some f h)
whole_retold es (means (p ∷ ps) g around) f e h = absurd (none-ne-some f h)

placed-whole : (x : Meaning) (f : Nodes) → whole x ≡ some f → InPlace x
unfolding whole InPlace
placed-whole misplaced f h = absurd (none-ne-some f h)
placed-whole (means ps g around) f h = tt

-- the nodes of events are those whose events they are
pub nodes_exactly : (es : List Event) (f : Nodes) → (nodes_of es ≡ some f) ↔ (events f [] ≡ es)
unfolding nodes_of
nodes_exactly es f = (
  λ h. whole_retold es (meaning es) f (retold_meaning es (placed-whole (meaning es) f h)) h,
  λ h. rw (← h) (nodes-events f),
)

-- ---- events in order

-- by how many nodes are open, and whether a node was ended last: properties come before children, and every node ends
unfoldable pub Accepted : ℕ → Bool → List Event → Type 0
Accepted depth ended [] = depth ≡ 0
Accepted depth ended (begins name ∷ es) = Accepted (suc depth) false es
Accepted zero ended (ends ∷ es) = ⊥
Accepted (suc depth) ended (ends ∷ es) = Accepted depth true es
Accepted zero ended (has p ∷ es) = ⊥
Accepted (suc depth) false (has p ∷ es) = Accepted (suc depth) false es
Accepted (suc depth) true (has p ∷ es) = ⊥

-- what such events mean: as many nodes are around, and properties only where one may come
unfoldable Shape : ℕ → Bool → Meaning → Type 0
Shape depth ended misplaced = ⊥
Shape depth ended (means ps f around) = (length around ≡ depth) × (ended ≡ true → ps ≡ []) × (depth ≡ 0 → ps ≡ [])

module _ (depth : ℕ) where
  shape_begins : (ended : Bool) (name : List ℕ) (x : Meaning) → Shape (suc depth) false x → Shape depth ended (in_front (begins name) x)
  unfolding Shape in_front
  shape_begins ended name misplaced h = h
  shape_begins ended name (means ps f []) h = omega (arith, h.0)
  shape_begins ended name (means ps f (later ∷ around)) h = (suc_inj h.0, λ _. refl, λ _. refl)

  shape_ends : (ended : Bool) (x : Meaning) → Shape depth true x → Shape (suc depth) ended (in_front ends x)
  unfolding Shape in_front
  shape_ends ended misplaced h = h
  shape_ends ended (means [] f around) h = (ap suc h.0, λ _. refl, λ _. refl)
  shape_ends ended (means (p ∷ ps) f around) h = let z : p ∷ ps ≡ [] = h.1 refl in absurd (cons≢nil z)

  shape_has : (p : Property) (x : Meaning) → Shape (suc depth) false x → Shape (suc depth) false (in_front (has p) x)
  unfolding Shape in_front
  shape_has p misplaced h = h
  shape_has p (means ps f around) h = (h.0, λ q. absurd (false≢true q), λ q. absurd (omega (arith, q)))

shaped : (es : List Event) (depth : ℕ) (ended : Bool) → Accepted depth ended es → Shape depth ended (meaning es)
unfolding meaning Accepted Shape
shaped [] depth ended h = (sym h, λ _. refl, λ _. refl)
shaped (begins name ∷ es) depth ended h = shape_begins depth ended name (meaning es) (shaped es (suc depth) false h)
shaped (ends ∷ es) zero ended h = absurd h
shaped (ends ∷ es) (suc depth) ended h = shape_ends depth ended (meaning es) (shaped es depth true h)
shaped (has p ∷ es) zero ended h = absurd h
shaped (has p ∷ es) (suc depth) false h = shape_has depth p (meaning es) (shaped es (suc depth) false h)
shaped (has p ∷ es) (suc depth) true h = absurd h

whole_shape : (x : Meaning) → Shape 0 false x → (f : Nodes) × (whole x ≡ some f)
unfolding whole Shape
whole_shape misplaced h = absurd h
whole_shape (means [] f []) h = (f, refl)
whole_shape (means [] f (later ∷ around)) h = absurd (omega (arith, h.0))
whole_shape (means (p ∷ ps) f around) h = let z : p ∷ ps ≡ [] = h.2 refl in absurd (cons≢nil z)

-- events in order are those of nodes
pub described_by : (es : List Event) → Accepted 0 false es → (f : Nodes) × (nodes_of es ≡ some f) × (events f [] ≡ es)
unfolding nodes_of
described_by es h =
    let w : (f : Nodes) × (nodes_of es ≡ some f) = whole_shape (meaning es) (shaped es 0 false h) in
    (w.0, w.1, (nodes_exactly es w.0).0 w.1)

-- ---- and the events of nodes are in order

accepted_properties : (ps : List Property) (depth : ℕ) (es : List Event) → Accepted (suc depth) false es → Accepted (suc depth) false (property_events ps es)
unfolding Accepted property_events
accepted_properties [] depth es h = h
accepted_properties (p ∷ ps) depth es h = accepted_properties ps depth es h

accepted-before : (f : Nodes) (depth : ℕ) (es : List Event) → ((ended : Bool) → Accepted depth ended es) → (ended : Bool) → Accepted depth ended (events f es)
unfolding Accepted events
accepted-before no_more depth es h ended = h ended
accepted-before (node name ps children later) depth es h ended =
    let rest : Accepted depth true (events later es) = accepted-before later depth es h true in
    accepted_properties ps depth (events children (ends ∷ events later es)) (accepted-before children (suc depth) (ends ∷ events later es) (λ _. rest) false)

pub accepted-events : (f : Nodes) → Accepted 0 false (events f [])
unfolding Accepted
accepted-events f = accepted-before f 0 [] (λ _. refl) false
