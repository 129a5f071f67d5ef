-- Laws of the open node: the events since a node began last come last, and are its properties unless a node was ended; names that no
-- node repeats are distinct in every node.
use mathlib.Core.Path.{◌≡◌, refl, sym, ap, ◌∙◌}
use mathlib.Core.Bool.{Bool, true, false, true≢false}
use mathlib.Core.List.{List, [], ◌∷◌, ◌++◌, append_assoc, append-nil, foldl, foldl-append, Memᴰ}
use Prim.Native.Nat.{ℕ, ◌+◌, ◌≤◌}
use native.Mathlib.Omega.{arith}
use Rattle.fdt_format.specs.Blob.{event_size, events_size}
use Rattle.fdt_format.specs.Description.{Property, ◌≔◌, Nodes, no_more, node}
use Rattle.fdt_format.specs.Distinct.{Distinct, property_names, DistinctNames}
use Rattle.fdt_format.specs.Events.{Event, begins, has, ends, property_events, events}
use Rattle.fdt_format.proofs.Strings.{distinct_snoc}
use Rattle.fdt_promises.specs.OpenNode.{OpenNodes, none_open, leave, open_after, open_in, since, since_begin}
use Rattle.fdt_promises.specs.Run.{closes, ended_of}
use Rattle.fdt_promises.proofs.Growth.{sizes_append, size-snoc}

-- ---- the events since a node began last

since-snoc : (es : List Event) (e : Event) → since_begin (es ++ (e ∷ [])) ≡ since (since_begin es) e
unfolding since_begin
since-snoc es e = foldl-append since [] es (e ∷ [])

-- where the open node's properties start after an event: a begin sets it to the used length
unfoldable pub start_after : Event → (used start : ℕ) → ℕ
start_after (begins name) used start = used
start_after (has p) used start = start
start_after ends used start = start

-- they stay between there and the used length
pub start-snoc : (es : List Event) (e : Event) (used start n : ℕ) → start + events_size (since_begin es) ≡ used → n ≡ event_size e → start_after e (used + n) start + events_size (since_begin (es ++ (e ∷ []))) ≡ used + n
unfolding since start_after events_size
start-snoc es (begins name) used start n h s = rw (since-snoc es (begins name)) (omega arith)
start-snoc es (has p) used start n h s = rw (since-snoc es (has p)) (omega (arith, size-snoc (since_begin es) (has p), h, s))
start-snoc es ends used start n h s = rw (since-snoc es ends) (omega (arith, size-snoc (since_begin es) ends, h, s))

last-from : (acc es : List Event) → (front : List Event) × (acc ++ es ≡ front ++ foldl since acc es)
unfolding since
last-from acc [] = ([], append-nil acc)
last-from acc (begins name ∷ es) =
    let r = last-from [] es in
    (acc ++ (begins name ∷ r.0), ap (λ (l : List Event). acc ++ (begins name ∷ l)) r.1 ∙ sym (append_assoc acc (begins name ∷ r.0) _))
last-from acc (has p ∷ es) = let r = last-from (acc ++ (has p ∷ [])) es in (r.0, sym (append_assoc acc (has p ∷ []) es) ∙ r.1)
last-from acc (ends ∷ es) = let r = last-from (acc ++ (ends ∷ [])) es in (r.0, sym (append_assoc acc (ends ∷ []) es) ∙ r.1)

-- they come last
pub since-last : (es : List Event) → (front : List Event) × (es ≡ front ++ since_begin es)
unfolding since_begin
since-last es = last-from [] es

-- they take no more than all events
pub since-within : (es : List Event) → events_size (since_begin es) ≤ events_size es
since-within es = let r = since-last es in omega (arith, ap events_size r.1, sizes_append r.0 (since_begin es))

events-snoc : (ps : List Property) (p : Property) → property_events (ps ++ (p ∷ [])) [] ≡ property_events ps [] ++ (has p ∷ [])
unfolding property_events
events-snoc [] p = refl
events-snoc (q ∷ ps) p = ap (λ (l : List Event). has q ∷ l) (events-snoc ps p)

unended_from : (es acc : List Event) (o : OpenNodes) (ended : Bool) → (ended ≡ false → acc ≡ property_events o.own []) → foldl closes ended es ≡ false → foldl since acc es ≡ property_events (foldl open_after o es).own []
unfolding since open_after closes property_events
unended_from [] acc o ended h e = h e
unended_from (begins name ∷ es) acc o ended h e = unended_from es [] _ false (λ _. refl) e
unended_from (has p ∷ es) acc o ended h e =
    unended_from es (acc ++ (has p ∷ [])) _ ended (λ q. ap (λ (l : List Event). l ++ (has p ∷ [])) (h q) ∙ sym (events-snoc o.own p)) e
unended_from (ends ∷ es) acc o ended h e = unended_from es (acc ++ (ends ∷ [])) _ true (λ q. absurd (true≢false q)) e

-- unless a node was ended last, they are the properties of the open node
pub unended_since : (es : List Event) → ended_of es ≡ false → since_begin es ≡ property_events (open_in es).own []
unfolding since_begin open_in ended_of none_open property_events
unended_since es e = unended_from es [] none_open false (λ _. refl) e

-- ---- no name twice

-- an event that gives the open node no second property of a name
unfoldable pub Fresh : OpenNodes → Event → Type 0
Fresh o (begins name) = Unit {0}
Fresh o (has (name ≔ value)) = Memᴰ name (property_names o.own) → ⊥
Fresh o ends = Unit {0}

-- events that are all such
unfoldable pub Once : OpenNodes → List Event → Type 0
Once o [] = Unit {0}
Once o (e ∷ es) = Fresh o e × Once (open_after o e) es

once_from : (es : List Event) (o : OpenNodes) (e : Event) → Once o es → Fresh (foldl open_after o es) e → Once o (es ++ (e ∷ []))
unfolding Once
once_from [] o e h f = (f, tt)
once_from (x ∷ es) o e h f = (h.0, once_from es (open_after o x) e h.1 f)

pub once_snoc : (es : List Event) (e : Event) → Once none_open es → Fresh (open_in es) e → Once none_open (es ++ (e ∷ []))
unfolding open_in
once_snoc es e h f = once_from es none_open e h f

names-snoc : (ps : List Property) (name value : List ℕ) → property_names (ps ++ ((name ≔ value) ∷ [])) ≡ property_names ps ++ (name ∷ [])
unfolding property_names
names-snoc [] name value = refl
names-snoc ((n ≔ v) ∷ ps) name value = ap (λ (l : List (List ℕ)). n ∷ l) (names-snoc ps name value)

-- what properties leave, after those that the node has
once_properties : (qs ps : List Property) (around : List (List Property)) (rest : List Event) → Distinct (property_names ps) → Once (record { own = ps; around = around }) (property_events qs rest)
    → Distinct (property_names (ps ++ qs)) × Once (record { own = ps ++ qs; around = around }) rest
unfolding Once Fresh open_after property_events
once_properties [] ps around rest d o = rw (append-nil ps) (d, o)
once_properties ((name ≔ value) ∷ qs) ps around rest d o =
    let e : Distinct (property_names (ps ++ ((name ≔ value) ∷ []))) = rw (names-snoc ps name value) (distinct_snoc (property_names ps) name d o.0) in
    rw (← append_assoc ps ((name ≔ value) ∷ []) qs) (once_properties qs (ps ++ ((name ≔ value) ∷ [])) around rest e o.1)

-- nodes leave the open node as it was
once_nodes : (f : Nodes) (o : OpenNodes) (rest : List Event) → Once o (events f rest) → DistinctNames f × Once o rest
unfolding Once Fresh open_after leave events DistinctNames Distinct property_names
once_nodes no_more o rest h = (tt, h)
once_nodes (node name qs children later) o rest h =
    let p = once_properties qs [] (o.own ∷ o.around) (events children (ends ∷ events later rest)) tt h.1 in
    let c = once_nodes children _ (ends ∷ events later rest) p.1 in
    let l = once_nodes later o rest c.1.1 in
    ((p.0, c.0, l.0), l.1)

-- so no node has two properties of one name
pub once_distinct : (f : Nodes) → Once none_open (events f []) → DistinctNames f
once_distinct f h = (once_nodes f none_open [] h).0

-- ---- nodes that are begun and ended

-- properties are added to those that the node has
own-more : (qs ps : List Property) (around : List (List Property)) (rest : List Event) → foldl open_after (record { own = ps; around = around }) (property_events qs rest) ≡ foldl open_after (record { own = ps ++ qs; around = around }) rest
unfolding open_after property_events
own-more [] ps around rest = rw (append-nil ps)
own-more (q ∷ qs) ps around rest = own-more qs (ps ++ (q ∷ [])) around rest ∙ rw (append_assoc ps (q ∷ []) qs)

nodes-left : (f : Nodes) (o : OpenNodes) (rest : List Event) → foldl open_after o (events f rest) ≡ foldl open_after o rest
unfolding open_after leave events
nodes-left no_more o rest = refl
nodes-left (node name qs children later) o rest =
    own-more qs [] (o.own ∷ o.around) (events children (ends ∷ events later rest))
    ∙ nodes-left children _ (ends ∷ events later rest)
    ∙ nodes-left later o rest

pub left_open : (es : List Event) (f : Nodes) → open_in (es ++ events f []) ≡ open_in es
unfolding open_in
left_open es f = foldl-append open_after none_open es (events f []) ∙ nodes-left f (foldl open_after none_open es) []
