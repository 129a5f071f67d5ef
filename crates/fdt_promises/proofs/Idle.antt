-- Calls that make no difference: one more call that shows, or that is refused and records no phandle, adds no event and no boot number.
use mathlib.Core.Path.{◌≡◌, refl, sym, ap, subst, ◌∙◌}
use mathlib.Core.Bool.{Bool, true, false}
use mathlib.Core.List.{List, [], ◌∷◌, ◌++◌, foldl}
use Prim.Native.Nat.{ℕ}
use native.Mathlib.Omega.{arith}
use Rattle.fdt_bytes.specs.BigEndian.{cell_bytes}
use Rattle.fdt_strings.specs.Entries.{entry}
use Rattle.fdt_values.specs.Value.{Value, value_bytes}
use Rattle.fdt_values.proofs.Values.{texts-one}
use Rattle.fdt_format.specs.Description.{◌≔◌, Reservation}
use Rattle.fdt_format.specs.Events.{Event, has, nodes_of}
use Rattle.fdt_record.specs.Answers.{Answer, accepts, upon}
use Rattle.fdt_record.proofs.Answers.{accepts-done, upon-done, upon-refused}
use Rattle.fdt_phandles.specs.Phandle.{phandle_name, phandle_value}
use Rattle.fdt_calls.specs.Calls.{Call, property, property_string, property_u32, property_array_u32, property_array_u64, property_phandle, asks, Request, to_open, to_have, Effect, opens, sets_boot, adds, records, no_effect, effect, Desk, answer, after, mark_answer, marked, left_by}
use Rattle.fdt_promises.specs.Run.{runs, accepted_calls, recorded_by, added_by, tells, events_of, boot_after, boots, boot_of, reservations_of, with_nodes, describe, InRun, AllInRun, Run, all_ask, opened_desk, history, events_in, boot_in, description, Idle, shows, refused, OneMore}
use Rattle.fdt_calls.proofs.Effects.{same_effect}
use Rattle.fdt_calls.proofs.Refused.{refused-after}

-- ---- what a description is made of

pub same_told : (r q : Run) → reservations_of r.numbers ≡ reservations_of q.numbers → boot_in r ≡ boot_in q → events_in r ≡ events_in q → description r ≡ description q
unfolding description describe
same_told r q e f g =
    ap (λ (l : List Reservation). with_nodes l (boot_in r) (nodes_of (events_in r))) e
    ∙ ap (λ (n : ℕ). with_nodes (reservations_of q.numbers) n (nodes_of (events_in r))) f
    ∙ ap (λ (es : List Event). with_nodes (reservations_of q.numbers) (boot_in q) (nodes_of es)) g

pub same_kinds : (name : List ℕ) (v u : Value) → value_bytes v ≡ value_bytes u → tells (to_have name v) ≡ tells (to_have name u)
same_kinds name v u e = ap added_by ((same_effect name name v u).1 (refl, e))

pub kinds_as_bytes : (name : List ℕ) →
    ((numbers : List ℕ) → tells (asks (property_array_u32 name numbers)) ≡ tells (asks (property name (cell_bytes 4 numbers))))
    × ((numbers : List ℕ) → tells (asks (property_array_u64 name numbers)) ≡ tells (asks (property name (cell_bytes 8 numbers))))
    × ((string : List ℕ) → tells (asks (property_string name string)) ≡ tells (asks (property name (entry string))))
unfolding asks effect added_by value_bytes
kinds_as_bytes name = (λ numbers. refl, λ numbers. refl, λ string. ap (λ (l : List ℕ). has (name ≔ l) ∷ []) (texts-one string))

pub same-phandle : (value : ℕ) → tells (asks (property_phandle value)) ≡ tells (asks (property_u32 phandle_name value))
unfolding asks effect added_by phandle_value
same-phandle value = refl

-- ---- one more call

-- a call that is refused and records nothing leaves the desk as it was
idle-left : (x : Effect) (s : Desk) → InRun x → recorded_by x s ≡ [] → left_by x s ≡ s
unfolding InRun recorded_by left_by
idle-left opens s i e = absurd i
idle-left (sets_boot n) s i e = refl
idle-left (adds a) s i e = refl
idle-left (records value) s i e = go (accepts (mark_answer value s)) refl
  where
    go : (b : Bool) → accepts (mark_answer value s) ≡ b → upon (mark_answer value s) (marked s value) s ≡ s
    go true t =
        let h : value ∷ [] ≡ [] = sym (upon-done (mark_answer value s) (value ∷ []) [] (accepts-done (mark_answer value s) t)) ∙ e in
        let z : ◌≡◌ {A = ℕ} 0 1 = cc in absurd (omega arith)
    go false t = upon-refused (mark_answer value s) (marked s value) s t
idle-left no_effect s i e = refl

-- two lists of accepted calls tell the same events and leave the same boot number
record Tells (cs ds : List Request) : Type 0 where
  events : events_of cs ≡ events_of ds
  boot : (n : ℕ) → foldl boots n cs ≡ foldl boots n ds

-- a call before both
same_front : (c : Request) (a : Answer) {cs ds : List Request} → Tells cs ds → Tells (upon a (c ∷ cs) cs) (upon a (c ∷ ds) ds)
unfolding events_of
same_front c a {cs} {ds} t = go (accepts a) refl
  where
    go : (b : Bool) → accepts a ≡ b → Tells (upon a (c ∷ cs) cs) (upon a (c ∷ ds) ds)
    go true e = let d = accepts-done a e in rw (upon-done a (c ∷ cs) cs d, upon-done a (c ∷ ds) ds d) (record { events = ap (λ (l : List Event). tells c ++ l) t.events; boot = λ n. t.boot (boots n c) })
    go false e = rw (upon-refused a (c ∷ cs) cs e, upon-refused a (c ∷ ds) ds e) t

idle_told : {s : Desk} {c : Request} → InRun (effect c) → Idle s c → (cs : List Request) → Tells (accepted_calls (c ∷ cs) s) (accepted_calls cs s)
unfolding accepted_calls answer after effect added_by events_of boot_after accepts
idle_told i shows cs = record { events = refl; boot = λ n. refl }
idle_told {s} i (refused c e n) cs =
    let left : after c s ≡ s = refused-after s c e ∙ idle-left (effect c) s i n in
    rw (upon-refused (answer c s) (c ∷ accepted_calls cs (after c s)) (accepted_calls cs (after c s)) e, left) (record { events = refl; boot = λ n. refl })

extra_told : (cs : List Request) {c : Request} (ds : List Request) (s : Desk) → AllInRun (cs ++ (c ∷ ds)) → Idle (runs cs s) c → Tells (accepted_calls (cs ++ (c ∷ ds)) s) (accepted_calls (cs ++ ds) s)
unfolding accepted_calls runs AllInRun
extra_told [] ds s i x = idle_told i.0 x ds
extra_told (b ∷ cs) ds s i x = same_front b (answer b s) (extra_told cs ds (after b s) i.1 x)

ask_append : (cs ds : List Call) → all_ask (cs ++ ds) ≡ all_ask cs ++ all_ask ds
unfolding all_ask
ask_append [] ds = refl
ask_append (c ∷ cs) ds = ap (λ (l : List Request). asks c ∷ l) (ask_append cs ds)

history_of : (r : Run) (s : Desk) (cs : List Request) → opened_desk r ≡ s → all_ask r.calls ≡ cs → history r ≡ accepted_calls cs s
unfolding history
history_of r s cs e f = ap (accepted_calls (all_ask r.calls)) e ∙ ap (λ (l : List Request). accepted_calls l s) f

same-opened : (q r : Run) → q.before ≡ r.before → q.numbers ≡ r.numbers → opened_desk q ≡ opened_desk r
unfolding opened_desk
same-opened q r e f = ap (after (to_open q.numbers)) e ∙ ap (λ (l : List ℕ). after (to_open l) r.before) f

pub one_more : (r q : Run) → OneMore r q → description q ≡ description r
unfolding all_ask boot_of
one_more r q m =
    let with-extra = all_ask m.earlier ++ (asks m.extra ∷ all_ask m.later) in
    let asked : all_ask q.calls ≡ with-extra = ap all_ask m.with_it ∙ ask_append m.earlier (m.extra ∷ m.later) in
    let asked-r : all_ask r.calls ≡ all_ask m.earlier ++ all_ask m.later = ap all_ask m.without ∙ ask_append m.earlier m.later in
    let t : Tells (history q) (history r) =
    rw (history_of q (opened_desk r) with-extra (same-opened q r m.same_before m.same_numbers) asked, history_of r (opened_desk r) (all_ask m.earlier ++ all_ask m.later) refl asked-r)
    (extra_told (all_ask m.earlier) (all_ask m.later) (opened_desk r) (subst AllInRun asked q.between) m.idle)
    in
    same_told q r (ap reservations_of m.same_numbers) (t.boot 0) t.events
