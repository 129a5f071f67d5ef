-- A run by numbers is a run: each of its calls returns the number of its answer, and leaves what its definition says.
use mathlib.Core.Path.{◌≡◌, refl, sym, ap, subst, ◌∙◌}
use mathlib.Core.List.{List, [], ◌∷◌}
use mathlib.Core.Logic.{◌↔◌}
use Prim.Native.Nat.{ℕ}
use Rattle.fdt_format.specs.Description.{Description}
use Rattle.fdt_record.specs.Answers.{Done, number_of}
use Rattle.fdt_calls.specs.Calls.{Call, asks, Desk, Request, new_with_mem_reserv, to_open, to_finish, finish, answer, after}
use Rattle.fdt_calls.specs.Called.{shown_part}
use Rattle.fdt_calls.specs.Made.{Made}
use Rattle.fdt_calls.proofs.Made.{accepted_at_0}
use Rattle.fdt_promises.specs.ByNumber.{AllMade, no_call, next_call, NumberedRun, OfRun, numbers_of, numbers_in, DescribedBy}
use Rattle.fdt_promises.specs.Run.{Run, runs, all_ask, opened_desk, desk, Finishes, blob}
use Rattle.fdt_promises.proofs.Described.{same_runs}

all_run : {cs : List Call} {s t : Desk} {ns : List ℕ} → AllMade cs s ns t → (t ≡ runs (all_ask cs) s) × (ns ≡ numbers_of (all_ask cs) s)
unfolding runs all_ask numbers_of
all_run (no_call s) = (refl, refl)
all_run (next_call {cs = cs} p rest) =
    let q = all_run rest in
    (q.0 ∙ ap (runs (all_ask cs)) p.leaves, λ i. p.numbered i ∷ (q.1 ∙ ap (numbers_of (all_ask cs)) p.leaves) i)

-- the run of its calls
own_run : NumberedRun → Run
own_run f = record {
  before = f.before;
  numbers = f.numbers;
  calls = f.calls;
  opened = subst (λ (c : Request). answer c f.before ≡ Done) f.opens (accepted_at_0 f.returned_0);
  between = f.between;
}

module _ (f : NumberedRun) where
  pub own_run_lem : (r : Run) × OfRun f r
  unfolding own_run
  own_run_lem = (own_run f, record { same_before = refl; same_numbers = refl; same_calls = refl })

  module _ (r : Run) (e : OfRun f r) where
    pub opened_is : f.opened ≡ opened_desk r
    unfolding opened_desk
    opened_is = f.returned_0.leaves ∙ (ap (λ (c : Request). after c f.before) f.opens ∙ (λ i. after (to_open (e.same_numbers i)) (e.same_before i)))

    pub left_is : f.left ≡ desk r
    unfolding desk
    left_is = (all_run f.made).0 ∙ (λ i. runs (all_ask (e.same_calls i)) (opened_is i))

    pub returned_is : f.returned ≡ numbers_in r
    returned_is = (all_run f.made).1 ∙ (λ i. numbers_of (all_ask (e.same_calls i)) (opened_is i))

    module _ {u : Desk} (finished : Made finish f.left 0 u) where
      pub finishes : Finishes r
      unfolding Finishes asks
      finishes = ap (answer to_finish) (sym left_is) ∙ accepted_at_0 finished

      pub shows-blob : shown_part u ≡ blob r
      unfolding blob asks
      shows-blob = ap shown_part (finished.leaves ∙ ap (after to_finish) left_is)

-- two runs by numbers that are finished show the same bytes exactly when their calls describe the same thing
module _ (f g : NumberedRun) {u v : Desk} (ends-f : Made finish f.left 0 u) (ends-g : Made finish g.left 0 v) where
  there : shown_part u ≡ shown_part v → (d : Description) × DescribedBy f d × DescribedBy g d
  there e =
      let r = own_run_lem f in
      let q = own_run_lem g in
      let found = (same_runs r.0 q.0 (finishes f r.0 r.1 ends-f) (finishes g q.0 q.1 ends-g)).0 (sym (shows-blob f r.0 r.1 ends-f) ∙ (e ∙ shows-blob g q.0 q.1 ends-g)) in
      (found.0, (r.0, r.1, found.1), (q.0, q.1, found.2))

  back : (d : Description) × DescribedBy f d × DescribedBy g d → shown_part u ≡ shown_part v
  back (d, (r, of-r, dr), (q, of-q, dq)) =
      shows-blob f r of-r ends-f ∙ ((same_runs r q (finishes f r of-r ends-f) (finishes g q of-q ends-g)).1 (d, dr, dq) ∙ sym (shows-blob g q of-q ends-g))

  pub same_by_number : (shown_part u ≡ shown_part v) ↔ ((d : Description) × DescribedBy f d × DescribedBy g d)
  same_by_number = (there, back)

all_made : (cs : List Call) (s : Desk) → AllMade cs s (numbers_of (all_ask cs) s) (runs (all_ask cs) s)
unfolding runs all_ask numbers_of
all_made [] s = no_call s
all_made (c ∷ cs) s = next_call (record { numbered = refl; leaves = refl }) (all_made cs (after (asks c) s))

-- every run is one by numbers
pub by_its_numbers : (r : Run) → (f : NumberedRun) × OfRun f r
unfolding opened_desk asks
by_its_numbers r = (
  record {
    before = r.before;
    opening = new_with_mem_reserv r.numbers;
    numbers = r.numbers;
    opens = refl;
    opened = opened_desk r;
    returned_0 = record { numbered = ap number_of (sym r.opened); leaves = refl };
    calls = r.calls;
    between = r.between;
    returned = numbers_in r;
    left = runs (all_ask r.calls) (opened_desk r);
    made = all_made r.calls (opened_desk r);
  },
  record { same_before = refl; same_numbers = refl; same_calls = refl },
)
