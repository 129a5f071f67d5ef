-- Laws of rows: the first row that holds answers, exactly; where none holds the call is accepted.
use mathlib.Core.Path.{◌≡◌, refl, sym, ap, ◌∙◌}
use mathlib.Core.Bool.{Bool, true, false, ◌&&◌, true≢false}
use mathlib.Core.List.{List, [], ◌∷◌, ◌++◌}
use mathlib.Core.Logic.{◌↔◌}
use Rattle.std.specs.Prelude.{Ok, Err}
use Rattle.fdt_bytes.proofs.Tests.{both}
use Rattle.fdt_record.specs.declared.Error.{Error}
use Rattle.fdt_record.specs.Answers.{Answer, Done, accepts, upon}
use Rattle.fdt_record.specs.Rows.{Row, ◌⇒◌, first}
use Rattle.fdt_record.proofs.Answers.{refuses, upon-done, upon-err, upon-same}

-- A test that fails is passed over, and one that holds answers.
module _ (error : Error) (rows : List Row) where
  pub skip : {b : Bool} → b ≡ false → first ((b ⇒ error) ∷ rows) ≡ first rows
  unfolding first
  skip e = simp e

  pub hit : {b : Bool} → b ≡ true → first ((b ⇒ error) ∷ rows) ≡ Err error
  unfolding first
  hit e = simp e

-- no test is left
pub done : first [] ≡ Done
unfolding first
done = refl

-- every test fails
unfoldable pub NoneHolds : List Row → Type 0
NoneHolds [] = Unit {0}
NoneHolds ((b ⇒ error) ∷ rows) = (b ≡ false) × NoneHolds rows

-- that every test fails, used with a name for each
unfoldable pub ByName : List Row → Type 0 → Type 0
ByName [] R = R
ByName ((b ⇒ error) ∷ rows) R = b ≡ false → ByName rows R

pub by_name : {R : Type 0} (rows : List Row) → NoneHolds rows → ByName rows R → R
unfolding NoneHolds ByName
by_name [] n f = f
by_name ((b ⇒ error) ∷ rows) n f = by_name rows n.1 (f n.0)

-- the test holds of every error of the rows
unfoldable pub all_errors : (Error → Bool) → List Row → Bool
all_errors p [] = true
all_errors p ((b ⇒ error) ∷ rows) = p error && all_errors p rows

-- the test holds of the answer if it is no acceptance
abbrev pub of_error : (Error → Bool) → Answer → Bool
of_error p (Ok accepted) = true
of_error p (Err error) = p error

-- then it holds of the answer
pub first-errors : (p : Error → Bool) (rows : List Row) → all_errors p rows ≡ true → of_error p (first rows) ≡ true
unfolding first all_errors
first-errors p [] e = refl
first-errors p ((true ⇒ error) ∷ rows) e = (both (p error) (all_errors p rows) e).0
first-errors p ((false ⇒ error) ∷ rows) e = first-errors p rows (both (p error) (all_errors p rows) e).1

-- a refusal is given by a row that holds, after rows that do not
pub record Given (rows : List Row) (error : Error) : Type 0 where
  pub before : List Row
  pub behind : List Row
  pub split : rows ≡ before ++ (true ⇒ error) ∷ behind
  pub passed : NoneHolds before

-- a refusal is no acceptance
err≢done : {error : Error} → ◌≡◌ {A = Answer} (Err error) Done → ⊥
unfolding accepts
err≢done {error} e = true≢false (ap accepts (sym e) ∙ refuses error)

-- accepted exactly when every test fails
accepted_exactly : (rows : List Row) → (first rows ≡ Done) ↔ NoneHolds rows
unfolding first NoneHolds
accepted_exactly [] = (λ e. tt, λ n. refl)
accepted_exactly ((true ⇒ error) ∷ rows) = (λ e. absurd (err≢done e), λ n. absurd (true≢false n.0))
accepted_exactly ((false ⇒ error) ∷ rows) =
    let ih = accepted_exactly rows in (λ e. (refl, ih.0 e), λ n. ih.1 n.1)

-- refused with an error exactly when its row holds and no earlier one does
refused_exactly : (rows : List Row) (a : Error) → (first rows ≡ Err a) ↔ Given rows a
unfolding first NoneHolds
refused_exactly rows a = (told rows, λ g. ap first g.split ∙ holds g.before g.behind g.passed)
  where
    holds : (before behind : List Row) → NoneHolds before → first (before ++ (true ⇒ a) ∷ behind) ≡ Err a
    holds [] behind n = refl
    holds ((true ⇒ b) ∷ before) behind n = absurd (true≢false n.0)
    holds ((false ⇒ b) ∷ before) behind n = holds before behind n.1

    later : (b : Error) (rows : List Row) → Given rows a → Given ((false ⇒ b) ∷ rows) a
    later b rows g =
        record { before = (false ⇒ b) ∷ g.before; behind = g.behind; split = ap (λ (l : List Row). (false ⇒ b) ∷ l) g.split; passed = (refl, g.passed) }

    same : {b : Error} → ◌≡◌ {A = Answer} (Err b) (Err a) → b ≡ a
    same e = cc

    told : (rows : List Row) → first rows ≡ Err a → Given rows a
    told [] e = absurd (err≢done (sym e))
    told ((true ⇒ b) ∷ rows) e =
        record { before = []; behind = rows; split = ap (λ (c : Error). (true ⇒ c) ∷ rows) (same e); passed = tt }
    told ((false ⇒ b) ∷ rows) e = later b rows (told rows e)

-- exactly when each answer of a call with these rows is given: acceptance where no row holds, a refusal where the first that holds has it
pub record Exactly (rows : List Row) (answer : Answer) : Type 0 where
  pub accepted : (answer ≡ Done) ↔ NoneHolds rows
  pub refused : (error : Error) → (answer ≡ Err error) ↔ Given rows error

pub exactly : (rows : List Row) → Exactly rows (first rows)
exactly rows = record { accepted = accepted_exactly rows; refused = refused_exactly rows }

-- an error that only one row has is given exactly when that row holds and no earlier one does; `other` tells errors from it
pub only_row : (other : Error → Bool) (before : List Row) (b : Bool) (a : Error) (behind : List Row) → other a ≡ false → all_errors other before ≡ true → all_errors other behind ≡ true
    → (first (before ++ (b ⇒ a) ∷ behind) ≡ Err a) ↔ (NoneHolds before × (b ≡ true))
unfolding first NoneHolds all_errors
only_row other [] true a behind n p q = (λ e. (tt, refl), λ h. refl)
only_row other [] false a behind n p q =
    (λ e. absurd (true≢false (sym (first-errors other behind q) ∙ ap (of_error other) e ∙ n)), λ h. absurd (true≢false (sym h.1)))
only_row other ((true ⇒ c) ∷ before) b a behind n p q =
    (λ e. absurd (true≢false (sym (both (other c) (all_errors other before) p).0 ∙ ap (of_error other) e ∙ n)), λ h. absurd (true≢false h.0.0))
only_row other ((false ⇒ c) ∷ before) b a behind n p q =
    let r = only_row other before b a behind n (both (other c) (all_errors other before) p).1 q in
    (λ e. let h = r.0 e in ((refl, h.0), h.1), λ h. r.1 (h.0.1, h.1))

-- rows after rows: the later ones answer where none of the earlier holds
pub first-append : (rows more : List Row) → first (rows ++ more) ≡ upon (first rows) (first more) (first rows)
unfolding first accepts
first-append [] more = refl
first-append ((true ⇒ error) ∷ rows) more = sym (upon-err (first more) (Err error) refl)
first-append ((false ⇒ error) ∷ rows) more = first-append rows more

-- rows that answer alike, and later ones that do so where those accept
pub append-same : (rows rows' more more' : List Row) → first rows ≡ first rows' → (accepts (first rows) ≡ true → first more ≡ first more') → first (rows ++ more) ≡ first (rows' ++ more')
append-same rows rows' more more' e f =
    first-append rows more ∙ upon-same (first rows) (first more) (first more') (first rows) f
    ∙ ap (λ (a : Answer). upon a (first more') a) e ∙ sym (first-append rows' more')

-- Rows that gave an answer, and what follows them.
module _ (rows more : List Row) where
  -- a refusal is the answer, whatever follows
  pub stands : {error : Error} → first rows ≡ Err error → first (rows ++ more) ≡ Err error
  stands e = first-append rows more ∙ upon-err (first more) (first rows) e ∙ e

  -- where they accept, what follows answers
  pub goes_on : first rows ≡ Done → first (rows ++ more) ≡ first more
  goes_on e = first-append rows more ∙ upon-done (first rows) (first more) (first rows) e
