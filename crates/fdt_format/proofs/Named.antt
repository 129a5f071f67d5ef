-- A name and its 0 at a place of bytes: the search for a 0 from there finds it, and the name is read back.
use mathlib.Core.Path.{◌≡◌, refl, ap, ◌∙◌}
use mathlib.Core.List.{List, [], ◌∷◌, ◌++◌}
use Prim.Native.Nat.{ℕ, ◌+◌, ◌-◌, ◌<◌}
use native.Mathlib.Omega.{arith}
use borrow.Author.Tests.{ne_eqb}
use lib.ListN.{length, get_or}
use lib.Seq.{get_or_at}
use Rattle.fdt_strings.specs.Entries.{NoZero, no_byte, next_byte}
use Rattle.fdt_format.specs.Step.{zero_from}
use Rattle.fdt_format.specs.Reading.{until_zero, name_at}
use Rattle.fdt_format.proofs.Steps.{zero_here, zero_on}
use Rattle.fdt_format.proofs.Words.{BytesAt, bytes_drop, bytes-right}

-- the first byte
bytes-first : {b : List ℕ} {at x : ℕ} {xs : List ℕ} → BytesAt b at (x ∷ xs) → get_or b at 0 ≡ x
bytes-first {at} {x} {xs} h = ap (λ (l : List ℕ). get_or l at 0) h.split ∙ get_or_at h.before x (xs ++ h.behind) 0 at h.place

pub zero_found : {b : List ℕ} {at : ℕ} {name : List ℕ} (e : ℕ) → NoZero name → BytesAt b at (name ++ (0 ∷ [])) → at + length name < e → zero_from b (e - at) at ≡ at + length name
zero_found {b} {at} e no_byte h l = zero_here b e at (omega arith) (bytes-first h) ∙ omega arith
zero_found {b} {at} e (next_byte {b = x} {s = xs} p n) h l =
    let f : get_or b at 0 ≡ x = bytes-first h in
    zero_on b e at (omega arith) (λ z. omega arith)
    ∙ zero_found {at = at + 1} e n (bytes-right (x ∷ []) (xs ++ (0 ∷ [])) h (at + 1) refl) (omega arith)
    ∙ omega arith

until_zero_lem : {name : List ℕ} (rest : List ℕ) → NoZero name → until_zero ((name ++ (0 ∷ [])) ++ rest) ≡ name
unfolding until_zero
until_zero_lem rest no_byte = refl
until_zero_lem rest (next_byte {b = x} {s = xs} p n) =
    rw (ne_eqb x 0 (omega arith)) (ap (λ (l : List ℕ). x ∷ l) (until_zero_lem rest n))

pub name_read : {b : List ℕ} {at : ℕ} {name : List ℕ} → NoZero name → BytesAt b at (name ++ (0 ∷ [])) → name_at b at ≡ name
unfolding name_at
name_read n h = ap until_zero (bytes_drop h) ∙ until_zero_lem h.behind n
