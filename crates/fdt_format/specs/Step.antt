-- Reading one token of the structure (document 01, "How a blob is read"; document 02, request 3/14; Devicetree Specification v0.4,
-- section 5.4).
use Rattle.std.specs.Prelude.{Bool, true, false, ◌&&◌, cond, List, ℕ, zero, suc, ◌+◌, ◌-◌, eqb, leb, ltb, get_or, Option, None, Some}
use Rattle.fdt_bytes.specs.BigEndian.{word_at}
use Rattle.fdt_bytes.specs.Padding.{round_up}
use Rattle.fdt_format.specs.declared.Areas.{Areas}
use Rattle.fdt_format.specs.declared.State.{State}
use Rattle.fdt_format.specs.declared.Step.{Step}
use Rattle.fdt_format.specs.declared.Step.TheVariants as step
use Rattle.fdt_format.specs.declared.Unreadable.TheVariants.{Structure, NameOffset}
use Rattle.fdt_format.specs.Tokens.{begin_token, end_token, property_token, property_size, skip_token, final_token}

-- the first of the k places from `at` on that holds a 0; without one, the place after them
unfoldable pub zero_from : List ℕ → ℕ → ℕ → ℕ
zero_from b zero at = at
zero_from b (suc k) at = cond (eqb (get_or b at 0) 0) at (zero_from b k (suc at))

-- word 1: the name runs to the next 0; name and padding end inside the structure
unfoldable pub begin_at : List ℕ → Areas → State → Step
begin_at b a s =
    let end : ℕ = zero_from b (a.structure_end - (s.at + 4)) (s.at + 4) in
    cond (leb a.structure_end end) (step.Bad Structure)
    (cond (ltb a.structure_end (round_up 4 (end + 1))) (step.Bad Structure)
    (step.Entry
    (record { token = begin_token; place = s.at; name = s.at + 4; size = 0 })
    (record { at = round_up 4 (end + 1); depth = s.depth + 1; takes_property = true })))

-- a whole property is at a place: word 3, value length, name offset, value and padding, none of it past `end`
unfoldable pub whole_at : List ℕ → ℕ → ℕ → Bool
whole_at b end at =
    leb 12 (end - at)
    && eqb (word_at b at) property_token
    && leb (property_size (word_at b (at + 4))) (end - at)

-- how many bytes it takes, if a whole property is there
unfoldable pub size_at : List ℕ → ℕ → ℕ → Option ℕ
size_at b end at = cond (whole_at b end at) (Some (property_size (word_at b (at + 4)))) None

-- word 3: the property is whole inside the structure, and its name offset meets a 0 inside the strings
unfoldable pub property_at : List ℕ → Areas → State → Step
property_at b a s =
    let size : ℕ = word_at b (s.at + 4) in
    let name : ℕ = a.strings + word_at b (s.at + 8) in
    cond (whole_at b a.structure_end s.at)
    (cond (leb a.strings_end (zero_from b (a.strings_end - name) name)) (step.Bad NameOffset)
    (step.Entry
    (record { token = property_token; place = s.at; name = name; size = size })
    (record { at = s.at + property_size size; depth = s.depth; takes_property = true })))
    (step.Bad Structure)

-- word 2: a node is open
unfoldable pub end_at : State → Step
end_at s =
    cond (eqb s.depth 0) (step.Bad Structure)
    (step.Entry
    (record { token = end_token; place = s.at; name = 0; size = 0 })
    (record { at = s.at + 4; depth = s.depth - 1; takes_property = false }))

-- the state after a word 4: only the place moves on
abbrev pub past : State → State
past s = record { at = s.at + 4; depth = s.depth; takes_property = s.takes_property }

-- word 9: no node is open, and the structure ends here
unfoldable pub final_at : Areas → State → Step
final_at a s =
    cond (eqb s.depth 0)
    (cond (eqb (s.at + 4) a.structure_end) step.Final (step.Bad Structure))
    (step.Bad Structure)

-- the token at a state: word 1, 2, 3 (before the node's children), 4 or 9, inside the structure
unfoldable pub step_at : List ℕ → Areas → State → Step
step_at b a s =
    cond (ltb (a.structure_end - s.at) 4) (step.Bad Structure)
    (cond (eqb (word_at b s.at) begin_token) (begin_at b a s)
    (cond (eqb (word_at b s.at) end_token) (end_at s)
    (cond (eqb (word_at b s.at) property_token) (cond s.takes_property (property_at b a s) (step.Bad Structure))
    (cond (eqb (word_at b s.at) skip_token) step.Skip
    (cond (eqb (word_at b s.at) final_token) (final_at a s)
    (step.Bad Structure))))))
