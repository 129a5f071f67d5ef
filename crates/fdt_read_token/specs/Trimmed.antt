-- The strings cut after their last 0: a name offset then meets a 0 exactly if it is before their end (`step_trimmed`).
use Rattle.std.specs.Prelude.{◌≡◌, cond, List, ℕ, zero, suc, ◌+◌, ◌-◌, eqb, get_or}
use Rattle.fdt_format.specs.declared.Areas.{Areas}
use Rattle.fdt_read_token.specs.Inside.{Inside}

-- the place after the last 0 among the k places from `from` on; without one, `from`
unfoldable pub after_last_zero : List ℕ → ℕ → ℕ → ℕ
after_last_zero b from zero = from
after_last_zero b from (suc k) = cond (eqb (get_or b (from + k) 0) 0) (from + suc k) (after_last_zero b from k)

-- where the strings of areas end, cut so
unfoldable pub trimmed_end : List ℕ → Areas → ℕ
trimmed_end b a = after_last_zero b a.strings (a.strings_end - a.strings)

-- areas with the strings cut so
unfoldable pub trimmed : List ℕ → Areas → Areas
trimmed b a = record {
  reservations = a.reservations;
  structure = a.structure;
  structure_end = a.structure_end;
  strings = a.strings;
  strings_end = trimmed_end b a;
  boot = a.boot;
}

-- areas inside a blob whose strings were cut so
pub record Trimmed (b : List ℕ) (a : Areas) : Type 0 where
  pub inside : Inside b a
  pub cut : trimmed_end b a ≡ a.strings_end
