-- A call returned t, which is the test u of a definition that goes on with a test v: what a branch on t says of both.
use mathlib.Core.Path.{◌≡◌, sym, ◌∙◌}
use mathlib.Core.Bool.{Bool, true, false, ◌&&◌}

module _ {t u : Bool} (answer : t ≡ u) (v : Bool) where
  -- `if !f(x)`
  pub and_no : t ≡ false → (u && v) ≡ false
  and_no h = simp (sym answer ∙ h)

  pub and_yes : t ≡ true → (u && v) ≡ v
  and_yes h = simp (sym answer ∙ h)
