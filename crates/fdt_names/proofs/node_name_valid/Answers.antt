-- `node_name_valid` meets its contract: the name is cut at its first @ or its end, and its parts are tested one after another.
use mathlib.Core.Path.{◌≡◌, sym, ap, ◌∙◌}
use mathlib.Core.Bool.{Bool, ◌&&◌, true, and-false}
use mathlib.Core.List.{List}
use Prim.Native.Nat.{ℕ, ◌+◌, ◌-◌, ◌≤◌, ◌<◌}
use native.Mathlib.Omega.{arith}
use lib.ListN.{length, get_or, take, drop, drop_of_length-le}
use borrow.Author.Rules.{part_to_end}
use borrow.Author.Tests.{eq-eqb, le-leb, lt-leb}
use Rattle.fdt_names.specs.Grammar.{all, matches}
use Rattle.fdt_names.specs.Index.{index_of}
use Rattle.fdt_names.specs.Names.{letter, node_byte, node_name}
use Rattle.fdt_names.proofs.Names.{name_parts}
use Rattle.fdt_names.proofs.Tests.{and_no, and_yes}
use Rattle.fdt_names.proofs.node_name_valid.Goals as goal
use Rattle.fdt_names.proofs.node_name_valid.Goals.{then-at-gt-NODE_NAME_MAX_LEN-via-then-at-gt-NODE_NAME_MAX_LEN, then-at-gt-NODE_NAME_MAX_LEN-via-else-at-gt-NODE_NAME_MAX_LEN+then-not-node_name_valid_first_char}

-- after the tests of the first byte and of the length before the @
begun :
    (name : List ℕ) (at : ℕ) {first : Bool} → 0 < length name → at ≡ 1 + index_of 64 (drop 1 name) → at ≤ 31 → first ≡ letter (get_or name 0 0) → first ≡ true →
    matches node_name name ≡ (all node_byte (take (at - 1) (drop 1 name)) && all node_byte (drop (at + 1) name))
begun name at h e l f t = name_parts name h e ∙ and_yes f _ t ∙ simp (le-leb at 31 l)

past : {i n : ℕ} → i ≡ n → n ≤ i + 1
past e = omega arith

pub returns-then-n-eq0 : goal.returns-then-n-eq0
unfolding matches node_name
returns-then-n-eq0 c = sym (simp (eq-eqb _ 0 c.if-n-eq0.true))

pub returns-then-at-gt-NODE_NAME_MAX_LEN : goal.returns-then-at-gt-NODE_NAME_MAX_LEN
returns-then-at-gt-NODE_NAME_MAX_LEN c =
    sym (name_parts _ (omega arith) c.base_end-at.ensures.value ∙ (elim c.then-at-gt-NODE_NAME_MAX_LEN.branch [
      | then-at-gt-NODE_NAME_MAX_LEN-via-then-at-gt-NODE_NAME_MAX_LEN w ↦ simp (lt-leb c.base_end-at.result 31 (omega arith), and-false)
      | then-at-gt-NODE_NAME_MAX_LEN-via-else-at-gt-NODE_NAME_MAX_LEN+then-not-node_name_valid_first_char w ↦ and_no w.node_name_valid_first_char.ensures _ w.if-not-node_name_valid_first_char.true
    ]))

pub returns-then-not-all_valid_chars : goal.returns-then-not-all_valid_chars
unfolding node_byte
returns-then-not-all_valid_chars c =
    sym (begun _ _ (omega arith) c.base_end-at.ensures.value (omega arith) c.node_name_valid_first_char.ensures c.if-not-node_name_valid_first_char.false ∙ and_no c.all_valid_chars.ensures _ c.if-not-all_valid_chars.true)

pub returns-then-at-n : goal.returns-then-at-n
unfolding all node_byte
returns-then-at-n c =
    sym (begun _ _ (omega arith) c.base_end-at.ensures.value (omega arith) c.node_name_valid_first_char.ensures c.if-not-node_name_valid_first_char.false ∙ and_yes c.all_valid_chars.ensures _ c.if-not-all_valid_chars.false ∙ ap (all node_byte) (drop_of_length-le _ (past c.if-at-n.true)))

pub returns : goal.returns
unfolding node_byte
returns c =
    c.address_valid_chars.ensures ∙ simp part_to_end (sym (begun _ _ (omega arith) c.base_end-at.ensures.value (omega arith) c.node_name_valid_first_char.ensures c.if-not-node_name_valid_first_char.false ∙ and_yes c.all_valid_chars.ensures _ c.if-not-all_valid_chars.false))
