-- `put_begin` meets its contract: the word, the stored name and the padding, each where the one before ended.
use Prim.Native.Nat.{◌+◌}
use lib.ListN.{length, length-take, length-drop}
use Rattle.fdt_bytes.specs.Padding.{padding, zeros}
use Rattle.fdt_bytes.proofs.Splice.{lent}
use Rattle.fdt_strings.proofs.Entries.{length-entry}
use Rattle.fdt_nodes.proofs.Begin.{begin_parts, padding-after_word, put-begin}
use borrow.Author.Rules.{rules}
use native.Mathlib.Omega.{arith}
use Rattle.fdt_nodes.proofs.put_begin.Goals as goal

pub append_u32-requires : goal.append_u32-requires
append_u32-requires c =
    omega (arith, begin_parts c.args.name.now, c.requires)

pub store_string-requires : goal.store_string-requires
store_string-requires c =
    omega (arith, begin_parts c.args.name.now, length-entry c.args.name.now, c.requires)

pub slice_bounds-align-count : goal.slice_bounds-align-count
slice_bounds-align-count c = omega (arith, begin_parts c.args.name.now, padding-after_word (length c.args.name.now + 1), c.requires)

pub slice_bounds-align-start : goal.slice_bounds-align-start
slice_bounds-align-start c = omega (arith, begin_parts c.args.name.now, padding-after_word (length c.args.name.now + 1), c.requires)

pub align-requires : goal.align-requires
align-requires c = record {
  alignment_nonzero = search rules;
  room = simp (length-take, length-drop) (omega (arith, begin_parts c.args.name.now, padding-after_word (length c.args.name.now + 1), c.requires));
}

pub returns : goal.returns
returns c =
    let n = 4 + (length c.args.name.now + 1) in
    put-begin c.args.name.now c.args.rest.now _ _ _ c.append_u32.ensures c.store_string.ensures
    (lent n (zeros (padding 4 n)) c.store_string.new.strings _ (omega (arith, begin_parts c.args.name.now, padding-after_word (length c.args.name.now + 1), c.requires)) c.align.ensures) c.requires
