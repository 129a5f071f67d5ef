-- Laws of an end: what an accepted one passed, and exactly when each answer is given.
use mathlib.Core.Path.{◌≡◌, sym, ap}
use mathlib.Core.Bool.{not}
use Prim.Native.Nat.{ℕ, ◌+◌, ◌≤◌, ◌<◌}
use native.Mathlib.Omega.{arith}
use borrow.Author.Tests.{eqb-false}
use lib.Dec.{eqb}
use Rattle.fdt_format.proofs.Tokens.{length-end}
use mathlib.Core.List.{List}
use mathlib.Core.Path.{◌∙◌}
use lib.ListN.{length}
use Rattle.std.specs.Prelude.{Err}
use Rattle.fdt_bytes.specs.Splice.{splice}
use Rattle.fdt_format.specs.Tokens.{end_bytes}
use Rattle.fdt_record.specs.declared.Error.{Error}
use Rattle.fdt_record.specs.declared.Record.{Record}
use Rattle.fdt_record.specs.Answers.{Done}
use Rattle.fdt_record.proofs.Answers.{upon-done, upon-err, outcome-accepted, outcome-refused}
use Rattle.fdt_record.specs.Limits.{blob_ceiling}
use Rattle.fdt_record.specs.Tests.{alone_rows, blob_rows}
use Rattle.fdt_bytes.proofs.Tests.{neither}
use Rattle.fdt_record.proofs.Fits.{FitBlob, fit_blob, not_overfull}
use Rattle.fdt_record.proofs.Rows.{ByName, by_name, Exactly, exactly}
use Rattle.fdt_nodes.specs.End.{end_rows, end_answer, ended_record, end, end_blob, EndOutcome}

module _ (w : Record) (lent handle : ℕ) where
  pub end_exactly : Exactly (end_rows w lent handle) (end_answer w lent handle)
  unfolding end_answer
  end_exactly = exactly (end_rows w lent handle)

  -- what an accepted end passed
  pub record EndFits : Type 0 where
    pub blob : FitBlob w lent
    pub depth : 0 < w.node_depth
    pub room : w.blob_used + 4 ≤ w.blob_room

  pub end_fits : end_answer w lent handle ≡ Done → EndFits
  unfolding end_rows blob_rows alone_rows ByName ended_record
  end_fits e =
      by_name (end_rows w lent handle) (end_exactly.accepted.0 e)
      (λ unfinished figures blob other over.
      let z = eqb-false w.node_depth 0 (neither (not (eqb handle w.node_depth)) (eqb w.node_depth 0) other).1 in
      record {
        blob = fit_blob w lent blob;
        depth = omega arith;
        room = omega (arith, not_overfull (ended_record w) over, length-end);
      })

-- what `end_node` asks of an accepted end
pub end_within : (w : Record) (lent handle : ℕ) → end_answer w lent handle ≡ Done → (w.blob_used + 4 ≤ lent) × (w.blob_used ≤ blob_ceiling) × (0 < w.node_depth)
end_within w lent handle e =
    let f = end_fits w lent handle e in
    (omega (arith, f.room, f.blob.within), omega (arith, f.blob.used, f.blob.small), f.depth)

-- What an end gives, by its answer.
module _ (w : Record) (blob : List ℕ) (handle : ℕ) where
  pub end_refused : {error : Error} → end_answer w (length blob) handle ≡ Err error → EndOutcome w blob handle (record { answer = Err error; after = w }) blob
  unfolding end end_blob
  end_refused e = record { result = outcome-refused _ _ e; bytes = sym (upon-err _ _ e) }

  pub end_accepted : end_answer w (length blob) handle ≡ Done → (after : Record) → after ≡ ended_record w → {bytes : List ℕ} → bytes ≡ splice w.blob_used end_bytes blob → EndOutcome w blob handle (record { answer = Done; after = after }) bytes
  unfolding end end_blob
  end_accepted e after r b = record {
    result = ap (λ (x : Record). record { answer = Done; after = x }) r ∙ outcome-accepted _ _ e;
    bytes = b ∙ sym (upon-done _ _ _ e);
  }
