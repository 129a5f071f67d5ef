-- Laws of a begin: its size, its three writes as one, what an accepted one passed, and exactly when each answer is given.
use mathlib.Core.Path.{◌≡◌, refl, sym, ap, ◌∙◌}
use mathlib.Core.List.{List, ◌++◌}
use mathlib.Core.Bool.{false}
use Prim.Native.Nat.{ℕ, ◌+◌, ◌≤◌, ◌<◌}
use native.Mathlib.Omega.{arith}
use borrow.Author.Tests.{leb-false}
use lib.ListN.{length}
use Rattle.fdt_bytes.specs.BigEndian.{big_endian}
use Rattle.fdt_bytes.specs.Padding.{padding, round_up, zeros, padded}
use Rattle.fdt_bytes.specs.Splice.{over, splice}
use Rattle.fdt_bytes.proofs.BigEndian.{length-big_endian}
use Rattle.fdt_bytes.proofs.Splice.{splice-three}
use Rattle.fdt_strings.specs.Entries.{entry}
use Rattle.fdt_strings.proofs.Entries.{length-entry}
use Rattle.fdt_names.specs.Names.{has_zero}
use Rattle.fdt_format.specs.Tokens.{begin_token, begin_bytes}
use Rattle.fdt_format.proofs.Tokens.{length-begin}
use Rattle.std.specs.Prelude.{Ok, Err}
use Rattle.fdt_record.specs.declared.Error.{Error}
use Rattle.fdt_record.specs.declared.Record.{Record}
use Rattle.fdt_record.specs.Answers.{Answer, Done, giving, accepts, upon}
use Rattle.fdt_record.proofs.Answers.{upon-done, upon-err}
use Rattle.fdt_record.specs.Limits.{blob_ceiling, most_depth}
use Rattle.fdt_record.specs.Rows.{first}
use Rattle.fdt_record.specs.Tests.{alone_rows, blob_rows}
use Rattle.fdt_record.proofs.FirstTests.{blob-passed}
use Rattle.fdt_record.proofs.Fits.{FitBlob, fit_blob, not_overfull}
use Rattle.fdt_record.proofs.Rows.{ByName, by_name, Exactly, exactly}
use Rattle.fdt_record.specs.declared.Outcome.{Outcome}
use Rattle.fdt_nodes.specs.declared.FdtWriterNode.{FdtWriterNode}
use Rattle.fdt_nodes.specs.Begin.{begin_rows, begin_answer, begun_record, begin, begin_blob, BeginOutcome}

-- the size of a begin, with its padding
pub begin_parts : (name : List ℕ) → length (begin_bytes name) ≡ 4 + (length name + 1 + padding 4 (length name + 1))
unfolding round_up
begin_parts name = length-begin name

-- word 1 does not change what pads the stored name
pub padding-after_word : (n : ℕ) → padding 4 (4 + n) ≡ padding 4 n
unfolding padding
padding-after_word n = omega arith

-- word 1, the stored name and the padding, one after the other, into the rest of the blob
pub put-begin : (name rest r₁ r₂ r₃ : List ℕ) → r₁ ≡ over (big_endian 4 begin_token) rest → r₂ ≡ splice 4 (entry name) r₁ → r₃ ≡ splice (4 + (length name + 1)) (zeros (padding 4 (4 + (length name + 1)))) r₂ → length (begin_bytes name) ≤ length rest → r₃ ≡ over (begin_bytes name) rest
unfolding splice begin_bytes padded
put-begin name rest r₁ r₂ r₃ e₁ e₂ e₃ room =
    let word = big_endian 4 begin_token in
    let n : length word ≡ 4 = length-big_endian 4 begin_token in
    let m : length (entry name) ≡ length name + 1 = length-entry name in
    let k = padding 4 (4 + (length name + 1)) in
    let parts = begin_parts name in
    e₃ ∙ ap (splice (4 + (length name + 1)) (zeros k)) (e₂ ∙ ap (splice 4 (entry name)) e₁)
    ∙ splice-three 0 4 (4 + (length name + 1)) word (entry name) (zeros k) rest (omega arith) (omega arith) (omega arith)
    ∙ ap (λ (j : ℕ). over (word ++ (entry name ++ zeros j)) rest) (padding-after_word (length name + 1) ∙ ap (padding 4) (sym m))

-- what `begin_tests` and `end_tests` ask of a record that passed the first tests
pub used_small : (w : Record) (lent : ℕ) → first (blob_rows w lent) ≡ Done → w.blob_used ≤ blob_ceiling
used_small w lent e = let p = blob-passed w lent e in omega (arith, p.blob.used, p.blob.small)

module _ (w : Record) (lent : ℕ) (name : List ℕ) where
  pub begin_exactly : Exactly (begin_rows w lent name) (begin_answer w lent name)
  unfolding begin_answer
  begin_exactly = exactly (begin_rows w lent name)

  -- what an accepted begin passed
  pub record BeginFits : Type 0 where
    pub blob : FitBlob w lent
    pub depth : w.node_depth < most_depth
    pub plain : has_zero name ≡ false
    pub room : w.blob_used + length (begin_bytes name) ≤ w.blob_room

  pub begin-fits : begin_answer w lent name ≡ Done → BeginFits
  unfolding begin_rows blob_rows alone_rows ByName begun_record
  begin-fits e =
      by_name (begin_rows w lent name) (begin_exactly.accepted.0 e)
      (λ unfinished figures blob deep zero wrong over.
      record {
        blob = fit_blob w lent blob;
        depth = leb-false most_depth w.node_depth deep;
        plain = zero;
        room = not_overfull (begun_record w name) over;
      })

-- what `begin_node` asks of an accepted begin
pub begin_within : (w : Record) (lent : ℕ) (name : List ℕ) → begin_answer w lent name ≡ Done → (w.blob_used + length (begin_bytes name) ≤ lent) × (w.blob_used ≤ blob_ceiling) × (w.node_depth ≤ most_depth)
begin_within w lent name e =
    let f = begin-fits w lent name e in
    (omega (arith, f.room, f.blob.within), omega (arith, f.blob.used, f.blob.small), omega (arith, f.depth))

-- What a begin gives, by its answer.
module _ (w : Record) (blob name : List ℕ) where
  gives : Answer → Outcome FdtWriterNode
  gives a = record { answer = giving a (record { 0 = w.node_depth + 1 }); after = upon a (begun_record w name) w }

  pub begin_refused : {error : Error} → begin_answer w (length blob) name ≡ Err error → BeginOutcome w blob name (record { answer = Err error; after = w }) blob
  unfolding begin begin_blob gives
  begin_refused {error} e = record {
    result = ap (λ (x : Record). record { answer = Err error; after = x }) (sym (upon-err {answer = Err error} _ _ refl)) ∙ ap gives (sym e);
    bytes = sym (upon-err _ _ e);
  }

  pub begin_accepted : begin_answer w (length blob) name ≡ Done → (after : Record) → after ≡ begun_record w name → {bytes : List ℕ} → bytes ≡ splice w.blob_used (begin_bytes name) blob → BeginOutcome w blob name (record { answer = Ok (record { 0 = after.node_depth }); after = after }) bytes
  unfolding begin begin_blob begun_record gives accepts
  begin_accepted e after r b = record {
    result = ap (λ (x : Record). record { answer = Ok (record { 0 = x.node_depth }); after = x }) r ∙ ap gives (sym e);
    bytes = b ∙ sym (upon-done _ _ _ e);
  }
