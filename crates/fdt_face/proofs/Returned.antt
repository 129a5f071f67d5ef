-- What the cores return, for `Thin.antt`: an answer, which is a `Result` of a plain value or an error, with the new writer.
use mathlib.Core.Path.{◌≡◌, refl}
use Prim.Native.Nat.{ℕ}
use mathlib.Core.List.{[], ◌∷◌}
use mathlib.Core.Option.{some as found}
use prog.Memory.{field_of}
use denote.Builtin.{unit}
use denote.RattleType.{RattleType}
use denote.Enum.Laws as EL
use denote.Struct.Declared.{shape}
use denote.Struct.Field.{unit-field}
use denote.Struct.Laws as LL
use denote.Struct.Struct.{layout}
use denote.Steps.{only}
use denote.Param.{layout as laid_out}
use denote.Param.Laws.{Laws, Told, of_field, field_told}
use denote.Param.Plain.{IsPlain}
use denote.Param.Shared.{copy_shared}
use Rattle.std.specs.contracts.result.Result as O
use Rattle.std.proofs.result.Result.TheLaws as O'
use Rattle.fdt_record.specs.contracts.Error as E
use Rattle.fdt_record.proofs.Error.TheLaws as E'
use Rattle.fdt_nodes.specs.contracts.FdtWriterNode as N
use Rattle.fdt_nodes.proofs.FdtWriterNode.TheLaws as N'
use Rattle.fdt_writer.specs.contracts.Answered as B
use Rattle.fdt_writer.proofs.Answered.TheLaws as B'
use Rattle.fdt_writer.proofs.FdtWriter.TheLaws as W'
use Rattle.fdt_face.proofs.Thin.{Results}

-- an `Answered<T>` of any plain T. Where its two parts lie is there by computation once T is known, so each use shows it by `refl`
abbrev pub answered : (T : RattleType) (L : Laws T) (t : Told T) → IsPlain T → (past : ℕ)
    → field_of (layout (shape (B.the_type T))) 0 ≡ found (laid_out (O.the_row T E.the_row), 0) → field_of (layout (shape (B.the_type T))) 1 ≡ found (W'.mir, past) → Results
answered T L t pl past answer_at writer_at = record {
  B = B.the_type T;
  laws = B'.the_laws T L t;
  R = O.the_row T E.the_row;
  answer = λ r. r.answer;
  writer = λ r. r.writer;
  τ = laid_out (O.the_row T E.the_row);
  spelled = λ a. only (EL.vals (O.the_type T E.the_row) (O'.the_laws T E.the_row L E'.the_row_laws t E'.the_told) a);
  typed = λ 𝓛 a is. ((EL.lawful (O.the_type T E.the_row) (O'.the_laws T E.the_row L E'.the_row_laws t E'.the_told) 𝓛 tt).typed a _ is).0;
  makes = λ 𝓛. EL.makes (O.the_type T E.the_row) (O'.the_plain T E.the_row pl E'.the_row_plain) 𝓛;
  past_answer = past;
  answer_at = answer_at;
  writer_at = writer_at;
  answer_val = λ r. refl;
  writer_val = λ r. refl;
  answer_is = λ r u is. (LL.owed (B.the_type T) (B'.the_laws T L t) r (u ∷ []) is).0;
  writer_is = λ r u is. (LL.owed (B.the_type T) (B'.the_laws T L t) r (u ∷ []) is).1.0;
}

-- an `Answered<()>`
abbrev pub answered_unit : Results
answered_unit = answered unit (of_field unit-field LL.unit-laws refl (copy_shared unit-field LL.unit-copy)) (field_told unit-field LL.unit-laws) LL.unit-plain _ refl refl

-- an `Answered<FdtWriterNode>`
abbrev pub answered_node : Results
answered_node = answered N.the_row N'.the_row_laws N'.the_told N'.the_row_plain _ refl refl
