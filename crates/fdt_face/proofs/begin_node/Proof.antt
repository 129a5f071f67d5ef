-- `begin_node` meets its contract by the walk that Rattle makes of it, so a wrong body is refused by the contract and not for its form; and it is the writer's own call, in place, so the law says the same.
use Rattle.std.proofs.Common.{rules}
use Rattle.fdt_face.proofs.Names.{refl, [], ◌∷◌, id⊢, unasked, val_of, in_place, by_local, named, u8, mut_slice_vals, shr_slice_vals, mut_slice_Tells, shr_slice_Tells, shared_slice, lent_slice, answered_node}
use Rattle.fdt_writer.specs.contracts.FdtWriter.begin_node as core
use Rattle.fdt_writer.proofs.FdtWriter.begin_node.Symbol.{name as #core}
use Rattle.fdt_writer.proofs.FdtWriter.begin_node.Met as core-thm
use Rattle.fdt_face.specs.contracts.begin_node.Key.{name as #self}
use Rattle.fdt_face.specs.contracts.begin_node as f
use Rattle.fdt_face.proofs.begin_node.Statement as stated
use Rattle.fdt_face.proofs.begin_node.Code as code
use Rattle.fdt_face.proofs.begin_node.Tie as tie

-- what the walk leaves to answer: nothing is asked of the call, the blob keeps its length, and the contract holds at the return
asks : tie.Need-begin_node-begun-requires
asks = search rules

shape : tie.Need-shape_of-blob
shape = search rules

returns : tie.Need-returns
returns = search rules

pub begin_node_spec : {M : Type 1} → stated.statement M
begin_node_spec = tie.close (tie.spec asks shape returns)

-- the same by the law
pub begin_node_in_place : {M : Type 1} → stated.statement M
begin_node_in_place 𝓤 𝓛 𝓜 𝓡 wired =
    in_place 2 [] _ _ _ 𝓛 𝓜 𝓡 (f.clauses 𝓛 𝓜.mem 𝓡.returns) (λ κs. (mut_slice_vals, (shr_slice_vals, tt))) code.function answered_node #core by_local core.ended (core.clauses 𝓛 𝓜.mem 𝓡.returns)
    𝓡.env #self (𝓡.env #core) (code.unfolded 𝓤 𝓛.H 𝓜 𝓡 wired) refl (core-thm.met 𝓤 𝓛 𝓜 𝓡 (code.calls-fdt_writer::FdtWriter::begin_node 𝓡.env wired)) (λ κs. (mut_slice_Tells (named 1) κs.1.0 u8, (shr_slice_Tells (named 2) κs.1.1.0 u8, tt)))
    (λ κs qs w a g are. (lent_slice (named 1) κs.1.0 u8 a.0 are.0 ∷ shared_slice (named 2) κs.1.1.0 u8 a.1.0 are.1.0 ∷ [], ((κs.1, qs.1, tt, (w.now, a), (val_of w.now ∷ [], (mut_slice_vals a.0, (shr_slice_vals a.1.0, tt)))), tt), refl, refl, refl, unasked 𝓤 _, λ x. x.0, λ x. x.0.answer, λ x. x.1.1, λ x u. id⊢ 𝓤 _, λ x v. id⊢ 𝓤 _, λ x. id⊢ 𝓤 _))
