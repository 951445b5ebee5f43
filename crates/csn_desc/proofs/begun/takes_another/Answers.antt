-- Nodes that may have many parts always take one more.
use Rattle.std.proofs.Common.{ℕ, ◌+◌, ◌<◌, Bool, List, [], length, refl, sym, subst, arith, if◌then◌else◌}
use Rattle.csn_desc.specs.declared.node.Node.{Node}
use Rattle.csn_desc.specs.declared.node.Node.TheVariants.{Seq, Choice, Trunc}
use Rattle.csn_desc.specs.Nodes.{head_of, parts_of}
use Rattle.csn_desc.specs.Formed.{HasParts}
use Rattle.csn_desc.proofs.begun.takes_another.Goals as goal

abbrev Takes : Bool → Node → Type 0
Takes begun n = (parts : ℕ) × (length (if begun then parts_of n else []) < parts) × HasParts (head_of n) parts

takes_seq : (begun : Bool) (parts : List ℕ) → Takes begun (Seq parts)
takes_seq begun parts = (length (if begun then parts else []) + 2, omega arith, omega arith)

takes_choice : (begun : Bool) (parts : List ℕ) → Takes begun (Choice parts)
takes_choice begun parts = (length (if begun then parts else []) + 2, omega arith, omega arith)

takes_trunc : (begun : Bool) (parts : List ℕ) → Takes begun (Trunc parts)
takes_trunc begun parts = (length (if begun then parts else []) + 1, omega arith, omega arith)

pub returns-in-Seq : goal.returns-in-Seq
returns-in-Seq c =
    let P : Node → Type 0 = λ n. Takes c.args.begun n in
    (λ _. subst P (sym c.in-Seq.is) (takes_seq c.args.begun c.in-Seq.field-0), λ _. refl)

pub returns-in-Choice : goal.returns-in-Choice
returns-in-Choice c =
    let P : Node → Type 0 = λ n. Takes c.args.begun n in
    (λ _. subst P (sym c.in-Choice.is) (takes_choice c.args.begun c.in-Choice.field-0), λ _. refl)

pub returns-in-Trunc : goal.returns-in-Trunc
returns-in-Trunc c =
    let P : Node → Type 0 = λ n. Takes c.args.begun n in
    (λ _. subst P (sym c.in-Trunc.is) (takes_trunc c.args.begun c.in-Trunc.field-0), λ _. refl)
