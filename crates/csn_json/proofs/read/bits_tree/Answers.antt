use Rattle.std.proofs.Common.{List, ℕ, sym, subst}
use Rattle.serde_json.specs.Data.{string}
use Rattle.csn_json.specs.Reading.{IsShown, IsWritten, Refuses}
use Rattle.csn_json.proofs.Refusals.{line_of}
use Rattle.csn_json.proofs.read.bits_tree.Goals as goal

pub returns-in-Err-NotTree-clause-ok : goal.returns-in-Err-NotTree-clause-ok
returns-in-Err-NotTree-clause-ok c = λ round low t is.
    let found = line_of round c.as_bytes.result.now t (subst (λ line. IsShown round (string line) t) (sym c.as_bytes.ensures.value) is) in
    (subst (λ fault. Refuses fault ((b : List ℕ) → IsWritten c.as_bytes.result.now b → ⊥)) c.in-Err-NotTree.field-0-is c.in-Err-NotTree.ensures.refused)
    found.0 found.1
