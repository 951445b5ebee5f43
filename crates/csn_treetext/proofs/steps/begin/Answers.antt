use Rattle.std.specs.Prelude.{slice_index}
use Rattle.std.proofs.Common.{◌+◌, [], None, refl, sym, ap, ◌∙◌, subst, arith, inl, inr}
use Rattle.csn_desc.specs.TreeV.{empty, bits}
use Rattle.csn_treetext.specs.declared.name.NameAt.TheVariants.{Front}
use Rattle.csn_treetext.specs.declared.version.Version.TheVariants.{First, Second}
use Rattle.csn_treetext.specs.reader.Mode.{Start, Opened, Hash, Name, Octets, Bare}
use Rattle.csn_treetext.specs.reader.Machine.{state, with_tree, begun}
use Rattle.csn_treetext.specs.reader.Reading.{Stands}
use Rattle.csn_treetext.proofs.ReadingFacts.{led, led_on}
use Rattle.csn_treetext.proofs.StopFacts.{begins_with, begins_not, inside_begins, inside_full, digit_begins, none_begins}
use Rattle.csn_treetext.proofs.steps.begin.Goals as goal
use Rattle.csn_treetext.proofs.steps.begin.Goals.{in_default-via-in-35+else-len-lt-MOST_ROUND}
use Rattle.csn_treetext.proofs.steps.begin.Goals.{in_default-via-in-60+else-len-lt-MOST_ROUND-2}
use Rattle.csn_treetext.proofs.steps.begin.Goals.{in_default-via-in_default+then-byte-lt49}
use Rattle.csn_treetext.proofs.steps.begin.Goals.{in_default-via-in_default+else-byte-lt49+else-byte-lt58}

pub close-requires-clause-stands : goal.close-requires-clause-stands
close-requires-clause-stands c =
    led (begins_with c.args.source.version c.args.source.text.now c.args.at 46 c.args.stack.now
    (with_tree c.args.stack.now empty) c.requires.within c.requires.stands c.in-46.is refl)

pub alternative-requires-clause-comes : goal.alternative-requires-clause-comes
alternative-requires-clause-comes c =
    begins_with c.args.source.version c.args.source.text.now c.args.at 35 c.args.stack.now
    (state Hash c.args.stack.now) c.requires.within c.requires.stands c.in-35.is
    (inside_begins c.args.stack.now Hash (omega arith))

pub name-requires-clause-comes : goal.name-requires-clause-comes
name-requires-clause-comes c =
    begins_with c.args.source.version c.args.source.text.now c.args.at 60 c.args.stack.now
    (state (Name [] Front) c.args.stack.now) c.requires.within c.requires.stands c.in-60.is
    (inside_begins c.args.stack.now (Name [] Front) (omega arith))

pub bit_digits-requires-clause-comes : goal.bit_digits-requires-clause-comes
bit_digits-requires-clause-comes c =
    let stands = subst (λ v. Stands v c.args.source.text.now c.args.at (state Start c.args.stack.now)) c.in-First.is c.requires.stands in
    begins_with First c.args.source.text.now c.args.at 98 c.args.stack.now (state (Bare []) c.args.stack.now) c.requires.within stands c.in-98.is refl

pub close-requires-in-Second-clause-stands : goal.close-requires-in-Second-clause-stands
close-requires-in-Second-clause-stands c =
    let stands = subst (λ v. Stands v c.args.source.text.now c.args.at (state Start c.args.stack.now)) c.in-Second.is c.requires.stands in
    let whole = led (begins_with Second c.args.source.text.now c.args.at 98 c.args.stack.now
    (with_tree c.args.stack.now (bits [])) c.requires.within stands c.in-98.is refl) in
    let leaf = sym (c.leaf.ensures ∙ ap bits c.new.ensures) in
    subst (λ v. Stands v c.args.source.text.now (c.args.at + 1) (with_tree c.args.stack.now c.leaf.result)) (sym c.in-Second.is)
    (subst (λ t. Stands Second c.args.source.text.now (c.args.at + 1) (with_tree c.args.stack.now t)) leaf whole)

pub block_line-requires-clause-comes : goal.block_line-requires-clause-comes
block_line-requires-clause-comes c =
    let stands = subst (λ v. Stands v c.args.source.text.now c.args.at (state Start c.args.stack.now)) c.in-Second-version.is c.requires.stands in
    begins_with Second c.args.source.text.now c.args.at 120 c.args.stack.now (state (Octets [] None) c.args.stack.now)
    c.requires.within stands c.in-120.is refl

pub short_leaf-requires-clause-comes : goal.short_leaf-requires-clause-comes
short_leaf-requires-clause-comes c =
    let byte = slice_index c.args.source.text.now c.args.at in
    led_on c.args.source.version c.args.source.text.now c.args.at (state Start c.args.stack.now) _ c.requires.within c.requires.stands
    (digit_begins c.args.source.version c.args.stack.now byte (omega arith) (omega arith))

pub returns-in-91 : goal.returns-in-91
returns-in-91 c = (
  omega arith,
  omega arith,
  c.requires.room,
  led (begins_with c.args.source.version c.args.source.text.now c.args.at 91 c.args.stack.now
      (state Opened c.args.stack.now) c.requires.within c.requires.stands c.in-91.is refl),
)

pub returns-in-First-version : goal.returns-in-First-version
returns-in-First-version c =
    begins_not c.args.source.version c.args.source.text.now c.args.at c.args.stack.now c.requires.within c.requires.stands
    (ap (begun c.args.source.version c.args.stack.now) c.in-120.is ∙ ap (λ v. begun v c.args.stack.now 120) c.in-First-version.is)

pub returns-in_default : goal.returns-in_default
returns-in_default c =
    let byte = slice_index c.args.source.text.now c.args.at in
    let stack = c.args.stack.now in
    begins_not c.args.source.version c.args.source.text.now c.args.at stack c.requires.within c.requires.stands
    (elim c.in_default.branch [
      | in_default-via-in-35+else-len-lt-MOST_ROUND w ↦ ap (begun c.args.source.version stack) w.in-35.is ∙ inside_full stack Hash (omega arith)
      | in_default-via-in-60+else-len-lt-MOST_ROUND-2 w ↦ ap (begun c.args.source.version stack) w.in-60.is ∙ inside_full stack (Name [] Front) (omega arith)
      | in_default-via-in_default+then-byte-lt49 w ↦ none_begins c.args.source.version stack byte (λ e. omega arith)
          (λ e. omega arith) (λ e. omega arith) (λ e. omega arith) (λ e. omega arith) (λ e. omega arith)
          (inl (omega arith))
      | in_default-via-in_default+else-byte-lt49+else-byte-lt58 w ↦ none_begins c.args.source.version stack byte
          (λ e. omega arith) (λ e. omega arith) (λ e. omega arith) (λ e. omega arith) (λ e. omega arith)
          (λ e. omega arith) (inr (omega arith))
    ])
