use Rattle.std.proofs.Common.{None, sym, subst}
use Rattle.csn_treetext.specs.declared.version.Version.TheVariants.{Second}
use Rattle.csn_treetext.specs.reader.Mode.{Octets}
use Rattle.csn_treetext.specs.reader.Machine.{state}
use Rattle.csn_treetext.specs.reader.Reading.{Comes}
use Rattle.csn_treetext.proofs.ReadingFacts.{gives_from}
use Rattle.csn_treetext.proofs.long.block_line.Goals as goal

pub block_line_end-requires-clause-comes : goal.block_line_end-requires-clause-comes
block_line_end-requires-clause-comes c =
    subst (λ l. Comes Second c.args.source.text.now c.in_ok-octets.field-0.end (state (Octets l None) c.args.stack.now)) (sym c.as_slice.ensures.value)
    (c.in_ok-octets.ensures.comes c.args.stack.now c.requires.comes)

pub block_line_end-requires-clause-stops : goal.block_line_end-requires-clause-stops
block_line_end-requires-clause-stops c = rw c.as_slice.ensures.value c.in_ok-octets.ensures.stops

pub returns : goal.returns
returns c = gives_from _ _ _ _ _ c.block_line_end.result c.in_ok-octets.ensures.from c.block_line_end.ensures
