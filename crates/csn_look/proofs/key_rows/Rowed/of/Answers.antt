use Rattle.std.proofs.Common.{ℕ, List, sym, subst}
use Rattle.std.proofs.lemmas.Option.{slice_get_within, get_or_from_slice_get}
use Rattle.csn_look.specs.Keys.{InKeys}
use Rattle.csn_look.specs.KeyRows.{HasRow}
use Rattle.csn_look.proofs.key_rows.Rowed.of.Goals as goal

pub bounds-self-i : goal.bounds-self-i
bounds-self-i c = slice_get_within c.args.self.now.rows.now c.args.i c.requires.0 c.requires.1

pub returns : goal.returns
returns c =
    subst (λ (row : List ℕ). HasRow c.args.tables.now row (InKeys c.args.self.now.desc.now 12 c.args.i))
    (sym (get_or_from_slice_get c.args.self.now.rows.now c.args.i c.requires.0 _ c.requires.1)) c.requires.2
