use Rattle.std.proofs.Common.{◌≡◌, ap, arith, slice_index, refl, codes}
use Rattle.std.proofs.lemmas.Str.{IsUtf8-from_ascii}
use Rattle.serde_json.specs.Data.{string}
use Rattle.serde_json.proofs.OnLiterals.{serde_json_on_literals}
use Rattle.csn_json.proofs.Ascii.{ascii_if}
use Rattle.csn_json.proofs.Lines.{is_upper}
use Rattle.csn_json.proofs.Refusals.{line_of}
use Rattle.csn_json.proofs.examples.worked_refusals.Goals as goal

pub returns-clause-lower_case : goal.returns-clause-lower_case
unfolding serde_json_on_literals
returns-clause-lower_case c = (
  string (codes "a0/3"),
  record { utf8 = IsUtf8-from_ascii (codes "\"a0/3\"") (ascii_if (codes "\"a0/3\"") refl); reads = refl },
  λ t is.
      let found = line_of 0 (codes "a0/3") t (record { fits = is.fits; parts = is.parts; shown = is.shown }) in
      let same = is_upper c.written_is_read.ensures (codes "a0/3") found.0 found.1 in
      let first : 65 ≡ 97 = ap (λ l. slice_index l 0) same in
      omega (arith, first),
)

pub returns-clause-no_json : goal.returns-clause-no_json
unfolding serde_json_on_literals
returns-clause-no_json c = λ value is. let some = is.reads in absurd cc
