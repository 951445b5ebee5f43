use Rattle.std.proofs.Common.{◌≡◌, subst, sym, IsUtf8, arith}
use Rattle.std.proofs.lemmas.Str.{IsUtf8-from_ascii}
use Rattle.csn_json.proofs.Ascii.{label_is_ascii}
use Rattle.csn_json.proofs.write.labelled.Goals as goal

pub unreachable-requires : goal.unreachable-requires
unreachable-requires c =
    let utf8 : IsUtf8 c.bytes.result.now = IsUtf8-from_ascii _ (label_is_ascii _ c.bytes.ensures.label) in
    c.in-Err.ensures.cases.0 utf8
