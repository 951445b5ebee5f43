use Rattle.std.proofs.Common.{◌≡◌, subst, sym, IsUtf8, arith}
use Rattle.std.proofs.lemmas.Str.{IsUtf8-from_ascii}
use Rattle.csn_json.proofs.Ascii.{written_is_ascii}
use Rattle.csn_json.proofs.write.block_line.Goals as goal

pub unreachable-requires : goal.unreachable-requires
unreachable-requires c =
    let utf8 = subst IsUtf8 (sym c.in_ok-to_hex_line.ensures) (IsUtf8-from_ascii _ (written_is_ascii c.args.bits.now)) in
    grind (arith, c.from_utf8.ensures.succeeds utf8)
