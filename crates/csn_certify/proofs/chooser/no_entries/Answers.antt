use Rattle.std.proofs.Common.{◌≡◌, ◌+◌, ◌*◌, ◌^◌, ◌%◌, ◌<◌, ◌≤◌, ◌⊎◌, inl, inr, ℕ, suc, length, ap, ◌∙◌, arith}
use Rattle.std.proofs.Math.Nat.{pow-suc, pow-le-pow_right}
use Rattle.std.proofs.Math.ListN.{replicate, get_or, get_or-eq_default}
use Rattle.std.proofs.lemmas.Bool.{cases_lt}
use Rattle.std.proofs.lemmas.List.{get_or-replicate, length-replicate}
use Rattle.csn_look.specs.KeyMarks.{place_of}
use Rattle.csn_certify.specs.declared.pick_table.Entry.TheVariants.{Refuse}
use Rattle.csn_certify.proofs.chooser.no_entries.Goals as goal

all_refuse : (n p : ℕ) → get_or (replicate n Refuse) p Refuse ≡ Refuse
all_refuse n p = by_order (cases_lt p n)
  where
    by_order : (p < n) ⊎ (n ≤ p) → get_or (replicate n Refuse) p Refuse ≡ Refuse
    by_order (inl less) = get_or-replicate n p Refuse Refuse less
    by_order (inr more) = get_or-eq_default (replicate n Refuse) Refuse (omega (arith, length-replicate n Refuse, more))

pub returns-in-Ok : goal.returns-in-Ok
returns-in-Ok c =
    let width = c.args.width in
    let are = c.in-Ok.ensures.items_if_clones_equal (λ y e. e) in
    let short = c.requires in
    let power : 2 ^ width ≤ 2 ^ 12 = pow-le-pow_right {n = 2} (omega arith) short in
    let next : width + 1 ≡ suc width = omega arith in
    let twice : 2 ^ (width + 1) ≡ 2 * 2 ^ width = ap (λ n. 2 ^ n) next ∙ pow-suc 2 width ∙ omega arith in
    let size : length c.in-Ok.entries.items ≡ (2 * 2 ^ width) % 18446744073709551616 = ap length are
    ∙ length-replicate ((2 * 2 ^ width) % 18446744073709551616) Refuse in
    record {
      size = record { short = short; count = omega (arith, size, twice, power) };
      refuse = λ held. ap (λ l. get_or l (place_of held) Refuse) are ∙ all_refuse ((2 * 2 ^ width) % 18446744073709551616) (place_of held);
    }
