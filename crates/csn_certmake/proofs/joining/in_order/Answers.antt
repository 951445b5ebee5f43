use Rattle.std.specs.Cmp.{on_equiv, on_total}
use Rattle.std.specs.Cmp.Lexicographic.{nat_list_eq_equiv, nat_list_cmp_total, texts_ties}
use Rattle.std.proofs.lemmas.List.Filters.{dedup_is}
use Rattle.std.proofs.lemmas.List.Kept.{Contains-dedup, Contains-from_dedup, IsStrictlySortedBy-dedup}
use Rattle.std.proofs.lemmas.List.Sorted.{Contains-permutation, IsPermutation-sym}
use Rattle.std.proofs.lemmas.Slice.Eq.{bytes_eq-Decides}
use Rattle.csn_cert.specs.PatternText.{pattern_text}
use Rattle.csn_certmake.proofs.Orders.{rises_from}
use Rattle.csn_certmake.proofs.joining.in_order.Goals as goal

pub returns-clause-same : goal.returns-clause-same
returns-clause-same c = λ p.
    let is = dedup_is _ _ _ c.dedup.ensures.filtered in
    let moved = c.sort_unstable.ensures.permutation in (
      λ h. Contains-permutation _ _ p (IsPermutation-sym _ _ moved) (Contains-from_dedup _ _ p (rw is at h)),
      λ h. rw is (Contains-dedup (on_equiv pattern_text nat_list_eq_equiv)
          (λ q r same. c.texts_are_of_one_pattern.ensures q r
          ((bytes_eq-Decides (pattern_text q) (pattern_text r)).0 same)) _ p (Contains-permutation _ _ p moved h)),
    )

pub returns-clause-rising : goal.returns-clause-rising
returns-clause-rising c =
    let is = dedup_is _ _ _ c.dedup.ensures.filtered in
    rw is (rises_from _ (IsStrictlySortedBy-dedup (on_total pattern_text nat_list_cmp_total)
    (λ q r. texts_ties (pattern_text q) (pattern_text r)) _ c.sort_unstable.ensures.sorted))
