use Rattle.std.specs.Cmp.{on_equiv}
use Rattle.std.specs.Cmp.Lexicographic.{nat_list_eq_equiv}
use Rattle.std.proofs.lemmas.List.Filters.{dedup_is}
use Rattle.std.proofs.lemmas.List.Kept.{Contains-dedup, Contains-from_dedup}
use Rattle.std.proofs.lemmas.Slice.Eq.{bytes_eq-Decides}
use Rattle.csn_cert.specs.PatternText.{pattern_text}
use Rattle.csn_certmake.proofs.joining.without_repeats.Goals as goal

pub returns : goal.returns
returns c = λ p.
    let is = dedup_is _ _ _ c.dedup.ensures.filtered in (
      λ h. Contains-from_dedup _ _ p (rw is at h),
      λ h. rw is (Contains-dedup (on_equiv pattern_text nat_list_eq_equiv)
          (λ q r same. c.texts_are_of_one_pattern.ensures q r
          ((bytes_eq-Decides (pattern_text q) (pattern_text r)).0 same)) _ p h),
    )
