use Rattle.std.proofs.Common.{[], refl}
use Rattle.csn_desc.specs.declared.node.Node.TheVariants.{Seq, Choice, Times, Many, Trunc, Named}
use Rattle.csn_look.specs.Reached.{follow_later, follow_kept, follow_trunc, follow_times_again, follow_many_again, follow_choice, follow_named}
use Rattle.csn_look.proofs.Meaning.LeastSets.{follow_part}
use Rattle.csn_look.proofs.Meaning.ShapeFacts.{shape_of}
use Rattle.csn_look.proofs.Meaning.StartFacts.{parts_follow_start, times_follow_start, many_follow_start}
use Rattle.csn_look.proofs.Meaning.FollowFacts.{cuts, seq_follows, lead_follows, times_follows, many_follows}
use Rattle.csn_look.proofs.laws.bits_stand_behind_parts.Goals as goal

pub returns : goal.returns
returns c =
    record {
      sequence = λ d k i p parts before after v b x ts is at split fits h behind. seq_follows d (shape_of c.known.ensures d is) before at split fits h behind;
      sequence_followed = λ d k i p parts before after v b is at split fits h bit rest e. follow_part k (Seq parts)
          before after at split
          (follow_later (parts_follow_start d (shape_of c.known.ensures d is) bit rest e fits h));
      truncation = λ d k i p parts before after v b x ts is at split fits h behind. lead_follows d
          (shape_of c.known.ensures d is) before at split fits h behind;
      truncation_last = λ d k i o parts before after x at split behind bit rest e. follow_part k (Trunc parts)
          before after at split (follow_trunc (behind bit rest e));
      truncation_followed = λ d k i p parts before after v b is at split fits h bit rest e. follow_part k
          (Trunc parts) before after at split
          (follow_kept (parts_follow_start d (shape_of c.known.ensures d is) bit rest e fits h));
      times = λ d k i p left count v b x ts is at fits h behind. times_follows d (shape_of c.known.ensures d is) at fits h behind;
      times_followed = λ d k i p left count v b is at fits h bit rest e. follow_part k (Times count i) [] [] at refl
          (follow_times_again (times_follow_start d (shape_of c.known.ensures d is) bit rest e fits h));
      many = λ d k i p v b x ts is at fits h behind. many_follows d (shape_of c.known.ensures d is) at fits h behind;
      many_followed = λ d k i p v b is at fits h bit rest e. follow_part k (Many i) [] [] at refl
          (follow_many_again (many_follow_start d (shape_of c.known.ensures d is) bit rest e fits h));
      choice = λ d k j i o parts x at part behind bit rest e. let cut = cuts parts j i part in
          follow_part k (Choice parts) cut.before cut.after at cut.is (follow_choice (behind bit rest e));
      label = λ d k i o label x at behind bit rest e. follow_part k (Named label i) [] [] at refl (follow_named (behind bit rest e));
      nothing = λ d i o bit rest e. absurd (cc);
    }
