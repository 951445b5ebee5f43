-- A certified description is clear, by what may follow its nodes.
use Rattle.std.proofs.Common.{◌%◌, ℕ, inl, [], refl}
use Rattle.csn_desc.specs.declared.node.Node.TheVariants.{Seq, Choice, Times, Many, Trunc, Named}
use Rattle.csn_desc.specs.Nodes.{DescV}
use Rattle.csn_look.specs.Reached.{follow_later, follow_seq, follow_kept, follow_trunc}
use Rattle.csn_look.specs.Reached.{follow_times_again, follow_times, follow_many_again, follow_many, follow_choice}
use Rattle.csn_look.specs.Reached.{follow_named}
use Rattle.csn_look.proofs.Meaning.LeastSets.{follow_part}
use Rattle.csn_look.proofs.Meaning.ShapeFacts.{shaped}
use Rattle.csn_look.proofs.Meaning.ReachFacts.{many_reached}
use Rattle.csn_claims.proofs.Clear.{Clear}
use Rattle.csn_certify.specs.declared.conflict.Conflict.TheVariants.{TwoEmpty, NotFirm, Overlap, EmptyClash, LoopClash, NotLast}
use Rattle.csn_certify.specs.Conflicts.{two_empty, choice_not_firm, overlap, empty_clash, loop_clash, not_last, Certified}
use Rattle.csn_certify.proofs.Here.{Here, Follow}

pub clear_of : (d : DescV) (most : ℕ) → Here d → Certified d most → Clear d most (Follow d)
clear_of d most here certified =
    record {
      shaped = shaped here.known.formed here.known.no_values here.known.fitting d here.is;
      seq_later = λ k i from o p bit parts before after is reached ended lies starts. follow_part k (Seq parts)
          before after is.at is.split (follow_later starts);
      trunc_later = λ k i from o p bit parts before after is reached ended lies starts. follow_part k (Trunc parts)
          before after is.at is.split (follow_kept starts);
      times_again = λ k i o p bit count at lies again starts. follow_part k (Times count i) [] [] at refl (follow_times_again starts);
      many_again = λ k i o p bit at lies again starts. follow_part k (Many i) [] [] at refl (follow_many_again starts);
      seq_behind = λ k i o p bit parts before after is lies none f. follow_part k (Seq parts) before after is.at is.split (follow_seq none f);
      trunc_behind = λ k i o p bit parts before after is lies f. follow_part k (Trunc parts) before after is.at is.split (follow_trunc f);
      times_behind = λ k i o p bit count at lies f. follow_part k (Times count i) [] [] at refl (follow_times f);
      many_behind = λ k i o p bit at lies f. follow_part k (Many i) [] [] at refl (follow_many f);
      choice_behind = λ k i o p bit parts before after is lies f. follow_part k (Choice parts) before after is.at is.split (follow_choice f);
      named_behind = λ k i o p bit label at lies f. follow_part k (Named label i) [] [] at refl (follow_named f);
      two_empty = λ k i j p q parts at less at_i at_j null_i null_j. certified (TwoEmpty k i j) (two_empty at less at_i at_j null_i null_j);
      nullable = λ k i p parts at at_i real none. certified (NotFirm k i) (choice_not_firm at at_i real (inl none));
      overlap = λ k o i j p q parts word_i word_j mark_i mark_j at reached less at_i at_j real_i real_j key_i key_j begun.
          certified (Overlap k (o % 8) i j word_i word_j) (overlap mark_i mark_j at reached less at_i at_j real_i real_j key_i key_j begun);
      empty_clash = λ k o bit i j p q parts at reached at_i null at_j differs starts f. certified (EmptyClash k o bit)
          (empty_clash at reached at_i null at_j differs starts f);
      loop_clash = λ k i from o bit at reached ended starts f. certified (LoopClash k o bit) (loop_clash at (many_reached d at reached ended) starts f);
      not_last = λ k from o bit n at last reached ends f. certified (NotLast k o) (not_last n from at last reached ends f);
    }
