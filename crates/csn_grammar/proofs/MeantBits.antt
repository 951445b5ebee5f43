-- Bits that an expression means are zeros and ones, and so are bits that it follows.
use Rattle.std.proofs.Common.{◌≡◌, ℕ, List, ◌++◌, sym}
use Rattle.csn_bits.specs.Octets.{IsBits}
use Rattle.csn_bits.proofs.Packing.{IsBits-append}
use Rattle.csn_desc.specs.declared.reading.Reading.{Reading}
use Rattle.csn_desc.specs.declared.symbol.Symbol.TheVariants.{Zero, Low}
use Rattle.csn_desc.specs.TreeV.{TreeV, Trees}
use Rattle.csn_desc.proofs.BitFacts.{IsBits-front, IsBits-along, IsBits-spelled, IsBits-spare}
use Rattle.csn_grammar.specs.declared.rules.Rule.{Rule}
use Rattle.csn_grammar.specs.ExprV.{ExprV, ExprsV}
use Rattle.csn_grammar.specs.RulesV.{RulesV}
use Rattle.csn_grammar.specs.Environment.{Frame, Env}
use Rattle.csn_grammar.specs.TailForm.{TailV}
use Rattle.csn_grammar.specs.Meaning.{Means, ItemsMean, TimesMean, ManyMean, LeadMean, RuleMeans, TailMeans}
use Rattle.csn_grammar.specs.Meaning.{means_lits, means_null, means_bit, means_octet, means_field, means_rest}
use Rattle.csn_grammar.specs.Meaning.{means_spare_bit, means_spare_low, means_padding, means_seq, means_choice}
use Rattle.csn_grammar.specs.Meaning.{means_only, means_times, means_many, means_cut_all, means_cut, means_window}
use Rattle.csn_grammar.specs.Meaning.{means_labelled, means_name, means_group, means_received, means_sent, items_end}
use Rattle.csn_grammar.specs.Meaning.{items_next, times_end, times_next, many_end, many_next, lead_last, lead_next}
use Rattle.csn_grammar.specs.Meaning.{rule_plain, rule_tail, tail_stop, tail_again}
use Rattle.csn_grammar.specs.Follow.{Follow, ItemsFollow, TimesFollow, ManyFollow, RuleFollows, TailFollows}
use Rattle.csn_grammar.specs.Follow.{follows_whole, follows_leaf, follows_seq, follows_choice, follows_times}
use Rattle.csn_grammar.specs.Follow.{follows_many, follows_cut, follows_window, follows_labelled, follows_name}
use Rattle.csn_grammar.specs.Follow.{follows_group, follows_received, follows_sent, items_here, items_later}
use Rattle.csn_grammar.specs.Follow.{times_here, times_later, many_here, many_later, follows_plain, follows_tail}
use Rattle.csn_grammar.specs.Follow.{tail_items, tail_stops, tail_goes_on, tail_turns}

IsBits-split : {w : List ℕ} (b1 b2 : List ℕ) → w ≡ b1 ++ b2 → IsBits b1 → IsBits b2 → IsBits w
IsBits-split b1 b2 e p q = IsBits-along e (IsBits-append b1 b2 p q)

-- the first few of some bits
IsBits-cut : {w : List ℕ} (b rest : List ℕ) → w ≡ b ++ rest → IsBits w → IsBits b
IsBits-cut b rest e p = IsBits-front b rest (IsBits-along (sym e) p)

module _ (rules : RulesV) (r : Reading) where
  mutual
    pub meant_bits : {x : ExprV} {o : ℕ} {env : Env} {b : List ℕ} {t : TreeV} → Means rules r x o env b t
        → IsBits b
    meant_bits {o = o} (means_lits {run = run} h) = IsBits-along h (IsBits-spelled run o)
    meant_bits (means_null h) = IsBits-along h tt
    meant_bits (means_bit one h) = h
    meant_bits (means_octet eight h) = h
    meant_bits (means_field unit n is count wide h) = h
    meant_bits (means_rest is h) = h
    meant_bits {o = o} {b = b} (means_spare_bit is one h) = IsBits-spare r Zero o b h
    meant_bits {o = o} {b = b} (means_spare_low is one h) = IsBits-spare r Low o b h
    meant_bits {o = o} {b = b} (means_padding is some h) = IsBits-spare r Low o b h
    meant_bits (means_seq h) = items_bits h
    meant_bits (means_choice xs kept two at h) = meant_bits h
    meant_bits (means_only kept h) = meant_bits h
    meant_bits (means_times n is count h) = times_bits h
    meant_bits (means_many is h) = many_bits h
    meant_bits (means_cut_all h) = IsBits-along h tt
    meant_bits (means_cut h) = lead_bits h
    meant_bits (means_window w n at count wide h) = meant_bits h
    meant_bits (means_labelled h) = meant_bits h
    meant_bits (means_name rule at h) = rule_bits h
    meant_bits (means_group h) = meant_bits h
    meant_bits (means_received is h) = meant_bits h
    meant_bits (means_sent is h) = meant_bits h

    pub items_bits : {xs : ExprsV} {o : ℕ} {frame : Frame} {env : Env} {b : List ℕ} {ts : Trees}
        → ItemsMean rules r xs o frame env b ts → IsBits b
    items_bits (items_end h) = IsBits-along h tt
    items_bits (items_next b1 b2 cut h others) = IsBits-split b1 b2 cut (meant_bits h) (items_bits others)

    times_bits : {n o : ℕ} {x : ExprV} {env : Env} {b : List ℕ} {ts : Trees}
        → TimesMean rules r n x o env b ts → IsBits b
    times_bits (times_end zero h) = IsBits-along h tt
    times_bits (times_next m is b1 b2 cut h others) = IsBits-split b1 b2 cut (meant_bits h) (times_bits others)

    many_bits : {x : ExprV} {o : ℕ} {env : Env} {b : List ℕ} {ts : Trees} → ManyMean rules r x o env b ts
        → IsBits b
    many_bits (many_end h) = IsBits-along h tt
    many_bits (many_next b1 b2 cut some h others) = IsBits-split b1 b2 cut (meant_bits h) (many_bits others)

    lead_bits : {xs : ExprsV} {o : ℕ} {frame : Frame} {env : Env} {b : List ℕ} {ts : Trees}
        → LeadMean rules r xs o frame env b ts → IsBits b
    lead_bits (lead_last some h) = meant_bits h
    lead_bits (lead_next b1 b2 cut h others) = IsBits-split b1 b2 cut (meant_bits h) (lead_bits others)

    pub rule_bits : {rule : Rule} {o : ℕ} {env : Env} {b : List ℕ} {t : TreeV}
        → RuleMeans rules r rule o env b t → IsBits b
    rule_bits (rule_plain is h) = meant_bits h
    rule_bits (rule_tail tail is h) = tail_bits h

    tail_bits : {tail : TailV} {o : ℕ} {env : Env} {b : List ℕ} {ts turns : Trees}
        → TailMeans rules r tail o env b ts turns → IsBits b
    tail_bits {tail = tail} {o = o} (tail_stop b1 b2 cut items stop) =
        IsBits-split b1 b2 cut (items_bits items) (IsBits-along stop (IsBits-spelled tail.end.stop.run _))
    tail_bits {tail = tail} (tail_again b1 b2 b3 cut items again next) =
        IsBits-split b1 (b2 ++ b3) cut (items_bits items)
        (IsBits-append b2 b3 (IsBits-along again (IsBits-spelled tail.end.again.run _)) (tail_bits next))

  mutual
    pub followed_bits : {x : ExprV} {o : ℕ} {env : Env} {b : List ℕ} → Follow rules r x o env b → IsBits b
    followed_bits (follows_whole t h) = meant_bits h
    followed_bits {b = b} (follows_leaf whole rest leaf cut h) = IsBits-cut b rest cut (meant_bits h)
    followed_bits (follows_received is h) = followed_bits h
    followed_bits (follows_sent is h) = followed_bits h
    followed_bits (follows_seq full h) = items_followed_bits h
    followed_bits (follows_choice xs j kept at h) = followed_bits h
    followed_bits (follows_times n is count h) = times_followed_bits h
    followed_bits (follows_many is h) = many_followed_bits h
    followed_bits (follows_cut h) = items_followed_bits h
    followed_bits (follows_window w n at count wide h) = followed_bits h
    followed_bits (follows_labelled h) = followed_bits h
    followed_bits (follows_name rule at h) = rule_followed_bits h
    followed_bits (follows_group h) = followed_bits h

    items_followed_bits : {xs : ExprsV} {o : ℕ} {frame : Frame} {env : Env} {b : List ℕ}
        → ItemsFollow rules r xs o frame env b → IsBits b
    items_followed_bits (items_here h) = followed_bits h
    items_followed_bits (items_later b1 b2 cut h others) = IsBits-split b1 b2 cut (meant_bits h) (items_followed_bits others)

    times_followed_bits : {n o : ℕ} {x : ExprV} {env : Env} {b : List ℕ} → TimesFollow rules r n x o env b
        → IsBits b
    times_followed_bits (times_here some h) = followed_bits h
    times_followed_bits (times_later m is b1 b2 cut h others) = IsBits-split b1 b2 cut (meant_bits h) (times_followed_bits others)

    many_followed_bits : {x : ExprV} {o : ℕ} {env : Env} {b : List ℕ} → ManyFollow rules r x o env b
        → IsBits b
    many_followed_bits (many_here h) = followed_bits h
    many_followed_bits (many_later b1 b2 cut some h others) = IsBits-split b1 b2 cut (meant_bits h) (many_followed_bits others)

    rule_followed_bits : {rule : Rule} {o : ℕ} {env : Env} {b : List ℕ} → RuleFollows rules r rule o env b
        → IsBits b
    rule_followed_bits (follows_plain is h) = followed_bits h
    rule_followed_bits (follows_tail tail is h) = tail_followed_bits h

    tail_followed_bits : {tail : TailV} {o : ℕ} {env : Env} {b : List ℕ} → TailFollows rules r tail o env b
        → IsBits b
    tail_followed_bits (tail_items full h) = items_followed_bits h
    tail_followed_bits {tail = tail} (tail_stops b1 b2 cut items begins) =
        IsBits-split b1 b2 cut (items_bits items) (IsBits-cut b2 begins.0 begins.1 (IsBits-spelled tail.end.stop.run _))
    tail_followed_bits {tail = tail} (tail_goes_on b1 b2 cut items begins) =
        IsBits-split b1 b2 cut (items_bits items) (IsBits-cut b2 begins.0 begins.1 (IsBits-spelled tail.end.again.run _))
    tail_followed_bits {tail = tail} (tail_turns b1 b2 b3 cut items again next) =
        IsBits-split b1 (b2 ++ b3) cut (items_bits items)
        (IsBits-append b2 b3 (IsBits-along again (IsBits-spelled tail.end.again.run _)) (tail_followed_bits next))
