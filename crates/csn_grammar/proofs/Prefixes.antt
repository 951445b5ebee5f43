-- Every prefix of bits that are followed is followed.
use Rattle.std.proofs.Common.{◌≡◌, ℕ, ◌+◌, true, List, [], ◌∷◌, ◌++◌, ◌⊎◌, inl, inr, length, refl, sym, ◌∙◌, ap, arith, append-nil, length-append, codes, Some}
use Rattle.csn_desc.specs.declared.reading.Reading.{Reading}
use Rattle.csn_desc.specs.TreeV.{TreeV, empty, bits, row, Trees, none, more}
use Rattle.csn_desc.specs.Spelled.{spelled}
use Rattle.csn_desc.proofs.Splits.{inside, behind, splits, front_begun, front_empty, cut_again}
use Rattle.csn_desc.proofs.BitFacts.{IsBits-front, IsBits-along}
use Rattle.csn_grammar.specs.declared.exponent.Exponent.{Exponent}
use Rattle.csn_grammar.specs.declared.exponent.Exponent.TheVariants.{Any, Number, Linear}
use Rattle.csn_grammar.specs.declared.rules.Rule.{Rule}
use Rattle.csn_grammar.specs.ExprV.{ExprV, expr, power, ExprsV}
use Rattle.csn_grammar.specs.RulesV.{RulesV}
use Rattle.csn_grammar.specs.Forms.{unit_of, is_spare_name, is_leaf}
use Rattle.csn_grammar.specs.Environment.{Frame, Env, count_of}
use Rattle.csn_grammar.specs.TailForm.{TailV}
use Rattle.csn_grammar.specs.Void.{SomeVoid}
use Rattle.csn_grammar.specs.Meaning.{Means, ItemsMean, TimesMean, ManyMean, LeadMean, RuleMeans, TailMeans}
use Rattle.csn_grammar.specs.Meaning.{means_lits, means_null, means_bit, means_octet, means_field, means_rest}
use Rattle.csn_grammar.specs.Meaning.{means_spare_bit, means_spare_low, means_padding, means_seq, means_choice}
use Rattle.csn_grammar.specs.Meaning.{means_only, means_times, means_many, means_cut_all, means_cut, means_window}
use Rattle.csn_grammar.specs.Meaning.{means_labelled, means_name, means_group, means_received, means_sent, items_end}
use Rattle.csn_grammar.specs.Meaning.{items_next, times_end, times_next, many_end, many_next, lead_last, lead_next}
use Rattle.csn_grammar.specs.Meaning.{rule_plain, rule_tail, tail_stop, tail_again}
use Rattle.csn_grammar.specs.Follow.{Follow, ItemsFollow, TimesFollow, ManyFollow, RuleFollows, TailFollows}
use Rattle.csn_grammar.specs.Follow.{follows_whole, follows_leaf, follows_seq, follows_choice, follows_times}
use Rattle.csn_grammar.specs.Follow.{follows_many, follows_cut, follows_window, follows_labelled, follows_name}
use Rattle.csn_grammar.specs.Follow.{follows_group, follows_received, follows_sent, items_here, items_later}
use Rattle.csn_grammar.specs.Follow.{times_here, times_later, many_here, many_later, follows_plain, follows_tail}
use Rattle.csn_grammar.specs.Follow.{tail_items, tail_stops, tail_goes_on, tail_turns}
use Rattle.csn_grammar.proofs.VoidFacts.{items_full}

-- a part with a number of units is a leaf
pub field_leaf : (s e : ℕ) (x : ExprV) (k : Exponent) (env : Env) (unit n : ℕ) → unit_of x ≡ Some unit
    → count_of env k ≡ Some n → is_leaf (expr s e (power x k)) ≡ true
field_leaf s e x Any env unit n is count = cc
field_leaf s e x (Number k) env unit n is count = rw is refl
field_leaf s e x (Linear m label c) env unit n is count = rw is refl

pub spare_bit_name : (n : List ℕ) → n ≡ codes "spare bit" → is_spare_name n ≡ true
spare_bit_name n is = ap is_spare_name is

pub spare_low_name : (n : List ℕ) → n ≡ codes "spare L" → is_spare_name n ≡ true
spare_low_name n is = ap is_spare_name is

pub padding_name : (n : List ℕ) → n ≡ codes "spare padding" → is_spare_name n ≡ true
padding_name n is = ap is_spare_name is

module _ (rules : RulesV) (r : Reading) where
  -- bits are followed by some items, or are meant by all of them
  abbrev pub ItemsBegun : ExprsV → ℕ → Frame → Env → List ℕ → Type 0
  ItemsBegun xs o frame env b = ItemsFollow rules r xs o frame env b ⊎ ((ts : Trees) × ItemsMean rules r xs o frame env b ts)

  abbrev TimesBegun : ℕ → ExprV → ℕ → Env → List ℕ → Type 0
  TimesBegun n x o env b = TimesFollow rules r n x o env b ⊎ ((ts : Trees) × TimesMean rules r n x o env b ts)

  abbrev ManyBegun : ExprV → ℕ → Env → List ℕ → Type 0
  ManyBegun x o env b = ManyFollow rules r x o env b ⊎ ((ts : Trees) × ManyMean rules r x o env b ts)

  -- bits that begin the items of a rule in tail form begin the rule
  pub begun : {tail : TailV} {o : ℕ} {env : Env} (b : List ℕ) → ¬ SomeVoid rules r tail.items
      → ItemsBegun tail.items o [] env b → TailFollows rules r tail o env b
  begun b full (inl f) = tail_items full f
  begun {tail = tail} {o = o} b full (inr whole) =
      tail_stops b [] (sym (append-nil b)) whole.1 (spelled tail.end.stop.run (o + length b), refl)

  -- ---- of bits that are meant

  mutual
    pub begins : {x : ExprV} {o : ℕ} {env : Env} {w : List ℕ} {t : TreeV} → Means rules r x o env w t
        → (b c : List ℕ) → w ≡ b ++ c → Follow rules r x o env b
    begins {w = w} (means_lits h) b c e = follows_leaf w c refl e (means_lits h)
    begins (means_null h) b c e = follows_whole empty (means_null (front_empty b c (sym e ∙ h)))
    begins {w = w} (means_bit one h) b c e = follows_leaf w c refl e (means_bit one h)
    begins {w = w} (means_octet eight h) b c e = follows_leaf w c refl e (means_octet eight h)
    begins {env = env} {w = w} (means_field {s = s} {e = end} {x = x} {k = k} unit n is count wide h) b c e =
        follows_leaf w c (field_leaf s end x k env unit n is count) e (means_field unit n is count wide h)
    begins (means_rest is h) b c e = follows_whole (bits b) (means_rest is (IsBits-front b c (IsBits-along (sym e) h)))
    begins {w = w} (means_spare_bit {n = n} is one h) b c e = follows_leaf w c (spare_bit_name n is) e (means_spare_bit is one h)
    begins {w = w} (means_spare_low {n = n} is one h) b c e = follows_leaf w c (spare_low_name n is) e (means_spare_low is one h)
    begins {w = w} (means_padding {n = n} is some h) b c e = follows_leaf w c (padding_name n is) e (means_padding is some h)
    begins (means_seq h) b c e =
        elim (items_begin h b c e) [ inl f ↦ follows_seq (items_full rules r h) f | inr whole ↦ follows_whole (row whole.0) (means_seq whole.1) ]
    begins (means_choice {j = j} xs kept two at h) b c e = follows_choice xs j kept at (begins h b c e)
    begins (means_only {x = x} kept h) b c e = follows_choice (x ∷ []) 0 kept refl (begins h b c e)
    begins (means_times n is count h) b c e =
        elim (times_begin h b c e) [ inl f ↦ follows_times n is count f | inr whole ↦ follows_whole (row whole.0) (means_times n is count whole.1) ]
    begins (means_many is h) b c e =
        elim (many_begin h b c e) [ inl f ↦ follows_many is f | inr whole ↦ follows_whole (row whole.0) (means_many is whole.1) ]
    begins (means_cut_all h) b c e = follows_whole (row none) (means_cut_all (front_empty b c (sym e ∙ h)))
    begins (means_cut h) b c e = follows_cut (lead_begins h b c e)
    begins {w = w} (means_window v n at count wide h) b c e =
        follows_window v n at count (omega (arith, ap length e, length-append b c)) (begins h b c e)
    begins (means_labelled h) b c e = follows_labelled (begins h b c e)
    begins (means_name rule at h) b c e = follows_name rule at (rule_begins h b c e)
    begins (means_group h) b c e = follows_group (begins h b c e)
    begins (means_received is h) b c e = follows_received is (begins h b c e)
    begins (means_sent is h) b c e = follows_sent is (begins h b c e)

    items_begin : {xs : ExprsV} {o : ℕ} {frame : Frame} {env : Env} {w : List ℕ} {ts : Trees}
        → ItemsMean rules r xs o frame env w ts → (b c : List ℕ) → w ≡ b ++ c → ItemsBegun xs o frame env b
    items_begin (items_end h) b c e = inr (none, items_end (front_empty b c (sym e ∙ h)))
    items_begin (items_next {t = t} b1 b2 joins h others) b c e =
        front_begun b1 b2 b c (sym joins ∙ e) (λ m p. inl (items_here (begins h b m p))) (λ m q. items_begin others m c q)
        (λ m p f. inl (items_later b1 m p h f)) (λ m p ts are. inr (more t ts, items_next b1 m p h are))

    times_begin : {n o : ℕ} {x : ExprV} {env : Env} {w : List ℕ} {ts : Trees}
        → TimesMean rules r n x o env w ts → (b c : List ℕ) → w ≡ b ++ c → TimesBegun n x o env b
    times_begin (times_end zero h) b c e = inr (none, times_end zero (front_empty b c (sym e ∙ h)))
    times_begin (times_next {t = t} m is b1 b2 joins h others) b c e =
        front_begun b1 b2 b c (sym joins ∙ e) (λ l p. inl (times_here (omega arith) (begins h b l p))) (λ l q. times_begin others l c q)
        (λ l p f. inl (times_later m is b1 l p h f)) (λ l p ts are. inr (more t ts, times_next m is b1 l p h are))

    many_begin : {x : ExprV} {o : ℕ} {env : Env} {w : List ℕ} {ts : Trees} → ManyMean rules r x o env w ts
        → (b c : List ℕ) → w ≡ b ++ c → ManyBegun x o env b
    many_begin (many_end h) b c e = inr (none, many_end (front_empty b c (sym e ∙ h)))
    many_begin (many_next {t = t} b1 b2 joins some h others) b c e =
        front_begun b1 b2 b c (sym joins ∙ e) (λ l p. inl (many_here (begins h b l p))) (λ l q. many_begin others l c q)
        (λ l p f. inl (many_later b1 l p some h f)) (λ l p ts are. inr (more t ts, many_next b1 l p some h are))

    lead_begins : {xs : ExprsV} {o : ℕ} {frame : Frame} {env : Env} {w : List ℕ} {ts : Trees}
        → LeadMean rules r xs o frame env w ts → (b c : List ℕ) → w ≡ b ++ c
        → ItemsFollow rules r xs o frame env b
    lead_begins (lead_last some h) b c e = items_here (begins h b c e)
    lead_begins (lead_next b1 b2 joins h others) b c e =
        elim (splits b1 b2 b c (sym joins ∙ e)) [
          | inside m p q ↦ items_here (begins h b m p)
          | behind m p q ↦ items_later b1 m p h (lead_begins others m c q)
        ]

    pub rule_begins : {rule : Rule} {o : ℕ} {env : Env} {w : List ℕ} {t : TreeV}
        → RuleMeans rules r rule o env w t → (b c : List ℕ) → w ≡ b ++ c → RuleFollows rules r rule o env b
    rule_begins (rule_plain is h) b c e = follows_plain is (begins h b c e)
    rule_begins (rule_tail tail is h) b c e = follows_tail tail is (tail_begins h b c e)

    tail_begins : {tail : TailV} {o : ℕ} {env : Env} {w : List ℕ} {ts turns : Trees}
        → TailMeans rules r tail o env w ts turns → (b c : List ℕ) → w ≡ b ++ c
        → TailFollows rules r tail o env b
    tail_begins (tail_stop b1 b2 joins items stop) b c e =
        elim (splits b1 b2 b c (sym joins ∙ e)) [
          | inside m p q ↦ begun b (items_full rules r items) (items_begin items b m p)
          | behind m p q ↦ tail_stops b1 m p items (c, sym stop ∙ q)
        ]
    tail_begins (tail_again b1 b2 b3 joins items word next) b c e =
        elim (splits b1 (b2 ++ b3) b c (sym joins ∙ e)) [
          | inside m p q ↦ begun b (items_full rules r items) (items_begin items b m p)
          | behind m p q ↦ elim (splits b2 b3 m c q) [
            | inside l u v ↦ tail_goes_on b1 m p items (l, sym word ∙ u)
            | behind l u v ↦ tail_turns b1 b2 l (p ∙ ap (λ z. b1 ++ z) u) items word (tail_begins next l c v)
          ]
        ]

  -- ---- of bits that are followed

  mutual
    pub prefix_followed : {x : ExprV} {o : ℕ} {env : Env} {w : List ℕ} → Follow rules r x o env w
        → (b c : List ℕ) → w ≡ b ++ c → Follow rules r x o env b
    prefix_followed (follows_whole t h) b c e = begins h b c e
    prefix_followed {w = w} (follows_leaf whole rest leaf joins h) b c e = follows_leaf whole (c ++ rest) leaf (cut_again w b c rest joins e) h
    prefix_followed (follows_received is h) b c e = follows_received is (prefix_followed h b c e)
    prefix_followed (follows_sent is h) b c e = follows_sent is (prefix_followed h b c e)
    prefix_followed (follows_seq full h) b c e = follows_seq full (items_prefix h b c e)
    prefix_followed (follows_choice xs j kept at h) b c e = follows_choice xs j kept at (prefix_followed h b c e)
    prefix_followed (follows_times n is count h) b c e = follows_times n is count (times_prefix h b c e)
    prefix_followed (follows_many is h) b c e = follows_many is (many_prefix h b c e)
    prefix_followed (follows_cut h) b c e = follows_cut (items_prefix h b c e)
    prefix_followed (follows_window v n at count wide h) b c e =
        follows_window v n at count (omega (arith, ap length e, length-append b c)) (prefix_followed h b c e)
    prefix_followed (follows_labelled h) b c e = follows_labelled (prefix_followed h b c e)
    prefix_followed (follows_name rule at h) b c e = follows_name rule at (rule_prefix h b c e)
    prefix_followed (follows_group h) b c e = follows_group (prefix_followed h b c e)

    items_prefix : {xs : ExprsV} {o : ℕ} {frame : Frame} {env : Env} {w : List ℕ}
        → ItemsFollow rules r xs o frame env w → (b c : List ℕ) → w ≡ b ++ c
        → ItemsFollow rules r xs o frame env b
    items_prefix (items_here h) b c e = items_here (prefix_followed h b c e)
    items_prefix (items_later b1 b2 joins h others) b c e =
        elim (splits b1 b2 b c (sym joins ∙ e)) [
          | inside m p q ↦ items_here (begins h b m p)
          | behind m p q ↦ items_later b1 m p h (items_prefix others m c q)
        ]

    times_prefix : {n o : ℕ} {x : ExprV} {env : Env} {w : List ℕ} → TimesFollow rules r n x o env w
        → (b c : List ℕ) → w ≡ b ++ c → TimesFollow rules r n x o env b
    times_prefix (times_here some h) b c e = times_here some (prefix_followed h b c e)
    times_prefix (times_later m is b1 b2 joins h others) b c e =
        elim (splits b1 b2 b c (sym joins ∙ e)) [
          | inside l p q ↦ times_here (omega arith) (begins h b l p)
          | behind l p q ↦ times_later m is b1 l p h (times_prefix others l c q)
        ]

    many_prefix : {x : ExprV} {o : ℕ} {env : Env} {w : List ℕ} → ManyFollow rules r x o env w
        → (b c : List ℕ) → w ≡ b ++ c → ManyFollow rules r x o env b
    many_prefix (many_here h) b c e = many_here (prefix_followed h b c e)
    many_prefix (many_later b1 b2 joins some h others) b c e =
        elim (splits b1 b2 b c (sym joins ∙ e)) [
          | inside l p q ↦ many_here (begins h b l p)
          | behind l p q ↦ many_later b1 l p some h (many_prefix others l c q)
        ]

    pub rule_prefix : {rule : Rule} {o : ℕ} {env : Env} {w : List ℕ} → RuleFollows rules r rule o env w
        → (b c : List ℕ) → w ≡ b ++ c → RuleFollows rules r rule o env b
    rule_prefix (follows_plain is h) b c e = follows_plain is (prefix_followed h b c e)
    rule_prefix (follows_tail tail is h) b c e = follows_tail tail is (tail_prefix h b c e)

    tail_prefix : {tail : TailV} {o : ℕ} {env : Env} {w : List ℕ} → TailFollows rules r tail o env w
        → (b c : List ℕ) → w ≡ b ++ c → TailFollows rules r tail o env b
    tail_prefix (tail_items full h) b c e = tail_items full (items_prefix h b c e)
    tail_prefix (tail_stops b1 b2 joins items word) b c e =
        elim (splits b1 b2 b c (sym joins ∙ e)) [
          | inside m p q ↦ begun b (items_full rules r items) (items_begin items b m p)
          | behind m p q ↦ tail_stops b1 m p items (c ++ word.0, cut_again b2 m c word.0 word.1 q)
        ]
    tail_prefix (tail_goes_on b1 b2 joins items word) b c e =
        elim (splits b1 b2 b c (sym joins ∙ e)) [
          | inside m p q ↦ begun b (items_full rules r items) (items_begin items b m p)
          | behind m p q ↦ tail_goes_on b1 m p items (c ++ word.0, cut_again b2 m c word.0 word.1 q)
        ]
    tail_prefix (tail_turns b1 b2 b3 joins items word next) b c e =
        elim (splits b1 (b2 ++ b3) b c (sym joins ∙ e)) [
          | inside m p q ↦ begun b (items_full rules r items) (items_begin items b m p)
          | behind m p q ↦ elim (splits b2 b3 m c q) [
            | inside l u v ↦ tail_goes_on b1 m p items (l, sym word ∙ u)
            | behind l u v ↦ tail_turns b1 b2 l (p ∙ ap (λ z. b1 ++ z) u) items word (tail_prefix next l c v)
          ]
        ]

  -- a string of a rule is followed by it
  pub rule_followed : {rule : Rule} {o : ℕ} {env : Env} {b : List ℕ} {t : TreeV}
      → RuleMeans rules r rule o env b t → RuleFollows rules r rule o env b
  rule_followed {b = b} h = rule_begins h b [] (sym (append-nil b))
