-- A step back through the body of a rule.
use Rattle.std.proofs.Common.{◌≡◌, ℕ, suc, ◌<◌, Bool, true, false, List, [], ◌∷◌, ◌++◌, length, Option, Some, None, nat_lt, refl, sym, subst, append_assoc}
use Rattle.std.specs.Prelude.{if◌then◌else◌}
use Rattle.std.specs.Option.{option_map}
use Rattle.std.proofs.lemmas.Bool.{ltb-true}
use Rattle.csn_lexer.specs.declared.token.TokenKind.{TokenKind}
use Rattle.csn_lexer.specs.declared.token.TokenKind.TheVariants as kind
use Rattle.csn_grammar.specs.declared.expr.TheConstants.{MOST_OPEN}
use Rattle.csn_grammar.specs.declared.exponent.Exponent.{Exponent}
use Rattle.csn_grammar.specs.declared.exponent.Exponent.TheVariants as exponent
use Rattle.csn_grammar.specs.declared.reader.progress.Progress.{Progress}
use Rattle.csn_grammar.specs.declared.reader.progress.Progress.TheVariants.{Bracket, Star}
use Rattle.csn_grammar.specs.declared.reader.progress.ExponentNext.{ExponentNext}
use Rattle.csn_grammar.specs.declared.reader.progress.ExponentNext.TheVariants as exponent_next
use Rattle.csn_grammar.specs.declared.reader.body.Frame.{Frame}
use Rattle.csn_grammar.specs.declared.reader.body.Joint.{Joint}
use Rattle.csn_grammar.specs.declared.reader.body.Joint.TheVariants.{Alone, Window, Sends}
use Rattle.csn_grammar.specs.declared.reader.body.Level.{Level}
use Rattle.csn_grammar.specs.declared.reader.body.Opening.{Opening}
use Rattle.csn_grammar.specs.declared.reader.body.Opening.TheVariants.{Brace, Label}
use Rattle.csn_grammar.specs.declared.reader.body.Mode.{Mode}
use Rattle.csn_grammar.specs.declared.reader.body.Mode.TheVariants.{Side, Less, Name, Base, Done, Slashes, Exponent as In}
use Rattle.csn_grammar.specs.declared.reader.body.Next.{Next}
use Rattle.csn_grammar.specs.declared.reader.body.Next.TheVariants.{Goes, Ends}
use Rattle.csn_grammar.specs.ExprV.{ExprV, expr, FormV, lits, null, bit, octet, name, labelled, group, BranchV}
use Rattle.csn_grammar.specs.RulesV.{RulesV}
use Rattle.csn_grammar.specs.TokenV.{TokenV, token}
use Rattle.csn_grammar.specs.Counts.{IsName, last_word, more_words, IsExponent, count, times_number, times_val, times_count, any, any_star, any_stars}
use Rattle.csn_grammar.specs.Grammar.{NotSlashes, components_of, IsBase, bit_base, octet_base, name_base}
use Rattle.csn_grammar.specs.Grammar.{labelled_base, group_base, IsSide, lits_side, null_side, base_side, power_side}
use Rattle.csn_grammar.specs.Grammar.{cut_side, IsExpr}
use Rattle.csn_grammar.specs.reader.Spellings.{word_form}
use Rattle.csn_grammar.specs.reader.ExponentSteps.{exponent_step}
use Rattle.csn_grammar.specs.reader.Building.{seq_with, choice_with, both_of, sends_of, power_of, cut_group}
use Rattle.csn_grammar.specs.reader.BodySteps.{goes, fresh, with_joint, word_mode, open_frame, begin_side, close}
use Rattle.csn_grammar.specs.reader.BodySteps.{close_in, after_seq, after_item, after_window, after_joint, after_side}
use Rattle.csn_grammar.specs.reader.BodySteps.{after_slashes, after_base, after_exponent, first_word, after_words}
use Rattle.csn_grammar.specs.reader.BodySteps.{body_step}
use Rattle.csn_grammar.specs.reader.RuleSteps.{rule_of}
use Rattle.csn_grammar.proofs.CompleteExpr.{MayFollow}
use Rattle.csn_grammar.proofs.SoundWords.{Said, said_null, said_bit, said_octet, said_lits, form_said}
use Rattle.csn_grammar.proofs.SoundExponents.{Completes, at_bracket, at_star, Goes_on, exponent_back}
use Rattle.csn_grammar.proofs.SoundExpr.{Rest, Closes, closes_rule, closes_brace, closes_label, AfterSeq, seq_closes}
use Rattle.csn_grammar.proofs.SoundExpr.{AfterItem, item_seq, item_cut, AfterWindow, window_whole, window_sends}
use Rattle.csn_grammar.proofs.SoundExpr.{AfterSide, side_alone, side_both, side_in_window, side_in_sends, AfterBase}
use Rattle.csn_grammar.proofs.SoundExpr.{base_whole, base_power, base_cut, Sides, Exprs, side_gather, seq_gather}
use Rattle.csn_grammar.proofs.SoundExpr.{more_behind, bar_behind, bang_behind, expr_gather}

-- an exponent does not begin with `//`
exponent_free : {ts rest : List TokenV} {e : Exponent} {n : ℕ} → IsExponent ts e n rest → NotSlashes ts
exponent_free (count c) = tt
exponent_free (times_number is r) = tt
exponent_free (times_val is r) = tt
exponent_free (times_count c) = tt
exponent_free (any r) = tt
exponent_free (any_star r) = tt
exponent_free (any_stars r) = tt

abbrev is_slashes : TokenKind → Bool
is_slashes kind.SlashSlash = true
is_slashes _ = false

may_follow : (x : ExprV) (k : TokenKind) (s n : ℕ) (w : List ℕ) (ts : List TokenV) → is_slashes k ≡ false → MayFollow x (token k s n w ∷ ts)
may_follow (expr a b (group y)) kind.SlashSlash s n w ts h = absurd (cc)
may_follow (expr a b (group y)) k s n w ts h = tt
may_follow (expr a b f) k s n w ts h = tt

module _ (rules : RulesV) (begin : ℕ) (title : List ℕ) where
  -- behind the name in `< name`
  pub data BehindName (frames : List Frame) (level : Level) (st : ℕ) (l : List ℕ) : List TokenV → RulesV → Type 0 where
    behind_name : {s n : ℕ} {w : List ℕ} {ts : List TokenV} {out : RulesV}
        → AfterBase rules begin title frames level (expr st n (name l)) ts out → BehindName frames level st l (token kind.Greater s n w ∷ ts) out
    behind_label : {s n : ℕ} {w : List ℕ} {ts : List TokenV} {out : RulesV} → length frames < MOST_OPEN
        → Exprs rules begin title (record { start = st; opening = Label l; level = level } ∷ frames) ts out
        → BehindName frames level st l (token kind.Colon s n w ∷ ts) out

  pub record Names (frames : List Frame) (level : Level) (st : ℕ) (ts : List TokenV) (out : RulesV) : Type 0 where
    pub one : List ℕ
    pub rest : List TokenV
    pub is : IsName ts one rest
    pub behind : BehindName frames level st one rest out

  pub data NamesMore (frames : List Frame) (level : Level) (st : ℕ) (ws : List ℕ) (ts : List TokenV) (out : RulesV) : Type 0 where
    words_whole : BehindName frames level st ws ts out → NamesMore frames level st ws ts out
    words_more : {l : List ℕ} {rest : List TokenV} → IsName ts l rest → BehindName frames level st (ws ++ 32 ∷ l) rest out
        → NamesMore frames level st ws ts out

  pub record Powers (frames : List Frame) (level : Level) (x : ExprV) (p : Progress) (ts : List TokenV) (out : RulesV) : Type 0 where
    pub one : Exponent
    pub end : ℕ
    pub rest : List TokenV
    pub is : Completes p ts one end rest
    pub behind : AfterSide rules begin title frames level.branches level.error level.items level.joint (power_of x end one) rest out

  -- the tokens complete what is read of a body
  abbrev pub Stands : List Frame → Level → Mode → List TokenV → RulesV → Type 0
  Stands frames level Side ts out = Sides rules begin title frames level ts out
  Stands frames level (Less st) ts out = Names frames level st ts out
  Stands frames level (Name st ws) ts out = NamesMore frames level st ws ts out
  Stands frames level (Base x) ts out = AfterBase rules begin title frames level x ts out
  Stands frames level (Done x) ts out = AfterSide rules begin title frames level.branches level.error level.items level.joint x ts out
  Stands frames level (Slashes q) ts out = AfterSeq rules begin title frames level.branches level.error q ts out
  Stands frames level (In x p) ts out = Powers frames level x p ts out

  -- the tokens complete what a step leads to; n is the end of the token
  abbrev pub Leaves : ℕ → Option Next → List TokenV → RulesV → Type 0
  Leaves n None ts out = ⊥
  Leaves n (Some (Goes b)) ts out = Stands b.frames b.level b.mode ts out
  Leaves n (Some (Ends x)) ts out = Rest (rules ++ rule_of begin title x n ∷ []) ts out

  -- a base of which no truncation can be made
  base_back : {frames : List Frame} {level : Level} {ts middle : List TokenV} {out : RulesV} (s n : ℕ) (f : FormV)
      → ((m : ℕ) (y : ExprV) → cut_group (expr s n f) m ≡ Some y → ⊥) → IsBase (length frames) ts (expr s n f) middle
      → AfterBase rules begin title frames level (expr s n f) middle out → Sides rules begin title frames level ts out
  base_back {middle = middle} s n f never is (base_whole free b) = record { side = expr s n f; rest = middle; is = base_side is; behind = b }
  base_back s n f never is (base_power e n1 rest raised b) =
      record { side = power_of (expr s n f) n1 e; rest = rest; is = power_side is raised; behind = b }
  base_back s n f never is (base_cut {y = y} {n = m} e b) = absurd (never m y e)

  word_back : {frames : List Frame} {level : Level} {ts : List TokenV} {out : RulesV} (s n : ℕ) (w : List ℕ) (f : FormV) → Said w f
      → Stands frames level (word_mode s n f) ts out → Sides rules begin title frames level (token kind.Word s n w ∷ ts) out
  word_back {frames} {level} {ts} {out} s n w f (said_null is e) h =
      let h' = subst (λ g. Stands frames level (word_mode s n g) ts out) e h in
      record { side = expr s n null; rest = ts; is = null_side is refl; behind = h' }
  word_back {frames} {level} {ts} {out} s n w f (said_bit is e) h =
      let h' = subst (λ g. Stands frames level (word_mode s n g) ts out) e h in base_back s n bit (λ m y e. absurd (cc)) (bit_base is refl) h'
  word_back {frames} {level} {ts} {out} s n w f (said_octet is e) h =
      let h' = subst (λ g. Stands frames level (word_mode s n g) ts out) e h in base_back s n octet (λ m y e. absurd (cc)) (octet_base is refl) h'
  word_back {frames} {level} {ts} {out} s n w f (said_lits run is e) h =
      let h' = subst (λ g. Stands frames level (word_mode s n g) ts out) e h in
      record { side = expr s n (lits run); rest = ts; is = lits_side is refl; behind = h' }

  word_case : {frames : List Frame} {level : Level} {ts : List TokenV} {out : RulesV} (s n : ℕ) (w : List ℕ) (o : Option FormV) → word_form w ≡ o
      → Leaves n (option_map (λ f. Goes (record { frames = frames; level = level; mode = word_mode s n f })) o) ts out
      → Sides rules begin title frames level (token kind.Word s n w ∷ ts) out
  word_case s n w None e h = absurd h
  word_case s n w (Some f) e h = word_back s n w f (form_said w f e) h

  -- behind braces
  group_back : {frames : List Frame} {level : Level} {ts middle : List TokenV} {out : RulesV} (s n : ℕ) (w : List ℕ) (s1 n1 : ℕ) (w1 : List ℕ) (x : ExprV)
      → length frames < MOST_OPEN → IsExpr (suc (length frames)) ts x (token kind.BraceRight s1 n1 w1 ∷ middle)
      → AfterBase rules begin title frames level (expr s n1 (group x)) middle out
      → Sides rules begin title frames level (token kind.BraceLeft s n w ∷ ts) out
  group_back {middle = middle} s n w s1 n1 w1 x limit is (base_whole free b) =
      record { side = expr s n1 (group x); rest = middle; is = base_side (group_base limit is free); behind = b }
  group_back s n w s1 n1 w1 x limit is (base_power e n2 rest raised b) =
      record { side = power_of (expr s n1 (group x)) n2 e; rest = rest; is = power_side (group_base limit is (exponent_free raised)) raised; behind = b }
  group_back {frames} {level} {out = out} s n w s1 n1 w1 x limit is (base_cut {y = y} {n = n2} {ts = rest} e b) =
      let same : y ≡ expr s n2 (group (components_of x)) = cc in
      record {
        side = expr s n2 (group (components_of x));
        rest = rest;
        is = cut_side limit is;
        behind = subst (λ z. AfterSide rules begin title frames level.branches level.error level.items level.joint z rest out) same b;
      }

  brace_back : {frames : List Frame} {level : Level} {ts : List TokenV} {out : RulesV} (s n : ℕ) (w : List ℕ) (x : ExprV) (middle : List TokenV)
      → length frames < MOST_OPEN → IsExpr (suc (length frames)) ts x middle
      → Closes rules begin title (record { start = s; opening = Brace; level = level } ∷ frames) x middle out
      → Sides rules begin title frames level (token kind.BraceLeft s n w ∷ ts) out
  brace_back s n w x middle limit is (closes_brace {s = s1} {n = n1} {w = w1} e b) = group_back s n w s1 n1 w1 x limit is b
  brace_back s n w x middle limit is (closes_label e b) = absurd (cc)

  label_back : {frames : List Frame} {level : Level} {ts inner : List TokenV} {out : RulesV} (s n : ℕ) (w : List ℕ)
      (s1 n1 : ℕ) (w1 l : List ℕ) (x : ExprV) (middle : List TokenV)
      → length frames < MOST_OPEN → IsName ts l (token kind.Colon s1 n1 w1 ∷ inner) → IsExpr (suc (length frames)) inner x middle
      → Closes rules begin title (record { start = s; opening = Label l; level = level } ∷ frames) x middle out
      → Sides rules begin title frames level (token kind.Less s n w ∷ ts) out
  label_back s n w s1 n1 w1 l x middle limit title' is (closes_brace e b) = absurd (cc)
  label_back {frames} {level} {out = out} s n w s1 n1 w1 l x middle limit title' is (closes_label {n = n2} {l = m} {ts = rest} e b) =
      let same : m ≡ l = cc in
      base_back s n2 (labelled l x) (λ k y e. absurd (cc)) (labelled_base limit title' is)
      (subst (λ k. AfterBase rules begin title frames level (expr s n2 (labelled k x)) rest out) same b)

  less_back : {frames : List Frame} {level : Level} {ts middle : List TokenV} {out : RulesV} (s n : ℕ) (w l : List ℕ) → IsName ts l middle
      → BehindName frames level s l middle out → Sides rules begin title frames level (token kind.Less s n w ∷ ts) out
  less_back s n w l is (behind_name {n = n1} b) = base_back s n1 (name l) (λ k y e. absurd (cc)) (name_base is) b
  less_back s n w l is (behind_label {s = s1} {n = n1} {w = w1} limit x) = label_back s n w s1 n1 w1 l x.one x.rest limit is x.is x.behind

  frame_back : {frames : List Frame} {level : Level} {ts : List TokenV} {out : RulesV} (n s : ℕ) (o : Opening)
      (b : Bool) → nat_lt (length frames) MOST_OPEN ≡ b
      → Leaves n (if b then goes (record { start = s; opening = o; level = level } ∷ frames) fresh Side else None) ts out
      → (length frames < MOST_OPEN) × Exprs rules begin title (record { start = s; opening = o; level = level } ∷ frames) ts out
  frame_back {frames} n s o true e h = (ltb-true (length frames) MOST_OPEN e, expr_gather rules begin title h)
  frame_back n s o false e h = absurd h

  side_back : {frames : List Frame} {level : Level} {ts : List TokenV} {out : RulesV} (k : TokenKind) (s n : ℕ) (w : List ℕ)
      → Leaves n (begin_side frames level k s n w) ts out → Sides rules begin title frames level (token k s n w ∷ ts) out
  unfolding begin_side open_frame
  side_back kind.Word s n w h = word_case s n w (word_form w) refl h
  side_back kind.Less s n w h = less_back s n w h.one h.is h.behind
  side_back {frames} kind.BraceLeft s n w h =
      let both = frame_back n s Brace (nat_lt (length frames) MOST_OPEN) refl h in
      brace_back s n w both.1.one both.1.rest both.0 both.1.is both.1.behind
  side_back k s n w h = absurd h

  close_in_back : {frames : List Frame} {ts : List TokenV} {out : RulesV} (f : Frame) (o : Opening) (x : ExprV)
      (k : TokenKind) (s n : ℕ) (w : List ℕ) → f.opening ≡ o
      → Leaves n (close_in frames f.level f.start o x k n) ts out → Closes rules begin title (f ∷ frames) x (token k s n w ∷ ts) out
  close_in_back f Brace x kind.BraceRight s n w e h = closes_brace e h
  close_in_back f (Label l) x kind.Greater s n w e h = closes_label e h
  close_in_back f Brace x k s n w e h = absurd h
  close_in_back f (Label l) x k s n w e h = absurd h

  close_back : {ts : List TokenV} {out : RulesV} (frames : List Frame) (x : ExprV) (k : TokenKind) (s n : ℕ) (w : List ℕ)
      → Leaves n (close frames x k n) ts out → Closes rules begin title frames x (token k s n w ∷ ts) out
  unfolding close
  close_back [] x kind.Semicolon s n w h = closes_rule h
  close_back [] x k s n w h = absurd h
  close_back (f ∷ frames) x k s n w h = close_in_back f f.opening x k s n w refl h

  seq_back : {ts : List TokenV} {out : RulesV} (frames : List Frame) (level : Level) (q : ExprV) (k : TokenKind) (s n : ℕ) (w : List ℕ)
      → Leaves n (after_seq frames level q k n) ts out → AfterSeq rules begin title frames level.branches level.error q (token k s n w ∷ ts) out
  unfolding after_seq
  seq_back frames level q kind.Bar s n w h =
      let all = seq_gather rules begin title h.side h.is h.behind in bar_behind rules begin title s n w all.one all.is all.behind
  seq_back frames level q kind.Bang s n w h =
      let all = seq_gather rules begin title h.side h.is h.behind in bang_behind rules begin title s n w all.one all.is all.behind
  seq_back frames level q k s n w h = seq_closes (close_back frames (choice_with level.branches level.error q) k s n w h)

  next_back : {ts : List TokenV} {out : RulesV} (frames : List Frame) (level : Level) (x : ExprV)
      → Sides rules begin title frames (record level { items = level.items ++ x ∷ []; joint = Alone }) ts out
      → AfterItem rules begin title frames level.branches level.error level.items x ts out
  next_back frames level x h =
      let i = side_gather rules begin title h.side h.is h.behind in more_behind rules begin title i.one i.is i.behind

  item_back : {ts : List TokenV} {out : RulesV} (frames : List Frame) (level : Level) (x : ExprV) (k : TokenKind) (s n : ℕ) (w : List ℕ)
      → Leaves n (after_item frames level x k s n w) ts out
      → AfterItem rules begin title frames level.branches level.error level.items x (token k s n w ∷ ts) out
  unfolding after_item
  item_back frames level x kind.SlashSlash s n w h = item_cut h
  item_back frames level x kind.Word s n w h = next_back frames level x (side_back kind.Word s n w h)
  item_back frames level x kind.Less s n w h = next_back frames level x (side_back kind.Less s n w h)
  item_back frames level x kind.BraceLeft s n w h = next_back frames level x (side_back kind.BraceLeft s n w h)
  item_back frames level x k s n w h =
      item_seq (seq_back frames (record level { items = []; joint = Alone }) (seq_with level.items x) k s n w h)

  sends_back : {frames : List Frame} {bs : List BranchV} {e : Bool} {xs : List ExprV} {l : ExprV}
      {ts middle : List TokenV} {out : RulesV} (s n : ℕ) (w : List ℕ) (y : ExprV)
      → IsSide (length frames) ts y middle → AfterSide rules begin title frames bs e xs (Sends l) y middle out
      → AfterWindow rules begin title frames bs e xs l (token kind.Equal s n w ∷ ts) out
  sends_back {middle = middle} s n w y is (side_in_sends b) = window_sends y middle is b

  both_back : {frames : List Frame} {bs : List BranchV} {e : Bool} {xs : List ExprV} {l : ExprV}
      {ts middle : List TokenV} {out : RulesV} (s n : ℕ) (w : List ℕ) (y : ExprV)
      → IsSide (length frames) ts y middle → AfterSide rules begin title frames bs e xs (Window l) y middle out
      → AfterSide rules begin title frames bs e xs Alone l (token kind.Ampersand s n w ∷ ts) out
  both_back {middle = middle} s n w y is (side_in_window b) = side_both y middle is b

  window_back : {ts : List TokenV} {out : RulesV} (frames : List Frame) (level : Level) (x : ExprV) (k : TokenKind) (s n : ℕ) (w : List ℕ)
      → Leaves n (after_window frames level x k s n w) ts out
      → AfterWindow rules begin title frames level.branches level.error level.items x (token k s n w ∷ ts) out
  unfolding after_window
  window_back frames level x kind.Equal s n w h = sends_back s n w h.side h.is h.behind
  window_back frames level x k s n w h = window_whole (item_back frames level x k s n w h)

  joint_back : {ts : List TokenV} {out : RulesV} (frames : List Frame) (level : Level) (j : Joint) (x : ExprV) (k : TokenKind) (s n : ℕ) (w : List ℕ)
      → Leaves n (after_joint frames level j x k s n w) ts out
      → AfterSide rules begin title frames level.branches level.error level.items j x (token k s n w ∷ ts) out
  unfolding after_joint
  joint_back frames level Alone x kind.Ampersand s n w h = both_back s n w h.side h.is h.behind
  joint_back frames level Alone x k s n w h = side_alone (window_back frames (with_joint level Alone) x k s n w h)
  joint_back frames level (Window l) x k s n w h = side_in_window (window_back frames (with_joint level Alone) (both_of l x) k s n w h)
  joint_back frames level (Sends l) x k s n w h = side_in_sends (item_back frames (with_joint level Alone) (sends_of l x) k s n w h)

  done_back : {ts : List TokenV} {out : RulesV} (frames : List Frame) (level : Level) (x : ExprV) (k : TokenKind) (s n : ℕ) (w : List ℕ)
      → Leaves n (after_side frames level x k s n w) ts out
      → AfterSide rules begin title frames level.branches level.error level.items level.joint x (token k s n w ∷ ts) out
  unfolding after_side
  done_back frames level x k s n w h = joint_back frames level level.joint x k s n w h

  bracket_opens : {ts rest : List TokenV} {e : Exponent} {n1 : ℕ} (s n : ℕ) (w : List ℕ) → Completes Bracket ts e n1 rest
      → IsExponent (token kind.ParenLeft s n w ∷ ts) e n1 rest
  bracket_opens s n w (at_bracket is) = is s n w

  star_opens : {ts rest : List TokenV} {e : Exponent} {n1 : ℕ} (s n : ℕ) (w : List ℕ) → Completes Star ts e n1 rest
      → IsExponent (token kind.Star s n w ∷ ts) e n1 rest
  star_opens s n w (at_star is) = is s n w

  slashes_back : {ts : List TokenV} {out : RulesV} (frames : List Frame) (level : Level) (x : ExprV)
      (o : Option ExprV) (s n : ℕ) (w : List ℕ) → cut_group x n ≡ o
      → Leaves n (after_slashes frames level o x s n w) ts out → AfterBase rules begin title frames level x (token kind.SlashSlash s n w ∷ ts) out
  unfolding after_slashes
  slashes_back frames level x (Some y) s n w e h = base_cut e h
  slashes_back frames level (expr a b (group y)) None s n w e h = absurd (cc)
  slashes_back frames level (expr a b f) None s n w e h = base_whole tt (done_back frames level (expr a b f) kind.SlashSlash s n w h)

  plain_back : {ts : List TokenV} {out : RulesV} (frames : List Frame) (level : Level) (x : ExprV) (k : TokenKind)
      (s n : ℕ) (w : List ℕ) → MayFollow x (token k s n w ∷ ts)
      → Leaves n (after_side frames level x k s n w) ts out → AfterBase rules begin title frames level x (token k s n w ∷ ts) out
  plain_back frames level x k s n w free h = base_whole free (done_back frames level x k s n w h)

  base_step_back : {ts : List TokenV} {out : RulesV} (frames : List Frame) (level : Level) (x : ExprV) (k : TokenKind) (s n : ℕ) (w : List ℕ)
      → Leaves n (after_base frames level x k s n w) ts out → AfterBase rules begin title frames level x (token k s n w ∷ ts) out
  unfolding after_base
  base_step_back frames level x kind.ParenLeft s n w h = base_power h.one h.end h.rest (bracket_opens s n w h.is) h.behind
  base_step_back frames level x kind.Star s n w h = base_power h.one h.end h.rest (star_opens s n w h.is) h.behind
  base_step_back {ts} frames level x kind.StarStar s n w h = base_power exponent.Any n ts (any refl) h
  base_step_back frames level x kind.SlashSlash s n w h = slashes_back frames level x (cut_group x n) s n w refl h
  base_step_back {ts} frames level x k s n w h = plain_back frames level x k s n w (may_follow x k s n w ts refl) h

  power_back : {ts : List TokenV} {out : RulesV} (frames : List Frame) (level : Level) (x : ExprV) (p : Progress)
      (o : Option ExponentNext) (k : TokenKind) (s n : ℕ) (w : List ℕ)
      → exponent_step p k w ≡ o → Leaves n (after_exponent frames level x n o) ts out → Powers frames level x p (token k s n w ∷ ts) out
  unfolding after_exponent
  power_back frames level x p None k s n w e h = absurd h
  power_back {ts} frames level x p (Some (exponent_next.Goes q)) k s n w e h = record {
    one = h.one;
    end = h.end;
    rest = h.rest;
    is = exponent_back p k s n w ts h.one h.end h.rest (subst (λ a. Goes_on n a ts h.one h.end h.rest) (sym e) h.is);
    behind = h.behind;
  }
  power_back {ts} frames level x p (Some (exponent_next.Ends d)) k s n w e h = record {
    one = d;
    end = n;
    rest = ts;
    is = exponent_back p k s n w ts d n ts (subst (λ a. Goes_on n a ts d n ts) (sym e) (refl, refl, refl));
    behind = h;
  }

  first_name : {frames : List Frame} {level : Level} {ts : List TokenV} {out : RulesV} (st s n : ℕ) (w : List ℕ)
      → NamesMore frames level st w ts out → Names frames level st (token kind.Word s n w ∷ ts) out
  first_name {ts = ts} st s n w (words_whole b) = record { one = w; rest = ts; is = last_word refl; behind = b }
  first_name st s n w (words_more {l = l} {rest = rest} is b) = record { one = w ++ 32 ∷ l; rest = rest; is = more_words is; behind = b }

  next_name : {frames : List Frame} {level : Level} {ts : List TokenV} {out : RulesV} (st s n : ℕ) (ws w : List ℕ)
      → NamesMore frames level st (ws ++ 32 ∷ w) ts out → NamesMore frames level st ws (token kind.Word s n w ∷ ts) out
  next_name st s n ws w (words_whole b) = words_more (last_word refl) b
  next_name {frames} {level} {out = out} st s n ws w (words_more {l = l} {rest = rest} is b) =
      words_more (more_words is) (subst (λ a. BehindName frames level st a rest out) (append_assoc ws (32 ∷ w) (32 ∷ l)) b)

  name_back : {ts : List TokenV} {out : RulesV} (frames : List Frame) (level : Level) (st : ℕ) (k : TokenKind) (s n : ℕ) (w : List ℕ)
      → Leaves n (first_word frames level st k w) ts out → Names frames level st (token k s n w ∷ ts) out
  unfolding first_word
  name_back frames level st kind.Word s n w h = first_name st s n w h
  name_back frames level st k s n w h = absurd h

  words_back : {ts : List TokenV} {out : RulesV} (frames : List Frame) (level : Level) (st : ℕ) (ws : List ℕ) (k : TokenKind) (s n : ℕ) (w : List ℕ)
      → Leaves n (after_words frames level st ws k n w) ts out → NamesMore frames level st ws (token k s n w ∷ ts) out
  unfolding after_words open_frame
  words_back frames level st ws kind.Word s n w h = next_name st s n ws w h
  words_back frames level st ws kind.Greater s n w h = words_whole (behind_name h)
  words_back frames level st ws kind.Colon s n w h =
      let both = frame_back n st (Label ws) (nat_lt (length frames) MOST_OPEN) refl h in words_whole (behind_label both.0 both.1)
  words_back frames level st ws k s n w h = absurd h

  pub body_back : (ts : List TokenV) (out : RulesV) (frames : List Frame) (level : Level) (mode : Mode) (k : TokenKind) (s n : ℕ) (w : List ℕ)
      → Leaves n (body_step frames level mode k s n w) ts out → Stands frames level mode (token k s n w ∷ ts) out
  unfolding body_step
  body_back ts out frames level Side k s n w h = side_back k s n w h
  body_back ts out frames level (Less st) k s n w h = name_back frames level st k s n w h
  body_back ts out frames level (Name st ws) k s n w h = words_back frames level st ws k s n w h
  body_back ts out frames level (Base x) k s n w h = base_step_back frames level x k s n w h
  body_back ts out frames level (Done x) k s n w h = done_back frames level x k s n w h
  body_back ts out frames level (Slashes q) k s n w h = seq_back frames level q k s n w h
  body_back ts out frames level (In x p) k s n w h = power_back frames level x p (exponent_step p k w) k s n w refl h
