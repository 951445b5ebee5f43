-- The reader takes every expression and all rules.
use Rattle.std.proofs.Common.{◌≡◌, ℕ, suc, ◌<◌, Bool, true, false, List, [], ◌∷◌, ◌++◌, length, Some, None, refl, sym}
use Rattle.std.proofs.Common.{ap, ◌∙◌, subst, arith, append_assoc, lt-ltb}
use Rattle.csn_lexer.specs.declared.token.TokenKind.{TokenKind}
use Rattle.csn_lexer.specs.declared.token.TokenKind.TheVariants as kind
use Rattle.csn_grammar.specs.declared.expr.TheConstants.{MOST_OPEN}
use Rattle.csn_grammar.specs.declared.reader.body.Frame.{Frame}
use Rattle.csn_grammar.specs.declared.reader.body.Joint.{Joint}
use Rattle.csn_grammar.specs.declared.reader.body.Joint.TheVariants.{Alone, Window, Sends}
use Rattle.csn_grammar.specs.declared.reader.body.Level.{Level}
use Rattle.csn_grammar.specs.declared.reader.body.Opening.TheVariants.{Brace, Label}
use Rattle.csn_grammar.specs.declared.reader.body.Mode.TheVariants.{Side, Less, Name, Base, Done, Slashes}
use Rattle.csn_grammar.specs.ExprV.{ExprV, expr, FormV, lits, null, bit, octet, name, labelled, group, ExprsV}
use Rattle.csn_grammar.specs.ExprV.{no_item, item, item_list, BranchesV, no_branch, branch, BranchV, branch_list}
use Rattle.csn_grammar.specs.RulesV.{RulesV}
use Rattle.csn_grammar.specs.TokenV.{TokenV, token}
use Rattle.csn_grammar.specs.Counts.{IsName, last_word, more_words}
use Rattle.csn_grammar.specs.Grammar.{NotSlashes, components_of, IsBase, bit_base, octet_base, name_base}
use Rattle.csn_grammar.specs.Grammar.{labelled_base, group_base, IsSide, lits_side, null_side, base_side, power_side}
use Rattle.csn_grammar.specs.Grammar.{cut_side, IsWindow, side_window, both_window, IsItem, window_item, sends_item}
use Rattle.csn_grammar.specs.Grammar.{AreItems, last_item, more_items, IsSeq, one_item, items, cut_items, AreBranches}
use Rattle.csn_grammar.specs.Grammar.{last_branch, last_error, more_branches, more_errors, IsExpr, one_seq, branches}
use Rattle.csn_grammar.specs.reader.Spellings.{word_form}
use Rattle.csn_grammar.specs.reader.Building.{end_of, seq_with, cut_with, choice_with, both_of, sends_of, power_of}
use Rattle.csn_grammar.specs.reader.BodySteps.{fresh, with_joint, word_mode, open_frame, begin_side, close, after_seq}
use Rattle.csn_grammar.specs.reader.BodySteps.{after_item, after_window, after_joint, after_side, after_slashes}
use Rattle.csn_grammar.specs.reader.BodySteps.{after_base, after_words, first_word, body_step}
use Rattle.csn_grammar.proofs.Run.{level_of, Step, Leads, Comes}
use Rattle.csn_grammar.proofs.Members.{whole_seq, whole_cut, items_begin, no_items, no_branches, whole_choice}
use Rattle.csn_grammar.proofs.Complete.{close_none, no_lead, close_to_seq, seq_to_item, side_to_item, item_to_window, window_to_side}
use Rattle.csn_grammar.proofs.CompleteWords.{lits_is, exponent_from}

-- a base in braces has no `//` behind it
abbrev pub MayFollow : ExprV → List TokenV → Type 0
MayFollow (expr s n (group x)) ts = NotSlashes ts
MayFollow (expr s n f) ts = Unit {0}

pub base_follow : {d : ℕ} {x : ExprV} {ts rest : List TokenV} → IsBase d ts x rest → MayFollow x rest
base_follow (bit_base e r) = tt
base_follow (octet_base e r) = tt
base_follow (name_base n) = tt
base_follow (labelled_base deep n x) = tt
base_follow (group_base deep x free) = free

-- no exponent may come behind a side that is whole
item_none : (frames : List Frame) (level : Level) (x : ExprV) (s n : ℕ) (w : List ℕ)
    → (after_item frames level x kind.ParenLeft s n w ≡ None) × (after_item frames level x kind.Star s n w ≡ None)
    × (after_item frames level x kind.StarStar s n w ≡ None)
unfolding after_item after_seq
item_none frames level x s n w = (
  close_none frames (choice_with level.branches level.error (seq_with level.items x)) kind.ParenLeft n refl,
  close_none frames (choice_with level.branches level.error (seq_with level.items x)) kind.Star n refl,
  close_none frames (choice_with level.branches level.error (seq_with level.items x)) kind.StarStar n refl,
)

side_none : (frames : List Frame) (level : Level) (j : Joint) (x : ExprV) (s n : ℕ) (w : List ℕ)
    → (after_joint frames level j x kind.ParenLeft s n w ≡ None) × (after_joint frames level j x kind.Star s n w ≡ None)
    × (after_joint frames level j x kind.StarStar s n w ≡ None)
unfolding after_joint after_window
side_none frames level Alone x s n w = item_none frames (with_joint level Alone) x s n w
side_none frames level (Window l) x s n w = item_none frames (with_joint level Alone) (both_of l x) s n w
side_none frames level (Sends l) x s n w = item_none frames (with_joint level Alone) (sends_of l x) s n w

module _ (rules : RulesV) (begin : ℕ) (title : List ℕ) where
  -- what may come behind a side that is a base
  pub side_to_base : (frames : List Frame) (level : Level) (x : ExprV) (ts : List TokenV) (out : RulesV) → MayFollow x ts
      → Leads rules begin title (after_side frames level x) ts out → Comes rules begin title frames level (Base x) ts out
  unfolding body_step after_base after_slashes after_side
  side_to_base frames level x [] out free h = absurd h
  side_to_base frames level x (token kind.ParenLeft s n w ∷ ts) out free h =
      absurd (no_lead rules begin title n (after_side frames level x kind.ParenLeft s n w) ts out (side_none frames level level.joint x s n w).0 h)
  side_to_base frames level x (token kind.Star s n w ∷ ts) out free h =
      absurd (no_lead rules begin title n (after_side frames level x kind.Star s n w) ts out (side_none frames level level.joint x s n w).1 h)
  side_to_base frames level x (token kind.StarStar s n w ∷ ts) out free h =
      absurd (no_lead rules begin title n (after_side frames level x kind.StarStar s n w) ts out (side_none frames level level.joint x s n w).2 h)
  side_to_base frames level (expr a b (group y)) (token kind.SlashSlash s n w ∷ ts) out free h = absurd free
  side_to_base frames level (expr a b f) (token kind.SlashSlash s n w ∷ ts) out free h = h
  side_to_base frames level x (token k s n w ∷ ts) out free h = h

  pub leads_done : (frames : List Frame) (level : Level) (x : ExprV) (ts : List TokenV) (out : RulesV)
      → Leads rules begin title (after_side frames level x) ts out → Comes rules begin title frames level (Done x) ts out
  unfolding body_step
  leads_done frames level x [] out h = absurd h
  leads_done frames level x (token k s n w ∷ ts) out h = h

  -- where two steps are one, tokens lead by one where they lead by the other
  leads_as : (f g : Step) → ((k : TokenKind) (s n : ℕ) (w : List ℕ) → f k s n w ≡ g k s n w) → (ts : List TokenV) (out : RulesV)
      → Leads rules begin title f ts out → Leads rules begin title g ts out
  leads_as f g same [] out h = h
  leads_as f g same (token k s n w ∷ ts) out h = rw (same k s n w) at h

  -- behind the second side of `&` and of `=`
  pub both_leads : (frames : List Frame) (bs : List BranchV) (e : Bool) (xs : List ExprV) (l x : ExprV) (ts : List TokenV) (out : RulesV)
      → Leads rules begin title (after_window frames (level_of bs e xs Alone) (both_of l x)) ts out
      → Leads rules begin title (after_side frames (level_of bs e xs (Window l)) x) ts out
  unfolding after_side after_joint
  both_leads frames bs e xs l x = leads_as (after_window frames (level_of bs e xs Alone) (both_of l x))
      (after_side frames (level_of bs e xs (Window l)) x) (λ k s n w. refl)

  pub sends_leads : (frames : List Frame) (bs : List BranchV) (e : Bool) (xs : List ExprV) (l x : ExprV) (ts : List TokenV) (out : RulesV)
      → Leads rules begin title (after_item frames (level_of bs e xs Alone) (sends_of l x)) ts out
      → Leads rules begin title (after_side frames (level_of bs e xs (Sends l)) x) ts out
  unfolding after_side after_joint
  sends_leads frames bs e xs l x = leads_as (after_item frames (level_of bs e xs Alone) (sends_of l x))
      (after_side frames (level_of bs e xs (Sends l)) x) (λ k s n w. refl)

  slashes_lead : (frames : List Frame) (bs : List BranchV) (e : Bool) (q : ExprV) (ts : List TokenV) (out : RulesV)
      → Leads rules begin title (λ k s n w. after_seq frames (level_of bs e [] Alone) q k n) ts out
      → Comes rules begin title frames (level_of bs e [] Alone) (Slashes q) ts out
  unfolding body_step
  slashes_lead frames bs e q [] out h = absurd h
  slashes_lead frames bs e q (token k s n w ∷ ts) out h = h

  pub word_comes : (frames : List Frame) (level : Level) (f : FormV) (s n : ℕ) (w : List ℕ) (ts : List TokenV) (out : RulesV) → word_form w ≡ Some f
      → Comes rules begin title frames level (word_mode s n f) ts out → Comes rules begin title frames level Side (token kind.Word s n w ∷ ts) out
  unfolding body_step begin_side
  word_comes frames level f s n w ts out e h = rw e h

  less_comes : (frames : List Frame) (level : Level) (s n : ℕ) (w : List ℕ) (ts : List TokenV) (out : RulesV)
      → Comes rules begin title frames level (Less s) ts out → Comes rules begin title frames level Side (token kind.Less s n w ∷ ts) out
  unfolding body_step begin_side
  less_comes frames level s n w ts out h = h

  brace_comes : {d : ℕ} (frames : List Frame) (level : Level) (s n : ℕ) (w : List ℕ) (ts : List TokenV) (out : RulesV) → length frames ≡ d → d < MOST_OPEN
      → Comes rules begin title (record { start = s; opening = Brace; level = level } ∷ frames) fresh Side ts out
      → Comes rules begin title frames level Side (token kind.BraceLeft s n w ∷ ts) out
  unfolding body_step begin_side open_frame
  brace_comes frames level s n w ts out deep limit h = rw (lt-ltb (length frames) MOST_OPEN (omega arith)) h

  label_comes : {d : ℕ} (frames : List Frame) (level : Level) (st s n : ℕ) (l w : List ℕ) (ts : List TokenV) (out : RulesV) → length frames ≡ d → d < MOST_OPEN
      → Comes rules begin title (record { start = st; opening = Label l; level = level } ∷ frames) fresh Side ts out
      → Comes rules begin title frames level (Name st l) (token kind.Colon s n w ∷ ts) out
  unfolding body_step after_words open_frame
  label_comes frames level st s n l w ts out deep limit h = rw (lt-ltb (length frames) MOST_OPEN (omega arith)) h

  pub greater_comes : (frames : List Frame) (level : Level) (st s n : ℕ) (l w : List ℕ) (ts : List TokenV) (out : RulesV)
      → Comes rules begin title frames level (Base (expr st n (name l))) ts out
      → Comes rules begin title frames level (Name st l) (token kind.Greater s n w ∷ ts) out
  unfolding body_step after_words
  greater_comes frames level st s n l w ts out h = h

  close_brace : (frames : List Frame) (level : Level) (st s n : ℕ) (x : ExprV) (w : List ℕ) (ts : List TokenV) (out : RulesV)
      → Comes rules begin title frames level (Base (expr st n (group x))) ts out
      → Leads rules begin title (λ k s n w. close (record { start = st; opening = Brace; level = level } ∷ frames)
      x k n) (token kind.BraceRight s n w ∷ ts) out
  unfolding close
  close_brace frames level st s n x w ts out h = h

  close_label : (frames : List Frame) (level : Level) (st s n : ℕ) (l : List ℕ) (x : ExprV) (w : List ℕ) (ts : List TokenV) (out : RulesV)
      → Comes rules begin title frames level (Base (expr st n (labelled l x))) ts out
      → Leads rules begin title (λ k s n w. close (record { start = st; opening = Label l; level = level } ∷ frames) x k n) (token kind.Greater s n w ∷ ts) out
  unfolding close
  close_label frames level st s n l x w ts out h = h

  cut_comes : (frames : List Frame) (level : Level) (a b s n : ℕ) (x : ExprV) (w : List ℕ) (ts : List TokenV) (out : RulesV)
      → Comes rules begin title frames level (Done (expr a n (group (components_of x)))) ts out
      → Comes rules begin title frames level (Base (expr a b (group x))) (token kind.SlashSlash s n w ∷ ts) out
  unfolding body_step after_base after_slashes
  cut_comes frames level a b s n x w ts out h = h

  and_leads : (frames : List Frame) (bs : List BranchV) (e : Bool) (xs : List ExprV) (l : ExprV) (s n : ℕ) (w : List ℕ) (ts : List TokenV) (out : RulesV)
      → Comes rules begin title frames (level_of bs e xs (Window l)) Side ts out
      → Leads rules begin title (after_side frames (level_of bs e xs Alone) l) (token kind.Ampersand s n w ∷ ts) out
  unfolding after_side after_joint
  and_leads frames bs e xs l s n w ts out h = h

  equal_leads : (frames : List Frame) (bs : List BranchV) (e : Bool) (xs : List ExprV) (l : ExprV) (s n : ℕ) (w : List ℕ) (ts : List TokenV) (out : RulesV)
      → Comes rules begin title frames (level_of bs e xs (Sends l)) Side ts out
      → Leads rules begin title (after_window frames (level_of bs e xs Alone) l) (token kind.Equal s n w ∷ ts) out
  unfolding after_window
  equal_leads frames bs e xs l s n w ts out h = h

  cut_leads : (frames : List Frame) (bs : List BranchV) (e : Bool) (xs : List ExprV) (x : ExprV) (s n : ℕ) (w : List ℕ) (ts : List TokenV) (out : RulesV)
      → Comes rules begin title frames (level_of bs e [] Alone) (Slashes (cut_with xs x n)) ts out
      → Leads rules begin title (after_item frames (level_of bs e xs Alone) x) (token kind.SlashSlash s n w ∷ ts) out
  unfolding after_item
  cut_leads frames bs e xs x s n w ts out h = h

  bar_leads : (frames : List Frame) (bs : List BranchV) (e : Bool) (q : ExprV) (s n : ℕ) (w : List ℕ) (ts : List TokenV) (out : RulesV)
      → Comes rules begin title frames (level_of (bs ++ record { error = e; body = q } ∷ []) false [] Alone) Side ts out
      → Leads rules begin title (λ k s n w. after_seq frames (level_of bs e [] Alone) q k n) (token kind.Bar s n w ∷ ts) out
  unfolding after_seq
  bar_leads frames bs e q s n w ts out h = h

  bang_leads : (frames : List Frame) (bs : List BranchV) (e : Bool) (q : ExprV) (s n : ℕ) (w : List ℕ) (ts : List TokenV) (out : RulesV)
      → Comes rules begin title frames (level_of (bs ++ record { error = e; body = q } ∷ []) true [] Alone) Side ts out
      → Leads rules begin title (λ k s n w. after_seq frames (level_of bs e [] Alone) q k n) (token kind.Bang s n w ∷ ts) out
  unfolding after_seq
  bang_leads frames bs e q s n w ts out h = h

  words_come : {ts rest : List TokenV} {l : List ℕ} (frames : List Frame) (level : Level) (st : ℕ) (ws : List ℕ) (out : RulesV)
      → IsName ts l rest → Comes rules begin title frames level (Name st (ws ++ 32 ∷ l)) rest out
      → Comes rules begin title frames level (Name st ws) ts out
  unfolding body_step after_words
  words_come frames level st ws out (last_word {w = w} e) h =
      subst (λ r. Comes rules begin title frames level (Name st (ws ++ 32 ∷ w)) r out) e h
  words_come {rest = rest} frames level st ws out (more_words {w = w} {name = more} is) h =
      words_come frames level st (ws ++ 32 ∷ w) out is
      (subst (λ l. Comes rules begin title frames level (Name st l) rest out) (sym (append_assoc ws (32 ∷ w) (32 ∷ more))) h)

  name_comes : {ts rest : List TokenV} {l : List ℕ} (frames : List Frame) (level : Level) (st : ℕ) (out : RulesV)
      → IsName ts l rest → Comes rules begin title frames level (Name st l) rest out
      → Comes rules begin title frames level (Less st) ts out
  unfolding body_step first_word
  name_comes frames level st out (last_word {w = w} e) h =
      subst (λ r. Comes rules begin title frames level (Name st w) r out) e h
  name_comes frames level st out (more_words {w = w} is) h = words_come frames level st w out is h

  mutual
    base_comes : {d : ℕ} {x : ExprV} {ts rest : List TokenV} (frames : List Frame) (level : Level) (out : RulesV) → length frames ≡ d
        → IsBase d ts x rest → Comes rules begin title frames level (Base x) rest out
        → Comes rules begin title frames level Side ts out
    base_comes frames level out deep (bit_base {s = s} {n = n} {w = w} e r) h =
        word_comes frames level bit s n w _ out (ap word_form e) (subst (λ ts. Comes rules begin title frames level (Base (expr s n bit)) ts out) r h)
    base_comes frames level out deep (octet_base {s = s} {n = n} {w = w} e r) h =
        word_comes frames level octet s n w _ out (ap word_form e) (subst (λ ts. Comes rules begin title frames level (Base (expr s n octet)) ts out) r h)
    base_comes frames level out deep (name_base {s = s} {n = n} {s1 = s1} {n1 = n1} {w = w} {w1 = w1} {l = l} is) h =
        less_comes frames level s n w _ out (name_comes frames level s out is (greater_comes frames level s s1 n1 l w1 _ out h))
    base_comes {d} frames level out deep (labelled_base {s = s} {n = n} {s1 = s1} {n1 = n1} {s2 = s2} {n2 = n2}
        {w = w} {w1 = w1} {w2 = w2} {l = l} {x = x} limit is inner) h =
        less_comes frames level s n w _ out (name_comes frames level s out is (label_comes frames level s s1 n1 l w1 _ out deep limit
        (expr_comes (record { start = s; opening = Label l; level = level } ∷ frames) out (ap suc deep) inner
        (close_label frames level s s2 n2 l x w2 _ out h))))
    base_comes {d} frames level out deep (group_base {s = s} {n = n} {s1 = s1} {n1 = n1} {w = w} {w1 = w1} {x = x} limit inner free) h =
        brace_comes frames level s n w _ out deep limit
        (expr_comes (record { start = s; opening = Brace; level = level } ∷ frames) out (ap suc deep) inner
        (close_brace frames level s s1 n1 x w1 _ out h))

    side_comes : {d : ℕ} {x : ExprV} {ts rest : List TokenV} (frames : List Frame) (level : Level) (out : RulesV) → length frames ≡ d
        → IsSide d ts x rest → Leads rules begin title (after_side frames level x) rest out
        → Comes rules begin title frames level Side ts out
    side_comes frames level out deep (lits_side {s = s} {n = n} {w = w} {run = run} is r) h =
        word_comes frames level (lits run) s n w _ out (lits_is w run is)
        (subst (λ ts. Comes rules begin title frames level (Done (expr s n (lits run))) ts out) r (leads_done frames level (expr s n (lits run)) _ out h))
    side_comes frames level out deep (null_side {s = s} {n = n} {w = w} e r) h =
        word_comes frames level null s n w _ out (ap word_form e)
        (subst (λ ts. Comes rules begin title frames level (Done (expr s n null)) ts out) r (leads_done frames level (expr s n null) _ out h))
    side_comes frames level out deep (base_side {x = x} {rest = rest} is) h =
        base_comes frames level out deep is (side_to_base frames level x rest out (base_follow is) h)
    side_comes frames level out deep (power_side {s = s} {n = n} {n1 = n1} {f = f} {e = e} is raised) h =
        base_comes frames level out deep is
        (exponent_from rules begin title frames level (expr s n f) out raised (leads_done frames level (power_of (expr s n f) n1 e) _ out h))
    side_comes frames level out deep (cut_side {s = s} {n = n} {s1 = s1} {n1 = n1} {s2 = s2} {n2 = n2} {w = w}
        {w1 = w1} {w2 = w2} {x = x} {rest = rest} limit inner) h =
        brace_comes frames level s n w _ out deep limit
        (expr_comes (record { start = s; opening = Brace; level = level } ∷ frames) out (ap suc deep) inner
        (close_brace frames level s s1 n1 x w1 (token kind.SlashSlash s2 n2 w2 ∷ rest) out
        (cut_comes frames level s n1 s2 n2 x w2 _ out (leads_done frames level (expr s n2 (group (components_of x))) _ out h))))

    window_comes : {d : ℕ} {x : ExprV} {ts rest : List TokenV} (frames : List Frame) (bs : List BranchV) (e : Bool) (xs : List ExprV) (out : RulesV)
        → length frames ≡ d → IsWindow d ts x rest → Leads rules begin title (after_window frames (level_of bs e xs Alone) x) rest out
        → Comes rules begin title frames (level_of bs e xs Alone) Side ts out
    window_comes frames bs e xs out deep (side_window {x = x} {rest = rest} is) h =
        side_comes frames (level_of bs e xs Alone) out deep is (window_to_side rules begin title frames bs e xs x rest out h)
    window_comes frames bs e xs out deep (both_window {s = s} {n = n} {s1 = s1} {n1 = n1} {s2 = s2} {n2 = n2} {w = w} {f = f} {g = g} left right) h =
        side_comes frames (level_of bs e xs Alone) out deep left
        (and_leads frames bs e xs (expr s n f) s1 n1 w _ out
        (side_comes frames (level_of bs e xs (Window (expr s n f))) out deep right
        (both_leads frames bs e xs (expr s n f) (expr s2 n2 g) _ out h)))

    item_comes : {d : ℕ} {x : ExprV} {ts rest : List TokenV} (frames : List Frame) (bs : List BranchV) (e : Bool) (xs : List ExprV) (out : RulesV)
        → length frames ≡ d → IsItem d ts x rest → Leads rules begin title (after_item frames (level_of bs e xs Alone) x) rest out
        → Comes rules begin title frames (level_of bs e xs Alone) Side ts out
    item_comes frames bs e xs out deep (window_item {x = x} {rest = rest} is) h =
        window_comes frames bs e xs out deep is (item_to_window rules begin title frames bs e xs x rest out h)
    item_comes frames bs e xs out deep (sends_item {s = s} {n = n} {s1 = s1} {n1 = n1} {s2 = s2} {n2 = n2} {w = w} {f = f} {g = g} left right) h =
        window_comes frames bs e xs out deep left
        (equal_leads frames bs e xs (expr s n f) s1 n1 w _ out
        (side_comes frames (level_of bs e xs (Sends (expr s n f))) out deep right
        (sends_leads frames bs e xs (expr s n f) (expr s2 n2 g) _ out h)))

    items_come : {d s n : ℕ} {ys : ExprsV} {ts rest : List TokenV} (frames : List Frame) (bs : List BranchV) (e : Bool) (xs : List ExprV) (out : RulesV)
        → length frames ≡ d → AreItems d ts ys s n rest
        → ((zs : List ExprV) (x : ExprV) → xs ++ item_list ys ≡ zs ++ x ∷ [] → end_of x ≡ n
        → Leads rules begin title (after_item frames (level_of bs e zs Alone) x) rest out)
        → Comes rules begin title frames (level_of bs e xs Alone) Side ts out
    items_come frames bs e xs out deep (last_item {s = s} {n = n} {f = f} is) h =
        item_comes frames bs e xs out deep is (h xs (expr s n f) refl refl)
    items_come frames bs e xs out deep (more_items {s = s} {n = n} {f = f} {xs = ys} {middle = middle} is more) h =
        item_comes frames bs e xs out deep is (side_to_item rules begin title frames bs e xs (expr s n f) middle out
        (items_come frames bs e (xs ++ expr s n f ∷ []) out deep more
        (λ zs x same end. h zs x (sym (append_assoc xs (expr s n f ∷ []) (item_list ys)) ∙ same) end)))

    seq_comes : {d : ℕ} {q : ExprV} {ts rest : List TokenV} (frames : List Frame) (bs : List BranchV) (e : Bool) (out : RulesV)
        → length frames ≡ d → IsSeq d ts q rest
        → Leads rules begin title (λ k s n w. after_seq frames (level_of bs e [] Alone) q k n) rest out
        → Comes rules begin title frames (level_of bs e [] Alone) Side ts out
    seq_comes frames bs e out deep (one_item {x = x} {rest = rest} is) h =
        item_comes frames bs e [] out deep is (seq_to_item rules begin title frames bs e [] x rest out h)
    seq_comes frames bs e out deep (items {s = s} {n = n} {x = a} {y = b} {xs = ys} {rest = rest} is) h =
        items_come frames bs e [] out deep is (λ zs x same end.
        seq_to_item rules begin title frames bs e zs x rest out
        (subst (λ q. Leads rules begin title (λ k s n w. after_seq frames (level_of bs e [] Alone) q k n) rest out)
        (sym (whole_seq zs x a b ys s n (sym same) (items_begin a (item b ys) is) end)) h))
    seq_comes frames bs e out deep (cut_items {xs = no_item} is) h = absurd (no_items is)
    seq_comes frames bs e out deep (cut_items {s = s} {n = n} {s1 = s1} {n1 = n1} {w = w} {xs = item a ys} {rest = rest} is) h =
        items_come frames bs e [] out deep is (λ zs x same end.
        cut_leads frames bs e zs x s1 n1 w rest out (slashes_lead frames bs e (cut_with zs x n1) rest out
        (subst (λ q. Leads rules begin title (λ k s n w. after_seq frames (level_of bs e [] Alone) q k n) rest out)
        (sym (whole_cut zs x a ys s n1 (sym same) (items_begin a ys is))) h)))

    branches_come : {d n : ℕ} {brs : BranchesV} {ts rest : List TokenV} (frames : List Frame) (bs : List BranchV) (e : Bool) (q : ExprV) (out : RulesV)
        → length frames ≡ d → AreBranches d ts brs n rest
        → ((cs : List BranchV) (error : Bool) (x : ExprV)
        → bs ++ record { error = e; body = q } ∷ branch_list brs ≡ cs ++ record { error = error; body = x } ∷ [] → end_of x ≡ n
        → Leads rules begin title (λ k s n w. close frames (choice_with cs error x) k n) rest out)
        → Leads rules begin title (λ k s n w. after_seq frames (level_of bs e [] Alone) q k n) ts out
    branches_come frames bs e q out deep (last_branch {s = s} {n = n} {s1 = s1} {n1 = n1} {w = w} {f = f} {rest = rest} is) h =
        bar_leads frames bs e q s1 n1 w _ out (seq_comes frames (bs ++ record { error = e; body = q } ∷ []) false out deep is
        (close_to_seq rules begin title frames (bs ++ record { error = e; body = q } ∷ []) false (expr s n f) rest out
        (h (bs ++ record { error = e; body = q } ∷ []) false (expr s n f)
        (sym (append_assoc bs (record { error = e; body = q } ∷ []) (record { error = false; body = expr s n f } ∷ []))) refl)))
    branches_come frames bs e q out deep (last_error {s = s} {n = n} {s1 = s1} {n1 = n1} {w = w} {f = f} {rest = rest} is) h =
        bang_leads frames bs e q s1 n1 w _ out (seq_comes frames (bs ++ record { error = e; body = q } ∷ []) true out deep is
        (close_to_seq rules begin title frames (bs ++ record { error = e; body = q } ∷ []) true (expr s n f) rest out
        (h (bs ++ record { error = e; body = q } ∷ []) true (expr s n f)
        (sym (append_assoc bs (record { error = e; body = q } ∷ []) (record { error = true; body = expr s n f } ∷ []))) refl)))
    branches_come frames bs e q out deep (more_branches {s1 = s1} {n1 = n1} {w = w} {x = x} {bs = brs} is more) h =
        bar_leads frames bs e q s1 n1 w _ out (seq_comes frames (bs ++ record { error = e; body = q } ∷ []) false out deep is
        (branches_come frames (bs ++ record { error = e; body = q } ∷ []) false x out deep more (λ cs error y same end.
        h cs error y (sym (append_assoc bs (record { error = e; body = q } ∷ []) (record { error = false; body = x } ∷ branch_list brs)) ∙ same) end)))
    branches_come frames bs e q out deep (more_errors {s1 = s1} {n1 = n1} {w = w} {x = x} {bs = brs} is more) h =
        bang_leads frames bs e q s1 n1 w _ out (seq_comes frames (bs ++ record { error = e; body = q } ∷ []) true out deep is
        (branches_come frames (bs ++ record { error = e; body = q } ∷ []) true x out deep more (λ cs error y same end.
        h cs error y (sym (append_assoc bs (record { error = e; body = q } ∷ []) (record { error = true; body = x } ∷ branch_list brs)) ∙ same) end)))

    pub expr_comes : {d : ℕ} {x : ExprV} {ts rest : List TokenV} (frames : List Frame) (out : RulesV) → length frames ≡ d
        → IsExpr d ts x rest → Leads rules begin title (λ k s n w. close frames x k n) rest out
        → Comes rules begin title frames fresh Side ts out
    expr_comes frames out deep (one_seq {x = x} {rest = rest} is) h =
        seq_comes frames [] false out deep is (close_to_seq rules begin title frames [] false x rest out h)
    expr_comes frames out deep (branches {s = s} {n = n} {n1 = n1} {f = f} {bs = no_branch} is more) h = absurd (no_branches more)
    expr_comes frames out deep (branches {s = s} {n = n} {n1 = n1} {f = f} {bs = branch e z brs} {rest = rest} is more) h =
        seq_comes frames [] false out deep is (branches_come frames [] false (expr s n f) out deep more (λ cs error x same end.
        subst (λ y. Leads rules begin title (λ k s n w. close frames y k n) rest out)
        (sym (whole_choice cs error false e x (expr s n f) z brs n1 (sym same) end)) h))
