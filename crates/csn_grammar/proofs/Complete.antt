-- The reader takes the tokens of each expression.
use Rattle.std.proofs.Common.{◌≡◌, ℕ, Bool, true, false, List, [], ◌∷◌, ◌++◌, Option, Some, None, refl, ap}
use Rattle.csn_lexer.specs.declared.token.TokenKind.{TokenKind}
use Rattle.csn_lexer.specs.declared.token.TokenKind.TheVariants as kind
use Rattle.csn_grammar.specs.declared.reader.body.Frame.{Frame}
use Rattle.csn_grammar.specs.declared.reader.body.Joint.TheVariants.{Alone}
use Rattle.csn_grammar.specs.declared.reader.body.Level.{Level}
use Rattle.csn_grammar.specs.declared.reader.body.Opening.{Opening}
use Rattle.csn_grammar.specs.declared.reader.body.Opening.TheVariants.{Brace, Label}
use Rattle.csn_grammar.specs.declared.reader.body.Mode.{Mode}
use Rattle.csn_grammar.specs.declared.reader.body.Mode.TheVariants.{Side}
use Rattle.csn_grammar.specs.declared.reader.body.Next.{Next}
use Rattle.csn_grammar.specs.declared.reader.state.State.TheVariants.{Body}
use Rattle.csn_grammar.specs.ExprV.{ExprV, BranchV}
use Rattle.csn_grammar.specs.RulesV.{RulesV}
use Rattle.csn_grammar.specs.TokenV.{TokenV, token}
use Rattle.csn_grammar.specs.reader.Building.{seq_with, choice_with}
use Rattle.csn_grammar.specs.reader.BodySteps.{begin_side, close, close_in, after_seq, after_item, after_window, after_joint, after_side, body_step}
use Rattle.csn_grammar.specs.reader.RuleSteps.{after_body, finished}
use Rattle.csn_grammar.proofs.Run.{level_of, Leads, Comes, pour}

-- a token that closes nothing
abbrev pub is_closer : TokenKind → Bool
is_closer kind.BraceRight = true
is_closer kind.Greater = true
is_closer kind.Semicolon = true
is_closer _ = false

close_in_none : (frames : List Frame) (level : Level) (s : ℕ) (o : Opening) (x : ExprV) (k : TokenKind) (n : ℕ)
    → is_closer k ≡ false → close_in frames level s o x k n ≡ None
close_in_none frames level s Brace x kind.BraceRight n h = absurd (cc)
close_in_none frames level s (Label l) x kind.Greater n h = absurd (cc)
close_in_none frames level s Brace x k n h = refl
close_in_none frames level s (Label l) x k n h = refl

pub close_none : (frames : List Frame) (x : ExprV) (k : TokenKind) (n : ℕ) → is_closer k ≡ false → close frames x k n ≡ None
unfolding close
close_none [] x kind.Semicolon n h = absurd (cc)
close_none [] x k n h = refl
close_none (f ∷ frames) x k n h = close_in_none frames f.level f.start f.opening x k n h

module _ (rules : RulesV) (begin : ℕ) (title : List ℕ) where
  pub no_lead : (n : ℕ) (o : Option Next) (ts : List TokenV) (out : RulesV) → o ≡ None
      → pour (after_body rules begin title n o) ts ≡ Some out → ⊥
  no_lead n o ts out none h = let nothing = ap (λ p. pour (after_body rules begin title n p) ts) none in absurd (cc)

  pub unfinished : (frames : List Frame) (level : Level) (mode : Mode) (out : RulesV)
      → Comes rules begin title frames level mode [] out → ⊥
  unfinished frames level mode out h = unfinished_rules rules h
    where
      unfinished_rules : (rs : RulesV) → finished rs (Body begin title (record { frames = frames; level = level; mode = mode })) ≡ Some out → ⊥
      unfinished_rules [] h = absurd (cc)
      unfinished_rules (r ∷ rs) h = absurd (cc)

  -- what may come behind an alternative that ends is what may come behind an alternative
  pub close_to_seq : (frames : List Frame) (bs : List BranchV) (e : Bool) (q : ExprV) (ts : List TokenV) (out : RulesV)
      → Leads rules begin title (λ k s n w. close frames (choice_with bs e q) k n) ts out
      → Leads rules begin title (λ k s n w. after_seq frames (level_of bs e [] Alone) q k n) ts out
  unfolding after_seq
  close_to_seq frames bs e q [] out h = absurd h
  close_to_seq frames bs e q (token kind.Bar s n w ∷ ts) out h = absurd (no_lead n _ ts out (close_none frames (choice_with bs e q) kind.Bar n refl) h)
  close_to_seq frames bs e q (token kind.Bang s n w ∷ ts) out h = absurd (no_lead n _ ts out (close_none frames (choice_with bs e q) kind.Bang n refl) h)
  close_to_seq frames bs e q (token k s n w ∷ ts) out h = h

  -- behind a sequence, and behind its last item
  pub seq_to_item : (frames : List Frame) (bs : List BranchV) (e : Bool) (xs : List ExprV) (x : ExprV) (ts : List TokenV) (out : RulesV)
      → Leads rules begin title (λ k s n w. after_seq frames (level_of bs e [] Alone) (seq_with xs x) k n) ts out
      → Leads rules begin title (after_item frames (level_of bs e xs Alone) x) ts out
  unfolding after_item after_seq
  seq_to_item frames bs e xs x [] out h = absurd h
  seq_to_item frames bs e xs x (token kind.SlashSlash s n w ∷ ts) out h =
      absurd (no_lead n _ ts out (close_none frames (choice_with bs e (seq_with xs x)) kind.SlashSlash n refl) h)
  seq_to_item frames bs e xs x (token kind.Word s n w ∷ ts) out h =
      absurd (no_lead n _ ts out (close_none frames (choice_with bs e (seq_with xs x)) kind.Word n refl) h)
  seq_to_item frames bs e xs x (token kind.Less s n w ∷ ts) out h =
      absurd (no_lead n _ ts out (close_none frames (choice_with bs e (seq_with xs x)) kind.Less n refl) h)
  seq_to_item frames bs e xs x (token kind.BraceLeft s n w ∷ ts) out h =
      absurd (no_lead n _ ts out (close_none frames (choice_with bs e (seq_with xs x)) kind.BraceLeft n refl) h)
  seq_to_item frames bs e xs x (token k s n w ∷ ts) out h = h

  -- behind an item where another begins
  pub side_to_item : (frames : List Frame) (bs : List BranchV) (e : Bool) (xs : List ExprV) (x : ExprV) (ts : List TokenV) (out : RulesV)
      → Comes rules begin title frames (level_of bs e (xs ++ x ∷ []) Alone) Side ts out
      → Leads rules begin title (after_item frames (level_of bs e xs Alone) x) ts out
  unfolding after_item after_seq body_step begin_side
  side_to_item frames bs e xs x [] out h = absurd (unfinished frames (level_of bs e (xs ++ x ∷ []) Alone) Side out h)
  side_to_item frames bs e xs x (token kind.Word s n w ∷ ts) out h = h
  side_to_item frames bs e xs x (token kind.Less s n w ∷ ts) out h = h
  side_to_item frames bs e xs x (token kind.BraceLeft s n w ∷ ts) out h = h
  side_to_item frames bs e xs x (token k s n w ∷ ts) out h = absurd (cc)

  -- behind an item, and behind a window
  pub item_to_window : (frames : List Frame) (bs : List BranchV) (e : Bool) (xs : List ExprV) (x : ExprV) (ts : List TokenV) (out : RulesV)
      → Leads rules begin title (after_item frames (level_of bs e xs Alone) x) ts out
      → Leads rules begin title (after_window frames (level_of bs e xs Alone) x) ts out
  unfolding after_item after_window after_seq
  item_to_window frames bs e xs x [] out h = absurd h
  item_to_window frames bs e xs x (token kind.Equal s n w ∷ ts) out h =
      absurd (no_lead n _ ts out (close_none frames (choice_with bs e (seq_with xs x)) kind.Equal n refl) h)
  item_to_window frames bs e xs x (token k s n w ∷ ts) out h = h

  -- behind a window, and behind its only side
  pub window_to_side : (frames : List Frame) (bs : List BranchV) (e : Bool) (xs : List ExprV) (x : ExprV) (ts : List TokenV) (out : RulesV)
      → Leads rules begin title (after_window frames (level_of bs e xs Alone) x) ts out
      → Leads rules begin title (after_side frames (level_of bs e xs Alone) x) ts out
  unfolding after_side after_joint after_window after_item after_seq
  window_to_side frames bs e xs x [] out h = absurd h
  window_to_side frames bs e xs x (token kind.Ampersand s n w ∷ ts) out h =
      absurd (no_lead n _ ts out (close_none frames (choice_with bs e (seq_with xs x)) kind.Ampersand n refl) h)
  window_to_side frames bs e xs x (token k s n w ∷ ts) out h = h
