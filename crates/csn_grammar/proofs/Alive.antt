-- From wherever the reader stands, some tokens lead to rules.
use Rattle.std.proofs.Common.{◌≡◌, ℕ, Bool, true, false, List, [], ◌∷◌, ◌++◌, Option, Some, None, refl}
use Rattle.std.specs.Prelude.{codes}
use Rattle.csn_lexer.specs.declared.token.TokenKind.{TokenKind}
use Rattle.csn_lexer.specs.declared.token.TokenKind.TheVariants as kind
use Rattle.csn_desc.specs.declared.symbol.Symbol.TheVariants.{Zero}
use Rattle.csn_grammar.specs.declared.exponent.Exponent.{Exponent}
use Rattle.csn_grammar.specs.declared.exponent.Exponent.TheVariants as exponent
use Rattle.csn_grammar.specs.declared.reader.body.Frame.{Frame}
use Rattle.csn_grammar.specs.declared.reader.body.Joint.{Joint}
use Rattle.csn_grammar.specs.declared.reader.body.Joint.TheVariants.{Alone, Window, Sends}
use Rattle.csn_grammar.specs.declared.reader.body.Level.{Level}
use Rattle.csn_grammar.specs.declared.reader.body.Opening.{Opening}
use Rattle.csn_grammar.specs.declared.reader.body.Opening.TheVariants.{Brace, Label}
use Rattle.csn_grammar.specs.declared.reader.body.Mode.{Mode}
use Rattle.csn_grammar.specs.declared.reader.body.Mode.TheVariants.{Side, Less, Name, Base, Done, Slashes, Exponent as In}
use Rattle.csn_grammar.specs.declared.reader.progress.Terms.{Terms}
use Rattle.csn_grammar.specs.declared.reader.progress.Progress.{Progress}
use Rattle.csn_grammar.specs.declared.reader.progress.Progress.TheVariants.{Bracket, Star, StarBracket, Number}
use Rattle.csn_grammar.specs.declared.reader.progress.Progress.TheVariants.{Summand, Factor, Before, Val, ValBracket}
use Rattle.csn_grammar.specs.declared.reader.progress.Progress.TheVariants.{ValWords, Product, FactorBehind}
use Rattle.csn_grammar.specs.declared.reader.progress.Progress.TheVariants.{SummandBehind, Whole}
use Rattle.csn_grammar.specs.declared.reader.state.State.{State}
use Rattle.csn_grammar.specs.declared.reader.state.State.TheVariants as state
use Rattle.csn_grammar.specs.declared.reader.state.Reader.{Reader}
use Rattle.csn_grammar.specs.ExprV.{ExprV, expr, lits, name, labelled, group, BranchV}
use Rattle.csn_grammar.specs.RulesV.{RulesV}
use Rattle.csn_grammar.specs.TokenV.{TokenV, token}
use Rattle.csn_grammar.specs.Grammar.{NotSlashes}
use Rattle.csn_grammar.specs.reader.Building.{seq_with, choice_with, both_of, sends_of, power_of}
use Rattle.csn_grammar.specs.reader.ExponentSteps.{linear}
use Rattle.csn_grammar.specs.reader.BodySteps.{fresh, close, close_in, after_seq, after_item, after_side, after_exponent, first_word, body_step}
use Rattle.csn_grammar.specs.reader.RuleSteps.{rule_of}
use Rattle.csn_grammar.proofs.Run.{Step, level_of, Leads, Comes, parse}
use Rattle.csn_grammar.proofs.Complete.{close_none, no_lead, close_to_seq, seq_to_item, item_to_window, window_to_side}
use Rattle.csn_grammar.proofs.CompleteExpr.{MayFollow, side_to_base, leads_done, both_leads, sends_leads, word_comes, greater_comes}
use Rattle.csn_grammar.proofs.CompleteRules.{some_rules}

-- a token of this kind, wherever it stands
abbrev sign : TokenKind → TokenV
sign k = token k 0 0 []

abbrev word : List ℕ → TokenV
word w = token kind.Word 0 0 w

may_follow : (x : ExprV) (ts : List TokenV) → NotSlashes ts → MayFollow x ts
may_follow (expr s n (group y)) ts h = h
may_follow (expr s n f) ts h = tt

module _ (rules : RulesV) (begin : ℕ) (title : List ℕ) where
  record Led (f : Step) : Type 0 where
    pub ts : List TokenV
    pub out : RulesV
    pub free : NotSlashes ts
    pub leads : Leads rules begin title f ts out

  record Alive (frames : List Frame) (level : Level) (mode : Mode) : Type 0 where
    pub ts : List TokenV
    pub out : RulesV
    pub comes : Comes rules begin title frames level mode ts out

  item_lives : (frames : List Frame) (bs : List BranchV) (e : Bool) (xs : List ExprV) (x : ExprV)
      → Led (λ k s n w. close frames (choice_with bs e (seq_with xs x)) k n)
      → (ts : List TokenV) × (out : RulesV) × NotSlashes ts × Leads rules begin title (after_item frames (level_of bs e xs Alone) x) ts out
  item_lives frames bs e xs x h = (
    h.ts,
    h.out,
    h.free,
    seq_to_item rules begin title frames bs e xs x h.ts h.out (close_to_seq rules begin title frames bs e (seq_with xs x) h.ts h.out h.leads),
  )

  side_lives : (frames : List Frame) (bs : List BranchV) (e : Bool) (xs : List ExprV) (j : Joint) (x : ExprV)
      → ((y : ExprV) → Led (λ k s n w. close frames y k n)) → Led (after_side frames (level_of bs e xs j) x)
  side_lives frames bs e xs Alone x close_all =
      let i = item_lives frames bs e xs x (close_all (choice_with bs e (seq_with xs x))) in
      record {
        ts = i.0;
        out = i.1;
        free = i.2;
        leads = window_to_side rules begin title frames bs e xs x i.0 i.1 (item_to_window rules begin title frames bs e xs x i.0 i.1 i.3);
      }
  side_lives frames bs e xs (Window l) x close_all =
      let i = item_lives frames bs e xs (both_of l x) (close_all (choice_with bs e (seq_with xs (both_of l x)))) in
      record {
        ts = i.0;
        out = i.1;
        free = i.2;
        leads = both_leads rules begin title frames bs e xs l x i.0 i.1 (item_to_window rules begin title frames bs e xs (both_of l x) i.0 i.1 i.3);
      }
  side_lives frames bs e xs (Sends l) x close_all =
      let i = item_lives frames bs e xs (sends_of l x) (close_all (choice_with bs e (seq_with xs (sends_of l x)))) in
      record { ts = i.0; out = i.1; free = i.2; leads = sends_leads rules begin title frames bs e xs l x i.0 i.1 i.3 }

  base_lives : (frames : List Frame) (level : Level) (x : ExprV) → ((y : ExprV) → Led (λ k s n w. close frames y k n)) → Alive frames level (Base x)
  base_lives frames level x close_all =
      let side = side_lives frames level.branches level.error level.items level.joint x close_all in
      record {
        ts = side.ts;
        out = side.out;
        comes = side_to_base rules begin title frames level x side.ts side.out
            (may_follow x side.ts side.free) side.leads;
      }

  frame_closes : (frames : List Frame) (level : Level) (st : ℕ) (o : Opening) (y : ExprV)
      → ((y : ExprV) → Led (λ k s n w. close frames y k n)) → Led (λ k s n w. close_in frames level st o y k n)
  frame_closes frames level st Brace y close_all =
      let base = base_lives frames level (expr st 0 (group y)) close_all in
      record { ts = sign kind.BraceRight ∷ base.ts; out = base.out; free = tt; leads = base.comes }
  frame_closes frames level st (Label l) y close_all =
      let base = base_lives frames level (expr st 0 (labelled l y)) close_all in
      record { ts = sign kind.Greater ∷ base.ts; out = base.out; free = tt; leads = base.comes }

  -- what is open can be closed
  closes : (frames : List Frame) (y : ExprV) → Led (λ k s n w. close frames y k n)
  unfolding close
  closes [] y = record {
    ts = sign kind.Semicolon ∷ [];
    out = rules ++ rule_of begin title y 0 ∷ [];
    free = tt;
    leads = some_rules rules (rule_of begin title y 0);
  }
  closes (f ∷ frames) y = frame_led (frame_closes frames f.level f.start f.opening y (closes frames))
    where
      frame_led : Led (λ k s n w. close_in frames f.level f.start f.opening y k n) → Led (λ k s n w. close (f ∷ frames) y k n)
      frame_led h = record { ts = h.ts; out = h.out; free = h.free; leads = same h.ts h.leads }
        where
          same : (ts : List TokenV) → Leads rules begin title (λ k s n w. close_in frames f.level f.start f.opening y k n) ts h.out
              → Leads rules begin title (λ k s n w. close (f ∷ frames) y k n) ts h.out
          same [] g = g
          same (token k s n w ∷ ts) g = g

  done_lives : (frames : List Frame) (level : Level) (x : ExprV) → Alive frames level (Done x)
  done_lives frames level x =
      let side = side_lives frames level.branches level.error level.items level.joint x (closes frames) in
      record { ts = side.ts; out = side.out; comes = leads_done rules begin title frames level x side.ts side.out side.leads }

  seq_leads : (frames : List Frame) (level : Level) (q : ExprV) (ts : List TokenV) (out : RulesV)
      → Leads rules begin title (λ k s n w. close frames (choice_with level.branches level.error q) k n) ts out
      → Comes rules begin title frames level (Slashes q) ts out
  unfolding body_step after_seq
  seq_leads frames level q [] out h = absurd h
  seq_leads frames level q (token kind.Bar s n w ∷ ts) out h =
      absurd (no_lead rules begin title n _ ts out (close_none frames (choice_with level.branches level.error q) kind.Bar n refl) h)
  seq_leads frames level q (token kind.Bang s n w ∷ ts) out h =
      absurd (no_lead rules begin title n _ ts out (close_none frames (choice_with level.branches level.error q) kind.Bang n refl) h)
  seq_leads frames level q (token k s n w ∷ ts) out h = h

  slashes_live : (frames : List Frame) (level : Level) (q : ExprV) → Alive frames level (Slashes q)
  slashes_live frames level q =
      let c = closes frames (choice_with level.branches level.error q) in
      record { ts = c.ts; out = c.out; comes = seq_leads frames level q c.ts c.out c.leads }

  name_lives : (frames : List Frame) (level : Level) (st : ℕ) (ws : List ℕ) → Alive frames level (Name st ws)
  name_lives frames level st ws =
      let base = base_lives frames level (expr st 0 (name ws)) (closes frames) in
      record {
        ts = sign kind.Greater ∷ base.ts;
        out = base.out;
        comes =
            greater_comes rules begin title frames level st 0 0 ws [] base.ts base.out base.comes;
      }

  less_lives : (frames : List Frame) (level : Level) (st : ℕ) → Alive frames level (Less st)
  unfolding body_step first_word
  less_lives frames level st =
      let named = name_lives frames level st (codes "0") in record { ts = word (codes "0") ∷ named.ts; out = named.out; comes = named.comes }

  lits_lives : (frames : List Frame) (level : Level) → Alive frames level Side
  lits_lives frames level =
      let done = done_lives frames level (expr 0 0 (lits (Zero ∷ []))) in
      record {
        ts = word (codes "0") ∷ done.ts;
        out = done.out;
        comes = word_comes rules begin title frames level (lits (Zero ∷ [])) 0 0 (codes "0") done.ts done.out refl done.comes;
      }

  -- exponents
  whole_lives : (frames : List Frame) (level : Level) (x : ExprV) (e : Exponent) → Alive frames level (In x (Whole e))
  unfolding body_step after_exponent
  whole_lives frames level x e =
      let done = done_lives frames level (power_of x 0 e) in record { ts = sign kind.ParenRight ∷ done.ts; out = done.out; comes = done.comes }

  number_lives : (frames : List Frame) (level : Level) (x : ExprV) (n : ℕ) → Alive frames level (In x (Number n))
  unfolding body_step after_exponent
  number_lives frames level x n =
      let done = done_lives frames level (power_of x 0 (exponent.Number n)) in
      record { ts = sign kind.ParenRight ∷ done.ts; out = done.out; comes = done.comes }

  product_lives : (frames : List Frame) (level : Level) (x : ExprV) (t : Terms) (l : List ℕ) → Alive frames level (In x (Product t l))
  unfolding body_step after_exponent
  product_lives frames level x t l =
      let done = done_lives frames level (power_of x 0 (linear t l)) in record { ts = sign kind.ParenRight ∷ done.ts; out = done.out; comes = done.comes }

  words_live : (frames : List Frame) (level : Level) (x : ExprV) (f c : Option ℕ) (b : Bool) (ws : List ℕ)
      → Alive frames level (In x (ValWords (record { factor = f; summand = c; bracket = b }) ws))
  unfolding body_step after_exponent
  words_live frames level x f c true ws =
      let product = product_lives frames level x (record { factor = f; summand = c; bracket = true }) ws in
      record { ts = sign kind.ParenRight ∷ product.ts; out = product.out; comes = product.comes }
  words_live frames level x f c false ws =
      let done = done_lives frames level (power_of x 0 (linear (record { factor = f; summand = c; bracket = false }) ws)) in
      record { ts = sign kind.ParenRight ∷ done.ts; out = done.out; comes = done.comes }

  bracket_lives : (frames : List Frame) (level : Level) (x : ExprV) (t : Terms) → Alive frames level (In x (ValBracket t))
  unfolding body_step after_exponent
  bracket_lives frames level x t =
      let words = words_live frames level x t.factor t.summand t.bracket (codes "0") in
      record { ts = word (codes "0") ∷ words.ts; out = words.out; comes = words.comes }

  val_lives : (frames : List Frame) (level : Level) (x : ExprV) (t : Terms) → Alive frames level (In x (Val t))
  unfolding body_step after_exponent
  val_lives frames level x t =
      let bracket = bracket_lives frames level x t in record { ts = sign kind.ParenLeft ∷ bracket.ts; out = bracket.out; comes = bracket.comes }

  before_lives : (frames : List Frame) (level : Level) (x : ExprV) (t : Terms) → Alive frames level (In x (Before t))
  unfolding body_step after_exponent
  before_lives frames level x t =
      let val = val_lives frames level x t in record { ts = word (codes "val") ∷ val.ts; out = val.out; comes = val.comes }

  exponent_lives : (frames : List Frame) (level : Level) (x : ExprV) (p : Progress) → Alive frames level (In x p)
  unfolding body_step after_exponent
  exponent_lives frames level x Bracket =
      let whole = whole_lives frames level x exponent.Any in record { ts = sign kind.Star ∷ whole.ts; out = whole.out; comes = whole.comes }
  exponent_lives frames level x Star =
      let done = done_lives frames level (power_of x 0 (exponent.Number 0)) in record { ts = word (codes "0") ∷ done.ts; out = done.out; comes = done.comes }
  exponent_lives frames level x StarBracket =
      let number = number_lives frames level x 0 in record { ts = word (codes "0") ∷ number.ts; out = number.out; comes = number.comes }
  exponent_lives frames level x (Number n) = number_lives frames level x n
  exponent_lives frames level x (Summand c) =
      let val = val_lives frames level x (record { factor = None; summand = Some c; bracket = true }) in
      record { ts = word (codes "val") ∷ val.ts; out = val.out; comes = val.comes }
  exponent_lives frames level x (Factor c m) =
      let before = before_lives frames level x (record { factor = Some m; summand = Some c; bracket = true }) in
      record { ts = sign kind.Star ∷ before.ts; out = before.out; comes = before.comes }
  exponent_lives frames level x (Before t) = before_lives frames level x t
  exponent_lives frames level x (Val t) = val_lives frames level x t
  exponent_lives frames level x (ValBracket t) = bracket_lives frames level x t
  exponent_lives frames level x (ValWords t ws) = words_live frames level x t.factor t.summand t.bracket ws
  exponent_lives frames level x (Product t l) = product_lives frames level x t l
  exponent_lives frames level x (FactorBehind c l) =
      let product = product_lives frames level x (record { factor = Some 0; summand = c; bracket = true }) l in
      record { ts = word (codes "0") ∷ product.ts; out = product.out; comes = product.comes }
  exponent_lives frames level x (SummandBehind m l) =
      let whole = whole_lives frames level x (exponent.Linear m l 0) in record { ts = word (codes "0") ∷ whole.ts; out = whole.out; comes = whole.comes }
  exponent_lives frames level x (Whole e) = whole_lives frames level x e

  body_lives : (frames : List Frame) (level : Level) (mode : Mode) → Alive frames level mode
  body_lives frames level Side = lits_lives frames level
  body_lives frames level (Less st) = less_lives frames level st
  body_lives frames level (Name st ws) = name_lives frames level st ws
  body_lives frames level (Base x) = base_lives frames level x (closes frames)
  body_lives frames level (Done x) = done_lives frames level x
  body_lives frames level (Slashes q) = slashes_live frames level q
  body_lives frames level (In x p) = exponent_lives frames level x p

-- some tokens lead from here to rules
record Ends (rules : RulesV) (state : State) : Type 0 where
  pub ts : List TokenV
  pub out : RulesV
  pub leads : parse (record { rules = rules; state = state }) ts ≡ Some out

named_ends : (rules : RulesV) (st : ℕ) (l : List ℕ) → Ends rules (state.Named st l)
named_ends rules st l =
    let body = body_lives rules st l [] fresh Side in record { ts = sign kind.Define ∷ body.ts; out = body.out; leads = body.comes }

name_ends : (rules : RulesV) (st : ℕ) (ws : List ℕ) → Ends rules (state.Name st ws)
name_ends rules st ws =
    let named = named_ends rules st ws in record { ts = sign kind.Greater ∷ named.ts; out = named.out; leads = named.leads }

less_ends : (rules : RulesV) (st : ℕ) → Ends rules (state.Less st)
less_ends rules st =
    let name = name_ends rules st (codes "0") in record { ts = word (codes "0") ∷ name.ts; out = name.out; leads = name.leads }

state_ends : (rules : RulesV) (s : State) → Ends rules s
state_ends rules state.Between =
    let less = less_ends rules 0 in record { ts = sign kind.Less ∷ less.ts; out = less.out; leads = less.leads }
state_ends rules (state.Less st) = less_ends rules st
state_ends rules (state.Name st ws) = name_ends rules st ws
state_ends rules (state.Named st l) = named_ends rules st l
state_ends rules (state.Body st l b) =
    let body = body_lives rules st l b.frames b.level b.mode in record { ts = body.ts; out = body.out; leads = body.comes }

pub alive : (r : Reader) → (ts : List TokenV) × (out : RulesV) × (parse r ts ≡ Some out)
alive r = let e = state_ends r.rules r.state in (e.ts, e.out, e.leads)
