-- Tokens that the reader takes are rules.
use Rattle.std.proofs.Common.{◌≡◌, ℕ, List, [], ◌∷◌, ◌++◌, Option, Some, None, refl, sym, ap, ◌∙◌, subst, append_assoc}
use Rattle.csn_lexer.specs.declared.token.TokenKind.{TokenKind}
use Rattle.csn_lexer.specs.declared.token.TokenKind.TheVariants as kind
use Rattle.csn_grammar.specs.declared.rules.Rule.{Rule}
use Rattle.csn_grammar.specs.declared.reader.body.Next.{Next}
use Rattle.csn_grammar.specs.declared.reader.body.Next.TheVariants as next
use Rattle.csn_grammar.specs.declared.reader.state.State.{State}
use Rattle.csn_grammar.specs.declared.reader.state.State.TheVariants.{Between, Less, Name, Named, Body}
use Rattle.csn_grammar.specs.declared.reader.state.Reader.{Reader}
use Rattle.csn_grammar.specs.ExprV.{ExprV}
use Rattle.csn_grammar.specs.RulesV.{RulesV}
use Rattle.csn_grammar.specs.TokenV.{TokenV, token}
use Rattle.csn_grammar.specs.Counts.{IsName, last_word, more_words}
use Rattle.csn_grammar.specs.Grammar.{IsRule, rule, IsExpr, AreRules, last_rule, more_rules}
use Rattle.csn_grammar.specs.reader.BodySteps.{body_step}
use Rattle.csn_grammar.specs.reader.RuleSteps.{after_body, reader_step, finished}
use Rattle.csn_grammar.proofs.Run.{pour, parse, start}
use Rattle.csn_grammar.proofs.SoundExpr.{Rest, rest_none, rest_more, Closes, closes_rule, Exprs, expr_gather}
use Rattle.csn_grammar.proofs.SoundBody.{Stands, Leaves, body_back}

-- behind the name of a rule
data BehindTitle (rules : RulesV) (st : ℕ) (l : List ℕ) : List TokenV → RulesV → Type 0 where
  behind_title : {s n s1 n1 : ℕ} {w w1 : List ℕ} {ts : List TokenV} {out : RulesV} → Exprs rules st l [] ts out
      → BehindTitle rules st l (token kind.Greater s n w ∷ token kind.Define s1 n1 w1 ∷ ts) out

data BehindNamed (rules : RulesV) (st : ℕ) (l : List ℕ) : List TokenV → RulesV → Type 0 where
  behind_named : {s1 n1 : ℕ} {w1 : List ℕ} {ts : List TokenV} {out : RulesV} → Exprs rules st l [] ts out
      → BehindNamed rules st l (token kind.Define s1 n1 w1 ∷ ts) out

record Titles (rules : RulesV) (st : ℕ) (ts : List TokenV) (out : RulesV) : Type 0 where
  pub one : List ℕ
  pub rest : List TokenV
  pub is : IsName ts one rest
  pub behind : BehindTitle rules st one rest out

data TitlesMore (rules : RulesV) (st : ℕ) (ws : List ℕ) (ts : List TokenV) (out : RulesV) : Type 0 where
  title_whole : BehindTitle rules st ws ts out → TitlesMore rules st ws ts out
  title_more : {l : List ℕ} {rest : List TokenV} → IsName ts l rest → BehindTitle rules st (ws ++ 32 ∷ l) rest out
      → TitlesMore rules st ws ts out

-- the tokens complete what is read of a text
abbrev Finishes : RulesV → State → List TokenV → RulesV → Type 0
Finishes rules Between ts out = Rest rules ts out
Finishes rules (Less st) ts out = Titles rules st ts out
Finishes rules (Name st ws) ts out = TitlesMore rules st ws ts out
Finishes rules (Named st l) ts out = BehindNamed rules st l ts out
Finishes rules (Body st l b) ts out = Stands rules st l b.frames b.level b.mode ts out

abbrev Leads : Option Reader → List TokenV → RulesV → Type 0
Leads None ts out = ⊥
Leads (Some r) ts out = Finishes r.rules r.state ts out

rule_ends : {rules : RulesV} {r : Rule} {ts rest : List TokenV} {out : RulesV} → IsRule ts r rest → Rest (rules ++ r ∷ []) rest out → Rest rules ts out
rule_ends {rules} {r} {ts} is (rest_none none e) = rest_more (r ∷ []) (last_rule (subst (λ q. IsRule ts r q) none is)) e
rule_ends {rules} {r} is (rest_more rs are e) = rest_more (r ∷ rs) (more_rules is are) (e ∙ append_assoc rules (r ∷ []) rs)

body_ends : {rules : RulesV} {st n : ℕ} {l w : List ℕ} {ts inner middle : List TokenV} {out : RulesV} (s1 n1 s2 n2 : ℕ) (w1 w2 : List ℕ) (x : ExprV)
    → IsName ts l (token kind.Greater s1 n1 w1 ∷ token kind.Define s2 n2 w2 ∷ inner) → IsExpr 0 inner x middle → Closes rules st l [] x middle out
    → Rest rules (token kind.Less st n w ∷ ts) out
body_ends s1 n1 s2 n2 w1 w2 x is body (closes_rule rest) = rule_ends (rule is body) rest

title_ends : {rules : RulesV} {st n : ℕ} {l w : List ℕ} {ts middle : List TokenV} {out : RulesV} → IsName ts l middle → BehindTitle rules st l middle out
    → Rest rules (token kind.Less st n w ∷ ts) out
title_ends is (behind_title {s = s} {n = n} {s1 = s1} {n1 = n1} {w = w} {w1 = w1} x) = body_ends s n s1 n1 w w1 x.one is x.is x.behind

first_title : {rules : RulesV} {st : ℕ} {ts : List TokenV} {out : RulesV} (s n : ℕ) (w : List ℕ) → TitlesMore rules st w ts out
    → Titles rules st (token kind.Word s n w ∷ ts) out
first_title {ts = ts} s n w (title_whole b) = record { one = w; rest = ts; is = last_word refl; behind = b }
first_title s n w (title_more {l = l} {rest = rest} is b) = record { one = w ++ 32 ∷ l; rest = rest; is = more_words is; behind = b }

next_title : {rules : RulesV} {st : ℕ} {ts : List TokenV} {out : RulesV} (s n : ℕ) (ws w : List ℕ) → TitlesMore rules st (ws ++ 32 ∷ w) ts out
    → TitlesMore rules st ws (token kind.Word s n w ∷ ts) out
next_title s n ws w (title_whole b) = title_more (last_word refl) b
next_title {rules} {st} {out = out} s n ws w (title_more {l = l} {rest = rest} is b) =
    title_more (more_words is) (subst (λ a. BehindTitle rules st a rest out) (append_assoc ws (32 ∷ w) (32 ∷ l)) b)

greater_back : {rules : RulesV} {st : ℕ} {ws : List ℕ} {ts : List TokenV} {out : RulesV} (s n : ℕ) (w : List ℕ) → BehindNamed rules st ws ts out
    → TitlesMore rules st ws (token kind.Greater s n w ∷ ts) out
greater_back s n w (behind_named x) = title_whole (behind_title x)

body_case : (rules : RulesV) (st n : ℕ) (l : List ℕ) (ts : List TokenV) (out : RulesV) (o : Option Next) → Leads (after_body rules st l n o) ts out
    → Leaves rules st l n o ts out
body_case rules st n l ts out None h = h
body_case rules st n l ts out (Some (next.Goes b)) h = h
body_case rules st n l ts out (Some (next.Ends x)) h = h

reader_back : (ts : List TokenV) (out : RulesV) (rules : RulesV) (state : State) (k : TokenKind) (s n : ℕ) (w : List ℕ)
    → Leads (reader_step rules state k s n w) ts out → Finishes rules state (token k s n w ∷ ts) out
reader_back ts out rules Between kind.Less s n w h = title_ends h.is h.behind
reader_back ts out rules Between k s n w h = absurd h
reader_back ts out rules (Less st) kind.Word s n w h = first_title s n w h
reader_back ts out rules (Less st) k s n w h = absurd h
reader_back ts out rules (Name st ws) kind.Word s n w h = next_title s n ws w h
reader_back ts out rules (Name st ws) kind.Greater s n w h = greater_back s n w h
reader_back ts out rules (Name st ws) k s n w h = absurd h
reader_back ts out rules (Named st l) kind.Define s n w h = behind_named (expr_gather rules st l h)
reader_back ts out rules (Named st l) k s n w h = absurd h
reader_back ts out rules (Body st l b) k s n w h =
    body_back rules st l ts out b.frames b.level b.mode k s n w (body_case rules st n l ts out (body_step b.frames b.level b.mode k s n w) h)

ends_back : (rules : RulesV) (state : State) (out : RulesV) → finished rules state ≡ Some out → Finishes rules state [] out
ends_back [] state out h = absurd (cc)
ends_back (r ∷ rules) Between out h = rest_none refl (cc)
ends_back (r ∷ rules) (Less st) out h = absurd (cc)
ends_back (r ∷ rules) (Name st ws) out h = absurd (cc)
ends_back (r ∷ rules) (Named st l) out h = absurd (cc)
ends_back (r ∷ rules) (Body st l b) out h = absurd (cc)

pour_back : (ts : List TokenV) (o : Option Reader) (out : RulesV)
    → ((r : Reader) (rules : RulesV) → parse r ts ≡ Some rules → Finishes r.rules r.state ts rules)
    → pour o ts ≡ Some out → Leads o ts out
pour_back ts None out step h = absurd (cc)
pour_back ts (Some r) out step h = step r out h

parse_back : (ts : List TokenV) (r : Reader) (out : RulesV) → parse r ts ≡ Some out → Finishes r.rules r.state ts out
parse_back [] r out h = ends_back r.rules r.state out h
parse_back (token k s n w ∷ ts) r out h =
    reader_back ts out r.rules r.state k s n w (pour_back ts (reader_step r.rules r.state k s n w) out (parse_back ts) h)

rest_rules : (ts : List TokenV) (out : RulesV) → parse start ts ≡ Some out → Rest [] ts out → AreRules ts out
rest_rules ts out h (rest_none none e) = let nothing = ap (parse start) none in absurd (cc)
rest_rules ts out h (rest_more rs are e) = subst (AreRules ts) (sym e) are

-- tokens that are read are rules
pub sound : (ts : List TokenV) (out : RulesV) → parse start ts ≡ Some out → AreRules ts out
sound ts out h = rest_rules ts out h (parse_back ts start out h)
