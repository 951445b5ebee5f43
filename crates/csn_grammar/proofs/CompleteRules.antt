-- The reader takes all rules, so that no tokens are two lists of rules.
use Rattle.std.proofs.Common.{◌≡◌, ℕ, List, [], ◌∷◌, ◌++◌, Some, refl, sym, subst, append_assoc}
use Rattle.csn_lexer.specs.declared.token.TokenKind.TheVariants as kind
use Rattle.csn_grammar.specs.declared.rules.Rule.{Rule}
use Rattle.csn_grammar.specs.declared.reader.state.State.{State}
use Rattle.csn_grammar.specs.declared.reader.state.State.TheVariants.{Between, Less, Name}
use Rattle.csn_grammar.specs.ExprV.{ExprV}
use Rattle.csn_grammar.specs.RulesV.{RulesV}
use Rattle.csn_grammar.specs.TokenV.{TokenV, token}
use Rattle.csn_grammar.specs.Counts.{IsName, last_word, more_words}
use Rattle.csn_grammar.specs.Grammar.{IsRule, rule, AreRules, last_rule, more_rules}
use Rattle.csn_grammar.specs.reader.BodySteps.{close}
use Rattle.csn_grammar.specs.reader.RuleSteps.{rule_of, finished}
use Rattle.csn_grammar.proofs.Run.{Leads, parse, start}
use Rattle.csn_grammar.proofs.CompleteExpr.{expr_comes}

-- the tokens lead from this state to these rules
abbrev From : RulesV → State → List TokenV → RulesV → Type 0
From rules state ts out = parse (record { rules = rules; state = state }) ts ≡ Some out

words_from : {ts rest : List TokenV} {l : List ℕ} (rules : RulesV) (st : ℕ) (ws : List ℕ) (out : RulesV)
    → IsName ts l rest → From rules (Name st (ws ++ 32 ∷ l)) rest out → From rules (Name st ws) ts out
words_from rules st ws out (last_word {w = w} e) h = subst (λ r. From rules (Name st (ws ++ 32 ∷ w)) r out) e h
words_from {rest = rest} rules st ws out (more_words {w = w} {name = more} is) h =
    words_from rules st (ws ++ 32 ∷ w) out is
    (subst (λ l. From rules (Name st l) rest out) (sym (append_assoc ws (32 ∷ w) (32 ∷ more))) h)

name_from : {ts rest : List TokenV} {l : List ℕ} (rules : RulesV) (st : ℕ) (out : RulesV)
    → IsName ts l rest → From rules (Name st l) rest out → From rules (Less st) ts out
name_from rules st out (last_word {w = w} e) h = subst (λ r. From rules (Name st w) r out) e h
name_from rules st out (more_words {w = w} is) h = words_from rules st w out is h

semicolon_leads : (rules : RulesV) (st : ℕ) (l : List ℕ) (x : ExprV) (s n : ℕ) (w : List ℕ) (ts : List TokenV) (out : RulesV)
    → From (rules ++ rule_of st l x n ∷ []) Between ts out
    → Leads rules st l (λ k s n w. close [] x k n) (token kind.Semicolon s n w ∷ ts) out
unfolding close
semicolon_leads rules st l x s n w ts out h = h

rule_from : {ts rest : List TokenV} {r : Rule} (rules out : RulesV) → IsRule ts r rest
    → From (rules ++ r ∷ []) Between rest out → From rules Between ts out
rule_from rules out (rule {s = s} {s3 = s3} {n3 = n3} {w3 = w3} {l = l} {x = x} {rest = rest} is body) h =
    name_from rules s out is (expr_comes rules s l [] out refl body (semicolon_leads rules s l x s3 n3 w3 rest out h))

pub some_rules : (rules : RulesV) (r : Rule) → finished (rules ++ r ∷ []) Between ≡ Some (rules ++ r ∷ [])
some_rules [] r = refl
some_rules (q ∷ rules) r = refl

pub rules_from : {ts : List TokenV} {more : RulesV} (rules : RulesV) → AreRules ts more → From rules Between ts (rules ++ more)
rules_from rules (last_rule {r = r} is) = rule_from rules (rules ++ r ∷ []) is (some_rules rules r)
rules_from rules (more_rules {r = r} {rs = rs} {rest = rest} is more) =
    rule_from rules (rules ++ r ∷ rs) is
    (subst (λ out. From (rules ++ r ∷ []) Between rest out) (append_assoc rules (r ∷ []) rs) (rules_from (rules ++ r ∷ []) more))

-- tokens that are rules are read as those
pub complete : {ts : List TokenV} {rules : RulesV} → AreRules ts rules → parse start ts ≡ Some rules
complete are = rules_from [] are

pub one_list_of_rules : {ts : List TokenV} {rules others : RulesV} → AreRules ts rules → AreRules ts others → rules ≡ others
one_list_of_rules a b = let p = complete a in let q = complete b in cc
