-- A description of one rule that is not in tail form means what the rule's expression means.
use Rattle.std.proofs.Common.{◌≡◌, ℕ, List, [], ◌∙◌, ap, subst, Some, None}
use Rattle.csn_desc.specs.declared.reading.Reading.{Reading}
use Rattle.csn_desc.specs.TreeV.{TreeV}
use Rattle.csn_grammar.specs.declared.rules.Rule.{Rule}
use Rattle.csn_grammar.specs.ExprV.{ExprV}
use Rattle.csn_grammar.specs.RulesV.{RulesV}
use Rattle.csn_grammar.specs.Names.{rule_of}
use Rattle.csn_grammar.specs.Environment.{Env}
use Rattle.csn_grammar.specs.TailForm.{tail_of, tail_of_body}
use Rattle.csn_grammar.specs.Meaning.{Means, RuleMeans, rule_plain, rule_tail}
use Rattle.csn_grammar.specs.Follow.{Follow, RuleFollows, follows_plain, follows_tail}
use Rattle.csn_grammar.specs.Strings.{Strings, Followed}
use Rattle.csn_grammar.specs.Examples.{M, one_rule}

module _ (rules : RulesV) (r : Reading) where
  pub plain_means : {rule : Rule} {o : ℕ} {env : Env} {b : List ℕ} {t : TreeV} → tail_of rule ≡ None
      → RuleMeans rules r rule o env b t → Means rules r rule.body o env b t
  plain_means none (rule_plain is h) = h
  plain_means none (rule_tail tail is h) = cc

  pub plain_follows : {rule : Rule} {o : ℕ} {env : Env} {b : List ℕ} → tail_of rule ≡ None
      → RuleFollows rules r rule o env b → Follow rules r rule.body o env b
  plain_follows none (follows_plain is h) = h
  plain_follows none (follows_tail tail is h) = cc

module _ (r : Reading) (body : ExprV) (none : tail_of_body M body ≡ None) where
  pub body_means : (b : List ℕ) (t : TreeV) → Strings (one_rule body) M r b t
      → Means (one_rule body) r body 0 [] b t
  body_means b t h = found h.0 h.1 h.2
    where
      found : (rule : Rule) → rule_of (one_rule body) M ≡ Some rule
          → RuleMeans (one_rule body) r rule 0 [] b t → Means (one_rule body) r body 0 [] b t
      found rule at h =
          let name_is : rule.name ≡ M = cc in
          let body_is : rule.body ≡ body = cc in
          let P : ExprV → Type 0 = λ x. Means (one_rule body) r x 0 [] b t in
          subst P body_is (plain_means (one_rule body) r (ap (tail_of_body rule.name) body_is ∙ ap (λ n. tail_of_body n body) name_is ∙ none) h)

  pub body_follows : (b : List ℕ) → Followed (one_rule body) M r b → Follow (one_rule body) r body 0 [] b
  body_follows b h = found h.0 h.1 h.2
    where
      found : (rule : Rule) → rule_of (one_rule body) M ≡ Some rule
          → RuleFollows (one_rule body) r rule 0 [] b → Follow (one_rule body) r body 0 [] b
      found rule at h =
          let name_is : rule.name ≡ M = cc in
          let body_is : rule.body ≡ body = cc in
          let P : ExprV → Type 0 = λ x. Follow (one_rule body) r x 0 [] b in
          subst P body_is (plain_follows (one_rule body) r (ap (tail_of_body rule.name) body_is ∙ ap (λ n. tail_of_body n body) name_is ∙ none) h)
