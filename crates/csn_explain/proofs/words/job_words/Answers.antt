use Rattle.std.proofs.Common.{rules, ◌≡◌, ◌∙◌, ap, refl}
use Rattle.clap.specs.Words.{app_of, new_app}
use Rattle.csn_companion.specs.declared.asked.Job.{Job}
use Rattle.csn_companion.specs.declared.asked.Order.{Order}
use Rattle.csn_companion.specs.declared.asked.Job.TheVariants.{Check, Nodes, Fields, Show, Picture, Write, Blocks, Cover, Nearly}
use Rattle.csn_companion.specs.Words.{job_word}
use Rattle.csn_explain.specs.Words.{job_words, with_rule_words}
use Rattle.csn_explain.proofs.words.job_words.Goals as goal

without_order : (job : Job) → ((order : Order) → job ≡ Blocks order → ⊥) → with_rule_words (new_app (job_word job)) ≡ job_words job
without_order Check none = refl
without_order Nodes none = refl
without_order Fields none = refl
without_order Show none = refl
without_order Picture none = refl
without_order Write none = refl
without_order (Blocks order) none = absurd (none order refl)
without_order Cover none = refl
without_order Nearly none = refl

pub returns-in_default : goal.returns-in_default
returns-in_default c =
    let new : app_of c.about-2.result ≡ new_app (job_word c.args.job) = search rules in
    c.in_ok-command.ensures ∙ ap with_rule_words new ∙ without_order c.args.job c.in_default.not-Blocks
