-- The words of the program, as `clap` is told them, and what they ask for. (This project's own choice.)
use Rattle.std.specs.Prelude.{◌≡◌, ℕ, true, false, List, [], ◌∷◌, codes, Option, Some, None}
use Rattle.clap.specs.Words.{App, Row, Rule, first_of, new_app, new_rule, with_rule, with_subcommand}
use Rattle.clap.specs.Simple.{on_top}
use Rattle.clap.specs.declared.builder.action.ArgAction.TheVariants.{SetTrue}
use Rattle.csn_companion.specs.Words.{job_word, reading_word}
use Rattle.csn_companion.specs.declared.asked.Asked.{Asked}
use Rattle.csn_companion.specs.declared.asked.Job.{Job}
use Rattle.csn_companion.specs.declared.asked.Order.{Order}
use Rattle.csn_companion.specs.declared.asked.Job.TheVariants.{Check, Nodes, Fields, Show, Picture, Write, Blocks, Cover, Nearly}

-- an argument that must be there
abbrev pub needed : List ℕ → Rule
needed id = record (new_rule id) { required = true }

-- a command with a file, the name of a rule in it, and a reading
abbrev pub with_rule_words : App → App
with_rule_words app =
    with_rule (with_rule (with_rule app (needed (codes "FILE"))) (needed (codes "NAME"))) (needed (codes "READING"))

-- the flag that asks for trees
abbrev pub trees_rule : Rule
trees_rule = record (new_rule (codes "trees")) { long = Some (codes "trees"); action = Some SetTrue }

-- and behind them how many blocks are made, from which seed, and whether each is told with its tree
abbrev pub with_order_words : App → App
with_order_words app =
    with_rule (with_rule (with_rule app (needed (codes "N"))) (needed (codes "SEED"))) trees_rule

-- the command of a job
abbrev pub job_words : Job → App
job_words (Blocks order) = with_order_words (with_rule_words (new_app (job_word (Blocks order))))
job_words job = with_rule_words (new_app (job_word job))

-- a command with the commands of these jobs
abbrev pub with_jobs : App → List Job → App
with_jobs app [] = app
with_jobs app (job ∷ more) = with_jobs (with_subcommand app (job_words job).top) more

-- no blocks
abbrev pub no_order : Order
no_order = record { count = 0; seed = 0; trees = false }

-- all jobs
abbrev pub jobs : List Job
jobs = Check ∷ Nodes ∷ Fields ∷ Show ∷ Picture ∷ Write ∷ Blocks no_order ∷ Cover ∷ Nearly ∷ []

-- the program without the commands of its jobs
abbrev pub bare_program : App
bare_program =
    on_top (λ s. record s { has_version = true; subcommand_required = true; arg_required_else_help = true }) (new_app (codes "csn_explain"))

-- the program, one of whose commands must be named
abbrev pub program : App
program = with_jobs bare_program jobs

-- what is read of the command of a job asks for this: its file, its name and its reading
abbrev pub AsksFor : Option (List ℕ × List Row) → Asked → Type 0
AsksFor None asked = ⊥
AsksFor (Some (word, rows)) asked =
    (word ≡ job_word asked.job) × (first_of (codes "FILE") rows ≡ Some asked.file.now)
    × (first_of (codes "NAME") rows ≡ Some asked.name.now) × (first_of (codes "READING") rows ≡ Some (reading_word asked.reading))
