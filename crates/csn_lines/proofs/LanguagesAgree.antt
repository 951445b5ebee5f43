-- Languages that agree give the same answers, and a rule agrees with its certified description.
use Rattle.std.proofs.Common.{ℕ, ◌↔◌, List, [], Option, sym, subst}
use Rattle.csn_catalogue.specs.declared.entry.Entry.{Entry}
use Rattle.csn_catalogue.specs.declared.entry.Entry.TheVariants.{Downlink}
use Rattle.csn_catalogue.specs.Entries.{all_entries, entry_place, entry_root}
use Rattle.csn_catalogue.specs.Text.{catalogue_text}
use Rattle.csn_desc.specs.declared.reading.Reading.{Reading}
use Rattle.csn_desc.specs.declared.reading.Reading.TheVariants.{Received}
use Rattle.csn_desc.specs.Nodes.{DescV}
use Rattle.csn_encode.specs.Misfits.{IsMisfit}
use Rattle.csn_grammar.specs.RulesV.{RulesV}
use Rattle.csn_json.specs.declared.form.TreeForm.{TreeForm}
use Rattle.csn_command.specs.declared.command.RuleCommand.{RuleCommand}
use Rattle.csn_command.specs.declared.command.RuleCommand.TheVariants.{Show, Write}
use Rattle.csn_plan.specs.Compiled.{AreCompiled}
use Rattle.csn_replay.specs.declared.seen.Seen.{Seen}
use Rattle.csn_bits.specs.Octets.{octets_of}
use Rattle.csn_segment.specs.Joining.{answer_to}
use Rattle.csn_segment.specs.declared.joined.Joined.{Joined}
use Rattle.csn_segment.specs.declared.joined.Joined.TheVariants.{Whole, Waiting, Refused}
use Rattle.csn_lines.specs.Jobs.{by_rule, migrating, segmenting, replaying}
use Rattle.csn_lines.specs.Known.{Known}
use Rattle.csn_lines.specs.Language.{Agree, Language, of_plans, of_rule, of_rules}
use Rattle.csn_lines.specs.Laws.{PlansDoJobs, RulesAndPlansAgree}
use Rattle.csn_lines.specs.OutLine.{AnswersJoined, AnswersLine, CaptureLine, SegmentsLine, ShowsBlock, ShowsLine, WritesLine}
use Rattle.csn_lines.specs.OutLine.{shows_block, shows_fault, shows_place, shows_tree, writes_bad, writes_block, writes_misfit}
use Rattle.csn_lines.specs.OutLine.{captures_block, captures_fault, joins_block, no_block, no_capture, no_octets}
use Rattle.csn_lines.specs.Work.{LineWork, Gives, answering, joining, renewing, watching}
use Rattle.csn_lines.proofs.ReplayedLines.{compiled_at, stands_at}
use Rattle.csn_lines.proofs.ShownLines.{meant_by, shaped, string_of}

-- ---- lines

pub turned : {a b : Language} → Agree a b → Agree b a
turned agree = record {
  trees = λ bits t. ((agree.trees bits t).1, (agree.trees bits t).0);
  places = λ bits place. ((agree.places bits place).1, (agree.places bits place).0);
  misfits = λ t path why. ((agree.misfits t path why).1, (agree.misfits t path why).0);
}

module _ {a b : Language} (agree : Agree a b) where
  pub block_shown : {form : TreeForm} {block answer : List ℕ} → ShowsBlock form a block answer → ShowsBlock form b block answer
  block_shown {form} {block} (shows_tree t text has is e) = shows_tree t text ((agree.trees block t).0 has) is e
  block_shown {form} {block} (shows_place place none at e) =
      shows_place place (λ t has. none t ((agree.trees block t).1 has)) ((agree.places block place).0 at) e

  line_shown : {form : TreeForm} {line answer : List ℕ} → ShowsLine form a line answer → ShowsLine form b line answer
  line_shown (shows_block block spells shows) = shows_block block spells (block_shown shows)
  line_shown (shows_fault fault is e) = shows_fault fault is e

  line_written : {form : TreeForm} {line answer : List ℕ} → WritesLine form a line answer → WritesLine form b line answer
  line_written (writes_block t block read few has e) = writes_block t block read few ((agree.trees block t).0 has) e
  line_written (writes_misfit t path why read none misses e) =
      writes_misfit t path why read (λ block few has. none block few ((agree.trees block t).1 has)) ((agree.misfits t path why).0 misses) e
  line_written (writes_bad bad) = writes_bad bad

  line_answered : (command : RuleCommand) (line answer : List ℕ) → AnswersLine command a line answer → AnswersLine command b line answer
  line_answered (Show form) line answer shows = line_shown shows
  line_answered (Write form) line answer writes = line_written writes

  answers_joined : (joined : Joined) (answer : List ℕ) → AnswersJoined a joined answer → AnswersJoined b joined answer
  answers_joined (Whole message) answer shows = block_shown shows
  answers_joined (Waiting rti) answer e = e
  answers_joined (Refused why) answer e = e

  line_joined : {before after : List (List ℕ)} {line answer : List ℕ} → SegmentsLine a before line answer after → SegmentsLine b before line answer after
  line_joined {before} {answer = answer} (joins_block block spells whole answers is) =
      joins_block block spells whole (answers_joined (answer_to before (octets_of block)) answer answers) is
  line_joined (no_octets block spells part e is) = no_octets block spells part e is
  line_joined (no_block fault holds e is) = no_block fault holds e is

line_captured : {these those : Entry → Language} → ((entry : Entry) → Agree (these entry) (those entry)) → {line answer : List ℕ} {seen : Option Seen}
    → CaptureLine these line answer seen → CaptureLine those line answer seen
line_captured agree (captures_block entry at block is spells shows sees) =
    captures_block entry at block is spells (block_shown (agree entry) shows) sees
line_captured agree (captures_fault entry at fault is holds e sees) = captures_fault entry at fault is holds e sees
line_captured agree (no_capture none e sees) = no_capture none e sees

-- ---- a rule and its description

pub rules_and_plans : Known → RulesAndPlansAgree
rules_and_plans known text name reading rules d is = record {
  trees = λ bits t. (meant_by known text rules name reading d is bits t, string_of known text rules name reading d is bits t);
  places = known.of_blocks.places rules reading name d (shaped known text rules name reading d is) is.resolved;
  misfits = λ t path why. (
    λ misses. subst (λ (e : DescV). IsMisfit e t path why)
        (known.of_rules.resolved_once rules reading name misses.0 d misses.1 is.resolved) misses.2,
    λ misses. (d, is.resolved, misses),
  );
}

-- the rules of the entries and their descriptions
entries_agree : Known → (rules : RulesV) (reading : Reading) (plans : List DescV) → AreCompiled rules reading all_entries plans
    → (entry : Entry) → Agree (of_rules rules reading entry) (of_plans plans entry)
entries_agree known rules reading plans compiled entry =
    rules_and_plans known catalogue_text (entry_root entry) reading rules _
    (compiled_at reading rules all_entries plans (entry_place entry) entry (record { reading = Received; nodes = [] }) compiled (stands_at entry))

-- ---- jobs

pub plans_do : Known → PlansDoJobs
plans_do known (by_rule command rules name reading) work (text, d, is, same) before line given after =
    let agree = rules_and_plans known text name reading rules d is in
    let P : LineWork → Type 0 =
    λ w. Gives w before line given after ↔ Gives (answering command (of_rule rules name reading)) before line given after in
    subst P (sym same)
    (λ g. (g.0, line_answered (turned agree) command line g.0 g.1, g.2, g.3), λ s. (s.0, line_answered agree command line s.0 s.1, s.2, s.3))
plans_do known migrating work same before line given after =
    let P : LineWork → Type 0 = λ w. Gives w before line given after ↔ Gives renewing before line given after in
    subst P (sym same) (λ g. g, λ g. g)
plans_do known (segmenting rules reading) work (d, is, same) before line given after =
    let agree = rules_and_plans known catalogue_text (entry_root Downlink) reading rules d is in
    let P : LineWork → Type 0 =
    λ w. Gives w before line given after ↔ Gives (joining (of_rules rules reading Downlink)) before line given after in
    subst P (sym same) (λ g. (g.0, line_joined (turned agree) g.1, g.2, g.3), λ s. (s.0, line_joined agree s.1, s.2, s.3))
plans_do known (replaying rules reading watchers) work (plans, are, same) before line given after =
    let agree = entries_agree known rules reading plans are in
    let P : LineWork → Type 0 =
    λ w. Gives w before line given after ↔ Gives (watching (of_rules rules reading)) before line given after in
    subst P (sym same)
    (λ g. (g.0, g.1, line_captured (λ entry. turned (agree entry)) g.2, g.3, g.4), λ s. (s.0, s.1, line_captured agree s.2, s.3, s.4))
