use Rattle.std.proofs.Common.{rules, sym, subst, ◌≡◌, ◌∙◌, ap, map, IsTrue, is_some, refl, length}
use Rattle.csn_command.specs.Command.{IsArgument}
use Rattle.std.proofs.lemmas.List.{length-map}
use Rattle.csn_command.proofs.Words.{four_members, if_none}
use Rattle.csn_command.proofs.command.rule_words.Goals.{in_default-via-then-words-lt4}
use Rattle.csn_command.proofs.command.rule_words.Goals.{in_default-via-else-words-lt4+else-words-lt5}
use Rattle.csn_command.proofs.command.rule_words.Goals.{else-eq-via-then-eq+then-is_argument+else-is_argument-2}
use Rattle.csn_command.proofs.command.rule_words.Goals.{else-eq-via-then-eq+else-is_argument, else-eq-via-else-eq}
use Rattle.csn_command.proofs.command.rule_words.Goals as goal

pub returns-then-is_argument-2-clause-names : goal.returns-then-is_argument-2-clause-names
returns-then-is_argument-2-clause-names g c =
    let words = four_members c.args.words.now _ _ _ _ c.in-len4.len_at_least c.in-len4.len_below c.first-item.is
    c.file-item.is c.name-item.is c.reading-item.is in
    let first : g.W.AsStr.text c.first-item.result ≡ c.args.command.now = search rules in
    record {
      words_are = ap (map g.W.AsStr.text) words ∙ cc (first, c.as_str-file.ensures, c.as_str-name.ensures, c.as_str.ensures, c.in_ok-reading.ensures.named);
      file_fits = c.is_argument.ensures.0 c.if-is_argument.true;
      name_fits = c.is_argument-then-is_argument.ensures.0 c.if-is_argument-2.true;
    }

pub returns-else-eq-clause-none : goal.returns-else-eq-clause-none
returns-else-eq-clause-none g c = λ file name reading row.
    let words = four_members c.args.words.now _ _ _ _ c.in-len4.len_at_least c.in-len4.len_below c.first-item.is
    c.file-item.is c.name-item.is c.reading-item.is in
    let all = sym (ap (map g.W.AsStr.text) words) ∙ row.words_are in
    elim c.else-eq.branch [
      | else-eq-via-then-eq+then-is_argument+else-is_argument-2 w ↦
          let same : name ≡ c.as_str-name.result.now = cc (all, c.as_str-name.ensures) in
          sym w.if-is_argument-2.false ∙ w.is_argument-then-is_argument.ensures.1 (subst IsArgument same row.name_fits)
      | else-eq-via-then-eq+else-is_argument w ↦
          let same : file ≡ c.as_str-file.result.now = cc (all, c.as_str-file.ensures) in
          sym w.if-is_argument.false ∙ w.is_argument.ensures.1 (subst IsArgument same row.file_fits)
      | else-eq-via-else-eq w ↦
          let first : g.W.AsStr.text c.first-item.result ≡ c.args.command.now = cc (all) in
          let yes : IsTrue c.eq.result = search rules in
          sym w.if-eq.false ∙ yes
    ]

pub returns-then-is_argument-2-clause-none : goal.returns-then-is_argument-2-clause-none
returns-then-is_argument-2-clause-none g c = λ file name reading row. refl

pub returns-in_default-clause-none : goal.returns-in_default-clause-none
returns-in_default-clause-none g c = λ file name reading row.
    let four : length c.args.words.now ≡ 4 = sym (length-map c.args.words.now g.W.AsStr.text) ∙ ap length row.words_are in
    elim c.in_default.branch [
      | in_default-via-then-words-lt4 w ↦ absurd (search (rules, four))
      | in_default-via-else-words-lt4+else-words-lt5 w ↦ absurd (search (rules, four))
    ]

pub returns-in_err-reading-clause-names : goal.returns-in_err-reading-clause-names
returns-in_err-reading-clause-names g c = if_none c.from_residual.result _ c.from_residual.ensures

pub returns-in_err-reading-clause-none : goal.returns-in_err-reading-clause-none
returns-in_err-reading-clause-none g c = λ file name reading row.
    let words = four_members c.args.words.now _ _ _ _ c.in-len4.len_at_least c.in-len4.len_below c.first-item.is
    c.file-item.is c.name-item.is c.reading-item.is in
    let all = sym (ap (map g.W.AsStr.text) words) ∙ row.words_are in
    ap is_some c.from_residual.ensures ∙ c.in_err-reading.ensures.none reading (cc (all, c.as_str.ensures))
