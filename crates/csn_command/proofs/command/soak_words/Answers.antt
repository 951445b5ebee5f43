use Rattle.std.proofs.Common.{rules, ◌≡◌, ◌∙◌, ap, map, codes, sym, IsTrue, is_some, refl, arith, length}
use Rattle.std.proofs.lemmas.List.{length-map}
use Rattle.csn_command.proofs.Words.{three_members, if_none}
use Rattle.csn_command.proofs.command.soak_words.Goals as goal

pub returns-then-eq-clause-names : goal.returns-then-eq-clause-names
returns-then-eq-clause-names g c =
    let words = three_members c.args.words.now _ _ _ c.in-len3.len_at_least c.in-len3.len_below c.first-item.is c.entry-item.is c.blocks-item.is in
    let first : g.W.AsStr.text c.first-item.result ≡ codes "soak" = search rules in
    record {
      words_are = ap (map g.W.AsStr.text) words
          ∙ cc (
            first,
            c.as_bytes.ensures.value,
            c.in_ok-entry.ensures.its_word,
            c.as_str.ensures,
            c.as_str-2.ensures,
            c.in_ok-blocks.ensures.told.0,
          );
      some = c.in_ok-blocks.ensures.told.1;
      few = c.in_ok-blocks.ensures.told.2;
    }

pub returns-then-eq-clause-none : goal.returns-then-eq-clause-none
returns-then-eq-clause-none g c = λ entry n row. refl

pub returns-else-eq-clause-none : goal.returns-else-eq-clause-none
returns-else-eq-clause-none g c = λ entry n row.
    let words = three_members c.args.words.now _ _ _ c.in-len3.len_at_least c.in-len3.len_below c.first-item.is c.entry-item.is c.blocks-item.is in
    let all = sym (ap (map g.W.AsStr.text) words) ∙ row.words_are in
    let first : g.W.AsStr.text c.first-item.result ≡ codes "soak" = cc (all) in
    let yes : IsTrue c.eq.result = search rules in
    sym c.if-eq.false ∙ yes

pub returns-in_default-clause-none : goal.returns-in_default-clause-none
returns-in_default-clause-none g c =
    λ entry n row. absurd
    (omega (arith, c.in_default.len_below, ap length row.words_are, length-map c.args.words.now g.W.AsStr.text))

pub returns-in_default-2-clause-none : goal.returns-in_default-2-clause-none
returns-in_default-2-clause-none g c =
    λ entry n row. absurd
    (omega (arith, c.in_default.len_at_least, ap length row.words_are, length-map c.args.words.now g.W.AsStr.text))

pub returns-in_err-entry-clause-names : goal.returns-in_err-entry-clause-names
returns-in_err-entry-clause-names g c = if_none c.from_residual.result _ c.from_residual.ensures

pub returns-in_err-entry-clause-none : goal.returns-in_err-entry-clause-none
returns-in_err-entry-clause-none g c = λ entry n row.
    let words = three_members c.args.words.now _ _ _ c.in-len3.len_at_least c.in-len3.len_below c.first-item.is c.entry-item.is c.blocks-item.is in
    let all = sym (ap (map g.W.AsStr.text) words) ∙ row.words_are in
    ap is_some c.from_residual.ensures ∙ ap is_some (c.in_err-entry.ensures.of_each_word entry (cc (all, c.as_str.ensures, c.as_bytes.ensures.value)))

pub returns-in_err-blocks-clause-names : goal.returns-in_err-blocks-clause-names
returns-in_err-blocks-clause-names g c = if_none c.from_residual-in_err-blocks.result _ c.from_residual-in_err-blocks.ensures

pub returns-in_err-blocks-clause-none : goal.returns-in_err-blocks-clause-none
returns-in_err-blocks-clause-none g c = λ entry n row.
    let words = three_members c.args.words.now _ _ _ c.in-len3.len_at_least c.in-len3.len_below c.first-item.is c.entry-item.is c.blocks-item.is in
    let all = sym (ap (map g.W.AsStr.text) words) ∙ row.words_are in
    ap is_some c.from_residual-in_err-blocks.ensures ∙ c.in_err-blocks.ensures.none n (cc (all, c.as_str-2.ensures)) row.some row.few
