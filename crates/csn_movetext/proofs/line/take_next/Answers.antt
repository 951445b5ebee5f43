use Rattle.std.proofs.Common.{◌≡◌, ℕ, List, [], ◌∷◌, ◌++◌, get_or, take, drop, ap, sym, subst, ◌∙◌}
use Rattle.csn_bits.specs.Feed.{Fed, octets_given}
use Rattle.csn_bits.specs.declared.feed.HexFeed.{HexFeed}
use Rattle.csn_movetext.proofs.LineFacts.{first_taken}
use Rattle.csn_movetext.proofs.line.take_next.Goals as goal

pub returns-in-None-clause-fed : goal.returns-in-None-clause-fed
returns-in-None-clause-fed c = λ line fed.
    let bytes : List ℕ = c.args.bytes.now in
    let taken : take c.take_byte.result.bytes bytes ≡ get_or bytes 0 0 ∷ [] =
    ap (λ n. take n bytes) c.take_byte.ensures.bytes ∙ first_taken bytes c.requires.some in
    let before = subst (λ (f : HexFeed). Fed f line) (sym c.in-None.ensures.none) fed in
    subst (λ l. Fed c.take_byte.new.feed (line ++ l)) (sym taken) (c.take_byte.ensures.fed line before)

pub returns-in-None-clause-given : goal.returns-in-None-clause-given
returns-in-None-clause-given c = λ line fed.
    let bytes : List ℕ = c.args.bytes.now in
    let given : List ℕ = drop c.take_byte.result.from (take c.take_byte.result.to c.take_byte.new.room) in
    let taken : take c.take_byte.result.bytes bytes ≡ get_or bytes 0 0 ∷ [] =
    ap (λ n. take n bytes) c.take_byte.ensures.bytes ∙ first_taken bytes c.requires.some in
    let before = subst (λ (f : HexFeed). Fed f line) (sym c.in-None.ensures.none) fed in
    subst (λ l. octets_given (line ++ l) ≡ octets_given line ++ given) (sym taken) (c.take_byte.ensures.given line before)
