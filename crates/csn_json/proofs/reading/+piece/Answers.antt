use Rattle.std.proofs.Common.{◌≡◌, ◌+◌, ◌-◌, ◌<◌, ◌≤◌, [], ◌∷◌, length, Some, None, refl, sym, ap, ◌∙◌, subst, arith}
use Rattle.json.specs.Token.{Token}
use Rattle.json.specs.Json.{after_end_array, read_key}
use Rattle.json.specs.Reads.{token_of}
use Rattle.json.proofs.Grammar.{read_key-shorter, after_end_array-shorter}
use Rattle.serde_json.specs.Read.{of_json, converted}
use Rattle.json.specs.Json.{value}
use Rattle.json.proofs.Grammar.{value_is}
use Rattle.csn_json.specs.Pieces.{inside, Stops, Takes, Tells, TellsTree, TellsRow, HasMembers, NoValue, NoItems, NoMembers}
use Rattle.csn_json.proofs.Pieces.{truth_told, row_none}
use Rattle.csn_json.proofs.Streams.{string_takes, truth_takes, null_takes, nothing_none, end_object_none, end_array_none, key_none, bad_none}
use Rattle.csn_json.proofs.Streams.{too_deep_array, too_deep_object, array_takes, array_none, object_none, items_begin, items_next, items_stop, all_items}
use Rattle.csn_json.proofs.Streams.{members_begin, members_next, members_stop, no_key_stop, all_members, stopped, memory_stops, memory_handed}
use Rattle.csn_json.proofs.Streams.{number_result, number_refused, object_result, some_so}
use Rattle.csn_json.proofs.reading.+piece.Goals as goal

-- ---- a value

pub piece-returns-in_default-clause-refused : goal.piece-returns-in_default-clause-refused
piece-returns-in_default-clause-refused t c =
    let empty : c.args.reader.now ≡ [] = grind arith in
    nothing_none c.args.depth c.args.reader.now empty

pub piece-returns-then-depth-eq0-clause-refused : goal.piece-returns-then-depth-eq0-clause-refused
piece-returns-then-depth-eq0-clause-refused t c =
    let first : c.args.reader.now ≡ token_of c.in-Some.token ∷ c.next.new.self = grind arith in
    let none : c.args.depth ≡ 0 = omega arith in
    too_deep_array c.args.depth c.args.reader.now c.next.new.self none (first ∙ ap (λ k. token_of k ∷ c.next.new.self) c.in-BeginArray.is)

pub piece-returns-then-depth-eq0-2-clause-refused : goal.piece-returns-then-depth-eq0-2-clause-refused
piece-returns-then-depth-eq0-2-clause-refused t c =
    let first : c.args.reader.now ≡ token_of c.in-Some.token ∷ c.next.new.self = grind arith in
    let none : c.args.depth ≡ 0 = omega arith in
    too_deep_object c.args.depth c.args.reader.now c.next.new.self none (first ∙ ap (λ k. token_of k ∷ c.next.new.self) c.in-BeginObject.is)

pub piece-returns-in_err-rows-in-BeginArray-clause-refused : goal.piece-returns-in_err-rows-in-BeginArray-clause-refused
piece-returns-in_err-rows-in-BeginArray-clause-refused t c =
    let first : c.args.reader.now ≡ token_of c.in-Some.token ∷ c.next.new.self = grind arith in
    let is = first ∙ ap (λ k. token_of k ∷ c.next.new.self) c.in-BeginArray.is in
    stopped c.from_residual.result c.in_err-rows-in-BeginArray.field-0.0 c.from_residual.ensures.1
    (λ nothing. array_none c.args.depth c.args.reader.now c.next.new.self (omega arith) is nothing) c.in_err-rows-in-BeginArray.ensures.refused

pub piece-returns-in_err-members-in-BeginObject-clause-refused : goal.piece-returns-in_err-members-in-BeginObject-clause-refused
piece-returns-in_err-members-in-BeginObject-clause-refused t c =
    let first : c.args.reader.now ≡ token_of c.in-Some.token ∷ c.next.new.self = grind arith in
    let is = first ∙ ap (λ k. token_of k ∷ c.next.new.self) c.in-BeginObject.is in
    stopped c.from_residual-in_err-members-in-BeginObject.result c.in_err-members-in-BeginObject.field-0.0
    c.from_residual-in_err-members-in-BeginObject.ensures.1
    (λ nothing. object_none c.args.depth c.args.reader.now c.next.new.self (omega arith) is nothing) c.in_err-members-in-BeginObject.ensures.refused

pub piece-returns-in-String-clause-ok : goal.piece-returns-in-String-clause-ok
piece-returns-in-String-clause-ok t c =
    let first : c.args.reader.now ≡ token_of c.in-Some.token ∷ c.next.new.self = grind arith in
    let is : c.args.reader.now ≡ Token.string c.in-String.text.now ∷ c.next.new.self = grind (arith, first) in
    string_takes c.args.depth c.in-String.text.now c.args.reader.now c.next.new.self _ is refl

pub piece-returns-in-Number-clause-ok : goal.piece-returns-in-Number-clause-ok
piece-returns-in-Number-clause-ok t c =
    let first : c.args.reader.now ≡ token_of c.in-Some.token ∷ c.next.new.self = grind arith in
    let is : c.args.reader.now ≡ Token.number c.in-Number.text.now ∷ c.next.new.self = grind (arith, first) in
    number_result c.args.depth c.args.round c.in-Number.text.now c.args.reader.now c.next.new.self c.number_piece.result is c.number_piece.ensures.ok

pub piece-returns-in-Number-clause-refused : goal.piece-returns-in-Number-clause-refused
piece-returns-in-Number-clause-refused t c =
    let first : c.args.reader.now ≡ token_of c.in-Some.token ∷ c.next.new.self = grind arith in
    let is : c.args.reader.now ≡ Token.number c.in-Number.text.now ∷ c.next.new.self = grind (arith, first) in
    number_refused c.args.depth c.in-Number.text.now c.args.reader.now c.next.new.self c.number_piece.result is c.number_piece.ensures.none

pub piece-returns-in-Bool-clause-ok : goal.piece-returns-in-Bool-clause-ok
piece-returns-in-Bool-clause-ok t c =
    let first : c.args.reader.now ≡ token_of c.in-Some.token ∷ c.next.new.self = grind arith in
    let is : c.args.reader.now ≡ Token.boolean c.in-Bool.field-0 ∷ c.next.new.self = grind (arith, first) in
    truth_takes c.args.depth c.in-Bool.field-0 c.args.reader.now c.next.new.self _ is (truth_told c.args.round c.in-Bool.field-0)

pub piece-returns-in-Null-clause-ok : goal.piece-returns-in-Null-clause-ok
piece-returns-in-Null-clause-ok t c =
    let first : c.args.reader.now ≡ token_of c.in-Some.token ∷ c.next.new.self = grind arith in
    let is : c.args.reader.now ≡ Token.null ∷ c.next.new.self = grind (arith, first) in
    null_takes c.args.depth c.args.reader.now c.next.new.self _ is c.null_piece.ensures

pub piece-returns-in-EndObject-clause-refused : goal.piece-returns-in-EndObject-clause-refused
piece-returns-in-EndObject-clause-refused t c =
    let first : c.args.reader.now ≡ token_of c.in-Some.token ∷ c.next.new.self = grind arith in
    let nothing : value c.args.depth c.args.reader.now ≡ None = rw (value_is c.args.depth c.args.reader.now, first) (grind arith) in
    ap (converted of_json) nothing

pub piece-returns-in_ok-rows-in-BeginArray-clause-ok : goal.piece-returns-in_ok-rows-in-BeginArray-clause-ok
piece-returns-in_ok-rows-in-BeginArray-clause-ok t c =
    let first : c.args.reader.now ≡ token_of c.in-Some.token ∷ c.next.new.self = grind arith in
    let is = first ∙ ap (λ k. token_of k ∷ c.next.new.self) c.in-BeginArray.is in
    let rows = c.in_ok-rows-in-BeginArray.rows in
    array_takes c.args.depth c.args.reader.now c.next.new.self c.rows_of.new.reader (Tells c.args.round c.row_piece.result)
    (TellsRow c.inside-inner.result rows) (omega arith) is c.in_ok-rows-in-BeginArray.ensures.ok
    (λ values told. c.row_piece.ensures values (subst (λ n. TellsRow n rows values) c.inside-inner.ensures.value told))

pub piece-returns-in_ok-members-in-BeginObject-clause-ok : goal.piece-returns-in_ok-members-in-BeginObject-clause-ok
piece-returns-in_ok-members-in-BeginObject-clause-ok t c =
    let first : c.args.reader.now ≡ token_of c.in-Some.token ∷ c.next.new.self = grind arith in
    let is = first ∙ ap (λ k. token_of k ∷ c.next.new.self) c.in-BeginObject.is in
    let m = c.in_ok-members-in-BeginObject.members in
    object_result c.args.depth c.args.round c.args.reader.now c.next.new.self c.members_of.new.reader (HasMembers c.inside-inner.result m)
    c.piece.result (omega arith) is c.in_ok-members-in-BeginObject.ensures.ok
    (λ all told. c.piece.ensures.ok all (subst (λ n. HasMembers n m all) c.inside-inner.ensures.value told))

-- ---- the values of an array

pub rows_of-returns-in_err-piece-clause-refused : goal.rows_of-returns-in_err-piece-clause-refused
rows_of-returns-in_err-piece-clause-refused t c =
    let l = c.values in
    let going : (after_end_array l.reader ≡ None) × (c.take_end_array.new.self ≡ l.reader) = grind arith in
    stopped c.from_residual.result c.in_err-piece.field-0.0 c.from_residual.ensures.1
    (λ nothing. items_stop c.args.depth c.args.reader.now l.reader (TellsRow c.args.round l.rows) l.invariant.0 going.0
    (subst (λ o. NoValue c.args.depth o) going.1 nothing)) c.in_err-piece.ensures.refused

pub rows_of-values-preserved : goal.rows_of-values-preserved
rows_of-values-preserved t c =
    let l = c.values in
    let depth = c.args.depth in
    let round = c.args.round in
    let going : (after_end_array l.reader ≡ None) × (c.take_end_array.new.self ≡ l.reader) = grind arith in
    let done = c.in_ok-piece.ensures in
    let r = c.piece.new.reader in
    let told = Tells round c.in_ok-piece.piece in
    let less : length r < length l.reader = subst (λ o. length r < length o) going.1 done.shorter in
    let rows = c.in_ok-rows.rows in
    let n = length c.args.reader.now - length r in (
      items_next depth c.args.reader.now l.reader r (TellsRow round l.rows) (TellsRow round rows) told l.invariant.0 going.0
          (subst (λ o. Takes depth o r told) going.1 done.ok) less
          (λ ds d has this. c.in_ok-rows.ensures.ok round ds d has (c.in_ok-tree.ensures.ok d this)),
      some_so rows (λ m. length m ≤ n) (λ m. length m + length r ≤ length c.args.reader.now) (λ m low. omega (arith, low, less, l.invariant.2))
          (c.in_ok-rows.ensures.one_more n
          (some_so l.rows (λ m. length m + length l.reader ≤ length c.args.reader.now) (λ m. length m < n) (λ m low. omega (arith, low, less)) l.invariant.1)),
      omega (arith, less, l.invariant.2),
    )

pub rows_of-returns-clause-ok : goal.rows_of-returns-clause-ok
rows_of-returns-clause-ok t c =
    let l = c.values in
    let over : after_end_array l.reader ≡ Some c.take_end_array.new.self = grind arith in
    all_items c.args.depth c.args.reader.now l.reader c.take_end_array.new.self (TellsRow c.args.round l.rows) l.invariant.0 over

-- ---- the members of an object

pub members_of-members-init : goal.members_of-members-init
members_of-members-init t c = (
  members_begin c.args.depth c.args.reader.now (HasMembers c.args.round c.new-members.result) (c.new-members.ensures c.args.round),
  omega arith,
)

pub members_of-returns-in_err-key-clause-refused : goal.members_of-returns-in_err-key-clause-refused
members_of-returns-in_err-key-clause-refused t c =
    let l = c.members in
    let refused = c.in_err-key.ensures.refused in
    let nothing = no_key_stop c.args.depth c.args.reader.now l.reader (HasMembers c.args.round l.members) l.invariant.0 refused.1 in
    stopped c.from_residual.result c.in_err-key.field-0.0 c.from_residual.ensures.1 (λ (e : NoMembers c.args.depth c.args.reader.now). e)
    (subst (λ fault. Stops fault (NoMembers c.args.depth c.args.reader.now)) (sym refused.0) nothing)

pub members_of-returns-in_err-piece-clause-refused : goal.members_of-returns-in_err-piece-clause-refused
members_of-returns-in_err-piece-clause-refused t c =
    let l = c.members in
    let key = c.in-Some.key.now in
    let named : read_key l.reader ≡ Some (Some key, c.next_key.new.reader) = grind arith in
    stopped c.from_residual-in_err-piece.result c.in_err-piece.field-0.0 c.from_residual-in_err-piece.ensures.1
    (λ nothing. members_stop c.args.depth c.args.reader.now l.reader c.next_key.new.reader key (HasMembers c.args.round l.members) l.invariant.0 named nothing)
    c.in_err-piece.ensures.refused

pub members_of-members-preserved : goal.members_of-members-preserved
members_of-members-preserved t c =
    let l = c.members in
    let round = c.args.round in
    let key = c.in-Some.key.now in
    let named : read_key l.reader ≡ Some (Some key, c.next_key.new.reader) = grind arith in
    let done = c.in_ok-piece.ensures in
    let shorter = read_key-shorter l.reader (Some key) c.next_key.new.reader named in (
      members_next c.args.depth c.args.reader.now l.reader c.next_key.new.reader c.piece.new.reader key (HasMembers round l.members)
          (HasMembers round c.put.new.self) (Tells round c.in_ok-piece.piece) l.invariant.0 named done.ok done.shorter
          (λ ms d has told. c.in_ok-put.ensures.ok ms d has told),
      omega (arith, l.invariant.1, done.shorter, shorter),
    )

pub members_of-returns-clause-ok : goal.members_of-returns-clause-ok
members_of-returns-clause-ok t c =
    let l = c.members in
    let over : read_key l.reader ≡ Some (None, c.next_key.new.reader) = grind arith in
    all_members c.args.depth c.args.reader.now l.reader c.next_key.new.reader (HasMembers c.args.round l.members) l.invariant.0 over
