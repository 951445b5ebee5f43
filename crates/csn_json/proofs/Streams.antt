-- Values, arrays and objects that are read along their tokens.
use Rattle.std.proofs.Common.{◌≡◌, ℕ, zero, suc, ◌+◌, ◌-◌, ◌<◌, ◌≤◌, Bool, List, [], ◌∷◌, length, Option, Some, None, option_map, option_and_then, refl, sym, ap, ◌∙◌, subst, arith}
use Rattle.std.proofs.Common.{Result, Ok, Err, IfOk, IfErr}
use Rattle.std.specs.Prelude.{IsErrAnd, OnOk, IfSome}
use Rattle.std.proofs.lemmas.Result.{err_from_is_err_and}
use Rattle.json.specs.Token.{Token}
use Rattle.json.specs.Json as json
use Rattle.json.specs.Json.{Parse, items_step, items, members, value, parse_map, after_end_array, read_key}
use Rattle.json.proofs.Grammar.{value_is, value-begin_array, value-begin_object, read_key-shorter, items_end, items_more, members_end, members_more, members_no_key}
use Rattle.serde_json.specs.Data.{Data, null, boolean, number, string, array, object, Num, Items, no_items, item, Members, no_members, put}
use Rattle.json.specs.Lex.{tokens}
use Rattle.serde_json.specs.Read.{max_depth, read, number_of, of_json, of_items, of_members, converted}
use Rattle.csn_json.specs.declared.fault.JsonFault.{JsonFault}
use Rattle.csn_json.specs.declared.fault.JsonFault.TheVariants.{NotJson, NotTree, NoMemory}
use Rattle.csn_json.specs.declared.piece.Piece.{Piece}
use Rattle.csn_json.specs.Pieces.{Stops, Tells, then_item, Takes, TakesItems, TakesMembers, NoValue, NoItems, NoMembers}

-- ---- what is converted

abbrev given : {A : Type 0} → A → Option A → A
given d None = d
given d (Some a) = a

-- what was read and what it becomes
taken_from : {A B : Type 0} (f : A → Option B) (o : Option (A × List Token)) (b : B) (r : List Token) → converted f o ≡ Some (b, r)
    → (a : A) × (o ≡ Some (a, r)) × (f a ≡ Some b)
taken_from f None b r e = absurd (cc)
taken_from {B = B} f (Some p) b r e = by_result (f p.0) refl e
  where
    by_result : (x : Option B) → f p.0 ≡ x → option_map {U = B × List Token} (λ y. (y, p.1)) x ≡ Some (b, r) → (a : _) × (Some p ≡ Some (a, r)) × (f a ≡ Some b)
    by_result None is same = absurd (cc)
    by_result (Some y) is same =
        let both : (y, p.1) ≡ (b, r) = ap (given (y, p.1)) same in
        let one : y ≡ b = ap (λ q. q.0) both in
        let rest : p.1 ≡ r = ap (λ q. q.1) both in
        (p.0, ap (λ s. Some (p.0, s)) rest, is ∙ ap (λ z. Some z) one)

-- what becomes nothing
lost : {A B : Type 0} (f : A → Option B) (a : A) (r : List Token) → converted f (Some (a, r)) ≡ None → f a ≡ None
lost {B = B} f a r e = by_result (f a) refl e
  where
    by_result : (x : Option B) → f a ≡ x → option_map {U = B × List Token} (λ y. (y, r)) x ≡ None → f a ≡ None
    by_result None is same = is
    by_result (Some y) is same = absurd (cc)

mapped : {A B : Type 0} (g : A → B) (r : List Token) (x : Option A) → option_map (λ b. (b, r)) (option_map g x) ≡ parse_map g (option_map (λ a. (a, r)) x)
mapped g r None = refl
mapped g r (Some a) = refl

array_converted : (o : Option (json.Items × List Token)) → converted of_json (parse_map json.array o) ≡ parse_map array (converted of_items o)
array_converted None = refl
array_converted (Some p) = mapped array p.1 (of_items p.0)

object_converted : (o : Option (json.Members × List Token)) → converted of_json (parse_map json.object o) ≡ parse_map object (converted (λ ms. of_members ms no_members) o)
object_converted None = refl
object_converted (Some p) = mapped object p.1 (of_members p.0 no_members)

item_converted : (j : json.Json) (d : Data) → of_json j ≡ Some d → (o : Option (json.Items × List Token))
    → converted of_items (parse_map (json.item j) o) ≡ parse_map (item d) (converted of_items o)
item_converted j d e None = refl
item_converted j d e (Some p) = rw e (mapped (item d) p.1 (of_items p.0))

item_lost : (j : json.Json) → of_json j ≡ None → (o : Option (json.Items × List Token)) → converted of_items (parse_map (json.item j) o) ≡ None
item_lost j e None = refl
item_lost j e (Some p) = rw e refl

member_converted : (k : List ℕ) (j : json.Json) (d : Data) (old : Members) → of_json j ≡ Some d → (o : Option (json.Members × List Token))
    → converted (λ ms. of_members ms old) (parse_map (json.member k j) o) ≡ converted (λ ms. of_members ms (put k d old)) o
member_converted k j d old e None = refl
member_converted k j d old e (Some p) = rw e refl

member_lost : (k : List ℕ) (j : json.Json) (old : Members) → of_json j ≡ None → (o : Option (json.Members × List Token))
    → converted (λ ms. of_members ms old) (parse_map (json.member k j) o) ≡ None
member_lost k j old e None = refl
member_lost k j old e (Some p) = rw e refl

module _ (p : Parse json.Json) where
  item_read : (n : ℕ) (ts r : List Token) (d : Data) → 0 < n → after_end_array ts ≡ None → converted of_json (p ts) ≡ Some (d, r)
      → converted of_items (items p n ts) ≡ parse_map (item d) (converted of_items (items p (n - 1) r))
  item_read n ts r d some going e =
      let j = taken_from of_json (p ts) d r e in
      ap (converted of_items) (items_more p n ts r j.0 some going j.1) ∙ item_converted j.0 d j.2 (items p (n - 1) r)

  no_item : (more : Parse json.Items) (o : Option (json.Json × List Token)) → converted of_json o ≡ None
      → converted of_items (option_and_then (λ q. parse_map (json.item q.0) (more q.1)) o) ≡ None
  no_item more None e = refl
  no_item more (Some q) e = item_lost q.0 (lost of_json q.0 q.1 e) (more q.1)

  item_refused : (n : ℕ) (ts : List Token) → after_end_array ts ≡ None → converted of_json (p ts) ≡ None → converted of_items (items p n ts) ≡ None
  unfolding items
  item_refused zero ts going e = refl
  item_refused (suc n) ts going e = ap (λ o. converted of_items (items_step p (items p n) ts o)) going ∙ no_item (items p n) (p ts) e

  items_over : (n : ℕ) (ts r : List Token) → length ts ≤ n → after_end_array ts ≡ Some r → converted of_items (items p n ts) ≡ Some (no_items, r)
  items_over n ts r enough e = ap (converted of_items) (items_end p n ts r enough e)

  module _ (old : Members) where
    member_read : (n : ℕ) (k : List ℕ) (ts s r : List Token) (d : Data) → 0 < n → read_key ts ≡ Some (Some k, s) → converted of_json (p s) ≡ Some (d, r)
        → converted (λ ms. of_members ms old) (members p n ts) ≡ converted (λ ms. of_members ms (put k d old)) (members p (n - 1) r)
    member_read n k ts s r d some key e =
        let j = taken_from of_json (p s) d r e in
        ap (converted (λ ms. of_members ms old)) (members_more p n k ts s r j.0 some key j.1) ∙ member_converted k j.0 d old j.2 (members p (n - 1) r)

    no_member : (k : List ℕ) (more : Parse json.Members) (o : Option (json.Json × List Token)) → converted of_json o ≡ None
        → converted (λ ms. of_members ms old) (option_and_then (λ q. parse_map (json.member k q.0) (more q.1)) o) ≡ None
    no_member k more None e = refl
    no_member k more (Some q) e = member_lost k q.0 old (lost of_json q.0 q.1 e) (more q.1)

    member_refused : (n : ℕ) (k : List ℕ) (ts s : List Token) → read_key ts ≡ Some (Some k, s) → converted of_json (p s) ≡ None
        → converted (λ ms. of_members ms old) (members p n ts) ≡ None
    unfolding members
    member_refused zero k ts s key e = refl
    member_refused (suc n) k ts s key e = rw key (no_member k (members p n) (p s) e)

    key_refused : (n : ℕ) (ts : List Token) → read_key ts ≡ None → converted (λ ms. of_members ms old) (members p n ts) ≡ None
    key_refused n ts e = ap (converted (λ ms. of_members ms old)) (members_no_key p n ts e)

    members_over : (n : ℕ) (ts r : List Token) → length ts ≤ n → read_key ts ≡ Some (None, r) → converted (λ ms. of_members ms old) (members p n ts) ≡ Some (old, r)
    members_over n ts r enough e = ap (converted (λ ms. of_members ms old)) (members_end p n ts r enough e)

-- ---- a value that opens nothing

string_taken : (depth : ℕ) (s : List ℕ) (ts : List Token) → converted of_json (value depth (Token.string s ∷ ts)) ≡ Some (string s, ts)
string_taken depth s ts = ap (converted of_json) (value_is depth (Token.string s ∷ ts))

pub string_takes : (depth : ℕ) (s : List ℕ) (old ts : List Token) (P : Data → Type 0) → old ≡ Token.string s ∷ ts → P (string s) → Takes depth old ts P
string_takes depth s old ts P is so = subst (λ o. Takes depth o ts P) (sym is) (record { found = string s; taken = string_taken depth s ts; told = so })

pub truth_takes : (depth : ℕ) (b : Bool) (old ts : List Token) (P : Data → Type 0) → old ≡ Token.boolean b ∷ ts → P (boolean b) → Takes depth old ts P
truth_takes depth b old ts P is so =
    subst (λ o. Takes depth o ts P) (sym is)
    (record { found = boolean b; taken = ap (converted of_json) (value_is depth (Token.boolean b ∷ ts)); told = so })

pub null_takes : (depth : ℕ) (old ts : List Token) (P : Data → Type 0) → old ≡ Token.null ∷ ts → P null → Takes depth old ts P
null_takes depth old ts P is so =
    subst (λ o. Takes depth o ts P) (sym is)
    (record { found = null; taken = ap (converted of_json) (value_is depth (Token.null ∷ ts)); told = so })

pub number_takes : (depth : ℕ) (s : List ℕ) (n : Num) (old ts : List Token) (P : Data → Type 0)
    → old ≡ Token.number s ∷ ts → number_of s ≡ Some n → P (number n) → Takes depth old ts P
number_takes depth s n old ts P is of so =
    subst (λ o. Takes depth o ts P) (sym is)
    (record { found = number n; taken = ap (converted of_json) (value_is depth (Token.number s ∷ ts)) ∙ rw of refl; told = so })

pub number_none : (depth : ℕ) (s : List ℕ) (old ts : List Token) → old ≡ Token.number s ∷ ts → number_of s ≡ None → NoValue depth old
number_none depth s old ts is of =
    subst (λ o. NoValue depth o) (sym is) (ap (converted of_json) (value_is depth (Token.number s ∷ ts)) ∙ rw of refl)

pub nothing_none : (depth : ℕ) (old : List Token) → old ≡ [] → NoValue depth old
nothing_none depth old is = subst (λ o. NoValue depth o) (sym is) (ap (converted of_json) (value_is depth []))

pub end_object_none : (depth : ℕ) (old ts : List Token) → old ≡ Token.end_object ∷ ts → NoValue depth old
end_object_none depth old ts is = subst (λ o. NoValue depth o) (sym is) (ap (converted of_json) (value_is depth (Token.end_object ∷ ts)))

pub end_array_none : (depth : ℕ) (old ts : List Token) → old ≡ Token.end_array ∷ ts → NoValue depth old
end_array_none depth old ts is = subst (λ o. NoValue depth o) (sym is) (ap (converted of_json) (value_is depth (Token.end_array ∷ ts)))

pub key_none : (depth : ℕ) (s : List ℕ) (old ts : List Token) → old ≡ Token.key s ∷ ts → NoValue depth old
key_none depth s old ts is = subst (λ o. NoValue depth o) (sym is) (ap (converted of_json) (value_is depth (Token.key s ∷ ts)))

pub bad_none : (depth : ℕ) (old ts : List Token) → old ≡ Token.bad ∷ ts → NoValue depth old
bad_none depth old ts is = subst (λ o. NoValue depth o) (sym is) (ap (converted of_json) (value_is depth (Token.bad ∷ ts)))

-- ---- arrays and objects

pub too_deep_array : (depth : ℕ) (old ts : List Token) → depth ≡ 0 → old ≡ Token.begin_array ∷ ts → NoValue depth old
unfolding value
too_deep_array depth old ts none is = subst (λ o. NoValue depth o) (sym is) (subst (λ n. NoValue n (Token.begin_array ∷ ts)) (sym none) refl)

pub too_deep_object : (depth : ℕ) (old ts : List Token) → depth ≡ 0 → old ≡ Token.begin_object ∷ ts → NoValue depth old
unfolding value
too_deep_object depth old ts none is = subst (λ o. NoValue depth o) (sym is) (subst (λ n. NoValue n (Token.begin_object ∷ ts)) (sym none) refl)

opened_array : (depth : ℕ) (ts : List Token) → 0 < depth
    → converted of_json (value depth (Token.begin_array ∷ ts)) ≡ parse_map array (converted of_items (items (value (depth - 1)) (length ts) ts))
opened_array depth ts some = ap (converted of_json) (value-begin_array depth ts some) ∙ array_converted (items (value (depth - 1)) (length ts) ts)

opened_object : (depth : ℕ) (ts : List Token) → 0 < depth
    → converted of_json (value depth (Token.begin_object ∷ ts))
    ≡ parse_map object (converted (λ ms. of_members ms no_members) (members (value (depth - 1)) (length ts) ts))
opened_object depth ts some = ap (converted of_json) (value-begin_object depth ts some) ∙ object_converted (members (value (depth - 1)) (length ts) ts)

pub array_takes : (depth : ℕ) (old ts new : List Token) (P : Data → Type 0) (Q : Items → Type 0) → 0 < depth → old ≡ Token.begin_array ∷ ts
    → TakesItems (depth - 1) ts new Q → ((values : Items) → Q values → P (array values)) → Takes depth old new P
array_takes depth old ts new P Q some is all so =
    subst (λ o. Takes depth o new P) (sym is)
    (record { found = array all.found; taken = opened_array depth ts some ∙ ap (parse_map array) all.taken; told = so all.found all.told })

pub object_takes : (depth : ℕ) (old ts new : List Token) (P : Data → Type 0) (Q : Members → Type 0) → 0 < depth → old ≡ Token.begin_object ∷ ts
    → TakesMembers (depth - 1) ts new Q → ((all : Members) → Q all → P (object all)) → Takes depth old new P
object_takes depth old ts new P Q some is all so =
    subst (λ o. Takes depth o new P) (sym is)
    (record { found = object all.found; taken = opened_object depth ts some ∙ ap (parse_map object) all.taken; told = so all.found all.told })

pub array_none : (depth : ℕ) (old ts : List Token) → 0 < depth → old ≡ Token.begin_array ∷ ts → NoItems (depth - 1) ts → NoValue depth old
array_none depth old ts some is none = subst (λ o. NoValue depth o) (sym is) (opened_array depth ts some ∙ ap (parse_map array) none)

pub object_none : (depth : ℕ) (old ts : List Token) → 0 < depth → old ≡ Token.begin_object ∷ ts → NoMembers (depth - 1) ts → NoValue depth old
object_none depth old ts some is none = subst (λ o. NoValue depth o) (sym is) (opened_object depth ts some ∙ ap (parse_map object) none)

-- ---- the values of an array, one by one

-- some values, and behind them others
abbrev pub before_items : Items → Items → Items
before_items no_items more = more
before_items (item d ds) more = item d (before_items ds more)

before_then : (ds : Items) (d : Data) (more : Items) → before_items ds (item d more) ≡ before_items (then_item ds d) more
before_then no_items d more = refl
before_then (item e ds) d more = ap (item e) (before_then ds d more)

pub before_none : (ds : Items) → before_items ds no_items ≡ ds
before_none no_items = refl
before_none (item d ds) = ap (item d) (before_none ds)

pub nothing_before : (r : Option (Items × List Token)) → r ≡ parse_map (before_items no_items) r
nothing_before None = refl
nothing_before (Some p) = refl

one_more_before : (ds : Items) (d : Data) (r : Option (Items × List Token)) → parse_map (before_items ds) (parse_map (item d) r) ≡ parse_map (before_items (then_item ds d)) r
one_more_before ds d None = refl
one_more_before ds d (Some p) = ap (λ es. Some (es, p.1)) (before_then ds d p.0)

-- of an array these values are read, and these tokens are left
pub record ItemsSo (depth : ℕ) (first now : List Token) (P : Items → Type 0) : Type 0 where
  pub turns : ℕ
  pub enough : length now ≤ turns
  pub done : Items
  pub same : converted of_items (items (value depth) (length first) first) ≡ parse_map (before_items done) (converted of_items (items (value depth) turns now))
  pub told : P done

pub items_begin : (depth : ℕ) (first : List Token) (P : Items → Type 0) → P no_items → ItemsSo depth first first P
items_begin depth first P so =
    record {
      turns = length first;
      enough = omega arith;
      done = no_items;
      same = nothing_before (converted of_items (items (value depth) (length first) first));
      told = so;
    }

pub items_next : (depth : ℕ) (first now new : List Token) (P Q : Items → Type 0) (R : Data → Type 0) → ItemsSo depth first now P
    → after_end_array now ≡ None → Takes depth now new R → length new < length now
    → ((ds : Items) (d : Data) → P ds → R d → Q (then_item ds d)) → ItemsSo depth first new Q
items_next depth first now new P Q R so going this less step =
    let up = so.enough in
    record {
      turns = so.turns - 1;
      enough = omega (arith, up, less);
      done = then_item so.done this.found;
      same =
          so.same
          ∙ ap (parse_map (before_items so.done)) (item_read (value depth) so.turns now new this.found (omega (arith, up, less)) going this.taken)
          ∙ one_more_before so.done this.found (converted of_items (items (value depth) (so.turns - 1) new));
      told = step so.done this.found so.told this.told;
    }

pub items_stop : (depth : ℕ) (first now : List Token) (P : Items → Type 0) → ItemsSo depth first now P
    → after_end_array now ≡ None → NoValue depth now → NoItems depth first
items_stop depth first now P so going none =
    so.same ∙ ap (parse_map (before_items so.done)) (item_refused (value depth) so.turns now going none)

pub all_items : (depth : ℕ) (first now new : List Token) (P : Items → Type 0) → ItemsSo depth first now P
    → after_end_array now ≡ Some new → TakesItems depth first new P
all_items depth first now new P so over =
    record {
      found = so.done;
      taken =
          so.same ∙ ap (parse_map (before_items so.done)) (items_over (value depth) so.turns now new so.enough over)
          ∙ ap (λ ds. Some (ds, new)) (before_none so.done);
      told = so.told;
    }

-- ---- the members of an object, one by one

pub record MembersSo (depth : ℕ) (first now : List Token) (P : Members → Type 0) : Type 0 where
  pub turns : ℕ
  pub enough : length now ≤ turns
  pub done : Members
  pub same : converted (λ ms. of_members ms no_members) (members (value depth) (length first) first)
      ≡ converted (λ ms. of_members ms done) (members (value depth) turns now)
  pub told : P done

pub members_begin : (depth : ℕ) (first : List Token) (P : Members → Type 0) → P no_members → MembersSo depth first first P
members_begin depth first P so = record { turns = length first; enough = omega arith; done = no_members; same = refl; told = so }

pub members_next : (depth : ℕ) (first now after new : List Token) (key : List ℕ) (P Q : Members → Type 0) (R : Data → Type 0)
    → MembersSo depth first now P → read_key now ≡ Some (Some key, after) → Takes depth after new R → length new < length after
    → ((ms : Members) (d : Data) → P ms → R d → Q (put key d ms)) → MembersSo depth first new Q
members_next depth first now after new key P Q R so named this less step =
    let up = so.enough in
    let shorter = read_key-shorter now (Some key) after named in
    record {
      turns = so.turns - 1;
      enough = omega (arith, up, less, shorter);
      done = put key this.found so.done;
      same = so.same ∙ member_read (value depth) so.done so.turns key now after new this.found (omega (arith, up, less, shorter)) named this.taken;
      told = step so.done this.found so.told this.told;
    }

pub members_stop : (depth : ℕ) (first now after : List Token) (key : List ℕ) (P : Members → Type 0) → MembersSo depth first now P
    → read_key now ≡ Some (Some key, after) → NoValue depth after → NoMembers depth first
members_stop depth first now after key P so named none = so.same ∙ member_refused (value depth) so.done so.turns key now after named none

pub no_key_stop : (depth : ℕ) (first now : List Token) (P : Members → Type 0) → MembersSo depth first now P
    → read_key now ≡ None → NoMembers depth first
no_key_stop depth first now P so none = so.same ∙ key_refused (value depth) so.done so.turns now none

pub all_members : (depth : ℕ) (first now new : List Token) (P : Members → Type 0) → MembersSo depth first now P
    → read_key now ≡ Some (None, new) → TakesMembers depth first new P
all_members depth first now new P so over =
    record {
      found = so.done;
      taken = so.same ∙ members_over (value depth) so.done so.turns now new so.enough over;
      told = so.told;
    }

-- ---- the whole text

abbrev whole : Option (json.Json × List Token) → Option Data
whole o = option_and_then of_json (option_and_then (λ p. json.if_last p.0 p.1) o)

whole_none : (o : Option (json.Json × List Token)) → converted of_json o ≡ None → whole o ≡ None
whole_none None e = refl
whole_none (Some (j, [])) e = lost of_json j [] e
whole_none (Some (j, t ∷ r)) e = refl

-- all tokens are one value
pub one_value_read : (text : List ℕ) (old new : List Token) (P : Data → Type 0) → old ≡ tokens text → Takes max_depth old new P → new ≡ []
    → (d : Data) × (read text ≡ Some d) × P d
one_value_read text old new P is this over =
    let taken : converted of_json (value max_depth (tokens text)) ≡ Some (this.found, []) =
    ap (λ ts. converted of_json (value max_depth ts)) (sym is) ∙ this.taken ∙ ap (λ r. Some (this.found, r)) over in
    let j = taken_from of_json (value max_depth (tokens text)) this.found [] taken in
    (this.found, ap whole j.1 ∙ j.2, this.told)

-- or more stands behind it
pub more_than_one : (text : List ℕ) (old new : List Token) (P : Data → Type 0) (t : Token) (rest : List Token) → old ≡ tokens text
    → Takes max_depth old new P → new ≡ t ∷ rest → read text ≡ None
more_than_one text old new P t rest is this over =
    let taken : converted of_json (value max_depth (tokens text)) ≡ Some (this.found, t ∷ rest) =
    ap (λ ts. converted of_json (value max_depth ts)) (sym is) ∙ this.taken ∙ ap (λ r. Some (this.found, r)) over in
    ap whole (taken_from of_json (value max_depth (tokens text)) this.found (t ∷ rest) taken).1

-- or they begin with none
pub no_value_read : (text : List ℕ) (old : List Token) → old ≡ tokens text → NoValue max_depth old → read text ≡ None
no_value_read text old is none =
    whole_none (value max_depth (tokens text)) (ap (λ ts. converted of_json (value max_depth ts)) (sym is) ∙ none)

-- ---- results

-- what a `?` hands on
pub stopped : {T A B : Type 0} (r : Result T JsonFault) (e : JsonFault) → IsErrAnd r (λ y. y ≡ e) → (A → B) → Stops e A → IfErr r (λ fault. Stops fault B)
stopped {T = T} {A = A} {B = B} r e handed by h =
    let p = err_from_is_err_and r handed in
    let G : Result T JsonFault → Type 0 = λ x. IfErr x (λ fault. Stops fault B) in
    subst G (sym (p.1 ∙ ap (λ z. Err z) p.2)) (weaker e h)
  where
    weaker : (fault : JsonFault) → Stops fault A → Stops fault B
    weaker NotJson x = by x
    weaker NotTree x = x
    weaker NoMemory x = tt

-- where memory alone was wanting
pub memory_stops : {T : Type 0} (B : Type 0) (r : Result T JsonFault) → IfErr r (λ fault. fault ≡ NoMemory) → IfErr r (λ fault. Stops fault B)
memory_stops B (Ok x) only = tt
memory_stops B (Err e) only = subst (λ fault. Stops fault B) (sym only) tt

pub memory_handed : {T : Type 0} (B : Type 0) (r : Result T JsonFault) (e : JsonFault) → IsErrAnd r (λ y. y ≡ e) → e ≡ NoMemory → IfErr r (λ fault. Stops fault B)
memory_handed B r e handed only = stopped r e handed (λ (b : B). b) (subst (λ fault. Stops fault B) (sym only) tt)

abbrev IsNumberPiece : List ℕ → Piece → Type 0
IsNumberPiece s piece = (n : Num) × (number_of s ≡ Some n) × ((round : ℕ) → Tells round piece (number n))

pub number_result : (depth round : ℕ) (s : List ℕ) (old ts : List Token) (r : Result Piece JsonFault) → old ≡ Token.number s ∷ ts
    → IfOk r (IsNumberPiece s) → IfOk r (λ piece. Takes depth old ts (Tells round piece))
number_result depth round s old ts (Ok piece) is told = number_takes depth s told.0 old ts (Tells round piece) is told.1 (told.2 round)
number_result depth round s old ts (Err e) is told = tt

pub number_refused : (depth : ℕ) (s : List ℕ) (old ts : List Token) (r : Result Piece JsonFault) → old ≡ Token.number s ∷ ts
    → IfErr r (λ fault. (fault ≡ NotJson) × (number_of s ≡ None)) → IfErr r (λ fault. Stops fault (NoValue depth old))
number_refused depth s old ts (Ok piece) is told = tt
number_refused depth s old ts (Err e) is told = subst (λ fault. Stops fault (NoValue depth old)) (sym told.0) (number_none depth s old ts is told.1)

pub number_shorter : {T : Type 0} (s : List ℕ) (old ts : List Token) (r : Result T JsonFault) → old ≡ Token.number s ∷ ts → OnOk r (length ts < length old)
number_shorter s old ts (Ok x) is = omega (arith, ap (λ l. length l) is)
number_shorter s old ts (Err e) is = tt

pub ok_shorter : {T : Type 0} (old new : List Token) (r : Result T JsonFault) → length new < length old → OnOk r (length new < length old)
ok_shorter old new (Ok x) less = less
ok_shorter old new (Err e) less = tt

pub object_result : (depth round : ℕ) (old ts new : List Token) (Q : Members → Type 0) (r : Result Piece JsonFault) → 0 < depth → old ≡ Token.begin_object ∷ ts
    → TakesMembers (depth - 1) ts new Q → ((all : Members) → Q all → IfOk r (λ piece. Tells round piece (object all)))
    → IfOk r (λ piece. Takes depth old new (Tells round piece))
object_result depth round old ts new Q (Ok piece) some is all so = object_takes depth old ts new (Tells round piece) Q some is all so
object_result depth round old ts new Q (Err e) some is all so = tt

pub some_so : {A : Type 0} (o : Option A) (P Q : A → Type 0) → ((x : A) → P x → Q x) → IfSome o P → IfSome o Q
some_so None P Q step has = tt
some_so (Some x) P Q step has = step x has

pub ok_so : {T : Type 0} (r : Result T JsonFault) (P Q : T → Type 0) → ((x : T) → P x → Q x) → IfOk r P → IfOk r Q
ok_so (Ok x) P Q step has = step x has
ok_so (Err e) P Q step has = tt
