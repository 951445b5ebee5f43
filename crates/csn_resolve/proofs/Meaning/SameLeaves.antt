-- An expression and a node that mean the same bits with the same trees, and follow the same bits: literals,
-- fields and spare parts.
use Rattle.std.proofs.Common.{◌≡◌, ◌↔◌, ℕ, ◌*◌, Bool, true, false, ◌||◌, List, [], ◌++◌, append-nil, refl, sym, ◌∙◌}
use Rattle.std.proofs.Common.{ap, subst, arith, codes, Some, None, IsTrue}
use Rattle.std.specs.Prelude.{slice_get}
use Rattle.csn_desc.specs.declared.reading.Reading.{Reading}
use Rattle.csn_desc.specs.declared.symbol.Symbol.{Symbol}
use Rattle.csn_desc.specs.declared.symbol.Symbol.TheVariants as symbol
use Rattle.csn_desc.specs.declared.node.Count.{Count}
use Rattle.csn_desc.specs.declared.node.Count.TheVariants.{Fixed}
use Rattle.csn_desc.specs.declared.node.Node.{Node}
use Rattle.csn_desc.specs.declared.node.Node.TheVariants.{Lits, Spare, Pad, Null, Field, Rest}
use Rattle.csn_desc.specs.TreeV.{TreeV}
use Rattle.csn_desc.specs.Nodes.{DescV}
use Rattle.csn_desc.specs.Spelled.{IsSpare}
use Rattle.csn_desc.specs.Values.{Values}
use Rattle.csn_desc.specs.Values as values
use Rattle.csn_desc.specs.Means.{NMeans, NodeMeans, means_at}
use Rattle.csn_desc.specs.Means as node
use Rattle.csn_desc.specs.Follows.{NFollow, NodeFollows, follows_at}
use Rattle.csn_desc.specs.Follows as after
use Rattle.csn_grammar.specs.declared.exponent.Exponent.{Exponent}
use Rattle.csn_grammar.specs.declared.exponent.Exponent.TheVariants.{Any, Number, Linear}
use Rattle.csn_grammar.specs.ExprV.{ExprV, expr, FormV, lits, null, bit, octet, name, power}
use Rattle.csn_grammar.specs.RulesV.{RulesV}
use Rattle.csn_grammar.specs.Names.{same_name, is_built_in}
use Rattle.csn_grammar.specs.Forms.{unit_of, is_bit, is_spare_name, is_leaf}
use Rattle.csn_grammar.specs.Environment.{Env, count_of}
use Rattle.csn_grammar.specs.Meaning.{Means, means_lits, means_null, means_bit, means_octet, means_field, means_rest}
use Rattle.csn_grammar.specs.Meaning.{means_spare_bit, means_spare_low, means_padding, means_times, means_many}
use Rattle.csn_grammar.specs.Meaning.{means_name}
use Rattle.csn_grammar.specs.Follow.{Follow, follows_whole, follows_leaf, follows_seq, follows_choice, follows_times}
use Rattle.csn_grammar.specs.Follow.{follows_many, follows_cut, follows_window, follows_labelled, follows_name}
use Rattle.csn_grammar.specs.Follow.{follows_group, follows_received, follows_sent}
use Rattle.csn_grammar.proofs.VoidFacts.{no_rule}
use Rattle.csn_grammar.proofs.Prefixes.{spare_bit_name, spare_low_name, padding_name}
use Rattle.csn_resolve.specs.Seen.{Seen}
use Rattle.csn_resolve.specs.Gives.{count_at}

-- a name that is a spare part is built in
spare_or : (a b c e : Bool) → ((a || b) || c) ≡ true → (a || (b || (c || (e || false)))) ≡ true
spare_or true b c e p = refl
spare_or false true c e p = refl
spare_or false false true e p = refl
spare_or false false false e p = cc

pub spare_built : (n : List ℕ) → is_spare_name n ≡ true → is_built_in n ≡ true
spare_built n p =
    spare_or (same_name (codes "spare bit") n) (same_name (codes "spare L") n) (same_name (codes "spare padding") n) (same_name (codes "no string") n) p

-- what has no unit is no field
pub no_field : (s e : ℕ) (x : ExprV) (k : Exponent) → unit_of x ≡ None → is_leaf (expr s e (power x k)) ≡ true → ⊥
no_field s e x Any none leaf = cc
no_field s e x (Number n) none leaf = let other : is_leaf (expr s e (power x (Number n))) ≡ false = rw none refl in cc
no_field s e x (Linear m label c) none leaf = let other : is_leaf (expr s e (power x (Linear m label c))) ≡ false = rw none refl in cc

-- a part with a unit, and a count, is a field
field_leaf : (s e unit : ℕ) (x : ExprV) (k : Exponent) (seen : Seen ℕ) (count : Count)
    → unit_of x ≡ Some unit → count_at seen k ≡ Some count → is_leaf (expr s e (power x k)) ≡ true
field_leaf s e unit x Any seen count is counted = cc
field_leaf s e unit x (Number n) seen count is counted = rw is refl
field_leaf s e unit x (Linear m label c) seen count is counted = rw is refl

module _ (rules : RulesV) (r : Reading) (d : DescV) where
  -- the expression x, which sees the fields env, and the node i, which sees the values v
  pub record Same (x : ExprV) (i : ℕ) (env : Env) (v : Values) : Type 0 where
    pub means : (o : ℕ) (b : List ℕ) (t : TreeV) → Means rules r x o env b t ↔ NMeans d i o v b t
    pub follows : (o : ℕ) (b : List ℕ) → Follow rules r x o env b ↔ NFollow d i o v b

  -- ---- what stands at a node

  pub meant_at :
      {i o : ℕ} {n : Node} {v : Values} {b : List ℕ} {t : TreeV}
      → slice_get d.nodes i ≡ Some n → NMeans d i o v b t → NodeMeans d n o v b t
  meant_at {o = o} {n = n} {v = v} {b = b} {t = t} at (means_at m is h) =
      let P : Node → Type 0 = λ z. NodeMeans d z o v b t in let same : m ≡ n = cc in subst P same h

  pub followed_at :
      {i o : ℕ} {n : Node} {v : Values} {b : List ℕ}
      → slice_get d.nodes i ≡ Some n → NFollow d i o v b → NodeFollows d n o v b
  followed_at {o = o} {n = n} {v = v} {b = b} at (follows_at m is h) =
      let P : Node → Type 0 = λ z. NodeFollows d z o v b in let same : m ≡ n = cc in subst P same h

  -- an expression and a node as soon as what stands there means and follows the same
  pub node_same :
      {x : ExprV} {i : ℕ} {env : Env} {v : Values} (n : Node) → slice_get d.nodes i ≡ Some n
      → ((o : ℕ) (b : List ℕ) (t : TreeV) → Means rules r x o env b t ↔ NodeMeans d n o v b t)
      → ((o : ℕ) (b : List ℕ) → Follow rules r x o env b ↔ NodeFollows d n o v b) → Same x i env v
  node_same n at means follows = record {
    means = λ o b t. (λ h. means_at n at ((means o b t).0 h), λ h. (means o b t).1 (meant_at at h));
    follows = λ o b. (λ f. follows_at n at ((follows o b).0 f), λ f. (follows o b).1 (followed_at at f));
  }

  -- ---- leaves

  -- bits that are the first few of bits with a tree
  abbrev Begun : ExprV → ℕ → Env → List ℕ → Type 0
  Begun x o env b = (whole : List ℕ) × (rest : List ℕ) × (t : TreeV) × (whole ≡ b ++ rest) × Means rules r x o env whole t

  abbrev NodeBegun : Node → ℕ → Values → List ℕ → Type 0
  NodeBegun n o v b = (whole : List ℕ) × (rest : List ℕ) × (t : TreeV) × (whole ≡ b ++ rest) × NodeMeans d n o v whole t

  leaf_begins : {x : ExprV} {o : ℕ} {env : Env} {b : List ℕ} → Follow rules r x o env b → is_leaf x ≡ true → Begun x o env b
  leaf_begins {b = b} (follows_whole t h) leaf = (b, [], t, sym (append-nil b), h)
  leaf_begins (follows_leaf {t = t} whole rest is cut h) leaf = (whole, rest, t, cut, h)
  leaf_begins (follows_seq full h) leaf = cc
  leaf_begins (follows_choice xs j kept at h) leaf = cc
  leaf_begins (follows_times {s = s} {e = e} {x = x} {k = k} n none count h) leaf = absurd (no_field s e x k none leaf)
  leaf_begins (follows_many is h) leaf = cc
  leaf_begins (follows_cut h) leaf = cc
  leaf_begins (follows_window w n is count wide h) leaf = cc
  leaf_begins (follows_labelled h) leaf = cc
  leaf_begins (follows_name {n = n} rule at h) leaf = absurd (no_rule rules n rule (spare_built n leaf) at)
  leaf_begins (follows_group h) leaf = cc
  leaf_begins (follows_received is h) leaf = cc
  leaf_begins (follows_sent is h) leaf = cc

  leaf_same :
      {x : ExprV} {i : ℕ} {env : Env} {v : Values} (n : Node) → slice_get d.nodes i ≡ Some n → is_leaf x ≡ true
      → ((o : ℕ) (b : List ℕ) (t : TreeV) → Means rules r x o env b t ↔ NodeMeans d n o v b t)
      → ((o : ℕ) (b : List ℕ) → NodeBegun n o v b ↔ NodeFollows d n o v b) → Same x i env v
  leaf_same n at leaf means begun = node_same n at means (λ o b. (
    λ f. (let g = leaf_begins f leaf in (begun o b).0 (g.0, g.1, g.2, g.3, (means o g.0 g.2).0 g.4)),
    λ f. (let g = (begun o b).1 f in follows_leaf g.0 g.1 leaf g.3 ((means o g.0 g.2).1 g.4)),
  ))

  lits_begins : {run : List Symbol} {o : ℕ} {v : Values} {b : List ℕ} → NodeFollows d (Lits run) o v b → NodeBegun (Lits run) o v b
  lits_begins {b = b} (after.follows_whole t h) = (b, [], t, sym (append-nil b), h)
  lits_begins (after.follows_lits {t = t} whole rest cut h) = (whole, rest, t, cut, h)

  spare_begins : {s : Symbol} {o : ℕ} {v : Values} {b : List ℕ} → NodeFollows d (Spare s) o v b → NodeBegun (Spare s) o v b
  spare_begins {b = b} (after.follows_whole t h) = (b, [], t, sym (append-nil b), h)
  spare_begins (after.follows_spare {t = t} whole rest cut h) = (whole, rest, t, cut, h)

  pad_begins : {o : ℕ} {v : Values} {b : List ℕ} → NodeFollows d Pad o v b → NodeBegun Pad o v b
  pad_begins {b = b} (after.follows_whole t h) = (b, [], t, sym (append-nil b), h)
  pad_begins (after.follows_pad {t = t} whole rest cut h) = (whole, rest, t, cut, h)

  field_begins :
      {unit : ℕ} {count : Count} {o : ℕ} {v : Values} {b : List ℕ}
      → NodeFollows d (Field unit count) o v b → NodeBegun (Field unit count) o v b
  field_begins {b = b} (after.follows_whole t h) = (b, [], t, sym (append-nil b), h)
  field_begins (after.follows_field {t = t} whole rest cut h) = (whole, rest, t, cut, h)

  lits_begun : (run : List Symbol) (v : Values) (o : ℕ) (b : List ℕ) → NodeBegun (Lits run) o v b ↔ NodeFollows d (Lits run) o v b
  lits_begun run v o b = (λ g. after.follows_lits g.0 g.1 g.3 g.4, lits_begins)

  spare_begun : (s : Symbol) (v : Values) (o : ℕ) (b : List ℕ) → NodeBegun (Spare s) o v b ↔ NodeFollows d (Spare s) o v b
  spare_begun s v o b = (λ g. after.follows_spare g.0 g.1 g.3 g.4, spare_begins)

  pad_begun : (v : Values) (o : ℕ) (b : List ℕ) → NodeBegun Pad o v b ↔ NodeFollows d Pad o v b
  pad_begun v o b = (λ g. after.follows_pad g.0 g.1 g.3 g.4, pad_begins)

  field_begun :
      (unit : ℕ) (count : Count) (v : Values) (o : ℕ) (b : List ℕ)
      → NodeBegun (Field unit count) o v b ↔ NodeFollows d (Field unit count) o v b
  field_begun unit count v o b = (λ g. after.follows_field g.0 g.1 g.3 g.4, field_begins)

  -- ---- literals

  lits_to :
      {s e o : ℕ} {run : List Symbol} {env : Env} {v : Values} {b : List ℕ} {t : TreeV}
      → Means rules r (expr s e (lits run)) o env b t → NodeMeans d (Lits run) o v b t
  lits_to (means_lits h) = node.means_lits h

  lits_from :
      {s e o : ℕ} {run : List Symbol} {env : Env} {v : Values} {b : List ℕ} {t : TreeV}
      → NodeMeans d (Lits run) o v b t → Means rules r (expr s e (lits run)) o env b t
  lits_from (node.means_lits h) = means_lits h

  pub lits_same :
      {s e i : ℕ} {run : List Symbol} {env : Env} {v : Values}
      → slice_get d.nodes i ≡ Some (Lits run) → Same (expr s e (lits run)) i env v
  lits_same {run = run} {v = v} at = leaf_same (Lits run) at refl (λ o b t. (lits_to, lits_from)) (lits_begun run v)

  -- ---- fields

  -- one bit or one octet, and how wide it is
  pub data IsUnit : FormV → ℕ → Type 0 where
    is_one_bit : IsUnit bit 1
    is_one_octet : IsUnit octet 8

  unit_leaf : (s e : ℕ) {unit : ℕ} {x : FormV} → IsUnit x unit → is_leaf (expr s e x) ≡ true
  unit_leaf s e is_one_bit = refl
  unit_leaf s e is_one_octet = refl

  unit_to :
      {s e o unit : ℕ} {x : FormV} {env : Env} {v : Values} {b : List ℕ} {t : TreeV}
      → IsUnit x unit → Means rules r (expr s e x) o env b t → NodeMeans d (Field unit (Fixed 1)) o v b t
  unit_to is_one_bit (means_bit one h) = node.means_field 1 refl one h
  unit_to is_one_octet (means_octet eight h) = node.means_field 1 refl eight h

  unit_from :
      {s e o unit : ℕ} {x : FormV} {env : Env} {v : Values} {b : List ℕ} {t : TreeV}
      → IsUnit x unit → NodeMeans d (Field unit (Fixed 1)) o v b t → Means rules r (expr s e x) o env b t
  unit_from is_one_bit (node.means_field n is wide h) = let one : 1 ≡ n = cc in means_bit (omega (arith, wide, one)) h
  unit_from is_one_octet (node.means_field n is wide h) = let one : 1 ≡ n = cc in means_octet (omega (arith, wide, one)) h

  pub unit_same :
      {s e i unit : ℕ} {x : FormV} {env : Env} {v : Values}
      → IsUnit x unit → slice_get d.nodes i ≡ Some (Field unit (Fixed 1)) → Same (expr s e x) i env v
  unit_same {s = s} {e = e} {unit = unit} {v = v} is at =
      leaf_same (Field unit (Fixed 1)) at (unit_leaf s e is) (λ o b t. (unit_to is, unit_from is)) (field_begun unit (Fixed 1) v)

  field_to :
      {s e o : ℕ} {x : ExprV} {k : Exponent} {env : Env} {v : Values} {b : List ℕ} {t : TreeV} (unit : ℕ) (count : Count) (seen : Seen ℕ)
      → unit_of x ≡ Some unit → count_at seen k ≡ Some count → count_of env k ≡ values.count_of v count
      → Means rules r (expr s e (power x k)) o env b t → NodeMeans d (Field unit count) o v b t
  field_to {b = b} unit count seen is counted agree (means_field u n is' number wide h) =
      let same : u ≡ unit = cc in
      node.means_field n (sym agree ∙ number) (wide ∙ ap (λ z. z * n) same) h
  field_to unit count seen is counted agree (means_rest is' h) = cc
  field_to unit count seen is counted agree (means_times n none number h) = cc
  field_to unit count seen is counted agree (means_many none h) = cc

  field_from :
      {s e o : ℕ} {x : ExprV} {k : Exponent} {env : Env} {v : Values} {b : List ℕ} {t : TreeV} (unit : ℕ) (count : Count)
      → unit_of x ≡ Some unit → count_of env k ≡ values.count_of v count
      → NodeMeans d (Field unit count) o v b t → Means rules r (expr s e (power x k)) o env b t
  field_from unit count is agree (node.means_field n number wide h) = means_field unit n is (agree ∙ number) wide h

  pub field_same :
      {s e i : ℕ} {x : ExprV} {k : Exponent} {env : Env} {v : Values} (unit : ℕ) (count : Count) (seen : Seen ℕ)
      → unit_of x ≡ Some unit → count_at seen k ≡ Some count → count_of env k ≡ values.count_of v count
      → slice_get d.nodes i ≡ Some (Field unit count) → Same (expr s e (power x k)) i env v
  field_same {s = s} {e = e} {x = x} {k = k} {v = v} unit count seen is counted agree at =
      leaf_same (Field unit count) at (field_leaf s e unit x k seen count is counted)
      (λ o b t. (field_to unit count seen is counted agree, field_from unit count is agree)) (field_begun unit count v)

  -- ---- spare parts

  module _ (reading : d.reading ≡ r) where
    spare_there : (s : Symbol) (o : ℕ) (b : List ℕ) → IsSpare r s o b → IsSpare d.reading s o b
    spare_there s o b h = let P : Reading → Type 0 = λ z. IsSpare z s o b in subst P (sym reading) h

    spare_here : (s : Symbol) (o : ℕ) (b : List ℕ) → IsSpare d.reading s o b → IsSpare r s o b
    spare_here s o b h = let P : Reading → Type 0 = λ z. IsSpare z s o b in subst P reading h

    -- the name of one spare bit, and its symbol
    pub data IsSpareBit (n : List ℕ) : Symbol → Type 0 where
      spare_zero : n ≡ codes "spare bit" → IsSpareBit n symbol.Zero
      spare_one_low : n ≡ codes "spare L" → IsSpareBit n symbol.Low

    spare_to :
        {s e o : ℕ} {n : List ℕ} {q : Symbol} {env : Env} {v : Values} {b : List ℕ} {t : TreeV} → IsSpareBit n q
        → Means rules r (expr s e (name n)) o env b t → NodeMeans d (Spare q) o v b t
    spare_to (spare_zero is) (means_spare_bit is' one h) = node.means_spare one (spare_there _ _ _ h)
    spare_to (spare_zero is) (means_spare_low is' one h) = cc
    spare_to (spare_zero is) (means_padding is' some h) = cc
    spare_to {n = n} (spare_zero is) (means_name rule at h) = absurd (no_rule rules n rule (ap is_built_in is) at)
    spare_to (spare_one_low is) (means_spare_bit is' one h) = cc
    spare_to (spare_one_low is) (means_spare_low is' one h) = node.means_spare one (spare_there _ _ _ h)
    spare_to (spare_one_low is) (means_padding is' some h) = cc
    spare_to {n = n} (spare_one_low is) (means_name rule at h) = absurd (no_rule rules n rule (ap is_built_in is) at)

    spare_from :
        {s e o : ℕ} {n : List ℕ} {q : Symbol} {env : Env} {v : Values} {b : List ℕ} {t : TreeV} → IsSpareBit n q
        → NodeMeans d (Spare q) o v b t → Means rules r (expr s e (name n)) o env b t
    spare_from (spare_zero is) (node.means_spare one h) = means_spare_bit is one (spare_here _ _ _ h)
    spare_from (spare_one_low is) (node.means_spare one h) = means_spare_low is one (spare_here _ _ _ h)

    spare_named : {n : List ℕ} {q : Symbol} → IsSpareBit n q → is_spare_name n ≡ true
    spare_named {n} (spare_zero is) = spare_bit_name n is
    spare_named {n} (spare_one_low is) = spare_low_name n is

    pub spare_same :
        {s e i : ℕ} {n : List ℕ} {q : Symbol} {env : Env} {v : Values}
        → IsSpareBit n q → slice_get d.nodes i ≡ Some (Spare q) → Same (expr s e (name n)) i env v
    spare_same {q = q} {v = v} is at =
        leaf_same (Spare q) at (spare_named is) (λ o b t. (spare_to is, spare_from is)) (spare_begun q v)

    padding_to :
        {s e o : ℕ} {n : List ℕ} {env : Env} {v : Values} {b : List ℕ} {t : TreeV} → n ≡ codes "spare padding"
        → Means rules r (expr s e (name n)) o env b t → NodeMeans d Pad o v b t
    padding_to is (means_spare_bit is' one h) = cc
    padding_to is (means_spare_low is' one h) = cc
    padding_to is (means_padding is' some h) = node.means_pad some (spare_there _ _ _ h)
    padding_to {n = n} is (means_name rule at h) = absurd (no_rule rules n rule (ap is_built_in is) at)

    padding_from :
        {s e o : ℕ} {n : List ℕ} {env : Env} {v : Values} {b : List ℕ} {t : TreeV} → n ≡ codes "spare padding"
        → NodeMeans d Pad o v b t → Means rules r (expr s e (name n)) o env b t
    padding_from is (node.means_pad some h) = means_padding is some (spare_here _ _ _ h)

    pub padding_same :
        {s e i : ℕ} {n : List ℕ} {env : Env} {v : Values}
        → n ≡ codes "spare padding" → slice_get d.nodes i ≡ Some Pad → Same (expr s e (name n)) i env v
    padding_same {n = n} {v = v} is at =
        leaf_same Pad at (padding_name n is) (λ o b t. (padding_to is, padding_from is)) (pad_begun v)

  -- ---- what is followed by whole strings alone

  null_to :
      {s e o : ℕ} {env : Env} {v : Values} {b : List ℕ} {t : TreeV}
      → Means rules r (expr s e null) o env b t → NodeMeans d Null o v b t
  null_to (means_null h) = node.means_null h

  null_from :
      {s e o : ℕ} {env : Env} {v : Values} {b : List ℕ} {t : TreeV}
      → NodeMeans d Null o v b t → Means rules r (expr s e null) o env b t
  null_from (node.means_null h) = means_null h

  null_follows :
      {s e o : ℕ} {env : Env} {v : Values} {b : List ℕ}
      → Follow rules r (expr s e null) o env b → NodeFollows d Null o v b
  null_follows (follows_whole t h) = after.follows_whole t (null_to h)
  null_follows (follows_leaf whole rest is cut h) = cc

  null_followed :
      {s e o : ℕ} {env : Env} {v : Values} {b : List ℕ}
      → NodeFollows d Null o v b → Follow rules r (expr s e null) o env b
  null_followed (after.follows_whole t h) = follows_whole t (null_from h)

  pub null_same : {s e i : ℕ} {env : Env} {v : Values} → slice_get d.nodes i ≡ Some Null → Same (expr s e null) i env v
  null_same at = node_same Null at (λ o b t. (null_to, null_from)) (λ o b. (null_follows, null_followed))

  rest_to :
      {s e o : ℕ} {x : ExprV} {env : Env} {v : Values} {b : List ℕ} {t : TreeV} → IsTrue (is_bit x)
      → Means rules r (expr s e (power x Any)) o env b t → NodeMeans d Rest o v b t
  rest_to is (means_field unit n is' number wide h) = cc
  rest_to is (means_rest is' h) = node.means_rest h
  rest_to is (means_times n none number h) = cc
  rest_to is (means_many not h) = cc

  rest_from :
      {s e o : ℕ} {x : ExprV} {env : Env} {v : Values} {b : List ℕ} {t : TreeV} → IsTrue (is_bit x)
      → NodeMeans d Rest o v b t → Means rules r (expr s e (power x Any)) o env b t
  rest_from is (node.means_rest h) = means_rest is h

  rest_follows :
      {s e o : ℕ} {x : ExprV} {env : Env} {v : Values} {b : List ℕ} → IsTrue (is_bit x)
      → Follow rules r (expr s e (power x Any)) o env b → NodeFollows d Rest o v b
  rest_follows is (follows_whole t h) = after.follows_whole t (rest_to is h)
  rest_follows is (follows_leaf whole rest leaf cut h) = cc
  rest_follows is (follows_times n none number h) = cc
  rest_follows is (follows_many not h) = cc

  rest_followed :
      {s e o : ℕ} {x : ExprV} {env : Env} {v : Values} {b : List ℕ} → IsTrue (is_bit x)
      → NodeFollows d Rest o v b → Follow rules r (expr s e (power x Any)) o env b
  rest_followed is (after.follows_whole t h) = follows_whole t (rest_from is h)

  pub rest_same :
      {s e i : ℕ} {x : ExprV} {env : Env} {v : Values}
      → IsTrue (is_bit x) → slice_get d.nodes i ≡ Some Rest → Same (expr s e (power x Any)) i env v
  rest_same is at = node_same Rest at (λ o b t. (rest_to is, rest_from is)) (λ o b. (rest_follows is, rest_followed is))
