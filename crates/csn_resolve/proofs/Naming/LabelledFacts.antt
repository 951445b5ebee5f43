-- What a labelled item gives: a labelled part, and inside it what stands behind the label. Where that is a
-- field of constant width, of 1 to 16 bits, it is one such node.
use Rattle.std.proofs.Common.{◌≡◌, ℕ, suc, ◌*◌, ◌≤◌, List, [], ◌∷◌, refl, sym, ◌∙◌, ap, subst, arith, Some}
use Rattle.std.specs.Option.{option_map}
use Rattle.csn_desc.specs.declared.reading.Reading.{Reading}
use Rattle.csn_desc.specs.declared.reading.Reading.TheVariants.{Received, Sent}
use Rattle.csn_desc.specs.declared.node.Count.{Count}
use Rattle.csn_desc.specs.declared.node.Count.TheVariants.{Fixed}
use Rattle.csn_desc.specs.declared.node.Node.TheVariants.{Field, Named}
use Rattle.csn_grammar.specs.declared.exponent.Exponent.{Exponent}
use Rattle.csn_grammar.specs.declared.exponent.Exponent.TheVariants.{Any, Number, Linear}
use Rattle.csn_grammar.specs.declared.rules.Rule.{Rule}
use Rattle.csn_grammar.specs.ExprV.{ExprV, expr, seq, sends}
use Rattle.csn_grammar.specs.RulesV.{RulesV}
use Rattle.csn_grammar.specs.Names.{is_built_in}
use Rattle.csn_grammar.specs.Forms.{unit_of, WidthV, width_of}
use Rattle.csn_grammar.specs.Environment.{label_of}
use Rattle.csn_grammar.specs.TailForm.{TailV, tail_of_body}
use Rattle.csn_grammar.proofs.VoidFacts.{no_rule, same_rule}
use Rattle.csn_resolve.specs.Seen.{Seen, inner_of}
use Rattle.csn_resolve.specs.Counts.{Narrow, narrow_field, narrow_name, narrow_group, narrow_received, narrow_sent}
use Rattle.csn_resolve.specs.Gives.{Placed, placed, count_at, Gives, RuleGives, gives_lits, gives_null, gives_bit}
use Rattle.csn_resolve.specs.Gives.{gives_octet, gives_field, gives_rest, gives_spare_bit, gives_spare_low}
use Rattle.csn_resolve.specs.Gives.{gives_padding, gives_seq, gives_choice, gives_only, gives_times, gives_many}
use Rattle.csn_resolve.specs.Gives.{gives_cut, gives_window, gives_labelled, gives_name, gives_group, gives_received}
use Rattle.csn_resolve.specs.Gives.{gives_sent, rule_plain, rule_tail}
use Rattle.csn_resolve.proofs.Basics.Options.{no_none}

-- one field of constant width, of 1 to 16 bits
pub record IsShort (nodes : List Placed) : Type 0 where
  pub unit : ℕ
  pub count : ℕ
  pub place : ℕ
  pub is : nodes ≡ placed (Field unit (Fixed count)) place ∷ []
  pub some : 1 ≤ unit * count
  pub few : unit * count ≤ 16

some_is : {A : Type 0} {a b : A} → Some a ≡ Some b → a ≡ b
some_is e = cc

number_is : {m n : ℕ} → Number m ≡ Number n → m ≡ n
number_is e = cc

not_linear : {m c n : ℕ} {label : List ℕ} → Linear m label c ≡ Number n → ⊥
not_linear e = cc

-- the width of a field with an exponent
power_width :
    (x : ExprV) (unit : ℕ) (k : Exponent) (w : WidthV)
    → option_map (λ unit. record { unit = unit; count = k }) (unit_of x) ≡ Some w → unit_of x ≡ Some unit
    → record { unit = unit; count = k } ≡ w
power_width x unit k w is at = some_is (sym (ap (option_map {U = WidthV} (λ unit. record { unit = unit; count = k })) at) ∙ is)

power_short :
    (seen : Seen ℕ) {unit s : ℕ} {count : Count} {nodes : List Placed} (k : Exponent) (w : WidthV) (n : ℕ)
    → record { unit = unit; count = k } ≡ w → w.count ≡ Number n → 1 ≤ w.unit * n → w.unit * n ≤ 16
    → count_at seen k ≡ Some count → nodes ≡ placed (Field unit count) s ∷ [] → IsShort nodes
power_short seen Any w n width number low high given p = absurd (cc)
power_short seen (Linear m label c) w n width number low high given p =
    absurd (not_linear (ap (λ z. z.count) width ∙ number))
power_short seen {unit} {s} (Number m) w n width number low high given p =
    let numbers : m ≡ n = number_is (ap (λ z. z.count) width ∙ number) in
    let bits : unit * m ≡ w.unit * n = ap (λ z. z.unit * m) width ∙ ap (λ z. w.unit * z) numbers in
    record {
      unit = unit;
      count = m;
      place = s;
      is = p ∙ ap (λ z. placed (Field unit z) s ∷ []) (sym (some_is given));
      some = omega (arith, bits, low);
      few = omega (arith, bits, high);
    }

not_tail : (n : List ℕ) (x : ExprV) (tail : TailV) (w : WidthV) → tail_of_body n x ≡ Some tail → width_of x ≡ Some w → ⊥
not_tail n (expr s e (seq xs)) tail w p is = cc
not_tail n (expr s e f) tail w p is = cc

module _ (rules : RulesV) (r : Reading) where
  -- a field
  field_short :
      {x : ExprV} {at : ℕ} {seen : Seen ℕ} {nodes : List Placed} (w : WidthV) (n : ℕ)
      → width_of x ≡ Some w → w.count ≡ Number n → 1 ≤ w.unit * n → w.unit * n ≤ 16
      → Gives rules r x at seen nodes → IsShort nodes
  field_short w n is number low high (gives_bit {s = s} p) =
      record { unit = 1; count = 1; place = s; is = p; some = omega arith; few = omega arith }
  field_short w n is number low high (gives_octet {s = s} p) =
      record { unit = 8; count = 1; place = s; is = p; some = omega arith; few = omega arith }
  field_short w n is number low high (gives_field {k = Any} unit count at given p) = absurd (no_none is refl)
  field_short {seen = seen} w n is number low high (gives_field {x = x} {k = Number m} unit count at given p) =
      power_short seen (Number m) w n (power_width x unit (Number m) w is at) number low high given p
  field_short {seen = seen} w n is number low high (gives_field {x = x} {k = Linear m label c} unit count at given p) =
      power_short seen (Linear m label c) w n (power_width x unit (Linear m label c) w is at) number low high given p
  field_short w n is number low high (gives_times {k = Any} count none given h p) = absurd (no_none is refl)
  field_short w n is number low high (gives_times {k = Number m} count none given h p) =
      absurd (no_none is (ap (option_map {U = WidthV} (λ unit. record { unit = unit; count = Number m })) none))
  field_short w n is number low high (gives_times {k = Linear m label c} count none given h p) =
      absurd (no_none is (ap (option_map {U = WidthV} (λ unit. record { unit = unit; count = Linear m label c })) none))
  field_short w n is number low high (gives_lits p) = absurd (no_none is refl)
  field_short w n is number low high (gives_null p) = absurd (no_none is refl)
  field_short w n is number low high (gives_rest one p) = absurd (no_none is refl)
  field_short w n is number low high (gives_spare_bit named p) = absurd (no_none is refl)
  field_short w n is number low high (gives_spare_low named p) = absurd (no_none is refl)
  field_short w n is number low high (gives_padding named p) = absurd (no_none is refl)
  field_short w n is number low high (gives_seq h p) = absurd (no_none is refl)
  field_short w n is number low high (gives_choice xs kept two h p) = absurd (no_none is refl)
  field_short w n is number low high (gives_only kept h) = absurd (no_none is refl)
  field_short w n is number low high (gives_many other h p) = absurd (no_none is refl)
  field_short w n is number low high (gives_cut h p) = absurd (no_none is refl)
  field_short w n is number low high (gives_window v count window given h p) = absurd (no_none is refl)
  field_short w n is number low high (gives_labelled h p) = absurd (no_none is refl)
  field_short w n is number low high (gives_name rule at h) = absurd (no_none is refl)
  field_short w n is number low high (gives_group h) = absurd (no_none is refl)
  field_short w n is number low high (gives_received taken h) = absurd (no_none is refl)
  field_short w n is number low high (gives_sent taken h) = absurd (no_none is refl)

  tail_wide : (n : List ℕ) (x : ExprV) (tail : TailV) → tail_of_body n x ≡ Some tail → Narrow rules r x → ⊥
  tail_wide n x tail p (narrow_field w m is number low high) = not_tail n x tail w p is
  tail_wide n x tail p (narrow_name rule at h) = cc
  tail_wide n x tail p (narrow_group h) = cc
  tail_wide n x tail p (narrow_received taken h) = cc
  tail_wide n x tail p (narrow_sent taken h) = cc

  -- a rule whose body is narrow is not in tail form
  plain_gives :
      {rule : Rule} {at : ℕ} {seen : Seen ℕ} {nodes : List Placed}
      → Narrow rules r rule.body → RuleGives rules r rule at seen nodes → Gives rules r rule.body at seen nodes
  plain_gives narrow (rule_plain is h) = h
  plain_gives {rule} narrow (rule_tail tail many stop parts turn_parts items turn is i many_is t stop_is p) =
      absurd (tail_wide rule.name rule.body tail is narrow)

  pub narrow_short :
      {x : ExprV} {at : ℕ} {seen : Seen ℕ} {nodes : List Placed}
      → Narrow rules r x → Gives rules r x at seen nodes → IsShort nodes
  narrow_short (narrow_field w n is number low high) g = field_short w n is number low high g
  narrow_short (narrow_name {n = n} rule at h) (gives_spare_bit is p) = absurd (no_rule rules n rule (ap is_built_in is) at)
  narrow_short (narrow_name {n = n} rule at h) (gives_spare_low is p) = absurd (no_rule rules n rule (ap is_built_in is) at)
  narrow_short (narrow_name {n = n} rule at h) (gives_padding is p) = absurd (no_rule rules n rule (ap is_built_in is) at)
  narrow_short {at = at} {seen = seen} {nodes = nodes} (narrow_name {n = n} rule found h) (gives_name other found' g) =
      let P : Rule → Type 0 = λ z. RuleGives rules r z at seen nodes in
      narrow_short h (plain_gives h (subst P (same_rule rules n found' found) g))
  narrow_short (narrow_group h) (gives_group g) = narrow_short h g
  narrow_short (narrow_received is h) (gives_received is' g) = narrow_short h g
  narrow_short (narrow_received is h) (gives_sent is' g) = absurd (cc)
  narrow_short (narrow_sent is h) (gives_received is' g) = absurd (cc)
  narrow_short (narrow_sent is h) (gives_sent is' g) = narrow_short h g

-- ---- labels

received_side :
    (q : Reading) (s e : ℕ) (x y : ExprV) → q ≡ Received
    → (label_of q (expr s e (sends x y)) ≡ label_of q x) × (inner_of q (expr s e (sends x y)) ≡ inner_of q x)
received_side Received s e x y is = (refl, refl)
received_side Sent s e x y is = absurd (cc)

sent_side :
    (q : Reading) (s e : ℕ) (x y : ExprV) → q ≡ Sent
    → (label_of q (expr s e (sends x y)) ≡ label_of q y) × (inner_of q (expr s e (sends x y)) ≡ inner_of q y)
sent_side Received s e x y is = absurd (cc)
sent_side Sent s e x y is = (refl, refl)

module _ (rules : RulesV) (r : Reading) where
  -- the nodes are a labelled part, and inside it is what y gives
  pub record IsLabelled (y : ExprV) (at : ℕ) (seen : Seen ℕ) (nodes : List Placed) : Type 0 where
    pub label : List ℕ
    pub place : ℕ
    pub inner : List Placed
    pub is : nodes ≡ placed (Named label (suc at)) place ∷ inner
    pub given : Gives rules r y (suc at) seen inner

  labelled_along :
      {y z : ExprV} {at : ℕ} {seen : Seen ℕ} {nodes : List Placed}
      → y ≡ z → IsLabelled y at seen nodes → IsLabelled z at seen nodes
  labelled_along {at = at} {seen = seen} {nodes = nodes} p h =
      let P : ExprV → Type 0 = λ z. IsLabelled z at seen nodes in subst P p h

  pub item_labelled :
      {x : ExprV} {at : ℕ} {seen : Seen ℕ} {nodes : List Placed} (label : List ℕ)
      → label_of r x ≡ Some label → Gives rules r x at seen nodes → IsLabelled (inner_of r x) at seen nodes
  item_labelled label has (gives_labelled {s = s} {label = other} {inner = inner} h p) =
      record { label = other; place = s; inner = inner; is = p; given = h }
  item_labelled label has (gives_received {s = s} {e = e} {x = x} {y = y} is h) =
      let side = received_side r s e x y is in
      labelled_along (sym side.1) (item_labelled label (sym side.0 ∙ has) h)
  item_labelled label has (gives_sent {s = s} {e = e} {x = x} {y = y} is h) =
      let side = sent_side r s e x y is in
      labelled_along (sym side.1) (item_labelled label (sym side.0 ∙ has) h)
  item_labelled label has (gives_lits p) = absurd (no_none has refl)
  item_labelled label has (gives_null p) = absurd (no_none has refl)
  item_labelled label has (gives_bit p) = absurd (no_none has refl)
  item_labelled label has (gives_octet p) = absurd (no_none has refl)
  item_labelled label has (gives_field unit count at given p) = absurd (no_none has refl)
  item_labelled label has (gives_rest one p) = absurd (no_none has refl)
  item_labelled label has (gives_spare_bit named p) = absurd (no_none has refl)
  item_labelled label has (gives_spare_low named p) = absurd (no_none has refl)
  item_labelled label has (gives_padding named p) = absurd (no_none has refl)
  item_labelled label has (gives_seq h p) = absurd (no_none has refl)
  item_labelled label has (gives_choice xs kept two h p) = absurd (no_none has refl)
  item_labelled label has (gives_only kept h) = absurd (no_none has refl)
  item_labelled label has (gives_times count none given h p) = absurd (no_none has refl)
  item_labelled label has (gives_many other h p) = absurd (no_none has refl)
  item_labelled label has (gives_cut h p) = absurd (no_none has refl)
  item_labelled label has (gives_window v count window given h p) = absurd (no_none has refl)
  item_labelled label has (gives_name rule at h) = absurd (no_none has refl)
  item_labelled label has (gives_group h) = absurd (no_none has refl)
