-- The fields that an expression sees, and the values that its node sees: the same labels with the same bits.
-- So counts are the same.
use Rattle.std.proofs.Common.{◌≡◌, ℕ, ◌<◌, ◌≤◌, ◌+◌, ◌*◌, Bool, true, false, if◌then◌else◌, List, [], ◌∷◌, ◌==◌, refl}
use Rattle.std.proofs.Common.{sym, ◌∙◌, ap, arith, inl, inr, Option, Some, None}
use Rattle.std.specs.Option.{option_map, option_or}
use Rattle.std.proofs.lemmas.Bool.{cases_Bool, eqb-true, eq-eqb}
use Rattle.csn_desc.specs.declared.node.Count.{Count}
use Rattle.csn_desc.specs.declared.node.Count.TheVariants.{Fixed, Counted}
use Rattle.csn_desc.specs.declared.node.Node.{Node}
use Rattle.csn_desc.specs.declared.reading.Reading.{Reading}
use Rattle.csn_bits.specs.Numbers.{number_of}
use Rattle.csn_desc.specs.Values.{Values, is_named, with_value}
use Rattle.csn_desc.specs.Values as desc
use Rattle.csn_grammar.specs.declared.exponent.Exponent.{Exponent}
use Rattle.csn_grammar.specs.declared.exponent.Exponent.TheVariants.{Any, Number, Linear}
use Rattle.csn_grammar.specs.ExprV.{ExprV}
use Rattle.csn_grammar.specs.Names.{same_name}
use Rattle.csn_grammar.specs.Environment as grammar
use Rattle.csn_grammar.specs.Environment.{Env, label_of, with_label, with_item}
use Rattle.csn_resolve.specs.Seen.{Frame, Seen, seen_in, seen_of, with_labelled}
use Rattle.csn_resolve.specs.Gives.{count_at}

-- the labelled items of one frame have these nodes, which stand before the number `at`; the last value of
-- each node is the bits of its item
abbrev pub FramesAgree : ℕ → Values → grammar.Frame → Frame ℕ → Type 0
FramesAgree at v [] [] = Unit {0}
FramesAgree at v (field ∷ fields) (node ∷ nodes) =
    (field.0 ≡ node.0) × (node.1 < at) × (desc.value_of v node.1 ≡ Some (number_of field.1)) × FramesAgree at v fields nodes
FramesAgree at v _ _ = ⊥

abbrev pub Agree : ℕ → Values → Env → Seen ℕ → Type 0
Agree at v [] [] = Unit {0}
Agree at v (fields ∷ env) (nodes ∷ seen) = FramesAgree at v fields nodes × Agree at v env seen
Agree at v _ _ = ⊥

-- ---- counts

-- a value, where there is a node
abbrev Told : Values → Option ℕ → Option ℕ → Type 0
Told v None value = value ≡ None
Told v (Some i) value = (n : ℕ) × (value ≡ Some n) × (desc.value_of v i ≡ Some n)

told_by :
    (v : Values) (b c : Bool) (i n : ℕ) (other value : Option ℕ) → b ≡ c → desc.value_of v i ≡ Some n → Told v other value
    → Told v (if c then Some i else other) (if b then Some n else value)
told_by v true true i n other value p is told = (n, refl, is)
told_by v false false i n other value p is told = told
told_by v true false i n other value p is told = cc
told_by v false true i n other value p is told = cc

told_in :
    (at : ℕ) (v : Values) (fields : grammar.Frame) (nodes : Frame ℕ) (label : List ℕ)
    → FramesAgree at v fields nodes → Told v (seen_in nodes label) (grammar.value_in fields label)
told_in at v [] [] label a = refl
told_in at v (field ∷ fields) (node ∷ nodes) label a =
    told_by v (same_name field.0 label) (same_name node.0 label) node.1 (number_of field.1) (seen_in nodes label) (grammar.value_in fields label)
    (ap (λ l. same_name l label) a.0) a.2 (told_in at v fields nodes label a.3)
told_in at v [] (node ∷ nodes) label a = absurd a
told_in at v (field ∷ fields) [] label a = absurd a

told_or :
    (v : Values) (first other value later : Option ℕ)
    → Told v first value → Told v other later → Told v (option_or first other) (option_or value later)
told_or v (Some i) other (Some n) later told rest = told
told_or v (Some i) other None later told rest = cc
told_or v None other None later told rest = rest
told_or v None other (Some n) later told rest = cc

told_of :
    (at : ℕ) (v : Values) (env : Env) (seen : Seen ℕ) (label : List ℕ)
    → Agree at v env seen → Told v (seen_of seen label) (grammar.value_of env label)
told_of at v [] [] label a = refl
told_of at v (fields ∷ env) (nodes ∷ seen) label a =
    told_or v (seen_in nodes label) (seen_of seen label) (grammar.value_in fields label) (grammar.value_of env label)
    (told_in at v fields nodes label a.0) (told_of at v env seen label a.1)
told_of at v [] (nodes ∷ seen) label a = absurd a
told_of at v (fields ∷ env) [] label a = absurd a

linear_told :
    (v : Values) (m c : ℕ) (found value : Option ℕ) (count : Count) → Told v found value
    → option_map (λ field. Counted m field c) found ≡ Some count
    → option_map (λ n. m * n + c) value ≡ desc.count_of v count
linear_told v m c None value count told p = cc
linear_told v m c (Some i) value count told p =
    let same : Counted m i c ≡ count = cc in
    ap (λ o. option_map (λ n. m * n + c) o) told.1
    ∙ (sym (ap (λ o. option_map (λ n. m * n + c) o) told.2) ∙ ap (desc.count_of v) same)

-- an exponent and its count are the same number
pub counts_agree :
    (at : ℕ) (v : Values) (env : Env) (seen : Seen ℕ) (k : Exponent) (count : Count)
    → Agree at v env seen → count_at seen k ≡ Some count → grammar.count_of env k ≡ desc.count_of v count
counts_agree at v env seen Any count a p = cc
counts_agree at v env seen (Number n) count a p = let same : Fixed n ≡ count = cc in ap (desc.count_of v) same
counts_agree at v env seen (Linear m label c) count a p =
    linear_told v m c (seen_of seen label) (grammar.value_of env label) count (told_of at v env seen label a) p

-- ---- more nodes, and more values

frames_later :
    (at bt : ℕ) (v : Values) (fields : grammar.Frame) (nodes : Frame ℕ)
    → at ≤ bt → FramesAgree at v fields nodes → FramesAgree bt v fields nodes
frames_later at bt v [] [] le a = tt
frames_later at bt v (field ∷ fields) (node ∷ nodes) le a =
    let below = a.1 in (a.0, omega (arith, below), a.2, frames_later at bt v fields nodes le a.3)
frames_later at bt v [] (node ∷ nodes) le a = absurd a
frames_later at bt v (field ∷ fields) [] le a = absurd a

pub agree_later :
    (at bt : ℕ) (v : Values) (env : Env) (seen : Seen ℕ) → at ≤ bt → Agree at v env seen → Agree bt v env seen
agree_later at bt v [] [] le a = tt
agree_later at bt v (fields ∷ env) (nodes ∷ seen) le a =
    (frames_later at bt v fields nodes le a.0, agree_later at bt v env seen le a.1)
agree_later at bt v [] (nodes ∷ seen) le a = absurd a
agree_later at bt v (fields ∷ env) [] le a = absurd a

other_value : (i j : ℕ) (b : List ℕ) (v : Values) → j < i → desc.value_of ((i, b) ∷ v) j ≡ desc.value_of v j
other_value i j b v below = elim (cases_Bool (i == j)) [
  | inl same ↦ (let is = eqb-true i j same in absurd (omega (arith, is)))
  | inr other ↦ ap (λ t. if t then Some (number_of b) else desc.value_of v j) other
]

frames_kept :
    (at i : ℕ) (b : List ℕ) (v : Values) (fields : grammar.Frame) (nodes : Frame ℕ)
    → at ≤ i → FramesAgree at v fields nodes → FramesAgree at ((i, b) ∷ v) fields nodes
frames_kept at i b v [] [] le a = tt
frames_kept at i b v (field ∷ fields) (node ∷ nodes) le a =
    let below = a.1 in
    (a.0, below, other_value i node.1 b v (omega (arith, below)) ∙ a.2, frames_kept at i b v fields nodes le a.3)
frames_kept at i b v [] (node ∷ nodes) le a = absurd a
frames_kept at i b v (field ∷ fields) [] le a = absurd a

values_kept :
    (at i : ℕ) (b : List ℕ) (v : Values) (env : Env) (seen : Seen ℕ)
    → at ≤ i → Agree at v env seen → Agree at ((i, b) ∷ v) env seen
values_kept at i b v [] [] le a = tt
values_kept at i b v (fields ∷ env) (nodes ∷ seen) le a =
    (frames_kept at i b v fields nodes le a.0, values_kept at i b v env seen le a.1)
values_kept at i b v [] (nodes ∷ seen) le a = absurd a
values_kept at i b v (fields ∷ env) [] le a = absurd a

module _ (all : List Node) where
  -- a value more, of a node that nothing sees, is seen by none
  pub agree_kept :
      (at i : ℕ) (b : List ℕ) (v : Values) (env : Env) (seen : Seen ℕ)
      → at ≤ i → Agree at v env seen → Agree at (with_value all i b v) env seen
  agree_kept at i b v env seen le a = by_test (is_named all i)
    where
      by_test : (named : Bool) → Agree at (if named then (i, b) ∷ v else v) env seen
      by_test true = values_kept at i b v env seen le a
      by_test false = a

  -- behind an item, whose label is that of its node
  pub agree_item :
      (r : Reading) (x : ExprV) (at bt : ℕ) (b : List ℕ) (v : Values) (env : Env) (seen : Seen ℕ) (fields : grammar.Frame) (nodes : Frame ℕ)
      → ((label : List ℕ) → label_of r x ≡ Some label → is_named all at ≡ true) → at < bt → Agree at v (fields ∷ env) (nodes ∷ seen)
      → Agree bt (with_value all at b v) (with_item r x b fields ∷ env) (with_labelled (label_of r x) at nodes ∷ seen)
  agree_item r x at bt b v env seen fields nodes named below a = by_label (label_of r x) refl
    where
      kept : Agree bt (with_value all at b v) (fields ∷ env) (nodes ∷ seen)
      kept =
          agree_later at bt (with_value all at b v) (fields ∷ env) (nodes ∷ seen) (omega arith)
          (agree_kept at at b v (fields ∷ env) (nodes ∷ seen) (omega arith) a)

      own : is_named all at ≡ true → desc.value_of (with_value all at b v) at ≡ Some (number_of b)
      own is = ap (λ t. desc.value_of (if t then (at, b) ∷ v else v) at) is
          ∙ ap (λ t. if t then Some (number_of b) else desc.value_of v at) (eq-eqb at at refl)

      by_label :
          (o : Option (List ℕ)) → label_of r x ≡ o
          → Agree bt (with_value all at b v) (with_label o b fields ∷ env) (with_labelled o at nodes ∷ seen)
      by_label None is = kept
      by_label (Some label) is = ((refl, below, own (named label is), kept.0), kept.1)
