-- The nodes of an expression stand where its origins say.
use Rattle.std.proofs.Common.{◌≡◌, ℕ, zero, suc, ◌+◌, ◌≤◌, Bool, true, false, List, [], ◌∷◌, ◌++◌, length, map}
use Rattle.std.proofs.Common.{Some, None, is_some, codes, refl, sym, ◌∙◌, ap, arith, append-nil}
use Rattle.std.specs.Prelude.{if◌then◌else◌}
use Rattle.std.proofs.lemmas.List.{map-append}
use Rattle.csn_desc.specs.declared.reading.Reading.{Reading}
use Rattle.csn_desc.specs.declared.node.Count.{Count}
use Rattle.csn_desc.specs.declared.node.Node.{Node}
use Rattle.csn_desc.specs.declared.node.Node.TheVariants.{Lits, Seq, Many}
use Rattle.csn_grammar.specs.declared.exponent.Exponent.{Exponent}
use Rattle.csn_grammar.specs.declared.exponent.Exponent.TheVariants.{Any, Number, Linear}
use Rattle.csn_grammar.specs.declared.rules.Rule.{Rule}
use Rattle.csn_grammar.specs.ExprV.{ExprV, expr, seq, choice, cut, sends, ExprsV, no_item, item, BranchesV, no_branch, branch}
use Rattle.csn_grammar.specs.ExprV.{item_list, exprs_of, branch_list, branches_of}
use Rattle.csn_grammar.specs.RulesV.{RulesV}
use Rattle.csn_grammar.specs.Names.{rule_of}
use Rattle.csn_grammar.specs.Forms.{unit_of, width_of, WindowV}
use Rattle.csn_grammar.specs.TailForm.{tail_of}
use Rattle.csn_grammar.specs.Void.{Void, Kept, kept_end, kept_next, kept_void, kept_error}
use Rattle.csn_resolve.specs.Seen.{Frame, Seen}
use Rattle.csn_resolve.specs.Gives.{Placed, placed, count_at, start_of, Gives, ItemsGive, EachGives, RuleGives, gives_lits}
use Rattle.csn_resolve.specs.Gives.{gives_null, gives_bit, gives_octet, gives_field, gives_rest, gives_spare_bit}
use Rattle.csn_resolve.specs.Gives.{gives_spare_low, gives_padding, gives_seq, gives_choice, gives_only, gives_times}
use Rattle.csn_resolve.specs.Gives.{gives_many, gives_cut, gives_window, gives_labelled, gives_name, gives_group}
use Rattle.csn_resolve.specs.Gives.{gives_received, gives_sent, items_end, items_next, each_end, each_next}
use Rattle.csn_resolve.specs.Gives.{rule_plain, rule_tail}
use Rattle.csn_resolve.specs.Made.{QuietAt, AllQuiet, BranchesQuiet, RuleQuiet}
use Rattle.csn_resolve.proofs.Basics.Windows.{Sides, left_wide, right_wide, sides_of}
use Rattle.csn_resolve.proofs.Walking.QuietFacts.{quiet-as, quiet-labelled, quiet-group, quiet-left, quiet-right, quiet-seq}
use Rattle.csn_resolve.proofs.Walking.QuietFacts.{quiet-cut, quiet-choice, quiet-times, quiet-many, quiet-window, quiet-name}
use Rattle.csn_resolve.proofs.Walking.QuietFacts.{quiet-plain, quiet-tail}
use Rattle.csn_places.specs.declared.origin.Origin.{Origin}
use Rattle.csn_places.specs.Origins.{at, is_one_node, choice_origins, is_kept, one_if, kept_in, origins, form_origins}
use Rattle.csn_places.specs.Origins.{items_origins, branches_origins, by_tail, rule_origins, by_rule, named_at}
use Rattle.csn_places.specs.Places.{places_of}

pub exprs_list : (xs : ExprsV) → exprs_of (item_list xs) ≡ xs
exprs_list no_item = refl
exprs_list (item x xs) = ap (item x) (exprs_list xs)

pub branches_list : (bs : BranchesV) → branches_of (branch_list bs) ≡ bs
branches_list no_branch = refl
branches_list (branch error x bs) = ap (branch error x) (branches_list bs)

-- origins stand where nodes do
abbrev pub Stand : List Origin → List Placed → Type 0
Stand os nodes = map (λ o. o.place) os ≡ places_of nodes

stand_as : (os : List Origin) (nodes others : List Placed) → nodes ≡ others → Stand os others → Stand os nodes
stand_as os nodes others p h = h ∙ sym (ap places_of p)

-- two lists that are the same, or two that stand the same
stand_of : (os ps : List Origin) (nodes : List Placed) → os ≡ ps → Stand ps nodes → Stand os nodes
stand_of os ps nodes p h = ap (λ l. map (λ o. o.place) l) p ∙ h

stand_one : (s : ℕ) (round : List ℕ) (n : Node) (nodes : List Placed) → nodes ≡ placed n s ∷ [] → Stand (at s round ∷ []) nodes
stand_one s round n nodes p = sym (ap places_of p)

stand_head :
    (s : ℕ) (round : List ℕ) (n : Node) (os : List Origin) (inner nodes : List Placed)
    → nodes ≡ placed n s ∷ inner → Stand os inner → Stand (at s round ∷ os) nodes
stand_head s round n os inner nodes p h = ap (λ l. s ∷ l) h ∙ sym (ap places_of p)

stand_both : (os ps : List Origin) (nodes more : List Placed) → Stand os nodes → Stand ps more → Stand (os ++ ps) (nodes ++ more)
stand_both os ps nodes more h g =
    map-append (λ (o : Origin). o.place) os ps
    ∙ (ap (λ l. l ++ map (λ o. o.place) ps) h
    ∙ (ap (λ l. places_of nodes ++ l) g ∙ sym (map-append (λ (p : Placed). p.place) nodes more)))

-- ---- fields

field_one :
    (x : ExprV) (k : Exponent) (seen : Seen ℕ) (unit : ℕ) (count : Count)
    → unit_of x ≡ Some unit → count_at seen k ≡ Some count → is_one_node x k ≡ true
field_one x Any seen unit count p q = absurd (cc)
field_one x (Number n) seen unit count p q = ap is_some p
field_one x (Linear m l c) seen unit count p q = ap is_some p

times_one :
    (x : ExprV) (k : Exponent) (seen : Seen ℕ) (count : Count)
    → unit_of x ≡ None → count_at seen k ≡ Some count → is_one_node x k ≡ false
times_one x Any seen count p q = absurd (cc)
times_one x (Number n) seen count p q = ap is_some p
times_one x (Linear m l c) seen count p q = ap is_some p

-- the origins behind a part with an exponent
power_none : (b : Bool) (os : List Origin) → b ≡ true → (if b then [] else os) ≡ []
power_none b os p = ap (λ z. if z then [] else os) p

power_some : (b : Bool) (os : List Origin) → b ≡ false → (if b then [] else os) ≡ os
power_some b os p = ap (λ z. if z then [] else os) p

-- where one alternative is kept the choice has no node, and where more are it has
pub choice_only : (s : ℕ) (round : List ℕ) (kept : ℕ) (os : List Origin) → kept ≡ 1 → choice_origins s round kept os ≡ os
choice_only s round kept os p = ap (λ k. choice_origins s round k os) p

pub choice_not_only :
    (s : ℕ) (round : List ℕ) (kept : ℕ) (os : List Origin) → (kept ≡ 1 → ⊥) → choice_origins s round kept os ≡ at s round ∷ os
choice_not_only s round zero os other = refl
choice_not_only s round (suc zero) os other = absurd (other refl)
choice_not_only s round (suc (suc k)) os other = refl

choice_more :
    (s : ℕ) (round : List ℕ) (kept : ℕ) (os : List Origin) → 2 ≤ kept → choice_origins s round kept os ≡ at s round ∷ os
choice_more s round kept os few = choice_not_only s round kept os (λ p. omega (arith, few, p))

module _ (rules : RulesV) (r : Reading) (void : ExprV → Bool)
    (told : (x : ExprV) → (void x ≡ true → Void rules r x) × (Void rules r x → void x ≡ true)) where
  abbrev Names : ℕ → List ℕ → List ℕ → ℕ → List Origin
  Names left round = named_at rules r void left round

  abbrev Of : ℕ → List ℕ → ExprV → List Origin
  Of left round x = origins r void round (Names left round) x

  -- of expressions one behind the other
  abbrev each_of : ℕ → List ℕ → List ExprV → List Origin
  each_of left round [] = []
  each_of left round (x ∷ xs) = Of left round x ++ each_of left round xs

  abbrev AllQuietIn : ℕ → ExprsV → Type 0
  AllQuietIn k no_item = Unit {0}
  AllQuietIn k (item x xs) = QuietAt rules r k x × AllQuietIn k xs

  quiet_in : (k : ℕ) (xs : ExprsV) → AllQuiet rules r k (item_list xs) → AllQuietIn k xs
  quiet_in k no_item all = tt
  quiet_in k (item x xs) all = (all.0, quiet_in k xs all.1)

  seq_quiet : (k s e : ℕ) (xs : ExprsV) → QuietAt rules r k (expr s e (seq xs)) → AllQuietIn k xs
  seq_quiet k s e xs q =
      quiet_in k xs (quiet-seq rules r (item_list xs) (quiet-as rules r (ap (λ z. expr s e (seq z)) (sym (exprs_list xs))) q))

  cut_quiet : (k s e : ℕ) (xs : ExprsV) → QuietAt rules r k (expr s e (cut xs)) → AllQuietIn k xs
  cut_quiet k s e xs q =
      quiet_in k xs (quiet-cut rules r (item_list xs) (quiet-as rules r (ap (λ z. expr s e (cut z)) (sym (exprs_list xs))) q))

  -- ---- alternatives

  kept_all : (k : ℕ) {bs : BranchesV} {xs : List ExprV} → Kept rules r bs xs → BranchesQuiet rules r k (branch_list bs) → AllQuiet rules r k xs
  kept_all k kept_end all = tt
  kept_all k (kept_next full kept) all = (all.0, kept_all k kept all.1)
  kept_all k (kept_void v kept) all = kept_all k kept all.1
  kept_all k (kept_error kept) all = kept_all k kept all.1

  choice_quiet :
      (k s e : ℕ) (bs : BranchesV) (xs : List ExprV) → Kept rules r bs xs → QuietAt rules r k (expr s e (choice bs)) → AllQuiet rules r k xs
  choice_quiet k s e bs xs kept q =
      kept_all k kept (quiet-choice rules r (branch_list bs) (quiet-as rules r (ap (λ z. expr s e (choice z)) (sym (branches_list bs))) q))

  full_is : (x : ExprV) → ¬ Void rules r x → void x ≡ false
  full_is x full = by (void x) refl
    where
      by : (b : Bool) → void x ≡ b → void x ≡ false
      by true p = absurd (full ((told x).0 p))
      by false p = p

  kept_is : (x : ExprV) → ¬ Void rules r x → is_kept void (record { error = false; body = x }) ≡ true
  kept_is x full = ap (λ b. if b then false else true) (full_is x full)

  void_is : (x : ExprV) → Void rules r x → is_kept void (record { error = false; body = x }) ≡ false
  void_is x v = ap (λ b. if b then false else true) ((told x).1 v)

  kept_number : {bs : BranchesV} {xs : List ExprV} → Kept rules r bs xs → kept_in void bs ≡ length xs
  kept_number kept_end = refl
  kept_number (kept_next {x = x} {bs = bs} full kept) =
      let one : one_if (is_kept void (record { error = false; body = x })) ≡ 1 = ap one_if (kept_is x full) in
      let rest = kept_number kept in omega (arith, one, rest)
  kept_number (kept_void {x = x} {bs = bs} v kept) =
      let none : one_if (is_kept void (record { error = false; body = x })) ≡ 0 = ap one_if (void_is x v) in
      let rest = kept_number kept in omega (arith, none, rest)
  kept_number (kept_error kept) = let rest = kept_number kept in omega (arith, rest)

  kept_origins :
      (left : ℕ) (round : List ℕ) {bs : BranchesV} {xs : List ExprV}
      → Kept rules r bs xs → branches_origins r void round (Names left round) bs ≡ each_of left round xs
  kept_origins left round kept_end = refl
  kept_origins left round (kept_next {x = x} {bs = bs} {xs = xs} full kept) =
      ap (λ b. (if b then Of left round x else []) ++ branches_origins r void round (Names left round) bs) (kept_is x full)
      ∙ ap (λ l. Of left round x ++ l) (kept_origins left round kept)
  kept_origins left round (kept_void {x = x} {bs = bs} v kept) =
      ap (λ b. (if b then Of left round x else []) ++ branches_origins r void round (Names left round) bs) (void_is x v)
      ∙ kept_origins left round kept
  kept_origins left round (kept_error kept) = kept_origins left round kept

  -- ---- windows, sides and names

  window_origins :
      (left : ℕ) (round : List ℕ) {x y : ExprV} {w : WindowV} → Sides x y w
      → (if is_some (width_of x) then Of left round y else Of left round x) ≡ Of left round w.part
  window_origins left round {x} {y} (left_wide wide part) =
      ap (λ o. if is_some o then Of left round y else Of left round x) wide ∙ ap (λ z. Of left round z) part
  window_origins left round {x} {y} (right_wide none wide part) =
      ap (λ o. if is_some o then Of left round y else Of left round x) none ∙ ap (λ z. Of left round z) part

  spare_at : (left : ℕ) (round n : List ℕ) (s : ℕ) → rule_of rules n ≡ None → Names left round n s ≡ at s round ∷ []
  spare_at zero round n s none = ap (λ o. by_rule o (at s round ∷ []) (λ rule. [])) none
  spare_at (suc left) round n s none =
      ap (λ o. by_rule o (at s round ∷ []) (λ rule. rule_origins r void (round ++ s ∷ []) (Names left (round ++ s ∷ [])) rule)) none

  spare_stands :
      (left : ℕ) (round : List ℕ) (s : ℕ) (n : List ℕ) (spare : List ℕ) (node : Node) (nodes : List Placed)
      → n ≡ spare → rule_of rules spare ≡ None → nodes ≡ placed node s ∷ [] → Stand (Names left round n s) nodes
  spare_stands left round s n spare node nodes p none q =
      stand_of (Names left round n s) (at s round ∷ []) nodes (spare_at left round n s (ap (rule_of rules) p ∙ none)) (stand_one s round node nodes q)

  name_at :
      (left : ℕ) (round n : List ℕ) (s : ℕ) (rule : Rule) → rule_of rules n ≡ Some rule
      → Names (suc left) round n s ≡ rule_origins r void (round ++ s ∷ []) (Names left (round ++ s ∷ [])) rule
  name_at left round n s rule is =
      ap (λ o. by_rule o (at s round ∷ []) (λ rule. rule_origins r void (round ++ s ∷ []) (Names left (round ++ s ∷ [])) rule)) is

  -- ---- all forms

  mutual
    given :
        {x : ExprV} {i : ℕ} {seen : Seen ℕ} {nodes : List Placed} → Gives rules r x i seen nodes
        → (k left : ℕ) (round : List ℕ) → 64 ≤ k + left → QuietAt rules r k x → Stand (Of left round x) nodes
    given (gives_lits {s = s} {nodes = nodes} p) k left round few q = stand_one s round _ nodes p
    given (gives_null {s = s} {nodes = nodes} p) k left round few q = stand_one s round _ nodes p
    given (gives_bit {s = s} {nodes = nodes} p) k left round few q = stand_one s round _ nodes p
    given (gives_octet {s = s} {nodes = nodes} p) k left round few q = stand_one s round _ nodes p
    given (gives_field {s = s} {x = x} {k = e} {seen = seen} {nodes = nodes} unit count is c p) k left round few q =
        stand_of _ (at s round ∷ []) nodes (ap (λ l. at s round ∷ l) (power_none (is_one_node x e) (Of left round x) (field_one x e seen unit count is c)))
        (stand_one s round _ nodes p)
    given (gives_rest {s = s} {x = x} {nodes = nodes} is p) k left round few q =
        stand_of _ (at s round ∷ []) nodes (ap (λ l. at s round ∷ l) (power_none (is_one_node x Any) (Of left round x) is)) (stand_one s round _ nodes p)
    given (gives_spare_bit {s = s} {n = n} {nodes = nodes} is p) k left round few q =
        spare_stands left round s n (codes "spare bit") _ nodes is refl p
    given (gives_spare_low {s = s} {n = n} {nodes = nodes} is p) k left round few q =
        spare_stands left round s n (codes "spare L") _ nodes is refl p
    given (gives_padding {s = s} {n = n} {nodes = nodes} is p) k left round few q =
        spare_stands left round s n (codes "spare padding") _ nodes is refl p
    given (gives_seq {s = s} {e = e} {xs = xs} {nodes = nodes} {inner = inner} g p) k left round few q =
        stand_head s round _ _ inner nodes p (items_given g k left round few (seq_quiet k s e xs q))
    given (gives_choice {s = s} {e = e} {bs = bs} {nodes = nodes} {inner = inner} xs kept two g p) k left round few q =
        let number = kept_number kept in
        let many : 2 ≤ kept_in void bs = omega (arith, number, two) in
        let all = each_given g k left round few (choice_quiet k s e bs xs kept q) in
        stand_of _ (at s round ∷ each_of left round xs) nodes
        (choice_more s round (kept_in void bs) (branches_origins r void round (Names left round) bs) many
        ∙ ap (λ l. at s round ∷ l) (kept_origins left round kept))
        (stand_head s round _ _ inner nodes p all)
    given (gives_only {s = s} {e = e} {bs = bs} {x = x} {nodes = nodes} kept g) k left round few q =
        let first = given g k left round few (choice_quiet k s e bs (x ∷ []) kept q).0 in
        stand_of _ (Of left round x) nodes
        (choice_only s round (kept_in void bs) (branches_origins r void round (Names left round) bs) (kept_number kept)
        ∙ (kept_origins left round kept ∙ append-nil (Of left round x)))
        first
    given (gives_times {s = s} {x = x} {k = e} {seen = seen} {nodes = nodes} {inner = inner} count none c g p) k left round few q =
        let part = given g k left round few (quiet-times rules r seen none c q) in
        stand_of _ (at s round ∷ Of left round x) nodes
        (ap (λ l. at s round ∷ l) (power_some (is_one_node x e) (Of left round x) (times_one x e seen count none c)))
        (stand_head s round _ _ inner nodes p part)
    given (gives_many {s = s} {x = x} {nodes = nodes} {inner = inner} not g p) k left round few q =
        let part = given g k left round few (quiet-many rules r not q) in
        stand_of _ (at s round ∷ Of left round x) nodes
        (ap (λ l. at s round ∷ l) (power_some (is_one_node x Any) (Of left round x) not))
        (stand_head s round _ _ inner nodes p part)
    given (gives_cut {s = s} {e = e} {xs = xs} {nodes = nodes} {inner = inner} g p) k left round few q =
        stand_head s round _ _ inner nodes p (items_given g k left round few (cut_quiet k s e xs q))
    given (gives_window {s = s} {x = x} {y = y} {nodes = nodes} {inner = inner} w count is c g p) k left round few q =
        let sides = sides_of x y w is in
        let part = given g k left round few (quiet-window rules r sides q).0 in
        stand_of _ (at s round ∷ Of left round w.part) nodes
        (ap (λ l. at s round ∷ l) (window_origins left round sides))
        (stand_head s round _ _ inner nodes p part)
    given (gives_labelled {s = s} {nodes = nodes} {inner = inner} g p) k left round few q =
        stand_head s round _ _ inner nodes p (given g k left round few (quiet-labelled rules r q))
    given (gives_name {s = s} {n = n} {nodes = nodes} rule is g) k zero round few q =
        let quiet = quiet-name rules r is q in absurd (omega (arith, few, quiet.1))
    given (gives_name {s = s} {n = n} {nodes = nodes} rule is g) k (suc left) round few q =
        let quiet = quiet-name rules r is q in
        stand_of _ (rule_origins r void (round ++ s ∷ []) (Names left (round ++ s ∷ [])) rule) nodes (name_at left round n s rule is)
        (rule_given g (k + 1) left (round ++ s ∷ []) (omega (arith, few)) quiet.0)
    given (gives_group g) k left round few q = given g k left round few (quiet-group rules r q)
    given (gives_received {s = s} {x = x} {y = y} {nodes = nodes} is g) k left round few q =
        stand_of _ (Of left round x) nodes (ap (λ z. form_origins r void round (Names left round) z s (sends x y)) is)
        (given g k left round few (quiet-left rules r q))
    given (gives_sent {s = s} {x = x} {y = y} {nodes = nodes} is g) k left round few q =
        stand_of _ (Of left round y) nodes (ap (λ z. form_origins r void round (Names left round) z s (sends x y)) is)
        (given g k left round few (quiet-right rules r q))

    items_given :
        {xs : ExprsV} {i : ℕ} {frame : Frame ℕ} {seen : Seen ℕ} {parts : List ℕ} {nodes : List Placed} → ItemsGive rules r xs i frame seen parts nodes
        → (k left : ℕ) (round : List ℕ) → 64 ≤ k + left → AllQuietIn k xs → Stand (items_origins r void round (Names left round) xs) nodes
    items_given (items_end p q) k left round few all = sym (ap places_of q)
    items_given (items_next {x = x} {xs = xs} {nodes = nodes} first rest g gs p q) k left round few all =
        stand_as _ nodes (first ++ rest) q
        (stand_both (Of left round x) (items_origins r void round (Names left round) xs) first rest
        (given g k left round few all.0) (items_given gs k left round few all.1))

    each_given :
        {xs : List ExprV} {i : ℕ} {seen : Seen ℕ} {parts : List ℕ} {nodes : List Placed} → EachGives rules r xs i seen parts nodes
        → (k left : ℕ) (round : List ℕ) → 64 ≤ k + left → AllQuiet rules r k xs → Stand (each_of left round xs) nodes
    each_given (each_end p q) k left round few all = sym (ap places_of q)
    each_given (each_next {x = x} {xs = xs} {nodes = nodes} first rest g gs p q) k left round few all =
        stand_as _ nodes (first ++ rest) q
        (stand_both (Of left round x) (each_of left round xs) first rest
        (given g k left round few all.0) (each_given gs k left round few all.1))

    pub rule_given :
        {rule : Rule} {i : ℕ} {seen : Seen ℕ} {nodes : List Placed} → RuleGives rules r rule i seen nodes
        → (k left : ℕ) (round : List ℕ) → 64 ≤ k + left → RuleQuiet rules r k rule
        → Stand (rule_origins r void round (Names left round) rule) nodes
    rule_given (rule_plain {rule = rule} {nodes = nodes} none g) k left round few q =
        stand_of _ (Of left round rule.body) nodes (ap (by_tail r void round (Names left round) rule) none)
        (given g k left round few (quiet-plain rules r none q))
    rule_given (rule_tail {rule = rule} {nodes = nodes} tail many stop parts turn_parts items turn is i m t s p) k left round few q =
        let quiet = quiet_in k tail.items (quiet-tail rules r (item_list tail.items) is (sym (exprs_list tail.items)) q) in
        let first = items_given i k left round few quiet in
        let again = items_given t k left round few quiet in
        let os = items_origins r void round (Names left round) tail.items in
        let behind : List Origin =
        at tail.end.braces round ∷ at tail.end.again.at round ∷ at tail.end.again.at round ∷ (os ++ at tail.end.stop.at round ∷ []) in
        let more : List Placed = placed (Many (many + 1)) tail.end.braces
        ∷ placed (Seq ((many + 2) ∷ turn_parts)) tail.end.again.at
        ∷ placed (Lits tail.end.again.run) tail.end.again.at
        ∷ (turn ++ placed (Lits tail.end.stop.run) tail.end.stop.at ∷ []) in
        let last : Stand (os ++ at tail.end.stop.at round ∷ []) (turn ++ placed (Lits tail.end.stop.run) tail.end.stop.at ∷ []) =
        stand_both os (at tail.end.stop.at round ∷ []) turn (placed (Lits tail.end.stop.run) tail.end.stop.at ∷ []) again refl in
        let later : Stand behind more = ap (λ l. tail.end.braces ∷ tail.end.again.at ∷ tail.end.again.at ∷ l) last in
        stand_of (by_tail r void round (Names left round) rule (tail_of rule)) (at (start_of rule.body) round ∷ (os ++ behind)) nodes
        (ap (by_tail r void round (Names left round) rule) is)
        (stand_head (start_of rule.body) round (Seq (parts ++ many ∷ stop ∷ [])) (os ++ behind) (items ++ more) nodes p
        (stand_both os behind items more first later))
