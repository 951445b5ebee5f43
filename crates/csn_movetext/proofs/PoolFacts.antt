-- Openings that are made one after another.
use Rattle.std.proofs.Common.{◌≡◌, ℕ, zero, suc, ◌+◌, ◌-◌, ◌<◌, ◌≤◌, List, [], ◌∷◌, ◌++◌, length, take, drop, map, ◌⊎◌}
use Rattle.std.proofs.Common.{Option, Some, None, unwrap_or, get_or, refl, sym, ◌∙◌, subst, ap, arith, inl, inr}
use Rattle.std.proofs.Common.{length-append, length-drop, false, Bor}
use Rattle.std.specs.Prelude.{slice_get, option_copied}
use Rattle.std.specs.Option.{is_some}
use Rattle.std.proofs.Math.Seq.{drop-append_seam, take-length}
use Rattle.std.proofs.lemmas.Option.{slice_get_within, slice_get-get_or}
use Rattle.std.proofs.lemmas.List.{take-append-le, drop-append-le}
use Rattle.std.proofs.lemmas.Bool.{cases_lt}
use Rattle.csn_desc.specs.declared.node.Node.{Node}
use Rattle.csn_desc.specs.declared.node.Node.TheVariants.{Choice, Named}
use Rattle.csn_desc.specs.Nodes.{DescV, parts_of}
use Rattle.csn_desc.specs.Formed.{IsDescription}
use Rattle.csn_desc.proofs.Parents.{one_parent}
use Rattle.csn_desc.proofs.Numbering.{span_inside, span_parts, part_from}
use Rattle.csn_movetext.specs.declared.openings.Place.{Place}
use Rattle.csn_movetext.specs.Pool.{bytes_at, label_at, text_at, IsNumber, IsWithin}
use Rattle.csn_movetext.specs.declared.template.Template.{Template}
use Rattle.csn_movetext.specs.Numbers.{AreNumbers}
use Rattle.csn_json.specs.declared.form.TreeForm.{TreeForm}
use Rattle.csn_movetext.specs.Openings.{OpeningsV, AreOpened, AreOpenings, label_part, opening_in, opening_of, number_at, number_text, HasLabel}
use Rattle.csn_movetext.proofs.NumberFacts.{parts_within}

-- ---- the pool

bytes_kept : (pool more : List ℕ) (place : Place) → place.start ≤ place.end → place.end ≤ length pool
    → bytes_at (pool ++ more) place ≡ bytes_at pool place
bytes_kept pool more place order inside =
    ap (λ l. take (place.end - place.start) l) (drop-append-le place.start pool more (omega (arith, order, inside)))
    ∙ take-append-le (place.end - place.start) (drop place.start pool) more (omega (arith, order, inside, length-drop place.start pool))

slice_get-left : {X : Type 0} (xs ys : List X) (i : ℕ) → i < length xs → slice_get (xs ++ ys) i ≡ slice_get xs i
slice_get-left [] ys i small = absurd (omega (arith, small))
slice_get-left (x ∷ xs) ys zero small = refl
slice_get-left (x ∷ xs) ys (suc i) small = slice_get-left xs ys i (omega (arith, small))

label_kept : (labels more : List (List ℕ)) (number : Option ℕ) → IsNumber labels number → label_at (labels ++ more) number ≡ label_at labels number
label_kept labels more None is = refl
label_kept labels more (Some n) is = slice_get-left labels more n is

text_kept : (form : TreeForm) (pool more : List ℕ) (labels others : List (List ℕ)) (place : Place) → IsWithin pool labels place
    → text_at form (pool ++ more) (labels ++ others) place ≡ text_at form pool labels place
text_kept form pool more labels others place is =
    ap (λ l. l ++ label_part form (label_at (labels ++ others) place.label)) (bytes_kept pool more place is.order is.bytes)
    ∙ ap (λ o. bytes_at pool place ++ label_part form o) (label_kept labels others place.label is.label)

texts_kept : (form : TreeForm) (pool more : List ℕ) (labels others : List (List ℕ)) (places : List Place)
    → ((i : ℕ) (place : Place) → slice_get places i ≡ Some place → IsWithin pool labels place)
    → map (text_at form (pool ++ more) (labels ++ others)) places ≡ map (text_at form pool labels) places
texts_kept form pool more labels others [] are = refl
texts_kept form pool more labels others (place ∷ places) are =
    ap (λ x. x ∷ map (text_at form (pool ++ more) (labels ++ others)) places) (text_kept form pool more labels others place (are 0 place refl))
    ∙ ap (λ l. text_at form pool labels place ∷ l) (texts_kept form pool more labels others places (λ i p at. are (suc i) p at))

map-push : {X Y : Type 0} (f : X → Y) (xs : List X) (x : X) → map f (xs ++ x ∷ []) ≡ map f xs ++ f x ∷ []
map-push f [] x = refl
map-push f (y ∷ xs) x = ap (λ l. f y ∷ l) (map-push f xs x)

last_bytes : (pool more : List ℕ) (place : Place) → place.start ≡ length pool → place.end ≡ length (pool ++ more) → bytes_at (pool ++ more) place ≡ more
last_bytes pool more place first last =
    let size = length-append pool more in
    let wide : place.end - place.start ≡ length more = omega (arith, first, last, size) in
    ap (λ n. take n (drop place.start (pool ++ more))) wide
    ∙ ap (λ n. take (length more) (drop n (pool ++ more))) first
    ∙ ap (λ l. take (length more) l) (drop-append_seam pool more)
    ∙ take-length more

-- one opening more
pub pushed :
    (form : TreeForm) (pool text new : List ℕ) (labels more new_labels : List (List ℕ)) (places : List Place) (place : Place)
    (label : Option (List ℕ)) → ((i : ℕ) (p : Place) → slice_get places i ≡ Some p → IsWithin pool labels p)
    → new ≡ pool ++ text → new_labels ≡ labels ++ more → place.start ≡ length pool → place.end ≡ length new
    → label_at new_labels place.label ≡ label
    → map (text_at form new new_labels) (places ++ place ∷ []) ≡ map (text_at form pool labels) places ++ (text ++ label_part form label) ∷ []
pushed form pool text new labels more new_labels places place label are same same_labels first last is =
    ap (λ l. map (text_at form l new_labels) (places ++ place ∷ [])) same
    ∙ map-push (text_at form (pool ++ text) new_labels) places place
    ∙ ap (λ l. map (text_at form (pool ++ text) new_labels) places ++ (l ++ label_part form (label_at new_labels place.label)) ∷ [])
    (last_bytes pool text place first (last ∙ ap length same))
    ∙ ap (λ o. map (text_at form (pool ++ text) new_labels) places ++ (text ++ label_part form o) ∷ []) is
    ∙ ap (λ l. map (text_at form (pool ++ text) l) places ++ (text ++ label_part form label) ∷ []) same_labels
    ∙ ap (λ l. l ++ (text ++ label_part form label) ∷ []) (texts_kept form pool text labels more places are)

map_at : {X Y : Type 0} (f : X → Y) (xs : List X) (i : ℕ) (x : X) → slice_get xs i ≡ Some x → slice_get (map f xs) i ≡ Some (f x)
map_at f [] i x at = absurd (cc)
map_at f (y ∷ xs) zero x at = let same : y ≡ x = cc in ap (λ z. Some (f z)) same
map_at f (y ∷ xs) (suc i) x at = map_at f xs i x at

map_behind : {X Y : Type 0} (f : X → Y) (xs : List X) (i : ℕ) → length xs ≤ i → slice_get (map f xs) i ≡ None
map_behind f [] i low = refl
map_behind f (y ∷ xs) zero low = absurd (omega (arith, low))
map_behind f (y ∷ xs) (suc i) low = map_behind f xs i (omega (arith, low))

-- the opening of a node is the text at its place, and there is none behind the last place
pub text_there :
    (form : TreeForm) (pool : List ℕ) (labels : List (List ℕ)) (places : List Place) (templates : List (Option Template)) (i : ℕ) (place : Place)
    → slice_get places i ≡ Some place
    → text_at form pool labels place ≡ opening_in (record { form = form; texts = map (text_at form pool labels) places; templates = templates }) i
text_there form pool labels places templates i place at = sym (ap (λ o. unwrap_or o []) (map_at (text_at form pool labels) places i place at))

pub no_text :
    (form : TreeForm) (pool : List ℕ) (labels : List (List ℕ)) (places : List Place) (templates : List (Option Template)) (i : ℕ)
    → length places ≤ i
    → [] ≡ opening_in (record { form = form; texts = map (text_at form pool labels) places; templates = templates }) i
no_text form pool labels places templates i low = sym (ap (λ o. unwrap_or o []) (map_behind (text_at form pool labels) places i low))

-- where there is no label, none is written
pub no_label : (form : TreeForm) (label : Option (Bor (List ℕ))) → is_some label ≡ false → label_part form (option_copied label) ≡ []
no_label form None is = refl
no_label form (Some label) is = absurd (cc)

number_stays : (labels more : List (List ℕ)) (number : Option ℕ) → IsNumber labels number → IsNumber (labels ++ more) number
number_stays labels more None is = is
number_stays labels more (Some n) is = omega (arith, is, length-append labels more)

-- places lie in longer bytes too, and among more labels
pub longer_within :
    (pool text new : List ℕ) (labels more new_labels : List (List ℕ)) (places : List Place)
    → ((i : ℕ) (p : Place) → slice_get places i ≡ Some p → IsWithin pool labels p) → new ≡ pool ++ text → new_labels ≡ labels ++ more
    → (i : ℕ) (p : Place) → slice_get places i ≡ Some p → IsWithin new new_labels p
longer_within pool text new labels more new_labels places are same same_labels i p at =
    let is = are i p at in
    record {
      order = is.order;
      bytes = omega (arith, is.bytes, ap length same, length-append pool text);
      label = subst (λ l. IsNumber l p.label) (sym same_labels) (number_stays labels more p.label is.label);
    }

slice_get-push : {X : Type 0} (xs : List X) (x y : X) (i : ℕ) → slice_get (xs ++ x ∷ []) i ≡ Some y → (P : X → Type 0)
    → ((j : ℕ) (z : X) → slice_get xs j ≡ Some z → P z) → P x → P y
slice_get-push [] x y zero at P others here = let same : x ≡ y = cc in subst P same here
slice_get-push [] x y (suc i) at P others here = absurd (cc)
slice_get-push (z ∷ xs) x y zero at P others here = let same : z ≡ y = cc in subst P same (others 0 z refl)
slice_get-push (z ∷ xs) x y (suc i) at P others here = slice_get-push xs x y i at P (λ j w get. others (suc j) w get) here

pub pushed_within :
    (pool text new : List ℕ) (labels more new_labels : List (List ℕ)) (places : List Place) (place : Place)
    → ((i : ℕ) (p : Place) → slice_get places i ≡ Some p → IsWithin pool labels p) → new ≡ pool ++ text → new_labels ≡ labels ++ more
    → place.start ≡ length pool → place.end ≡ length new → IsNumber new_labels place.label
    → (i : ℕ) (p : Place) → slice_get (places ++ place ∷ []) i ≡ Some p → IsWithin new new_labels p
pushed_within pool text new labels more new_labels places place are same same_labels first last label i p at =
    slice_get-push places place p i at (IsWithin new new_labels) (longer_within pool text new labels more new_labels places are same same_labels)
    (record {
      order = omega (arith, first, last, ap length same, length-append pool text);
      bytes = omega (arith, last);
      label = label;
    })

-- ---- the openings of nodes

-- the first nodes have their openings, and their labels are labels
pub record AreBegun (form : TreeForm) (d : DescV) (numbers : List (Option ℕ)) (upto : ℕ) (openings : List (List ℕ)) : Type 0 where
  pub many : length openings ≡ upto
  pub opened :
      (i : ℕ) (number : Option ℕ) (n : Node) → i < upto → slice_get numbers i ≡ Some number → slice_get d.nodes i ≡ Some n
      → slice_get openings i ≡ Some (opening_of form number n)
  pub labelled : (i : ℕ) (n : Node) → i < upto → slice_get d.nodes i ≡ Some n → HasLabel n

pub begun_none : (form : TreeForm) (d : DescV) (numbers : List (Option ℕ)) → AreBegun form d numbers 0 []
begun_none form d numbers =
    record {
      many = refl;
      opened = λ i number n small. absurd (omega (arith, small));
      labelled = λ i n small. absurd (omega (arith, small));
    }

slice_get-last : {X : Type 0} (xs : List X) (x : X) → slice_get (xs ++ x ∷ []) (length xs) ≡ Some x
slice_get-last [] x = refl
slice_get-last (y ∷ xs) x = slice_get-last xs x

pub begun_next :
    (form : TreeForm) (d : DescV) (numbers : List (Option ℕ)) (k : ℕ) (number : Option ℕ) (n : Node)
    (old new : List (List ℕ)) → slice_get numbers k ≡ Some number → slice_get d.nodes k ≡ Some n
    → HasLabel n → new ≡ old ++ opening_of form number n ∷ [] → AreBegun form d numbers k old → AreBegun form d numbers (k + 1) new
begun_next form d numbers k number n old new given at label same are =
    let P : List (List ℕ) → Type 0 = λ l. AreBegun form d numbers (k + 1) l in
    subst P (sym same)
    (record {
      many = length-append old (opening_of form number n ∷ []) ∙ omega (arith, are.many);
      opened = λ i other m small here there. elim (cases_lt i k) [
        | inl low ↦ slice_get-left old (opening_of form number n ∷ []) i (omega (arith, low, are.many)) ∙ are.opened i other m low here there
        | inr high ↦
            let last : i ≡ k = omega (arith, small, high) in
            let place : i ≡ length old = omega (arith, last, are.many) in
            let one_number : Some number ≡ Some other = sym given ∙ ap (λ x. slice_get numbers x) (sym last) ∙ here in
            let one_node : Some n ≡ Some m = sym at ∙ ap (λ x. slice_get d.nodes x) (sym last) ∙ there in
            let number_same : number ≡ other = cc in
            let node_same : n ≡ m = cc in
            ap (λ x. slice_get (old ++ opening_of form number n ∷ []) x) place
            ∙ slice_get-last old (opening_of form number n)
            ∙ ap (λ x. Some (opening_of form x n)) number_same
            ∙ ap (λ x. Some (opening_of form other x)) node_same
      ];
      labelled = λ i m small there. elim (cases_lt i k) [
        | inl low ↦ are.labelled i m low there
        | inr high ↦
            let last : i ≡ k = omega (arith, small, high) in
            let one_node : Some n ≡ Some m = sym at ∙ ap (λ x. slice_get d.nodes x) (sym last) ∙ there in
            let node_same : n ≡ m = cc in
            subst HasLabel node_same label
      ];
    })

number_is : (n : Node) (k : ℕ) → ((parts : List ℕ) → ¬ (n ≡ Choice parts)) → number_at n k ≡ None
number_is (Choice parts) k other = absurd (other parts refl)
number_is _ k other = refl

pub choice_or : (n : Node) → ((parts : List ℕ) × (n ≡ Choice parts)) ⊎ ((parts : List ℕ) → ¬ (n ≡ Choice parts))
choice_or (Choice parts) = inl (parts, refl)
choice_or _ = inr (λ others e. cc)

module _ (d : DescV) (is : IsDescription d) (numbers : List (Option ℕ)) (are : AreNumbers d (length d.nodes) numbers) where
  -- a part of a node that is no choice has no number
  no_number : (c j i : ℕ) (n : Node) (found : Option ℕ) → slice_get d.nodes c ≡ Some n
      → slice_get (parts_of n) j ≡ Some i → ((parts : List ℕ) → ¬ (n ≡ Choice parts))
      → slice_get numbers i ≡ Some found → found ≡ None
  no_number c j i n None at get other there = refl
  no_number c j i n (Some k) at get other there =
      let a = are.only i k there in
      let one = one_parent d c a.choice j k i n (Choice a.parts) is at a.there get a.part in
      let twice : Some n ≡ Some (Choice a.parts) = sym at ∙ ap (λ x. slice_get d.nodes x) one.0 ∙ a.there in
      let same : n ≡ Choice a.parts = cc in
      absurd (other a.parts same)

  part_number : (c j i : ℕ) (n : Node) → slice_get d.nodes c ≡ Some n → slice_get (parts_of n) j ≡ Some i → slice_get numbers i ≡ Some (number_at n j)
  part_number c j i n at get = elim (choice_or n) [
    | inl choice ↦
        let P : Node → Type 0 = λ m. slice_get (parts_of m) j ≡ Some i in
        are.given c j i choice.0 (slice_get_within d.nodes c n at) (at ∙ ap Some choice.1) (subst P choice.1 get)
        ∙ ap (λ m. Some (number_at m j)) (sym choice.1)
    | inr other ↦
        let there = slice_get-get_or numbers i None (omega (arith, are.all, parts_within d c j i n is at get)) in
        there ∙ ap Some (no_number c j i n _ at get other there ∙ sym (number_is n j other))
  ]

  no_parent : (found : Option ℕ) → slice_get numbers 0 ≡ Some found → found ≡ None
  no_parent None there = refl
  no_parent (Some k) there =
      let a = are.only 0 k there in
      let s = span_inside d.nodes a.choice is.numbered (omega arith) (slice_get_within d.nodes a.choice (Choice a.parts) a.there) in
      let low = part_from d.nodes k 0 (span_parts d.nodes a.there s.span) a.part in
      absurd (omega (arith, low))

  pub are_openings : (openings : OpeningsV) → AreBegun openings.form d numbers (length d.nodes) openings.texts
      → AreOpenings openings.form d (opening_in openings)
  are_openings openings begun =
      record {
        parts = λ c j i n m at get here.
            ap (λ o. unwrap_or o []) (begun.opened i (number_at n j) m (slice_get_within d.nodes i m here) (part_number c j i n at get) here);
        root = λ m here.
            let within = slice_get_within d.nodes 0 m here in
            let there = slice_get-get_or numbers 0 None (omega (arith, are.all, within)) in
            ap (λ o. unwrap_or o []) (begun.opened 0 None m within (there ∙ ap Some (no_parent _ there)) here);
        labels = λ i part label at. begun.labelled i (Named label part) (slice_get_within d.nodes i (Named label part) at) at;
      }

  pub are_opened : (openings : OpeningsV) → AreBegun openings.form d numbers (length d.nodes) openings.texts → AreOpened d openings
  are_opened openings begun =
      record {
        opened = are_openings openings begun;
        marks = λ i n at.
            let within = slice_get_within d.nodes i n at in
            let there = slice_get-get_or numbers i None (omega (arith, are.all, within)) in (
              number_text openings.form (get_or numbers i None),
              λ m here. ap (λ o. unwrap_or o []) (begun.opened i (get_or numbers i None) m within there here),
            );
      }
