-- Positions and nodes in front of texts.
use Rattle.std.proofs.Common.{◌≡◌, ℕ, zero, suc, ◌+◌, ◌<◌, ◌≤◌, ◌^◌, Bool, true, false, eqb, List, [], ◌∷◌, ◌++◌}
use Rattle.std.proofs.Common.{length, flat_map, codes, refl, sym, ap, ◌∙◌, subst, arith, append_assoc, append-nil}
use Rattle.std.proofs.Common.{length-append, IfSome}
use Rattle.std.specs.Fmt.{decimal}
use Rattle.std.specs.List.{AllByRecursion}
use Rattle.std.proofs.lemmas.List.{append_cancel_left, flat_map_more}
use Rattle.csn_cert.specs.CertificateV.{PositionV, NodeV, IsPosition, IsNode, IsCertificate, Rises}
use Rattle.csn_cert.specs.CertificateText.{digits_text, position_text, nullable_character, node_text, nodes_text}
use Rattle.csn_cert.specs.Growing.{last_of}
use Rattle.csn_cert.specs.Reading.{Stands, Lacks, Anything, BeginsNoPosition, IsNumber, number_text, patterns_line, ArePositions}
use Rattle.csn_cert.proofs.Appending.{nodes_text-push}
use Rattle.csn_cert.proofs.Growth.{All-push, Rises-push, node_pushed}
use Rattle.csn_cert.proofs.Fronts.{GoesOn, goes_on, heads}
use Rattle.csn_cert.proofs.Numbers.{number_tells}
use Rattle.csn_cert.proofs.Lines.{behind_last, position_parts, position_tells}

-- ---- positions

position_begins : (p : PositionV) (after behind : List ℕ) → BeginsNoPosition behind → position_text p ++ after ≡ behind → ⊥
position_begins p after behind never same =
    never (116 ∷ 32 ∷ (48 + p.octet)
    ∷ [] ++ (number_text 8 p.ends
    ++ (number_text 2 p.start ++ (codes " " ++ (patterns_line p.patterns ++ after)))))
    (sym same ∙ position_parts p after)

pub positions_go_on : (front all : List PositionV) (text rest behind : List ℕ) → AllByRecursion IsPosition front
    → text ≡ flat_map position_text front ++ rest → Stands ArePositions BeginsNoPosition (flat_map position_text)
    text all behind → GoesOn IsPosition position_text front all rest behind
positions_go_on front all text rest behind each read stands =
    goes_on IsPosition position_text position_tells front all rest behind each stands.is.each
    (λ x after same. position_begins x after behind stands.may same) (sym read ∙ stands.spelled)

-- the line of a position begins, and does not go on as one
pub no_next_position : (front : List PositionV) (text rest begun : List ℕ) → AllByRecursion IsPosition front
    → text ≡ flat_map position_text front ++ rest → rest ≡ 97 ∷ begun → Lacks IsPosition Anything position_text rest
    → Lacks ArePositions BeginsNoPosition (flat_map position_text) text
no_next_position front text rest begun each read begins lacks all behind stands = by_tail on.tail on.each on.spelled
  where
    on : GoesOn IsPosition position_text front all rest behind
    on = positions_go_on front all text rest behind each read stands

    by_tail : (tail : List PositionV) → AllByRecursion IsPosition tail → rest ≡ flat_map position_text tail ++ behind → ⊥
    by_tail [] each' spelled = stands.may begun (sym spelled ∙ begins)
    by_tail (q ∷ tail) each' spelled =
        lacks q (flat_map position_text tail ++ behind)
        (record {
          is = each'.0;
          may = tt;
          spelled = spelled ∙ append_assoc (position_text q)
              (flat_map position_text tail) behind;
        })

-- the line of a position that does not come behind the last
pub no_position_behind : (front : List PositionV) (next : PositionV) (text rest begun middle : List ℕ)
    → AllByRecursion IsPosition front → text ≡ flat_map position_text front ++ rest → rest ≡ 97 ∷ begun
    → Stands IsPosition Anything position_text rest next middle → (IfSome (last_of front) (λ p. p.octet < next.octet)
    → ⊥) → Lacks ArePositions BeginsNoPosition (flat_map position_text) text
no_position_behind front next text rest begun middle each read begins stood not all behind stands = by_tail on.tail on.each on.is on.spelled
  where
    on : GoesOn IsPosition position_text front all rest behind
    on = positions_go_on front all text rest behind each read stands

    by_tail : (tail : List PositionV) → AllByRecursion IsPosition tail → all ≡ front ++ tail → rest ≡ flat_map position_text tail ++ behind → ⊥
    by_tail [] each' is spelled = stands.may begun (sym spelled ∙ begins)
    by_tail (q ∷ tail) each' is spelled =
        let found = position_tells next q middle (flat_map position_text tail ++ behind) stood.is each'.0
        (sym stood.spelled ∙ spelled ∙ append_assoc (position_text q) (flat_map position_text tail) behind) in
        let rises : Rises (λ x y. x.octet < y.octet) (front ++ q ∷ tail) = subst (λ l. Rises (λ x y. x.octet < y.octet) l) is stands.is.rising in
        not (subst (λ (n : PositionV). IfSome (last_of front) (λ p. p.octet < n.octet)) (sym found.0)
        (behind_last (λ x y. x.octet < y.octet) front q tail rises))

pub positions_pushed : (front : List PositionV) (next : PositionV) (text rest behind : List ℕ)
    → text ≡ flat_map position_text front ++ rest → rest ≡ position_text next ++ behind
    → text ≡ flat_map position_text (front ++ next ∷ []) ++ behind
positions_pushed front next text rest behind read stood =
    read ∙ ap (λ l. flat_map position_text front ++ l) stood
    ∙ sym (append_assoc (flat_map position_text front) (position_text next) behind)
    ∙ ap (λ l. l ++ behind) (flat_map_more position_text [] front next)

positions_tell : (ps qs : List PositionV) (a b : List ℕ) → AllByRecursion IsPosition ps → AllByRecursion IsPosition qs
    → BeginsNoPosition a → BeginsNoPosition b → flat_map position_text ps ++ a ≡ flat_map position_text qs ++ b
    → (ps ≡ qs) × (a ≡ b)
positions_tell [] [] a b each each' never never' same = (refl, same)
positions_tell [] (q ∷ qs) a b each each' never never' same =
    absurd (position_begins q (flat_map position_text qs ++ b) a never
    (sym (append_assoc (position_text q) (flat_map position_text qs) b) ∙ sym same))
positions_tell (p ∷ ps) [] a b each each' never never' same =
    absurd (position_begins p (flat_map position_text ps ++ a) b never'
    (sym (append_assoc (position_text p) (flat_map position_text ps) a) ∙ same))
positions_tell (p ∷ ps) (q ∷ qs) a b each each' never never' same =
    let found = position_tells p q (flat_map position_text ps ++ a) (flat_map position_text qs ++ b) each.0 each'.0
    (sym (append_assoc (position_text p) (flat_map position_text ps) a) ∙ same ∙ append_assoc (position_text q)
    (flat_map position_text qs) b) in
    let later = positions_tell ps qs a b each.1 each'.1 never never' found.1 in
    (ap (λ z. z ∷ ps) found.0 ∙ ap (λ l. q ∷ l) later.0, later.1)

-- ---- a node

-- the digit for nullable, as a number
abbrev pub nullable_number : Bool → ℕ
nullable_number true = 1
nullable_number false = 0

nullable_small : (nullable : Bool) → IsNumber 1 (nullable_number nullable)
nullable_small true = (let one : 2 ^ 1 ≡ 2 = refl in omega arith)
nullable_small false = (let one : 2 ^ 1 ≡ 2 = refl in omega arith)

nullable_text : (nullable : Bool) → number_text 1 (nullable_number nullable) ≡ 32 ∷ nullable_character nullable ∷ []
nullable_text true = refl
nullable_text false = refl

-- a digit is told by a test whether it is 1
pub nullable_told : (digit : ℕ) → IsNumber 1 digit → digit ≡ nullable_number (eqb digit 1)
nullable_told zero is = refl
nullable_told (suc zero) is = refl
nullable_told (suc (suc digit)) is = absurd (let one : 2 ^ 1 ≡ 2 = refl in omega (arith, is))

parts : (name : List ℕ) (nullable : ℕ) (follow positions behind : List ℕ)
    → codes "node " ++ name ++ codes " " ++ nullable ∷ codes " " ++ follow ++ 10 ∷ [] ++ positions ++ behind ≡ codes
    "node " ++ (name ++ ((32 ∷ nullable ∷ []) ++ (codes " " ++ follow ++ (10 ∷ [] ++ (positions ++ behind)))))
parts name nullable follow positions behind = simp append_assoc

abbrev pub behind_follow : NodeV → List ℕ → List ℕ
behind_follow n behind = codes "\n" ++ (flat_map position_text n.positions ++ behind)

abbrev pub behind_nullable : NodeV → List ℕ → List ℕ
behind_nullable n behind = number_text 24 n.follow ++ behind_follow n behind

abbrev pub behind_name : NodeV → List ℕ → List ℕ
behind_name n behind = number_text 1 (nullable_number n.nullable) ++ behind_nullable n behind

node_parts : (number : ℕ) (n : NodeV) (behind : List ℕ) → node_text number n ++ behind ≡ codes "node " ++ (decimal number ++ behind_name n behind)
node_parts number n behind =
    parts (decimal number) (nullable_character n.nullable) (digits_text 24 n.follow) (flat_map position_text n.positions) behind
    ∙ ap (λ l. codes "node " ++ (decimal number ++ (l ++ behind_nullable n behind))) (sym (nullable_text n.nullable))

-- what is left of the text of a node behind its parts
pub record Begun (number : ℕ) (text : List ℕ) (one two : List ℕ) : Type 0 where
  pub word : text ≡ codes "node " ++ one
  pub name : one ≡ decimal number ++ two

behind_begun : (number : ℕ) (text one two : List ℕ) → Begun number text one two → (n : NodeV) (behind : List ℕ)
    → Stands IsNode BeginsNoPosition (node_text number) text n behind → two ≡ behind_name n behind
behind_begun number text one two begun n behind stands =
    append_cancel_left (decimal number) two (behind_name n behind)
    (sym begun.name ∙ append_cancel_left (codes "node ") one (decimal number ++ behind_name n behind)
    (sym begun.word ∙ stands.spelled ∙ node_parts number n behind))

behind_digit : (number : ℕ) (text one two three : List ℕ) (nullable : ℕ)
    → Begun number text one two → Stands (IsNumber 1) Anything (number_text 1) two nullable three
    → (n : NodeV) (behind : List ℕ) → Stands IsNode BeginsNoPosition (node_text number) text n behind
    → three ≡ behind_nullable n behind
behind_digit number text one two three nullable begun stood n behind stands =
    (number_tells 1 nullable (nullable_number n.nullable) three (behind_nullable n behind) stood.is
    (nullable_small n.nullable) (sym stood.spelled ∙ behind_begun number text one two begun n behind stands)).1

follow_small : (n : NodeV) → IsNode n → IsNumber 24 n.follow
follow_small n is = (let p : 2 ^ 24 ≡ 16777216 = refl in omega (arith, is.follow))

behind_digits : (number : ℕ) (text one two three four : List ℕ) (nullable follow : ℕ)
    → Begun number text one two → Stands (IsNumber 1) Anything (number_text 1) two nullable three
    → Stands (IsNumber 24) Anything (number_text 24) three follow four → (n : NodeV) (behind : List ℕ)
    → Stands IsNode BeginsNoPosition (node_text number) text n behind → four ≡ behind_follow n behind
behind_digits number text one two three four nullable follow begun stood stood' n behind stands =
    (number_tells 24 follow n.follow four (behind_follow n behind) stood'.is (follow_small n stands.is)
    (sym stood'.spelled ∙ behind_digit number text one two three nullable begun stood n behind stands)).1

pub no_node_word : (number : ℕ) (text : List ℕ) → ((after : List ℕ) → text ≡ codes "node " ++ after → ⊥)
    → Lacks IsNode BeginsNoPosition (node_text number) text
no_node_word number text never n behind stands = never (decimal number ++ behind_name n behind) (stands.spelled ∙ node_parts number n behind)

pub no_name : (number : ℕ) (text one : List ℕ)
    → text ≡ codes "node " ++ one → ((after : List ℕ) → one ≡ decimal number ++ after → ⊥)
    → Lacks IsNode BeginsNoPosition (node_text number) text
no_name number text one word never n behind stands =
    never (behind_name n behind) (append_cancel_left (codes "node ") one (decimal number ++ behind_name n behind)
    (sym word ∙ stands.spelled ∙ node_parts number n behind))

pub no_nullable : (number : ℕ) (text one two : List ℕ)
    → Begun number text one two → Lacks (IsNumber 1) Anything (number_text 1) two → Lacks IsNode BeginsNoPosition
    (node_text number) text
no_nullable number text one two begun lacks n behind stands = lacks (nullable_number n.nullable)
    (behind_nullable n behind) (record {
      is = nullable_small n.nullable;
      may = tt;
      spelled =
          behind_begun number text one two begun n behind stands;
    })

pub no_follow : (number : ℕ) (text one two three : List ℕ) (nullable : ℕ)
    → Begun number text one two → Stands (IsNumber 1) Anything (number_text 1) two nullable three
    → Lacks (IsNumber 24) Anything (number_text 24) three → Lacks IsNode BeginsNoPosition (node_text number) text
no_follow number text one two three nullable begun stood lacks n behind stands =
    lacks n.follow (behind_follow n behind) (record {
      is = follow_small n stands.is;
      may = tt;
      spelled =
          behind_digit number text one two three nullable begun stood n behind stands;
    })

pub no_node_end : (number : ℕ) (text one two three four : List ℕ) (nullable follow : ℕ)
    → Begun number text one two → Stands (IsNumber 1) Anything (number_text 1) two nullable three
    → Stands (IsNumber 24) Anything (number_text 24) three follow four
    → ((after : List ℕ) → four ≡ codes "\n" ++ after → ⊥) → Lacks IsNode BeginsNoPosition (node_text number) text
no_node_end number text one two three four nullable follow begun stood stood' never n behind stands =
    never (flat_map position_text n.positions ++ behind)
    (behind_digits number text one two three four nullable follow begun stood stood' n behind stands)

pub no_positions : (number : ℕ) (text one two three four five : List ℕ) (nullable follow : ℕ)
    → Begun number text one two → Stands (IsNumber 1) Anything (number_text 1) two nullable three
    → Stands (IsNumber 24) Anything (number_text 24) three follow four → four ≡ codes "\n" ++ five
    → Lacks ArePositions BeginsNoPosition (flat_map position_text) five → Lacks IsNode BeginsNoPosition
    (node_text number) text
no_positions number text one two three four five nullable follow begun stood stood' end lacks n behind stands =
    let same : five ≡ flat_map position_text n.positions ++ behind = append_cancel_left (codes "\n") five
    (flat_map position_text n.positions ++ behind)
    (sym end ∙ behind_digits number text one two three four nullable follow begun stood stood' n behind stands) in
    lacks n.positions behind (record { is = record { each = stands.is.positions; rising = stands.is.rising }; may = stands.may; spelled = same })

-- all of it was read
pub node_stands : (number : ℕ) (text one two three four five six : List ℕ) (nullable : Bool) (digit follow : ℕ)
    (positions : List PositionV) → Begun number text one two → Stands (IsNumber 1) Anything (number_text 1)
    two digit three → digit ≡ nullable_number nullable → Stands (IsNumber 24) Anything (number_text 24)
    three follow four → four ≡ codes "\n" ++ five → Stands ArePositions BeginsNoPosition (flat_map position_text)
    five positions six → Stands IsNode BeginsNoPosition (node_text number) text
    (record { nullable = nullable; follow = follow; positions = positions }) six
node_stands number text one two three four five six nullable digit follow positions begun stood same stood' end last =
    let p : 2 ^ 24 ≡ 16777216 = refl in
    record {
      is = record { follow = omega (arith, stood'.is); positions = last.is.each; rising = last.is.rising };
      may = last.may;
      spelled =
          begun.word ∙ ap (λ l. codes "node " ++ l) (begun.name ∙ ap (λ l. decimal number ++ l)
          (stood.spelled ∙ ap (λ d. number_text 1 d ++ three) same ∙ ap
          (λ l. number_text 1 (nullable_number nullable) ++ l)
          (stood'.spelled ∙ ap (λ l. number_text 24 follow ++ l) (end ∙ ap (λ l. codes "\n" ++ l) last.spelled))))
          ∙ sym (node_parts number (record { nullable = nullable; follow = follow; positions = positions }) six);
    }

node_tells : (number : ℕ) (m n : NodeV) (a b : List ℕ) → IsNode m → IsNode n → BeginsNoPosition a → BeginsNoPosition b
    → node_text number m ++ a ≡ node_text number n ++ b → (m ≡ n) × (a ≡ b)
node_tells number m n a b is is' never never' same =
    let cut = sym (node_parts number m a) ∙ same ∙ node_parts number n b in
    let one = append_cancel_left (decimal number) (behind_name m a) (behind_name n b)
    (append_cancel_left (codes "node ") (decimal number ++ behind_name m a) (decimal number ++ behind_name n b)
    cut) in
    let two = number_tells 1 (nullable_number m.nullable) (nullable_number n.nullable) (behind_nullable m a)
    (behind_nullable n b) (nullable_small m.nullable) (nullable_small n.nullable) one in
    let three = number_tells 24 m.follow n.follow (behind_follow m a) (behind_follow n b) (follow_small m is) (follow_small n is') two.1 in
    let four = append_cancel_left (codes "\n") (flat_map position_text m.positions ++ a) (flat_map position_text n.positions ++ b) three.1 in
    let five = positions_tell m.positions n.positions a b is.positions is'.positions never never' four in (
      ap (λ (u : Bool). record { nullable = u; follow = m.follow; positions = m.positions }) (nullable_same m.nullable n.nullable two.0)
          ∙ ap (λ (f : ℕ). record { nullable = n.nullable; follow = f; positions = m.positions }) three.0
          ∙ ap (λ (ps : List PositionV). record { nullable = n.nullable; follow = n.follow; positions = ps }) five.0,
      five.1,
    )
  where
    nullable_same : (u v : Bool) → nullable_number u ≡ nullable_number v → u ≡ v
    nullable_same true true e = refl
    nullable_same true false e = absurd (omega arith)
    nullable_same false true e = absurd (omega arith)
    nullable_same false false e = refl

-- ---- nodes

nodes_begin : (number : ℕ) (nodes : List NodeV) → BeginsNoPosition (nodes_text number nodes)
nodes_begin number [] behind same = cc
nodes_begin number (n ∷ nodes) behind same =
    let rest' : List ℕ = codes "ode " ++ (decimal number ++ behind_name n (nodes_text (suc number) nodes)) in
    let head : 110 ∷ rest' ≡ 97 ∷ behind = sym (node_parts number n (nodes_text (suc number) nodes)) ∙ same in
    omega (arith, heads 110 97 rest' behind head)

-- a text that begins with some of all nodes goes on with the others
pub record NodesGoOn (number : ℕ) (front all : List NodeV) (rest : List ℕ) : Type 0 where
  pub tail : List NodeV
  pub each : AllByRecursion IsNode tail
  pub is : all ≡ front ++ tail
  pub spelled : rest ≡ nodes_text (number + length front) tail

begin_behind : (number : ℕ) (front : List NodeV) (rest : List ℕ) → BeginsNoPosition rest → BeginsNoPosition (nodes_text number front ++ rest)
begin_behind number [] rest never behind same = never behind same
begin_behind number (n ∷ front) rest never behind same =
    let rest' : List ℕ = codes "ode " ++ (decimal number ++ behind_name n (nodes_text (suc number) front ++ rest)) in
    let head : 110 ∷ rest' ≡ 97 ∷ behind = sym (node_parts number n (nodes_text (suc number) front ++ rest))
    ∙ sym (append_assoc (node_text number n) (nodes_text (suc number) front) rest) ∙ same in
    omega (arith, heads 110 97 rest' behind head)

nodes_further : (number : ℕ) (m n : NodeV) (front all : List NodeV) (rest : List ℕ)
    → m ≡ n → NodesGoOn (suc number) front all rest → NodesGoOn number (m ∷ front) (n ∷ all) rest
nodes_further number m n front all rest same later =
    record {
      tail = later.tail;
      each = later.each;
      is = ap (λ l. n ∷ l) later.is ∙ ap (λ z. z ∷ (front ++ later.tail)) (sym same);
      spelled = later.spelled ∙ ap (λ i. nodes_text i later.tail) (omega arith);
    }

pub nodes_go_on : (number : ℕ) (front all : List NodeV) (rest : List ℕ)
    → AllByRecursion IsNode front → AllByRecursion IsNode all → (0 < length front → BeginsNoPosition rest)
    → nodes_text number front ++ rest ≡ nodes_text number all → NodesGoOn number front all rest
nodes_go_on number [] all rest each each' never same = record {
  tail = all;
  each = each';
  is = refl;
  spelled =
      same ∙ ap (λ i. nodes_text i all) (omega arith);
}
nodes_go_on number (m ∷ front) [] rest each each' never same =
    absurd (let clash : 110 ∷ codes "ode " ++ (decimal number ++ behind_name m
    (nodes_text (suc number) front ++ rest)) ≡ [] =
    sym (node_parts number m (nodes_text (suc number) front ++ rest))
    ∙ sym (append_assoc (node_text number m) (nodes_text (suc number) front) rest) ∙ same in cc)
nodes_go_on number (m ∷ front) (n ∷ all) rest each each' never same =
    let never' = never (omega arith) in
    let found = node_tells number m n (nodes_text (suc number) front ++ rest) (nodes_text (suc number) all)
    each.0 each'.0 (begin_behind (suc number) front rest never') (nodes_begin (suc number) all)
    (sym (append_assoc (node_text number m) (nodes_text (suc number) front) rest) ∙ same) in
    nodes_further number m n front all rest found.0 (nodes_go_on (suc number) front all rest each.1 each'.1 (λ _. never') found.1)

-- ---- what was read

-- these positions were read of a text
pub record PositionsRead (text : List ℕ) (front : List PositionV) (rest : List ℕ) : Type 0 where
  pub spelled : text ≡ flat_map position_text front ++ rest
  pub are : ArePositions front
  pub few : length rest ≤ length text

-- these nodes were read of a text
pub record NodesRead (text : List ℕ) (front : List NodeV) (rest : List ℕ) : Type 0 where
  pub spelled : text ≡ nodes_text 0 front ++ rest
  pub are : IsCertificate front
  pub may : 0 < length front → BeginsNoPosition rest
  pub few : length rest ≤ length text

-- no position yet
pub no_positions_read : (text : List ℕ) → PositionsRead text [] text
no_positions_read text = record { spelled = refl; are = record { each = tt; rising = tt }; few = omega arith }

-- one position more
pub position_read : (text : List ℕ) (front : List PositionV) (rest behind : List ℕ) (next : PositionV)
    → PositionsRead text front rest → Stands IsPosition Anything position_text rest next behind
    → IfSome (last_of front) (λ p. p.octet < next.octet) → PositionsRead text (front ++ next ∷ []) behind
position_read text front rest behind next read stands after =
    record {
      spelled = positions_pushed front next text rest behind read.spelled stands.spelled;
      are = record {
        each = All-push IsPosition front next read.are.each stands.is;
        rising =
            Rises-push (λ x y. x.octet < y.octet) front next read.are.rising after;
      };
      few = omega (arith, read.few, ap length stands.spelled, length-append (position_text next) behind);
    }

pub positions_stand : (text : List ℕ) (front : List PositionV) (rest : List ℕ) → PositionsRead text front rest
    → BeginsNoPosition rest → Stands ArePositions BeginsNoPosition (flat_map position_text) text front rest
positions_stand text front rest read never = record { is = read.are; may = never; spelled = read.spelled }

-- no node yet
pub no_nodes_read : (text : List ℕ) → NodesRead text [] text
no_nodes_read text = record { spelled = refl; are = record { few = omega arith; nodes = tt }; may = λ some. absurd (omega arith); few = omega arith }

-- one node more
pub node_read : (text : List ℕ) (front : List NodeV) (rest behind : List ℕ) (next : NodeV)
    → NodesRead text front rest → length front < 16384 → Stands IsNode BeginsNoPosition (node_text (length front))
    rest next behind → NodesRead text (front ++ next ∷ []) behind
node_read text front rest behind next read room stands =
    record {
      spelled =
          read.spelled ∙ ap (λ l. nodes_text 0 front ++ l) (stands.spelled ∙ ap (λ i. node_text i next ++ behind) (omega arith))
          ∙ sym (append_assoc (nodes_text 0 front) (node_text (0 + length front) next) behind) ∙ ap (λ l. l ++ behind) (sym (nodes_text-push 0 front next));
      are = node_pushed front next read.are room stands.is;
      may = λ _. stands.may;
      few = omega (arith, read.few, ap length stands.spelled, length-append (node_text (length front) next) behind);
    }

-- what is left of a text when all nodes are told
nodes_left : (text : List ℕ) (front c : List NodeV) (rest : List ℕ) → NodesRead text front rest → IsCertificate c
    → text ≡ nodes_text 0 c → NodesGoOn 0 front c rest
nodes_left text front c rest read is same = nodes_go_on 0 front c rest read.are.nodes is.nodes read.may (sym read.spelled ∙ same)

-- something stands behind as many nodes as may be
pub no_more_nodes : (text : List ℕ) (front : List NodeV) (rest : List ℕ)
    → NodesRead text front rest → 16384 ≤ length front → (rest ≡ [] → ⊥) → (c : List NodeV)
    → IsCertificate c → text ≡ nodes_text 0 c → ⊥
no_more_nodes text front rest read full some c is same = by_tail on.tail on.is on.spelled
  where
    on : NodesGoOn 0 front c rest
    on = nodes_left text front c rest read is same

    by_tail : (tail : List NodeV) → c ≡ front ++ tail → rest ≡ nodes_text (0 + length front) tail → ⊥
    by_tail [] is' spelled = some spelled
    by_tail (n ∷ tail) is' spelled = omega (arith, is.few, ap length is', length-append front (n ∷ tail))

-- something stands there that is no node
pub no_next_node : (text : List ℕ) (front : List NodeV) (rest : List ℕ) → NodesRead text front rest → (rest ≡ [] → ⊥)
    → Lacks IsNode BeginsNoPosition (node_text (length front)) rest → (c : List NodeV)
    → IsCertificate c → text ≡ nodes_text 0 c → ⊥
no_next_node text front rest read some lacks c is same = by_tail on.tail on.each on.spelled
  where
    on : NodesGoOn 0 front c rest
    on = nodes_left text front c rest read is same

    by_tail : (tail : List NodeV) → AllByRecursion IsNode tail → rest ≡ nodes_text (0 + length front) tail → ⊥
    by_tail [] each spelled = some spelled
    by_tail (n ∷ tail) each spelled =
        lacks n (nodes_text (suc (0 + length front)) tail) (record {
          is = each.0;
          may = nodes_begin (suc (0 + length front)) tail;
          spelled = spelled ∙ ap (λ i. node_text i n ++ nodes_text (suc (0 + length front)) tail) (omega arith);
        })

-- nodes have texts of their own
pub nodes_tell : (ms ns : List NodeV) → AllByRecursion IsNode ms → AllByRecursion IsNode ns → nodes_text 0 ms ≡ nodes_text 0 ns → ms ≡ ns
nodes_tell ms ns each each' same = by_tail on.tail on.is on.spelled
  where
    on : NodesGoOn 0 ms ns []
    on = nodes_go_on 0 ms ns [] each each' (λ _. nodes_begin 0 []) (append-nil (nodes_text 0 ms) ∙ same)

    by_tail : (tail : List NodeV) → ns ≡ ms ++ tail → [] ≡ nodes_text (0 + length ms) tail → ms ≡ ns
    by_tail [] is spelled = sym (is ∙ append-nil ms)
    by_tail (n ∷ tail) is spelled =
        absurd (let clash : [] ≡ 110 ∷ codes "ode " ++ (decimal (0 + length ms) ++ behind_name n
        (nodes_text (suc (0 + length ms)) tail)) = spelled ∙ node_parts (0 + length ms) n
        (nodes_text (suc (0 + length ms)) tail) in cc)
