-- What is known of the members of an object that was read, and the tree that it shows.
use Rattle.std.proofs.Common.{◌≡◌, ℕ, ◌+◌, ◌<◌, ◌≤◌, ◌⊎◌, inl, inr, Bool, true, false, List, [], ◌∷◌, codes, Option, Some, None, refl, sym, ap, ◌∙◌, subst, arith}
use Rattle.std.proofs.Common.{Ordering, Less, Equal, Greater}
use Rattle.std.specs.Ordering.{nat_cmp, match_ordering}
use Rattle.std.specs.Cmp.Lexicographic.{slice_cmp}
use Rattle.std.proofs.lemmas.Map.Lookups.{exact_bytes}
use Rattle.csn_desc.specs.TreeV.{TreeV}
use Rattle.csn_treetext.specs.declared.bounds.TheConstants.{MOST_LEVELS}
use Rattle.serde_json.specs.Data.{Data, object, string, number, unsigned, Members, no_members, member, put}
use Rattle.csn_json.specs.declared.tag.Tag.{Tag}
use Rattle.csn_json.specs.declared.tag.Tag.TheVariants.{Numbered, Labelled}
use Rattle.csn_json.specs.declared.members.Member.{Member}
use Rattle.csn_json.specs.declared.members.Member.TheVariants.{Absent, Unfit, Fit}
use Rattle.csn_json.specs.declared.members.Members as read
use Rattle.csn_json.specs.declared.piece.Piece.TheVariants as piece
use Rattle.csn_json.specs.JsonTree.{tagged}
use Rattle.csn_json.specs.Reading.{IsShown, IsTag, with_tag}
use Rattle.csn_json.specs.Pieces.{inside, ShowsNoTree, Tells, TellsTree, TellsTag, TellsMember, three, HasOther, AreThree, HasMembers, if_other, one_of, fitting}
use Rattle.csn_json.proofs.Refusals.{Tagged, members_of, shown_with_tag, no_room}
use Rattle.csn_json.proofs.Pieces.{inside_is, no_tag_object}

-- ---- a member that is put where none but the three are

pub put_alternative : (d : Data) (a l t : Option Data) → put (codes "alt") d (three a l t) ≡ three (Some d) l t
put_alternative d None None None = refl
put_alternative d None None (Some z) = refl
put_alternative d None (Some y) t = refl
put_alternative d (Some x) l t = refl

pub put_label : (d : Data) (a l t : Option Data) → put (codes "label") d (three a l t) ≡ three a (Some d) t
put_label d None None None = refl
put_label d None None (Some z) = refl
put_label d None (Some y) t = refl
put_label d (Some x) None None = refl
put_label d (Some x) None (Some z) = refl
put_label d (Some x) (Some y) t = refl

pub put_tree : (d : Data) (a l t : Option Data) → put (codes "tree") d (three a l t) ≡ three a l (Some d)
put_tree d None None None = refl
put_tree d None None (Some z) = refl
put_tree d None (Some y) None = refl
put_tree d None (Some y) (Some z) = refl
put_tree d (Some x) None None = refl
put_tree d (Some x) None (Some z) = refl
put_tree d (Some x) (Some y) None = refl
put_tree d (Some x) (Some y) (Some z) = refl

-- ---- a member with another key

abbrev IsOther : List ℕ → Type 0
IsOther key = ¬ (key ≡ codes "alt") × ¬ (key ≡ codes "label") × ¬ (key ≡ codes "tree")

put_in : (key l : List ℕ) (d e : Data) (ms later : Members) → IsOther key → HasOther later → (o : Ordering) → slice_cmp nat_cmp key l ≡ o
    → HasOther (match_ordering o (member key d (member l e ms)) (member l d ms) (member l e later))
put_in key l d e ms later other has Less is = inl other
put_in key l d e ms later other has Equal is = inl (subst IsOther (exact_bytes key l is) other)
put_in key l d e ms later other has Greater is = inr has

pub other_put : (key : List ℕ) (d : Data) (ms : Members) → IsOther key → HasOther (put key d ms)
other_put key d no_members other = inl other
other_put key d (member l e ms) other = put_in key l d e ms (put key d ms) other (other_put key d ms other) (slice_cmp nat_cmp key l) refl

stays_in : (key l : List ℕ) (d e : Data) (ms later : Members) → HasOther (member l e ms) → (HasOther ms → HasOther later) → (o : Ordering)
    → HasOther (match_ordering o (member key d (member l e ms)) (member l d ms) (member l e later))
stays_in key l d e ms later has more Less = inr has
stays_in key l d e ms later (inl here) more Equal = inl here
stays_in key l d e ms later (inr behind) more Equal = inr behind
stays_in key l d e ms later (inl here) more Greater = inl here
stays_in key l d e ms later (inr behind) more Greater = inr (more behind)

pub other_stays : (key : List ℕ) (d : Data) (ms : Members) → HasOther ms → HasOther (put key d ms)
other_stays key d no_members has = elim has [ ]
other_stays key d (member l e ms) has = stays_in key l d e ms (put key d ms) has (λ behind. other_stays key d ms behind) (slice_cmp nat_cmp key l)

-- ---- what an object shows

known_key : (key : List ℕ) (of : Data) (tag : Tag) → IsTag key of tag → (key ≡ codes "alt") ⊎ (key ≡ codes "label")
known_key key of (Numbered j) is = inl is.0
known_key key of (Labelled l) is = inr is.0

not_tagged : (key : List ℕ) (of tree : Data) (ms : Members) → (key ≡ codes "alt") ⊎ (key ≡ codes "label")
    → object ms ≡ tagged key of tree → HasOther ms → ⊥
not_tagged key of tree ms known is has =
    let same : ms ≡ member key of (member (codes "tree") tree no_members) = cc in
    go known (subst HasOther same has)
  where
    go : (key ≡ codes "alt") ⊎ (key ≡ codes "label") → HasOther (member key of (member (codes "tree") tree no_members)) → ⊥
    go (inl alt) (inl other) = other.0 alt
    go (inr label) (inl other) = other.1 label
    go k (inr (inl other)) = other.2 refl
    go k (inr (inr never)) = never

pub other_shows_none : (round : ℕ) (ms : Members) → HasOther ms → ShowsNoTree round (object ms)
other_shows_none round ms has t is =
    let found = members_of round ms t is in
    let tag = found.4 in
    not_tagged found.0 found.1 found.2 ms (known_key found.0 found.1 tag.tag tag.is_tag) found.3 has

-- the two members of an object that shows a tree
data AreTwo (round : ℕ) : Option Data → Option Data → Option Data → Type 0 where
  numbered : {a l t : Option Data} (of tree : Data) → a ≡ Some of → l ≡ None → t ≡ Some tree → Tagged round (codes "alt") of tree → AreTwo round a l t
  labelled : {a l t : Option Data} (of tree : Data) → a ≡ None → l ≡ Some of → t ≡ Some tree → Tagged round (codes "label") of tree → AreTwo round a l t

numbered_two : (round : ℕ) (of tree : Data) (a l t : Option Data) → three a l t ≡ member (codes "alt") of (member (codes "tree") tree no_members)
    → Tagged round (codes "alt") of tree → AreTwo round a l t
numbered_two round of tree (Some x) None (Some z) is tag = numbered of tree (let e = is in cc) refl (let e = is in cc) tag
numbered_two round of tree (Some x) None None is tag = absurd (let e = is in cc)
numbered_two round of tree (Some x) (Some y) None is tag = absurd (let e = is in cc)
numbered_two round of tree (Some x) (Some y) (Some z) is tag = absurd (let e = is in cc)
numbered_two round of tree None None None is tag = absurd (let e = is in cc)
numbered_two round of tree None None (Some z) is tag = absurd (let e = is in cc)
numbered_two round of tree None (Some y) None is tag = absurd (let e = is in cc)
numbered_two round of tree None (Some y) (Some z) is tag = absurd (let e = is in cc)

labelled_two : (round : ℕ) (of tree : Data) (a l t : Option Data) → three a l t ≡ member (codes "label") of (member (codes "tree") tree no_members)
    → Tagged round (codes "label") of tree → AreTwo round a l t
labelled_two round of tree None (Some y) (Some z) is tag = labelled of tree refl (let e = is in cc) (let e = is in cc) tag
labelled_two round of tree None (Some y) None is tag = absurd (let e = is in cc)
labelled_two round of tree None None None is tag = absurd (let e = is in cc)
labelled_two round of tree None None (Some z) is tag = absurd (let e = is in cc)
labelled_two round of tree (Some x) None None is tag = absurd (let e = is in cc)
labelled_two round of tree (Some x) None (Some z) is tag = absurd (let e = is in cc)
labelled_two round of tree (Some x) (Some y) None is tag = absurd (let e = is in cc)
labelled_two round of tree (Some x) (Some y) (Some z) is tag = absurd (let e = is in cc)

are_two : (round : ℕ) (a l t : Option Data) (tree : TreeV) → IsShown round (object (three a l t)) tree → AreTwo round a l t
are_two round a l t tree is =
    let found = members_of round (three a l t) tree is in
    go found.0 found.1 found.2 found.3 found.4 (known_key found.0 found.1 found.4.tag found.4.is_tag)
  where
    go : (key : List ℕ) (of inner : Data) → object (three a l t) ≡ tagged key of inner → Tagged round key of inner
        → (key ≡ codes "alt") ⊎ (key ≡ codes "label") → AreTwo round a l t
    go key of inner same tag (inl alt) =
        numbered_two round of inner a l t (let e : object (three a l t) ≡ tagged (codes "alt") of inner = same ∙ ap (λ k. tagged k of inner) alt in cc)
        (subst (λ k. Tagged round k of inner) alt tag)
    go key of inner same tag (inr label) =
        labelled_two round of inner a l t (let e : object (three a l t) ≡ tagged (codes "label") of inner = same ∙ ap (λ k. tagged k of inner) label in cc)
        (subst (λ k. Tagged round k of inner) label tag)

-- ---- what a member tells

fit_there : {T : Type 0} (P : Option T → Data → Type 0) (m : Member T) (o : Option Data) (x : T) → m ≡ Fit x → TellsMember P m o
    → (d : Data) × (o ≡ Some d) × P (Some x) d
fit_there P Absent o x is tells = absurd (cc)
fit_there P Unfit o x is tells = absurd (cc)
fit_there P (Fit y) None x is tells = absurd tells
fit_there P (Fit y) (Some d) x is tells = let same : y ≡ x = cc in (d, refl, subst (λ z. P (Some z) d) same tells)

absent_there : {T : Type 0} (P : Option T → Data → Type 0) (m : Member T) (o : Option Data) → m ≡ Absent → TellsMember P m o → o ≡ None
absent_there P Absent None is tells = refl
absent_there P Absent (Some d) is tells = absurd tells
absent_there P Unfit o is tells = absurd (cc)
absent_there P (Fit y) o is tells = absurd (cc)

some_there : {T : Type 0} (P : Option T → Data → Type 0) (m : Member T) (o : Option Data) (d : Data) → o ≡ Some d → TellsMember P m o
    → (P None d → ⊥) → (x : T) × (m ≡ Fit x)
some_there P Absent None d is tells fits = absurd (cc)
some_there P Absent (Some e) d is tells fits = absurd tells
some_there P Unfit None d is tells fits = absurd tells
some_there P Unfit (Some e) d is tells fits = let same : e ≡ d = cc in absurd (fits (subst (λ z. P None z) same tells))
some_there P (Fit y) o d is tells fits = (y, refl)

none_there : {T : Type 0} (P : Option T → Data → Type 0) (m : Member T) (o : Option Data) → o ≡ None → TellsMember P m o → m ≡ Absent
none_there P Absent o is tells = refl
none_there P Unfit None is tells = absurd tells
none_there P Unfit (Some d) is tells = absurd (cc)
none_there P (Fit y) None is tells = absurd tells
none_there P (Fit y) (Some d) is tells = absurd (cc)

one_of_is : (x y : Member Tag) (tag : Tag) → one_of x y ≡ Some tag → ((x ≡ Fit tag) × (y ≡ Absent)) ⊎ ((x ≡ Absent) × (y ≡ Fit tag))
one_of_is Absent Absent tag is = absurd (cc)
one_of_is Absent Unfit tag is = absurd (cc)
one_of_is Absent (Fit k) tag is = inr (refl, (let same : k ≡ tag = cc in ap (λ z. Fit z) same))
one_of_is Unfit y tag is = absurd (cc)
one_of_is (Fit k) Absent tag is = inl ((let same : k ≡ tag = cc in ap (λ z. Fit z) same), refl)
one_of_is (Fit k) Unfit tag is = absurd (cc)
one_of_is (Fit k) (Fit j) tag is = absurd (cc)

abbrev given : {A : Type 0} → A → Option A → A
given d None = d
given d (Some a) = a

abbrev known : Bool → Member Tag → Member Tag → Member TreeV → read.Members
known other a l t = record { other = other; alternative = a; label = l; tree = t }

fitting_of : (m : read.Members) (x y : Member Tag) (z : Member TreeV) → m.alternative ≡ x → m.label ≡ y → m.tree ≡ z → fitting m ≡ fitting (known m.other x y z)
fitting_of m x y z p q r =
    ap (λ v. fitting (known m.other v m.label m.tree)) p ∙ ap (λ v. fitting (known m.other x v m.tree)) q ∙ ap (λ v. fitting (known m.other x y v)) r

three_of : (a l t b k u : Option Data) → a ≡ b → l ≡ k → t ≡ u → three a l t ≡ three b k u
three_of a l t b k u p q r = ap (λ x. three x l t) p ∙ ap (λ x. three b x t) q ∙ ap (λ x. three b k x) r

fitting_is : (m : read.Members) (tag : Tag) (tree : TreeV) → fitting m ≡ Some (tag, tree) → (one_of m.alternative m.label ≡ Some tag) × (m.tree ≡ Fit tree)
fitting_is m tag tree is = go (one_of m.alternative m.label) m.tree refl refl
  where
    go : (o : Option Tag) (z : Member TreeV) → one_of m.alternative m.label ≡ o → m.tree ≡ z → (one_of m.alternative m.label ≡ Some tag) × (m.tree ≡ Fit tree)
    go o Absent one at = absurd (let e : fitting m ≡ None = rw (one, at) refl in cc)
    go o Unfit one at = absurd (let e : fitting m ≡ None = rw (one, at) refl in cc)
    go None (Fit u) one at = absurd (let e : fitting m ≡ None = rw (one, at) refl in cc)
    go (Some k) (Fit u) one at =
        let e : fitting m ≡ Some (k, u) = rw (one, at) refl in
        let both : (k, u) ≡ (tag, tree) = ap (given (k, u)) (sym e ∙ is) in
        let same : k ≡ tag = ap (λ p. p.0) both in
        let own : u ≡ tree = ap (λ p. p.1) both in
        (one ∙ ap (λ z. Some z) same, at ∙ ap (λ z. Fit z) own)

-- ---- what was read

module _ (round : ℕ) (low : round < MOST_LEVELS) (m : read.Members) (all : Members) (are : AreThree (inside round) m all) where
  -- the two members tell a tree
  tag_shown : (key : List ℕ) (of inner : Data) (tag : Tag) (t : TreeV)
      → IsTag key of tag → IsShown (inside round) inner t → IsShown round (tagged key of inner) (with_tag tag t)
  tag_shown key of inner tag t is below = shown_with_tag round key of inner tag t is (subst (λ n. IsShown n inner t) (inside_is round low) below)

  pub fitting_shown : (tag : Tag) (tree : TreeV) → fitting m ≡ Some (tag, tree) → IsShown round (object all) (with_tag tag tree)
  fitting_shown tag tree is = by_one (one_of_is m.alternative m.label tag both.0)
    where
      both : (one_of m.alternative m.label ≡ Some tag) × (m.tree ≡ Fit tree)
      both = fitting_is m tag tree is

      by_one : ((m.alternative ≡ Fit tag) × (m.label ≡ Absent)) ⊎ ((m.alternative ≡ Absent) × (m.label ≡ Fit tag)) → IsShown round (object all) (with_tag tag tree)
      by_one (inl h) =
          let of = fit_there (TellsTag (codes "alt")) m.alternative are.alternative tag h.0 are.tells_alternative in
          let absent = absent_there (TellsTag (codes "label")) m.label are.label h.1 are.tells_label in
          let inner = fit_there (TellsTree (inside round)) m.tree are.tree tree both.1 are.tells_tree in
          let two : three are.alternative are.label are.tree ≡ three (Some of.0) None (Some inner.0) =
          three_of are.alternative are.label are.tree (Some of.0) None (Some inner.0) of.1 absent inner.1 in
          subst (λ d. IsShown round d (with_tag tag tree)) (sym (ap (λ ms. object ms) (are.same ∙ two))) (tag_shown (codes "alt") of.0 inner.0 tag tree of.2 inner.2)
      by_one (inr h) =
          let of = fit_there (TellsTag (codes "label")) m.label are.label tag h.1 are.tells_label in
          let absent = absent_there (TellsTag (codes "alt")) m.alternative are.alternative h.0 are.tells_alternative in
          let inner = fit_there (TellsTree (inside round)) m.tree are.tree tree both.1 are.tells_tree in
          let two : three are.alternative are.label are.tree ≡ three None (Some of.0) (Some inner.0) =
          three_of are.alternative are.label are.tree None (Some of.0) (Some inner.0) absent of.1 inner.1 in
          subst (λ d. IsShown round d (with_tag tag tree)) (sym (ap (λ ms. object ms) (are.same ∙ two))) (tag_shown (codes "label") of.0 inner.0 tag tree of.2 inner.2)

  below : (inner : Data) → (t : TreeV) → IsShown (round + 1) inner t → TellsTree (inside round) None inner → ⊥
  below inner t is none = none t (subst (λ n. IsShown n inner t) (sym (inside_is round low)) is)

  pub none_shown : fitting m ≡ None → ShowsNoTree round (object all)
  none_shown nothing t is = by_two (are_two round are.alternative are.label are.tree t (subst (λ ms. IsShown round (object ms) t) are.same is))
    where
      by_two : AreTwo round are.alternative are.label are.tree → ⊥
      by_two (numbered of inner a l z tag) =
          let x = some_there (TellsTag (codes "alt")) m.alternative are.alternative of a are.tells_alternative (λ none. none tag.tag tag.is_tag) in
          let y = none_there (TellsTag (codes "label")) m.label are.label l are.tells_label in
          let u = some_there (TellsTree (inside round)) m.tree are.tree inner z are.tells_tree (below inner tag.tree tag.below) in
          let e : fitting m ≡ Some (x.0, u.0) = fitting_of m (Fit x.0) Absent (Fit u.0) x.1 y u.1 in
          absurd (cc)
      by_two (labelled of inner a l z tag) =
          let x = none_there (TellsTag (codes "alt")) m.alternative are.alternative a are.tells_alternative in
          let y = some_there (TellsTag (codes "label")) m.label are.label of l are.tells_label (λ none. none tag.tag tag.is_tag) in
          let u = some_there (TellsTree (inside round)) m.tree are.tree inner z are.tells_tree (below inner tag.tree tag.below) in
          let e : fitting m ≡ Some (y.0, u.0) = fitting_of m Absent (Fit y.0) (Fit u.0) x y.1 u.1 in
          absurd (cc)

-- ---- a member that is put

pub member_told : {T : Type 0} (P : Option T → Data → Type 0) (found : Option T) (m : Member T) (d : Data)
    → ((t : T) → found ≡ Some t → m ≡ Fit t) → (found ≡ None → m ≡ Unfit) → P found d → TellsMember P m (Some d)
member_told P None m d fit unfit so = subst (λ x. TellsMember P x (Some d)) (sym (unfit refl)) so
member_told P (Some t) m d fit unfit so = subst (λ x. TellsMember P x (Some d)) (sym (fit t refl)) so

pub alternative_put : (round : ℕ) (other : Bool) (a l x : Member Tag) (t : Member TreeV) (all : Members) (key : List ℕ) (d : Data) → key ≡ codes "alt"
    → TellsMember (TellsTag (codes "alt")) x (Some d) → HasMembers round (known other a l t) all → HasMembers round (known other x l t) (put key d all)
alternative_put round true a l x t all key d is tells has = other_stays key d all has
alternative_put round false a l x t all key d is tells has =
    record {
      alternative = Some d;
      label = has.label;
      tree = has.tree;
      same = ap (λ k. put k d all) is ∙ ap (λ ms. put (codes "alt") d ms) has.same ∙ put_alternative d has.alternative has.label has.tree;
      tells_alternative = tells;
      tells_label = has.tells_label;
      tells_tree = has.tells_tree;
    }

pub label_put : (round : ℕ) (other : Bool) (a l x : Member Tag) (t : Member TreeV) (all : Members) (key : List ℕ) (d : Data) → key ≡ codes "label"
    → TellsMember (TellsTag (codes "label")) x (Some d) → HasMembers round (known other a l t) all → HasMembers round (known other a x t) (put key d all)
label_put round true a l x t all key d is tells has = other_stays key d all has
label_put round false a l x t all key d is tells has =
    record {
      alternative = has.alternative;
      label = Some d;
      tree = has.tree;
      same = ap (λ k. put k d all) is ∙ ap (λ ms. put (codes "label") d ms) has.same ∙ put_label d has.alternative has.label has.tree;
      tells_alternative = has.tells_alternative;
      tells_label = tells;
      tells_tree = has.tells_tree;
    }

pub tree_put : (round : ℕ) (other : Bool) (a l : Member Tag) (t x : Member TreeV) (all : Members) (key : List ℕ) (d : Data) → key ≡ codes "tree"
    → TellsMember (TellsTree round) x (Some d) → HasMembers round (known other a l t) all → HasMembers round (known other a l x) (put key d all)
tree_put round true a l t x all key d is tells has = other_stays key d all has
tree_put round false a l t x all key d is tells has =
    record {
      alternative = has.alternative;
      label = has.label;
      tree = Some d;
      same = ap (λ k. put k d all) is ∙ ap (λ ms. put (codes "tree") d ms) has.same ∙ put_tree d has.alternative has.label has.tree;
      tells_alternative = has.tells_alternative;
      tells_label = has.tells_label;
      tells_tree = tells;
    }

-- ---- the object

of_other : (round : ℕ) (m : read.Members) (all : Members) → m.other ≡ true → HasMembers round m all → HasOther all
of_other round m all is has = subst (λ b. if_other b (HasOther all) (AreThree round m all)) is has

of_three : (round : ℕ) (m : read.Members) (all : Members) → m.other ≡ false → HasMembers round m all → AreThree round m all
of_three round m all is has = subst (λ b. if_other b (HasOther all) (AreThree round m all)) is has

pub other_told : (round : ℕ) (m : read.Members) (all : Members) → m.other ≡ true → HasMembers (inside round) m all → Tells round piece.Nothing (object all)
other_told round m all is has = (other_shows_none round all (of_other (inside round) m all is has), no_tag_object all)

pub full_told : (round : ℕ) (all : Members) → round ≡ MOST_LEVELS → Tells round piece.Nothing (object all)
full_told round all is = ((λ t shown. no_room round (object all) is t shown), no_tag_object all)

pub none_told : (round : ℕ) (m : read.Members) (all : Members) → round < MOST_LEVELS → m.other ≡ false → fitting m ≡ None → HasMembers (inside round) m all
    → Tells round piece.Nothing (object all)
none_told round m all low is nothing has = (none_shown round low m all (of_three (inside round) m all is has) nothing, no_tag_object all)

pub fitting_told : (round : ℕ) (m : read.Members) (all : Members) (tag : Tag) (tree : TreeV) → round < MOST_LEVELS → m.other ≡ false
    → fitting m ≡ Some (tag, tree) → HasMembers (inside round) m all → Tells round (piece.Tree (with_tag tag tree)) (object all)
fitting_told round m all tag tree low is fits has =
    (fitting_shown round low m all (of_three (inside round) m all is has) tag tree fits, no_tag_object all)
