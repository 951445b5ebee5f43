-- Facts about what contracts see of nodes that are made, and of labelled items that are seen with their nodes.
use Rattle.std.proofs.Common.{◌≡◌, ℕ, zero, suc, true, false, List, [], ◌∷◌, ◌++◌, length, min, take, slice_get, set}
use Rattle.std.proofs.Common.{Some, None, refl, sym, ◌∙◌, ap, rules, arith}
use Rattle.std.specs.Prelude.{if◌then◌else◌}
use Rattle.std.specs.Borrow.{Bor}
use Rattle.csn_desc.specs.declared.node.Node.{Node}
use Rattle.csn_desc.specs.declared.reading.Reading.{Reading}
use Rattle.csn_grammar.specs.declared.expr.Span.{Span}
use Rattle.csn_grammar.specs.declared.expr.Form.{Form}
use Rattle.csn_grammar.specs.declared.expr.Form.TheVariants.{Lits, Null, Bit, Octet, Name, Labelled, Group, Seq, Choice, Power, Cut, Both, Sends}
use Rattle.csn_grammar.specs.FormView.{expr_view}
use Rattle.csn_grammar.specs.Forms.{is_bit}
use Rattle.csn_grammar.specs.ExprV.{ExprV}
use Rattle.csn_grammar.specs.Environment.{label_of}
use Rattle.csn_grammar.specs.Names.{same_name}
use Rattle.csn_resolve.specs.declared.shown.Shown as s
use Rattle.csn_resolve.specs.Seen.{Frame, with_labelled, seen_in}
use Rattle.csn_resolve.specs.Gives.{Placed, placed}
use Rattle.csn_resolve.specs.Resolved.{nodes_of}
use Rattle.csn_resolve.specs.Made.{paired, frame_before, shown_view}

-- ---- nodes with their places

pub paired_long : (nodes : List Node) (places : List ℕ) → length nodes ≡ length places → length (paired nodes places) ≡ length nodes
paired_long [] places p = refl
paired_long (n ∷ nodes) [] p = absurd (omega (arith, p))
paired_long (n ∷ nodes) (place ∷ places) p =
    let inner = paired_long nodes places (omega (arith, p)) in omega (arith, inner)

pub paired_push :
    (nodes : List Node) (places : List ℕ) (n : Node) (place : ℕ) → length nodes ≡ length places
    → paired (nodes ++ n ∷ []) (places ++ place ∷ []) ≡ paired nodes places ++ placed n place ∷ []
paired_push [] [] n place p = refl
paired_push [] (other ∷ places) n place p = absurd (omega (arith, p))
paired_push (m ∷ nodes) [] n place p = absurd (omega (arith, p))
paired_push (m ∷ nodes) (other ∷ places) n place p =
    ap (λ l. placed m other ∷ l) (paired_push nodes places n place (omega (arith, p)))

pub paired_nodes : (nodes : List Node) (places : List ℕ) → length nodes ≡ length places → nodes_of (paired nodes places) ≡ nodes
paired_nodes [] places p = refl
paired_nodes (n ∷ nodes) [] p = absurd (omega (arith, p))
paired_nodes (n ∷ nodes) (place ∷ places) p = ap (λ l. n ∷ l) (paired_nodes nodes places (omega (arith, p)))

-- the place of a node
pub paired_at :
    (nodes : List Node) (places : List ℕ) (i place : ℕ) → length nodes ≡ length places → slice_get places i ≡ Some place
    → (field : Placed) × (slice_get (paired nodes places) i ≡ Some field) × (place ≡ field.place)
paired_at nodes [] i place p h = absurd (cc)
paired_at [] (other ∷ places) i place p h = absurd (omega (arith, p))
paired_at (n ∷ nodes) (other ∷ places) zero place p h = let same : other ≡ place = cc in (placed n other, refl, sym same)
paired_at (n ∷ nodes) (other ∷ places) (suc i) place p h = paired_at nodes places i place (omega (arith, p)) h

no_piece : (before after : List Placed) (other : Placed) → [] ≡ before ++ other ∷ after → ⊥
no_piece [] after other p = cc
no_piece (x ∷ before) after other p = cc

same_placed : {x y : Placed} {xs ys : List Placed} → x ∷ xs ≡ y ∷ ys → x ≡ y
same_placed p = cc

same_later : {x y : Placed} {xs ys : List Placed} → x ∷ xs ≡ y ∷ ys → xs ≡ ys
same_later p = cc

pub paired_set :
    (nodes : List Node) (places : List ℕ) (i : ℕ) (n : Node) (before after : List Placed) (other : Placed)
    → paired nodes places ≡ before ++ other ∷ after → i ≡ length before
    → paired (set nodes i n) places ≡ before ++ placed n other.place ∷ after
paired_set [] places i n before after other p here = absurd (no_piece before after other p)
paired_set (m ∷ nodes) [] i n before after other p here = absurd (no_piece before after other p)
paired_set (m ∷ nodes) (place ∷ places) zero n [] after other p here =
    let place_is : place ≡ other.place = ap (λ z. z.place) (same_placed p) in
    let later = same_later p in
    ap (λ z. placed n z ∷ paired nodes places) place_is ∙ ap (λ l. placed n other.place ∷ l) later
paired_set (m ∷ nodes) (place ∷ places) (suc i) n [] after other p here = absurd (omega (arith, here))
paired_set (m ∷ nodes) (place ∷ places) zero n (x ∷ before) after other p here = absurd (omega (arith, here))
paired_set (m ∷ nodes) (place ∷ places) (suc i) n (x ∷ before) after other p here =
    let first : placed m place ≡ x = same_placed p in
    let later = paired_set nodes places i n before after other (same_later p) (omega (arith, here)) in
    ap (λ l. placed m place ∷ l) later ∙ ap (λ z. z ∷ (before ++ placed n other.place ∷ after)) first

-- ---- labelled items

pub shown-Behind :
    (r : Reading) (items : Bor (List ExprV)) (nodes : Bor (List ℕ)) (outer : Bor s.Shown)
    → shown_view r (s.Behind items nodes outer) ≡ frame_before r [] items.now nodes.now ∷ shown_view r outer.now
shown-Behind r items nodes outer = search (rules, s.the_lemmas)

pub shown-Nothing : (r : Reading) → shown_view r s.Nothing ≡ []
shown-Nothing r = search (rules, s.the_lemmas)

module _ (r : Reading) where
  pub no-nodes : (frame : Frame ℕ) (xs : List ExprV) → frame_before r frame xs [] ≡ frame
  no-nodes frame [] = refl
  no-nodes frame (x ∷ xs) = refl

  -- a frame with one item more
  pub frame-push :
      (frame : Frame ℕ) (xs : List ExprV) (nodes : List ℕ) (x : ExprV) (node : ℕ) → slice_get xs (length nodes) ≡ Some x
      → frame_before r frame xs (nodes ++ node ∷ []) ≡ with_labelled (label_of r x) node (frame_before r frame xs nodes)
  frame-push frame [] nodes x node h = absurd (cc)
  frame-push frame (y ∷ xs) [] x node h =
      let same : y ≡ x = cc in
      no-nodes (with_labelled (label_of r y) node frame) xs ∙ ap (λ z. with_labelled (label_of r z) node frame) same
  frame-push frame (y ∷ xs) (m ∷ nodes) x node h = frame-push (with_labelled (label_of r y) m frame) xs nodes x node h

  -- the first few items with nodes, and one item more
  frame-next :
      (frame : Frame ℕ) (xs : List ExprV) (nodes : List ℕ) (at : ℕ) (x : ExprV) (node : ℕ) → slice_get xs at ≡ Some x → slice_get nodes at ≡ Some node
      → frame_before r frame (take (suc at) xs) (take (suc at) nodes) ≡ with_labelled (label_of r x) node (frame_before r frame (take at xs) (take at nodes))
  frame-next frame [] nodes at x node h g = absurd (cc)
  frame-next frame (y ∷ xs) [] at x node h g = absurd (cc)
  frame-next frame (y ∷ xs) (m ∷ nodes) zero x node h g =
      let same : y ≡ x = cc in
      let same_node : m ≡ node = cc in
      ap (λ z. with_labelled (label_of r z) m frame) same ∙ ap (λ z. with_labelled (label_of r x) z frame) same_node
  frame-next frame (y ∷ xs) (m ∷ nodes) (suc at) x node h g = frame-next (with_labelled (label_of r y) m frame) xs nodes at x node h g

  frame-more :
      (xs : List ExprV) (nodes : List ℕ) (at more : ℕ) (x : ExprV) (node : ℕ) → more ≡ suc at → slice_get xs at ≡ Some x → slice_get nodes at ≡ Some node
      → frame_before r [] (take more xs) (take more nodes) ≡ with_labelled (label_of r x) node (frame_before r [] (take at xs) (take at nodes))
  frame-more xs nodes at more x node is h g =
      ap (λ k. frame_before r [] (take k xs) (take k nodes)) is ∙ frame-next [] xs nodes at x node h g

  pub frame-all :
      (frame : Frame ℕ) (xs : List ExprV) (nodes : List ℕ) (many : ℕ) → many ≡ min (length nodes) (length xs)
      → frame_before r frame (take many xs) (take many nodes) ≡ frame_before r frame xs nodes
  frame-all frame [] nodes zero is = refl
  frame-all frame [] nodes (suc many) is = absurd (omega (arith, is))
  frame-all frame (x ∷ xs) [] zero is = refl
  frame-all frame (x ∷ xs) [] (suc many) is = absurd (omega (arith, is))
  frame-all frame (x ∷ xs) (m ∷ nodes) zero is = absurd (omega (arith, is))
  frame-all frame (x ∷ xs) (m ∷ nodes) (suc many) is =
      frame-all (with_labelled (label_of r x) m frame) xs nodes many (omega (arith, is))

  pub passed-by :
      (xs : List ExprV) (nodes : List ℕ) (at more : ℕ) (x : ExprV) (node : ℕ) (label : List ℕ)
      → more ≡ suc at → slice_get xs at ≡ Some x → slice_get nodes at ≡ Some node
      → label_of r x ≡ None
      → seen_in (frame_before r [] (take more xs) (take more nodes)) label ≡ seen_in (frame_before r [] (take at xs) (take at nodes)) label
  passed-by xs nodes at more x node label is h g none =
      ap (λ f. seen_in f label) (frame-more xs nodes at more x node is h g)
      ∙ ap (λ o. seen_in (with_labelled o node (frame_before r [] (take at xs) (take at nodes))) label) none

  pub other-label :
      (xs : List ExprV) (nodes : List ℕ) (at more : ℕ) (x : ExprV) (node : ℕ) (label other : List ℕ)
      → more ≡ suc at → slice_get xs at ≡ Some x → slice_get nodes at ≡ Some node
      → label_of r x ≡ Some other → same_name other label ≡ false
      → seen_in (frame_before r [] (take more xs) (take more nodes)) label ≡ seen_in (frame_before r [] (take at xs) (take at nodes)) label
  other-label xs nodes at more x node label other is h g some unlike =
      ap (λ f. seen_in f label) (frame-more xs nodes at more x node is h g)
      ∙ (ap (λ o. seen_in (with_labelled o node (frame_before r [] (take at xs) (take at nodes))) label) some
      ∙ ap (λ b. if b then Some node else seen_in (frame_before r [] (take at xs) (take at nodes)) label) unlike)

  pub has-label :
      (xs : List ExprV) (nodes : List ℕ) (at more : ℕ) (x : ExprV) (node : ℕ) (label other : List ℕ)
      → more ≡ suc at → slice_get xs at ≡ Some x → slice_get nodes at ≡ Some node
      → label_of r x ≡ Some other → same_name other label ≡ true
      → seen_in (frame_before r [] (take more xs) (take more nodes)) label ≡ Some node
  has-label xs nodes at more x node label other is h g some sure =
      ap (λ f. seen_in f label) (frame-more xs nodes at more x node is h g)
      ∙ (ap (λ o. seen_in (with_labelled o node (frame_before r [] (take at xs) (take at nodes))) label) some
      ∙ ap (λ b. if b then Some node else seen_in (frame_before r [] (take at xs) (take at nodes)) label) sure)

-- ---- a part that is not `bit`

pub not-bit : (span : Span) (form : Form) → (form ≡ Bit → ⊥) → is_bit (expr_view span form) ≡ false
not-bit span (Lits run) h = refl
not-bit span Null h = refl
not-bit span Bit h = absurd (h refl)
not-bit span Octet h = refl
not-bit span (Name label) h = refl
not-bit span (Labelled label part) h = refl
not-bit span (Group part) h = refl
not-bit span (Seq items) h = refl
not-bit span (Choice branches) h = refl
not-bit span (Power part count) h = refl
not-bit span (Cut items) h = refl
not-bit span (Both left right) h = refl
not-bit span (Sends left right) h = refl
